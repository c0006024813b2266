-- The tables of a station's first arrivals and of their postings.
use Rattle.std.proofs.Common.{◌≡◌, ◌<◌, ◌^◌, ◌++◌, ℕ, pos, List, [], ◌∷◌, map, Ok, Option, Some, refl, sym, ap, subst, ◌∙◌, arith, IsPermutation, None}
use Rattle.std.specs.List.{enumerate_from}
use Rattle.std.proofs.lemmas.List.{length-append, map-append}
use Rattle.sqlite.specs.declared.types.Value.TheVariants.{Int, Blob}
use Rattle.sqlite.specs.Cast.{cast_row}
use Rattle.sqlite.specs.Order.{Row}
use Rattle.sqlite.specs.State.{State, Executes}
use Rattle.sql_rows.specs.Keyed.{with_id}
use Rattle.sql_rows.proofs.Tests.{cast_int, cast_null}
use Rattle.sql_rows.proofs.Statements.{adds}
use Rattle.x12_acks.specs.Accepted.{AcceptedSet}
use Rattle.x12_envelopes.specs.declared.party.Party.{Party}
use Rattle.x12_station.specs.Stored.{Stored, StoredArrival}
use Rattle.x12_numbers.proofs.Shelf.{enumerate_push, all_and_one}
use Rattle.x12_tables.proofs.KeyLemmas.{places_rise}
use Rattle.x12_tables.specs.Party.{bytes_of_party, IsWideParty}
use Rattle.x12_station_records.proofs.StationCompile.{post_text, post_is, file_terms, file_text, file_is, post_terms}
use Rattle.x12_station_records.proofs.StationListLemmas.{behind_all}
use Rattle.x12_station_records.proofs.StationTableLemmas.{with_postings, inbound_is_free, posting_is_free, with_arrived}
use Rattle.x12_station_records.specs.StationChange.{with_posting, with_arrival, HasNextPosting, RisesBySeq}
use Rattle.x12_station_records.specs.StationSchema.{inbound, posting, station_schema}
use Rattle.x12_station_records.specs.StationTables.{reply_value, arrival_row, by_seq, posting_row, HasTables, IsWidePosting}

abbrev pub arrival_params : StoredArrival → Row
arrival_params r = Int (pos r.seq) ∷ Int (pos r.filed.icn) ∷ Blob (bytes_of_party r.filed.partner) ∷ reply_value r.filed.reply ∷ Blob r.filed.bytes ∷ []

abbrev pub posting_params : ℕ → AcceptedSet → Row
posting_params at p =
    Int (pos at) ∷ Int (pos p.key.icn) ∷ Int (pos p.key.group) ∷ Int (pos p.key.set) ∷ Blob (bytes_of_party p.key.sender) ∷ Blob p.functional ∷ Blob p.set ∷ Blob p.number ∷ Blob p.bytes ∷ []

casts : (seq icn : ℕ) (partner : Party) (bytes : List ℕ) (reply : Option (List ℕ)) → let r : StoredArrival = record { seq = seq; filed = record { partner = partner; icn = icn; bytes = bytes; reply = reply } } in cast_row (inbound 6) (with_id arrival_row (by_seq r)) ≡ with_id arrival_row (by_seq r)
casts seq icn partner bytes None = rw (cast_int seq, cast_null, cast_int icn) refl
casts seq icn partner bytes (Some reply) = rw (cast_int seq, cast_null, cast_int icn) refl

module _ (old new : State) (count bound : ℕ) (s : Stored) (has : HasTables bound old.now s) where
  pub files : (r : StoredArrival) → IsWideParty r.filed.partner → r.filed.icn < 2 ^ 32 → RisesBySeq r s → Executes file_text (arrival_params r) old new (Ok count) → HasTables bound new.now (with_arrival r s)
  files r two few rise h =
      let at = map by_seq s.arrived in
      let is : map by_seq (s.arrived ++ r ∷ []) ≡ at ++ by_seq r ∷ [] = map-append by_seq s.arrived (r ∷ []) in
      let moved : IsPermutation (by_seq r ∷ at) (map by_seq (s.arrived ++ r ∷ [])) = subst (IsPermutation (by_seq r ∷ at)) (sym is) (behind_all (by_seq r) at) in
      let did = adds file_text (arrival_params r) old new station_schema has.schema 4 (inbound 6) refl inbound_is_free file_is.1 (λ db. refl) arrival_row at has.arrived.are
      file_terms 6 (by_seq r) (map by_seq (s.arrived ++ r ∷ [])) refl refl (casts r.seq r.filed.icn r.filed.partner r.filed.bytes r.filed.reply) file_is.0 count h moved rise in
      with_arrived bound s old new has did.1 (s.arrived ++ r ∷ []) (record { are = did.0; parties = all_and_one (λ r. IsWideParty r.filed.partner) s.arrived r has.arrived.parties two; narrow = all_and_one (λ r. r.filed.icn < 2 ^ 32) s.arrived r has.arrived.narrow few })

  pub posts : (at : ℕ) (p : AcceptedSet) → IsWideParty p.key.sender → IsWidePosting p → at < 2 ^ 63 → HasNextPosting at s → Executes post_text (posting_params at p) old new (Ok count) → HasTables bound new.now (with_posting p s)
  posts at p two wide few next h =
      let is : enumerate_from 1 (s.postings ++ p ∷ []) ≡ enumerate_from 1 s.postings ++ (at, p) ∷ [] = enumerate_push 1 s.postings p ∙ ap (λ k. enumerate_from 1 s.postings ++ (k, p) ∷ []) (sym next) in
      let moved : IsPermutation ((at, p) ∷ enumerate_from 1 s.postings) (enumerate_from 1 (s.postings ++ p ∷ [])) = subst (IsPermutation ((at, p) ∷ enumerate_from 1 s.postings)) (sym is) (behind_all (at, p) (enumerate_from 1 s.postings)) in
      let did = adds post_text (posting_params at p) old new station_schema has.schema 5 (posting 8) refl posting_is_free post_is.1 (λ db. refl) posting_row (enumerate_from 1 s.postings) has.postings.are
      post_terms 10 (at, p) (enumerate_from 1 (s.postings ++ p ∷ [])) refl refl (rw (cast_int at, cast_null, cast_int p.key.icn, cast_int p.key.group, cast_int p.key.set) refl) post_is.0 count h moved (places_rise 0 1 (s.postings ++ p ∷ []) (omega arith)) in
      with_postings bound s old new has did.1 (s.postings ++ p ∷ []) (record { are = did.0; few = omega (arith, few, next, length-append s.postings (p ∷ [])); parties = all_and_one (λ p. IsWideParty p.key.sender) s.postings p has.postings.parties two; wide = all_and_one IsWidePosting s.postings p has.postings.wide wide })
