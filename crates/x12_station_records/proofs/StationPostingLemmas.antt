-- The postings as a query reads them.
use Rattle.std.proofs.Common.{◌≡◌, ◌+◌, ℕ, pos, List, [], ◌∷◌, codes, map, false, refl, ap, ◌∙◌}
use Rattle.std.specs.List.{AllByRecursion, enumerate_from}
use Rattle.sqlite.specs.Command.TheVariants.{Select}
use Rattle.sqlite.specs.Listing.{understood, reads_listing}
use Rattle.sqlite.specs.declared.types.Value.TheVariants.{Int, Blob}
use Rattle.sqlite.specs.Order.{Row}
use Rattle.sqlite.specs.State.{State, Shown}
use Rattle.sqlite.specs.Term.{Term, col}
use Rattle.sqlite.proofs.Callers.{IsPlain, command_of}
use Rattle.sqlite_tied.specs.Compute.{everything}
use Rattle.sql_rows.proofs.Selects.{one_table}
use Rattle.sql_rows.specs.Query.{IsQuery}
use Rattle.sql_rows.proofs.Queries.{select_asks}
use Rattle.x12_acks.specs.Accepted.{AcceptedSet}
use Rattle.x12_station.specs.Stored.{Stored}
use Rattle.x12_tables.proofs.PartyLemmas.{party_back}
use Rattle.x12_tables.specs.Party.{bytes_of_party, IsWideParty}
use Rattle.x12_station_records.proofs.StationListings.{by_at, lists_all}
use Rattle.x12_station_records.specs.StationPostings.{posting_shown}
use Rattle.x12_station_records.specs.StationSchema.{station_schema}
use Rattle.x12_station_records.specs.StationTables.{HasTables, posting_row}

abbrev pub postings_text : List ℕ
postings_text = codes "SELECT partner, icn, grp, place, functional, setid, number, bytes FROM posting ORDER BY at"

abbrev pub postings_shows : List Term
postings_shows = col 1 2 ∷ col 1 3 ∷ col 1 4 ∷ col 1 5 ∷ col 1 6 ∷ col 1 7 ∷ col 1 8 ∷ col 1 9 ∷ []

abbrev pub postings_names : List (List ℕ)
postings_names = codes "partner" ∷ codes "icn" ∷ codes "grp" ∷ codes "place" ∷ codes "functional" ∷ codes "setid" ∷ codes "number" ∷ codes "bytes" ∷ []

pub postings_are : (command_of (understood station_schema postings_text) ≡ Select (record { lets = []; body = one_table 8 [] postings_shows by_at }) postings_names) × (reads_listing station_schema postings_text ≡ false) × IsPlain (understood station_schema postings_text)
unfolding understood everything
postings_are = (refl, refl, (refl, refl))

pub postings_asks : IsQuery postings_text
unfolding everything
postings_asks = select_asks postings_text ((λ s base. refl), (λ s. refl))

abbrev pub shown_row : AcceptedSet → Row
shown_row p =
    Blob (bytes_of_party p.key.sender) ∷ Int (pos p.key.icn) ∷ Int (pos p.key.group) ∷ Int (pos p.key.set) ∷ Blob p.functional ∷ Blob p.set ∷ Blob p.number ∷ Blob p.bytes ∷ []

shown_back : (n : ℕ) (ps : List AcceptedSet) → AllByRecursion (λ p. IsWideParty p.key.sender) ps → map posting_shown (map (λ (x : ℕ × AcceptedSet). shown_row x.1) (enumerate_from n ps)) ≡ ps
shown_back n [] h = refl
shown_back n (p ∷ ps) h = rw (party_back p.key.sender h.0, shown_back (n + 1) ps h.1) refl

pub loads_postings : (old new : State) (next : ℕ) (rows : List Row) (s : Stored) → HasTables next old.now s → Shown postings_text [] old new rows → map posting_shown rows ≡ s.postings
loads_postings old new next rows s has h =
    ap (map posting_shown) (lists_all postings_text old new has.schema 8 postings_shows postings_names postings_are posting_row (enumerate_from 1 s.postings) has.postings.are (λ x. shown_row x.1) (λ x. refl) rows h)
    ∙ shown_back 1 s.postings has.postings.parties
