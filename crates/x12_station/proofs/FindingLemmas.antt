-- What is found in memory by its number, and what the history has there.
use Rattle.std.proofs.Common.{ℕ, ◌≡◌, ◌<◌, ◌==◌, ◌∙◌, ◌∷◌, [], ap, sym, subst, refl, cond, Bool, true, false, AllPairs, List, map, find, slice_get, Option, None, Some, IfSome, option_map}
use Rattle.std.proofs.lemmas.Option.{slice_get-map}
use Rattle.x12_envelopes.specs.declared.party.Party.{Party}
use Rattle.x12_inbound.specs.declared.filing.Filed.{Filed}
use Rattle.x12_inbound.specs.Filing.{FiledInterchange, filed_under, reply_bytes}
use Rattle.x12_outbound.proofs.SearchLemmas.{Found}
use Rattle.x12_station.specs.declared.arrivals.NumberedArrival.{NumberedArrival}
use Rattle.x12_profile.specs.Edition.{Marks, edition_at}
use Rattle.x12_station.specs.Durable.{item_of_arrival}
use Rattle.x12_station.specs.History.{Submitted, Came}
use Rattle.x12_station.specs.Memory.{ArrivalKey, NumberedRow, SeqsRise, arrival_view}
use Rattle.x12_station.specs.Stored.{Stored, StoredSubmission, StoredArrival, AreNumbered}
use Rattle.x12_numbers.proofs.Shelf.{pairs_from_map}
use Rattle.x12_station.proofs.MemoryLemmas.{row_in}

-- what a search by number finds stands at its index
pub found_there : {X Y : Type 0} (v : X → Y) (m : Y → ℕ) (xs : List X) (x : ℕ) (o : Option ℕ) → Found v m xs x o → IfSome o (λ i. find (λ y. m y == x) (map v xs) ≡ slice_get (map v xs) i)
found_there v m xs x None found = tt
found_there v m xs x (Some i) found = found.found.2

-- a submission as the history has it
module _ (seq : ℕ) where
  pub submitted_alike : (ns : List NumberedRow) → option_map (λ (n : NumberedRow). Submitted n.entry.bytes) (find (λ n. n.seq == seq) ns)
      ≡ option_map (λ (r : StoredSubmission). Submitted r.bytes) (find (λ r. r.seq == seq) (map row_in ns))
  submitted_alike [] = refl
  submitted_alike (n ∷ ns) = by (n.seq == seq) (find (λ m. m.seq == seq) ns) (find (λ r. r.seq == seq) (map row_in ns)) (submitted_alike ns)
    where
      by : (t : Bool) (a : Option NumberedRow) (b : Option StoredSubmission) → option_map (λ (m : NumberedRow). Submitted m.entry.bytes) a ≡ option_map (λ (r : StoredSubmission). Submitted r.bytes) b
          → option_map (λ (m : NumberedRow). Submitted m.entry.bytes) (cond t (Some n) a) ≡ option_map (λ (r : StoredSubmission). Submitted r.bytes) (cond t (Some (row_in n)) b)
      by true a b rest = refl
      by false a b rest = rest

-- their numbers rise
pub submissions_rise : (s : Stored) (ns : List NumberedRow) → s.submitted ≡ map row_in ns → AreNumbered s → SeqsRise ns
submissions_rise s ns same numbered = pairs_from_map row_in (λ r q. r.seq < q.seq) ns (subst (λ rs. AllPairs (λ r q. r.seq < q.seq) rs) same numbered.submitted)

-- an arrival as the history has it
module _ (marks : Marks) (es : List (ArrivalKey × NumberedArrival)) (seq i : ℕ) (there : find (λ (r : StoredArrival). r.seq == seq) (map arrival_view es) ≡ slice_get (map arrival_view es) i) where
  -- the arrival at the index, copied
  pub arrived_found : (e : ArrivalKey × NumberedArrival) (f : Filed) → slice_get es i ≡ Some e → ((p : Party) (n : ℕ) → filed_under p n f ≡ filed_under p n e.1.filed)
      → Some (Came (edition_at marks seq) f.bytes.items (reply_bytes f.reply)) ≡ option_map (item_of_arrival marks seq) (find (λ r. r.seq == seq) (map arrival_view es))
  arrived_found e f at same =
      ap (λ (x : FiledInterchange). Some (Came (edition_at marks seq) x.bytes x.reply)) (same (record { qualifier = e.0.0; id = e.0.1 }) e.0.2)
      ∙ sym (ap (option_map (item_of_arrival marks seq)) (there ∙ slice_get-map arrival_view es i ∙ ap (option_map arrival_view) at))

  pub none_arrived : slice_get es i ≡ None → None ≡ option_map (item_of_arrival marks seq) (find (λ r. r.seq == seq) (map arrival_view es))
  none_arrived past = sym (ap (option_map (item_of_arrival marks seq)) (there ∙ slice_get-map arrival_view es i ∙ ap (option_map arrival_view) past))
