-- The bytes under a number in the records are those of the submission of this number in the history.
use Rattle.std.specs.Prelude.{◌≡◌, ℕ, ◌==◌, List, [], ◌∷◌, ◌++◌, Bool, true, false, if◌then◌else◌, map, flat_map, find, Option, Some, option_map, Contains, refl}
use mathlib.Core.Path.{sym, ap, ◌∙◌}
use Rattle.std.proofs.lemmas.List.Elements.{All-contains}
use Rattle.x12_envelopes.specs.declared.party.Party.{Party}
use Rattle.x12_acks.specs.Submission.{Submission}
use Rattle.x12_outbound.specs.Entry.{InterchangeRow}
use Rattle.x12_profile.specs.Interchange.{Bytes}
use Rattle.x12_profile.specs.X12.{x12, submission_in_bytes}
use Rattle.x12_station.specs.Durable.{IsHistoryOf, IsOwnSubmission, fared_entry, fared_entries, items_of}
use Rattle.x12_station.specs.History.{Item, submissions, submission_under}
use Rattle.x12_station.specs.Stored.{Stored, StoredSet, StoredSubmission, entries, entry_of_row, submitted_bytes}
use Rattle.x12_numbers.proofs.Shelf.{contains_head, contains_tail}
use Rattle.x12_station.proofs.OwnLemmas.{bytes_read, icn_read, read_of, submission_is, submission_read}

-- the bytes of the first entry of this number
abbrev bytes_under : ℕ → List InterchangeRow → Option Bytes
bytes_under icn es = option_map (λ e. e.bytes) (find (λ e. e.icn == icn) es)

-- a row and its entry have the same number and the same bytes
row_found : (sets : List StoredSet) (icn : ℕ) (rs : List StoredSubmission) → option_map (λ r. r.bytes) (find (λ r. r.icn == icn) rs) ≡ bytes_under icn (map (entry_of_row sets) rs)
row_found sets icn [] = refl
row_found sets icn (r ∷ rs) = by (r.icn == icn) (row_found sets icn rs)
  where
    by : (t : Bool) → option_map (λ q. q.bytes) (find (λ q. q.icn == icn) rs) ≡ bytes_under icn (map (entry_of_row sets) rs)
        → option_map (λ q. q.bytes) (if t then Some r else find (λ q. q.icn == icn) rs)
        ≡ option_map (λ e. e.bytes) (if t then Some (entry_of_row sets r) else find (λ e. e.icn == icn) (map (entry_of_row sets) rs))
    by true behind = refl
    by false behind = behind

module _ (me : Party) (hubs : List Party) (items : List Item) where
  -- one submission, in front of others
  one_found : (icn : ℕ) (x : Bytes) (e : Submission) (rest : List Submission) (found : Option Bytes) → e.icn ≡ x12.number x → e.bytes ≡ x
      → bytes_under icn (map (fared_entry me hubs items) rest) ≡ found
      → bytes_under icn (map (fared_entry me hubs items) (e ∷ rest)) ≡ (if x12.number x == icn then Some x else found)
  unfolding fared_entry
  one_found icn x e rest found number bytes behind =
      by (e.icn == icn) ∙ ap (λ n. if n == icn then Some x else found) number
    where
      by : (t : Bool) → option_map (λ q. q.bytes) (if t then Some (fared_entry me hubs items e) else find (λ q. q.icn == icn) (map (fared_entry me hubs items) rest))
          ≡ (if t then Some x else found)
      by true = ap Some bytes
      by false = behind

  -- a submission and its entry have the same number and the same bytes
  history_found : (icn : ℕ) (xs : List Bytes) → ((x : Bytes) → Contains xs x → IsOwnSubmission me x)
      → bytes_under icn (map (fared_entry me hubs items) (flat_map submission_in_bytes xs)) ≡ find (λ x. x12.number x == icn) xs
  history_found icn [] own = refl
  history_found icn (x ∷ xs) own =
      let w = read_of x (own x (contains_head x xs)).submission in
      ap (λ l. bytes_under icn (map (fared_entry me hubs items) (l ++ flat_map submission_in_bytes xs))) (submission_is x w)
      ∙ one_found icn x (submission_read x w) (flat_map submission_in_bytes xs) (find (λ y. x12.number y == icn) xs) (sym (icn_read x w)) (bytes_read x w)
      (history_found icn xs (λ y at. own y (contains_tail y x xs at)))

module _ (me : Party) (hubs : List Party) (s : Stored) (durable : IsHistoryOf me hubs s) where
  pub submitted_is : (icn : ℕ) → submitted_bytes s icn ≡ submission_under x12 (items_of s) icn
  unfolding entries fared_entries
  submitted_is icn =
      let items = items_of s in
      row_found s.sets icn s.submitted ∙ ap (bytes_under icn) durable.fates
      ∙ history_found me hubs items icn (submissions items) (λ x at. All-contains (IsOwnSubmission me) (submissions items) x durable.own at)
