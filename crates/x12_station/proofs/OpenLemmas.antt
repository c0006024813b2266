-- Which submissions are open: those of which an entry has a pending set, by the history as by the rows.
use Rattle.std.proofs.Common.{ℕ, suc, ◌≡◌, ◌∙◌, ◌+◌, ap, ap₂, sym, refl, Bool, true, false, cond, List, [], ◌∷◌, map, filter, All, arith}
use Rattle.std.specs.Prelude.{flat_map, ◌||◌}
use Rattle.std.specs.List.{enumerate_from, list_any}
use Rattle.std.proofs.lemmas.List.Folds.{list_any-append}
use Rattle.x12_envelopes.specs.declared.party.Party.{Party}
use Rattle.x12_envelopes.specs.Shape.{FunctionalGroup, TransactionSet as ReadSet}
use Rattle.x12_acks.specs.Submission.{submission_of, submitted_group, submitted_set}
use Rattle.x12_outbound.specs.Entry.{row_is_open}
use Rattle.x12_outbound.specs.Fate.{is_pending}
use Rattle.x12_profile.specs.Interchange.{Bytes, PlacedTransactionSet}
use Rattle.x12_profile.specs.X12.{x12, sets_of_group, submission_in_bytes}
use Rattle.x12_profile.proofs.FieldLemmas.{number_is, sets_are, submission_is}
use Rattle.x12_profile.proofs.SubmissionLemmas.{IsSubmitted, submitted}
use Rattle.x12_station.specs.History.{Item, fate_in}
use Rattle.x12_station.specs.Durable.{fared_set, fared_group, fared_entry, IsOwnSubmission}

pub all_head : {X : Type 0} (P : X → Type 0) (x : X) (xs : List X) → All P (x ∷ xs) → P x
all_head P x xs h = h 0 x (omega arith)

pub all_tail : {X : Type 0} (P : X → Type 0) (x : X) (xs : List X) → All P (x ∷ xs) → All P xs
all_tail P x xs h = λ k d within. h (suc k) d (omega arith)

module _ (me : Party) (hubs : List Party) (items : List Item) where
  -- a set of a submission is pending, by the history
  abbrev pub pending_at : Bytes → PlacedTransactionSet → Bool
  pending_at x t = is_pending (fate_in x12 me hubs items x t.place)

  sets_open : (x : Bytes) (group n : ℕ) (functional : List ℕ) (ss : List ReadSet) → list_any (λ s. is_pending s.fate) (map (fared_set me hubs items x group) (enumerate_from n (map submitted_set ss)))
      ≡ list_any (pending_at x) (map (λ s. record { place = record { group = group; set = s.0 }; functional = functional; set = s.1.set; number = s.1.number; bytes = s.1.bytes }) (enumerate_from n ss))
  sets_open x group n functional [] = refl
  sets_open x group n functional (s ∷ ss) = ap (λ (b : Bool). is_pending (fate_in x12 me hubs items x (record { group = group; set = n })) || b) (sets_open x group (n + 1) functional ss)

  groups_open : (x : Bytes) (n : ℕ) (gs : List FunctionalGroup) → list_any (λ g. list_any (λ s. is_pending s.fate) g.sets) (map (fared_group me hubs items x) (enumerate_from n (map submitted_group gs)))
      ≡ list_any (pending_at x) (flat_map sets_of_group (enumerate_from n gs))
  groups_open x n [] = refl
  groups_open x n (g ∷ gs) = ap₂ (λ (a b : Bool). a || b) (sets_open x n 1 g.functional g.sets) (groups_open x (n + 1) gs) ∙ sym (list_any-append (pending_at x) (sets_of_group (n, g)) (flat_map sets_of_group (enumerate_from (n + 1) gs)))

  -- a submission is open by its rows where it is by the history
  pub entry_open : (x : Bytes) (s : IsSubmitted x) → row_is_open (fared_entry me hubs items (submission_of s.header x s.outline)) ≡ list_any (pending_at x) (x12.sets x)
  unfolding fared_entry submission_of
  entry_open x s = groups_open x 1 s.outline.groups ∙ ap (list_any (pending_at x)) (sym (sets_are x s.header s.is_header s.outline s.is_outline))

  one_open : (x : Bytes) (s : IsSubmitted x) → filter row_is_open (map (fared_entry me hubs items) (submission_of s.header x s.outline ∷ [])) ≡ map (fared_entry me hubs items) (flat_map submission_in_bytes (filter (λ y. list_any (pending_at y) (x12.sets y)) (x ∷ [])))
  one_open x s = rw (entry_open x s) (by (list_any (pending_at x) (x12.sets x)))
    where
      by : (t : Bool) → cond t (fared_entry me hubs items (submission_of s.header x s.outline) ∷ []) [] ≡ map (fared_entry me hubs items) (flat_map submission_in_bytes (cond t (x ∷ []) []))
      by true = rw (submission_is x s.header s.is_header s.outline s.is_outline) refl
      by false = refl

  -- the open entries are those of the open submissions
  pub entries_open : (xs : List Bytes) → All (IsOwnSubmission me) xs → filter row_is_open (map (fared_entry me hubs items) (flat_map submission_in_bytes xs))
      ≡ map (fared_entry me hubs items) (flat_map submission_in_bytes (filter (λ x. list_any (pending_at x) (x12.sets x)) xs))
  entries_open [] own = refl
  entries_open (x ∷ xs) own =
      let s = submitted x (all_head (IsOwnSubmission me) x xs own).submission in
      let rest = entries_open xs (all_tail (IsOwnSubmission me) x xs own) in
      rw (submission_is x s.header s.is_header s.outline s.is_outline, entry_open x s) (by s (list_any (pending_at x) (x12.sets x)) rest)
    where
      by : (s : IsSubmitted x) (t : Bool) → filter row_is_open (map (fared_entry me hubs items) (flat_map submission_in_bytes xs)) ≡ map (fared_entry me hubs items) (flat_map submission_in_bytes (filter (λ x. list_any (pending_at x) (x12.sets x)) xs))
          → cond t (fared_entry me hubs items (submission_of s.header x s.outline) ∷ filter row_is_open (map (fared_entry me hubs items) (flat_map submission_in_bytes xs))) (filter row_is_open (map (fared_entry me hubs items) (flat_map submission_in_bytes xs)))
          ≡ map (fared_entry me hubs items) (flat_map submission_in_bytes (cond t (x ∷ filter (λ x. list_any (pending_at x) (x12.sets x)) xs) (filter (λ x. list_any (pending_at x) (x12.sets x)) xs)))
      by s true rest = rw (submission_is x s.header s.is_header s.outline s.is_outline) (ap (λ es. fared_entry me hubs items (submission_of s.header x s.outline) ∷ es) rest)
      by s false rest = rest

  -- an entry has its bytes' number, and its bytes
  pub entry_numbers : (xs : List Bytes) → All (IsOwnSubmission me) xs → map (λ e. e.icn) (map (fared_entry me hubs items) (flat_map submission_in_bytes xs)) ≡ map x12.number xs
  unfolding fared_entry submission_of
  entry_numbers [] own = refl
  entry_numbers (x ∷ xs) own =
      let s = submitted x (all_head (IsOwnSubmission me) x xs own).submission in
      rw (submission_is x s.header s.is_header s.outline s.is_outline, number_is x s.header s.is_header) (ap (λ ns. s.header.icn ∷ ns) (entry_numbers xs (all_tail (IsOwnSubmission me) x xs own)))

  pub entry_bytes : (xs : List Bytes) → All (IsOwnSubmission me) xs → map (λ e. e.bytes) (map (fared_entry me hubs items) (flat_map submission_in_bytes xs)) ≡ xs
  unfolding fared_entry submission_of
  entry_bytes [] own = refl
  entry_bytes (x ∷ xs) own =
      let s = submitted x (all_head (IsOwnSubmission me) x xs own).submission in
      rw (submission_is x s.header s.is_header s.outline s.is_outline) (ap (λ ys. x ∷ ys) (entry_bytes xs (all_tail (IsOwnSubmission me) x xs own)))
