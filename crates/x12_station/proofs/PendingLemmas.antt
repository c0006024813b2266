-- A submission's entry, and how sets fare once one submission more is in the history.
use Rattle.std.specs.Prelude.{◌≡◌, ◌≢◌, ℕ, ◌+◌, List, [], ◌∷◌, ◌++◌, Bool, true, false, map, flat_map, Result, Ok, Err, Contains, bytes_eq, refl, if◌then◌else◌}
use Rattle.std.specs.List.{enumerate_from}
use mathlib.Core.Path.{sym, ap, ap₂, subst, ◌∙◌}
use mathlib.Core.Logic.{inl, inr}
use Rattle.std.proofs.lemmas.Grind.{flat_map-append}
use Rattle.std.proofs.lemmas.List.{append-nil, map-append}
use Rattle.x12_envelopes.specs.declared.header.Header.{Header}
use Rattle.x12_envelopes.specs.declared.header.HeaderFault.{HeaderFault}
use Rattle.x12_envelopes.specs.declared.party.Party.{Party}
use Rattle.x12_envelopes.specs.declared.shape.OutlineFault.{OutlineFault}
use Rattle.x12_envelopes.specs.Header.{header_of}
use Rattle.x12_envelopes.specs.Outline.{outline_of}
use Rattle.x12_envelopes.specs.Shape.{Interchange}
use Rattle.x12_acks.specs.Submission.{Submission, SubmittedGroup, SubmittedSet, submission_of}
use Rattle.x12_outbound.specs.declared.fate.Fate.TheVariants.{Pending}
use Rattle.x12_outbound.specs.Entry.{pending_set, pending_group, pending_entry}
use Rattle.x12_profile.specs.Interchange.{Bytes, PlaceOfSet}
use Rattle.x12_profile.specs.X12.{x12, submission_in_bytes}
use Rattle.x12_profile.proofs.FieldLemmas as field
use Rattle.x12_station.specs.Durable.{fared_set, fared_group, fared_entry, fared_entries}
use Rattle.x12_station.specs.History.{Item, Submitted, Came, submissions, items_after, first_told, told_in, fate_in}
use Rattle.x12_station.proofs.HistoryLemmas.{in_submissions, told_append}
use Rattle.x12_station.proofs.ItemLemmas.{submissions-append}
use Rattle.x12_station.proofs.ListLemmas.{contains_flat_map}
use Rattle.x12_numbers.proofs.Shelf.{none_in_nil, contains_cons, contains_head, contains_tail, bytes_eq_tells}
use Rattle.x12_station.proofs.CellLemmas.{map_same_at}

-- What was submitted comes back from its entry.

-- Fates alike.

module _ {X Y : Type 0} where
  map_agree : (f g : X → Y) → ((x : X) → f x ≡ g x) → (xs : List X) → map f xs ≡ map g xs
  map_agree f g same [] = refl
  map_agree f g same (x ∷ xs) = ap₂ (λ y ys. y ∷ ys) (same x) (map_agree f g same xs)

module _ (me : Party) (hubs : List Party) (items more : List Item) (b : Bytes) (same : (k : PlaceOfSet) → fate_in x12 me hubs more b k ≡ fate_in x12 me hubs items b k) where
  set_same : (group : ℕ) (s : ℕ × SubmittedSet) → fared_set me hubs more b group s ≡ fared_set me hubs items b group s
  set_same group s = ap (λ f. record { number = s.1.number; fate = f; is_out = false }) (same (record { group = group; set = s.0 }))

  group_same : (g : ℕ × SubmittedGroup) → fared_group me hubs more b g ≡ fared_group me hubs items b g
  group_same g = ap (λ ss. record { functional = g.1.functional; number = g.1.number; sets = ss }) (map_agree (fared_set me hubs more b g.0) (fared_set me hubs items b g.0) (set_same g.0) (enumerate_from 1 g.1.sets))

pub entry_same : (me : Party) (hubs : List Party) (items more : List Item) (y : Submission) → ((k : PlaceOfSet) → fate_in x12 me hubs more y.bytes k ≡ fate_in x12 me hubs items y.bytes k)
    → fared_entry me hubs more y ≡ fared_entry me hubs items y
unfolding fared_entry
entry_same me hubs items more y same =
    ap (λ gs. record { icn = y.icn; receiver = y.receiver; bytes = y.bytes; groups = gs })
    (map_agree (fared_group me hubs more y.bytes) (fared_group me hubs items y.bytes) (group_same me hubs items more y.bytes same) (enumerate_from 1 y.groups))

-- a submission of which nothing was told is pending
module _ (me : Party) (hubs : List Party) (items : List Item) (b : Bytes) (untold : (k : PlaceOfSet) → fate_in x12 me hubs items b k ≡ Pending) where
  sets_pending : (group n : ℕ) (ss : List SubmittedSet) → map (fared_set me hubs items b group) (enumerate_from n ss) ≡ map pending_set ss
  sets_pending group n [] = refl
  sets_pending group n (s ∷ ss) = ap₂ (λ f l. record { number = s.number; fate = f; is_out = false } ∷ l) (untold (record { group = group; set = n })) (sets_pending group (n + 1) ss)

  groups_pending : (n : ℕ) (gs : List SubmittedGroup) → map (fared_group me hubs items b) (enumerate_from n gs) ≡ map pending_group gs
  groups_pending n [] = refl
  groups_pending n (g ∷ gs) = ap₂ (λ ss l. record { functional = g.functional; number = g.number; sets = ss } ∷ l) (sets_pending n 1 g.sets) (groups_pending (n + 1) gs)

pub entry_untold : (me : Party) (hubs : List Party) (items : List Item) (y : Submission) → ((k : PlaceOfSet) → fate_in x12 me hubs items y.bytes k ≡ Pending) → fared_entry me hubs items y ≡ pending_entry y
unfolding fared_entry pending_entry
entry_untold me hubs items y untold = ap (λ gs. record { icn = y.icn; receiver = y.receiver; bytes = y.bytes; groups = gs }) (groups_pending me hubs items y.bytes untold 1 y.groups)

-- What is submitted has the bytes that it is read of.

bytes_of_one : (h : Header) (x : Bytes) (o : Interchange) → (submission_of h x o).bytes ≡ x
unfolding submission_of
bytes_of_one h x o = refl

module _ (x : Bytes) (y : Submission) where
  abbrev Bears : List Submission → Type 0
  Bears ys = Contains ys y → y.bytes ≡ x

  none_bears : (ys : List Submission) → ys ≡ [] → Bears ys
  none_bears ys is at = none_in_nil y (subst (λ l. Contains l y) is at)

  one_bears : (h : Header) (o : Interchange) (ys : List Submission) → ys ≡ submission_of h x o ∷ [] → Bears ys
  one_bears h o ys is at = elim (contains_cons y (submission_of h x o) [] (subst (λ l. Contains l y) is at)) [
    | inl here ↦ ap (λ (z : Submission). z.bytes) (sym here) ∙ bytes_of_one h x o
    | inr later ↦ none_in_nil y later
  ]

  by_outline : (h : Header) → header_of x ≡ Ok h → (o : Result Interchange OutlineFault) → outline_of h.delims x ≡ o → Bears (submission_in_bytes x)
  by_outline h is (Ok o) there = one_bears h o (submission_in_bytes x) (field.submission_is x h is o there)
  by_outline h is (Err f) there = none_bears (submission_in_bytes x) (field.no_submission x h is f there)

  by_header : (r : Result Header HeaderFault) → header_of x ≡ r → Bears (submission_in_bytes x)
  by_header (Ok h) is = by_outline h is (outline_of h.delims x) refl
  by_header (Err f) is = none_bears (submission_in_bytes x) (field.no_submission_of x f is)

pub bytes_submitted : (x : Bytes) (y : Submission) → Contains (submission_in_bytes x) y → y.bytes ≡ x
bytes_submitted x y = by_header x y (header_of x) refl

-- The history with one submission more.

no_choice : (t : Bool) (xs : List Item) → (if t then xs else xs) ≡ xs
no_choice true xs = refl
no_choice false xs = refl

-- nothing came after what is submitted last
pub after_new : (items : List Item) (x : Bytes) → ((y : Bytes) → Contains (submissions items) y → y ≢ x) → items_after x (items ++ Submitted x ∷ []) ≡ []
after_new [] x new = no_choice (bytes_eq x x) []
after_new (Submitted y ∷ items) x new = elim (bytes_eq_tells y x) [
  | inl same ↦ absurd (new y (contains_head y (submissions items)) same.1)
  | inr apart ↦ rw (apart.0) (after_new items x (λ z at. new z (contains_tail z y (submissions items) at)))
]
after_new (Came ed b r ∷ items) x new = after_new items x new

module _ (me : Party) (hubs : List Party) (items : List Item) (x : Bytes) where
  abbrev more : List Item
  more = items ++ Submitted x ∷ []

  -- what was submitted before fares as it did
  earlier_same : (y : Bytes) (k : PlaceOfSet) → Contains (submissions items) y → fate_in x12 me hubs more y k ≡ fate_in x12 me hubs items y k
  earlier_same y k at = ap (first_told k) (told_append x12 me hubs items (Submitted x ∷ []) y (in_submissions items y at) ∙ append-nil (told_in x12 me hubs items y))

  entries_earlier : map (fared_entry me hubs more) (flat_map submission_in_bytes (submissions items)) ≡ map (fared_entry me hubs items) (flat_map submission_in_bytes (submissions items))
  entries_earlier = map_same_at (fared_entry me hubs more) (fared_entry me hubs items) (flat_map submission_in_bytes (submissions items)) (λ y at.
      let from = contains_flat_map submission_in_bytes (submissions items) y at in
      entry_same me hubs items more y (λ k. earlier_same y.bytes k (subst (λ b. Contains (submissions items) b) (sym (bytes_submitted from.0 y from.2)) from.1)))

  -- and what is submitted now is pending
  pub fared_submitted : (y : Submission) → submission_in_bytes x ≡ y ∷ [] → ((z : Bytes) → Contains (submissions items) z → z ≢ x)
      → fared_entries me hubs more ≡ fared_entries me hubs items ++ pending_entry y ∷ []
  unfolding fared_entries
  fared_submitted y is new =
      ap (λ xs. map (fared_entry me hubs more) (flat_map submission_in_bytes xs)) (submissions-append items (Submitted x ∷ []))
      ∙ ap (map (fared_entry me hubs more)) (flat_map-append submission_in_bytes (submissions items) (x ∷ []))
      ∙ map-append (fared_entry me hubs more) (flat_map submission_in_bytes (submissions items)) (flat_map submission_in_bytes (x ∷ []))
      ∙ ap₂ (λ a b. a ++ b) entries_earlier
      (ap (λ l. map (fared_entry me hubs more) (l ++ [])) is
      ∙ ap (λ e. e ∷ []) (entry_untold me hubs more y (λ k. rw (bytes_submitted x y (subst (λ l. Contains l y) (sym is) (contains_head y [])), after_new items x new) refl)))
