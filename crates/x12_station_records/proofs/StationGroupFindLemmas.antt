-- A closed submission, found by the number of a group.
use Rattle.std.proofs.Common.{if◌then◌else◌, ◌≡◌, ◌≤◌, ◌<◌, ◌+◌, ◌==◌, ◌&&◌, ◌||◌, ◌++◌, not, ℕ, List, [], ◌∷◌, length, get_or, map, filter, find, flat_map, Bool, true, false, Option, Some, None, option_map, option_and_then, All, AllPairs, refl, sym, ap, ap₂, subst, ◌∙◌, inl, inr, arith}
use Rattle.std.specs.List.{enumerate_from, list_any}
use Rattle.std.specs.Str.{bytes_eq}
use Rattle.std.proofs.lemmas.Bool.{cases_Bool}
use Rattle.std.proofs.lemmas.Bool.Decides.{nat_tests}
use Rattle.std.proofs.lemmas.List.Elements.{All-head, All-tail}
use Rattle.x12_acks.specs.Submission.{IsBefore, SubmittedGroup}
use Rattle.x12_envelopes.specs.declared.party.Party.{Party}
use Rattle.x12_judge.specs.Agreement.{is_same_party}
use Rattle.x12_numbers.proofs.Shelf.{pairs_from_map, all_from_map}
use Rattle.x12_outbound.specs.Entry.{InterchangeRow, GroupRow, SetRow, row_is_open, submission_of_entry, submitted_group_of_row}
use Rattle.x12_station.proofs.SeqLemmas.{pairs_head, pairs_tail}
use Rattle.x12_station.specs.Memory.{only_if}
use Rattle.x12_station.specs.Stored.{Stored, StoredSet, IsSound, HasSets, entries, rows_of_group, rows_of_entry, is_group_named, closed_entry, closed_entry_with_group}
use Rattle.x12_station_records.proofs.StationAsks.{empty}
use Rattle.x12_station_records.proofs.StationClosedLemmas.{one_numbered, one_closed, narrowed}
use Rattle.x12_station_records.specs.StationClosed.{is_closed, number_of_group, is_named_by, closed_with_number}
use Rattle.x12_station_records.specs.StationEntries.{entry_numbered}

abbrev or_else : Option ℕ → Option ℕ → Option ℕ
or_else (Some a) b = Some a
or_else None b = b

find_or : {X : Type 0} (f : X → ℕ) (q : X → Bool) (xs ys : List X) → option_map f (find q (xs ++ ys)) ≡ or_else (option_map f (find q xs)) (option_map f (find q ys))
find_or f q [] ys = refl
find_or f q (x ∷ xs) ys = elim (cases_Bool (q x)) [
  | inl yes1 ↦ rw yes1 refl
  | inr no1 ↦ rw no1 (find_or f q xs ys)
]

none_of : {X Y : Type 0} (q : X → Bool) (f : Y → X) (b : Bool) → ((y : Y) → q (f y) ≡ b) → b ≡ false → (ys : List Y) → find q (map f ys) ≡ None
none_of q f b same is [] = refl
none_of q f b same is (y ∷ ys) = rw (same y, is) (none_of q f b same is ys)

first_found : {X : Type 0} (q r : X → Bool) (xs : List X) (x : X) → find q xs ≡ Some x → filter r xs ≡ [] → r x ≡ false
first_found q r [] x found none = absurd cc
first_found q r (y ∷ xs) x found none = elim (cases_Bool (r y)) [
  | inl yes1 ↦ absurd (let e = rw yes1 at none in cc)
  | inr no1 ↦ elim (cases_Bool (q y)) [
    | inl yes2 ↦ (let e = rw yes2 at found in let same : y ≡ x = cc in subst (λ z. r z ≡ false) same no1)
    | inr no2 ↦ first_found q r xs x (rw no2 at found) (rw no1 at none)
  ]
]

-- what was found is found again by a test that it alone passes
found_again : {X : Type 0} (q r : X → Bool) (xs : List X) (x : X) → find q xs ≡ Some x → r x ≡ true → length (filter r xs) ≤ 1 → find r xs ≡ Some x
found_again q r [] x found passes low = absurd cc
found_again q r (y ∷ xs) x found passes low = elim (cases_Bool (q y)) [
  | inl yes1 ↦ (let e = rw yes1 at found in let same : y ≡ x = cc in let here : r y ≡ true = subst (λ z. r z ≡ true) (sym same) passes in rw here (ap Some same))
  | inr no1 ↦ (let later : find q xs ≡ Some x = rw no1 at found in
      elim (cases_Bool (r y)) [
        | inl yes2 ↦ (let short : length (filter r xs) ≤ 0 = omega (arith, rw yes2 at low) in
            absurd (let clash = sym passes ∙ first_found q r xs x later (empty (filter r xs) short) in cc))
        | inr no2 ↦ rw no2 (found_again q r xs x later passes (rw no2 at low))
      ])
]

both_parts : (a b c : Bool) → a && b && c ≡ true → b ≡ true
both_parts true true c h = refl
both_parts true false c h = absurd cc
both_parts false b c h = absurd cc

split_test : (a b : Bool) (e : InterchangeRow) (f : InterchangeRow → Option InterchangeRow) → f e ≡ (if a then Some e else None) → (if a && b then Some e else None) ≡ option_and_then f (if b then Some e else None)
split_test true true e f h = sym h
split_test true false e f h = refl
split_test false true e f h = sym h
split_test false false e f h = refl

assoc : (a b c : Bool) → a && b && c ≡ (a && b) && c
assoc true b c = refl
assoc false b c = refl

module _ (gcn : ℕ) where
  abbrev with_number : GroupRow → Bool
  with_number g = g.number == gcn

  -- the submission has a group of the number
  abbrev has : InterchangeRow → Bool
  has e = list_any with_number e.groups

  abbrev of_group : StoredSet → Bool
  of_group t = t.gcn == gcn

  abbrev icn_of : StoredSet → ℕ
  icn_of t = t.icn

  one_group : (icn n : ℕ) (g : GroupRow) (ss : List SetRow) → 0 < length ss → option_map icn_of (find of_group (rows_of_group icn (n, record g { sets = ss }))) ≡ (if with_number g then Some icn else None)
  one_group icn n g [] some = absurd (omega (arith, some))
  one_group icn n g (s ∷ ss) some = elim (cases_Bool (g.number == gcn)) [
    | inl yes1 ↦ rw yes1 refl
    | inr no1 ↦ rw no1 (ap (option_map icn_of) (none_of of_group (λ (x : ℕ × SetRow). record { icn = icn; group = n; set = x.0; functional = g.functional; gcn = g.number; number = x.1.number; fate = x.1.fate }) (g.number == gcn) (λ x. refl) no1 (enumerate_from 2 ss)))
  ]

  joined : (b c : Bool) (icn : ℕ) → or_else (if b then Some icn else None) (if c then Some icn else None) ≡ (if b || c then Some icn else None)
  joined true c icn = refl
  joined false c icn = refl

  many_groups : (icn n : ℕ) (gs : List GroupRow) → All (λ g. 0 < length g.sets) gs → option_map icn_of (find of_group (flat_map (rows_of_group icn) (enumerate_from n gs))) ≡ (if list_any with_number gs then Some icn else None)
  many_groups icn n [] some = refl
  many_groups icn n (g ∷ gs) some =
      find_or icn_of of_group (rows_of_group icn (n, g)) (flat_map (rows_of_group icn) (enumerate_from (n + 1) gs))
      ∙ ap₂ or_else (one_group icn n g g.sets (All-head (λ (g : GroupRow). 0 < length g.sets) g gs some)) (many_groups icn (n + 1) gs (All-tail (λ (g : GroupRow). 0 < length g.sets) g gs some))
      ∙ joined (with_number g) (list_any with_number gs) icn

  first_of : (b : Bool) (e : InterchangeRow) (o : Option InterchangeRow) → or_else (if b then Some e.icn else None) (option_map (λ (x : InterchangeRow). x.icn) o) ≡ option_map (λ (x : InterchangeRow). x.icn) (if b then Some e else o)
  first_of true e o = refl
  first_of false e o = refl

  number_is : (es : List InterchangeRow) → All HasSets es → option_map icn_of (find of_group (flat_map rows_of_entry es)) ≡ option_map (λ (e : InterchangeRow). e.icn) (find has es)
  unfolding rows_of_entry
  number_is [] whole = refl
  number_is (e ∷ es) whole =
      find_or icn_of of_group (rows_of_entry e) (flat_map rows_of_entry es)
      ∙ ap₂ or_else (many_groups e.icn 1 e.groups (All-head HasSets e es whole)) (number_is es (All-tail HasSets e es whole))
      ∙ first_of (has e) e (find has es)

  -- no number is that of groups of two submissions
  none_above : (k : ℕ) (hs : List GroupRow) → All (λ h. k < h.number) hs → (k == gcn) ≡ true → list_any with_number hs ≡ false
  none_above k [] above is = refl
  none_above k (h ∷ hs) above is =
      let up : k < h.number = All-head (λ (h : GroupRow). k < h.number) h hs above in
      let other : (h.number == gcn) ≡ false = grind (arith, nat_tests, up, is) in
      rw other (none_above k hs (All-tail (λ (h : GroupRow). k < h.number) h hs above) is)

  not_both : (gs hs : List GroupRow) → All (λ g. All (λ h. g.number < h.number) hs) gs → list_any with_number gs ≡ true → list_any with_number hs ≡ false
  not_both [] hs below h = absurd cc
  not_both (g ∷ gs) hs below h = elim (cases_Bool (g.number == gcn)) [
    | inl yes1 ↦ none_above g.number hs (All-head (λ (g : GroupRow). All (λ (h : GroupRow). g.number < h.number) hs) g gs below) yes1
    | inr no1 ↦ not_both gs hs (All-tail (λ (g : GroupRow). All (λ (h : GroupRow). g.number < h.number) hs) g gs below) (rw no1 at h)
  ]

  apart : (me : Party) (d e : InterchangeRow) → IsBefore (submission_of_entry me d) (submission_of_entry me e) → has d ≡ true → has e ≡ false
  apart me d e before =
      not_both d.groups e.groups (λ i x within. all_from_map submitted_group_of_row (λ (h : SubmittedGroup). (submitted_group_of_row (get_or d.groups i x)).number < h.number) e.groups
      (all_from_map submitted_group_of_row (λ (g : SubmittedGroup). All (λ (h : SubmittedGroup). g.number < h.number) (map submitted_group_of_row e.groups)) d.groups before.groups i x within))

  none_has : (me : Party) (d : InterchangeRow) (es : List InterchangeRow) → All (λ e. IsBefore (submission_of_entry me d) (submission_of_entry me e)) es → has d ≡ true → filter has es ≡ []
  none_has me d [] before h = refl
  none_has me d (e ∷ es) before h =
      rw (apart me d e (All-head (λ e. IsBefore (submission_of_entry me d) (submission_of_entry me e)) e es before) h) (none_has me d es (All-tail (λ e. IsBefore (submission_of_entry me d) (submission_of_entry me e)) e es before) h)

  one_has : (me : Party) (es : List InterchangeRow) → AllPairs (λ d e. IsBefore (submission_of_entry me d) (submission_of_entry me e)) es → length (filter has es) ≤ 1
  one_has me [] before = omega arith
  one_has me (d ∷ es) before = elim (cases_Bool (has d)) [
    | inl yes1 ↦ rw (yes1, none_has me d es (pairs_head (λ d e. IsBefore (submission_of_entry me d) (submission_of_entry me e)) d es before) yes1) (omega arith)
    | inr no1 ↦ rw no1 (one_has me es (pairs_tail (λ d e. IsBefore (submission_of_entry me d) (submission_of_entry me e)) d es before))
  ]

  module _ (partner : Party) (functional : List ℕ) where
    named_has : (gs : List GroupRow) → list_any (is_group_named functional gcn) gs ≡ true → list_any with_number gs ≡ true
    named_has [] h = absurd cc
    named_has (g ∷ gs) h = elim (cases_Bool (g.number == gcn)) [
      | inl yes1 ↦ rw yes1 refl
      | inr no1 ↦ elim (cases_Bool (bytes_eq g.functional functional)) [
        | inl yes2 ↦ rw no1 (named_has gs (rw (yes2, no1) at h))
        | inr no2 ↦ rw no1 (named_has gs (rw no2 at h))
      ]
    ]

    abbrev wanted : InterchangeRow → Bool
    wanted e = is_same_party e.receiver partner && list_any (is_group_named functional gcn) e.groups && not (row_is_open e)

    module _ (s : Stored) (sound : IsSound s) where
      one_of_them : length (filter has (entries s)) ≤ 1
      one_of_them =
          let nobody : Party = record { qualifier = []; id = [] } in
          one_has nobody (entries s) (pairs_from_map (submission_of_entry nobody) IsBefore (entries s) (sound.in_order nobody).before)

      number_found : number_of_group s.sets gcn ≡ option_map (λ (e : InterchangeRow). e.icn) (find has (entries s))
      number_found = ap (λ ts. option_map icn_of (find of_group ts)) sound.rows ∙ number_is (entries s) sound.whole

      by_number : (o : Option InterchangeRow) → find has (entries s) ≡ o → option_and_then (only_if wanted) o ≡ option_and_then (only_if (is_named_by partner functional gcn)) (option_and_then (closed_entry s) (option_map (λ (e : InterchangeRow). e.icn) o))
      by_number None is = refl
      by_number (Some e) is =
          let self : (e.icn == e.icn) ≡ true = grind (arith, nat_tests) in
          let again : entry_numbered s e.icn ≡ Some e = found_again has (λ (x : InterchangeRow). x.icn == e.icn) (entries s) e is self (one_numbered e.icn s sound) in
          let closed : only_if is_closed e ≡ closed_entry s e.icn = one_closed e.icn s sound e (sym again) in
          ap (λ (b : Bool). if b then Some e else None) (assoc (is_same_party e.receiver partner) (list_any (is_group_named functional gcn) e.groups) (not (row_is_open e)))
          ∙ split_test (is_named_by partner functional gcn e) (is_closed e) e (only_if (is_named_by partner functional gcn)) refl
          ∙ ap (option_and_then (only_if (is_named_by partner functional gcn))) closed

      group_is : closed_entry_with_group s partner functional gcn ≡ option_and_then (only_if (is_named_by partner functional gcn)) (closed_with_number s gcn)
      group_is =
          narrowed wanted has (λ e h. named_has e.groups (both_parts (is_same_party e.receiver partner) (list_any (is_group_named functional gcn) e.groups) (not (row_is_open e)) h)) (entries s) one_of_them
          ∙ by_number (find has (entries s)) refl
          ∙ ap (λ n. option_and_then (only_if (is_named_by partner functional gcn)) (option_and_then (closed_entry s) n)) (sym number_found)

      pub one_named : (e : InterchangeRow) → Some e ≡ closed_with_number s gcn → only_if (is_named_by partner functional gcn) e ≡ closed_entry_with_group s partner functional gcn
      one_named e found = ap (option_and_then (only_if (is_named_by partner functional gcn))) found ∙ sym group_is

      pub none_named : None ≡ closed_with_number s gcn → None ≡ closed_entry_with_group s partner functional gcn
      none_named found = ap (option_and_then (only_if (is_named_by partner functional gcn))) found ∙ sym group_is
