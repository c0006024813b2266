-- Records stay sound after an arrival is filed.
use Rattle.std.specs.Prelude.{◌≡◌, ℕ, ◌+◌, ◌-◌, ◌^◌, ◌≤◌, get_or, List, [], ◌∷◌, ◌++◌, Bool, true, false, ◌||◌, map, None, Contains, All, AllPairs, refl}
use Rattle.std.specs.List.{list_any, IsDistinct, AllByRecursion}
use Rattle.std.specs.Ordering.{is_eq}
use mathlib.Core.Path.{sym, ap, subst, ◌∙◌}
use mathlib.Core.Logic.{inl, inr}
use native.Mathlib.Omega.{arith}
use Rattle.std.proofs.lemmas.List.{map-append, length-append}
use Rattle.std.proofs.lemmas.List.Elements.{All-contains, All-map, Contains-append_cases}
use Rattle.std.proofs.lemmas.Bool.{cases_Bool}
use Rattle.x12_numbers.specs.Book.{Numbers}
use Rattle.x12_envelopes.specs.declared.party.Party.{Party}
use Rattle.x12_acks.specs.Accepted.{AcceptedSet}
use Rattle.x12_acks.specs.Key.{is_same_key}
use Rattle.x12_acks.specs.Submission.{TransactionSetKey}
use Rattle.x12_acks.proofs.CutLemmas.{any_is}
use Rattle.x12_acks.proofs.FindLemmas.{none_passes, clash}
use Rattle.x12_inbound.specs.Arrival.{Filing, ArePostingsOf, RiseByKey}
use Rattle.x12_inbound.specs.Filing.{FiledInterchange, filed_key}
use Rattle.x12_inbound.specs.Order.{interchange_holding, is_same_interchange}
use Rattle.x12_inbound.specs.Register.{is_under, AreOfFiled}
use Rattle.x12_inbound.proofs.OrderLemmas.{is_eq-set, interchange_itself}
use Rattle.x12_outbound.specs.declared.fate.Fate.{Fate}
use Rattle.x12_outbound.specs.Entry.{InterchangeRow, submission_of_entry}
use Rattle.x12_outbound.specs.Ledger.{AreInOrder}
use Rattle.x12_outbound.proofs.FirstEvidenceLemmas.{same_key}
use Rattle.x12_station.specs.Plan.{Files, stored_after}
use Rattle.x12_station.specs.Stored.{Stored, StoredArrival, HasSets, IsNumberedBy, IsSound, entries, filed_in}
use Rattle.x12_station.proofs.CellLemmas.{map_same_at}
use Rattle.x12_numbers.proofs.Shelf.{any_append, map_twice, all_from_contains, contains_head, contains_tail, contains_cons, contains_mapped, none_in_nil}
use Rattle.x12_station.proofs.DurableLemmas.{IsLater, used_later}
use Rattle.x12_station.proofs.EntryLemmas.{entries_whole}
use Rattle.x12_station.proofs.NumberedLemmas.{numbered_filed}
use Rattle.x12_station.proofs.SeqLemmas.{pairs_head, pairs_tail}
use Rattle.x12_station.proofs.SettledLemmas.{entry_settled_by, entries_filed, rows_filed, submission_settled, whole_settled, numbered_settled}

-- Lists without two alike.
module _ {K : Type 0} (e : K → K → Bool) where
  none_alike : (P : K → Type 0) (xs : List K) → ((x : K) → Contains xs x → P x) → AllByRecursion P xs
  none_alike P [] each = tt
  none_alike P (x ∷ xs) each = (each x (contains_head x xs), none_alike P xs (λ y at. each y (contains_tail y x xs at)))

  at_recursion : (P : K → Type 0) (xs : List K) (x : K) → AllByRecursion P xs → Contains xs x → P x
  at_recursion P [] x all at = none_in_nil x at
  at_recursion P (y ∷ ys) x all at = elim (contains_cons x y ys at) [ inl same ↦ subst P same all.0 | inr later ↦ at_recursion P ys x all.1 later ]

  pub distinct_append : (xs ys : List K) → IsDistinct e xs → IsDistinct e ys → ((x y : K) → Contains xs x → Contains ys y → e x y ≡ false) → IsDistinct e (xs ++ ys)
  unfolding IsDistinct
  distinct_append [] ys left right cross = right
  distinct_append (x ∷ xs) ys left right cross = (
    none_alike (λ y. e x y ≡ false) (xs ++ ys) (λ y at. elim (Contains-append_cases xs ys y at) [ inl here ↦ at_recursion (λ y. e x y ≡ false) xs y left.0 here | inr there ↦ cross x y (contains_head x xs) there ]),
    distinct_append xs ys left.1 right (λ z y at there. cross z y (contains_tail z x xs at) there),
  )

  pub distinct_pairs : (xs : List K) → AllPairs (λ x y. e x y ≡ false) xs → IsDistinct e xs
  unfolding IsDistinct
  distinct_pairs [] pairs = tt
  distinct_pairs (x ∷ xs) pairs = (
    none_alike (λ y. e x y ≡ false) xs (λ y at. All-contains (λ y. e x y ≡ false) xs y (pairs_head (λ x y. e x y ≡ false) x xs pairs) at),
    distinct_pairs xs (pairs_tail (λ x y. e x y ≡ false) x xs pairs),
  )

-- postings by rising key have no two alike
rise_distinct : (ps : List AcceptedSet) → RiseByKey ps → IsDistinct (λ (p q : AcceptedSet). is_same_key p.key q.key) ps
rise_distinct ps rise = distinct_pairs (λ (p q : AcceptedSet). is_same_key p.key q.key) ps
    (λ i j d before within. sym (is_eq-set (key_at i d) (key_at j d)) ∙ ap is_eq (rise i j d before within))
  where
    key_at : ℕ → AcceptedSet → TransactionSetKey
    key_at i d = (get_or ps i d).key

module _ (s : Stored) (sound : IsSound s) (book : Numbers) (later : IsLater s.book book) (few : s.seq + 1 ≤ 2 ^ 63 - 1)
    (k : Filing) (theirs : ArePostingsOf k.filed k.postings) (new : filed_in s k.filed.partner k.filed.icn ≡ None) (ts : List (TransactionSetKey × Fate)) where
  abbrev pub filed_after : Stored
  filed_after = stored_after (record { book = book; seq = s.seq + 1; change = Files k ts }) s

  abbrev row : StoredArrival
  row = record { seq = s.seq + 1; filed = k.filed }

  entries_after : entries filed_after ≡ map (entry_settled_by ts) (entries s)
  entries_after = entries_filed book (s.seq + 1) k ts s sound

  pub submitted_after : (me : Party) → map (submission_of_entry me) (entries filed_after) ≡ map (submission_of_entry me) (entries s)
  submitted_after me = ap (map (submission_of_entry me)) entries_after ∙ map_twice (submission_of_entry me) (entry_settled_by ts) (entries s)
      ∙ map_same_at (λ (e : InterchangeRow). submission_of_entry me (entry_settled_by ts e)) (submission_of_entry me) (entries s) (λ e at. submission_settled me ts e)

  -- nothing else is filed under the number
  not_under : (f : FiledInterchange) → Contains (map (λ (r : StoredArrival). r.filed) s.arrived) f → is_same_interchange (filed_key f) (filed_key k.filed) ≡ false
  not_under f at = none_passes (is_under (filed_key k.filed)) (map (λ (r : StoredArrival). r.filed) s.arrived) f new at

  filed_distinct : IsDistinct (λ (r q : StoredArrival). is_same_interchange (filed_key r.filed) (filed_key q.filed)) (s.arrived ++ row ∷ [])
  unfolding IsDistinct
  filed_distinct = distinct_append (λ (r q : StoredArrival). is_same_interchange (filed_key r.filed) (filed_key q.filed)) s.arrived (row ∷ []) sound.filed_once (tt, tt)
      (λ r q at there. elim (contains_cons q row [] there) [
        | inl same ↦ subst (λ (z : StoredArrival). is_same_interchange (filed_key r.filed) (filed_key z.filed) ≡ false) same (not_under r.filed (contains_mapped (λ (r : StoredArrival). r.filed) s.arrived r at))
        | inr nowhere ↦ none_in_nil q nowhere
      ])

  -- an old posting has another key than a new one
  posted_apart : (p q : AcceptedSet) → Contains s.postings p → Contains k.postings q → is_same_key p.key q.key ≡ false
  posted_apart p q at there = elim (cases_Bool (is_same_key p.key q.key)) [
    | inl is ↦
        let f = any_is (is_under (interchange_holding p.key)) (map (λ (r : StoredArrival). r.filed) s.arrived) (All-contains (λ (p : AcceptedSet). list_any (is_under (interchange_holding p.key)) (map (λ (r : StoredArrival). r.filed) s.arrived) ≡ true) s.postings p sound.of_filed at) in
        let its : interchange_holding p.key ≡ filed_key k.filed = ap interchange_holding (same_key p.key q.key is) ∙ All-contains (λ (p : AcceptedSet). interchange_holding p.key ≡ filed_key k.filed) k.postings q theirs.theirs there in
        clash (is_same_interchange (filed_key f.0) (filed_key k.filed)) (subst (λ key. is_same_interchange (filed_key f.0) key ≡ true) its f.2) (not_under f.0 f.1)
    | inr not ↦ not
  ]

  any_left : (a b : Bool) → a ≡ true → (a || b) ≡ true
  any_left true b e = refl
  any_left false b e = absurd cc

  any_right : (a b : Bool) → b ≡ true → (a || b) ≡ true
  any_right true b e = refl
  any_right false b e = e

  filed_list : map (λ (r : StoredArrival). r.filed) (s.arrived ++ row ∷ []) ≡ map (λ (r : StoredArrival). r.filed) s.arrived ++ k.filed ∷ []
  filed_list = map-append (λ (r : StoredArrival). r.filed) s.arrived (row ∷ [])

  of_filed_after : AreOfFiled (map (λ (r : StoredArrival). r.filed) (s.arrived ++ row ∷ [])) (s.postings ++ k.postings)
  of_filed_after = all_from_contains (λ (p : AcceptedSet). list_any (is_under (interchange_holding p.key)) (map (λ (r : StoredArrival). r.filed) (s.arrived ++ row ∷ [])) ≡ true) (s.postings ++ k.postings)
      (λ p at. ap (list_any (is_under (interchange_holding p.key))) filed_list ∙ any_append (is_under (interchange_holding p.key)) (map (λ (r : StoredArrival). r.filed) s.arrived) (k.filed ∷ []) ∙ elim (Contains-append_cases s.postings k.postings p at) [
        | inl old ↦ any_left (list_any (is_under (interchange_holding p.key)) (map (λ (r : StoredArrival). r.filed) s.arrived)) (list_any (is_under (interchange_holding p.key)) (k.filed ∷ []))
            (All-contains (λ (p : AcceptedSet). list_any (is_under (interchange_holding p.key)) (map (λ (r : StoredArrival). r.filed) s.arrived) ≡ true) s.postings p sound.of_filed old)
        | inr fresh ↦ any_right (list_any (is_under (interchange_holding p.key)) (map (λ (r : StoredArrival). r.filed) s.arrived)) (list_any (is_under (interchange_holding p.key)) (k.filed ∷ []))
            (any_left (is_same_interchange (filed_key k.filed) (interchange_holding p.key)) false (ap (is_same_interchange (filed_key k.filed)) (All-contains (λ (p : AcceptedSet). interchange_holding p.key ≡ filed_key k.filed) k.postings p theirs.theirs fresh) ∙ interchange_itself (filed_key k.filed)))
      ])

  pub sound_filed : IsSound filed_after
  sound_filed = record {
    numbered = numbered_filed s sound.numbered book k ts;
    few = few;
    rows = rows_filed book (s.seq + 1) k ts s sound;
    whole = subst (All HasSets) (sym entries_after) (All-map HasSets (entry_settled_by ts) (entries s) (λ n d at. (whole_settled ts (get_or (entries s) n d) (entries_whole s sound n d at)).sets));
    in_order = λ me. subst AreInOrder (sym (submitted_after me)) (sound.in_order me);
    used = subst (All (IsNumberedBy book)) (sym entries_after)
        (All-map (IsNumberedBy book) (entry_settled_by ts) (entries s) (λ n d at. numbered_settled book ts (get_or (entries s) n d) (used_later s.book book later (entries s) sound.used n d at)));
    filed_once = filed_distinct;
    posted_once = distinct_append (λ (p q : AcceptedSet). is_same_key p.key q.key) s.postings k.postings sound.posted_once (rise_distinct k.postings theirs.rise) posted_apart;
    of_filed = of_filed_after;
    handed = let before = sound.handed in let more = length-append s.postings k.postings in omega (arith, before, more);
    agreed_once = sound.agreed_once;
    agreed = sound.agreed;
  }
