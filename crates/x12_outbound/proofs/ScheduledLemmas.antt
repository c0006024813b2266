-- A ledger that drops what has no pending set.
use Rattle.std.proofs.Common.{ℕ, ◌≡◌, ◌+◌, ◌-◌, ◌<◌, ◌∙◌, ◌==◌, ◌||◌, suc, ap, ap₂, sym, subst, inl, inr, Bool, true, false, List, [], ◌∷◌, map, filter, find, flat_map, length, get_or, slice_get, Option, Some, None, is_some, option_map, option_and_then, if◌then◌else◌, IfSome, arith, refl}
use Rattle.std.specs.List.{enumerate_from, list_any, AllByRecursion}
use Rattle.std.proofs.lemmas.Bool.{cases_Bool}
use Rattle.std.proofs.lemmas.Bool.Decides.{nat_tests}
use Rattle.std.proofs.lemmas.List.Elements.{All-map, All-filter}
use Rattle.std.proofs.lemmas.List.Kept.{AllPairs-filter}
use Rattle.x12_envelopes.specs.declared.party.Party.{Party}
use Rattle.x12_judge.specs.Agreement.{is_same_party}
use Rattle.x12_acks.specs.Submission.{IsBefore, Submission, SubmittedGroup, SubmittedSet, TransactionSetKey, KeyedSet, KeyedGroup, keyed_set, keyed_group, keyed_groups, keyed_sets}
use Rattle.x12_outbound.specs.declared.fate.Fate.{Fate}
use Rattle.x12_outbound.specs.declared.schedule.Schedule.{Schedule}
use Rattle.x12_outbound.specs.Fate.{is_pending}
use Rattle.x12_outbound.specs.Entry.{SetRow, GroupRow, InterchangeRow, submission_of_entry, submitted_group_of_row, submitted_set_of_row, row_is_open, at_place, set_row_at, IsSendable}
use Rattle.x12_outbound.specs.Settling.{Fates}
use Rattle.x12_outbound.specs.Ledger.{OutboundLedger, LedgerRow, AreInOrder, IcnsRise, submitted_by, ledger_submissions, interchange_in, interchange_numbered, row_in, row_of, fates, open_alone, NoneIsOut}
use Rattle.x12_outbound.specs.Plan.{KeepsSubmissions, HoldsWhatIsOpen, scheduled, is_open_by, is_pending_at}
use Rattle.x12_acks.proofs.ReplyGroupLemmas.{same_party_itself}
use Rattle.x12_numbers.proofs.Shelf.{pairs_from_map, any_append, list_any-map, pairs_to_map, all_from_map}
use Rattle.x12_outbound.proofs.LedgerLemmas.{icns_rise}

-- what is kept of what a list stands for
pub filter_view : {X Y : Type 0} (v : X → Y) (p : Y → Bool) (xs : List X) → map v (filter (λ x. p (v x)) xs) ≡ filter p (map v xs)
filter_view v p [] = refl
filter_view v p (x ∷ xs) = elim (cases_Bool (p (v x))) [
  | inl passes ↦ rw passes (ap (λ ys. v x ∷ ys) (filter_view v p xs))
  | inr fails ↦ rw fails (filter_view v p xs)
]

-- The order of what is kept.

pub order_kept : (me : Party) (p : LedgerRow → Bool) (rows new : List LedgerRow) → new ≡ filter p rows → AreInOrder (submitted_by me rows) → AreInOrder (submitted_by me new)
unfolding submitted_by
order_kept me p rows new is order =
    let tell = λ (r : LedgerRow). submission_of_entry me r.interchange in
    rw is (record {
      sendable = All-map IsSendable tell (filter p rows) (All-filter p (λ r. IsSendable (tell r)) rows (all_from_map tell IsSendable rows order.sendable));
      before = pairs_to_map tell IsBefore (filter p rows) (AllPairs-filter (λ a b. IsBefore (tell a) (tell b)) p rows (pairs_from_map tell IsBefore rows order.before));
    })

-- What is found among what is kept.

abbrev numbered : ℕ → LedgerRow → Bool
numbered icn r = r.interchange.icn == icn

rest_rise : (x : LedgerRow) (xs : List LedgerRow) → IcnsRise (x ∷ xs) → IcnsRise xs
rest_rise x xs rise = λ i j d before within. rise (suc i) (suc j) d (omega arith) (omega arith)

all_rec : {X : Type 0} (P : X → Type 0) (xs : List X) → ((k : ℕ) (d : X) → k < length xs → P (get_or xs k d)) → AllByRecursion P xs
all_rec P [] all = tt
all_rec P (x ∷ xs) all = (all 0 x (omega arith), all_rec P xs (λ k d within. all (suc k) d (omega arith)))

later_rise : (x : LedgerRow) (xs : List LedgerRow) → IcnsRise (x ∷ xs) → AllByRecursion (λ r. x.interchange.icn < r.interchange.icn) xs
later_rise x xs rise = all_rec (λ r. x.interchange.icn < r.interchange.icn) xs (λ k d within. rise 0 (suc k) d (omega arith) (omega arith))

-- none of higher numbers is found
none_later : (icn : ℕ) (p : LedgerRow → Bool) (xs : List LedgerRow) → AllByRecursion (λ r. icn < r.interchange.icn) xs → find (numbered icn) (filter p xs) ≡ None
none_later icn p [] later = refl
none_later icn p (x ∷ xs) later =
    let other : numbered icn x ≡ false = differs x.interchange.icn later.0 in
    elim (cases_Bool (p x)) [
      | inl keeps ↦ rw (keeps, other) (none_later icn p xs later.1)
      | inr drops ↦ rw drops (none_later icn p xs later.1)
    ]
  where
    differs : (n : ℕ) → icn < n → (n == icn) ≡ false
    differs n less = grind (arith, nat_tests, less)

find_kept : (icn : ℕ) (p : LedgerRow → Bool) (xs : List LedgerRow) → IcnsRise xs → (r : LedgerRow) → find (numbered icn) (filter p xs) ≡ Some r → find (numbered icn) xs ≡ Some r
find_kept icn p [] rise r is = is
find_kept icn p (x ∷ xs) rise r is = elim (cases_Bool (p x)) [
  | inl keeps ↦ elim (cases_Bool (numbered icn x)) [
    | inl here ↦ rw here (rw (keeps, here) at is)
    | inr not ↦ rw not (find_kept icn p xs (rest_rise x xs rise) r (rw (keeps, not) at is))
  ]
  | inr drops ↦ elim (cases_Bool (numbered icn x)) [
    | inl here ↦
        let same : x.interchange.icn ≡ icn = equal x.interchange.icn here in
        let later = subst (λ (n : ℕ). AllByRecursion (λ (r : LedgerRow). n < r.interchange.icn) xs) same (later_rise x xs rise) in
        absurd (none_some (sym (none_later icn p xs later) ∙ rw drops at is))
    | inr not ↦ rw not (find_kept icn p xs (rest_rise x xs rise) r (rw drops at is))
  ]
]
  where
    equal : (n : ℕ) → (n == icn) ≡ true → n ≡ icn
    equal n is = grind (arith, nat_tests)

    none_some : None ≡ Some r → ⊥
    none_some same = cc

-- the rows of sets among what is kept
module _ (me : Party) (p : LedgerRow → Bool) (rows : List LedgerRow) (rise : IcnsRise rows) (key : TransactionSetKey) where
  same_interchange : (e : InterchangeRow) → interchange_in (filter p rows) key.icn ≡ Some e → interchange_in rows key.icn ≡ Some e
  unfolding interchange_in
  same_interchange e is = by (find (numbered key.icn) (filter p rows)) refl is
    where
      by : (o : Option LedgerRow) → find (numbered key.icn) (filter p rows) ≡ o → option_map (λ (r : LedgerRow). r.interchange) o ≡ Some e → option_map (λ (r : LedgerRow). r.interchange) (find (numbered key.icn) rows) ≡ Some e
      by (Some r) found is = rw (find_kept key.icn p rows rise r found) is
      by None found is = absurd (let no : ⊥ = cc in no)

  pub row_kept_or_none : row_in me (filter p rows) key ≡ (if is_some (interchange_in (filter p rows) key.icn) then row_in me rows key else None)
  unfolding row_in
  row_kept_or_none = by (interchange_in (filter p rows) key.icn) refl
    where
      none_of : (b : Bool) → (if b then option_and_then (set_row_at key.group key.set) None else None) ≡ None
      none_of true = refl
      none_of false = refl

      by : (o : Option InterchangeRow) → interchange_in (filter p rows) key.icn ≡ o → (if is_same_party key.sender me then option_and_then (set_row_at key.group key.set) (interchange_in (filter p rows) key.icn) else None)
          ≡ (if is_some (interchange_in (filter p rows) key.icn) then (if is_same_party key.sender me then option_and_then (set_row_at key.group key.set) (interchange_in rows key.icn) else None) else None)
      by (Some e) is = rw (is, same_interchange e is) refl
      by None is = rw is (none_of (is_same_party key.sender me))

-- A row is open where a set of it is pending by its key.

sets_any : (f : ℕ → Option Fate) (n : ℕ) (sets : List SetRow) → ((j : ℕ) → f (n + j) ≡ option_map (λ (s : SetRow). s.fate) (slice_get sets j))
    → list_any (λ (s : ℕ × SubmittedSet). is_pending_at (f s.0)) (enumerate_from n (map submitted_set_of_row sets)) ≡ list_any (λ (s : SetRow). is_pending s.fate) sets
sets_any f n [] fares = refl
sets_any f n (s ∷ sets) fares =
    let first : n + 0 ≡ n = omega arith in
    let here : f n ≡ Some s.fate = ap f (sym first) ∙ fares 0 in
    ap₂ (λ a b. a || b) (ap is_pending_at here) (sets_any f (n + 1) sets (λ j. let next : n + 1 + j ≡ n + suc j = omega arith in ap f next ∙ fares (suc j)))

abbrev key_at : Submission → ℕ → ℕ → TransactionSetKey
key_at e group set = record { sender = e.sender; icn = e.icn; group = group; set = set }

groups_any : (e : Submission) (fare : Fates) (n : ℕ) (groups : List GroupRow)
    → ((i j : ℕ) → fare (key_at e (n + i) (1 + j)) ≡ option_and_then (λ (g : GroupRow). option_map (λ (s : SetRow). s.fate) (slice_get g.sets j)) (slice_get groups i))
    → list_any (λ (s : KeyedSet). is_pending_at (fare s.key)) (flat_map (λ (g : KeyedGroup). g.sets) (map (λ (g : ℕ × SubmittedGroup). keyed_group e g.0 g.1) (enumerate_from n (map submitted_group_of_row groups))))
    ≡ list_any (λ (g : GroupRow). list_any (λ (s : SetRow). is_pending s.fate) g.sets) groups
groups_any e fare n [] fares = refl
groups_any e fare n (g ∷ groups) fares =
    let pending = λ (s : KeyedSet). is_pending_at (fare s.key) in
    let first : n + 0 ≡ n = omega arith in
    let of = λ (s : ℕ × SubmittedSet). keyed_set e n s.0 s.1 in
    any_append pending (map of (enumerate_from 1 (map submitted_set_of_row g.sets))) _
    ∙ ap₂ (λ a b. a || b)
    (list_any-map pending of (enumerate_from 1 (map submitted_set_of_row g.sets)) ∙ sets_any (λ set. fare (key_at e n set)) 1 g.sets (λ j. ap (λ (m : ℕ). fare (key_at e m (1 + j))) (sym first) ∙ fares 0 j))
    (groups_any e fare (n + 1) groups (λ i j. let next : n + 1 + i ≡ n + suc i = omega arith in ap (λ (m : ℕ). fare (key_at e m (1 + j))) next ∙ fares (suc i) j))

module _ (v : OutboundLedger) (fare : Fates) (fares : (k : TransactionSetKey) → fates v k ≡ fare k) where
  place_is : {X : Type 0} (j : ℕ) (xs : List X) → at_place (1 + j) xs ≡ slice_get xs j
  place_is j xs =
      let some : (1 + j == 0) ≡ false = grind (arith, nat_tests) in
      let back : 1 + j - 1 ≡ j = omega arith in
      rw (some, back) refl

  open_by_key : (e : InterchangeRow) → interchange_in v.rows e.icn ≡ Some e → row_is_open e ≡ is_open_by fare (submission_of_entry v.me e)
  unfolding is_open_by keyed_sets keyed_groups row_in set_row_at
  open_by_key e here =
      sym (groups_any (submission_of_entry v.me e) fare 1 e.groups
      (λ i j. sym (fares (key_at (submission_of_entry v.me e) (1 + i) (1 + j))) ∙ rw (same_party_itself v.me, here) (by (at_place (1 + i) e.groups) (slice_get e.groups i) (place_is i e.groups) j)))
    where
      by : (o q : Option GroupRow) → o ≡ q → (j : ℕ) → option_map (λ (s : SetRow). s.fate) (option_and_then (λ (g : GroupRow). at_place (1 + j) g.sets) o)
          ≡ option_and_then (λ (g : GroupRow). option_map (λ (s : SetRow). s.fate) (slice_get g.sets j)) q
      by o (Some g) is j = rw is (ap (option_map (λ (s : SetRow). s.fate)) (place_is j g.sets))
      by o None is j = rw is refl

  -- the same of each row
  selves : (rows : List LedgerRow) → IcnsRise rows → AllByRecursion (λ r. find (numbered r.interchange.icn) rows ≡ Some r) rows
  selves [] rise = tt
  selves (x ∷ xs) rise = (rw (itself x.interchange.icn) refl, lift xs (later_rise x xs rise) (selves xs (rest_rise x xs rise)))
    where
      itself : (n : ℕ) → (n == n) ≡ true
      itself n = grind (arith, nat_tests)

      differs : (m n : ℕ) → m < n → (m == n) ≡ false
      differs m n less = grind (arith, nat_tests, less)

      lift : (ys : List LedgerRow) → AllByRecursion (λ r. x.interchange.icn < r.interchange.icn) ys → AllByRecursion (λ r. find (numbered r.interchange.icn) xs ≡ Some r) ys
          → AllByRecursion (λ r. find (numbered r.interchange.icn) (x ∷ xs) ≡ Some r) ys
      lift [] less all = tt
      lift (y ∷ ys) less all = (rw (differs x.interchange.icn y.interchange.icn less.0) all.0, lift ys less.1 all.1)

  abbrev tell : LedgerRow → Submission × Schedule
  tell r = (submission_of_entry v.me r.interchange, r.schedule)

  found : (r : LedgerRow) → find (numbered r.interchange.icn) v.rows ≡ Some r → interchange_in v.rows r.interchange.icn ≡ Some r.interchange
  unfolding interchange_in
  found r is = rw is refl

  open_same : (rows : List LedgerRow) → AllByRecursion (λ r. find (numbered r.interchange.icn) v.rows ≡ Some r) rows → filter (λ r. row_is_open r.interchange) rows ≡ filter (λ r. is_open_by fare (tell r).0) rows
  open_same [] all = refl
  open_same (r ∷ rows) all =
      let one : row_is_open r.interchange ≡ is_open_by fare (submission_of_entry v.me r.interchange) = open_by_key r.interchange (found r all.0) in
      elim (cases_Bool (is_open_by fare (submission_of_entry v.me r.interchange))) [
        | inl is ↦ rw (one, is) (ap (λ rs. r ∷ rs) (open_same rows all.1))
        | inr not ↦ rw (one, not) (open_same rows all.1)
      ]

  pub scheduled_open : IcnsRise v.rows → scheduled (open_alone v) ≡ filter (λ s. is_open_by fare s.0) (scheduled v)
  unfolding scheduled open_alone
  scheduled_open rise = ap (map tell) (open_same v.rows (selves v.rows rise)) ∙ filter_view tell (λ s. is_open_by fare s.0) v.rows

-- what is submitted, and when it is due, is all that is scheduled
scheduled_same : (old mid : OutboundLedger) → KeepsSubmissions old mid → scheduled mid ≡ scheduled old
unfolding scheduled submitted_by
scheduled_same old mid kept = pairs (λ r. submission_of_entry mid.me r.interchange) (λ r. r.schedule) (λ r. submission_of_entry old.me r.interchange) (λ r. r.schedule) mid.rows old.rows kept.submitted kept.schedules
  where
    pairs : {X A B : Type 0} (f : X → A) (g : X → B) (h : X → A) (k : X → B) (xs ys : List X) → map f xs ≡ map h ys → map g xs ≡ map k ys → map {A = X} {B = A × B} (λ x. (f x, g x)) xs ≡ map {A = X} {B = A × B} (λ y. (h y, k y)) ys
    pairs f g h k [] [] first second = refl
    pairs f g h k [] (y ∷ ys) first second = absurd (let no : ⊥ = cc in no)
    pairs f g h k (x ∷ xs) [] first second = absurd (let no : ⊥ = cc in no)
    pairs f g h k (x ∷ xs) (y ∷ ys) first second =
        let a : f x ≡ h y = cc in
        let b : g x ≡ k y = cc in
        let firsts : map f xs ≡ map h ys = cc in
        let seconds : map g xs ≡ map k ys = cc in
        ap₂ (λ p ps. p ∷ ps) (ap₂ (λ p q. (p, q)) a b) (pairs f g h k xs ys firsts seconds)

-- settled, and then without what has no pending set
module _ (old mid new : OutboundLedger) (kept : KeepsSubmissions old mid) (dropped : new ≡ open_alone mid) (order : AreInOrder (ledger_submissions mid)) where
  rise : IcnsRise mid.rows
  rise = icns_rise mid.me mid.rows order

  row_left : (key : TransactionSetKey) → row_of new key ≡ (if is_some (interchange_numbered new key.icn) then row_of mid key else None)
  unfolding open_alone
  row_left key = rw dropped (row_kept_or_none mid.me (λ r. row_is_open r.interchange) mid.rows rise key)

  pub holds_what_is_open : (fare : Fates) → ((k : TransactionSetKey) → fates mid k ≡ fare k) → HoldsWhatIsOpen old new fare
  unfolding open_alone scheduled
  holds_what_is_open fare fares = record {
    me = ap (λ (v : OutboundLedger). v.me) dropped ∙ kept.me;
    hubs = ap (λ (v : OutboundLedger). v.hubs) dropped ∙ kept.hubs;
    tick = ap (λ (v : OutboundLedger). v.tick) dropped ∙ kept.tick;
    scheduled = ap scheduled dropped ∙ scheduled_open mid fare fares rise ∙ ap (filter (λ s. is_open_by fare s.0)) (scheduled_same old mid kept);
    fates = λ key. ap (option_map (λ (s : SetRow). s.fate)) (row_left key) ∙ by (is_some (interchange_numbered new key.icn)) (row_of mid key) (fare key) (fares key);
  }
    where
      by : (b : Bool) (o : Option SetRow) (f : Option Fate) → option_map (λ (s : SetRow). s.fate) o ≡ f → option_map (λ (s : SetRow). s.fate) (if b then o else None) ≡ (if b then f else None)
      by true o f is = is
      by false o f is = refl

  pub none_out_kept : NoneIsOut mid → NoneIsOut new
  none_out_kept none key = by (is_some (interchange_numbered new key.icn)) (row_of new key) (row_left key)
    where
      by : (b : Bool) (o : Option SetRow) → o ≡ (if b then row_of mid key else None) → IfSome o (λ s. s.is_out ≡ false)
      by true o is = rw is (none key)
      by false o is = rw is tt
