-- A submitted set by its key: by the number of its interchange first.
use Rattle.std.proofs.Common.{◌≡◌, ◌≢◌, ℕ, suc, ◌<◌, List, [], ◌∷◌, Bool, true, false, ◌&&◌, ◌==◌, Option, Some, None, map, find, flat_map, get_or, inl, inr, Vec, Result, Ok, Err, IfOk, option_map, refl, ap, sym, ◌∙◌, arith}
use mathlib.Core.Bool.{cond}
use Rattle.std.specs.Prelude.{option_and_then, bytes_eq, is_some, slice_get, IsTrue, IfErr, length, set}
use mathlib.Core.Path.{subst}
use Rattle.std.specs.Result.{IsErrAnd}
use Rattle.std.proofs.Math.Seq.{map-set_same}
use Rattle.std.proofs.lemmas.List.{get_or-map, length-map}
use Rattle.x12_envelopes.specs.declared.party.Party.{Party}
use Rattle.x12_outbound.specs.declared.fate.Fate.{Fate}
use Rattle.x12_station.specs.Seen.{StationView}
use Rattle.x12_station.specs.Station.{Station}
use Rattle.std.specs.Global.{Global}
use Rattle.std.specs.Option.{option_or}
use Rattle.std.specs.List.{All, AllPairs, list_all}
use Rattle.x12_inbound.specs.Register.{posted_in}
use Rattle.std.proofs.lemmas.Bool.Decides.{eqb_tells}
use Rattle.std.proofs.lemmas.List.Elements.{All-head, All-tail}
use Rattle.std.proofs.lemmas.List.Folds.{find-append}
use Rattle.x12_acks.specs.Accepted.{AcceptedSet}
use Rattle.x12_acks.specs.Key.{is_same_key}
use Rattle.x12_acks.specs.Submission.{TransactionSetKey}
use Rattle.x12_judge.specs.Agreement.{is_same_party}
use Rattle.x12_profile.specs.Interchange.{Bytes, PlacedTransactionSet}
use Rattle.x12_profile.specs.X12.{x12}
use Rattle.x12_station.specs.History.{Item, postings, submissions, submission_under}
use Rattle.x12_station.specs.Key.{OwnSet, own_fate, own_key, own_set, own_sets}
use Rattle.x12_world.specs.Asking.{states_of, IsMissed}
use Rattle.x12_world.specs.Audit.{Audit, NoAuditIsBad, audit, audit_of, station_named, stations_of}
use Rattle.x12_world.specs.Auditing.{bytes_of_posting, first_under, found_under, held_under, held_set_view, set_under, station_among}
use Rattle.x12_world.specs.Placing.{AddressedSet, addressed}
use Rattle.x12_world.specs.World.{World}
use Rattle.x12_world.specs.Running.{all_answer}
use Rattle.x12_world.specs.Submission.{NumbersRise}
use Rattle.x12_world.specs.declared.placing.Addressed.{Addressed}
use Rattle.x12_world.specs.declared.refused.Refused.{Refused}
use Rattle.x12_world.proofs.AskingLemmas.{state_there}
use Rattle.x12_world.proofs.PostedLemmas.{first_is_found}
use Rattle.x12_numbers.proofs.Shelf.{found_passes, option_or_none, some_inj}
use Rattle.x12_outbound.proofs.FirstEvidenceLemmas.{same_key}
use Rattle.x12_world.proofs.RunningLemmas.{answered_before, answers_there, if_err}
use Rattle.std.proofs.lemmas.Result.{IfOk-weaker}

-- a set of these bytes has the key
abbrev pub has_key : TransactionSetKey → OwnSet → Bool
has_key k c = is_same_key k (own_key x12 c)

abbrev pub own_of : Bytes → List PlacedTransactionSet → List OwnSet
own_of x ts = map (λ t. record { interchange = x; set = t }) ts

abbrev pub sets_in : Bytes → List OwnSet
sets_in x = own_of x (x12.sets x)

-- the numbers rise
abbrev pub Rising : List Bytes → Type 0
Rising xs = AllPairs (λ a b. x12.number a < x12.number b) xs

other_key : (a b c d : Bool) → b ≡ false → (a && b && c && d) ≡ false
other_key true b c d e = rw e refl
other_key false b c d e = refl

differs : (a b : ℕ) → a ≢ b → (b == a) ≡ false
differs a b ne = elim (eqb_tells b a) [
  | inl same ↦ absurd (ne (sym same.1))
  | inr other ↦ other.0
]

-- bytes of another number have no set with this key
pub other_number : (k : TransactionSetKey) (x : Bytes) (ts : List PlacedTransactionSet) → x12.number x ≢ k.icn → find (has_key k) (own_of x ts) ≡ None
other_number k x [] other = refl
other_number k x (t ∷ ts) other =
    ap (λ b. cond b (Some (record { interchange = x; set = t })) (find (has_key k) (own_of x ts)))
    (other_key (is_same_party k.sender (x12.sender x)) (k.icn == x12.number x) (k.group == t.place.group) (k.set == t.place.set) (differs (x12.number x) k.icn other))
    ∙ other_number k x ts other

none_of : (k : TransactionSetKey) (xs : List Bytes) → All (λ y. x12.number y ≢ k.icn) xs → find (has_key k) (flat_map sets_in xs) ≡ None
none_of k [] others = refl
none_of k (y ∷ ys) others =
    find-append (has_key k) (sets_in y) (flat_map sets_in ys)
    ∙ ap (λ o. option_or o (find (has_key k) (flat_map sets_in ys))) (other_number k y (x12.sets y) (All-head (λ y. x12.number y ≢ k.icn) y ys others))
    ∙ none_of k ys (All-tail (λ y. x12.number y ≢ k.icn) y ys others)

-- of submissions with rising numbers
found_by_number : (k : TransactionSetKey) (xs : List Bytes) → Rising xs
    → find (has_key k) (flat_map sets_in xs) ≡ option_and_then (set_under k) (find (λ x. x12.number x == k.icn) xs)
found_by_number k [] rising = refl
found_by_number k (x ∷ xs) rising = find-append (has_key k) (sets_in x) (flat_map sets_in xs) ∙ elim (eqb_tells (x12.number x) k.icn) [
  | inl same ↦ ap (option_or (find (has_key k) (sets_in x))) (none_of k xs (later same.1))
      ∙ option_or_none (find (has_key k) (sets_in x))
      ∙ sym (ap (λ b. option_and_then (set_under k) (cond b (Some x) (find (λ x. x12.number x == k.icn) xs))) same.0)
  | inr other ↦ ap (λ o. option_or o (find (has_key k) (flat_map sets_in xs))) (other_number k x (x12.sets x) other.1)
      ∙ found_by_number k xs (λ i j d below lt. rising (suc i) (suc j) d (omega arith) (omega arith))
      ∙ sym (ap (λ b. option_and_then (set_under k) (cond b (Some x) (find (λ x. x12.number x == k.icn) xs))) other.0)
]
  where
    later : x12.number x ≡ k.icn → All (λ y. x12.number y ≢ k.icn) xs
    later same j d lt e = let below : x12.number x < x12.number (get_or xs j d) = rising 0 (suc j) d (omega arith) (omega arith) in omega arith

pub own_set_is : (items : List Item) (k : TransactionSetKey) → Rising (submissions items)
    → own_set x12 items k ≡ option_and_then (set_under k) (submission_under x12 items k.icn)
own_set_is items k rising = found_by_number k (submissions items) rising

-- the bytes under the key's number tell the set of the key
pub alone : {E : Type 0} (items : List Item) (k : TransactionSetKey) (r : Result (Option (Vec ℕ Global)) E) → Rising (submissions items)
    → IfOk r (λ o. option_map (λ v. v.items) o ≡ submission_under x12 items k.icn)
    → IfOk r (λ o. own_set x12 items k ≡ option_and_then (set_under k) (option_map (λ v. v.items) o))
alone items k (Ok o) rising is = own_set_is items k rising ∙ ap (option_and_then (set_under k)) (sym is)
alone items k (Err e) rising is = tt

-- One of the stations is asked, and stays as it is.
module _ {R : Type 0} (ss : List (StationView R)) (i : ℕ) (old new : StationView R) (within : i < length ss) (is : old ≡ get_or ss i old) where
  pub asked_still : (IsTrue new.answers → IsTrue old.answers) → IsTrue (all_answer (set ss i new)) → IsTrue (all_answer ss)
  asked_still still = answered_before ss i new old within (λ e. subst (λ (s : StationView _). IsTrue s.answers) is (still e))

  pub asked_states : (IsTrue new.answers → new.state ≡ old.state) → IsTrue (all_answer (set ss i new)) → states_of (set ss i new) ≡ states_of ss
  asked_states same answers = map-set_same (λ (s : StationView _). s.state) ss i new old (same (answers_there ss i new within answers) ∙ ap (λ (s : StationView _). s.state) is)

-- the station of a party, as a search found it
pub among_found : {R : Type 0} → (ss seen : List (StationView R)) → seen ≡ ss → (party : Party) (i : ℕ) (s : StationView R) → i < length ss → s ≡ get_or ss i s
    → find (λ s. is_same_party s.me party) (states_of seen) ≡ slice_get (states_of seen) i → station_among (states_of ss) party ≡ Some s.state
among_found ss seen same party i s within is found =
    subst (λ rs. find (λ s. is_same_party s.me party) (states_of rs) ≡ slice_get (states_of rs) i) same found ∙ state_there ss i s is within

-- what it holds
rise_there : {R : Type 0} → (ss : List (StationView R)) (i : ℕ) (s : StationView R) → i < length ss → s ≡ get_or ss i s → All NumbersRise (states_of ss) → NumbersRise s.state
rise_there ss i s within is rise =
    subst NumbersRise (get_or-map (λ (s : StationView _). s.state) ss i s s.state within ∙ ap (λ (s : StationView _). s.state) (sym is))
    (rise i s.state (let e = length-map ss (λ (s : StationView _). s.state) in omega arith))

pub held_there : {R : Type 0} → (ss : List (StationView R)) (i : ℕ) (s : StationView R) (k : TransactionSetKey) (r : Result (Option (Addressed × Fate)) Refused) → i < length ss → s ≡ get_or ss i s
    → station_among (states_of ss) k.sender ≡ Some s.state → All NumbersRise (states_of ss)
    → (NumbersRise s.state → IfOk r (λ o. option_map held_set_view o ≡ held_under s.state k))
    → IfOk r (λ o. option_map held_set_view o ≡ option_and_then (λ s. held_under s k) (station_among (states_of ss) k.sender))
held_there ss i s k r within is found rise held =
    IfOk-weaker r (λ o. option_map held_set_view o ≡ held_under s.state k) (λ o. option_map held_set_view o ≡ option_and_then (λ s. held_under s k) (station_among (states_of ss) k.sender))
    (λ o e. e ∙ sym (ap (option_and_then (λ s. held_under s k)) found)) (held (rise_there ss i s within is rise))

pub refused_there : {R : Type 0} → {T : Type 0} (ss : List (StationView R)) (party : Party) (s : Station) (r : Result T Refused) → station_among (states_of ss) party ≡ Some s
    → IfErr r IsMissed → IfErr r (λ e. IsMissed e × (is_some (station_among (states_of ss) party) ≡ true))
refused_there ss party s r found missed = if_err r IsMissed (λ e. IsMissed e × (is_some (station_among (states_of ss) party) ≡ true)) (λ e m. (m, ap is_some found)) missed

pub there_so : {R : Type 0} → {T : Type 0} (ss : List (StationView R)) (party : Party) (s : Station) (r : Result (Option T) Refused) → station_among (states_of ss) party ≡ Some s
    → IfOk r (λ o. is_some o ≡ true → is_some (station_among (states_of ss) party) ≡ true)
there_so ss party s (Ok o) found = λ some. ap is_some found
there_so ss party s (Err e) found = tt

-- what its receiver has
pub first_there : (ss : List Station) (party : Party) (k : TransactionSetKey) (bytes : Bytes) (s : Station) (o : Option AcceptedSet) (told : ℕ × Bool) → station_among ss party ≡ Some s
    → o ≡ posted_in (postings x12 s.items) k → told ≡ (length (bytes_of_posting o), list_all (bytes_eq bytes) (bytes_of_posting o))
    → (Some told.0, told.1) ≡ first_under (station_among ss party) k bytes
first_there ss party k bytes s o told found posted counted =
    ap (λ t. (Some t.0, t.1)) counted
    ∙ ap (λ q. (Some (length (bytes_of_posting q)), list_all (bytes_eq bytes) (bytes_of_posting q))) posted
    ∙ sym (ap (λ r. first_under r k bytes) found)

abbrev pub pair : AddressedSet → Fate → AddressedSet × Fate
pair set fate = (set, fate)

-- the two sides, as the audit
abbrev pub audit_by : TransactionSetKey → AddressedSet → Fate → Option ℕ × Bool → Audit
audit_by k set fate found = record { key = k; receiver = set.receiver; fate = fate; posted = found.0; intact = found.1 }

module _ (ss : List Station) (w : World) (are : stations_of w ≡ ss) (k : TransactionSetKey) (set : AddressedSet) (fate : Fate) (found : Option ℕ × Bool)
    (receiver : found ≡ found_under (station_among ss set.receiver) k set.bytes) where
  of_own : (s : Station) (o : Option OwnSet) → own_set x12 s.items k ≡ o → Some (pair set fate) ≡ option_map (λ c. (addressed c, own_fate x12 s.me s.hubs s.items c)) o → Some (audit_by k set fate found) ≡ option_map (audit_of x12 w s) o
  of_own s None is e = absurd cc
  of_own s (Some c) is e =
      let same : pair set fate ≡ pair (addressed c) (own_fate x12 s.me s.hubs s.items c) = some_inj e in
      let key : k ≡ own_key x12 c = same_key k (own_key x12 c) (found_passes (λ d. is_same_key k (own_key x12 d)) (own_sets x12 s.items) c is).1 in
      let sets : set ≡ addressed c = ap (λ p. p.0) same in
      let fates : fate ≡ own_fate x12 s.me s.hubs s.items c = ap (λ p. p.1) same in
      let posted : found ≡ found_under (station_named w (x12.receiver c.interchange)) (own_key x12 c) c.set.bytes =
      receiver ∙ ap (λ z. found_under (station_among ss z.receiver) k z.bytes) sets ∙ ap (λ j. found_under (station_among ss (x12.receiver c.interchange)) j c.set.bytes) key
      ∙ ap (λ rs. found_under (station_among rs (x12.receiver c.interchange)) (own_key x12 c) c.set.bytes) (sym are) in
      ap (λ j. Some (audit_by j set fate found)) key
      ∙ ap (λ z. Some (audit_by (own_key x12 c) z fate found)) sets
      ∙ ap (λ f. Some (audit_by (own_key x12 c) (addressed c) f found)) fates
      ∙ ap (λ r. Some (audit_by (own_key x12 c) (addressed c) (own_fate x12 s.me s.hubs s.items c) r)) posted

  of_sender : (o : Option Station) → Some (pair set fate) ≡ option_and_then (λ s. held_under s k) o → Some (audit_by k set fate found) ≡ option_and_then (λ s. option_map (audit_of x12 w s) (own_set x12 s.items k)) o
  of_sender None e = absurd cc
  of_sender (Some s) e = of_own s (own_set x12 s.items k) refl e

  pub audited : Some (pair set fate) ≡ option_and_then (λ s. held_under s k) (station_among ss k.sender) → Some (audit_by k set fate found) ≡ audit x12 w k
  audited e = of_sender (station_among ss k.sender) e ∙ ap (λ rs. option_and_then (λ s. option_map (audit_of x12 w s) (own_set x12 s.items k)) (station_among rs k.sender)) (sym are)

-- a set that its sender hasn't submitted has no audit
module _ (w : World) (k : TransactionSetKey) where
  of_none : (s : Station) (o : Option OwnSet) → ◌≡◌ {A = Option (AddressedSet × Fate)} None (option_map (λ c. (addressed c, own_fate x12 s.me s.hubs s.items c)) o) → None ≡ option_map (audit_of x12 w s) o
  of_none s None e = refl
  of_none s (Some c) e = absurd cc

  of_stranger : (o : Option Station) → None ≡ option_and_then (λ s. held_under s k) o → None ≡ option_and_then (λ s. option_map (audit_of x12 w s) (own_set x12 s.items k)) o
  of_stranger None e = refl
  of_stranger (Some s) e = of_none s (own_set x12 s.items k) e

  pub unheld : (ss : List Station) → stations_of w ≡ ss → None ≡ option_and_then (λ s. held_under s k) (station_among ss k.sender) → None ≡ audit x12 w k
  unheld ss are e = of_stranger (station_among ss k.sender) e ∙ ap (λ rs. option_and_then (λ s. option_map (audit_of x12 w s) (own_set x12 s.items k)) (station_among rs k.sender)) (sym are)

-- where no audit is bad, the first posting under the key is enough
pub audited_first : (ss : List Station) (w : World) → stations_of w ≡ ss → NoAuditIsBad x12 w → (k : TransactionSetKey) (set : AddressedSet) (fate : Fate) (found : Option ℕ × Bool)
    → found ≡ first_under (station_among ss set.receiver) k set.bytes → Some (pair set fate) ≡ option_and_then (λ s. held_under s k) (station_among ss k.sender)
    → Some (audit_by k set fate found) ≡ audit x12 w k
audited_first ss w are good k set fate found first held =
    let receiver = station_among ss set.receiver in
    let all = found_under receiver k set.bytes in
    let is : Some (audit_by k set fate all) ≡ audit x12 w k = audited ss w are k set fate all refl held in
    ap (λ f. Some (audit_by k set fate f)) (first ∙ first_is_found fate all.1 receiver k set.bytes (good k (audit_by k set fate all) (sym is))) ∙ is

-- a fault that is handed on
pub missed_there : {T : Type 0} (there : Bool) (r : Result T Refused) (e : Refused) → IsErrAnd r (λ f. f ≡ e) → there ≡ true → IsMissed e → IfErr r (λ f. IsMissed f × (there ≡ true))
missed_there there (Ok x) e same is missed = tt
missed_there there (Err f) e same is missed = (subst IsMissed (sym same) missed, is)
