-- A fault of a node's records was counted at that node alone.
use Rattle.std.specs.Prelude.{◌≡◌, ℕ, zero, suc, ◌<◌, List, [], ◌∷◌, ◌++◌, Some, refl, length, set, slice_get, get_or, Result, Ok, Err}
use mathlib.Core.Path.{sym, ap, ap₂, subst, ◌∙◌}
use Rattle.std.specs.Result.{IsErrAnd}
use Rattle.std.proofs.lemmas.List.{map-set}
use Rattle.std.proofs.lemmas.Option.{slice_get-map, slice_get-get_or}
use Rattle.x12_hub.specs.HubView.{HubView}
use Rattle.x12_numbers.specs.Count.{CountRose}
use Rattle.x12_station.specs.Seen.{StationView}
use Rattle.x12_core.specs.declared.fault.CoreFault.{CoreFault}
use Rattle.x12_core.specs.declared.fault.CoreFault.TheVariants as code
use Rattle.x12_core.specs.declared.fault.NodeFault.TheVariants.{OfStation, OfHub}
use Rattle.x12_core.specs.Fault.{CountsCore, WasCounted}
use Rattle.x12_station.specs.declared.fault.StationFault.{StationFault}
use Rattle.x12_station.specs.declared.fault.StationFault.TheVariants as station
use Rattle.x12_world.specs.declared.refused.Refused.{Refused}
use Rattle.x12_world.specs.declared.refused.Refused.TheVariants as refused
use Rattle.x12_world.specs.declared.hubs.Hubs.{Hubs as CodeHubs}
use Rattle.x12_world.specs.Failing.{CountsAsked, CountsOne, CountsStation, OneFailed, SaysFailed, SaysOneFailed, failures_beside, failures_of, station_failures}
use Rattle.x12_world.specs.Running.{second_failures}
use Rattle.x12_world.specs.RefusedNumber.{refused_by_core}
use Rattle.x12_world.proofs.NetworkLemmas.{get_left}

set_more : {X : Type 0} (xs more : List X) (i : ℕ) (x y : X) → slice_get xs i ≡ Some y → set (xs ++ more) i x ≡ set xs i x ++ more
set_more [] more i x y e = absurd cc
set_more (z ∷ xs) more zero x y e = refl
set_more (z ∷ xs) more (suc i) x y e = ap (λ l. z ∷ l) (set_more xs more i x y e)

-- one of more that failed
one_of_more : (old new more : List ℕ) → OneFailed old new → OneFailed (old ++ more) (new ++ more)
one_of_more old new more f = record {
  place = f.place;
  before = f.before;
  after = f.after;
  was = get_left old more f.place f.before f.was;
  rose = f.rose;
  others = ap (λ l. l ++ more) f.others ∙ sym (set_more old more f.place f.after f.before f.was);
}

beside_first : (h : ℕ) (old new more : List ℕ) → OneFailed old new → OneFailed ((h ∷ old) ++ more) ((h ∷ new) ++ more)
beside_first h old new more f = one_of_more (h ∷ old) (h ∷ new) more (record { place = suc f.place; before = f.before; after = f.after; was = f.was; rose = f.rose; others = ap (λ ns. h ∷ ns) f.others })

-- one station failed, of these
pub failed_among : {R : Type 0} → (ss : List (StationView R)) (i : ℕ) (old new : StationView R) → i < length ss → old ≡ get_or ss i old
    → CountRose old.failures new.failures → OneFailed (station_failures ss) (station_failures (set ss i new))
failed_among ss i old new within is rose = record {
  place = i;
  before = old.failures;
  after = new.failures;
  was = slice_get-map (λ (s : StationView _). s.failures) ss i ∙ rw (slice_get-get_or ss i old within) (ap (λ (s : StationView _). Some s.failures) (sym is));
  rose = rose;
  others = map-set (λ (s : StationView _). s.failures) ss i new;
}

set_alike : (ns : List ℕ) (i n : ℕ) → slice_get ns i ≡ Some n → set ns i n ≡ ns
set_alike [] i n e = absurd cc
set_alike (m ∷ ns) zero n e = let same : m ≡ n = cc in ap (λ k. k ∷ ns) (sym same)
set_alike (m ∷ ns) (suc i) n e = ap (λ l. m ∷ l) (set_alike ns i n e)

pub counts_alike : {R : Type 0} → (ss : List (StationView R)) (i : ℕ) (old new : StationView R) → i < length ss → old ≡ get_or ss i old
    → new.failures ≡ old.failures → station_failures (set ss i new) ≡ station_failures ss
counts_alike ss i old new within is same =
    map-set (λ (s : StationView _). s.failures) ss i new
    ∙ set_alike (station_failures ss) i new.failures
    (slice_get-map (λ (s : StationView _). s.failures) ss i ∙ rw (slice_get-get_or ss i old within) (ap (λ (s : StationView _). Some s.failures) (sym is) ∙ ap Some (sym same)))

says_among : (e : Refused) (old new : ℕ) (olds news : List ℕ) → SaysFailed e old new → (CountRose old new → OneFailed olds news) → SaysOneFailed e olds news
says_among (refused.Node (OfStation fault)) old new olds news says failed = λ is. failed (says is)
says_among (refused.Node (OfHub fault)) old new olds news says failed = λ is. absurd says
says_among refused.NoSuchPacket old new olds news says failed = tt
says_among refused.SpokenFor old new olds news says failed = tt
says_among refused.NoSuchNode old new olds news says failed = tt
says_among refused.Memory old new olds news says failed = tt
says_among refused.BadNetwork old new olds news says failed = tt
says_among refused.Exhausted old new olds news says failed = tt

-- a call of one of these stations is a call of them
pub counts_among : {A R : Type 0} (r : Result A Refused) (ss : List (StationView R)) (i : ℕ) (old new : StationView R) → i < length ss → old ≡ get_or ss i old
    → CountsStation r old.failures new.failures → CountsOne r (station_failures ss) (station_failures (set ss i new))
counts_among (Ok a) ss i old new within is counts = record { ok = counts_alike ss i old new within is counts.ok; refused = tt }
counts_among (Err e) ss i old new within is counts = record {
  ok = tt;
  refused = says_among e old.failures new.failures (station_failures ss) (station_failures (set ss i new)) counts.refused (failed_among ss i old new within is);
}

-- behind calls that counted nothing
pub counts_behind : {A : Type 0} (r : Result A Refused) (old mid new : List ℕ) → mid ≡ old → CountsOne r mid new → CountsOne r old new
counts_behind r old mid new same counts = subst (λ ns. CountsOne r ns new) same counts

-- a refusal that is handed on
pub counts_handed : {A B : Type 0} (r : Result A Refused) (e : Refused) (old new : List ℕ) → IsErrAnd r (λ f. f ≡ e) → CountsOne {A = B} (Err e) old new → CountsOne r old new
counts_handed (Ok a) e old new is counts = absurd is
counts_handed (Err f) e old new is counts = record { ok = tt; refused = subst (λ (g : Refused). SaysOneFailed g old new) (sym is) counts.refused }

-- a fault that a station gave
pub counts_told : {A : Type 0} (r : Result A Refused) (fault : StationFault) (old new : List ℕ) → IsErrAnd r (λ e. e ≡ refused.Node (OfStation fault)) → (fault ≡ station.Store → OneFailed old new) → CountsOne r old new
counts_told (Ok a) fault old new is failed = absurd is
counts_told (Err e) fault old new is failed = record { ok = tt; refused = subst (λ (f : Refused). SaysOneFailed f old new) (sym is) failed }

says_beside : (e : Refused) (h : ℕ) (old new more : List ℕ) → SaysOneFailed e old new → SaysOneFailed e ((h ∷ old) ++ more) ((h ∷ new) ++ more)
says_beside (refused.Node (OfStation fault)) h old new more says = λ is. beside_first h old new more (says is)
says_beside (refused.Node (OfHub fault)) h old new more says = λ is. beside_first h old new more (says is)
says_beside refused.NoSuchPacket h old new more says = tt
says_beside refused.SpokenFor h old new more says = tt
says_beside refused.NoSuchNode h old new more says = tt
says_beside refused.Memory h old new more says = tt
says_beside refused.BadNetwork h old new more says = tt
says_beside refused.Exhausted h old new more says = tt

-- the hubs weren't asked
pub counts_beside : {A H R : Type 0} (r : Result A Refused) (h : CodeHubs H) (old new : List (StationView R)) → CountsOne r (station_failures old) (station_failures new) → CountsOne r (failures_of h old) (failures_of h new)
counts_beside (Ok a) h old new counts = record { ok = ap (failures_beside h) counts.ok; refused = tt }
counts_beside (Err e) h old new counts = record { ok = tt; refused = says_beside e h.first.failures (station_failures old) (station_failures new) (second_failures h.second) counts.refused }

pub failed_behind : {H R : Type 0} → (h : CodeHubs H) (ss : List (StationView R)) (i : ℕ) (old new : StationView R) → i < length ss → old ≡ get_or ss i old
    → CountRose old.failures new.failures → OneFailed (failures_of h ss) (failures_of h (set ss i new))
failed_behind h ss i old new within is rose = beside_first h.first.failures (station_failures ss) (station_failures (set ss i new)) (second_failures h.second) (failed_among ss i old new within is rose)

pub first_failed : {H : Type 0} → (old new : CodeHubs H) (fs : List ℕ) → new.second ≡ old.second → CountRose old.first.failures new.first.failures → OneFailed (failures_beside old fs) (failures_beside new fs)
first_failed old new fs same rose = record { place = 0; before = old.first.failures; after = new.first.failures; was = refl; rose = rose; others = ap (λ s. (new.first.failures ∷ fs) ++ second_failures s) same }

last_there : (xs : List ℕ) (x : ℕ) → slice_get (xs ++ x ∷ []) (length xs) ≡ Some x
last_there [] x = refl
last_there (y ∷ xs) x = last_there xs x

last_changed : (xs : List ℕ) (x y : ℕ) → set (xs ++ x ∷ []) (length xs) y ≡ xs ++ y ∷ []
last_changed [] x y = refl
last_changed (z ∷ xs) x y = ap (λ l. z ∷ l) (last_changed xs x y)

pub second_failed : {H : Type 0} → (old new : CodeHubs H) (fs : List ℕ) (k g : HubView H) → old.second ≡ Some k → new.second ≡ Some g → new.first ≡ old.first → CountRose k.failures g.failures → OneFailed (failures_beside old fs) (failures_beside new fs)
second_failed old new fs k g was is first rose = record {
  place = length (old.first.failures ∷ fs);
  before = k.failures;
  after = g.failures;
  was = ap (λ s. slice_get ((old.first.failures ∷ fs) ++ second_failures s) (length (old.first.failures ∷ fs))) was ∙ last_there (old.first.failures ∷ fs) k.failures;
  rose = rose;
  others =
      ap (λ (z : HubView _). (z.failures ∷ fs) ++ second_failures new.second) first
      ∙ ap (λ s. (old.first.failures ∷ fs) ++ second_failures s) is
      ∙ sym (last_changed (old.first.failures ∷ fs) k.failures g.failures)
      ∙ ap (λ s. set ((old.first.failures ∷ fs) ++ second_failures s) (length (old.first.failures ∷ fs)) g.failures) (sym was);
}

-- what a core's count says of the network's
pub said_so : (f : CoreFault) (before after : ℕ) (old new : List ℕ) → WasCounted f before after → (CountRose before after → OneFailed old new) → SaysOneFailed (refused_by_core f) old new
said_so (code.Node (OfStation fault)) before after old new was failed = λ is. failed (was is)
said_so (code.Node (OfHub fault)) before after old new was failed = λ is. failed (was is)
said_so code.Memory before after old new was failed = tt
said_so code.WrongKind before after old new was failed = tt

-- a core of one of these stations was asked
pub asked_among : {A R : Type 0} (r : Result A CoreFault) (ss : List (StationView R)) (i : ℕ) (old new : StationView R) → i < length ss → old ≡ get_or ss i old
    → CountsCore r old.failures new.failures → CountsAsked r (station_failures ss) (station_failures (set ss i new))
asked_among (Ok a) ss i old new within is counts = record { ok = counts_alike ss i old new within is counts.ok; refused = tt }
asked_among (Err f) ss i old new within is counts = record { ok = tt; refused = said_so f old.failures new.failures _ _ counts.refused (failed_among ss i old new within is) }

-- the first hub's core, and the second hub's
pub asked_first : {A H : Type 0} (r : Result A CoreFault) (old new : CodeHubs H) (fs : List ℕ) → new.second ≡ old.second
    → CountsCore r old.first.failures new.first.failures → CountsAsked r (failures_beside old fs) (failures_beside new fs)
asked_first (Ok a) old new fs same counts = record { ok = ap₂ (λ n s. (n ∷ fs) ++ second_failures s) counts.ok same; refused = tt }
asked_first (Err f) old new fs same counts = record { ok = tt; refused = said_so f old.first.failures new.first.failures _ _ counts.refused (first_failed old new fs same) }

pub asked_second : {A H : Type 0} (r : Result A CoreFault) (old new : CodeHubs H) (fs : List ℕ) (k g : HubView H) → old.second ≡ Some k → new.second ≡ Some g → new.first ≡ old.first
    → CountsCore r k.failures g.failures → CountsAsked r (failures_beside old fs) (failures_beside new fs)
asked_second (Ok a) old new fs k g was is first counts = record {
  ok =
      ap₂ (λ (z : HubView _) s. (z.failures ∷ fs) ++ second_failures s) first is
      ∙ ap (λ n. (old.first.failures ∷ fs) ++ n ∷ []) counts.ok
      ∙ ap (λ s. (old.first.failures ∷ fs) ++ second_failures s) (sym was);
  refused = tt;
}
asked_second (Err f) old new fs k g was is first counts = record { ok = tt; refused = said_so f k.failures g.failures _ _ counts.refused (second_failed old new fs k g was is first) }

-- what a core refused, as the network hands it on
pub asked_handed : {A B : Type 0} (r : Result A Refused) (f : CoreFault) (old new : List ℕ) → IsErrAnd r (λ e. e ≡ refused_by_core f) → CountsAsked {A = B} (Err f) old new → CountsOne r old new
asked_handed (Ok a) f old new is counts = absurd is
asked_handed (Err e) f old new is counts = record { ok = tt; refused = subst (λ (g : Refused). SaysOneFailed g old new) (sym is) counts.refused }

-- the stations beside the hubs, which weren't asked
pub asked_beside : {A H R : Type 0} (r : Result A CoreFault) (h : CodeHubs H) (old new : List (StationView R)) → CountsAsked r (station_failures old) (station_failures new) → CountsAsked r (failures_of h old) (failures_of h new)
asked_beside (Ok a) h old new counts = record { ok = ap (failures_beside h) counts.ok; refused = tt }
asked_beside (Err f) h old new counts = record { ok = tt; refused = says_beside (refused_by_core f) h.first.failures (station_failures old) (station_failures new) (second_failures h.second) counts.refused }
