-- Which records answer: those of the node that is asked, those of all, and that none is won back.
use Rattle.std.specs.Prelude.{◌≡◌, ℕ, zero, suc, ◌-◌, ◌<◌, ◌≤◌, List, [], ◌∷◌, ◌++◌, Bool, true, false, ◌&&◌, ◌==◌, if◌then◌else◌, Option, Some, None, is_some, option_map, option_to_list, IsTrue, get_or, set, map, length, refl}
use mathlib.Core.Path.{sym, ap, subst, ◌∙◌}
use mathlib.Core.Logic.{inl, inr}
use native.Mathlib.Omega.{arith}
use Rattle.std.proofs.lemmas.Bool.{and_parts, and_from}
use Rattle.std.proofs.lemmas.Bool.Decides.{eqb_tells}
use Rattle.std.proofs.lemmas.List.{length-map}
use Rattle.x12_core.specs.Node.{Node, IsHub, IsStation, hub_node, second_hub_node}
use Rattle.x12_hub.specs.HubView.{HubView}
use Rattle.x12_station.specs.Seen.{StationView}
use Rattle.x12_world.specs.declared.hubs.Hubs.{Hubs as CodeHubs}
use Rattle.x12_world.specs.Effect.{Asked}
use Rattle.x12_world.specs.Nodes.{is_hub_number, by_number}
use Rattle.x12_world.specs.Running.{NoneWonBack, Running, all_answer, all_true, answers_beside, asked_answers, founders_answer, second_answers, station_answers, station_answers_at, station_nodes}
use Rattle.x12_world.proofs.KeyLemmas.{false_true}

-- Lists of answers.
pub all_append : (xs ys : List Bool) → all_true (xs ++ ys) ≡ (all_true xs && all_true ys)
all_append [] ys = refl
all_append (true ∷ xs) ys = all_append xs ys
all_append (false ∷ xs) ys = refl

pub all_get : (xs : List Bool) → IsTrue (all_true xs) → (k : ℕ) → IsTrue (get_or xs k true)
all_get [] e k = refl
all_get (x ∷ xs) e zero = (and_parts x (all_true xs) e).0
all_get (x ∷ xs) e (suc k) = all_get xs (and_parts x (all_true xs) e).1 k

pub all_by : (xs : List Bool) → ((k : ℕ) → IsTrue (get_or xs k true)) → IsTrue (all_true xs)
all_by [] each = refl
all_by (x ∷ xs) each = and_from x (all_true xs) (each zero) (all_by xs (λ k. each (suc k)))

pub all_back : (old new : List Bool) → NoneWonBack old new → IsTrue (all_true new) → IsTrue (all_true old)
all_back old new back all = all_by old (λ k. back k (all_get new all k))

seam : (xs : List Bool) (b d : Bool) (n : ℕ) → n ≡ length xs → get_or (xs ++ b ∷ []) n d ≡ b
seam [] b d zero e = refl
seam [] b d (suc n) e = absurd (omega arith)
seam (x ∷ xs) b d zero e = absurd (omega arith)
seam (x ∷ xs) b d (suc n) e = seam xs b d n (omega arith)

pub in_front : (xs more : List Bool) (k : ℕ) → k < length xs → get_or (xs ++ more) k true ≡ get_or xs k true
in_front [] more k lt = absurd (omega arith)
in_front (x ∷ xs) more zero lt = refl
in_front (x ∷ xs) more (suc k) lt = in_front xs more k (omega arith)

-- None is won back: where the first, one of the last, or one between changed.
pub won_itself : (xs : List Bool) → NoneWonBack xs xs
won_itself xs k e = e

pub won_among : {R : Type 0} → (ss : List (StationView R)) (i : ℕ) (old new : StationView R) → i < length ss → old ≡ get_or ss i old → (IsTrue new.answers → IsTrue old.answers) → NoneWonBack (station_answers ss) (station_answers (set ss i new))
won_among [] i old new lt is back k e = e
won_among (s ∷ ss) zero old new lt is back zero e = subst (λ (z : StationView _). IsTrue z.answers) is (back e)
won_among (s ∷ ss) zero old new lt is back (suc k) e = e
won_among (s ∷ ss) (suc i) old new lt is back zero e = e
won_among (s ∷ ss) (suc i) old new lt is back (suc k) e = won_among ss i old new (omega arith) is back k e

pub won_beside : (xs ys more : List Bool) → length xs ≡ length ys → NoneWonBack xs ys → NoneWonBack (xs ++ more) (ys ++ more)
won_beside [] [] more n back k e = e
won_beside [] (y ∷ ys) more n back k e = absurd (omega arith)
won_beside (x ∷ xs) [] more n back k e = absurd (omega arith)
won_beside (x ∷ xs) (y ∷ ys) more n back zero e = back zero e
won_beside (x ∷ xs) (y ∷ ys) more n back (suc k) e = won_beside xs ys more (omega arith) (λ j. back (suc j)) k e

pub won_stations : {H : Type 0} → (h : CodeHubs H) (xs ys : List Bool) → length xs ≡ length ys → NoneWonBack xs ys → NoneWonBack (answers_beside h xs) (answers_beside h ys)
won_stations h xs ys n back = won_beside (h.first.answers ∷ xs) (h.first.answers ∷ ys) (map (λ (k : HubView _). k.answers) (option_to_list h.second)) (ap suc n) (by back)
  where
    by : NoneWonBack xs ys → NoneWonBack (h.first.answers ∷ xs) (h.first.answers ∷ ys)
    by back zero e = e
    by back (suc k) e = back k e

-- The station that changed.
pub set_answers : {R : Type 0} → (ss : List (StationView R)) (i : ℕ) (new : StationView R) → i < length ss → get_or (station_answers (set ss i new)) i true ≡ new.answers
set_answers [] i new lt = absurd (omega arith)
set_answers (s ∷ ss) zero new lt = refl
set_answers (s ∷ ss) (suc i) new lt = set_answers ss i new (omega arith)

-- All stations, as one condition.
pub mapped_all : {R : Type 0} → (ss : List (StationView R)) → all_true (station_answers ss) ≡ all_answer ss
mapped_all [] = refl
mapped_all (s ∷ ss) = ap (λ b. s.answers && b) (mapped_all ss)

second_all : {H : Type 0} → (second : Option (HubView H)) → all_true (map (λ (k : HubView H). k.answers) (option_to_list second)) ≡ second_answers second
second_all None = refl
second_all (Some k) = alone k.answers
  where
    alone : (b : Bool) → (b && true) ≡ b
    alone true = refl
    alone false = refl

-- all of them: those of the hubs, and those of the stations
pub founders_parts : {H R : Type 0} → (h : HubView H) (second : Option (HubView H)) (ss : List (StationView R)) → founders_answer h second ss ≡ ((h.answers && second_answers second) && all_answer ss)
founders_parts h second ss =
    all_append (h.answers ∷ station_answers ss) (map (λ (k : HubView _). k.answers) (option_to_list second))
    ∙ ap (λ b. (h.answers && all_true (station_answers ss)) && b) (second_all second)
    ∙ ap (λ b. (h.answers && b) && second_answers second) (mapped_all ss)
    ∙ turned h.answers (all_answer ss) (second_answers second)
  where
    turned : (a b c : Bool) → ((a && b) && c) ≡ ((a && c) && b)
    turned true true true = refl
    turned true true false = refl
    turned true false true = refl
    turned true false false = refl
    turned false b c = refl

-- The records of a node, by its number.
module _ {H R : Type 0} (h : CodeHubs H) (ss : List (StationView R)) (i : ℕ) where
  abbrev behind : List Bool
  behind = h.first.answers ∷ station_answers ss

  abbrev at_number : Option (HubView H) → Bool
  at_number o = by_number i (get_or (behind ++ map (λ (k : HubView H). k.answers) (option_to_list o)) i true)
      (get_or (behind ++ map (λ (k : HubView H). k.answers) (option_to_list o)) (suc (length (station_nodes ss))) true)
      (option_map IsHub (option_map (λ (k : HubView H). k.hub) o))

  count : length behind ≡ suc (length (station_nodes ss))
  count = ap suc (length-map ss (λ (s : StationView R). s.answers) ∙ sym (length-map ss (λ (s : StationView R). IsStation s.state)))

  pub number_of_hub : (o : Option (HubView H)) → is_hub_number (is_some o) i ≡ true → at_number o ≡ (if i == hub_node then h.first.answers else second_answers o)
  number_of_hub None tells = elim (eqb_tells i 0) [
    | inl is ↦ rw is.1 refl
    | inr apart ↦ absurd (false_true (rw apart.0 at tells))
  ]
  number_of_hub (Some k) tells = elim (eqb_tells i 0) [
    | inl is ↦ rw is.1 refl
    | inr apart ↦ elim (eqb_tells i second_hub_node) [
      | inl same ↦ rw (apart.0, same.0) (seam behind k.answers true (suc (length (station_nodes ss))) (sym count))
      | inr other ↦ absurd (false_true (rw (apart.0, other.0) at tells))
    ]
  ]

  get_station : (more : List Bool) → 1 ≤ i → i ≤ length ss → get_or (behind ++ more) i true ≡ station_answers_at ss i
  get_station more low high = by i low high
    where
      by : (n : ℕ) → 1 ≤ n → n ≤ length ss → get_or (behind ++ more) n true ≡ get_or (station_answers ss) (n - 1) true
      by zero low high = absurd (omega arith)
      by (suc n) low high = let e : suc n - 1 ≡ n = omega arith in let m = length-map ss (λ (s : StationView R). s.answers) in rw e (in_front (station_answers ss) more n (omega arith))

  pub number_of_station : (o : Option (HubView H)) → is_hub_number (is_some o) i ≡ false → 1 ≤ i → i ≤ length ss → at_number o ≡ station_answers_at ss i
  number_of_station None isnt low high = get_station [] low high
  number_of_station (Some k) isnt low high = elim (eqb_tells i second_hub_node) [
    | inl same ↦ elim (eqb_tells i 0) [
      | inl is ↦ absurd (false_true (sym (rw (is.0) at isnt)))
      | inr apart ↦ absurd (false_true (sym (rw (apart.0, same.0) at isnt)))
    ]
    | inr other ↦ rw (other.0) (get_station (k.answers ∷ []) low high)
  ]

-- where all answer, the one that is asked does
pub asked_of_all : (r : Running) → IsTrue (all_true r.answers) → (o : Option Asked) → IsTrue (asked_answers r o)
asked_of_all r all None = refl
asked_of_all r all (Some a) = by r.world.nodes.second
  where
    by : (o : Option Node) → IsTrue (by_number a.node (get_or r.answers a.node true) (get_or r.answers (length r.world.nodes.listed) true) o)
    by None = all_get r.answers all a.node
    by (Some n) = if_all (a.node == second_hub_node)
      where
        if_all : (t : Bool) → IsTrue (if t then get_or r.answers (length r.world.nodes.listed) true else get_or r.answers a.node true)
        if_all true = all_get r.answers all (length r.world.nodes.listed)
        if_all false = all_get r.answers all a.node
