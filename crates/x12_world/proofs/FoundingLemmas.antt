-- A network of these nodes is reached: nothing was sent yet.
use Rattle.std.specs.Prelude.{◌≡◌, ◌≢◌, ℕ, zero, suc, ◌+◌, ◌<◌, ◌≤◌, List, [], ◌∷◌, ◌++◌, Bool, true, false, ◌||◌, if◌then◌else◌, not, IsTrue, All, Option, Some, None, option_map, option_to_list, refl, map, length, take, get_or}
use Rattle.std.specs.List.{AllPairs, list_any}
use mathlib.Core.Path.{sym, ap, subst, ◌∙◌}
use mathlib.Core.Logic.{inl, inr}
use native.Mathlib.Omega.{arith}
use Rattle.std.proofs.lemmas.List.{append-nil, take_all, take_more}
use Rattle.std.proofs.lemmas.List.Elements.{All-nil, All-cons, All-head, All-tail}
use Rattle.std.proofs.lemmas.List.Kept.{AllPairs-cons}
use Rattle.x12_envelopes.specs.declared.party.Party.{Party}
use Rattle.x12_envelopes.specs.Party.{is_plain_party}
use Rattle.x12_judge.specs.Agreement.{is_same_party}
use Rattle.x12_profile.specs.X12.{x12}
use Rattle.x12_profile.proofs.PartyLemmas.{is_same_party-Decides}
use Rattle.x12_hub.specs.Hub.{Hub, new_hub}
use Rattle.x12_station.specs.Seen.{StationView}
use Rattle.x12_station.specs.Station.{new_station}
use Rattle.std.proofs.lemmas.Bool.{and_parts, not-true, and_from}
use Rattle.x12_station.proofs.SeqLemmas.{all_front, pairs_head, pairs_tail}
use Rattle.x12_station.proofs.LoadingLemmas.{pairs_before}
use Rattle.x12_world.specs.Founding.{all_differ, home_among, network_of, parties, IsMember, IsNewHub, MakesNetwork}
use Rattle.x12_world.specs.Network.{Member, IsHubNumber, believed_at, new_nodes, parties_in}
use Rattle.x12_world.specs.Nodes.{Nodes}
use Rattle.x12_world.proofs.HubStateLemmas.{pairs_push}
use Rattle.x12_world.proofs.KeyLemmas.{false_true}
use Rattle.x12_world.specs.Reach.{IsReachable, ReachLaws}
use Rattle.x12_world.specs.Run.{new_world}
use Rattle.x12_world.specs.Running.{all_answer, beside, station_nodes}
use Rattle.x12_core.specs.Node.{IsHub, IsStation, hub_node, second_hub_node}
use Rattle.x12_numbers.proofs.Shelf.{all_push, false_is_never_true, no_pairs}
use Rattle.x12_station.proofs.ArrivedNewLemmas.{plain_is}

pub all_more : {X : Type 0} (P : X → Type 0) (xs : List X) (i : ℕ) (d : X) → i < length xs → All P (take i xs) → P (get_or xs i d) → All P (take (i + 1) xs)
all_more P xs i d lt all p = subst (All P) (sym (take_more xs i d lt)) (all_push P (take i xs) (get_or xs i d) all p)

pub all_taken : {X : Type 0} (P : X → Type 0) (xs : List X) (i : ℕ) → length xs ≤ i → All P (take i xs) → All P xs
all_taken P xs i le = subst (All P) (take_all i xs le)

pub answers_at : {R : Type 0} → (ss : List (StationView R)) (i : ℕ) (d : StationView R) → i < length ss → IsTrue (all_answer ss) → IsTrue (get_or ss i d).answers
answers_at [] i d lt h = absurd (omega arith)
answers_at (s ∷ ss) zero d lt h = (and_parts s.answers (all_answer ss) h).0
answers_at (s ∷ ss) (suc i) d lt h = answers_at ss i d (omega arith) (and_parts s.answers (all_answer ss) h).1

-- a party among others
pub named_parties : {R : Type 0} → (p : Party) (ss : List (StationView R)) → list_any (λ (s : StationView R). is_same_party p s.state.me) ss ≡ list_any (is_same_party p) (parties ss)
named_parties p [] = refl
named_parties p (s ∷ ss) = rw (named_parties p ss) refl

none_step : (p q : Party) (ps : List Party) (t : Bool) → is_same_party p q ≡ t → (t || list_any (is_same_party p) ps) ≡ false → (list_any (is_same_party p) ps ≡ false → All (λ r. p ≢ r) ps) → All (λ r. p ≢ r) (q ∷ ps)
none_step p q ps true is e rest = absurd cc
none_step p q ps false is e rest = All-cons (λ r. p ≢ r) q ps (λ same. false_is_never_true (sym is ∙ (is_same_party-Decides p q).1 same)) (rest e)

none_same : (p : Party) (ps : List Party) → list_any (is_same_party p) ps ≡ false → All (λ q. p ≢ q) ps
none_same p [] e = All-nil (λ q. p ≢ q)
none_same p (q ∷ ps) e = none_step p q ps (is_same_party p q) refl e (none_same p ps)

apart : (p q : Party) → p ≢ q → is_same_party p q ≡ false
apart p q ne = by (is_same_party p q) refl
  where
    by : (t : Bool) → is_same_party p q ≡ t → t ≡ false
    by true is = absurd (ne ((is_same_party-Decides p q).0 is))
    by false is = refl

same_none : (p : Party) (ps : List Party) → All (λ q. p ≢ q) ps → list_any (is_same_party p) ps ≡ false
same_none p [] all = refl
same_none p (q ∷ ps) all = rw (apart p q (All-head (λ q. p ≢ q) q ps all)) (same_none p ps (All-tail (λ q. p ≢ q) q ps all))

pub differ_means : (ps : List Party) → all_differ ps ≡ true → AllPairs (λ a b. a ≢ b) ps
differ_means [] e = λ i j d lt within. absurd (omega arith)
differ_means (p ∷ ps) e =
    let parts = and_parts (not (list_any (is_same_party p) ps)) (all_differ ps) e in
    AllPairs-cons (λ a b. a ≢ b) p ps (none_same p ps (not-true (list_any (is_same_party p) ps) parts.0)) (differ_means ps parts.1)

pub means_differ : (ps : List Party) → AllPairs (λ a b. a ≢ b) ps → all_differ ps ≡ true
means_differ [] pairs = refl
means_differ (p ∷ ps) pairs =
    and_from (not (list_any (is_same_party p) ps)) (all_differ ps)
    (ap not (same_none p ps (pairs_head (λ a b. a ≢ b) p ps pairs)))
    (means_differ ps (pairs_tail (λ a b. a ≢ b) p ps pairs))

pub hub_apart : (p : Party) (ps : List Party) → list_any (is_same_party p) ps ≡ false → all_differ ps ≡ true → all_differ (p ∷ ps) ≡ true
hub_apart p ps none differ = and_from (not (list_any (is_same_party p) ps)) (all_differ ps) (ap not none) differ

-- a list of two is apart where each is, and all of the one from all of the other
pairs_front : {X : Type 0} (L : X → X → Type 0) (xs ys : List X) → AllPairs L (xs ++ ys) → AllPairs L xs
pairs_front L [] ys all = no_pairs L
pairs_front L (x ∷ xs) ys all = AllPairs-cons L x xs (all_front (L x) xs ys (pairs_head L x (xs ++ ys) all)) (pairs_front L xs ys (pairs_tail L x (xs ++ ys) all))

-- the first hub's party among others, and the second hub's
module _ (me : Party) (ps : List Party) where
  abbrev pub among : Party → Bool
  among p = is_same_party p me || list_any (is_same_party p) ps

  abbrev apart_with : Option Party → Type 0
  apart_with second = AllPairs (λ (a : Party) b. a ≢ b) ((me ∷ ps) ++ option_to_list second)

  pub all_apart : (second : Option Party) → list_any (is_same_party me) ps ≡ false → not (list_any among (option_to_list second)) ≡ true → all_differ ps ≡ true → apart_with second
  all_apart None none out differ = subst (AllPairs (λ (a : Party) b. a ≢ b)) (sym (append-nil (me ∷ ps))) (differ_means (me ∷ ps) (hub_apart me ps none differ))
  all_apart (Some q) none out differ =
      let unlike : among q ≡ false = sole (among q) (not-true (list_any among (q ∷ [])) out) in
      let others = none_same q (me ∷ ps) unlike in
      pairs_push (λ (a : Party) b. a ≢ b) (me ∷ ps) q (differ_means (me ∷ ps) (hub_apart me ps none differ)) (λ k d lt same. others k d lt (sym same))
    where
      sole : (b : Bool) → (b || false) ≡ false → b ≡ false
      sole false e = refl
      sole true e = absurd cc

  pub not_apart : {P : Type 0} (second : Option Party) → list_any (is_same_party me) ps ≡ true → apart_with second → P
  not_apart second some pairs = false_is_never_true (sym (same_none me ps (pairs_head (λ a b. a ≢ b) me ps (pairs_front (λ a b. a ≢ b) (me ∷ ps) (option_to_list second) pairs))) ∙ some)

  pub not_all_apart : {P : Type 0} (second : Option Party) → all_differ ps ≡ false → apart_with second → P
  not_all_apart second some pairs = false_is_never_true (sym some ∙ means_differ ps (pairs_tail (λ a b. a ≢ b) me ps (pairs_front (λ a b. a ≢ b) (me ∷ ps) (option_to_list second) pairs)))

  pub not_second_apart : {P : Type 0} (second : Option Party) → not (list_any among (option_to_list second)) ≡ false → apart_with second → P
  not_second_apart None some pairs = absurd cc
  not_second_apart (Some q) some pairs =
      let before = pairs_before (λ (a : Party) b. a ≢ b) (me ∷ ps) [] q pairs in
      let none : among q ≡ false = same_none q (me ∷ ps) (λ k d lt same. before k d lt (sym same)) in
      absurd (let e : not (among q || false) ≡ true = rw none refl in false_true (sym some ∙ e))

-- the members of a network, and their nodes
parties_of_members : {R : Type 0} → (h : Hub) (second : Option Hub) (ss : List (StationView R)) → map (λ (m : Member). m.party) (network_of h second ss).stations ≡ parties ss
parties_of_members h second [] = refl
parties_of_members h second (s ∷ ss) = ap (λ ps. s.state.me ∷ ps) (parties_of_members h second ss)

pub network_parties : {R : Type 0} → (h : Hub) (second : Option Hub) (ss : List (StationView R)) → parties_in (network_of h second ss) ≡ (h.me ∷ parties ss) ++ option_to_list (option_map (λ (k : Hub). k.me) second)
network_parties h second ss = ap (λ ps. (h.me ∷ ps) ++ option_to_list (option_map (λ (k : Hub). k.me) second)) (parties_of_members h second ss)

homes_of_members : {R : Type 0} → (h : Hub) (second : Option Hub) (ss : List (StationView R)) → map (λ (s : StationView R). home_among (option_map (λ (k : Hub). k.me) second) s.state.hubs) ss ≡ map (λ (m : Member). m.home) (network_of h second ss).stations
homes_of_members h second [] = refl
homes_of_members h second (s ∷ ss) = ap (λ hs. home_among (option_map (λ (k : Hub). k.me) second) s.state.hubs ∷ hs) (homes_of_members h second ss)

members_new : {R : Type 0} → (h : Hub) (second : Option Hub) (ss : List (StationView R)) → All (λ (s : StationView R). IsMember h.me (option_map (λ (k : Hub). k.me) second) s.state) ss
    → station_nodes ss ≡ map (λ (m : Member). IsStation (new_station m.party (believed_at h.me (option_map (λ (k : Hub). k.me) second) m.home))) (network_of h second ss).stations
members_new h second [] all = refl
members_new h second (s ∷ ss) all =
    let other = option_map (λ (k : Hub). k.me) second in
    let m = All-head (λ (t : StationView _). IsMember h.me other t.state) s ss all in
    let node = IsStation (new_station s.state.me (believed_at h.me other (home_among other s.state.hubs))) in
    ap (λ n. n ∷ station_nodes ss) (ap IsStation (m.new ∙ ap (new_station s.state.me) m.believes))
    ∙ ap (λ ns. node ∷ ns) (members_new h second ss (All-tail (λ (t : StationView _). IsMember h.me other t.state) s ss all))

second_new : (second : Option Hub) → IsNewHub second → option_map IsHub second ≡ option_map (λ p. IsHub (new_hub p)) (option_map (λ (k : Hub). k.me) second)
second_new None new = refl
second_new (Some k) new = ap (λ n. Some (IsHub n)) new

-- what stands beside new hubs
module _ {R : Type 0} (h : Hub) (second : Option Hub) (homes : List ℕ) (ss : List (StationView R)) (m : MakesNetwork h second ss)
    (at : homes ≡ map (λ (s : StationView R). home_among (option_map (λ (k : Hub). k.me) second) s.state.hubs) ss) where
  pub new_are : beside (record { first = h; second = second; homes = homes }) (station_nodes ss) ≡ new_nodes (network_of h second ss)
  new_are =
      ap (λ n. record { listed = IsHub n ∷ station_nodes ss; homes = hub_node ∷ homes; second = option_map IsHub second }) m.hub
      ∙ ap (λ ns. record { listed = IsHub (new_hub h.me) ∷ ns; homes = hub_node ∷ homes; second = option_map IsHub second }) (members_new h second ss m.members)
      ∙ ap (λ hs. record { listed = (new_nodes (network_of h second ss)).listed; homes = hub_node ∷ hs; second = option_map IsHub second }) (at ∙ homes_of_members h second ss)
      ∙ ap (λ n. record { listed = (new_nodes (network_of h second ss)).listed; homes = (new_nodes (network_of h second ss)).homes; second = n }) (second_new second m.second_hub)

  pub new_is : record { nodes = beside (record { first = h; second = second; homes = homes }) (station_nodes ss); packets = []; events = 0 } ≡ new_world (network_of h second ss)
  new_is = ap (λ (ns : Nodes). record { nodes = ns; packets = []; events = 0 }) new_are

  home_there : (other : Option Party) (hubs : List Party) → IsHubNumber other (home_among other hubs)
  home_there None hubs = inl refl
  home_there (Some q) [] = inl refl
  home_there (Some q) (hub ∷ hubs) = by (is_same_party hub q)
    where
      by : (t : Bool) → IsHubNumber (Some q) (if t then second_hub_node else hub_node)
      by true = inr (refl, refl)
      by false = inl refl

  at_hubs : (rs : List (StationView R)) → All (λ (n : Member). IsHubNumber (option_map (λ (k : Hub). k.me) second) n.home) (network_of h second rs).stations
  at_hubs [] = All-nil (λ (n : Member). IsHubNumber (option_map (λ (k : Hub). k.me) second) n.home)
  at_hubs (s ∷ rs) = All-cons (λ (n : Member). IsHubNumber (option_map (λ (k : Hub). k.me) second) n.home) _ (network_of h second rs).stations (home_there (option_map (λ (k : Hub). k.me) second) s.state.hubs) (at_hubs rs)

  count : (rs : List (StationView R)) → length (network_of h second rs).stations ≡ length rs
  count [] = refl
  count (s ∷ rs) = ap suc (count rs)

  pub founded : (laws : ReachLaws x12) → All (λ p. IsTrue (is_plain_party p)) (parties_in (network_of h second ss))
      → IsReachable x12 (record { nodes = beside (record { first = h; second = second; homes = homes }) (station_nodes ss); packets = []; events = 0 })
  founded laws plain = subst (IsReachable x12) (sym new_is) (laws.new (network_of h second ss) (record {
    plain = λ k d lt. plain_is _ (plain k d lt);
    distinct = m.distinct;
    at_hubs = at_hubs ss;
    few = λ some. subst (λ n. n ≤ 16) (sym (count ss)) m.few;
  }))

-- one station after the other
module _ {R : Type 0} (rest behind : List (StationView R)) (s : StationView R) (p : Party) (is : rest ≡ s ∷ behind) (me : p ≡ s.state.me) where
  pub found_same : list_any (λ (t : StationView R). is_same_party p t.state.me) behind ≡ true → all_differ (parties rest) ≡ false
  found_same some =
      let there : list_any (is_same_party s.state.me) (parties behind) ≡ true = subst (λ q. list_any (is_same_party q) (parties behind) ≡ true) me (sym (named_parties p behind) ∙ some) in
      ap (λ (r : List (StationView _)). all_differ (parties r)) is ∙ rw there refl

  pub passed_one : list_any (λ (t : StationView R). is_same_party p t.state.me) behind ≡ false → all_differ (parties behind) ≡ all_differ (parties rest)
  passed_one none =
      let nowhere : list_any (is_same_party s.state.me) (parties behind) ≡ false = subst (λ q. list_any (is_same_party q) (parties behind) ≡ false) me (sym (named_parties p behind) ∙ none) in
      sym (ap (λ (r : List (StationView _)). all_differ (parties r)) is ∙ rw nowhere refl)

  pub plain_one : IsTrue (is_plain_party p) → All (λ q. IsTrue (is_plain_party q)) (parties behind) → All (λ q. IsTrue (is_plain_party q)) (parties rest)
  plain_one plain all = subst (λ (r : List (StationView _)). All (λ q. IsTrue (is_plain_party q)) (parties r)) (sym is) (All-cons (λ q. IsTrue (is_plain_party q)) s.state.me (parties behind) (subst (λ q. IsTrue (is_plain_party q)) me plain) all)
