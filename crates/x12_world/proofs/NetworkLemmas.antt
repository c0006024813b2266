-- The nodes of a new network: who they are, and that no two have one party.
use Rattle.std.specs.Prelude.{◌≡◌, ◌≢◌, ℕ, zero, suc, ◌<◌, ◌≤◌, List, [], ◌∷◌, ◌++◌, Bool, true, false, if◌then◌else◌, ◌==◌, Option, Some, None, IsSome, Contains, refl, ◌⊎◌, map, length, option_map, option_to_list, get_or, slice_get}
use mathlib.Core.Path.{sym, ap, subst, ◌∙◌}
use mathlib.Core.Logic.{inl, inr}
use native.Mathlib.Omega.{arith}
use Rattle.std.proofs.lemmas.Bool.{cases_lt}
use Rattle.std.proofs.lemmas.Bool.Decides.{eqb_tells, nat_tests}
use Rattle.std.proofs.lemmas.List.{length-map, map-append}
use Rattle.std.proofs.lemmas.List.Elements.{Contains-append_cases}
use Rattle.std.proofs.lemmas.Option.{slice_get_within, get_or_from_slice_get}
use Rattle.std.specs.List.{AllPairs}
use Rattle.x12_envelopes.specs.declared.party.Party.{Party}
use Rattle.x12_core.specs.Node.{Node, IsHub, IsStation, hub_node, second_hub_node, party_of_node, is_hub}
use Rattle.x12_hub.specs.Hub.{Hub, new_hub}
use Rattle.x12_numbers.proofs.Shelf.{false_is_never_true, contains_cons, contains_head, contains_mapped, contains_tail, none_in_nil, some_inj}
use Rattle.x12_profile.specs.Profile.{Profile}
use Rattle.x12_station.proofs.ListLemmas.{contains_map, contains_option, get_contains, get_map, get_map_back}
use Rattle.x12_profile.proofs.PartyLemmas.{party_tells}
use Rattle.x12_world.proofs.NodesLemmas.{contains_get, node_listed, option_mapped}
use Rattle.x12_station.specs.Station.{new_station}
use Rattle.x12_world.specs.Network.{Member, Network, IsNetwork, IsHubNumber, believed_at, new_nodes, parties_in}
use Rattle.x12_world.specs.Nodes.{node_at, home_of, party_at, all_nodes}

pub get_left : {X : Type 0} (xs ys : List X) (i : ℕ) (x : X) → slice_get xs i ≡ Some x → slice_get (xs ++ ys) i ≡ Some x
get_left [] ys i x e = absurd cc
get_left (y ∷ xs) ys zero x e = e
get_left (y ∷ xs) ys (suc i) x e = get_left xs ys i x e

get_last : {X : Type 0} (xs : List X) (y : X) → slice_get (xs ++ y ∷ []) (length xs) ≡ Some y
get_last [] y = refl
get_last (x ∷ xs) y = get_last xs y

-- the node of a member
abbrev pub node_for : Party → Option Party → Member → Node
node_for hub second m = IsStation (new_station m.party (believed_at hub second m.home))

module _ (hub : Party) (second : Option Party) where
  party_for : (ms : List Member) → map party_of_node (map (node_for hub second) ms) ≡ map (λ (m : Member). m.party) ms
  party_for [] = refl
  party_for (m ∷ ms) = ap (λ l. m.party ∷ l) (party_for ms)

second_party : (second : Option Party) → map party_of_node (option_to_list (option_map (λ h. IsHub (new_hub h)) second)) ≡ option_to_list second
second_party None = refl
second_party (Some h) = refl

-- the parties of all nodes are those of the network
pub parties_are : (net : Network) → map party_of_node (all_nodes (new_nodes net)) ≡ parties_in net
parties_are net =
    map-append party_of_node (IsHub (new_hub net.hub) ∷ map (node_for net.hub net.second) net.stations) (option_to_list (option_map (λ h. IsHub (new_hub h)) net.second))
    ∙ ap (λ l. (net.hub ∷ l) ++ map party_of_node (option_to_list (option_map (λ h. IsHub (new_hub h)) net.second))) (party_for net.hub net.second net.stations)
    ∙ ap (λ l. (net.hub ∷ map (λ (m : Member). m.party) net.stations) ++ l) (second_party net.second)

pub in_network : (net : Network) (n : Node) → Contains (all_nodes (new_nodes net)) n → Contains (parties_in net) (party_of_node n)
in_network net n has = subst (λ l. Contains l (party_of_node n)) (parties_are net) (contains_mapped party_of_node (all_nodes (new_nodes net)) n has)

-- who a node of a new network is
pub data IsNew (net : Network) (i : ℕ) (n : Node) : Type 0 where
  a_hub : (me : Party) → IsHubNumber net.second i → n ≡ IsHub (new_hub me) → IsNew net i n
  a_station : (m : Member) → Contains net.stations m → home_of (new_nodes net) i ≡ m.home → n ≡ node_for net.hub net.second m → IsNew net i n

module _ (hub : Party) (stations : List Member) where
  abbrev net_with : Option Party → Network
  net_with second = record { hub = hub; second = second; stations = stations }

  -- a listed node
  listed_new : (second : Option Party) (i : ℕ) (n : Node) → slice_get (new_nodes (net_with second)).listed i ≡ Some n
      → (i ≢ zero → home_of (new_nodes (net_with second)) i ≡ get_or (new_nodes (net_with second)).homes i hub_node) → IsNew (net_with second) i n
  listed_new second zero n at home = a_hub hub (inl refl) (sym (some_inj at))
  listed_new second (suc i) n at home =
      let back = get_map_back (node_for hub second) stations i n at in
      a_station back.0 (get_contains stations i back.0 back.1) (home (λ e. cc) ∙ homes back.0 stations i back.1) (sym back.2)
    where
      homes : (m : Member) (ms : List Member) (i : ℕ) → slice_get ms i ≡ Some m → get_or (map (λ (m : Member). m.home) ms) i hub_node ≡ m.home
      homes m [] i at = absurd cc
      homes m (x ∷ ms) zero at = ap (λ (z : Member). z.home) (some_inj at)
      homes m (x ∷ ms) (suc i) at = homes m ms i at

  who : (second : Option Party) (i : ℕ) (n : Node) → node_at (new_nodes (net_with second)) i ≡ Some n → IsNew (net_with second) i n
  who None i n at = listed_new None i n at (λ z. refl)
  who (Some h) i n at = elim (eqb_tells i second_hub_node) [
    | inl e ↦ let same : Some (IsHub (new_hub h)) ≡ Some n = rw (e.0) at at in a_hub h (inr (e.1, refl)) (sym (some_inj same))
    | inr e ↦ listed_new (Some h) i n (rw (e.0) at at) (λ z. rw (e.0) refl)
  ]

  hub_at : (second : Option Party) (i : ℕ) → IsHubNumber second i → (h : Hub) × (node_at (new_nodes (net_with second)) i ≡ Some (IsHub h))
  hub_at None i (inl e) = (new_hub hub, rw e refl)
  hub_at None i (inr e) = false_is_never_true e.1
  hub_at (Some h) i (inl e) = (new_hub hub, rw e refl)
  hub_at (Some h) i (inr e) = (new_hub h, rw (e.0) refl)

  -- the place of a node among all, which is its number, but for the second hub
  record Place (second : Option Party) (i : ℕ) (n : Node) : Type 0 where
    place : ℕ
    at : slice_get (all_nodes (new_nodes (net_with second))) place ≡ Some n
    is : ((place ≡ i) × (place < suc (length stations))) ⊎ ((i ≡ second_hub_node) × (place ≡ suc (length stations)))

  count : (second : Option Party) → length (new_nodes (net_with second)).listed ≡ suc (length stations)
  count second = ap suc (length-map stations (node_for hub second))

  listed_place : (second : Option Party) (i : ℕ) (n : Node) → slice_get (new_nodes (net_with second)).listed i ≡ Some n → Place second i n
  listed_place second i n at =
      let within = slice_get_within (new_nodes (net_with second)).listed i n at in
      let many = count second in
      record {
        place = i;
        at = get_left (new_nodes (net_with second)).listed (option_to_list (new_nodes (net_with second)).second) i n at;
        is = inl (refl, omega (arith, within, many));
      }

  place_of : (second : Option Party) (i : ℕ) (n : Node) → node_at (new_nodes (net_with second)) i ≡ Some n → Place second i n
  place_of None i n at = listed_place None i n at
  place_of (Some h) i n at = elim (eqb_tells i second_hub_node) [
    | inl e ↦
        let same : Some (IsHub (new_hub h)) ≡ Some n = rw (e.0) at at in
        record {
          place = suc (length stations);
          at = subst (λ k. slice_get (all_nodes (new_nodes (net_with (Some h)))) k ≡ Some n) (count (Some h)) (get_last (new_nodes (net_with (Some h))).listed (IsHub (new_hub h)) ∙ same);
          is = inr (e.1, refl);
        }
    | inr e ↦ listed_place (Some h) i n (rw (e.0) at at)
  ]

  same_place : (second : Option Party) (i j : ℕ) (n m : Node) (a : Place second i n) (b : Place second j m) → a.place ≡ b.place → i ≡ j
  same_place second i j n m a b same = by a.is b.is
    where
      by : ((a.place ≡ i) × (a.place < suc (length stations))) ⊎ ((i ≡ second_hub_node) × (a.place ≡ suc (length stations)))
          → ((b.place ≡ j) × (b.place < suc (length stations))) ⊎ ((j ≡ second_hub_node) × (b.place ≡ suc (length stations))) → i ≡ j
      by (inl p) (inl q) = sym p.0 ∙ same ∙ q.0
      by (inl p) (inr q) = let low = p.1 in let high = q.1 in absurd (omega (arith, low, high, same))
      by (inr p) (inl q) = let low = q.1 in let high = p.1 in absurd (omega (arith, low, high, same))
      by (inr p) (inr q) = p.0 ∙ sym q.0

-- no party stands at two places
one_place : (ps : List Party) → AllPairs (λ a b. a ≢ b) ps → (i j : ℕ) (party : Party) → slice_get ps i ≡ Some party → slice_get ps j ≡ Some party → i ≡ j
one_place ps distinct i j party a b =
    let same : get_or ps i party ≡ get_or ps j party = get_or_from_slice_get ps i party party a ∙ sym (get_or_from_slice_get ps j party party b) in
    elim (eqb_tells i j) [
      | inl e ↦ e.1
      | inr differ ↦ elim (cases_lt i j) [
        | inl lt ↦ absurd (distinct i j party lt (slice_get_within ps j party b) same)
        | inr ge ↦ let unequal = differ.1 in absurd (distinct j i party (strict i j unequal ge) (slice_get_within ps i party a) (sym same))
      ]
    ]
  where
    strict : (a b : ℕ) → a ≢ b → b ≤ a → b < a
    strict a b n le = grind (arith, nat_tests)

-- no two nodes of a new network have one party
pub parties_apart : (p : Profile) (net : Network) → IsNetwork p net → (i j : ℕ) (party : Party) → party_at (new_nodes net) i ≡ Some party → party_at (new_nodes net) j ≡ Some party → i ≡ j
parties_apart p net is i j party at_i at_j =
    let a = option_mapped party_of_node (node_at (new_nodes net) i) party at_i in
    let b = option_mapped party_of_node (node_at (new_nodes net) j) party at_j in
    let pa = place_of net.hub net.stations net.second i a.0 a.1 in
    let pb = place_of net.hub net.stations net.second j b.0 b.1 in
    same_place net.hub net.stations net.second i j a.0 b.0 pa pb
    (one_place (parties_in net) is.distinct pa.place pb.place party (party_there pa.place a.0 pa.at a.2) (party_there pb.place b.0 pb.at b.2))
  where
    party_there : (k : ℕ) (n : Node) → slice_get (all_nodes (new_nodes net)) k ≡ Some n → party_of_node n ≡ party → slice_get (parties_in net) k ≡ Some party
    party_there k n at same = subst (λ l. slice_get l k ≡ Some party) (parties_are net) (get_map party_of_node (all_nodes (new_nodes net)) k n at ∙ ap Some same)

pub new_is : (net : Network) (i : ℕ) (n : Node) → node_at (new_nodes net) i ≡ Some n → IsNew net i n
new_is net i n at = who net.hub net.stations net.second i n at

pub new_hub_at : (net : Network) (i : ℕ) → IsHubNumber net.second i → (h : Hub) × (node_at (new_nodes net) i ≡ Some (IsHub h))
new_hub_at net i number = hub_at net.hub net.stations net.second i number

-- of three numbers of hubs, two of which differ, the third is one of them
pub two_hubs : (second : Option Party) (i j k : ℕ) → IsHubNumber second i → IsHubNumber second j → IsHubNumber second k → i ≢ j → (k ≡ i) ⊎ (k ≡ j)
two_hubs second i j k (inl a) (inl b) c apart = absurd (apart (a ∙ sym b))
two_hubs second i j k (inr a) (inr b) c apart = absurd (apart (a.0 ∙ sym b.0))
two_hubs second i j k (inl a) (inr b) (inl c) apart = inl (c ∙ sym a)
two_hubs second i j k (inl a) (inr b) (inr c) apart = inr (c.0 ∙ sym b.0)
two_hubs second i j k (inr a) (inl b) (inl c) apart = inr (c ∙ sym b)
two_hubs second i j k (inr a) (inl b) (inr c) apart = inl (c.0 ∙ sym a.0)

module _ (hub : Party) (stations : List Member) (q : Party) where
  two_of : (a b : Party) → Contains (a ∷ b ∷ []) q → (a ≡ q) ⊎ (b ≡ q)
  two_of a b h = elim (contains_cons q a (b ∷ []) h) [ inl e ↦ inl e | inr more ↦ elim (contains_cons q b [] more) [ inl e ↦ inr e | inr past ↦ none_in_nil q past ] ]

  -- who is believed is a hub
  name_of : (second : Option Party) (home : ℕ) → Contains (believed_at hub second home) q → (k : ℕ) × IsHubNumber second k × (party_at (new_nodes (net_with hub stations second)) k ≡ Some q)
  name_of None home h = elim (contains_cons q hub [] h) [ inl e ↦ (hub_node, inl refl, ap Some e) | inr past ↦ none_in_nil q past ]
  name_of (Some b) home h = by (home == second_hub_node) h
    where
      first : hub ≡ q → (k : ℕ) × IsHubNumber (Some b) k × (party_at (new_nodes (net_with hub stations (Some b))) k ≡ Some q)
      first e = (hub_node, inl refl, ap Some e)

      other : b ≡ q → (k : ℕ) × IsHubNumber (Some b) k × (party_at (new_nodes (net_with hub stations (Some b))) k ≡ Some q)
      other e = (second_hub_node, inr (refl, refl), ap Some e)

      by : (y : Bool) → Contains (if y then b ∷ hub ∷ [] else hub ∷ b ∷ []) q → (k : ℕ) × IsHubNumber (Some b) k × (party_at (new_nodes (net_with hub stations (Some b))) k ≡ Some q)
      by true h = elim (two_of b hub h) [ inl e ↦ other e | inr e ↦ first e ]
      by false h = elim (two_of hub b h) [ inl e ↦ first e | inr e ↦ other e ]

  -- and each hub is believed
  believed : (second : Option Party) (home k : ℕ) → IsHubNumber second k → party_at (new_nodes (net_with hub stations second)) k ≡ Some q → Contains (believed_at hub second home) q
  believed None home k (inl e) name = let same : Some hub ≡ Some q = rw e at name in subst (λ z. Contains (hub ∷ []) z) (some_inj same) (contains_head hub [])
  believed None home k (inr e) name = false_is_never_true e.1
  believed (Some b) home k number name = by (home == second_hub_node) (which k number name)
    where
      which : (k : ℕ) → IsHubNumber (Some b) k → party_at (new_nodes (net_with hub stations (Some b))) k ≡ Some q → (hub ≡ q) ⊎ (b ≡ q)
      which k (inl e) name = let same : Some hub ≡ Some q = rw e at name in inl (some_inj same)
      which k (inr e) name = let same : Some b ≡ Some q = rw (e.0) at name in inr (some_inj same)

      by : (y : Bool) → (hub ≡ q) ⊎ (b ≡ q) → Contains (if y then b ∷ hub ∷ [] else hub ∷ b ∷ []) q
      by true (inl e) = contains_tail q b (hub ∷ []) (subst (λ z. Contains (hub ∷ []) z) e (contains_head hub []))
      by true (inr e) = subst (λ z. Contains (b ∷ hub ∷ []) z) e (contains_head b (hub ∷ []))
      by false (inl e) = subst (λ z. Contains (hub ∷ b ∷ []) z) e (contains_head hub (b ∷ []))
      by false (inr e) = contains_tail q hub (b ∷ []) (subst (λ z. Contains (b ∷ []) z) e (contains_head b []))

pub believed_name : (net : Network) (home : ℕ) (q : Party) → Contains (believed_at net.hub net.second home) q → (k : ℕ) × IsHubNumber net.second k × (party_at (new_nodes net) k ≡ Some q)
believed_name net home q h = name_of net.hub net.stations q net.second home h

pub name_believed : (net : Network) (home k : ℕ) (q : Party) → IsHubNumber net.second k → party_at (new_nodes net) k ≡ Some q → Contains (believed_at net.hub net.second home) q
name_believed net home k q number name = believed net.hub net.stations q net.second home k number name

-- a party is among some, or not
named_or_not : (names : List Party) (party : Party) → Contains names party ⊎ ¬ (Contains names party)
named_or_not [] party = inr (λ h. none_in_nil party h)
named_or_not (n ∷ names) party = elim (party_tells n party) [
  | inl same ↦ inl (subst (Contains (n ∷ names)) same.1 (contains_head n names))
  | inr apart ↦ elim (named_or_not names party) [
    | inl found ↦ inl (contains_tail party n names found)
    | inr none ↦ inr (λ h. elim (contains_cons party n names h) [ inl same ↦ apart.1 same | inr later ↦ none later ])
  ]
]

module _ (hub : Party) (stations : List Member) where
  -- who is listed has a number
  listed_number : (second : Option Party) → (IsSome second → length stations ≤ 16) → (k : ℕ) (n : Node) → slice_get (new_nodes (net_with hub stations second)).listed k ≡ Some n → node_at (new_nodes (net_with hub stations second)) k ≡ Some n
  listed_number None few k n at = at
  listed_number (Some h) few k n at = elim (eqb_tells k second_hub_node) [
    | inl e ↦ let within = slice_get_within (new_nodes (net_with hub stations (Some h))).listed k n at in let many = count hub stations (Some h) in let le = few refl in let is = e.1 in absurd (omega (arith, within, many, le, is))
    | inr e ↦ rw (e.0) at
  ]

  member_number : (second : Option Party) → (IsSome second → length stations ≤ 16) → (party : Party) → Contains (parties_in (net_with hub stations second)) party → (i : ℕ) × (party_at (new_nodes (net_with hub stations second)) i ≡ Some party)
  member_number second few party has = elim (Contains-append_cases (hub ∷ map (λ (m : Member). m.party) stations) (option_to_list second) party has) [
    | inl one ↦
        let in_listed : Contains (map party_of_node (new_nodes (net_with hub stations second)).listed) party = subst (λ l. Contains (hub ∷ l) party) (sym (party_for hub second stations)) one in
        let from = contains_map party_of_node (new_nodes (net_with hub stations second)).listed party in_listed in
        let place = contains_get (new_nodes (net_with hub stations second)).listed from.0 from.1 in
        (place.0, ap (option_map party_of_node) (listed_number second few place.0 from.0 place.1) ∙ ap Some from.2)
    | inr other ↦ (second_hub_node, second_number second (contains_option second party other))
  ]
    where
      second_number : (o : Option Party) → o ≡ Some party → party_at (new_nodes (net_with hub stations o)) second_hub_node ≡ Some party
      second_number None e = absurd cc
      second_number (Some h) e = e

-- a node of a network has this party, or none
pub party_or_none : (p : Profile) (net : Network) → IsNetwork p net → (party : Party) → ((i : ℕ) × (party_at (new_nodes net) i ≡ Some party)) ⊎ ((i : ℕ) → party_at (new_nodes net) i ≢ Some party)
party_or_none p net is party = elim (named_or_not (parties_in net) party) [
  | inl has ↦ inl (member_number net.hub net.stations net.second is.few party has)
  | inr none ↦ inr (λ i at. let from = option_mapped party_of_node (node_at (new_nodes net) i) party at in none (subst (Contains (parties_in net)) from.2 (in_network net from.0 (node_listed (new_nodes net) i from.0 from.1))))
]

-- there are numbers enough, and the second is a hub
pub few_new : (net : Network) → (IsSome net.second → length net.stations ≤ 16) → IsSome (new_nodes net).second → length (new_nodes net).listed ≤ 17
few_new net few some = by net.second few some
  where
    by : (second : Option Party) → (IsSome second → length net.stations ≤ 16) → IsSome (new_nodes (net_with net.hub net.stations second)).second → length (new_nodes (net_with net.hub net.stations second)).listed ≤ 17
    by None few some = false_is_never_true some
    by (Some h) few some = let le = few refl in let many = count net.hub net.stations (Some h) in omega (arith, le, many)

pub second_new : (net : Network) (n : Node) → (new_nodes net).second ≡ Some n → is_hub (Some n) ≡ true
second_new net n is = by net.second is
  where
    by : (second : Option Party) → option_map (λ h. IsHub (new_hub h)) second ≡ Some n → is_hub (Some n) ≡ true
    by None is = absurd cc
    by (Some h) is = ap is_hub (sym is)
