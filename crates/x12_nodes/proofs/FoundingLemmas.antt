-- Cells that were made as the nodes of a network.
use Rattle.std.proofs.Common.{◌≡◌, ℕ, suc, ◌+◌, ◌≤◌, List, [], ◌∷◌, ◌++◌, Bool, true, ◌==◌, ◌&&◌, nat_le, Option, None, Some, IsTrue, map, length, refl, sym, ap, ap₂, subst, ◌∙◌, inl, inr, arith}
use Rattle.std.specs.List.{list_all}
use Rattle.std.specs.Prelude.{All, is_none, option_map, option_to_list}
use Rattle.std.proofs.lemmas.Bool.{and_parts}
use Rattle.std.proofs.lemmas.Bool.Decides.{eqb_tells, nat_tests}
use Rattle.std.proofs.lemmas.List.{map-append}
use Rattle.std.proofs.lemmas.List.Elements.{All-nil, All-cons}
use Rattle.x12_core.specs.Node.{Node, IsHub, IsStation, hub_node, second_hub_node}
use Rattle.x12_envelopes.specs.declared.party.Party.{Party}
use Rattle.x12_envelopes.specs.Party.{is_plain_party}
use Rattle.x12_hub.specs.Hub.{new_hub}
use Rattle.x12_judge.specs.Agreement.{is_same_party}
use Rattle.x12_nodes.specs.Cell.{CellView, opening_node}
use Rattle.x12_nodes.specs.Cells.{nodes_opened, split}
use Rattle.x12_nodes.specs.Check.{are_believed, are_network, are_numbered, are_stations, begins_with, is_hub_cell, is_hub_opened, is_station_opened, is_this, parties_opened, party_opened}
use Rattle.x12_nodes.specs.declared.opening.Opening.{Opening}
use Rattle.x12_nodes.specs.declared.opening.Opening.TheVariants as opened
use Rattle.x12_nodes.proofs.CellsLemmas.{number_at_place, same_number, split_second, split_whole}
use Rattle.x12_profile.proofs.PartyLemmas.{is_same_party-Decides}
use Rattle.x12_profile.specs.X12.{x12}
use Rattle.x12_station.proofs.ArrivedNewLemmas.{plain_is}
use Rattle.x12_station.specs.Station.{new_station}
use Rattle.x12_world.proofs.FoundingLemmas.{differ_means}
use Rattle.x12_world.specs.Founding.{all_differ}
use Rattle.x12_world.specs.Network.{Member, Network, IsNetwork, IsHubNumber, believed_at, new_nodes, parties_in}

abbrev pub member_of : CellView → Member
member_of c = record { party = party_opened c.opening; home = c.site.hub }

abbrev pub network_of : CellView → List CellView → Option CellView → Network
network_of c stations second = record {
  hub = party_opened c.opening;
  second = option_map (λ (d : CellView). party_opened d.opening) second;
  stations = map member_of stations;
}

none_is : (o : Option Party) → is_none o ≡ true → o ≡ None
none_is None e = refl
none_is (Some p) e = absurd cc

this_is : (p : Party) (o : Option Party) → is_this p o ≡ true → o ≡ Some p
this_is p None e = absurd cc
this_is p (Some q) e = ap Some ((is_same_party-Decides q p).0 e)

hub_known : (o : Opening) → is_hub_opened o ≡ true → opening_node o ≡ IsHub (new_hub (party_opened o))
hub_known (opened.Hub me) e = refl
hub_known (opened.Station me its other) e = absurd cc

-- the hubs that a station believes are those of its home
record Believes (hub : Party) (second : Option Party) (home : ℕ) (its : Party) (other : Option Party) : Type 0 where
  believed : its ∷ option_to_list other ≡ believed_at hub second home
  number : IsHubNumber second home

believed_known : (hub : Party) (second : Option Party) (home : ℕ) (its : Party) (other : Option Party) → are_believed hub second home its other ≡ true → Believes hub second home its other
believed_known hub None home its other e =
    let parts = and_parts (home == hub_node) (is_same_party its hub && is_none other) e in
    let both = and_parts (is_same_party its hub) (is_none other) parts.1 in
    record {
      believed = ap₂ (λ h o. h ∷ option_to_list o) ((is_same_party-Decides its hub).0 both.0) (none_is other both.1);
      number = inl (same_number home hub_node parts.0);
    }
believed_known hub (Some second) home its other e = elim (eqb_tells home second_hub_node) [
  | inl same ↦
      let both = and_parts (is_same_party its second) (is_this hub other) (rw (same.0) at e) in
      record {
        believed = rw (same.0) (ap₂ (λ h o. h ∷ option_to_list o) ((is_same_party-Decides its second).0 both.0) (this_is hub other both.1));
        number = inr (same.1, refl);
      }
  | inr apart ↦
      let parts = and_parts (home == hub_node) (is_same_party its hub && is_this second other) (rw (apart.0) at e) in
      let both = and_parts (is_same_party its hub) (is_this second other) parts.1 in
      record {
        believed = rw (apart.0) (ap₂ (λ h o. h ∷ option_to_list o) ((is_same_party-Decides its hub).0 both.0) (this_is second other both.1));
        number = inl (same_number home hub_node parts.0);
      }
]

abbrev station_for : Party → Option Party → Member → Node
station_for hub second m = IsStation (new_station m.party (believed_at hub second m.home))

station_known : (hub : Party) (second : Option Party) (home : ℕ) (o : Opening) → is_station_opened hub second home o ≡ true
    → (opening_node o ≡ IsStation (new_station (party_opened o) (believed_at hub second home))) × IsHubNumber second home
station_known hub second home (opened.Hub me) e = absurd cc
station_known hub second home (opened.Station me its other) e =
    let b = believed_known hub second home its other e in
    (ap (λ hs. IsStation (new_station me hs)) b.believed, b.number)

abbrev passes : Party → Option Party → CellView → Bool
passes hub second c = is_station_opened hub second c.site.hub c.opening

stations_known : (hub : Party) (second : Option Party) (cs : List CellView) → list_all (passes hub second) cs ≡ true → map (λ (c : CellView). opening_node c.opening) cs ≡ map (station_for hub second) (map member_of cs)
stations_known hub second [] e = refl
stations_known hub second (c ∷ cs) e =
    let parts = and_parts (passes hub second c) (list_all (passes hub second) cs) e in
    ap (λ n. n ∷ map (λ (d : CellView). opening_node d.opening) cs) (station_known hub second c.site.hub c.opening parts.0).0
    ∙ ap (λ ns. station_for hub second (member_of c) ∷ ns) (stations_known hub second cs parts.1)

at_hubs : (hub : Party) (second : Option Party) (cs : List CellView) → list_all (passes hub second) cs ≡ true → All (λ (m : Member). IsHubNumber second m.home) (map member_of cs)
at_hubs hub second [] e = All-nil (λ (m : Member). IsHubNumber second m.home)
at_hubs hub second (c ∷ cs) e =
    let parts = and_parts (passes hub second c) (list_all (passes hub second) cs) e in
    All-cons (λ (m : Member). IsHubNumber second m.home) (member_of c) (map member_of cs) (station_known hub second c.site.hub c.opening parts.0).1 (at_hubs hub second cs parts.1)

homes_known : (cs : List CellView) → map (λ (c : CellView). c.site.hub) cs ≡ map (λ (m : Member). m.home) (map member_of cs)
homes_known [] = refl
homes_known (c ∷ cs) = ap (λ hs. c.site.hub ∷ hs) (homes_known cs)

parties_known : (cs : List CellView) → map (λ (c : CellView). party_opened c.opening) cs ≡ map (λ (m : Member). m.party) (map member_of cs)
parties_known [] = refl
parties_known (c ∷ cs) = ap (λ ps. party_opened c.opening ∷ ps) (parties_known cs)

count_known : (cs : List CellView) → length (map member_of cs) ≡ length cs
count_known [] = refl
count_known (c ∷ cs) = ap suc (count_known cs)

mapped_last : {A B : Type 0} (f : A → B) (o : Option A) → map f (option_to_list o) ≡ option_to_list (option_map f o)
mapped_last f None = refl
mapped_last f (Some x) = refl

plain_known : (ps : List Party) → list_all is_plain_party ps ≡ true → All (λ p. IsTrue (x12.is_plain p)) ps
plain_known [] e = All-nil (λ p. IsTrue (x12.is_plain p))
plain_known (p ∷ ps) e =
    let parts = and_parts (is_plain_party p) (list_all is_plain_party ps) e in
    All-cons (λ q. IsTrue (x12.is_plain q)) p ps (plain_is p parts.0) (plain_known ps parts.1)

-- a network that was opened is a new one
pub record OpensAs (cells : List CellView) : Type 0 where
  pub net : Network
  pub network : IsNetwork x12 net
  pub nodes : nodes_opened cells ≡ new_nodes net
  pub parties : parties_opened cells ≡ parties_in net
  -- at most 17 are listed, and a second hub is its own
  pub few : length (split cells).0 ≤ 17
  pub own : (d : CellView) → (split cells).1 ≡ Some d → d.site.hub ≡ second_hub_node

module _ (cells : List CellView) (e : are_numbered 0 (split cells).0 ≡ true) where
  -- of a first hub, stations and a second hub, if there is one
  module _ (c : CellView) (stations : List CellView) (second : Option CellView) (front : (split cells).0 ≡ c ∷ stations) (last : (split cells).1 ≡ second) where
    abbrev net : Network
    net = network_of c stations second

    parties_are : parties_opened cells ≡ parties_in net
    parties_are =
        ap parties_opened (split_whole cells ∙ ap₂ (λ cs o. cs ++ option_to_list o) front last)
        ∙ map-append (λ (d : CellView). party_opened d.opening) (c ∷ stations) (option_to_list second)
        ∙ ap₂ (λ ps qs. (party_opened c.opening ∷ ps) ++ qs) (parties_known stations) (mapped_last (λ (d : CellView). party_opened d.opening) second)

    first_home : is_hub_cell c ≡ true → c.site.hub ≡ hub_node
    first_home hub =
        let own = same_number c.site.hub c.site.node (and_parts (is_hub_opened c.opening) (c.site.hub == c.site.node) hub).1 in
        let zero_is : c.site.node ≡ 0 + 0 = number_at_place 0 0 (split cells).0 c e (rw front refl) in
        let z : 0 + 0 ≡ hub_node = omega arith in
        own ∙ zero_is ∙ z

    made : is_hub_cell c ≡ true → ((d : CellView) → second ≡ Some d → is_hub_cell d ≡ true) → are_stations (party_opened c.opening) net.second stations (parties_opened cells) ≡ true → OpensAs cells
    made hub other all =
        let plain = and_parts _ (list_all is_plain_party (parties_opened cells)) all in
        let apart = and_parts _ (all_differ (parties_opened cells)) plain.0 in
        let its = and_parts (nat_le 1 (length stations) && nat_le (length stations) 16) (list_all (passes net.hub net.second) stations) apart.0 in
        let count = and_parts (nat_le 1 (length stations)) (nat_le (length stations) 16) its.0 in
        let at_most : length stations ≤ 16 = let high = count.1 in grind (arith, nat_tests) in
        record {
          net = net;
          network = record {
            plain = plain_known (parties_in net) (subst (λ ps. list_all is_plain_party ps ≡ true) parties_are plain.1);
            distinct = differ_means (parties_in net) (subst (λ ps. all_differ ps ≡ true) parties_are apart.1);
            at_hubs = at_hubs net.hub net.second stations its.1;
            few = λ some. subst (λ n. n ≤ 16) (sym (count_known stations)) at_most;
          };
          nodes = λ j. record {
            listed = (ap (map (λ (d : CellView). opening_node d.opening)) front
                ∙ ap₂ (λ n ns. n ∷ ns) (hub_known c.opening (and_parts (is_hub_opened c.opening) (c.site.hub == c.site.node) hub).0) (stations_known net.hub net.second stations its.1)) j;
            homes = (ap (map (λ (d : CellView). d.site.hub)) front ∙ ap₂ (λ n ns. n ∷ ns) (first_home hub) (homes_known stations)) j;
            second = (ap (option_map (λ (d : CellView). opening_node d.opening)) last ∙ last_known second other) j;
          };
          parties = parties_are;
          few = subst (λ cs. length cs ≤ 17) (sym front) (omega (arith, at_most));
          own = λ d is.
              let hub_is = other d (sym last ∙ is) in
              same_number d.site.hub d.site.node (and_parts (is_hub_opened d.opening) (d.site.hub == d.site.node) hub_is).1 ∙ split_second cells d is;
        }
      where
        last_known : (o : Option CellView) → ((d : CellView) → o ≡ Some d → is_hub_cell d ≡ true)
            → option_map (λ (d : CellView). opening_node d.opening) o ≡ option_map (λ h. IsHub (new_hub h)) (option_map (λ (d : CellView). party_opened d.opening) o)
        last_known None hubs = refl
        last_known (Some d) hubs = ap Some (hub_known d.opening (and_parts (is_hub_opened d.opening) (d.site.hub == d.site.node) (hubs d refl)).0)

  pub opens_network : are_network cells ≡ true → OpensAs cells
  opens_network all = by (split cells).0 refl (split cells).1 refl all
    where
      by : (front : List CellView) → (split cells).0 ≡ front → (second : Option CellView) → (split cells).1 ≡ second → begins_with front second (parties_opened cells) ≡ true → OpensAs cells
      by [] is second last all = absurd cc
      by (c ∷ stations) is None last all =
          let parts = and_parts (is_hub_cell c) _ all in
          made c stations None is last parts.0 (λ d none. absurd cc) parts.1
      by (c ∷ stations) is (Some d) last all =
          let parts = and_parts (is_hub_cell c && is_hub_cell d) _ all in
          let hubs = and_parts (is_hub_cell c) (is_hub_cell d) parts.0 in
          made c stations (Some d) is last hubs.0 (λ b same. subst (λ z. is_hub_cell z ≡ true) (some_of same) hubs.1) parts.1
        where
          some_of : {A : Type 0} {x y : A} → Some x ≡ Some y → x ≡ y
          some_of same = cc
