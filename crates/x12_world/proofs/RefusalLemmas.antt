-- What an empty table of refusals tells.
use Rattle.x12_numbers.specs.Book.{are_new}
use Rattle.std.specs.Prelude.{◌≡◌, [], ◌∷◌, Bool, true, false, not, if◌then◌else◌, Option, Some, None, is_none, refl, IsTrue}
use Rattle.x12_judge.specs.Agreement.{is_same_party}
use Rattle.x12_profile.proofs.PartyLemmas.{is_same_party-Decides}
use Rattle.x12_profile.specs.Interchange.{Bytes}
use Rattle.x12_profile.specs.Profile.{Profile}
use Rattle.x12_station.specs.Station.{Station}
use Rattle.x12_station.specs.StationRefusal.{prepared_refusal}
use Rattle.x12_world.specs.Effect.{asked_by}
use Rattle.x12_world.specs.World.{World, Event}
use Rattle.x12_core.specs.NodeRefusal.{NodeRefusal}
use Rattle.x12_world.specs.EventRefusal.{EventRefusal, is_at_end, has_nodes, is_spoken_for, network_refusal, node_refusal, event_refusal, or_of_node}
use Rattle.std.proofs.lemmas.Bool.{not-false}

-- no row holds: the first doesn't, and none of the rest does
pub row_apart : {X : Type 0} (t : Bool) (x : X) (rest : Option X) → (if t then Some x else rest) ≡ None → (t ≡ false) × (rest ≡ None)
row_apart true x rest e = absurd cc
row_apart false x rest e = (refl, e)

pub is_none_known : {X : Type 0} (o : Option X) → is_none o ≡ true → o ≡ None
is_none_known None e = refl
is_none_known (Some x) e = absurd cc

-- what no row of the table for prepared bytes refuses
pub record MaySubmit (p : Profile) (s : Station) (x : Bytes) : Type 0 where
  pub header : IsTrue (p.has_header x)
  pub from : p.sender x ≡ s.me
  pub submission : IsTrue (p.is_submission x)
  pub numbers : are_new s.book (p.number x ∷ []) (p.groups x) ≡ true

pub may_submit_known : (p : Profile) (s : Station) (x : Bytes) → prepared_refusal p s x ≡ None → MaySubmit p s x
may_submit_known p s x e =
    let header = row_apart (not (p.has_header x)) _ _ e in
    let from = row_apart (not (is_same_party (p.sender x) s.me)) _ _ header.1 in
    let other = row_apart (is_same_party (p.receiver x) s.me) _ _ from.1 in
    let submission = row_apart (not (p.is_submission x)) _ _ other.1 in
    let numbers = row_apart (not (are_new s.book (p.number x ∷ []) (p.groups x))) _ _ submission.1 in
    record {
      header = not-false (p.has_header x) header.0;
      from = (is_same_party-Decides (p.sender x) s.me).0 (not-false (is_same_party (p.sender x) s.me) from.0);
      submission = not-false (p.is_submission x) submission.0;
      numbers = not-false (are_new s.book (p.number x ∷ []) (p.groups x)) numbers.0;
    }

neither : (a : Option EventRefusal) (b : Option NodeRefusal) → or_of_node a b ≡ None → (a ≡ None) × (b ≡ None)
neither None None e = (refl, refl)
neither None (Some r) e = absurd cc
neither (Some r) b e = absurd cc

-- an event that the network doesn't refuse
pub record Admits (p : Profile) (w : World) (e : Event) : Type 0 where
  pub room : is_at_end w ≡ false
  pub nodes : has_nodes w (asked_by w.packets e) ≡ true
  pub known : is_none (asked_by w.packets e) ≡ false
  pub unspoken : is_spoken_for p w e ≡ false
  pub own : node_refusal p w (asked_by w.packets e) ≡ None

pub admitted : (p : Profile) (w : World) (e : Event) → event_refusal p w e ≡ None → Admits p w e
admitted p w e empty =
    let both = neither _ (node_refusal p w (asked_by w.packets e)) empty in
    let room = row_apart (is_at_end w) _ _ both.0 in
    let nodes = row_apart (not (has_nodes w (asked_by w.packets e))) _ _ room.1 in
    let known = row_apart (is_none (asked_by w.packets e)) _ _ nodes.1 in
    let unspoken = row_apart (is_spoken_for p w e) _ _ known.1 in
    record {
      room = room.0;
      nodes = not-false (has_nodes w (asked_by w.packets e)) nodes.0;
      known = known.0;
      unspoken = unspoken.0;
      own = both.1;
    }

-- what the network's own table tells where it is empty
pub nodes_there : (p : Profile) (w : World) (e : Event) → network_refusal p w e ≡ None → has_nodes w (asked_by w.packets e) ≡ true
nodes_there p w e empty =
    let room = row_apart (is_at_end w) _ _ empty in
    not-false (has_nodes w (asked_by w.packets e)) (row_apart (not (has_nodes w (asked_by w.packets e))) _ _ room.1).0
