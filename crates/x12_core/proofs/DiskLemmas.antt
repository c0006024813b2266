-- What a call leaves of the disk, by what the station or the hub says of its own.
use Rattle.std.specs.Prelude.{◌≡◌, ◌⊎◌, ℕ, List, [], Option, Some, None, Result, Ok, Err, OnOk, IsTrue, option_map}
use mathlib.Core.Logic.{inl, inr}
use mathlib.Core.Path.{ap, subst, sym, ◌∙◌}
use Rattle.std.specs.Result.{IsErrAnd}
use Rattle.x12_core.specs.declared.packet.Site.{Site}
use Rattle.x12_core.specs.Disk.{HoldsEffect, HoldsHubNode, HoldsStationNode, HubStopsWhole, StopsWhole}
use Rattle.x12_core.specs.Effect.{Effect, from_hub, from_station}
use Rattle.x12_core.specs.Packet.{Packet}
use Rattle.x12_envelopes.specs.declared.moment.Moment.{Moment}
use Rattle.x12_envelopes.specs.declared.party.Party.{Party}
use Rattle.x12_hub.specs.declared.records.HubRecords.{Ghosts as HubGhosts}
use Rattle.x12_hub.specs.Hub.{Hub, HubStep, deposit}
use Rattle.x12_hub.specs.HubView.{HubView}
use Rattle.x12_hub.specs.Stopped.{HoldsHub, HubLeavesWhole}
use Rattle.x12_hub.specs.Stored.{HubStored}
use Rattle.x12_profile.specs.Interchange.{Bytes, Order}
use Rattle.x12_profile.specs.X12.{x12}
use Rattle.x12_station.specs.declared.records.Records.{Ghosts}
use Rattle.x12_station.specs.Seen.{StationView}
use Rattle.x12_station.specs.StationStep.{StationStep, arrive, submit, submit_orders}
use Rattle.x12_station.specs.Stopped.{HoldsStep, LeavesWhole}
use Rattle.x12_station.specs.Stored.{Stored}

none_ok : {A E : Type 0} (P : Type 0) (r : Result A E) (Q : E → Type 0) → IsErrAnd r Q → OnOk r P
none_ok P (Ok x) Q is = absurd is
none_ok P (Err e) Q is = tt

any_ok : {A E P : Type 0} (r : Result A E) → P → OnOk r P
any_ok (Ok x) p = p
any_ok (Err e) p = tt

-- a station's step, which is what it was asked
pub stops : {R A E : Type 0} (g : Ghosts R) (e f : Option Effect) (o : Option StationStep) (r : Result A E) (old new : StationView R) → e ≡ f → ((d : Stored) → HoldsStep o d → HoldsEffect HoldsStationNode f d) → LeavesWhole g o old new → StopsWhole g e r old new
stops g e f o r old new is holds whole = record {
  left = λ clean d may. elim (whole.left clean d may) [
    | inl was ↦ inl was
    | inr step ↦ inr (step.0, subst (λ x. HoldsEffect HoldsStationNode x d) (sym is) (holds d step.1))
  ];
  kept = any_ok r whole.kept;
}

-- a step with packets before it
pub step_held : (i : Site) (first : List Packet) (o : Option StationStep) (d : Stored) → HoldsStep o d → HoldsEffect HoldsStationNode (from_station i first o) d
step_held i first None d h = absurd h
step_held i first (Some step) d h = h

pub arrived : {R A E : Type 0} (g : Ghosts R) (e : Option Effect) (i : Site) (first : List Packet) (m : Moment) (b c : Bytes) (r : Result A E) (old new : StationView R) → b ≡ c → e ≡ from_station i first (arrive x12 old.state m c)
    → LeavesWhole g (arrive x12 old.state m b) old new → StopsWhole g e r old new
arrived g e i first m b c r old new same is whole =
    stops g e (from_station i first (arrive x12 old.state m b)) (arrive x12 old.state m b) r old new (is ∙ ap (λ x. from_station i first (arrive x12 old.state m x)) (sym same)) (step_held i first (arrive x12 old.state m b)) whole

pub ordered : {R A E : Type 0} (g : Ghosts R) (e : Option Effect) (i : Site) (to : Party) (m : Moment) (xs ys : List Order) (r : Result A E) (old new : StationView R) → xs ≡ ys → e ≡ from_station i [] (submit_orders x12 old.state to m ys)
    → LeavesWhole g (submit_orders x12 old.state to m xs) old new → StopsWhole g e r old new
ordered g e i to m xs ys r old new same is whole =
    stops g e (from_station i [] (submit_orders x12 old.state to m xs)) (submit_orders x12 old.state to m xs) r old new (is ∙ ap (λ x. from_station i [] (submit_orders x12 old.state to m x)) (sym same)) (step_held i [] (submit_orders x12 old.state to m xs)) whole

pub prepared : {R A E : Type 0} (g : Ghosts R) (e : Option Effect) (i : Site) (b c : Bytes) (r : Result A E) (old new : StationView R) → b ≡ c → e ≡ from_station i [] (submit x12 old.state c)
    → LeavesWhole g (submit x12 old.state b) old new → StopsWhole g e r old new
prepared g e i b c r old new same is whole =
    stops g e (from_station i [] (submit x12 old.state b)) (submit x12 old.state b) r old new (is ∙ ap (λ x. from_station i [] (submit x12 old.state x)) (sym same)) (step_held i [] (submit x12 old.state b)) whole

-- a station that wasn't asked, and refuses
pub unasked : {R A E : Type 0} (g : Ghosts R) (e : Option Effect) (r : Result A E) (s : StationView R) (Q : E → Type 0) → IsErrAnd r Q → StopsWhole g e r s s
unasked g e r s Q is = record { left = λ clean d may. inl may; kept = none_ok _ r Q is }

-- a hub's step
pub hub_stops : {H A E : Type 0} (g : HubGhosts H) (e f : Option Effect) (o : Option Hub) (r : Result A E) (old new : HubView H) → e ≡ f → ((d : HubStored) → HoldsHub o d → HoldsEffect HoldsHubNode f d) → HubLeavesWhole g o old new → HubStopsWhole g e r old new
hub_stops g e f o r old new is holds whole = record {
  left = λ clean d may. elim (whole.left clean d may) [
    | inl was ↦ inl was
    | inr step ↦ inr (step.0, subst (λ x. HoldsEffect HoldsHubNode x d) (sym is) (holds d step.1))
  ];
  kept = any_ok r whole.kept;
}

hub_held : (i : ℕ) (first : List Packet) (to : Option ℕ) (o : Option HubStep) (d : HubStored) → HoldsHub (option_map (λ (t : HubStep). t.hub) o) d → HoldsEffect HoldsHubNode (from_hub i first to o) d
hub_held i first to None d h = absurd h
hub_held i first to (Some step) d h = h

pub deposited : {H A E : Type 0} (g : HubGhosts H) (e : Option Effect) (i : ℕ) (first : List Packet) (to : Option ℕ) (m : Moment) (b c : Bytes) (r : Result A E) (old new : HubView H) → b ≡ c → e ≡ from_hub i first to (deposit x12 old.hub m c)
    → HubLeavesWhole g (option_map (λ (t : HubStep). t.hub) (deposit x12 old.hub m b)) old new → HubStopsWhole g e r old new
deposited g e i first to m b c r old new same is whole =
    hub_stops g e (from_hub i first to (deposit x12 old.hub m b)) (option_map (λ (t : HubStep). t.hub) (deposit x12 old.hub m b)) r old new (is ∙ ap (λ x. from_hub i first to (deposit x12 old.hub m x)) (sym same)) (hub_held i first to (deposit x12 old.hub m b)) whole

-- the same of another result that is Ok, or refuses
pub whole_ok : {R A B E F : Type 0} (g : Ghosts R) (e f : Option Effect) (x : A) (r : Result B F) (old new : StationView R) → e ≡ f → StopsWhole {E = E} g f (Ok x) old new → StopsWhole g e r old new
whole_ok g e f x r old new is whole = record {
  left = subst (λ o. IsTrue new.clean → (d : Stored) → g.may_leave new.records d → g.may_leave old.records d ⊎ (IsTrue old.answers × HoldsEffect HoldsStationNode o d)) (sym is) whole.left;
  kept = any_ok r whole.kept;
}

pub whole_err : {R A B E F : Type 0} (g : Ghosts R) (e f : Option Effect) (r : Result A E) (q : Result B F) (old new : StationView R) (Q : F → Type 0) → e ≡ f → IsErrAnd q Q → StopsWhole g f r old new → StopsWhole g e q old new
whole_err g e f r q old new Q same is whole = record {
  left = subst (λ o. IsTrue new.clean → (d : Stored) → g.may_leave new.records d → g.may_leave old.records d ⊎ (IsTrue old.answers × HoldsEffect HoldsStationNode o d)) (sym same) whole.left;
  kept = none_ok _ q Q is;
}

pub hub_whole_ok : {H A B E F : Type 0} (g : HubGhosts H) (e f : Option Effect) (x : A) (r : Result B F) (old new : HubView H) → e ≡ f → HubStopsWhole {E = E} g f (Ok x) old new → HubStopsWhole g e r old new
hub_whole_ok g e f x r old new is whole = record {
  left = subst (λ o. IsTrue new.clean → (d : HubStored) → g.may_leave new.records d → g.may_leave old.records d ⊎ (IsTrue old.answers × HoldsEffect HoldsHubNode o d)) (sym is) whole.left;
  kept = any_ok r whole.kept;
}

pub hub_whole_err : {H A B E F : Type 0} (g : HubGhosts H) (e f : Option Effect) (r : Result A E) (q : Result B F) (old new : HubView H) (Q : F → Type 0) → e ≡ f → IsErrAnd q Q → HubStopsWhole g f r old new → HubStopsWhole g e q old new
hub_whole_err g e f r q old new Q same is whole = record {
  left = subst (λ o. IsTrue new.clean → (d : HubStored) → g.may_leave new.records d → g.may_leave old.records d ⊎ (IsTrue old.answers × HoldsEffect HoldsHubNode o d)) (sym same) whole.left;
  kept = none_ok _ q Q is;
}
