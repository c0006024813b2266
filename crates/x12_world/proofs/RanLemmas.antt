-- A taken event, in the words of the definition's run with losses; and runs of them.
use Rattle.std.specs.Prelude.{◌≡◌, ℕ, suc, ◌≤◌, List, [], ◌∷◌, ◌++◌, Bool, true, false, Option, Some, is_some, if◌then◌else◌, refl, map, drop, take, slice_get, length, Result, Ok, Err, IfOk, OnErr}
use mathlib.Core.Path.{sym, ap, subst, ◌∙◌}
use mathlib.Core.Logic.{inr}
use Rattle.std.proofs.Math.Seq.{drop-append_seam}
use Rattle.x12_profile.specs.X12.{x12}
use Rattle.x12_world.specs.declared.outcome.Outcome.{Outcome as CodeOutcome}
use Rattle.x12_world.specs.declared.refused.Refused.{Refused}
use Rattle.x12_world.specs.Effect.{asked_by, after_asked}
use Rattle.x12_world.specs.EventRefusal.{EventRefusal}
use Rattle.x12_world.specs.Loss.{Happening, after_loss, happens_so, run_so}
use Rattle.x12_world.specs.Outcome.{EventOutcome, told_packet, outcome_of}
use Rattle.x12_core.specs.Packet.{Packet}
use Rattle.x12_world.specs.Packet.{SentPacket, named}
use Rattle.x12_world.specs.Ran.{Ran, EachRan, StoppedAt, happening, happenings, outcome_view}
use Rattle.x12_world.specs.Headline.{Headline}
use Rattle.x12_world.specs.Reach.{HoldsOnward, IsReachable, ReachLaws, ReachedFacts}
use Rattle.x12_world.specs.Refusing.{IsNetworkRefusal}
use Rattle.x12_world.specs.Run.{happens}
use Rattle.x12_world.specs.Taking.{IsTaken}
use Rattle.x12_world.specs.Nodes.{Nodes}
use Rattle.x12_world.specs.World.{World, Event}

-- an event with these packets
abbrev pub world_by : Nodes → List SentPacket → ℕ → World
world_by nodes packets events = record { nodes = nodes; packets = packets; events = events }

abbrev pub outcome_by : ℕ → Bool → List SentPacket → EventOutcome
outcome_by event lost sent = record { event = event; packets = if lost then [] else map told_packet sent; lost = lost }

module _ (w : World) (e : Event) (nodes : Nodes) (sends : List Packet) (t : IsTaken w e nodes sends) where
  sent : List SentPacket
  sent = named (suc w.events) 1 sends

  is_full : happens x12 w e ≡ world_by nodes (w.packets ++ named (suc w.events) 1 sends) (suc w.events)
  is_full = ap (λ (r : Option EventRefusal). if is_some r then w else after_asked x12 w (asked_by w.packets e)) t.table ∙ t.after

  world_so : (lost : Bool) → world_by nodes (if lost then w.packets else w.packets ++ named (suc w.events) 1 sends) (suc w.events) ≡ happens_so x12 w (record { event = e; lost = lost })
  world_so true = ap (after_loss true w) (sym is_full)
  world_so false = ap (after_loss false w) (sym is_full)

  told_so : (lost : Bool) → outcome_by (suc w.events) lost (named (suc w.events) 1 sends) ≡ outcome_of x12 w (record { event = e; lost = lost })
  told_so true = refl
  told_so false = ap (outcome_by (suc w.events) false) (sym (ap (λ (v : World). drop (length w.packets) v.packets) is_full ∙ drop-append_seam w.packets (named (suc w.events) 1 sends)))

  pub ran : (o : EventOutcome) (packets : List SentPacket) (n events : ℕ) → n ≡ suc w.events → events ≡ n
      → packets ≡ (if o.lost then w.packets else w.packets ++ named n 1 sends) → o ≡ outcome_by n o.lost (named n 1 sends)
      → Ran w e o (world_by nodes packets events)
  ran o packets n events next last held told = record {
    table = t.table;
    world =
        ap (λ ps. world_by nodes ps events) held
        ∙ ap (λ k. world_by nodes (if o.lost then w.packets else w.packets ++ named n 1 sends) k) last
        ∙ ap (λ k. world_by nodes (if o.lost then w.packets else w.packets ++ named k 1 sends) k) next
        ∙ world_so o.lost;
    outcome = told ∙ ap (λ k. outcome_by k o.lost (named k 1 sends)) next ∙ told_so o.lost;
  }

-- one more
pub each_more : (w mid new : World) (es : List Event) (os : List EventOutcome) (e : Event) (o : EventOutcome) → EachRan w es os mid → Ran mid e o new → EachRan w (es ++ e ∷ []) (os ++ o ∷ []) new
each_more w mid new [] [] e o each r = (new, subst (λ v. Ran v e o new) each r, refl)
each_more w mid new (x ∷ es) (y ∷ os) e o each r = (each.0, each.1, each_more each.0 mid new es os e o each.2 r)
each_more w mid new [] (y ∷ os) e o each r = absurd each
each_more w mid new (x ∷ es) [] e o each r = absurd each

-- and the definition's run
pub by_run : (w new : World) (es : List Event) (os : List EventOutcome) → EachRan w es os new → new ≡ run_so x12 (happenings es os) w
by_run w new [] [] each = each
by_run w new (e ∷ es) (o ∷ os) each = by_run each.0 new es os each.2 ∙ ap (run_so x12 (happenings es os)) each.1.world
by_run w new [] (o ∷ os) each = absurd each
by_run w new (e ∷ es) [] each = absurd each

-- what was reached stays so
pub reached_by : (laws : ReachLaws x12) (w new : World) (e : Event) (o : EventOutcome) → IsReachable x12 w → Ran w e o new → IsReachable x12 new
reached_by laws w new e o reach r = subst (IsReachable x12) (sym r.world) (laws.later w reach (happening e o ∷ []))

pub reached_after : (laws : ReachLaws x12) (w new : World) (e : Event) (r : Result CodeOutcome Refused) → IsReachable x12 w → IfOk r (λ o. Ran w e (outcome_view o) new) → OnErr r (new ≡ w) → IsReachable x12 new
reached_after laws w new e (Ok o) reach took kept = reached_by laws w new e (outcome_view o) reach took
reached_after laws w new e (Err f) reach took kept = subst (IsReachable x12) (sym kept) reach

pub reached_run : (laws : ReachLaws x12) (w new : World) (es : List Event) (os : List EventOutcome) → IsReachable x12 w → EachRan w es os new → IsReachable x12 new
reached_run laws w new es os reach each = subst (IsReachable x12) (sym (by_run w new es os each)) (laws.later w reach (happenings es os))

-- and all that holds of it
pub headline_after : (laws : ReachLaws x12) (w new : World) (es : List Event) (os : List EventOutcome) → IsReachable x12 w → EachRan w es os new → Headline x12 w new
headline_after laws w new es os reach each = subst (Headline x12 w) (sym (by_run w new es os each)) (laws.headline w reach (happenings es os))

-- all that holds of a world that was reached, and of each later one
pub headline_both : (laws : ReachLaws x12) (w new : World) (es : List Event) (os : List EventOutcome) → IsReachable x12 w → EachRan w es os new → Headline x12 w new × ((more : List Happening) → Headline x12 new (run_so x12 more new))
headline_both laws w new es os reach each = (headline_after laws w new es os reach each, laws.headline new (reached_run laws w new es os reach each))

pub facts_later : (laws : ReachLaws x12) (w : World) → IsReachable x12 w → (more : List Happening) → ReachedFacts x12 (run_so x12 more w)
facts_later laws w reach more = laws.facts (run_so x12 more w) (laws.later w reach more)

pub onward_of : (laws : ReachLaws x12) (w : World) → IsReachable x12 w → HoldsOnward w
onward_of laws w reach = record {
  headline = laws.headline w reach;
  refines = laws.refines w reach;
  outsiders = λ more. (facts_later laws w reach more).outsiders;
  facts = facts_later laws w reach;
}

-- a run that stopped
pub stopped : (w new : World) (es : List Event) (os : List EventOutcome) (place : ℕ) (r : Refused) (e : Event) → place ≤ length es → EachRan w (take place es) os new → slice_get es place ≡ Some e → IsNetworkRefusal new e r → StoppedAt w es place r new
stopped w new es os place r e within each at why = record {
  within = within;
  before = (os, record { each = each; world = by_run w new (take place es) os each });
  why = inr (e, at, why);
}
