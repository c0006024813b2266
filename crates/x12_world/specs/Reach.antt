-- Worlds that a network reached by some past list of events, packets lost or not: what a running
-- network is, and all that holds of it and of every later one.
use Rattle.std.specs.Prelude.{◌≡◌, ◌≤◌, List, [], ◌∷◌, IsSome, length}
use Rattle.x12_profile.specs.Profile.{Profile}
use Rattle.x12_profile.specs.X12.{x12}
use Rattle.x12_world.specs.World.{World}
use Rattle.x12_world.specs.Network.{Network, IsNetwork}
use Rattle.x12_world.specs.Run.{new_world}
use Rattle.x12_world.specs.Loss.{Happening, happens_so, run_so}
use Rattle.x12_world.specs.Headline.{Headline}
use Rattle.x12_world.specs.Traffic.{TrafficFacts}
use Rattle.x12_world.specs.Conflict.{NoConflict}
use Rattle.x12_world.specs.Number.{NumbersAreUsed}
use Rattle.x12_world.specs.Outsider.{OutsidersMoveNothing}
use Rattle.x12_world.specs.Audit.{KeysTell, NoAuditIsBad}
use Rattle.x12_world.specs.Exchange.{Exchange, IsStepOrNone, Refines}

module _ (p : Profile) where
  -- a world is what some network's past made of it
  pub record IsReachable (w : World) : Type 0 where
    pub net : Network
    pub network : IsNetwork p net
    pub past : List Happening
    pub is : w ≡ run_so p past (new_world net)

  -- the worlds of a list of happenings refine exchanges, each one step after the one before, or the
  -- same
  abbrev pub FollowsSo : World → Exchange → List Happening → Type 0
  FollowsSo w e [] = Refines p w e
  FollowsSo w e (h ∷ hs) = Refines p w e × (f : Exchange) × IsStepOrNone p e f
      × FollowsSo (happens_so p w h) f hs

  -- it refines an exchange, and what comes after goes on from there by single steps
  abbrev pub AlwaysFollows : World → Type 0
  AlwaysFollows w = (e : Exchange) × ((more : List Happening) → FollowsSo w e more)

  -- this holds of it, and of each later world
  abbrev pub Onward : (World → Type 0) → World → Type 0
  Onward says w = (more : List Happening) → says (run_so p more w)

  -- what holds of a world that was reached
  pub record ReachedFacts (w : World) : Type 0 where
    pub traffic : TrafficFacts p w
    pub no_conflict : NoConflict p w
    pub outsiders : OutsidersMoveNothing p w
    pub numbers : NumbersAreUsed p w
    pub keys : KeysTell p w
    pub audits : NoAuditIsBad p w
    -- where there is a second hub, the numbers of the other nodes are below its own
    pub few : IsSome w.nodes.second → length w.nodes.listed ≤ 17

  pub record ReachLaws : Type 0 where
    -- a new world of a network is reached, and what comes after one that was reached
    pub new : (net : Network) → IsNetwork p net → IsReachable (new_world net)
    pub later : (w : World) → IsReachable w → (hs : List Happening) → IsReachable (run_so p hs w)
    -- the facts hold of it, and the headline of it and of each later world
    pub facts : (w : World) → IsReachable w → ReachedFacts w
    pub headline : (w : World) → IsReachable w → (hs : List Happening)
        → Headline p w (run_so p hs w)
    -- and that it refines
    pub refines : (w : World) → IsReachable w → AlwaysFollows w

-- all that holds of a world of X12 that was reached, and of each later one
pub record HoldsOnward (w : World) : Type 0 where
  pub headline : (more : List Happening) → Headline x12 w (run_so x12 more w)
  pub refines : AlwaysFollows x12 w
  pub outsiders : Onward x12 (OutsidersMoveNothing x12) w
  pub facts : Onward x12 (ReachedFacts x12) w

-- of the world before a run, and of the one after it
abbrev pub OfBoth : (World → Type 0) → World → World → Type 0
OfBoth says before after = says before × says after
