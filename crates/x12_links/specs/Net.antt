-- A net: nodes, each with an inbox for the parcels of each node that sends to it, and a link into each inbox.
use Rattle.std.specs.Prelude.{◌≡◌, ◌<◌, ◌⊎◌, ◌++◌, ◌∷◌, [], All, List, None, Option, Some, length, slice_index_or, ℕ}
use Rattle.std.specs.List.{Contains}
use Rattle.crossbeam_channel.specs.Claims.{view}
use Rattle.crossbeam_channel.specs.Ends.{sends_on, receives_on}
use Rattle.x12_links.specs.declared.inbox.Inlet.{Inlet}
use Rattle.x12_links.specs.declared.link.Link.{Link}
use Rattle.x12_links.specs.declared.link.Way.{Way}
use Rattle.x12_links.specs.declared.plan.FaultPlan.{FaultPlan}
use Rattle.x12_links.specs.declared.worker.Delivery.{Delivery}
use Rattle.x12_links.specs.Link.{IsInlet, IsLane, IsLink, IsNewInlet, IsSameLink}
use Rattle.x12_links.specs.Worker.{senders_of, AreDistinct, IsChosen}

module _ {P : Type 0} (follows : Option P → P → Type 0) (answers : P → Delivery → Type 0) where
  -- What was taken out of an inbox is a front of what the plan makes of parcels that were sent this way, one behind the other.
  -- The node was asked for each, in this order, and what it took was delivered; at most the last is cut off by a halt.
  pub record IsInboxHeard (plan : FaultPlan) (delivered : List P) : Type 0 where
    pub took : List P
    pub lane : IsLane follows plan took
    pub chosen : IsChosen answers 1 delivered took

module _ {P : Type 0} (follows : Way → Option P → P → Type 0) (answered : ℕ → P → Delivery → Type 0) where
  -- and so of the parcels of each node that sends to this one; of other nodes' none was delivered
  pub record IsNodeHeard (plan : FaultPlan) (node : ℕ) (senders : List ℕ) (delivered : ℕ → List P) : Type 0 where
    pub each : All (λ from. IsInboxHeard (follows (record { from = from; to = node })) (answered from) plan (delivered from)) senders
    pub only : (from : ℕ) → ¬ (Contains senders from) → delivered from ≡ []

module _ {P : Type 0} (follows : Way → Option P → P → Type 0) where
  -- a link of this plan into a node, and the inlet of its inbox, out of which nothing was taken
  pub record IsConnected (plan : FaultPlan) (node : ℕ) (l : Link P) (i : Inlet P) : Type 0 where
    pub link : IsLink follows l
    pub inlet : IsNewInlet i
    pub one : receives_on i.receiver ≡ sends_on l.sender
    pub way_is : l.way ≡ record { from = i.from; to = node }
    pub plan_is : l.plan ≡ plan

  -- and so of each inbox of a node, which are of different senders
  pub record AreConnected (plan : FaultPlan) (node : ℕ) (links : List (Link P)) (inlets : List (Inlet P)) : Type 0 where
    pub long : length inlets ≡ length links
    pub each : (k : ℕ) (l : Link P) (i : Inlet P) → k < length links
        → IsConnected plan node (slice_index_or links k l) (slice_index_or inlets k i)
    pub apart : AreDistinct (senders_of inlets)

  -- links and inlets, by pairs of one inbox
  abbrev pub ArePaired : List (Link P) → List (Inlet P) → Type 0
  ArePaired [] [] = Unit {0}
  ArePaired [] (i ∷ inlets) = ⊥
  ArePaired (l ∷ links) [] = ⊥
  ArePaired (l ∷ links) (i ∷ inlets) =
      (IsLink follows l × (IsInlet i × (receives_on i.receiver ≡ sends_on l.sender))) × ArePaired links inlets

  -- of each pair, what was taken is a front of what the plan makes of parcels that were sent its way
  abbrev pub AreLanes : List (Link P) → List (Inlet P) → Type 0
  AreLanes [] inlets = Unit {0}
  AreLanes (l ∷ links) [] = Unit {0}
  AreLanes (l ∷ links) (i ∷ inlets) = IsLane (follows l.way) l.plan (view i.pass).took × AreLanes links inlets

  -- each link may begin
  pub record AreLinks (links : List (Link P)) : Type 0 where
    pub each : (k : ℕ) (d : Link P) → k < length links → IsLink follows (slice_index_or links k d)

  -- a link that ended: it may go on, and is the same
  pub record IsDoneLink (old new : Link P) : Type 0 where
    pub link : IsLink follows new
    pub same : IsSameLink old new

  -- and so of each link
  pub record AreDoneLinks (old new : List (Link P)) : Type 0 where
    pub all : length new ≡ length old
    pub each : (k : ℕ) (d : Link P) → k < length old → IsDoneLink (slice_index_or old k d) (slice_index_or new k d)

  -- a link whose inlet is this one, if there is one
  abbrev pub IsPairedWith : Link P → Option (Inlet P) → Type 0
  IsPairedWith l None = Unit {0}
  IsPairedWith l (Some i) = IsLink follows l × (IsInlet i × (receives_on i.receiver ≡ sends_on l.sender))

  -- and what was taken out of it
  abbrev pub IsLaneOf : Link P → Option (Inlet P) → Type 0
  IsLaneOf l None = Unit {0}
  IsLaneOf l (Some i) = IsLane (follows l.way) l.plan (view i.pass).took

-- a number is among others: it was already, or it is behind them
abbrev pub IsAdded : List ℕ → ℕ → List ℕ → Type 0
IsAdded old from new = (Contains old from × (new ≡ old)) ⊎ (new ≡ old ++ from ∷ [])

-- the same numbers, in whatever order and however often
pub record AreSameNumbers (xs ys : List ℕ) : Type 0 where
  pub each : All (Contains ys) xs
  pub only : All (Contains xs) ys
