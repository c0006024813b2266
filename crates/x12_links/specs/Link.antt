-- A link between what it took of the wire and what it put into its inbox.
use Rattle.std.specs.Prelude.{◌≡◌, ◌++◌, ◌∷◌, [], List, None, Option, Some, false, true}
use Rattle.crossbeam_channel.specs.Claims.{view, IsSeatAt}
use Rattle.crossbeam_channel.specs.Ends.{sends_on, receives_on}
use Rattle.x12_links.specs.declared.inbox.Inlet.{Inlet}
use Rattle.x12_links.specs.declared.link.Link.{Link}
use Rattle.x12_links.specs.declared.link.Way.{Way}
use Rattle.x12_links.specs.declared.plan.FaultPlan.{FaultPlan}
use Rattle.x12_links.specs.Inbox.{log}
use Rattle.x12_links.specs.Plan.{LinkStanding, nothing_taken, standing_behind, put_by}
use Rattle.x12_links.specs.Route.{standing_of}

module _ {P : Type 0} (follows : Option P → P → Type 0) where
  -- each of these parcels was sent behind the one in front of it, the first behind this one, and the last is that one
  abbrev pub ComeInTurn : Option P → List P → Option P → Type 0
  ComeInTurn before [] last = last ≡ before
  ComeInTurn before (x ∷ xs) last = follows before x × ComeInTurn (Some x) xs last

  -- Parcels were taken in turn, up to this one; and what the plan makes of them is what was put and then what is to be put.
  pub record Took (plan : FaultPlan) (last : Option P) (standing : LinkStanding P) (put pending : List P) : Type 0 where
    pub taken : List P
    pub in_turn : ComeInTurn None taken last
    pub standing_is : standing ≡ standing_behind plan nothing_taken taken
    pub put_is : put ++ pending ≡ put_by plan taken

  -- Parcels were sent this way one behind the other, and what was taken out of the inbox is a front of what the plan makes
  -- of them.
  pub record IsLane (plan : FaultPlan) (took : List P) : Type 0 where
    pub sent : List P
    pub last : Option P
    pub in_turn : ComeInTurn None sent last
    pub rest : List P
    pub front : took ++ rest ≡ put_by plan sent

module _ {P : Type 0} (follows : Way → Option P → P → Type 0) where
  -- a link that has these parcels to put
  abbrev pub IsLinkWith : List P → Link P → Type 0
  IsLinkWith pending l =
      IsSeatAt (sends_on l.sender) l.pass × ((put : List P) × (view l.pass ≡ log true false put [])
      × Took (follows l.way) l.plan l.last (standing_of l.route) put pending)

  -- A link: its pass knows what was put, which is what the plan makes of parcels that were sent its way.
  abbrev pub IsLink : Link P → Type 0
  IsLink l = IsLinkWith l.route.pending.items l

module _ {P : Type 0} where
  -- the same link: of the same inbox, way and plan
  abbrev pub IsSameLink : Link P → Link P → Type 0
  IsSameLink l m = (m.sender ≡ l.sender) × (m.way ≡ l.way) × (m.plan ≡ l.plan)

  -- the inlet of an inbox, whose pass knows what was taken
  abbrev pub IsInlet : Inlet P → Type 0
  IsInlet i = IsSeatAt (receives_on i.receiver) i.pass × ((took : List P) × (view i.pass ≡ log false true [] took))

  -- an inlet out of which nothing was taken yet
  abbrev pub IsNewInlet : Inlet P → Type 0
  IsNewInlet i = IsSeatAt (receives_on i.receiver) i.pass × (view i.pass ≡ log false true [] [])
