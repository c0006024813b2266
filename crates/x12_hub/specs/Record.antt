-- What the code's values of a hub's records stand for.
use Rattle.std.specs.Prelude.{ℕ, List, map}
use Rattle.x12_envelopes.specs.declared.party.Party.{Party}
use Rattle.x12_hub.specs.declared.decision.Decision.{Decision as CodeDecision}
use Rattle.x12_hub.specs.declared.decision.Decision.TheVariants as code
use Rattle.x12_hub.specs.declared.plan.HubChange.{HubChange}
use Rattle.x12_hub.specs.declared.plan.HubChange.TheVariants as hub
use Rattle.x12_hub.specs.declared.records.HubLoaded.{HubLoaded}
use Rattle.x12_hub.specs.Hub.{Mailbox, HubOutcome, Boxed, Refused}
use Rattle.x12_hub.specs.Stored.{HubStored, WaitingItem}
use Rattle.x12_hub.specs.Plan.{HubAct, Decides, PutsBack, TakesOut, Enrols, Dismisses}

abbrev pub decision_view : CodeDecision → HubOutcome
decision_view (code.Boxed node item) = Boxed node item
decision_view (code.Refused reply) = Refused reply.items

abbrev pub hub_act_view : HubChange → HubAct
hub_act_view (hub.Decided bytes decision) = Decides bytes.items (decision_view decision)
hub_act_view (hub.PutBack node item) = PutsBack node item
hub_act_view (hub.TakenOut item) = TakesOut item
hub_act_view (hub.Enrolled party node) = Enrols party node
hub_act_view (hub.Dismissed party) = Dismisses party

-- an entry of the directory
abbrev pub mailbox_view : Party × ℕ → Mailbox
mailbox_view e = record { party = e.0; node = e.1 }

-- an item that waits: its node, and its number
abbrev pub waiting_view : ℕ × ℕ → WaitingItem
waiting_view w = record { node = w.0; item = w.1 }

-- what a hub loads: all that the records hold but the decisions
pub record HubStart : Type 0 where
  pub icn : ℕ
  pub item : ℕ
  pub directory : List Mailbox
  pub waiting : List WaitingItem

abbrev pub hub_start_view : HubLoaded → HubStart
hub_start_view l = record {
  icn = l.icn;
  item = l.item;
  directory = map mailbox_view l.directory.items;
  waiting = map waiting_view l.mailboxes.items;
}

abbrev pub hub_start_of : HubStored → HubStart
hub_start_of s = record {
  icn = s.icn;
  item = s.item;
  directory = s.directory;
  waiting = s.waiting;
}
