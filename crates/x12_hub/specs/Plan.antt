-- What one commit changes in a hub's records.
use Rattle.std.specs.Prelude.{ℕ, List, [], ◌∷◌, ◌++◌, filter, not, ◌==◌, nat_lt}
use Rattle.x12_envelopes.specs.declared.party.Party.{Party}
use Rattle.x12_profile.specs.Interchange.{Bytes}
use Rattle.x12_hub.specs.Hub.{HubOutcome, Boxed, Refused, entries_of_others}
use Rattle.x12_hub.specs.Stored.{HubStored, WaitingItem}

-- a first decision on bytes; a decided item that is put back into its mailbox; an item that is taken
-- out; a party's entry that is written anew; an entry that is taken out
pub data HubAct : Type 0 where
  Decides : Bytes → HubOutcome → HubAct
  PutsBack : ℕ → ℕ → HubAct
  TakesOut : ℕ → HubAct
  Enrols : Party → ℕ → HubAct
  Dismisses : Party → HubAct

-- a commit: the two last numbers as they are to be, and the change
pub record HubCommit : Type 0 where
  pub icn : ℕ
  pub item : ℕ
  pub change : HubAct

-- an item is put into its mailbox, where it stands at most once, by rising number
abbrev pub put_waiting : ℕ → ℕ → List WaitingItem → List WaitingItem
put_waiting node item waiting =
    filter (λ w. nat_lt w.item item) waiting
    ++ record { node = node; item = item } ∷ filter (λ w. nat_lt item w.item) waiting

-- the item waits no more
abbrev pub take_waiting : ℕ → List WaitingItem → List WaitingItem
take_waiting item waiting = filter (λ w. not (w.item == item)) waiting

-- what waits once this was decided: a boxed item does
abbrev pub boxed_after : HubOutcome → List WaitingItem → List WaitingItem
boxed_after (Boxed node item) waiting = put_waiting node item waiting
boxed_after (Refused reply) waiting = waiting

-- the records once the change is made
abbrev pub hub_changed : HubAct → HubStored → HubStored
hub_changed (Decides b o) s = record s {
  decisions = s.decisions ++ record { body = b; outcome = o } ∷ [];
  waiting = boxed_after o s.waiting;
}
hub_changed (PutsBack node item) s = record s { waiting = put_waiting node item s.waiting }
hub_changed (TakesOut item) s = record s { waiting = take_waiting item s.waiting }
hub_changed (Enrols party node) s = record s {
  directory = entries_of_others party s.directory ++ record { party = party; node = node } ∷ [];
}
hub_changed (Dismisses party) s = record s { directory = entries_of_others party s.directory }

-- the records once the plan is committed
abbrev pub hub_stored_after : HubCommit → HubStored → HubStored
hub_stored_after plan s = record (hub_changed plan.change s) { icn = plan.icn; item = plan.item }
