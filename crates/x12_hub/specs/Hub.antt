-- The hub, and its step for each event. It decides once on distinct bytes, by the directory of that
-- moment, and keeps the decision for good.
use Rattle.x12_numbers.specs.declared.book.TheConstants.{MAX_CONTROL_NUMBER}
use Rattle.std.specs.Prelude.{ℕ, ◌+◌, List, [], ◌∷◌, ◌++◌, ◌&&◌, not, ◌==◌, nat_le, nat_lt, if◌then◌else◌, filter, filter_map, Option, Some, None, bytes_eq}
use Rattle.std.specs.List.{list_any}
use Rattle.x12_envelopes.specs.declared.party.Party.{Party}
use Rattle.x12_envelopes.specs.declared.moment.Moment.{Moment}
use Rattle.x12_judge.specs.Agreement.{is_same_party}
use Rattle.x12_profile.specs.Interchange.{Bytes}
use Rattle.x12_profile.specs.Profile.{Profile}

-- the hub puts bytes into a node's mailbox, as an item; or it refuses them (TA1 R 009)
pub data HubOutcome : Type 0 where
  Boxed : ℕ → ℕ → HubOutcome
  Refused : Bytes → HubOutcome

-- a decision of the hub: bytes, and what became of them
pub record Decision : Type 0 where
  pub body : Bytes
  pub outcome : HubOutcome

-- b is refused with this reply
abbrev pub refused_with : Bytes → Bytes → Decision
refused_with b reply = record { body = b; outcome = Refused reply }

-- whose mailbox is at which node
pub record Mailbox : Type 0 where
  pub party : Party
  pub node : ℕ

-- the hub's party, and all that it keeps
pub record Hub : Type 0 where
  pub me : Party
  pub directory : List Mailbox
  -- the decisions in their order, and the items that wait in their mailboxes
  pub decisions : List Decision
  pub waiting : List ℕ
  -- the last interchange number, and the last item number
  pub icn : ℕ
  pub item : ℕ

-- a hub of this party with empty records
abbrev pub new_hub : Party → Hub
new_hub me = record { me = me; directory = []; decisions = []; waiting = []; icn = 0; item = 0 }

-- the decision on these bytes, if there is one
abbrev pub decided : List Decision → Bytes → Option HubOutcome
decided [] b = None
decided (d ∷ ds) b = if bytes_eq d.body b then Some d.outcome else decided ds b

-- the node of a party's mailbox, if there is one
abbrev pub mailbox_of : List Mailbox → Party → Option ℕ
mailbox_of [] party = None
mailbox_of (m ∷ ms) party = if is_same_party m.party party then Some m.node else mailbox_of ms party

-- the hub at a deposit, and its decision
pub record HubStep : Type 0 where
  pub hub : Hub
  pub outcome : HubOutcome

-- the hub once this decision was made
abbrev pub decides : Hub → Bytes → HubOutcome → Hub
decides h b outcome = record h {
  decisions = h.decisions ++ record { body = b; outcome = outcome }
      ∷ [];
  item = h.item + 1;
}

-- an item is put among those that wait, where it stands at most once, by rising number
abbrev pub put_among : ℕ → List ℕ → List ℕ
put_among item waiting =
    filter (λ i. nat_lt i item) waiting ++ item ∷ filter (λ i. nat_lt item i) waiting

-- an item is put into its mailbox
abbrev pub waits : Hub → ℕ → Hub
waits h item = record h { waiting = put_among item h.waiting }

-- the hub refuses b with this reply, which took its next number
abbrev pub refuse : Hub → Bytes → Bytes → HubStep
refuse h b reply = record {
  hub = record (decides h b (Refused reply)) { icn = h.icn + 1 };
  outcome = Refused reply;
}

-- a decision that stands is given again, and its item put back
abbrev pub deposit_again : Hub → HubOutcome → HubStep
deposit_again h (Boxed node item) = record { hub = waits h item; outcome = Boxed node item }
deposit_again h (Refused reply) = record { hub = h; outcome = Refused reply }

-- bytes with this outcome, as an item of this mailbox that waits: its number and its bytes
abbrev pub item_of : Hub → ℕ → Bytes → HubOutcome → Option (ℕ × Bytes)
item_of h node b (Boxed to item) = if (to == node) && list_any (λ i. i == item) h.waiting
    then Some (item, b) else None
item_of h node b (Refused reply) = None

-- what waits in a mailbox, by rising item number
abbrev pub collect : Hub → ℕ → List (ℕ × Bytes)
collect h node = filter_map (λ d. item_of h node d.body d.outcome) h.decisions

-- an item of this mailbox is taken out of it
abbrev pub taken : Hub → ℕ → ℕ → Hub
taken h node item =
    if list_any (λ c. c.0 == item) (collect h node)
    then record h { waiting = filter (λ i. not (i == item)) h.waiting }
    else h

-- the entries of other parties
abbrev pub entries_of_others : Party → List Mailbox → List Mailbox
entries_of_others party old = filter (λ m. not (is_same_party m.party party)) old

-- a party's new entry, behind the others, in place of its old one
abbrev pub enrolled : Hub → Party → ℕ → Hub
enrolled h party node = record h {
  directory = entries_of_others party h.directory ++ record { party = party; node = node } ∷ [];
}

-- a party's entry is taken out
abbrev pub dismissed : Hub → Party → Hub
dismissed h party = record h { directory = entries_of_others party h.directory }

module _ (p : Profile) where
  -- a first deposit: into the receiver's mailbox, or refused under the next number
  abbrev pub deposit_new : Hub → Moment → Bytes → Option ℕ → Option HubStep
  deposit_new h at b (Some node) =
      Some (record {
        hub = waits (decides h b (Boxed node (h.item + 1))) (h.item + 1);
        outcome = Boxed node (h.item + 1);
      })
  deposit_new h at b None =
      if nat_le (h.icn + 1) MAX_CONTROL_NUMBER
      then Some (refuse h b (p.refusal 9 h.me at (h.icn + 1) b))
      else None

  -- a deposit of bytes that were decided so, or not yet; each decision takes an item number
  abbrev pub deposit_at : Hub → Moment → Bytes → Option HubOutcome → Option HubStep
  deposit_at h at b (Some outcome) = Some (deposit_again h outcome)
  deposit_at h at b None = if nat_le (h.item + 1) MAX_CONTROL_NUMBER
      then deposit_new h at b (mailbox_of h.directory (p.receiver b)) else None

  -- a deposit of readable bytes
  abbrev pub deposit : Hub → Moment → Bytes → Option HubStep
  deposit h at b = if p.has_header b then deposit_at h at b (decided h.decisions b) else None
