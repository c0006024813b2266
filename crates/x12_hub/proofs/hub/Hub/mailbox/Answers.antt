-- A mailbox in memory has the items that wait in it.
use Rattle.std.proofs.Common.{◌∙◌, sym}
use Rattle.x12_hub.proofs.ItemsLemmas.{items_are, kept_are}
use Rattle.x12_hub.proofs.CollectLemmas.{collected}
use Rattle.x12_hub.proofs.hub.Hub.mailbox.Goals as goal

pub returns-clause-items : goal.returns-clause-items
returns-clause-items g c =
    rw (← c.self.view_is)
    (λ answers.
    let keeps = c.self.invariant.2 answers in
    let s = g.H.HubRecords.content c.self.inside.records in
    let sound = g.met.H.HubRecords.sound c.self.inside.records c.self.invariant.0 answers in
    let all = collected c.self.inside.cached.me s c.args.node sound in
    c.in_ok-items_at.ensures.items ∙ items_are s c.self.inside.cached.mailboxes c.args.node c.self.inside.cached.item sound keeps.item c.in_ok-items_at.ensures.ordered keeps.waiting ∙ sym all.numbers)

pub returns-clause-remembers : goal.returns-clause-remembers
returns-clause-remembers g c =
    rw (← c.self.view_is) (c.in_ok-items_at.ensures.items ∙ kept_are c.args.node c.self.inside.cached.item c.self.inside.cached.mailboxes.keys)
