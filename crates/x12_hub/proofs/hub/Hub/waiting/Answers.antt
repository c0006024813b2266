-- A mailbox in memory has as many items as wait in it.
use Rattle.std.proofs.Common.{◌∙◌, ap, sym, length, map}
use Rattle.std.specs.Prelude.{filter, ◌==◌, ◌&&◌, nat_le}
use Rattle.std.proofs.lemmas.List.{length-map}
use Rattle.x12_hub.proofs.ItemsLemmas.{items_are, kept_are}
use Rattle.x12_hub.proofs.CollectLemmas.{collected}
use Rattle.x12_hub.specs.Hub.{collect}
use Rattle.x12_hub.specs.Record.{waiting_view}
use Rattle.x12_hub.specs.Stored.{WaitingItem, hub_of}
use Rattle.x12_hub.proofs.hub.Hub.waiting.Goals as goal

pub returns-clause-items : goal.returns-clause-items
returns-clause-items g c =
    rw (← c.self.view_is)
    (λ answers.
    let keeps = c.self.invariant.2 answers in
    let s = g.H.HubRecords.content c.self.inside.records in
    let sound = g.met.H.HubRecords.sound c.self.inside.records c.self.invariant.0 answers in
    let all = collected c.self.inside.cached.me s c.args.node sound in
    c.count_at.ensures.count
    ∙ ap length (items_are s c.self.inside.cached.mailboxes c.args.node c.self.inside.cached.item sound keeps.item c.count_at.ensures.ordered keeps.waiting ∙ sym all.numbers)
    ∙ length-map (collect (hub_of c.self.inside.cached.me s) c.args.node) (λ p. p.0))

pub returns-clause-remembers : goal.returns-clause-remembers
returns-clause-remembers g c =
    rw (← c.self.view_is)
    (let last = c.self.inside.cached.item in
    let keys = c.self.inside.cached.mailboxes.keys in
    c.count_at.ensures.count
    ∙ ap length (kept_are c.args.node last keys)
    ∙ length-map (filter (λ (w : WaitingItem). (w.node == c.args.node) && nat_le w.item last) (map waiting_view keys)) (λ w. w.item))
