use Rattle.std.proofs.Common.{rules}
use Rattle.x12_links.proofs.NetLemmas.{all_heard, as_many}
use Rattle.x12_links.proofs.net.run_net.Goals as goal

-- the slice is all of the vector
pub returns-clause-all : goal.returns-clause-all
returns-clause-all g c =
    let was = c.args.endpoints.now in
    as_many was.items _ c.run_slice.new.endpoints was.len c.deref_mut.ensures.value (search rules) c.run_slice.ensures.all

pub returns-clause-heard : goal.returns-clause-heard
returns-clause-heard g c =
    let was = c.args.endpoints.now in
    all_heard (g.W.Wire.follows c.args.wire.now) g.D.Recipient.answered (λ e. e.node) (λ e. e.senders.items) (λ e. g.D.Recipient.delivered e.recipient) c.args.plan was.items _ c.run_slice.new.endpoints was.len c.deref_mut.ensures.value (search rules) c.run_slice.ensures.all c.run_slice.ensures.heard
