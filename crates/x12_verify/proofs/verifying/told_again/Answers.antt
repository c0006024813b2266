use Rattle.std.proofs.Common.{map, refl, sym}
use Rattle.x12_inbound.specs.Posting.{posting_view}
use Rattle.x12_station.specs.Memory.{memory_view}
use Rattle.x12_station.specs.Record.{owner_view}
use Rattle.x12_verify.proofs.AgainLemmas.{holds_told}
use Rattle.x12_verify.proofs.verifying.told_again.Goals as goal

pub returns-in-Ok-clause-told : goal.returns-in-Ok-clause-told
returns-in-Ok-clause-told g c = λ answers.
    let own = sym c.close-told.ensures.answers in
    holds_told (g.R.Records.content c.args.records.now) (memory_view c.close-told.result) (owner_view c.args.holder.now.owner) c.args.holder.now.loaded.now.book c.args.holder.now.loaded.now.seq
    c.in_ok-again.again.state c.tell_all-telling.new.again.state (map posting_view c.args.kept.now) (map posting_view c.in-Ok.telling.postings.left.now) (c.in-Ok.ensures.told answers own)
    (c.in_ok-again.ensures (c.in-Ok.ensures.never_won_back own)) c.close-told.ensures.holds.items (c.close-told.ensures.written refl)
