-- What is put stays where the plan is written, and else all is as it was.
use Rattle.std.proofs.Common.{◌≡◌, ◌∙◌, sym, subst}
use Rattle.std.specs.Bool.{OnFalse}
use Rattle.x12_hub.proofs.MailboxLemmas.{put_at, put_undone, same_set}
use Rattle.x12_hub.proofs.writing.write_put.Goals.{then-added, else-added}
use Rattle.x12_hub.proofs.writing.write_put.Goals as goal

pub returns-in-Ok-write-clause-put : goal.returns-in-Ok-write-clause-put
returns-in-Ok-write-clause-put g c = put_at c.args.mailboxes.now c.insert.new.self c.args.key c.in-Ok.ensures.updates.0

pub returns-after-added-clause-put : goal.returns-after-added-clause-put
returns-after-added-clause-put g c = elim c.if-added.branch [
  | then-added w ↦
      w.mailboxes-is
      ∙ put_undone c.args.mailboxes.now c.insert.new.self w.remove.new.self c.args.key (sym c.in-Ok.ensures.added ∙ w.if-added.true) c.in-Ok.ensures.keys w.remove.ensures.keys
  | else-added w ↦
      w.mailboxes-is
      ∙ same_set c.args.mailboxes.now c.insert.new.self (subst (λ b. OnFalse b (c.insert.new.self.keys ≡ c.args.mailboxes.now.keys)) w.if-added.false c.in-Ok.ensures.unchanged)
]
