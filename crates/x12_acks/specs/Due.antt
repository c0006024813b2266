-- Which control numbers a reply hangs on: a group's only where it takes one.
use Rattle.std.specs.Prelude.{◌≡◌, ℕ, false}
use Rattle.x12_envelopes.specs.declared.party.Party.{Party}
use Rattle.x12_envelopes.specs.declared.header.Header.{Header}
use Rattle.x12_envelopes.specs.declared.moment.Moment.{Moment}
use Rattle.x12_judge.specs.Verdict.{InterchangeJudgement}
use Rattle.x12_acks.specs.Reply.{due_reply, takes_group_number}

-- Where a reply takes no group control number it is the same under each, as where none is due.
abbrev pub GroupNumberIsUnused : Type 0
GroupNumberIsUnused =
    (h : Header) (j : InterchangeJudgement) (me : Party) (at : Moment) (icn gcn other : ℕ) →
    takes_group_number j ≡ false →
    due_reply h j me at icn gcn ≡ due_reply h j me at icn other
