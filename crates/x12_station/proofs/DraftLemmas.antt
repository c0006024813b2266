-- A reply where one is due.
use Rattle.std.specs.Prelude.{◌≡◌, ℕ, Bool, true, false, ◌&&◌, ◌||◌, not, length, ◌==◌, Some, None, refl}
use Rattle.x12_envelopes.specs.declared.header.Header.{Header}
use Rattle.x12_envelopes.specs.declared.moment.Moment.{Moment}
use Rattle.x12_envelopes.specs.declared.party.Party.{Party}
use Rattle.x12_envelopes.specs.Envelope.{written}
use Rattle.x12_judge.specs.Verdict.{InterchangeJudgement}
use Rattle.x12_acks.specs.Reply.{due_reply, is_reply_due, judged_groups, reply_of, reply_tas, takes_group_number}

module _ (h : Header) (j : InterchangeJudgement) where
  pub no_reply : (me : Party) (at : Moment) (icn gcn : ℕ) → is_reply_due h j ≡ false → None ≡ due_reply h j me at icn gcn
  unfolding due_reply
  no_reply me at icn gcn due = rw due refl

  pub with_reply : (me : Party) (at : Moment) (icn gcn : ℕ) → is_reply_due h j ≡ true → Some (written (reply_of h j me at icn gcn)) ≡ due_reply h j me at icn gcn
  unfolding due_reply
  with_reply me at icn gcn due = rw due refl

  -- a reply that takes a group number is due
  pub group_is_due : takes_group_number j ≡ true → is_reply_due h j ≡ true
  unfolding takes_group_number is_reply_due
  group_is_due takes = by (not j.silent) (not (length (reply_tas h j.verdict) == 0)) (not (length (judged_groups j.verdict) == 0)) takes
    where
      by : (a b c : Bool) → (a && c) ≡ true → (a && (b || c)) ≡ true
      by true true c is = refl
      by true false c is = is
      by false b c is = is
