-- A reply that takes no group control number is the same under each.
use Rattle.std.proofs.Common.{◌≡◌, ℕ, Bool, true, false, not, ◌&&◌, ◌==◌, List, [], length, refl, sym, ap, ◌∙◌, ◌⊎◌, inl, inr, if◌then◌else◌, Some, None}
use Rattle.std.proofs.lemmas.Bool.Decides.{Decides-eqb}
use Rattle.std.proofs.lemmas.List.{nil_from_length}
use Rattle.x12_envelopes.specs.declared.header.Header.{Header}
use Rattle.x12_envelopes.specs.declared.moment.Moment.{Moment}
use Rattle.x12_envelopes.specs.declared.party.Party.{Party}
use Rattle.x12_envelopes.specs.Envelope.{WrittenGroup, written}
use Rattle.x12_judge.specs.Group.{FunctionalGroupVerdict}
use Rattle.x12_judge.specs.Verdict.{InterchangeJudgement}
use Rattle.x12_acks.specs.Reply.{reply_to, reply_of, reply_tas, answer_groups, judged_groups, is_reply_due, due_reply, takes_group_number}
use Rattle.x12_acks.specs.Due.{GroupNumberIsUnused}

same_groups : (at : Moment) (gcn other : ℕ) (gs : List FunctionalGroupVerdict) → gs ≡ [] → answer_groups at gcn gs ≡ answer_groups at other gs
unfolding answer_groups
same_groups at gcn other gs none = rw none refl

-- a silent interchange, or one without groups
without_groups : (silent none : Bool) → (not silent && not none) ≡ false → (silent ≡ true) ⊎ (none ≡ true)
without_groups true none unused = inl refl
without_groups false true unused = inr refl
without_groups false false unused = absurd (cc)

silent_is_undue : (h : Header) (j : InterchangeJudgement) → j.silent ≡ true → is_reply_due h j ≡ false
unfolding is_reply_due
silent_is_undue h j silent = rw silent refl

undue_is_none : (h : Header) (j : InterchangeJudgement) (me : Party) (at : Moment) (icn gcn : ℕ) → is_reply_due h j ≡ false → due_reply h j me at icn gcn ≡ None
unfolding due_reply
undue_is_none h j me at icn gcn undue = rw undue refl

by_groups : (h : Header) (j : InterchangeJudgement) (me : Party) (at : Moment) (icn gcn other : ℕ) → answer_groups at gcn (judged_groups j.verdict) ≡ answer_groups at other (judged_groups j.verdict) → due_reply h j me at icn gcn ≡ due_reply h j me at icn other
unfolding due_reply reply_of
by_groups h j me at icn gcn other same =
    ap (λ (groups : List WrittenGroup). if is_reply_due h j then Some (written (reply_to h me at icn (reply_tas h j.verdict) groups)) else None) same

pub group_number_is_unused : GroupNumberIsUnused
unfolding takes_group_number
group_number_is_unused h j me at icn gcn other unused = elim (without_groups j.silent (length (judged_groups j.verdict) == 0) unused) [
  | inl silent ↦ undue_is_none h j me at icn gcn (silent_is_undue h j silent) ∙ sym (undue_is_none h j me at icn other (silent_is_undue h j silent))
  | inr none ↦ by_groups h j me at icn gcn other (same_groups at gcn other (judged_groups j.verdict) (nil_from_length (judged_groups j.verdict) ((Decides-eqb (length (judged_groups j.verdict)) 0).0 none)))
]
