-- What is posted of an interchange is what its verdict accepts, and what the reply that is kept accepts.
use Rattle.std.proofs.Common.{ℕ, ◌≡◌, ◌≤◌, ◌∙◌, ap, sym, subst, refl, Bool, true, false, not, ◌&&◌, ◌||◌, ◌==◌, List, [], length, flat_map, Ok, Err, Option, Some, None, if◌then◌else◌}
use Rattle.std.proofs.lemmas.Bool.Decides.{Decides-eqb}
use Rattle.std.proofs.lemmas.List.{nil_from_length}
use Rattle.x12_envelopes.specs.declared.header.Header.{Header}
use Rattle.x12_envelopes.specs.declared.moment.Moment.{Moment}
use Rattle.x12_envelopes.specs.declared.party.Party.{Party}
use Rattle.x12_envelopes.specs.Header.{header_of}
use Rattle.x12_envelopes.specs.Outline.{outline_of}
use Rattle.x12_envelopes.specs.Shape.{Interchange, FunctionalGroup}
use Rattle.x12_envelopes.specs.Envelope.{written}
use Rattle.x12_envelopes.specs.Segment.{Segment}
use Rattle.x12_judge.specs.Controls.{JudgingTerms}
use Rattle.x12_judge.specs.Interchange.{Reading, note_of_interchange, reading_is_silent}
use Rattle.x12_judge.specs.Group.{FunctionalGroupVerdict}
use Rattle.x12_judge.specs.Verdict.{InterchangeVerdict, InterchangeJudgement, refused, judged, verdicts_of_groups, verdict_by, judgement_by, judgement_of}
use Rattle.x12_acks.specs.Reply.{MayAnswer, due_reply, reply_of, reply_tas, judged_groups, is_reply_due}
use Rattle.x12_acks.specs.Accepted.{accepted_in_group, accepted_by_verdict, sets_by_verdict}
use Rattle.x12_acks.specs.Place.{AcceptsSets, ReplyAcceptsByPlace}
use Rattle.x12_inbound.specs.Arrival.{Arrival}
use Rattle.x12_numbers.proofs.Shelf.{and_second}

-- a reply that is kept is due, and is the reply
due_bytes : (h : Header) (j : InterchangeJudgement) (me : Party) (at : Moment) (icn gcn : ℕ) (reply : List ℕ) → Some reply ≡ due_reply h j me at icn gcn → (is_reply_due h j ≡ true) × (reply ≡ written (reply_of h j me at icn gcn))
unfolding due_reply
due_bytes h j me at icn gcn reply is = by (is_reply_due h j) is
  where
    by : (due : Bool) → Some reply ≡ (if due then Some (written (reply_of h j me at icn gcn)) else None) → (due ≡ true) × (reply ≡ written (reply_of h j me at icn gcn))
    by true is = (refl, cc)
    by false is = absurd (cc)

-- where none is kept, none is due
none_due : (h : Header) (j : InterchangeJudgement) (me : Party) (at : Moment) (icn gcn : ℕ) → None ≡ due_reply h j me at icn gcn → is_reply_due h j ≡ false
unfolding due_reply
none_due h j me at icn gcn is = by (is_reply_due h j) is
  where
    by : (due : Bool) → None ≡ (if due then Some (written (reply_of h j me at icn gcn)) else None) → due ≡ false
    by true is = absurd (cc)
    by false is = refl

-- the postings are what the reply accepts
pub reply_accepts : ReplyAcceptsByPlace → (a : Arrival) (j : InterchangeJudgement) (reply : List ℕ) (x : Interchange) (me : Party) (terms : JudgingTerms) (h : Header) (at : Moment) (icn gcn : ℕ) → header_of a.bytes ≡ Ok h → h.sender ≡ a.partner → h.icn ≡ a.icn → j ≡ judgement_of me terms h a.bytes → Some reply ≡ due_reply h j me at icn gcn → outline_of h.delims a.bytes ≡ Ok x → MayAnswer h me → icn ≤ 999999999 → gcn ≤ 999999999 → AcceptsSets h x reply (accepted_by_verdict a.partner a.icn j.verdict)
reply_accepts law a j reply x me terms h at icn gcn is_header partner number judgement is is_outline may small few =
    let posted : accepted_by_verdict a.partner a.icn j.verdict ≡ accepted_by_verdict h.sender h.icn (judgement_of me terms h a.bytes).verdict =
    ap (λ p. accepted_by_verdict p a.icn j.verdict) (sym partner)
    ∙ ap (λ n. accepted_by_verdict h.sender n j.verdict) (sym number)
    ∙ ap (λ (k : InterchangeJudgement). accepted_by_verdict h.sender h.icn k.verdict) judgement in
    let bytes : reply ≡ written (reply_of h (judgement_of me terms h a.bytes) me at icn gcn) =
    (due_bytes h j me at icn gcn reply is).1 ∙ ap (λ k. written (reply_of h k me at icn gcn)) judgement in
    subst (λ r. AcceptsSets h x r (accepted_by_verdict a.partner a.icn j.verdict)) (sym bytes)
    (subst (λ sets. AcceptsSets h x (written (reply_of h (judgement_of me terms h a.bytes) me at icn gcn)) sets) (sym posted)
    (law.bytes me terms h a.bytes x at icn gcn is_header is_outline may small few))

-- without groups nothing is posted
nothing_posted : (p : Party) (icn : ℕ) (v : InterchangeVerdict) → judged_groups v ≡ [] → accepted_by_verdict p icn v ≡ []
unfolding sets_by_verdict
nothing_posted p icn (refused note) none = refl
nothing_posted p icn (judged groups) none = ap (λ gs. flat_map (accepted_in_group p icn) gs) none

silent_groups : (b : Bool) (groups : List FunctionalGroup) → (b && length groups == 0) ≡ true → groups ≡ []
silent_groups b groups silent =
    nil_from_length groups ((Decides-eqb (length groups) 0).0 (and_second b (length groups == 0) silent))

verdict_groups : (note : Option ℕ) (vs : List FunctionalGroupVerdict) → vs ≡ [] → judged_groups (verdict_by note vs) ≡ []
verdict_groups (Some note) vs none = refl
verdict_groups None vs none = none

silent_verdict : (me : Party) (terms : JudgingTerms) (h : Header) (reading : Reading) → reading_is_silent reading ≡ true → judged_groups (judgement_by me terms h reading).verdict ≡ []
unfolding reading_is_silent verdicts_of_groups
silent_verdict me terms h (Err fault) silent = absurd (cc)
silent_verdict me terms h (Ok x) silent =
    verdict_groups (note_of_interchange terms.controls me h (Ok x)) (verdicts_of_groups terms.agreements h (Ok x))
    (ap (λ groups. verdicts_of_groups terms.agreements h (Ok (record x { groups = groups }))) (silent_groups (not (length x.tas == 0)) x.groups silent))

-- no reply is due where there are neither TA1s nor groups to write
neither_holds : (b c : Bool) → (b || not c) ≡ false → c ≡ true
neither_holds false true none = refl
neither_holds false false none = absurd (cc)
neither_holds true c none = absurd (cc)

undue_groups : (tas : List Segment) (groups : List FunctionalGroupVerdict) → (not (length tas == 0) || not (length groups == 0)) ≡ false → groups ≡ []
undue_groups tas groups undue =
    nil_from_length groups ((Decides-eqb (length groups) 0).0 (neither_holds (not (length tas == 0)) (length groups == 0) undue))

undue_verdict : (h : Header) (j : InterchangeJudgement) → is_reply_due h j ≡ false → (j.silent ≡ true → judged_groups j.verdict ≡ []) → judged_groups j.verdict ≡ []
unfolding is_reply_due
undue_verdict h j undue silent = by_silence j.silent refl
  where
    by_silence : (b : Bool) → j.silent ≡ b → judged_groups j.verdict ≡ []
    by_silence true is = silent is
    by_silence false is = undue_groups (reply_tas h j.verdict) (judged_groups j.verdict) (subst (λ b. (not b && (not (length (reply_tas h j.verdict) == 0) || not (length (judged_groups j.verdict) == 0))) ≡ false) is undue)

-- where no reply is due nothing is posted
pub undue_posts : (a : Arrival) (j : InterchangeJudgement) (me : Party) (terms : JudgingTerms) (h : Header) (at : Moment) (icn gcn : ℕ) → j ≡ judgement_of me terms h a.bytes → None ≡ due_reply h j me at icn gcn → accepted_by_verdict a.partner a.icn j.verdict ≡ []
unfolding judgement_of
undue_posts a j me terms h at icn gcn judgement undue =
    nothing_posted a.partner a.icn j.verdict
    (undue_verdict h j (none_due h j me at icn gcn undue)
    (λ silent. ap (λ (k : InterchangeJudgement). judged_groups k.verdict) judgement
    ∙ silent_verdict me terms h (outline_of h.delims a.bytes) (sym (ap (λ (k : InterchangeJudgement). k.silent) judgement) ∙ silent)))
