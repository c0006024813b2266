-- What a written interchange answers is what its segments answer.
use Rattle.std.proofs.Common.{◌≡◌, ◌≤◌, inl, inr, ◌++◌, ◌∷◌, [], List, ℕ, Bool, true, map, flat_map, if◌then◌else◌, refl, ap, ap₂, sym, ◌∙◌, ◌⊎◌, codes}
use Rattle.std.specs.Prelude.{bytes_eq, Ok, Contains}
use Rattle.std.specs.List.{list_all}
use Rattle.std.proofs.lemmas.List.Folds.{list_all-append}
use Rattle.x12_envelopes.specs.declared.delimiters.Delims.{Delims}
use Rattle.x12_envelopes.specs.declared.header.Header.{Header}
use Rattle.x12_envelopes.specs.declared.party.Party.{Party}
use Rattle.x12_envelopes.specs.declared.moment.Moment.{Moment}
use Rattle.x12_envelopes.specs.Content.{ta1_of}
use Rattle.x12_envelopes.specs.Header.{header_of}
use Rattle.x12_envelopes.specs.Segment.{Segment, elements_of, element_of}
use Rattle.x12_envelopes.specs.Shape.{Interchange}
use Rattle.x12_envelopes.specs.Fitting.{segment_is_writable, joined, interchange_fits}
use Rattle.x12_envelopes.specs.Readable.{ReadIsReadable, HeaderNumberIsReadable}
use Rattle.x12_envelopes.specs.RoundTrip.{ElementsReadBack, HeaderReadBack, OutlineReadBack, written_outline, written_set_outline, written_group_outline}
use Rattle.x12_envelopes.specs.WrittenSegments.{SegmentsFit}
use Rattle.x12_envelopes.specs.Grammar.{ReadsTreesAlone}
use Rattle.x12_envelopes.specs.Writable.{HeaderIsWritable, OutlineIsWritable}
use Rattle.x12_envelopes.specs.Envelope.{WrittenInterchange, WrittenGroup, WrittenSet, set_segments, group_segments, ge_segment, element_at, written, written_header}
use Rattle.x12_judge.specs.Controls.{JudgingTerms}
use Rattle.x12_judge.specs.Verdict.{judgement_of}
use Rattle.x12_acks.specs.Reply.{reply_to, reply_of, refusal_of, MayAnswer}
use Rattle.x12_acks.specs.Statement.{statement_of}
use Rattle.x12_acks.specs.Answer.{ta1_answer, answer_of, set_answer_of, group_answers_of, answers_of}
use Rattle.x12_acks.specs.Submission.{Submission, submission_of, keyed_sets}
use Rattle.x12_acks.specs.Evidence.{Evidence, evidence_of, tells_each, rejected}
use Rattle.x12_acks.specs.Laws.{written_ta1, written_set, written_group, written_answers, IsOfOrders, IsFirstNumbered, IsSubmittedAmong, MayRefuse, Tells}
use Rattle.x12_acks.specs.Told.{told_by_place}
use Rattle.x12_acks.proofs.ReplyLawLemmas.{reply_tells, refusal_tells}
use Rattle.x12_acks.proofs.ReplyFitsLemmas.{reply_fits, refusal_fits}
use Rattle.std.proofs.lemmas.Bool.{and_parts}

apart : (p : Segment → Bool) (xs ys : List Segment) → list_all p (xs ++ ys) ≡ true → (list_all p xs ≡ true) × (list_all p ys ≡ true)
apart p xs ys all = and_parts (list_all p xs) (list_all p ys) (sym (list_all-append p xs ys) ∙ all)

-- the statements of written segments
stated_back : ElementsReadBack → (d : Delims) (ss : List Segment) → list_all (segment_is_writable d) ss ≡ true → map (λ part. statement_of (elements_of d part)) (map (joined d) ss) ≡ map statement_of ss
stated_back back d [] all = refl
stated_back back d (s ∷ ss) all =
    let h = and_parts (segment_is_writable d s) (list_all (segment_is_writable d) ss) all in
    ap₂ (λ x xs. statement_of x ∷ xs) (back d s h.0) (stated_back back d ss h.1)

set_back : ElementsReadBack → (d : Delims) (s : WrittenSet) → list_all (segment_is_writable d) (set_segments s) ≡ true → set_answer_of d (written_set_outline d s) ≡ written_set s
unfolding set_answer_of
set_back back d s all = ap answer_of (stated_back back d (set_segments s) all)

sets_back : ElementsReadBack → (d : Delims) (ss : List WrittenSet) → list_all (segment_is_writable d) (flat_map set_segments ss) ≡ true → map (set_answer_of d) (map (written_set_outline d) ss) ≡ map written_set ss
sets_back back d [] all = refl
sets_back back d (s ∷ ss) all =
    let h = apart (segment_is_writable d) (set_segments s) (flat_map set_segments ss) all in
    ap₂ (λ x xs. x ∷ xs) (set_back back d s h.0) (sets_back back d ss h.1)

group_by : (b : Bool) {X : Type 0} (xs ys : List X) → xs ≡ ys → (if b then xs else []) ≡ (if b then ys else [])
group_by b xs ys e = ap (λ zs. if b then zs else []) e

group_back : ElementsReadBack → (d : Delims) (g : WrittenGroup) → list_all (segment_is_writable d) (group_segments g) ≡ true → group_answers_of d (written_group_outline d g) ≡ written_group g
unfolding group_answers_of
group_back back d g all =
    let inner = and_parts (segment_is_writable d g.header) (list_all (segment_is_writable d) (flat_map set_segments g.sets ++ ge_segment g ∷ [])) all in
    let sets = apart (segment_is_writable d) (flat_map set_segments g.sets) (ge_segment g ∷ []) inner.1 in
    group_by (bytes_eq (element_at g.header 1) (codes "FA")) _ _ (sets_back back d g.sets sets.0)

groups_back : ElementsReadBack → (d : Delims) (gs : List WrittenGroup) → list_all (segment_is_writable d) (flat_map group_segments gs) ≡ true → flat_map (group_answers_of d) (map (written_group_outline d) gs) ≡ flat_map written_group gs
groups_back back d [] all = refl
groups_back back d (g ∷ gs) all =
    let h = apart (segment_is_writable d) (group_segments g) (flat_map group_segments gs) all in
    ap₂ (λ x xs. x ++ xs) (group_back back d g h.0) (groups_back back d gs h.1)

ta1_back : ElementsReadBack → (d : Delims) (s : Segment) → segment_is_writable d s ≡ true → ta1_answer (ta1_of d (joined d s)) ≡ written_ta1 s
unfolding ta1_of element_of
ta1_back back d s is = rw (back d s is) refl

tas_back : ElementsReadBack → (d : Delims) (ss : List Segment) → list_all (segment_is_writable d) ss ≡ true → map ta1_answer (map (λ s. ta1_of d (joined d s)) ss) ≡ map written_ta1 ss
tas_back back d [] all = refl
tas_back back d (s ∷ ss) all =
    let h = and_parts (segment_is_writable d s) (list_all (segment_is_writable d) ss) all in
    ap₂ (λ x xs. x ∷ xs) (ta1_back back d s h.0) (tas_back back d ss h.1)

pub answers_back : ElementsReadBack → SegmentsFit → (x : WrittenInterchange) → interchange_fits x ≡ true → answers_of x.delims (written_outline x) ≡ written_answers x
unfolding answers_of written_answers
answers_back back fit x held =
    let h = apart (segment_is_writable x.delims) x.tas (flat_map group_segments x.groups) (fit x held) in
    ap₂ (λ a b. a ++ b) (tas_back back x.delims x.tas h.0) (groups_back back x.delims x.groups h.1)

tells_back : ElementsReadBack → HeaderReadBack → OutlineReadBack → SegmentsFit → (hubs : List Party) (from : Party) (submissions : List Submission) (x : WrittenInterchange) (evidence : List Evidence) → interchange_fits x ≡ true → x.sender ≡ from → evidence_of hubs submissions from (written_answers x) ≡ evidence → Tells hubs submissions (written x) evidence
tells_back back header outline fit hubs from submissions x evidence held sender told = record {
  header = written_header x;
  outline = written_outline x;
  is_header = header x held;
  is_outline = outline x held;
  told = ap₂ (evidence_of hubs submissions) sender (answers_back back fit x held) ∙ told;
}

-- the laws of what is written and read that a reply rests on
pub record Laws : Type 0 where
  pub elements : ElementsReadBack
  pub header : HeaderReadBack
  pub outline : OutlineReadBack
  pub fit : SegmentsFit
  pub readable : ReadIsReadable
  pub number : HeaderNumberIsReadable
  pub writable_header : HeaderIsWritable
  pub writable_outline : OutlineIsWritable
  pub trees : ReadsTreesAlone

pub reply_back : Laws → (hubs : List Party) (submissions : List Submission) (terms : JudgingTerms) (h : Header) (bytes : List ℕ) (x : Interchange) (at : Moment) (icn gcn : ℕ) → IsOfOrders h bytes x → IsSubmittedAmong submissions (submission_of h bytes x) → icn ≤ 999999999 → gcn ≤ 999999999 → Tells hubs submissions (written (reply_of h (judgement_of h.receiver terms h bytes) h.receiver at icn gcn)) (told_by_place (submission_of h bytes x) (judgement_of h.receiver terms h bytes).verdict)
unfolding reply_of reply_to
reply_back laws hubs submissions terms h bytes x at icn gcn orders is small few =
    let held = reply_fits laws.readable laws.writable_header laws.writable_outline laws.trees h.receiver terms h bytes at icn gcn orders.header (inl refl) small few in
    tells_back laws.elements laws.header laws.outline laws.fit hubs h.receiver submissions (reply_of h (judgement_of h.receiver terms h bytes) h.receiver at icn gcn) _ held refl (reply_tells hubs submissions terms h bytes x at icn gcn laws.readable laws.number orders is)

-- who may refuse is the receiver or one of the hubs, and may answer
refuser : (hubs : List Party) (from : Party) (h : Header) → MayRefuse hubs h from → (from ≡ h.receiver) ⊎ Contains hubs from
refuser hubs from h (inl receiver) = inl receiver
refuser hubs from h (inr own) = inr own.0

refuser_answers : (hubs : List Party) (from : Party) (h : Header) → MayRefuse hubs h from → MayAnswer h from
refuser_answers hubs from h (inl receiver) = inl receiver
refuser_answers hubs from h (inr own) = inr own.1

pub refusal_back : Laws → (hubs : List Party) (from : Party) (submissions : List Submission) (note : ℕ) (h : Header) (bytes : List ℕ) (x : Interchange) (at : Moment) (icn : ℕ) → header_of bytes ≡ Ok h → IsFirstNumbered submissions (submission_of h bytes x) → MayRefuse hubs h from → icn ≤ 999999999 → note ≤ 999 → Tells hubs submissions (written (refusal_of note h from at icn)) (tells_each rejected (keyed_sets (submission_of h bytes x)))
unfolding refusal_of reply_to
refusal_back laws hubs from submissions note h bytes x at icn read is may small noted =
    let held = refusal_fits laws.writable_header from note h bytes at icn read (refuser_answers hubs from h may) small noted in
    tells_back laws.elements laws.header laws.outline laws.fit hubs from submissions (refusal_of note h from at icn) _ held refl (refusal_tells hubs from submissions note h bytes x at icn laws.number read is (refuser hubs from h may))
