-- A reply is short.
use Rattle.std.proofs.Common.{◌≡◌, ◌≤◌, ℕ, Bool, true, false, not, List, [], ◌∷◌, length, map, if◌then◌else◌, codes, refl, arith}
use Rattle.std.specs.Prelude.{Option, Some, None, IfSome, Ok, Err, filter}
use Rattle.std.specs.List.{AllByRecursion, enumerate_from, sum_by}
use Rattle.std.proofs.lemmas.Bool.{le-leb}
use Rattle.x12_envelopes.specs.declared.party.Party.{Party}
use Rattle.x12_envelopes.specs.declared.moment.Moment.{Moment}
use Rattle.x12_envelopes.specs.declared.header.Header.{Header}
use Rattle.x12_envelopes.specs.Row.{first_of_rows}
use Rattle.x12_envelopes.specs.Header.{header_of}
use Rattle.x12_envelopes.specs.Outline.{outline_of}
use Rattle.x12_envelopes.specs.Grammar.{ReadsTreesAlone}
use Rattle.x12_envelopes.specs.Envelope.{WrittenInterchange, WrittenGroup, written}
use Rattle.x12_envelopes.specs.Fitting.{interchange_is_within_limits}
use Rattle.x12_envelopes.specs.Shape.{Interchange}
use Rattle.x12_judge.specs.declared.controls.Controls.{Controls}
use Rattle.x12_judge.specs.Controls.{JudgingTerms}
use Rattle.x12_judge.specs.Interchange.{Reading, note_rows, note_of_interchange}
use Rattle.x12_judge.specs.Group.{FunctionalGroupVerdict, verdict_of_group}
use Rattle.x12_judge.specs.Verdict.{group_is_acknowledgment, verdicts_of_groups, verdict_by, judgement_by, judgement_of}
use Rattle.x12_acks.specs.Reply.{answer_groups, ta1_segment, reply_to, reply_tas, accepted_tas, asks_acknowledgment, judged_groups, reply_of, refusal_of}
use Rattle.x12_acks.specs.Length.{IsShort}
use Rattle.x12_acks.proofs.SizeLemmas.{text_size}
use Rattle.x12_acks.proofs.ReplySizeLemmas.{AreSized, IsShortHeader, ta1_size, reply_size}
use Rattle.x12_acks.proofs.VerdictSizeLemmas.{AreShort, verdicts_short}
use Rattle.x12_acks.proofs.ReadSizeLemmas.{IsShortOutline, header_short, outline_short}

-- the note of an interchange has three digits at most
first_by : (P : ℕ → Type 0) (b : Bool) (n : ℕ) (o : Option ℕ) → P n → IfSome o P → IfSome (if b then Some n else o) P
first_by P true n o first others = first
first_by P false n o first others = others

first_all : (P : ℕ → Type 0) (rows : List (Bool × ℕ)) → AllByRecursion (λ row. P row.1) rows → IfSome (first_of_rows rows) P
first_all P [] all = tt
first_all P (row ∷ rows) all = first_by P row.0 row.1 (first_of_rows rows) all.0 (first_all P rows all.1)

pub interchange_note_small : (controls : Controls) (me : Party) (h : Header) (reading : Reading) → IfSome (note_of_interchange controls me h reading) (λ n. n ≤ 999)
unfolding note_of_interchange
interchange_note_small controls me h reading =
    first_all (λ n. n ≤ 999)
    (note_rows controls me h reading)
    (omega arith, (omega arith, (omega arith, (omega arith, (omega arith, (omega arith, (omega arith, (omega arith, (omega arith, (omega arith, (omega arith, (omega arith, tt))))))))))))

-- the reply by the verdict
accepted_size : (h : Header) (asks : Bool) → IsShortHeader h → text_size h.delims (if asks then ta1_segment h (codes "A") 0 ∷ [] else []) ≤ 40
accepted_size h true short = ta1_size h.delims h (codes "A") 0 short (omega arith) (omega arith)
accepted_size h false short = omega arith

by_note : (h : Header) (me : Party) (at : Moment) (icn gcn : ℕ) (note : Option ℕ) (vs : List FunctionalGroupVerdict) → IsShortHeader h → AreSized me at → icn ≤ 999999999 → gcn ≤ 999999999 → IfSome note (λ n. n ≤ 999) → AreShort vs 32 400 → IsShort (reply_to h me at icn (reply_tas h (verdict_by note vs)) (answer_groups at gcn (judged_groups (verdict_by note vs))))
by_note h me at icn gcn (Some note) vs short are number group few answers =
    reply_size h me at icn gcn (ta1_segment h (codes "R") note ∷ []) [] short are number group
    (ta1_size h.delims h (codes "R") note short (omega arith) few) tt (omega arith) (omega arith)
by_note h me at icn gcn None vs short are number group few answers =
    reply_size h me at icn gcn (accepted_tas h) vs short are number group
    (accepted_size h (asks_acknowledgment h) short) answers.each answers.few_groups answers.few_sets

by_reading : (h : Header) (me : Party) (terms : JudgingTerms) (at : Moment) (icn gcn : ℕ) (reading : Reading) → IsShortHeader h → AreSized me at → icn ≤ 999999999 → gcn ≤ 999999999 → ((x : Interchange) → reading ≡ Ok x → IsShortOutline x) → IsShort (reply_of h (judgement_by me terms h reading) me at icn gcn)
unfolding reply_of verdicts_of_groups
by_reading h me terms at icn gcn (Ok x) short are number group outline =
    let o = outline x refl in
    let vs = map (λ place. verdict_of_group terms.agreements h.sender h.delims place.0 place.1) (filter (λ place. not (group_is_acknowledgment place.1)) (enumerate_from 1 x.groups)) in
    let judged = verdicts_short terms.agreements h.sender h.delims 1 x.groups o.groups o.few_sets in
    let few : AreShort vs 32 400 = record {
      each = judged.each;
      few_groups = omega (arith, judged.few_groups, o.few_groups);
      few_sets = omega (arith, judged.few_sets, o.few_sets);
    } in
    by_note h me at icn gcn (note_of_interchange terms.controls me h (Ok x)) vs short are number group (interchange_note_small terms.controls me h (Ok x)) few
by_reading h me terms at icn gcn (Err fault) short are number group outline =
    by_note h me at icn gcn (note_of_interchange terms.controls me h (Err fault)) [] short are number group (interchange_note_small terms.controls me h (Err fault))
    (record { each = tt; few_groups = omega arith; few_sets = omega arith })

pub reply_is_short : ReadsTreesAlone → (me : Party) (terms : JudgingTerms) (h : Header) (bytes : List ℕ) (at : Moment) (icn gcn : ℕ) → header_of bytes ≡ Ok h → AreSized me at → icn ≤ 999999999 → gcn ≤ 999999999 → IsShort (reply_of h (judgement_of me terms h bytes) me at icn gcn)
unfolding judgement_of
reply_is_short trees me terms h bytes at icn gcn read are number group =
    let short = header_short bytes h read in
    by_reading h me terms at icn gcn (outline_of h.delims bytes) short.header are number group (λ x is. outline_short trees h.delims bytes x short.few is)

pub refusal_is_short : (me : Party) (note : ℕ) (h : Header) (bytes : List ℕ) (at : Moment) (icn : ℕ) → header_of bytes ≡ Ok h → AreSized me at → icn ≤ 999999999 → note ≤ 999 → IsShort (refusal_of note h me at icn)
unfolding refusal_of answer_groups
refusal_is_short me note h bytes at icn read are number few =
    let short = header_short bytes h read in
    reply_size h me at icn 0 (ta1_segment h (codes "R") note ∷ []) [] short.header are number (omega arith)
    (ta1_size h.delims h (codes "R") note short.header (omega arith) few) tt (omega arith) (omega arith)

-- what is short is within the limits of an interchange
pub within_limits : (x : WrittenInterchange) → IsShort x → interchange_is_within_limits x ≡ true
unfolding interchange_is_within_limits
within_limits x short =
    let groups = le-leb (length x.groups) 32 (omega (arith, short.groups)) in
    let sets = le-leb (sum_by (λ (g : WrittenGroup). length g.sets) x.groups) 400 (omega (arith, short.sets)) in
    let bytes = le-leb (length (written x)) 1048576 (omega (arith, short.bytes)) in
    rw (groups, sets, bytes) refl
