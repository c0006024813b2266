use Rattle.std.proofs.Common.{◌==◌, not, length, ap, ◌∙◌}
use Rattle.x12_envelopes.specs.Shape.{set_view}
use Rattle.std.specs.List.{list_any}
use Rattle.x12_judge.specs.Keeping.{KeptNotes}
use Rattle.x12_judge.specs.Set.{codes_by, notes_of_set, codes_of_set, verdict_of_set, result_by, is_of_no_element}
use Rattle.x12_judge.proofs.SetNoteLemmas.{kept_some}
use Rattle.x12_judge.proofs.KeptNoteLemmas.{first_kept, other_kept}
use Rattle.x12_judge.proofs.set.set_verdict.Goals as goal

pub returns : goal.returns
unfolding verdict_of_set codes_of_set
returns c earlier before =
    let d = c.args.delims.now in
    let s = set_view d c.args.set.now in
    let agreed = c.args.agreed in
    let noted = notes_of_set d agreed s in
    let kept = c.in_ok-notes.ensures in
    let first = ap (λ (k : KeptNotes). k.first) kept ∙ first_kept noted in
    let other = ap (λ (k : KeptNotes). k.other) kept ∙ other_kept noted in
    let empty = c.is_empty.ensures ∙ ap (λ ns. length ns == 0) first ∙ kept_some noted in
    let codes =
    c.set_codes-codes.ensures
    ∙ ap (λ b. codes_by agreed (not b) c.args.repeated s) empty
    ∙ ap (λ b. codes_by agreed (not (length noted == 0)) b s) before in
    let result =
    c.set_result-result.ensures
    ∙ ap (λ b. result_by c.args.lenient b c.deref.result.now) (c.has_other.ensures ∙ other)
    ∙ ap (result_by c.args.lenient (list_any is_of_no_element noted)) (c.deref.ensures.0 ∙ codes) in
    let notes = c.into_vec.ensures ∙ first in
    λ i. record { set = s.set; number = s.number; bytes = s.bytes; result = result i; codes = codes i; notes = notes i }
