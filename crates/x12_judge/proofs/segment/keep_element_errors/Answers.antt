use Rattle.std.proofs.Common.{◌+◌, ◌++◌, ◌∷◌, [], get_or, take, drop, ap, sym, ◌∙◌, arith, option_map}
use Rattle.std.specs.List.{filter_map}
use Rattle.std.proofs.lemmas.List.{length-map, drop_all}
use Rattle.x12_envelopes.specs.declared.segment.Segment.{Segment}
use Rattle.x12_judge.specs.declared.element.Form.TheVariants.{Text}
use Rattle.x12_judge.specs.declared.element.ElementRule.{ElementRule}
use Rattle.x12_judge.specs.declared.verdict.SegmentCode.TheVariants.{ElementErrors}
use Rattle.x12_judge.specs.Note.{kept_notes, opening}
use Rattle.x12_judge.specs.Keeping.{keeping}
use Rattle.x12_judge.specs.Segment.{identifier_of, note_of_element, element_notes}
use Rattle.x12_judge.specs.Set.{segment, element}
use Rattle.x12_judge.specs.Verdict.{note_view}
use Rattle.x12_judge.proofs.ListLemmas.{next_left}
use Rattle.x12_judge.proofs.ElementErrorLemmas.{to_come, note_found, none_found, all_found}
use Rattle.x12_judge.proofs.segment.keep_element_errors.Goals.{in-Some+in_ok-keep_element_note, in_default}
use Rattle.x12_judge.proofs.segment.keep_element_errors.Goals as goal

pub loop-rule-preserved : goal.loop-rule-preserved
loop-rule-preserved c =
    let d : ElementRule = record { segment = []; place = 0; reference = 0; least = 0; most = 0; form = Text } in
    let rules = c.element_rules-rule-items.result.now in
    let i = c.loop-rule.rule-index in
    let f = note_of_element c.args.read.now.delims c.args.read.now.bytes.now in
    let head = segment (take 3 (identifier_of c.args.read.now.delims c.args.read.now.bytes.now)) c.args.position ElementErrors in
    let name_is = c.at-name.ensures.element ∙ ap (λ (s : Segment). identifier_of s.delims s.bytes.now) c.of-elements.ensures in
    let found =
    c.element_note.ensures.note
    ∙ ap (λ (s : Segment). option_map (λ n. element n) (note_of_element s.delims s.bytes.now (get_or rules i d))) c.loop-rule.invariant.same in
    let before = kept_notes c.loop-rule.notes in
    let left = filter_map f (drop (i + 1) rules) in
    let so_far =
    sym (ap (λ ds. keeping before (to_come c.loop-rule.noted head (filter_map f ds)))
    (next_left rules i d c.loop-rule-test.true))
    ∙ c.loop-rule.invariant.noted in
    record {
      same = c.element_note.ensures.same ∙ c.loop-rule.invariant.same;
      noted = elim c.match-element_note.branch [
        | in-Some+in_ok-keep_element_note w ↦
            let v = note_view w.in-Some.note in
            let is = ap (option_map note_view) (sym w.in-Some.is) ∙ found in
            let more =
            w.in_ok-keep_element_note.ensures
            ∙ ap (λ h. keeping before (opening c.loop-rule.noted h ++ v ∷ [])) (w.note_on-head.ensures ∙ ap (λ n. segment (take 3 n) c.args.position ElementErrors) name_is) in
            ap (λ n. keeping (kept_notes n) (to_come c.match-element_note.noted head left)) w.notes-is
            ∙ ap (λ b. keeping (kept_notes w.keep_element_note.new.notes) (to_come b head left)) w.noted-is
            ∙ note_found _ left v c.loop-rule.noted head before _ _ is more so_far
        | in_default w ↦
            let is = ap (option_map note_view) (sym w.in_default.is) ∙ found in
            ap (λ n. keeping (kept_notes n) (to_come c.match-element_note.noted head left)) w.notes-is
            ∙ ap (λ b. keeping before (to_come b head left)) w.noted-is
            ∙ none_found _ left c.loop-rule.noted head before _ is so_far
      ];
    }

pub returns : goal.returns
unfolding element_notes
returns c =
    let rules = c.element_rules-rule-items.result.now in
    let f = note_of_element c.args.read.now.delims c.args.read.now.bytes.now in
    let head = segment (take 3 (identifier_of c.args.read.now.delims c.args.read.now.bytes.now)) c.args.position ElementErrors in
    let kept = kept_notes c.loop-rule.notes in
    let over = drop_all c.loop-rule.rule-index rules c.loop-rule-test.false in
    let few = length-map c.loop-rule.notes.kept.items note_view in
    all_found c.loop-rule.noted head kept _ (omega (arith, c.loop-rule.notes.few))
    (sym (ap (λ ds. keeping kept (to_come c.loop-rule.noted head (filter_map f ds))) over) ∙ c.loop-rule.invariant.noted)
