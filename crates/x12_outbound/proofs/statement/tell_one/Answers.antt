use Rattle.std.proofs.Common.{◌∙◌, ◌-◌, ap, Some, arith, nat_cmp}
use Rattle.std.specs.BTreeMap.{get_by}
use Rattle.std.specs.Cmp.Lexicographic.{slice_cmp}
use Rattle.x12_envelopes.specs.Shape.{bytes_of_set_no}
use Rattle.x12_outbound.specs.Statement.{told_of_set, fate_by_code}
use Rattle.x12_outbound.proofs.ToldLemmas.{of_listed, told_of_number}
use Rattle.x12_outbound.proofs.statement.tell_one.Goals as goal

-- the set of the listed number
pub overflow_sub-set : goal.overflow_sub-set
overflow_sub-set c =
    let one = of_listed (λ number. get_by (λ k. slice_cmp nat_cmp number k.now) c.args.places.now) (bytes_of_set_no c.args.answer.now.0) c.as_bytes.result.now c.args.sets.now c.in-Some.place.now c.requires c.in-Some.ensures.value c.as_bytes.ensures in
    omega (arith, one.at, c.from.ensures)

pub bounds-sets-from : goal.bounds-sets-from
bounds-sets-from c =
    let one = of_listed (λ number. get_by (λ k. slice_cmp nat_cmp number k.now) c.args.places.now) (bytes_of_set_no c.args.answer.now.0) c.as_bytes.result.now c.args.sets.now c.in-Some.place.now c.requires c.in-Some.ensures.value c.as_bytes.ensures in
    omega (arith, one.at, one.within, c.from.ensures)

pub returns-in-Some : goal.returns-in-Some
returns-in-Some c =
    let o = c.args.origin.now in
    let place = c.in-Some.place.now in
    let set = c.index-sets-from.result in
    let one = of_listed (λ number. get_by (λ k. slice_cmp nat_cmp number k.now) c.args.places.now) (bytes_of_set_no c.args.answer.now.0) c.as_bytes.result.now c.args.sets.now place c.requires c.in-Some.ensures.value c.as_bytes.ensures in
    ap Some (c.tell.ensures ∙ ap (λ f. told_of_set o f (place, set)) c.fate_by.ensures)
    ∙ told_of_number o (bytes_of_set_no c.args.answer.now.0) c.args.sets.now place (c.from.result - 1) set (fate_by_code c.args.answer.now.1) one (omega (arith, c.from.ensures)) c.index-sets-from.is
