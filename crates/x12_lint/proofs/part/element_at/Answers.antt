use Rattle.std.proofs.Common.{length, refl}
use Rattle.std.proofs.lemmas.Option.{slice_get_read, slice_get_past}
use Rattle.x12_lint.proofs.PartLemmas.{some_there, none_there}
use Rattle.x12_lint.proofs.part.element_at.Goals as goal

pub returns-in-Some : goal.returns-in-Some
returns-in-Some c =
    let es = c.args.elements.now in
    let found = c.in-Some.ensures.lookup in
    some_there c.args.delims.now c.args.part.now es c.args.place c.in-Some.element.now c.requires
    (slice_get_read es (length es) c.args.place c.in-Some.element.now refl found.3.0 found.1)

pub returns-in-None : goal.returns-in-None
returns-in-None c =
    let es = c.args.elements.now in
    none_there c.args.delims.now c.args.part.now es c.args.place c.requires
    (slice_get_past es c.args.place c.in-None.ensures.lookup.3)
