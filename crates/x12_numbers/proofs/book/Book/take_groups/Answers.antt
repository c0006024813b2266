use Rattle.x12_numbers.proofs.RisingLemmas.{Uses-taken}
use Rattle.x12_numbers.proofs.book.Book.take_groups.Goals as goal

pub returns-clause-uses : goal.returns-clause-uses
returns-clause-uses c =
    let taken = c.take_next.ensures in
    rw (← c.self.view_is)
    (Uses-taken c.take_next.result c.self.inside.interchange c.self.inside.group c.args.count _ taken.first taken.taken taken.within)
