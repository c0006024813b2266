-- What several crates above would prove for themselves.
use Rattle.std.specs.Prelude.{Result, Ok, Err, OnErr}

-- what follows of an error holds where there is one
pub on_err_so : {A E P Q : Type 0} (r : Result A E) → (P → Q) → OnErr r P → OnErr r Q
on_err_so (Ok x) so p = tt
on_err_so (Err e) so p = so p
