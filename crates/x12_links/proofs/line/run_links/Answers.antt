use Rattle.std.proofs.Common.{refl}
use Rattle.x12_links.proofs.line.run_links.Goals as goal

pub returns-then-is_empty : goal.returns-then-is_empty
returns-then-is_empty g c = record { all = refl; each = λ k d within. record { link = c.requires.each k d within; same = (refl, refl, refl) } }

pub returns : goal.returns
returns g c = record { all = c.run_each.ensures.all; each = c.run_each.ensures.each }
