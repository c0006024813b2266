use Rattle.std.proofs.Common.{rules, subst, sym}
use Rattle.x12_links.specs.Net.{AreDoneLinks}
use Rattle.x12_links.proofs.NetLemmas.{written}
use Rattle.x12_links.proofs.net.run_all.Goals as goal

-- the slice is all of the vector
pub returns-clause-links : goal.returns-clause-links
returns-clause-links g c =
    let was = c.args.links.now in
    let new = c.run_threads.new.links in
    let did : AreDoneLinks (g.W.Wire.follows c.args.wire.now) was.items new = subst (λ x. AreDoneLinks (g.W.Wire.follows c.args.wire.now) x new) c.deref_mut.ensures.value c.run_threads.ensures.links in
    subst (AreDoneLinks (g.W.Wire.follows c.args.wire.now) was.items) (sym (written was.items new was.len (search rules) did.all)) did
