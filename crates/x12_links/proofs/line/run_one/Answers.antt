use Rattle.x12_links.proofs.line.run_one.Goals as goal

pub returns : goal.returns
returns g c = record { link = c.run_link.ensures.link; same = c.run_link.ensures.same }
