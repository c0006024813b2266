use Rattle.sqlite.specs.Held.{state}
use Rattle.sqlite.specs.Values.{bound}
use Rattle.sql_rows.proofs.Asks.{stays, never}
use Rattle.sql_rows.proofs.query.ask.Goals as goal

pub returns-clause-stays : goal.returns-clause-stays
returns-clause-stays g c clean =
    stays c.args.sql.now (bound c.args.params.now) (state g.S.Store c.args.conn.now) (state g.S.Store c.query_all.new.self) c.requires (λ v. v.items) c.query_all.result (c.query_all.ensures.ok clean) (c.query_all.ensures.err clean)

pub returns-clause-survives : goal.returns-clause-survives
returns-clause-survives g c = never c.args.sql.now (bound c.args.params.now) (state g.S.Store c.args.conn.now) (state g.S.Store c.query_all.new.self) c.requires c.query_all.ensures.survives
