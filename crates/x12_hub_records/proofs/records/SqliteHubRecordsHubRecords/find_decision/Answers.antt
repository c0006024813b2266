use Rattle.std.proofs.Common.{ap}
use Rattle.sqlite.specs.Effect.{Database}
use Rattle.sqlite.specs.Held.{state}
use Rattle.x12_tables.proofs.ReadLemmas.{told_found, told_asks}
use Rattle.x12_hub_records.proofs.ReadLemmas.{hub_kept}
use Rattle.x12_hub_records.specs.HubContent.{hub_content_of}
use Rattle.x12_hub_records.proofs.records.SqliteHubRecordsHubRecords.find_decision.Goals as goal

pub returns-clause-valid : goal.returns-clause-valid
returns-clause-valid g c = hub_kept c.args.self.now.last (state g.S.Store c.args.self.now.conn) (state g.S.Store c.find_decision.new.conn) c.find_decision.ensures.reads c.requires

pub returns-clause-same : goal.returns-clause-same
returns-clause-same g c is_open = ap (λ (db : Database). hub_content_of db.trees) (c.find_decision.ensures.reads.same (c.requires.settled (c.find_decision.ensures.reads.never_won_back is_open)) is_open)

pub returns-clause-found : goal.returns-clause-found
returns-clause-found g c is_open = told_found _ c.find_decision.result c.tell_hub.result c.tell_hub.ensures.same (c.find_decision.ensures.found (c.args.self.now.last, c.requires) is_open)

pub returns-clause-crash : goal.returns-clause-crash
returns-clause-crash g c = told_asks _ _ hub_content_of c.find_decision.result c.tell_hub.result (state g.S.Store c.args.self.now.conn) (state g.S.Store c.find_decision.new.conn) c.tell_hub.ensures.same c.find_decision.ensures
