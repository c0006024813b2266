use Rattle.x12_spool.proofs.PowerLemmas.{put_stands, stopped_stands}
use Rattle.x12_spool.proofs.power.what_is_put_stands.Goals as goal

pub returns-clause-put : goal.returns-clause-put
returns-clause-put c = put_stands

pub returns-clause-stopped : goal.returns-clause-stopped
returns-clause-stopped c = stopped_stands
