-- A restart asks the records alone.
use Rattle.x12_hub.proofs.StoppedLemmas.{hub_asked, hub_only_asked}
use Rattle.x12_hub.proofs.hub.Hub.restart.Goals as goal

pub returns-in_err-loaded-clause-crash : goal.returns-in_err-loaded-clause-crash
returns-in_err-loaded-clause-crash g c =
    rw (← c.self.view_is) (hub_asked g.H.HubRecords _ c.self.inside.cached.me (λ d answers may. g.met.H.HubRecords.left_is_held c.load.new.self d c.load.ensures.valid answers may) (hub_only_asked g.H.HubRecords c.load.ensures.crash))

pub returns-in_err-self-inside-clause-crash : goal.returns-in_err-self-inside-clause-crash
returns-in_err-self-inside-clause-crash g c =
    rw (← c.self.view_is) (hub_asked g.H.HubRecords _ c.self.inside.cached.me (λ d answers may. g.met.H.HubRecords.left_is_held c.load.new.self d c.load.ensures.valid answers may) (hub_only_asked g.H.HubRecords c.load.ensures.crash))

pub returns-clause-crash : goal.returns-clause-crash
returns-clause-crash g c =
    rw (← c.self.view_is, c.in_ok-self-inside.ensures.me) (hub_asked g.H.HubRecords _ c.self.inside.cached.me (λ d answers may. g.met.H.HubRecords.left_is_held c.load.new.self d c.load.ensures.valid answers may) (hub_only_asked g.H.HubRecords c.load.ensures.crash))
