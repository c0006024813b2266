-- What the sender has and what the receiver has are the audit.
use Rattle.std.proofs.Common.{is_some, option_map, ap, sym, ◌∙◌}
use Rattle.x12_acks.specs.Key.{key_view}
use Rattle.x12_world.specs.Asking.{states_of}
use Rattle.x12_world.specs.Auditing.{first_under, held_set_view, station_among}
use Rattle.x12_world.specs.Placing.{addressed_view}
use Rattle.x12_world.proofs.AuditingLemmas.{audited_first, missed_there, unheld}
use Rattle.x12_world.proofs.AuditsLemmas.{rise_among}
use Rattle.x12_world.proofs.auditing.audit_at.Goals as goal

pub returns-in_err-found-clause-refused : goal.returns-in_err-found-clause-refused
returns-in_err-found-clause-refused g c =
    missed_there (is_some (station_among (states_of c.args.stations.now.items) c.args.key.now.sender)) c.from_residual-in_err-found.result c.in_err-found.field-0.0
    c.from_residual-in_err-found.ensures.1 (c.in_ok-set.ensures.there (ap is_some c.in-Some.is)) c.in_err-found.ensures.refused

pub returns-clause-audit : goal.returns-clause-audit
returns-clause-audit g c = λ answers w facts are.
    let k = key_view c.args.key.now in
    let mid = c.held_by_sender.new.stations.items in
    let set = c.in-Some.set in
    let asked = c.found_by_receiver.ensures.never_won_back answers in
    audited_first (states_of c.args.stations.now.items) w are facts.audits k (addressed_view set) c.in-Some.fate c.in_ok-found.found
    (c.in_ok-found.ensures.found answers
    ∙ ap (λ bs. first_under (station_among (states_of mid) set.receiver) k bs) c.deref.ensures.value
    ∙ ap (λ ss. first_under (station_among ss set.receiver) k set.bytes.items) (c.in_ok-set.ensures.same asked))
    (ap (option_map held_set_view) (sym c.in-Some.is) ∙ c.in_ok-set.ensures.held asked (rise_among w facts (states_of c.args.stations.now.items) are))

pub returns-in_default-clause-audit : goal.returns-in_default-clause-audit
returns-in_default-clause-audit g c = λ answers w facts are.
    let ss = states_of c.args.stations.now.items in
    unheld w (key_view c.args.key.now) ss are
    (ap (option_map held_set_view) (sym c.in_default.is) ∙ c.in_ok-set.ensures.held answers (rise_among w facts ss are))
