use Rattle.std.proofs.Common.{◌∙◌, sym}
use Rattle.x12_station_records.proofs.StationAgreedLemmas.{after_ok, put_first, put_joined, put_started}
use Rattle.x12_station_records.proofs.StationAgreedTaken.{takes_more, first_taken, joined_taken, started_taken}
use Rattle.x12_station_records.proofs.station_agreements.put_pair.Goals as goal

pub returns-in_default-clause-put : goal.returns-in_default-clause-put
returns-in_default-clause-put c =
    after_ok _ _ c.start_agreement.result (λ started ps stood. put_first c.args.agreements.now.items c.pop.new.self.items c.start_agreement.new.agreements.items c.args.partner c.args.lenient c.args.pair ps stood
    (sym c.args.agreements.now.ok.0 ∙ c.in_default.ensures.cases.0) c.in_default.ensures.items started) c.start_agreement.ensures.started

pub returns-then-is_of-clause-put : goal.returns-then-is_of-clause-put
returns-then-is_of-clause-put c =
    after_ok _ _ c.join_agreement.result (λ joined ps stood. put_joined c.args.agreements.now.items c.pop.new.self.items c.join_agreement.new.agreements.items c.args.partner c.args.lenient c.args.pair ps stood c.in-Some.last
    c.in-Some.ensures.items (sym c.is_of.ensures ∙ c.if-is_of.true) joined) c.join_agreement.ensures.joined

pub returns-clause-put : goal.returns-clause-put
returns-clause-put c =
    after_ok _ _ c.start_agreement-2.result (λ started ps stood. put_started c.args.agreements.now.items c.pop.new.self.items c.start_agreement-2.new.agreements.items c.args.partner c.args.lenient c.args.pair ps stood c.in-Some.last
    c.in-Some.ensures.items c.push.new.self.items c.in_ok-push.ensures.items (sym c.is_of.ensures ∙ c.if-is_of.false) started) c.start_agreement-2.ensures.started

pub returns-in_default-clause-taken : goal.returns-in_default-clause-taken
returns-in_default-clause-taken c =
    takes_more _ _ _ c.start_agreement.result (λ h. first_taken c.args.agreements.now.items c.pop.new.self.items c.args.partner c.args.lenient c.args.pair h.0 h.1 h.2 (sym c.args.agreements.now.ok.0 ∙ c.in_default.ensures.cases.0) c.in_default.ensures.items) c.start_agreement.ensures.taken

pub returns-then-is_of-clause-taken : goal.returns-then-is_of-clause-taken
returns-then-is_of-clause-taken c =
    takes_more _ _ _ c.join_agreement.result (λ h. joined_taken c.args.agreements.now.items c.pop.new.self.items c.args.partner c.args.lenient c.args.pair h.0 h.1 h.2 c.in-Some.last c.in-Some.ensures.items (sym c.is_of.ensures ∙ c.if-is_of.true)) c.join_agreement.ensures.taken

pub returns-clause-taken : goal.returns-clause-taken
returns-clause-taken c =
    takes_more _ _ _ c.start_agreement-2.result
    (λ h. started_taken c.args.agreements.now.items c.pop.new.self.items c.args.partner c.args.lenient c.args.pair h.0 h.1 h.2 c.in-Some.last c.in-Some.ensures.items c.push.new.self.items c.in_ok-push.ensures.items (sym c.is_of.ensures ∙ c.if-is_of.false)) c.start_agreement-2.ensures.taken
