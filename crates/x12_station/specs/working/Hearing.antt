-- A plan of what the answers of an arrival mean for the open submissions.
use Rattle.std.specs.Prelude.{◌≡◌, List, map}
use Rattle.x12_envelopes.specs.declared.party.Party.{Party}
use Rattle.x12_acks.specs.Answer.{Acknowledgment}
use Rattle.x12_acks.specs.Evidence.{evidence_of}
use Rattle.x12_outbound.specs.Ledger.{OutboundLedger}
use Rattle.x12_outbound.specs.Plan.{Plan, ArePieces, evidence_in, submissions_of_both}
use Rattle.x12_outbound.specs.Plan.{unclear_answers}
use Rattle.x12_station.specs.Found.{AreFound}
use Rattle.x12_station.specs.Stored.{Stored}

-- The evidence of the answers over the open submissions and the closed ones that were found for
-- them in these records.
pub record IsHeard (open_ones : OutboundLedger) (s : Stored) (from : Party)
    (answers : List Acknowledgment) (p : Plan) : Type 0 where
  pub closed : OutboundLedger
  pub me : closed.me ≡ open_ones.me
  pub found : AreFound s from answers (map (λ r. r.interchange) closed.rows)
  pub evidence :
      evidence_in p.pieces
      ≡ evidence_of open_ones.hubs (submissions_of_both open_ones closed) from answers
  pub pieces : ArePieces open_ones closed p.pieces
  pub unclear : p.unclear ≡ unclear_answers answers
