use Rattle.x12_outbound.proofs.FirstEvidenceLemmas.{first_evidence_settles, fate_of_each, open_ones_settle_alone}
use Rattle.x12_outbound.proofs.laws.the_first_evidence_settles.Goals as goal

pub returns : goal.returns
returns c =
    let law = c.evidence_is_of_each.ensures.law in
    record {
      law = record {
        first = first_evidence_settles;
        each = fate_of_each law;
        alone = open_ones_settle_alone law;
      };
    }
