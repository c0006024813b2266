-- What a station takes in of a new arrival that was filed.
use Rattle.std.specs.Prelude.{◌≡◌, ◌<◌, ◌+◌, ◌-◌, ◌^◌}
use Rattle.x12_numbers.specs.Book.{Numbers}
use Rattle.x12_inbound.specs.Arrival.{Filing}
use Rattle.x12_outbound.specs.declared.evidence.Counts.{Counts}
use Rattle.x12_outbound.specs.Counts.{counts_of_both, only_unclear, with_pieces}
use Rattle.x12_outbound.specs.Ledger.{NoneIsOut, fates}
use Rattle.x12_outbound.specs.Plan.{Plan, IsPlan, HoldsWhatIsOpen, evidence_in, findings_in}
use Rattle.x12_outbound.specs.Settling.{settled_fates, targets_of}
use Rattle.x12_station.specs.declared.cached.Cached.{Cached}
use Rattle.x12_station.specs.Plan.{Files, Commit as Commit}

-- memory may take a filing in: the plan is one of what is open, of which nothing is out, and a number
-- is left for the arrival
pub record MayFile (m : Cached) (p : Plan) : Type 0 where
  pub plan : IsPlan m.ledger.holds p.pieces
  pub none_out : NoneIsOut m.ledger.holds
  pub room : m.seq < 2 ^ 63 - 1

-- what is committed: the filing under the next number, and the fates of the sets that the plan
-- settles
abbrev pub plan_of_filing : Cached → Numbers → Filing → Plan → Commit
plan_of_filing m last f p = record {
  book = last;
  seq = m.seq + 1;
  change = Files f (targets_of p.pieces);
}

-- The numbers are those of the commit, the ledger settled the plan's evidence, and what the pieces
-- did is counted; all else is as it was.
pub record TakesFiling (old new : Cached) (last : Numbers) (p : Plan) (told : Counts) : Type 0 where
  pub me : new.me ≡ old.me
  pub hubs : new.hubs ≡ old.hubs
  pub marks : new.marks ≡ old.marks
  pub agreements : new.agreements ≡ old.agreements
  pub book : new.book ≡ last
  pub seq : new.seq ≡ old.seq + 1
  pub held :
      HoldsWhatIsOpen old.ledger.holds new.ledger.holds
      (settled_fates (fates old.ledger.holds) (evidence_in p.pieces))
  pub none_out : NoneIsOut new.ledger.holds
  pub told_is : told ≡ with_pieces (only_unclear p.unclear) (findings_in p.pieces)
  pub counts : new.counts ≡ counts_of_both old.counts told
