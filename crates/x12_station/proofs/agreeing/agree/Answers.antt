use Rattle.x12_judge.specs.Agreement.{agreement_view}
use Rattle.x12_station.proofs.AgreementLemmas.{fits_agreed}
use Rattle.x12_station.proofs.agreeing.agree.Goals as goal

pub write-requires : goal.write-requires
write-requires g c = record {
  valid = c.requires.valid;
  fits = λ answers.
      let held = c.requires.durable answers in
      fits_agreed c.args.memory.now (g.R.Records.content c.args.records.now) (agreement_view c.args.agreement) c.new-plan.result held.0 held.1.sound c.new-plan.ensures;
}
