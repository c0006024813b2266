use Rattle.std.proofs.Common.{rules, ◌≡◌, ◌∙◌, IsTrue, subst, sym, true, false}
use Rattle.x12_station.specs.working.Drafting.{exhausted}
use Rattle.x12_station.specs.StationRefusal.{is_spent}
use Rattle.x12_profile.proofs.CountLemmas.{told_alike}
use Rattle.x12_station.proofs.NotingLemmas.{noted_fits}
use Rattle.x12_profile.specs.Interchange.{book_for, is_within}
use Rattle.x12_station.proofs.noting.refuse_other.Goals as goal

pub write-requires : goal.write-requires
write-requires g c = record {
  valid = c.requires.valid;
  fits = λ answers.
      let s = g.R.Records.content c.args.records.now in
      let keeps = c.requires.keeps answers in
      noted_fits s c.args.memory.now.book c.in_ok-book.book c.args.memory.now.seq c.new.result (g.met.R.Records.sound c.args.records.now c.requires.valid answers) c.new.ensures keeps.seq keeps.book c.in_ok-book.ensures.book;
}

pub returns-in-Err-clause-fault : goal.returns-in-Err-clause-fault
returns-in-Err-clause-fault g c = (
  c.in-Err.ensures.fault (exhausted (is_spent c.args.memory.now.book (record { reply = true; group = false }))),
  told_alike c.in-Err.ensures.device,
)

pub returns-in-Ok-clause-crash : goal.returns-in-Ok-clause-crash
returns-in-Ok-clause-crash g c = record {
  taken = search rules;
  spent = λ spent.
      let within : is_within (book_for c.args.memory.now.book (record { reply = true; group = false })) ≡ true =
      subst (λ k. IsTrue (is_within k)) c.in_ok-book.ensures.book c.in_ok-book.ensures.within in
      absurd (let no : true ≡ false = sym within ∙ spent in cc);
}

pub returns-in-Err-clause-crash : goal.returns-in-Err-clause-crash
returns-in-Err-clause-crash g c = record {
  taken = search rules;
  spent = λ spent.
      let within : is_within (book_for c.args.memory.now.book (record { reply = true; group = false })) ≡ true =
      subst (λ k. IsTrue (is_within k)) c.in_ok-book.ensures.book c.in_ok-book.ensures.within in
      absurd (let no : true ≡ false = sym within ∙ spent in cc);
}
