use Rattle.x12_profile.proofs.AllLaws.{all_laws}
use Rattle.x12_profile.proofs.laws.x12_meets_the_laws.Goals as goal

pub returns : goal.returns
returns c = record {
  laws = all_laws record {
    read = record {
      header = c.header_is_read_back.ensures.header;
      outline = c.outline_is_read_back.ensures.outline;
      answers = c.answers_are_read_back.ensures.law;
    };
    number = c.numbers_are_readable.ensures.header;
    fits = c.a_reply_fits.ensures.law;
    tells = c.a_reply_tells_the_verdict.ensures.law;
    places = c.a_reply_accepts_the_accepted_sets.ensures.law;
  };
}
