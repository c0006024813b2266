-- The laws of the crates below that the lemmas cite. Each is the contract of a public function.
use Rattle.x12_envelopes.specs.RoundTrip.{HeaderReadBack, OutlineReadBack}
use Rattle.x12_envelopes.specs.Readable.{HeaderNumberIsReadable}
use Rattle.x12_acks.specs.Laws.{AnswersReadBack, ReplyFits, ReplyTellsVerdict}
use Rattle.x12_acks.specs.Place.{ReplyAcceptsByPlace}

-- what was written is read back
pub record ReadBack : Type 0 where
  pub header : HeaderReadBack
  pub outline : OutlineReadBack
  pub answers : AnswersReadBack

pub record Below : Type 0 where
  pub read : ReadBack
  pub number : HeaderNumberIsReadable
  pub fits : ReplyFits
  pub tells : ReplyTellsVerdict
  pub places : ReplyAcceptsByPlace
