-- The edition of the rules by which a station judges and reads an arrival. An arrival's edition is
-- given by its number and by how far the station's history was read in an older way, so that a later
-- edition leaves as it was what came before.
use Rattle.std.specs.Prelude.{ℕ, nat_le, List, if◌then◌else◌}
use Rattle.x12_judge.specs.declared.controls.Controls.{Controls}
use Rattle.x12_judge.specs.declared.controls.Controls.TheVariants.{Until401, Until501}
use Rattle.x12_judge.specs.Agreement.{TradingAgreement}
use Rattle.x12_judge.specs.Controls.{JudgingTerms}
use Rattle.x12_acks.specs.Evidence.{FinalFate, accepted, noted}
use Rattle.x12_profile.specs.declared.edition.Edition.{Edition}
use Rattle.x12_profile.specs.declared.edition.Edition.TheVariants.{First, Second, Third}

-- up to which number an arrival is read as before errors were told as noted; and up to which it is judged
-- by the controls of before 00402
pub record Marks : Type 0 where
  pub noted : ℕ
  pub era : ℕ

-- of a history in which every arrival is judged and read by the newest edition
abbrev pub no_marks : Marks
no_marks = record { noted = 0; era = 0 }

-- the edition of what has this number in a station's history
unfoldable pub edition_at : Marks → ℕ → Edition
edition_at marks number =
    if nat_le number marks.noted then First
    else if nat_le number marks.era then Second
    else Third

-- what a final fate says to a sender who reads by an edition: by the first one, a set with errors noted
-- is accepted like any other
abbrev pub fate_read : Edition → FinalFate → FinalFate
fate_read First noted = accepted
fate_read First fate = fate
fate_read Second fate = fate
fate_read Third fate = fate

-- the versions of the controls that an edition takes
abbrev pub controls_of : Edition → Controls
controls_of First = Until401
controls_of Second = Until401
controls_of Third = Until501

-- the terms by which an edition judges, under these agreements
abbrev pub terms_by : Edition → List TradingAgreement → JudgingTerms
terms_by by agreements = record { agreements = agreements; controls = controls_of by }
