-- What the code's marks stand for.
use Rattle.x12_profile.specs.Edition.{Marks}
use Rattle.x12_profile.specs.declared.edition.Marks.{Marks as CodeMarks}

abbrev pub marks_view : CodeMarks → Marks
marks_view m = record { noted = m.noted; era = m.era }
