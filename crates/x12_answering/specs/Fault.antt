-- How a run ends: its status, or why it stops.
use Rattle.std.specs.Prelude.{Bool, true, false}
use Rattle.x12_answering.specs.declared.fault.RunFault.{RunFault}
use Rattle.x12_answering.specs.declared.fault.RunFault.TheVariants.{Read, Write, TooLong, Memory}

-- the input wasn't read to its end
abbrev pub is_reading_fault : RunFault → Bool
is_reading_fault Read = true
is_reading_fault TooLong = true
is_reading_fault Write = false
is_reading_fault Memory = false
