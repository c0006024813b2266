-- The numbers of faults: H1 to H5 of a header, O1 to O4 of an outline; and where an outline fails.
use Rattle.std.specs.Prelude.{ℕ, List, Option, Some, None, codes}
use Rattle.x12_envelopes.specs.declared.header.HeaderFault.{HeaderFault}
use Rattle.x12_envelopes.specs.declared.header.HeaderFault.TheVariants.{TooLong, TooShort, NotIsa}
use Rattle.x12_envelopes.specs.declared.header.HeaderFault.TheVariants.{BadDelimiters, BadField}
use Rattle.x12_envelopes.specs.declared.shape.OutlineFault.{OutlineFault}
use Rattle.x12_envelopes.specs.declared.shape.OutlineFault.TheVariants.{Structure, Premature}
use Rattle.x12_envelopes.specs.declared.shape.OutlineFault.TheVariants.{Content, Memory}

-- the number of a header's fault
abbrev pub header_fault_number : HeaderFault → List ℕ
header_fault_number TooLong = codes "H1"
header_fault_number TooShort = codes "H2"
header_fault_number NotIsa = codes "H3"
header_fault_number BadDelimiters = codes "H4"
header_fault_number BadField = codes "H5"

-- the number of an outline's fault
abbrev pub outline_fault_number : OutlineFault → List ℕ
outline_fault_number (Structure place) = codes "O1"
outline_fault_number (Premature place) = codes "O2"
outline_fault_number (Content place) = codes "O3"
outline_fault_number Memory = codes "O4"

-- where an outline's fault stands, as an offset from the I of ISA: none for want of memory
abbrev pub outline_fault_place : OutlineFault → Option ℕ
outline_fault_place (Structure place) = Some place
outline_fault_place (Premature place) = Some place
outline_fault_place (Content place) = Some place
outline_fault_place Memory = None
