-- Lemmas on writing the segments of interchanges in turn.
use Rattle.std.proofs.Common.{◌≡◌, ℕ, Bool, List, Option, Result, Ok, Err, IfOk, OnOk, flat_map}
use Rattle.std.specs.List.{list_all}
use Rattle.std.specs.Io.KnownBytes.{Appends}
use Rattle.x12_envelopes.specs.Transmission.{AreSlices}
use Rattle.x12_answering.specs.declared.fault.RunFault.{RunFault}
use Rattle.x12_segments.specs.declared.laying.Layout.{Layout}
use Rattle.x12_segments.specs.Laying.{laid, header_can_be_read, IsLaid}

-- writing the slices of a transmission writes the transmission
pub transmission_laid : (layout : Layout) (input : List ℕ) (interchanges : List (List ℕ)) (out new_out : Option (List ℕ))
    (result : Result Bool RunFault) → AreSlices interchanges input →
    OnOk result (Appends out new_out (flat_map (laid layout) interchanges)) →
    IfOk result (λ right. right ≡ list_all header_can_be_read interchanges) →
    IfOk result (λ right. IsLaid layout input out new_out right)
transmission_laid layout input interchanges out new_out (Ok right) cut written is = record { interchanges = interchanges; cut = cut; written = written; headers = is }
transmission_laid layout input interchanges out new_out (Err fault) cut written is = tt
