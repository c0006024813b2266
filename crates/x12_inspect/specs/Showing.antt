-- Showing a transmission.
use Rattle.std.specs.Prelude.{ℕ, List}
use Rattle.std.specs.List.{list_all}
use Rattle.x12_segments.specs.Laying.{header_can_be_read}
use Rattle.x12_inspect.specs.declared.inspecting.Outcome.{Outcome}
use Rattle.x12_inspect.specs.Inspecting.{EndsAs}

-- a transmission is shown: all is right exactly where each header can be read
abbrev pub EndsAsShown : List ℕ → Outcome → Type 0
EndsAsShown = EndsAs (list_all header_can_be_read)
