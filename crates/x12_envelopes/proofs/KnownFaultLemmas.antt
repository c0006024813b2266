-- Each fault of reading is one of the bytes: the definition never answers want of memory.
use Rattle.std.proofs.Common.{ℕ, ◌+◌, Bool, true, false, List, [], ◌∷◌, Option, Some, None, Result, Err, option_map, if◌then◌else◌, position, length, ◌==◌, drop}
use Rattle.std.specs.Option.{option_or}
use Rattle.x12_envelopes.specs.declared.delimiters.Delims.{Delims}
use Rattle.x12_envelopes.specs.declared.content.Level.{Level}
use Rattle.x12_envelopes.specs.declared.content.Level.TheVariants.{Front}
use Rattle.x12_envelopes.specs.declared.shape.OutlineFault.{OutlineFault}
use Rattle.x12_envelopes.specs.declared.shape.OutlineFault.TheVariants.{Structure, Premature, Content, Memory}
use Rattle.x12_envelopes.specs.Row.{ok_unless}
use Rattle.x12_envelopes.specs.Delimiters.{is_control}
use Rattle.x12_envelopes.specs.Segment.{PlacedSegment, segments_from}
use Rattle.x12_envelopes.specs.Content.{kind_of_segment}
use Rattle.x12_envelopes.specs.Outline.{outline_of, interchange_of, first_fault, fault_of_segment, control_fault, fault_behind_trailer, kind_is_misplaced, segment_is_unreadable, level_behind, groups_behind, sets_behind, is_kind}
use Rattle.x12_envelopes.specs.Shape.{Interchange}
use Rattle.x12_envelopes.specs.declared.content.Kind.TheVariants.{Iea}

-- no want of memory
abbrev IsKnown : Option OutlineFault → Type 0
IsKnown (Some Memory) = ⊥
IsKnown fault = Unit {0}

or_known : (a b : Option OutlineFault) → IsKnown a → IsKnown b → IsKnown (option_or a b)
or_known None b p q = q
or_known (Some (Structure at)) b p q = tt
or_known (Some (Premature at)) b p q = tt
or_known (Some (Content at)) b p q = tt
or_known (Some Memory) b p q = p

if_known : (b : Bool) (x y : Option OutlineFault) → IsKnown x → IsKnown y → IsKnown (if b then x else y)
if_known true x y p q = p
if_known false x y p q = q

structure_known : (at : ℕ) (o : Option ℕ) → IsKnown (option_map (λ k. Structure (at + k)) o)
structure_known at None = tt
structure_known at (Some k) = tt

control_known : (d : Delims) (s : PlacedSegment) → IsKnown (control_fault d s)
control_known d s = structure_known s.at (position (is_control d) s.bytes)

segment_known : (d : Delims) (level : Level) (groups sets : ℕ) (s : PlacedSegment) → IsKnown (fault_of_segment d level groups sets s)
unfolding fault_of_segment
segment_known d level groups sets s =
    let kind = kind_of_segment d s.bytes in
    or_known (control_fault d s) _ (control_known d s)
    (if_known (kind_is_misplaced level kind) (Some (Structure s.at)) _ tt (if_known (segment_is_unreadable d groups sets kind s.bytes) (Some (Content s.at)) None tt tt))

behind_known : (ss : List PlacedSegment) → IsKnown (fault_behind_trailer ss)
behind_known [] = tt
behind_known (s ∷ []) = if_known (length s.bytes == 0) None (Some (Structure s.at)) tt tt
behind_known (s ∷ next ∷ more) = tt

fault_known : (d : Delims) (level : Level) (groups sets : ℕ) (ss : List PlacedSegment) → IsKnown (first_fault d level groups sets ss)
unfolding first_fault
fault_known d level groups sets [] = tt
fault_known d level groups sets (s ∷ []) = or_known (control_fault d s) (Some (Premature (s.at + length s.bytes))) (control_known d s) tt
fault_known d level groups sets (s ∷ next ∷ more) =
    let kind = kind_of_segment d s.bytes in
    or_known (fault_of_segment d level groups sets s) _ (segment_known d level groups sets s)
    (if_known (is_kind Iea kind) (fault_behind_trailer (next ∷ more)) _ (behind_known (next ∷ more))
    (fault_known d (level_behind kind) (groups_behind groups kind) (sets_behind sets kind) (next ∷ more)))

-- an outline, or a fault of the bytes
abbrev pub IsOfBytes : Result Interchange OutlineFault → Type 0
IsOfBytes (Err Memory) = ⊥
IsOfBytes read = Unit {0}

of_bytes : (fault : Option OutlineFault) (x : Interchange) → IsKnown fault → IsOfBytes (ok_unless fault x)
of_bytes None x known = tt
of_bytes (Some (Structure at)) x known = tt
of_bytes (Some (Premature at)) x known = tt
of_bytes (Some (Content at)) x known = tt
of_bytes (Some Memory) x known = known

pub reading_is_of_bytes : (d : Delims) (bytes : List ℕ) → IsOfBytes (outline_of d bytes)
unfolding outline_of
reading_is_of_bytes d bytes =
    let segments = segments_from d 106 (drop 106 bytes) in
    of_bytes (first_fault d Front 0 0 segments) (interchange_of d bytes segments) (fault_known d Front 0 0 segments)
