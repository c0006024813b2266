-- The first fault of the segments from a place on.
use Rattle.std.proofs.Common.{one-add, ◌≡◌, ℕ, ◌+◌, ◌<◌, false, nat_lt, Option, None, Some, List, [], ◌∷◌, length, refl, arith, inl, inr, position}
use Rattle.std.specs.List.{list_any, position_or_len}
use Rattle.std.specs.Option.{option_or}
use Rattle.std.proofs.lemmas.Bool.{cases_Bool, le-ltb}
use Rattle.x12_envelopes.specs.declared.delimiters.Delims.{Delims}
use Rattle.x12_envelopes.specs.declared.content.Kind.{Kind}
use Rattle.x12_envelopes.specs.declared.content.Kind.TheVariants.{Iea}
use Rattle.x12_envelopes.specs.declared.content.Level.{Level}
use Rattle.x12_envelopes.specs.declared.shape.OutlineFault.{OutlineFault}
use Rattle.x12_envelopes.specs.declared.shape.OutlineFault.TheVariants.{Structure, Premature, Content, Memory}
use Rattle.x12_envelopes.specs.Delimiters.{is_control}
use Rattle.x12_envelopes.specs.Segment.{PlacedSegment}
use Rattle.x12_envelopes.specs.Content.{kind_of_segment}
use Rattle.x12_envelopes.specs.Reading.{IsFault}
use Rattle.x12_envelopes.specs.Outline.{control_fault, fault_of_segment, first_fault, fault_behind_trailer, level_behind, groups_behind, sets_behind, is_kind}

-- where no byte lies below 0x20, none is a control byte
pub no_low : (d : Delims) (bytes : List ℕ) → list_any (λ b. nat_lt b 32) bytes ≡ false → position_or_len (is_control d) bytes ≡ length bytes
no_low d [] none = refl
no_low d (b ∷ bs) none = elim (cases_Bool (nat_lt b 32)) [
  | inl low ↦ cc (rw low at none)
  | inr high ↦ rw (high, no_low d bs (rw high at none), one-add)
]

pub no_control : (d : Delims) (bytes : List ℕ) → list_any (λ b. nat_lt b 32) bytes ≡ false → position (is_control d) bytes ≡ None
no_control d bytes none = rw (no_low d bytes none, le-ltb (length bytes) (length bytes) (omega arith))

pub goes_on : (d : Delims) (level : Level) (groups sets : ℕ) (s : PlacedSegment) (ss : List PlacedSegment) → 0 < length ss → fault_of_segment d level groups sets s ≡ None → (k : Kind) → kind_of_segment d s.bytes ≡ k → is_kind Iea k ≡ false → first_fault d level groups sets (s ∷ ss) ≡ first_fault d (level_behind k) (groups_behind groups k) (sets_behind sets k) ss
unfolding first_fault
goes_on d level groups sets s [] some sound k is more = absurd (omega arith)
goes_on d level groups sets s (next ∷ ss) some sound k is more = rw (sound, is, more)

pub closes : (d : Delims) (level : Level) (groups sets : ℕ) (s : PlacedSegment) (ss : List PlacedSegment) → 0 < length ss → fault_of_segment d level groups sets s ≡ None → kind_of_segment d s.bytes ≡ Iea → first_fault d level groups sets (s ∷ ss) ≡ fault_behind_trailer ss
unfolding first_fault
closes d level groups sets s [] some sound is = absurd (omega arith)
closes d level groups sets s (next ∷ ss) some sound is = rw (sound, is)

pub goes_wrong : (d : Delims) (level : Level) (groups sets : ℕ) (s : PlacedSegment) (ss : List PlacedSegment) (fault : OutlineFault) → 0 < length ss → fault_of_segment d level groups sets s ≡ Some fault → first_fault d level groups sets (s ∷ ss) ≡ Some fault
unfolding first_fault
goes_wrong d level groups sets s [] fault some wrong = absurd (omega arith)
goes_wrong d level groups sets s (next ∷ ss) fault some wrong = rw wrong

pub ends_fault : (d : Delims) (level : Level) (groups sets : ℕ) (s : PlacedSegment) (fault : OutlineFault) → option_or (control_fault d s) (Some (Premature (s.at + length s.bytes))) ≡ Some fault → first_fault d level groups sets (s ∷ []) ≡ Some fault
unfolding first_fault
ends_fault d level groups sets s fault is = is

pub IsFault-from : (e : OutlineFault) (fault : Option OutlineFault) → fault ≡ Some e → IsFault e fault
IsFault-from (Structure place) fault is = is
IsFault-from (Premature place) fault is = is
IsFault-from (Content place) fault is = is
IsFault-from Memory fault is = tt
