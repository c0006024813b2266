-- A header that was read, and an outline.
use Rattle.std.proofs.Common.{◌≡◌, ℕ, ◌≤◌, Bool, true, false, not, None, Result, Ok, Err, IfOk, IfErr, List, [], ◌∷◌, length, drop, refl, sym, ap}
use Rattle.x12_envelopes.specs.declared.delimiters.Delims.{Delims}
use Rattle.x12_envelopes.specs.declared.content.Level.TheVariants.{Front}
use Rattle.x12_envelopes.specs.declared.shape.Outline.{Outline}
use Rattle.x12_envelopes.specs.declared.shape.OutlineFault.{OutlineFault}
use Rattle.x12_envelopes.specs.declared.shape.OutlineFault.TheVariants.{Structure, Premature, Content, Memory}
use Rattle.x12_envelopes.specs.Segment.{segments_from}
use Rattle.x12_envelopes.specs.Shape.{GivesUnlessMemory, outline_view}
use Rattle.x12_envelopes.specs.Outline.{first_fault, interchange_of, outline_of}
use Rattle.x12_envelopes.specs.Reading.{IsFault}
use Rattle.std.proofs.lemmas.Bool.{ltb-false}
use Rattle.x12_envelopes.specs.declared.header.Header.{Header}
use Rattle.x12_envelopes.specs.declared.header.HeaderFault.{HeaderFault}
use Rattle.x12_envelopes.specs.declared.header.HeaderFault.TheVariants.{TooLong, TooShort, NotIsa, BadDelimiters, BadField}
use Rattle.x12_envelopes.specs.Row.{first_of_rows, ok_unless}
use Rattle.x12_envelopes.specs.Delimiters.{bytes_are_delimiters}
use Rattle.x12_envelopes.specs.Header.{header_is_isa, delimiters_of, elements_are_fields, fields_of, header_of}

fits_rows : (long short : Bool) (rows : List (Bool × HeaderFault)) (h k : Header) → ok_unless (first_of_rows ((long, TooLong) ∷ (short, TooShort) ∷ rows)) k ≡ Ok h → (long ≡ false) × (short ≡ false)
fits_rows true short rows h k is = cc
fits_rows false true rows h k is = cc
fits_rows false false rows h k is = (refl, refl)

pub header_fits : (bytes : List ℕ) (h : Header) → header_of bytes ≡ Ok h → (length bytes ≤ 1048576) × (106 ≤ length bytes)
unfolding header_of
header_fits bytes h is =
    let fits = fits_rows _ _ ((not (header_is_isa bytes), NotIsa) ∷ (not (bytes_are_delimiters (delimiters_of bytes)), BadDelimiters) ∷ (not (elements_are_fields bytes), BadField) ∷ []) h (fields_of bytes) is in
    (ltb-false 1048576 (length bytes) fits.0, ltb-false (length bytes) 106 fits.1)

-- what the segments make up, or their first fault, is the outline
pub outline_gives : (d : Delims) (input : List ℕ) (r : Result Outline OutlineFault) → IfOk r (λ o. outline_view d o ≡ interchange_of d input (segments_from d 106 (drop 106 input))) → IfOk r (λ _. first_fault d Front 0 0 (segments_from d 106 (drop 106 input)) ≡ None) → IfErr r (λ e. IsFault e (first_fault d Front 0 0 (segments_from d 106 (drop 106 input)))) → GivesUnlessMemory (outline_view d) r (outline_of d input)
unfolding outline_of
outline_gives d input (Ok o) view sound fault = rw sound (ap Ok (sym view))
outline_gives d input (Err (Structure place)) view sound fault = rw fault
outline_gives d input (Err (Premature place)) view sound fault = rw fault
outline_gives d input (Err (Content place)) view sound fault = rw fault
outline_gives d input (Err Memory) view sound fault = tt
