-- Lemmas on a transmission that is answered in part.
use Rattle.std.proofs.Common.{◌≡◌, ℕ, zero, suc, ◌+◌, ◌<◌, ◌≤◌, ◌==◌, Bool, true, false, List, [], ◌∷◌, length, take, drop, Option, Some, None, Result, Ok, Err, IfSome, IfErr, OnErr, refl, subst, arith, length-drop}
use Rattle.std.specs.Prelude.{option_map, unwrap_or, if◌then◌else◌}
use Rattle.std.specs.List.{slice_split, prefix_len}
use Rattle.x12_envelopes.specs.Byte.{byte_is_line_end}
use Rattle.x12_envelopes.specs.Segment.{behind_line_ends}
use Rattle.x12_envelopes.specs.Header.{delimiters_of}
use Rattle.x12_envelopes.specs.Transmission.{AreSlices, length_of_first, length_through_trailer, begins_interchange}
use Rattle.x12_answering.specs.declared.fault.RunStatus.{RunStatus}
use Rattle.x12_answering.specs.declared.fault.RunFault.{RunFault}
use Rattle.x12_answering.specs.declared.number.NextNumbers.{NextNumbers}
use Rattle.x12_answering.specs.declared.options.Options.{Options}
use Rattle.x12_answering.specs.Answering.{Terms, answers_from, replies_in, lines_in, terms_in, first_numbers, IsAnsweredInPart}
use Rattle.x12_answering.specs.Fault.{is_reading_fault}
use Rattle.x12_answering.specs.Output.{AppendsFront}
use Rattle.x12_answering.proofs.OutputLemmas.{front_of_none}

-- a text that isn't empty has a first slice that isn't
some_length : (begins : Bool) (through : Option ℕ) (text : List ℕ) → 0 < length text →
    0 < (if begins then unwrap_or (option_map (λ n. 106 + n) through) (length text) else length text)
some_length true (Some n) text some = omega arith
some_length true None text some = some
some_length false through text some = some

first_is_some : (text : List ℕ) → 0 < length text → 0 < length_of_first text
unfolding length_of_first
first_is_some text some =
    some_length (begins_interchange text)
    (length_through_trailer (delimiters_of text) (slice_split (λ b. b == (delimiters_of text).terminator) (drop 106 text))) text some

-- bytes can be cut into slices
slices_within : (most : ℕ) (bytes text : List ℕ) → behind_line_ends bytes ≡ text → length text ≤ most →
    (slices : List (List ℕ)) × AreSlices slices bytes
slices_within most bytes [] is within = ([], is)
slices_within zero bytes (x ∷ xs) is within = absurd (omega (arith, within))
slices_within (suc most) bytes (x ∷ xs) is within =
    let text = x ∷ xs in
    let some : 0 < length text = omega arith in
    let behind = drop (length_of_first text) text in
    let rest = drop (prefix_len byte_is_line_end behind) behind in
    let shorter : length rest ≤ most = omega (arith, within, some, first_is_some text some, length-drop (length_of_first text) text, length-drop (prefix_len byte_is_line_end behind) behind) in
    let more = slices_within most behind rest refl shorter in
    (take (length_of_first text) text ∷ more.0, (behind, (rw is (record { some = some; takes = refl; leaves = refl }), more.1)))

-- where nothing was written, a front was
nothing_answered : (o : Options) (input : List ℕ) (out err : Option (List ℕ)) → IsAnsweredInPart o input out out err err
nothing_answered o input out err =
    let slices = slices_within (length (behind_line_ends input)) input (behind_line_ends input) refl (omega arith) in
    record { interchanges = slices.0; cut = slices.1; replies = front_of_none out _; lines = front_of_none err _ }

pub stopped_before : (o : Options) (input : List ℕ) (out err : Option (List ℕ)) (result : Result RunStatus RunFault) →
    OnErr result (IsAnsweredInPart o input out out err err)
stopped_before o input out err (Ok status) = tt
stopped_before o input out err (Err fault) = nothing_answered o input out err

-- the input wasn't read
pub stopped_unread : (o : Options) (known out err : Option (List ℕ)) (result : Result RunStatus RunFault) →
    IfErr result (λ fault. is_reading_fault fault ≡ false → IfSome known (λ input. IsAnsweredInPart o input out out err err))
stopped_unread o known out err (Ok status) = tt
stopped_unread o None out err (Err fault) = λ later. tt
stopped_unread o (Some input) out err (Err fault) = λ later. nothing_answered o input out err

-- answering an input fails
pub stopped_on : (o : Options) (t : Terms) (n : NextNumbers) (input : List ℕ)
    (interchanges : List (List ℕ)) (out new_out err new_err : Option (List ℕ)) (result : Result RunStatus RunFault) →
    t ≡ terms_in o → n ≡ first_numbers o → AreSlices interchanges input →
    OnErr result (AppendsFront out new_out (replies_in (answers_from t n 1 interchanges))) →
    OnErr result (AppendsFront err new_err (lines_in (answers_from t n 1 interchanges))) →
    OnErr result (IsAnsweredInPart o input out new_out err new_err)
stopped_on o t n input interchanges out new_out err new_err (Ok status) terms numbers cut replies lines = tt
stopped_on o t n input interchanges out new_out err new_err (Err fault) terms numbers cut replies lines = record {
  interchanges = interchanges;
  cut = cut;
  replies = rw (terms, numbers) at replies;
  lines = rw (terms, numbers) at lines;
}

-- answering what was read to its end fails
pub stopped_read : (o : Options) (known : Option (List ℕ)) (input : List ℕ)
    (out new_out err new_err : Option (List ℕ)) (result : Result RunStatus RunFault) →
    IfSome known (λ bytes. input ≡ bytes) → OnErr result (IsAnsweredInPart o input out new_out err new_err) →
    IfErr result (λ fault. is_reading_fault fault ≡ false →
    IfSome known (λ bytes. IsAnsweredInPart o bytes out new_out err new_err))
stopped_read o known input out new_out err new_err (Ok status) is part = tt
stopped_read o None input out new_out err new_err (Err fault) is part = λ later. tt
stopped_read o (Some bytes) input out new_out err new_err (Err fault) is part =
    λ later. subst (λ b. IsAnsweredInPart o b out new_out err new_err) is part
