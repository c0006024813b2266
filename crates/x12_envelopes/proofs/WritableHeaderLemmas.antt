-- The header of an interchange that was read can be written; so can letters, digits and spaces.
use Rattle.std.proofs.Common.{◌≡◌, ℕ, ◌+◌, ◌≤◌, Bool, true, false, not, nat_lt, List, [], ◌∷◌, length, drop, take, slice_range, None, refl, subst, arith, length-drop}
use Rattle.std.specs.List.{AllByRecursion, list_all, list_any}
use Rattle.std.proofs.lemmas.Bool.{ltb-false, not-false, and_parts}
use Rattle.std.proofs.lemmas.List.{length-take-le}
use Rattle.std.proofs.lemmas.Grind.{common_steps}
use Rattle.x12_envelopes.specs.declared.delimiters.Delims.{Delims}
use Rattle.x12_envelopes.specs.declared.header.HeaderFault.{HeaderFault}
use Rattle.x12_envelopes.specs.declared.header.HeaderFault.TheVariants.{TooLong, TooShort, NotIsa, BadDelimiters, BadField}
use Rattle.x12_envelopes.specs.Row.{first_of_rows}
use Rattle.x12_envelopes.specs.Byte.{bytes_are_digits}
use Rattle.x12_envelopes.specs.Delimiters.{byte_is_text, bytes_are_delimiters}
use Rattle.x12_envelopes.specs.Header.{IsaElement, isa_elements, isa_text, is_barred, header_of, header_fault, fields_of, elements_are_fields, elements_are_plain, header_is_isa, delimiters_of}
use Rattle.x12_envelopes.specs.Fitting.{element_is_writable, field_is_writable}
use Rattle.x12_envelopes.specs.Writable.{IsWritableHeader, HeaderIsWritable}
use Rattle.x12_envelopes.proofs.ReadHeaderLemmas.{read_by, small_value, nine}
use Rattle.x12_envelopes.proofs.HeaderTextLemmas.{free, free_field}
use Rattle.x12_envelopes.proofs.WrittenKindLemmas.{free_element}

-- a table of rows of which none holds
abbrev AllFail : List (Bool × HeaderFault) → Type 0
AllFail [] = Unit {0}
AllFail (row ∷ rows) = (row.0 ≡ false) × AllFail rows

none_holds : (rows : List (Bool × HeaderFault)) → first_of_rows rows ≡ None → AllFail rows
none_holds [] none = tt
none_holds ((true, fault) ∷ rows) none = absurd (cc)
none_holds ((false, fault) ∷ rows) none = (refl, none_holds rows none)

-- bytes without a header's fault
record IsSound (bytes : List ℕ) : Type 0 where
  long : 106 ≤ length bytes
  delims : bytes_are_delimiters (delimiters_of bytes) ≡ true
  plain : elements_are_plain bytes ≡ true
  digits : bytes_are_digits (slice_range bytes 90 99) ≡ true

sound : (bytes : List ℕ) → header_fault bytes ≡ None → IsSound bytes
unfolding elements_are_fields
sound bytes none =
    let fail = none_holds ((nat_lt 1048576 (length bytes), TooLong) ∷ (nat_lt (length bytes) 106, TooShort) ∷ (not (header_is_isa bytes), NotIsa) ∷ (not (bytes_are_delimiters (delimiters_of bytes)), BadDelimiters) ∷ (not (elements_are_fields bytes), BadField) ∷ []) none in
    let fields = and_parts (elements_are_plain bytes) (bytes_are_digits (slice_range bytes 90 99)) (not-false (elements_are_fields bytes) fail.1.1.1.1.0) in
    record {
      long = ltb-false (length bytes) 106 fail.1.0;
      delims = not-false (bytes_are_delimiters (delimiters_of bytes)) fail.1.1.1.0;
      plain = fields.0;
      digits = fields.1;
    }

cut : (bytes : List ℕ) (from size : ℕ) → from + size ≤ length bytes → length (take size (drop from bytes)) ≡ size
cut bytes from size within = length-take-le size (drop from bytes) (omega (arith, within, length-drop from bytes))

all_are : (p : IsaElement → Bool) (es : List IsaElement) → list_all p es ≡ true → AllByRecursion (λ e. p e ≡ true) es
all_are p [] all = tt
all_are p (e ∷ es) all = let h = and_parts (p e) (list_all p es) all in (h.0, all_are p es h.1)

-- the fields by their places among the elements of ISA
fields_writable : (bytes : List ℕ) → IsSound bytes → IsWritableHeader (fields_of bytes)
unfolding elements_are_plain field_is_writable
fields_writable bytes s =
    let sender = (all_are (λ e. not (list_any (is_barred (delimiters_of bytes)) (isa_text bytes e))) isa_elements s.plain).1.1.1.1 in
    let receiver = sender.1.1 in
    let date = receiver.1.1 in
    record {
      delims = s.delims;
      sender = record {
        qualifier = record { size = cut bytes 32 2 (omega (arith, s.long)); plain = sender.0 };
        id = record { size = cut bytes 35 15 (omega (arith, s.long)); plain = sender.1.0 };
      };
      receiver = record {
        qualifier = record { size = cut bytes 51 2 (omega (arith, s.long)); plain = receiver.0 };
        id = record { size = cut bytes 54 15 (omega (arith, s.long)); plain = receiver.1.0 };
      };
      date = record { size = cut bytes 70 6 (omega (arith, s.long)); plain = date.0 };
      time = record { size = cut bytes 77 4 (omega (arith, s.long)); plain = date.1.0 };
      icn = small_value (slice_range bytes 90 99) s.digits (nine bytes);
    }

pub header_writable : HeaderIsWritable
unfolding header_of
header_writable bytes h read =
    let made = read_by (header_fault bytes) (fields_of bytes) h read in
    subst IsWritableHeader made.1 (fields_writable bytes (sound bytes made.0))

text_free : (b : ℕ) → byte_is_text b ≡ true → free b ≡ true
text_free b text = grind (arith, common_steps)

texts_free : (text : List ℕ) → list_all byte_is_text text ≡ true → list_all free text ≡ true
texts_free [] all = refl
texts_free (b ∷ bytes) all = let h = and_parts _ _ all in rw (text_free b h.0, texts_free bytes h.1) refl

-- letters, digits and spaces can be written under all delimiters, in ISA and elsewhere
pub text_writable : (d : Delims) (text : List ℕ) → bytes_are_delimiters d ≡ true → list_all byte_is_text text ≡ true → (element_is_writable d text ≡ true) × (field_is_writable d text ≡ true)
text_writable d text good all =
    let free' = texts_free text all in
    (free_element d text good free', free_field d text good free')
