-- The elements of ISA lie within a header.
use Rattle.std.proofs.Common.{◌≡◌, ℕ, ◌+◌, ◌-◌, ◌≤◌, Bool, true, ◌&&◌, ◌==◌, nat_le, nat_lt, slice_index, List, [], ◌∷◌, length, refl, ◌∙◌, arith}
use Rattle.std.specs.List.{list_all}
use Rattle.std.proofs.lemmas.Bool.{and_parts, leb-true, lt-ltb}
use Rattle.std.proofs.lemmas.List.Folds.{list_all-map}
use Rattle.x12_envelopes.specs.declared.header.TheConstants.{ELEMENTS}
use Rattle.x12_envelopes.specs.Header.{IsaElement, isa_elements}

abbrev range_of : IsaElement → ℕ × ℕ
range_of e = (e.offset, e.offset + e.size)

-- a byte stands in front of a range, with the range's bounds
abbrev stands_before : List ℕ → ℕ → ℕ × ℕ → Bool
stands_before bytes byte r =
    nat_le 1 r.0 && nat_lt (r.0 - 1) (length bytes) && slice_index bytes (r.0 - 1) == byte

before : (bytes : List ℕ) (byte : ℕ) (es : List IsaElement) → 106 ≤ length bytes → list_all (λ e. nat_le 1 e.offset && nat_le e.offset 106) es ≡ true → list_all (λ e. stands_before bytes byte (range_of e)) es ≡ list_all (λ e. slice_index bytes (e.offset - 1) == byte) es
before bytes byte [] fits within = refl
before bytes byte (e ∷ es) fits within =
    let parts = and_parts (nat_le 1 e.offset && nat_le e.offset 106) (list_all (λ x. nat_le 1 x.offset && nat_le x.offset 106) es) within in
    let own = and_parts (nat_le 1 e.offset) (nat_le e.offset 106) parts.0 in
    let low = leb-true 1 e.offset own.0 in
    let high = leb-true e.offset 106 own.1 in
    let fit = lt-ltb (e.offset - 1) (length bytes) (omega arith) in
    rw (own.0, fit, before bytes byte es fits parts.1)

-- the elements' offsets lie within the header, so what stands in front of them needs no test
pub separated : (bytes : List ℕ) (byte : ℕ) → 106 ≤ length bytes → list_all (stands_before bytes byte) ELEMENTS ≡ list_all (λ e. slice_index bytes (e.offset - 1) == byte) isa_elements
separated bytes byte fits =
    list_all-map (stands_before bytes byte) range_of isa_elements ∙ before bytes byte isa_elements fits refl
