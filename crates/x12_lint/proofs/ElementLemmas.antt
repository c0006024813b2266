-- Lemmas on the codes of an element.
use Rattle.std.proofs.Common.{◌≡◌, ℕ, Bool, true, false, ◌||◌, List, ◌∷◌, [], bytes_eq, ◌==◌, ap, refl, ◌∙◌, sym}
use Rattle.std.specs.List.{list_any, slice_split}
use Rattle.x12_envelopes.specs.Reading.{IsCut}
use Rattle.x12_envelopes.proofs.CuttingLemmas.{cut_split}
use Rattle.x12_lint.specs.Element.{is_code_listed}

-- the first code, and those behind it
pub listed_from : (rest front back text : List ℕ) → IsCut 32 rest front back → is_code_listed rest text ≡ (bytes_eq front text || is_code_listed back text)
listed_from rest front back text cut = ap (list_any (λ code. bytes_eq code text)) (cut_split 32 rest front back cut)

-- the first code is the text
pub listed_first : (rest front back text : List ℕ) → IsCut 32 rest front back → bytes_eq front text ≡ true → is_code_listed rest text ≡ true
listed_first rest front back text cut is = rw (listed_from rest front back text cut, is) refl

-- it isn't
pub listed_behind : (rest front back text : List ℕ) → IsCut 32 rest front back → bytes_eq front text ≡ false → is_code_listed back text ≡ is_code_listed rest text
listed_behind rest front back text cut isnt = rw (listed_from rest front back text cut, isnt) refl

-- the last code
pub listed_last : (rest text : List ℕ) → slice_split (λ b. b == 32) rest ≡ rest ∷ [] → is_code_listed rest text ≡ bytes_eq rest text
listed_last rest text is = ap (list_any (λ code. bytes_eq code text)) is ∙ or_false (bytes_eq rest text)
  where
    or_false : (b : Bool) → (b || false) ≡ b
    or_false true = refl
    or_false false = refl
