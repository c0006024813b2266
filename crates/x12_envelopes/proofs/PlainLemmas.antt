-- Where no byte of an interchange is below 0x20, none of a segment is.
use Rattle.std.proofs.Common.{◌≡◌, ℕ, Bool, false, List, ◌∷◌, ◌++◌, take, drop, nat_lt, sym, ◌∙◌, ap}
use Rattle.std.specs.List.{list_any}
use Rattle.std.proofs.lemmas.List.{take-append-drop}
use Rattle.std.proofs.lemmas.List.Folds.{list_any-append}
use Rattle.x12_envelopes.specs.Reading.{IsCut}
use Rattle.std.proofs.lemmas.Bool.{or_parts}

-- some byte is below 0x20
abbrev pub any_low : List ℕ → Bool
any_low bytes = list_any (λ b. nat_lt b 32) bytes

low_front : (xs ys : List ℕ) → any_low (xs ++ ys) ≡ false → any_low xs ≡ false
low_front xs ys none = (or_parts _ (any_low ys) (sym (list_any-append (λ b. nat_lt b 32) xs ys) ∙ none)).0

low_drop : (n : ℕ) (xs : List ℕ) → any_low xs ≡ false → any_low (drop n xs) ≡ false
low_drop n xs none =
    (or_parts (any_low (take n xs)) _ (sym (list_any-append (λ b. nat_lt b 32) (take n xs) (drop n xs)) ∙ ap any_low (take-append-drop n xs) ∙ none)).1

pub plain_part : (input rest piece behind part : List ℕ) (at skipped t : ℕ) → rest ≡ drop at input → IsCut t rest piece behind → part ≡ drop skipped piece → any_low input ≡ false → any_low part ≡ false
plain_part input rest piece behind part at skipped t is_rest cut is_part none =
    let low_rest : any_low rest ≡ false = ap any_low is_rest ∙ low_drop at input none in
    let low_piece = low_front piece (t ∷ behind) (ap any_low (sym cut.whole) ∙ low_rest) in
    ap any_low is_part ∙ low_drop skipped piece low_piece
