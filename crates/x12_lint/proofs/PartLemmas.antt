-- Lemmas on the elements of a segment that was cut.
use Rattle.std.proofs.Common.{◌≡◌, ◌==◌, ℕ, List, [], Option, Some, None, option_map, unwrap_or, slice_get, ap, sym, ◌∙◌}
use Rattle.std.specs.Borrow.{Bor}
use Rattle.std.specs.List.{slice_split}
use Rattle.std.proofs.lemmas.Option.{slice_get-map}
use Rattle.x12_envelopes.specs.declared.delimiters.Delims.{Delims}
use Rattle.x12_envelopes.specs.Segment.{element_of}
use Rattle.x12_envelopes.proofs.ElementLemmas.{element_is}
use Rattle.x12_lint.specs.Linting.{AreElements}

-- the element at a place is the one that was cut there, or empty
pub cut_there : (d : Delims) (part : List ℕ) (es : List (Bor (List ℕ))) (n : ℕ) → AreElements d part es → unwrap_or (option_map (λ (e : Bor (List ℕ)). e.now) (slice_get es n)) [] ≡ element_of d part n
cut_there d part es n cut =
    ap (λ (o : Option (List ℕ)). unwrap_or o []) (sym (slice_get-map (λ (e : Bor (List ℕ)). e.now) es n))
    ∙ ap (λ (xs : List (List ℕ)). unwrap_or (slice_get xs n) []) cut
    ∙ element_is d part n

-- the element that stands there
pub some_there : (d : Delims) (part : List ℕ) (es : List (Bor (List ℕ))) (n : ℕ) (e : Bor (List ℕ)) → AreElements d part es → slice_get es n ≡ Some e → e.now ≡ element_of d part n
some_there d part es n e cut is =
    sym (ap (λ (o : Option (Bor (List ℕ))). unwrap_or (option_map (λ (b : Bor (List ℕ)). b.now) o) []) is)
    ∙ cut_there d part es n cut

-- none stands there
pub none_there : (d : Delims) (part : List ℕ) (es : List (Bor (List ℕ))) (n : ℕ) → AreElements d part es → slice_get es n ≡ None → [] ≡ element_of d part n
none_there d part es n cut is =
    sym (ap (λ (o : Option (Bor (List ℕ))). unwrap_or (option_map (λ (b : Bor (List ℕ)). b.now) o) []) is)
    ∙ cut_there d part es n cut
