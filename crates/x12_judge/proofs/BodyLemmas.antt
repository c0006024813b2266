-- The segments of a transaction set between ST and SE, taken one after the other.
use Rattle.std.proofs.Common.{◌≡◌, ℕ, Bool, true, false, List, ◌∷◌, take, Option, Some, None, is_none, is_some, option_map, refl, ap, suc, arith}
use Rattle.std.specs.Borrow.{Bor}
use Rattle.x12_envelopes.specs.declared.delimiters.Delims.{Delims}
use Rattle.x12_judge.specs.Body.{ArePassed, and_behind}
use Rattle.x12_judge.specs.Segment.{notes_from}
use Rattle.x12_judge.specs.Set.{without_trailer}

take_more : {X : Type 0} (x : X) (xs : List X) (m n : ℕ) → m ≡ suc n → take m (x ∷ xs) ≡ x ∷ take n xs
take_more x xs m n e = ap (λ k. take k (x ∷ xs)) e

-- a segment with one behind it
pub two_at_hand :
    (closed : Bool) (part next : List ℕ) (rest : List (List ℕ))
    → without_trailer closed (part ∷ next ∷ rest) ≡ part ∷ without_trailer closed (next ∷ rest)
two_at_hand false part next rest = refl
two_at_hand true part next rest = take_more part (next ∷ rest) _ _ (omega arith)

-- a segment that isn't the last, or that is and no SE was sent
pub one_segment :
    (closed : Bool) (r : Option (Bor (List ℕ))) (part : List ℕ) (rest : List (List ℕ))
    → (closed ≡ true → is_none r ≡ false)
    → without_trailer closed (part ∷ and_behind r rest) ≡ part ∷ without_trailer closed (and_behind r rest)
one_segment false r part rest more = refl
one_segment true None part rest more = let e = more refl in cc
one_segment true (Some next) part rest more = two_at_hand true part next.now rest

pub some_mapped : {X Y : Type 0} (f : X → Y) (o : Option X) → is_some o ≡ is_some (option_map f o)
some_mapped f None = refl
some_mapped f (Some x) = refl

-- where none was passed, all are left
pub none_passed : (d : Delims) (parts : List (List ℕ)) → ArePassed d parts (record { count = 0; has_po1 = false }) parts
none_passed d parts =
    record {
      notes = λ p behind. ap (λ n. notes_from d n parts) (omega arith);
      count = omega arith;
      po1 = refl;
    }
