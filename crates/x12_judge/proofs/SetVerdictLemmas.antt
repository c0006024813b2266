-- The verdicts of a group's transaction sets, one after the other.
use Rattle.std.proofs.Common.{◌≡◌, ℕ, ◌+◌, ◌<◌, Bool, true, false, ◌||◌, List, [], ◌∷◌, ◌++◌, length, take, drop, map, get_or, refl, ap, sym, ◌∙◌, append_assoc}
use Rattle.std.specs.List.{list_any, enumerate_from}
use Rattle.std.proofs.lemmas.List.{map_push, take_more}
use Rattle.std.proofs.lemmas.List.Folds.{list_any-append}
use Rattle.x12_envelopes.specs.declared.delimiters.Delims.{Delims}
use Rattle.x12_envelopes.specs.Shape.{TransactionSet}
use Rattle.x12_judge.specs.Set.{TransactionSetVerdict, verdict_of_set}
use Rattle.x12_judge.proofs.ListLemmas.{next_left}

-- the elements up to the next one, and that one
pub one_taken :
    {X : Type 0} (xs : List X) (i : ℕ) (x : X) → i < length xs → x ≡ get_or xs i x
    → take (i + 1) xs ≡ take i xs ++ x ∷ []
one_taken xs i x within is = take_more xs i x within ∙ ap (λ y. take i xs ++ y ∷ []) (sym is)

-- the next element, and those behind it
pub one_left :
    {X : Type 0} (xs : List X) (i : ℕ) (x : X) → i < length xs → x ≡ get_or xs i x
    → drop i xs ≡ x ∷ drop (i + 1) xs
one_left xs i x within is = next_left xs i x within ∙ ap (λ y. y ∷ drop (i + 1) xs) (sym is)

swapped : (a b : Bool) → (b || a) ≡ (a || (b || false))
swapped true true = refl
swapped true false = refl
swapped false true = refl
swapped false false = refl

-- a test over mapped elements, and one more
pub one_seen :
    {X Y : Type 0} (p : Y → Bool) (f : X → Y) (xs : List X) (i : ℕ) (x : X) → i < length xs → x ≡ get_or xs i x
    → (p (f x) || list_any p (map f (take i xs))) ≡ list_any p (map f (take (i + 1) xs))
one_seen p f xs i x within is =
    swapped (list_any p (map f (take i xs))) (p (f x))
    ∙ sym (ap (λ ys. list_any p (map f ys)) (one_taken xs i x within is)
    ∙ ap (list_any p) (map_push f (take i xs) x)
    ∙ list_any-append p (map f (take i xs)) (f x ∷ []))

-- what was made of the elements so far, and of one more
pub one_verdict :
    {V W X Y : Type 0} (view : V → W) (f : ℕ × Y → W) (g : X → Y) (olds news : List V) (v : V)
    (xs : List X) (i : ℕ) (x : X) (all : List W)
    → i < length xs → x ≡ get_or xs i x
    → news ≡ olds ++ v ∷ []
    → view v ≡ f (i, g x)
    → map view olds ++ map f (enumerate_from i (map g (drop i xs))) ≡ all
    → map view news ++ map f (enumerate_from (i + 1) (map g (drop (i + 1) xs))) ≡ all
one_verdict view f g olds news v xs i x all within is pushed same so_far =
    let rest = map f (enumerate_from (i + 1) (map g (drop (i + 1) xs))) in
    ap (λ vs. map view vs ++ rest) pushed
    ∙ ap (λ ws. ws ++ rest) (map_push view olds v)
    ∙ append_assoc (map view olds) (view v ∷ []) rest
    ∙ ap (λ w. map view olds ++ (w ∷ rest)) same
    ∙ sym (ap (λ ys. map view olds ++ map f (enumerate_from i (map g ys))) (one_left xs i x within is))
    ∙ so_far

-- the verdicts of sets, by a test of which identifiers are agreed, of a partner who is lenient or not
abbrev pub verdicts_by : Delims → (List ℕ → Bool) → Bool → List TransactionSet → List TransactionSetVerdict
verdicts_by d agrees lenient received =
    map (λ place. verdict_of_set d (agrees place.1.set) lenient (take place.0 received) place.1) (enumerate_from 0 received)

-- they are the same by the same test
pub by_same_test :
    (d : Delims) (one other : List ℕ → Bool) (lenient same_lenient : Bool) (received : List TransactionSet)
    → ((set : List ℕ) → one set ≡ other set) → lenient ≡ same_lenient
    → verdicts_by d one lenient received ≡ verdicts_by d other same_lenient received
by_same_test d one other lenient same_lenient received same leniently = λ i. verdicts_by d (λ set. same set i) (leniently i) received
