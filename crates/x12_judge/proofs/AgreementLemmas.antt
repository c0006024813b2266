-- What agreements take from a partner, as the list of what they take.
use Rattle.std.proofs.Common.{◌≡◌, ℕ, Bool, true, false, ◌&&◌, ◌||◌, List, [], ◌∷◌, flat_map, bytes_eq, if◌then◌else◌, refl, ap, ◌∙◌}
use Rattle.std.specs.List.{list_any}
use Rattle.std.proofs.lemmas.List.Folds.{list_any-append}
use Rattle.x12_envelopes.specs.declared.party.Party.{Party}
use Rattle.x12_judge.specs.Agreement.{TradingAgreement, is_same_party, set_is_agreed, sets_taken}

or_false : (b : Bool) → (b || false) ≡ b
or_false true = refl
or_false false = refl

if_one : {X : Type 0} (q : X → Bool) (b : Bool) (x : X) → list_any q (if b then x ∷ [] else []) ≡ (b && q x)
if_one q true x = or_false (q x)
if_one q false x = refl

if_any : {X : Type 0} (q : X → Bool) (b : Bool) (xs : List X) → list_any q (if b then xs else []) ≡ (b && list_any q xs)
if_any q true xs = refl
if_any q false xs = refl

pairs_taken :
    (functional set : List ℕ) (pairs : List (List ℕ × List ℕ))
    → list_any (λ i. bytes_eq i set) (flat_map (λ pair. if bytes_eq pair.0 functional then pair.1 ∷ [] else []) pairs)
    ≡ list_any (λ pair. bytes_eq pair.0 functional && bytes_eq pair.1 set) pairs
pairs_taken functional set [] = refl
pairs_taken functional set (pair ∷ pairs) =
    let q : List ℕ → Bool = λ i. bytes_eq i set in
    let here : List (List ℕ) = if bytes_eq pair.0 functional then pair.1 ∷ [] else [] in
    let rest : List (List ℕ) = flat_map (λ pair. if bytes_eq pair.0 functional then pair.1 ∷ [] else []) pairs in
    list_any-append q here rest
    ∙ ap (λ b. b || list_any q rest) (if_one q (bytes_eq pair.0 functional) pair.1)
    ∙ ap (λ b. bytes_eq pair.0 functional && bytes_eq pair.1 set || b) (pairs_taken functional set pairs)

-- a set is agreed where it is among those that are taken
pub agreed_is_taken :
    (agreements : List TradingAgreement) (partner : Party) (functional set : List ℕ)
    → list_any (λ i. bytes_eq i set) (flat_map (sets_taken partner functional) agreements)
    ≡ set_is_agreed agreements partner functional set
unfolding set_is_agreed sets_taken
agreed_is_taken [] partner functional set = refl
agreed_is_taken (a ∷ agreements) partner functional set =
    let q : List ℕ → Bool = λ i. bytes_eq i set in
    let same = is_same_party a.partner partner in
    let taken : List (List ℕ) = flat_map (λ pair. if bytes_eq pair.0 functional then pair.1 ∷ [] else []) a.pairs in
    let rest = flat_map (sets_taken partner functional) agreements in
    list_any-append q (sets_taken partner functional a) rest
    ∙ ap (λ b. b || list_any q rest) (if_any q same taken ∙ ap (λ b. same && b) (pairs_taken functional set a.pairs))
    ∙ ap (λ b. same && list_any (λ pair. bytes_eq pair.0 functional && bytes_eq pair.1 set) a.pairs || b)
    (agreed_is_taken agreements partner functional set)
