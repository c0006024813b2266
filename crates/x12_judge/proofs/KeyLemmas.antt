-- Keys of control numbers: two are the same exactly when the numbers are.
use Rattle.std.proofs.Common.{◌≡◌, ℕ, ◌-◌, Bool, true, false, ◌||◌, cond, List, ◌++◌, length, take, replicate, reverse, refl, ap, sym, ◌∙◌, bytes_eq}
use Rattle.std.proofs.Math.Seq.{take-append_seam}
use Rattle.std.proofs.lemmas.List.{length-reverse, reverse-reverse}
use Rattle.std.proofs.lemmas.Bool.Decides.{same_from_decides}
use Rattle.std.proofs.lemmas.Slice.Eq.{bytes_eq-Decides}
use Rattle.std.proofs.lemmas.Map.Text.{is_eq-slice_cmp}
use Rattle.std.specs.Ordering.{nat_cmp, is_eq}
use Rattle.std.specs.Cmp.Lexicographic.{slice_cmp}
use Rattle.x12_judge.specs.Number.{key_of_number}

filler : List ℕ → List ℕ
filler number = replicate (9 - length number) 0

apart : (a b x y : List ℕ) → length a ≡ length b → a ++ x ≡ b ++ y → a ≡ b
apart a b x y same whole =
    sym (take-append_seam a x) ∙ (λ i. take (same i) (whole i)) ∙ take-append_seam b y

pub key_apart : (a b : List ℕ) → key_of_number a ≡ key_of_number b → a ≡ b
unfolding key_of_number
key_apart a b e =
    let same : length a ≡ length b = cc in
    let whole : reverse a ++ replicate (9 - length a) 0 ≡ reverse b ++ replicate (9 - length b) 0 = cc in
    let turned : reverse a ≡ reverse b = apart (reverse a) (reverse b) _ _ (length-reverse a ∙ same ∙ sym (length-reverse b)) whole in
    sym (reverse-reverse a) ∙ ap reverse turned ∙ reverse-reverse b

pub same_key : (a b : List ℕ) → is_eq (slice_cmp nat_cmp (key_of_number a) (key_of_number b)) ≡ bytes_eq a b
same_key a b =
    let keys = bytes_eq-Decides (key_of_number a) (key_of_number b) in
    is_eq-slice_cmp (key_of_number a) (key_of_number b)
    ∙ same_from_decides (bytes_eq (key_of_number a) (key_of_number b)) (bytes_eq a b)
    (λ e. key_apart a b (keys.0 e), λ e. keys.1 (ap key_of_number e)) (bytes_eq-Decides a b)

pub either : (b x : Bool) → cond b true x ≡ (b || x)
either true x = refl
either false x = refl
