-- Line ends in front of bytes, where a block of them is skipped at once.
use Rattle.std.proofs.Common.{◌≡◌, ◌≤◌, ℕ, suc, ◌+◌, Bool, true, false, List, [], ◌∷◌, ◌++◌, length, arith, cond, ◌&&◌, ap, sym, take, drop}
use Rattle.std.specs.List.{prefix_len, list_all}
use Rattle.std.proofs.lemmas.List.{length-append, take-append-drop}
use Rattle.x12_envelopes.specs.Byte.{byte_is_line_end}

-- a rest of bytes, behind line ends alone
pub record IsBehind (bytes rest : List ℕ) : Type 0 where
  pub within : length rest ≤ length bytes
  pub skipped : prefix_len byte_is_line_end bytes + length rest ≡ length bytes + prefix_len byte_is_line_end rest

-- one more element that passes
next : (b all : Bool) (n m k : ℕ) → (all ≡ true → n ≡ k + m) → (b && all) ≡ true → cond b (1 + n) 0 ≡ suc k + m
next true all n m k rest e = omega (arith, rest e)
next false all n m k rest e = absurd (cc)

through_block : (p : ℕ → Bool) (xs ys : List ℕ) → list_all p xs ≡ true → prefix_len p (xs ++ ys) ≡ length xs + prefix_len p ys
through_block p [] ys all = omega arith
through_block p (x ∷ xs) ys all = next (p x) (list_all p xs) (prefix_len p (xs ++ ys)) (prefix_len p ys) (length xs) (through_block p xs ys) all

-- a block of line ends more is behind us
pub behind_one_more : (n : ℕ) (bytes rest block more : List ℕ) → IsBehind bytes rest → block ≡ take n rest → more ≡ drop n rest → true ≡ list_all byte_is_line_end block → IsBehind bytes more
behind_one_more n bytes rest block more so_far first behind all =
    let cut : block ++ more ≡ rest = rw (first, behind) (take-append-drop n rest) in record {
      within = omega (arith, so_far.within, ap length cut, length-append block more);
      skipped = omega (arith, so_far.skipped, ap length cut, length-append block more, ap (prefix_len byte_is_line_end) cut, through_block byte_is_line_end block more (sym all));
    }
