-- A party and its 17 bytes.
use Rattle.std.proofs.Common.{◌≡◌, ◌++◌, ℕ, List, [], ◌∷◌, length, take, drop, refl, ap, arith, ◌&&◌, Bool, true, false, append-nil}
use Rattle.x12_envelopes.specs.declared.party.Party.{Party}
use Rattle.std.specs.Str.{bytes_eq}
use Rattle.std.specs.Prelude.{nat_eq}
use borrow.Rule.Slice.PartMut.{put_mid}
use Rattle.x12_tables.specs.Party.{bytes_of_party, party_in, IsWideParty}

front_two : (q i : List ℕ) → length q ≡ 2 → (take 2 (q ++ i) ≡ q) × (drop 2 (q ++ i) ≡ i)
front_two [] i h = absurd (omega (arith, h))
front_two (a ∷ []) i h = absurd (omega (arith, h))
front_two (a ∷ b ∷ []) i h = (refl, refl)
front_two (a ∷ b ∷ c ∷ q) i h = absurd (omega (arith, h))

pub party_back : (p : Party) → IsWideParty p → party_in (bytes_of_party p) ≡ p
party_back p h = let both = front_two p.qualifier p.id h.0 in rw (both.0, both.1) refl

pub both_and : (a b c : Bool) → a && (b && c) ≡ (a && b) && c
both_and true b c = refl
both_and false b c = refl

-- texts of one length in front: the whole is equal where both parts are
pub split_eq : (a b c d : List ℕ) → length a ≡ length b → bytes_eq (a ++ c) (b ++ d) ≡ bytes_eq a b && bytes_eq c d
split_eq [] [] c d same = refl
split_eq [] (y ∷ b) c d same = absurd (omega (arith, same))
split_eq (x ∷ a) [] c d same = absurd (omega (arith, same))
split_eq (x ∷ a) (y ∷ b) c d same = rw (split_eq a b c d (omega (arith, same))) (both_and (nat_eq x y) (bytes_eq a b) (bytes_eq c d))

pub two_in_front : (q i : List ℕ) → length q ≡ 2 → put_mid 2 15 (q ++ 0 ∷ 0 ∷ 0 ∷ 0 ∷ 0 ∷ 0 ∷ 0 ∷ 0 ∷ 0 ∷ 0 ∷ 0 ∷ 0 ∷ 0 ∷ 0 ∷ 0 ∷ []) i ≡ q ++ i
two_in_front [] i h = absurd (omega (arith, h))
two_in_front (a ∷ []) i h = absurd (omega (arith, h))
two_in_front (a ∷ b ∷ []) i h = ap (λ r. a ∷ b ∷ r) (append-nil i)
two_in_front (a ∷ b ∷ c ∷ q) i h = absurd (omega (arith, h))

pub joined : (a b q i : List ℕ) → a ≡ q → b ≡ i → length q ≡ 2 → put_mid 2 15 (a ++ 0 ∷ 0 ∷ 0 ∷ 0 ∷ 0 ∷ 0 ∷ 0 ∷ 0 ∷ 0 ∷ 0 ∷ 0 ∷ 0 ∷ 0 ∷ 0 ∷ 0 ∷ []) b ≡ q ++ i
joined a b q i is_q is_i h = rw (is_q, is_i) (two_in_front q i h)
