-- Lemmas on segments that are put one a line, and joined.
use Rattle.std.proofs.Common.{suc, ◌≡◌, ℕ, ◌+◌, ◌<◌, Bool, true, false, cond, List, [], ◌∷◌, ◌++◌, refl, sym, ◌∙◌, ap, length, drop, flat_map, map, ◌==◌, append_assoc, append-nil, arith}
use Rattle.std.specs.List.{slice_split, onto_first, prefix_len}
use Rattle.std.proofs.lemmas.Bool.{eq-eqb, ne_eqb}
use Rattle.std.proofs.lemmas.List.Splits.{length-slice_split}
use Rattle.x12_envelopes.specs.Byte.{byte_is_line_end}
use Rattle.x12_envelopes.specs.Reading.{IsCut}
use Rattle.x12_envelopes.specs.Segment.{behind_line_ends}
use Rattle.x12_envelopes.proofs.CuttingLemmas.{cut_split}
use Rattle.x12_segments.specs.Plain.{spelled_pieces, spelled, new_line, LinesAreJoined}

-- none of the bytes is this one
abbrev IsClean : ℕ → List ℕ → Type 0
IsClean t [] = Unit {0}
IsClean t (b ∷ bytes) = ((b == t) ≡ false) × IsClean t bytes

abbrev AreClean : ℕ → List (List ℕ) → Type 0
AreClean t [] = Unit {0}
AreClean t (p ∷ parts) = IsClean t p × AreClean t parts

-- the pieces of bytes hold no terminator
onto_clean : (t b : ℕ) (c : Bool) (parts : List (List ℕ)) → (b == t) ≡ c → AreClean t parts → AreClean t (cond c ([] ∷ parts) (onto_first b parts))
onto_clean t b true parts is clean = (tt, clean)
onto_clean t b false [] is clean = ((is, tt), tt)
onto_clean t b false (p ∷ parts) is clean = ((is, clean.0), clean.1)

split_clean : (t : ℕ) (bytes : List ℕ) → AreClean t (slice_split (λ b. b == t) bytes)
split_clean t [] = (tt, tt)
split_clean t (b ∷ bytes) = onto_clean t b (b == t) (slice_split (λ x. x == t) bytes) refl (split_clean t bytes)

-- clean bytes, and then the terminator, are the first piece
split_at : (t : ℕ) (front behind : List ℕ) → IsClean t front → slice_split (λ b. b == t) (front ++ t ∷ behind) ≡ front ∷ slice_split (λ b. b == t) behind
split_at t [] behind clean = rw (eq-eqb t t refl) refl
split_at t (b ∷ front) behind clean = rw (clean.0, split_at t front behind clean.1) refl

split_last : (t : ℕ) (front : List ℕ) → IsClean t front → slice_split (λ b. b == t) front ≡ front ∷ []
split_last t [] clean = refl
split_last t (b ∷ front) clean = rw (clean.0, split_last t front clean.1) refl

-- bytes without the line ends in front, by the first byte
wle_step : (b : ℕ) (bytes : List ℕ) (c : Bool) → byte_is_line_end b ≡ c → drop (cond c (1 + prefix_len byte_is_line_end bytes) 0) (b ∷ bytes) ≡ cond c (behind_line_ends bytes) (b ∷ bytes)
wle_step b bytes true is =
    let one : 1 + prefix_len byte_is_line_end bytes ≡ suc (prefix_len byte_is_line_end bytes) = omega arith in
    ap (λ n. drop n (b ∷ bytes)) one
wle_step b bytes false is = refl

wle-cons : (b : ℕ) (bytes : List ℕ) → behind_line_ends (b ∷ bytes) ≡ cond (byte_is_line_end b) (behind_line_ends bytes) (b ∷ bytes)
wle-cons b bytes = wle_step b bytes (byte_is_line_end b) refl

clean_cond : (t b : ℕ) (c : Bool) (bytes rest : List ℕ) → (b == t) ≡ false → IsClean t bytes → IsClean t rest → IsClean t (cond c rest (b ∷ bytes))
clean_cond t b true bytes rest is clean left = left
clean_cond t b false bytes rest is clean left = (is, clean)

wle_clean : (t : ℕ) (bytes : List ℕ) → IsClean t bytes → IsClean t (behind_line_ends bytes)
wle_clean t [] clean = tt
wle_clean t (b ∷ bytes) clean =
    rw (wle-cons b bytes) (clean_cond t b (byte_is_line_end b) bytes (behind_line_ends bytes) clean.0 clean.1 (wle_clean t bytes clean.1))

wle_cond : (b : ℕ) (bytes : List ℕ) (c : Bool) → byte_is_line_end b ≡ c → behind_line_ends (behind_line_ends bytes) ≡ behind_line_ends bytes → behind_line_ends (cond c (behind_line_ends bytes) (b ∷ bytes)) ≡ cond c (behind_line_ends bytes) (b ∷ bytes)
wle_cond b bytes true is again = again
wle_cond b bytes false is again = wle-cons b bytes ∙ ap (λ c. cond c (behind_line_ends bytes) (b ∷ bytes)) is

wle_twice : (bytes : List ℕ) → behind_line_ends (behind_line_ends bytes) ≡ behind_line_ends bytes
wle_twice [] = refl
wle_twice (b ∷ bytes) = rw (wle-cons b bytes) (wle_cond b bytes (byte_is_line_end b) refl (wle_twice bytes))

-- what a line begins with, behind a terminator: nothing, or a line feed that isn't the terminator
record IsBreak (t : ℕ) (line : List ℕ) : Type 0 where
  clean : IsClean t line
  skipped : (bytes : List ℕ) → behind_line_ends (line ++ bytes) ≡ behind_line_ends bytes

clean_append : (t : ℕ) (xs ys : List ℕ) → IsClean t xs → IsClean t ys → IsClean t (xs ++ ys)
clean_append t [] ys first second = second
clean_append t (x ∷ xs) ys first second = (first.0, clean_append t xs ys first.1 second)

-- the pieces of lines
line_pieces : (t : ℕ) (line front : List ℕ) (ps : List (List ℕ)) → IsBreak t line → IsClean t front → AreClean t ps →
    slice_split (λ b. b == t) (front ++ flat_map (λ p. (t ∷ line) ++ behind_line_ends p) ps) ≡ front ∷ map (λ p. line ++ behind_line_ends p) ps
line_pieces t line front [] is clean all = ap (slice_split (λ b. b == t)) (append-nil front) ∙ split_last t front clean
line_pieces t line front (p ∷ ps) is clean all =
    split_at t front ((line ++ behind_line_ends p) ++ flat_map (λ q. (t ∷ line) ++ behind_line_ends q) ps) clean
    ∙ ap (λ rest. front ∷ rest) (line_pieces t line (line ++ behind_line_ends p) ps is (clean_append t line (behind_line_ends p) is.clean (wle_clean t p all.0)) all.1)

-- joining the pieces of lines
join_pieces : (t : ℕ) (line : List ℕ) (ps : List (List ℕ)) → IsBreak t line →
    flat_map (λ p. (t ∷ []) ++ behind_line_ends p) (map (λ p. line ++ behind_line_ends p) ps) ≡ flat_map (λ p. (t ∷ []) ++ behind_line_ends p) ps
join_pieces t line [] is = refl
join_pieces t line (p ∷ ps) is = rw (is.skipped (behind_line_ends p), wle_twice p, join_pieces t line ps is) refl

join_lines : (t : ℕ) (line : List ℕ) (ps : List (List ℕ)) → IsBreak t line → AreClean t ps →
    spelled_pieces (t ∷ []) (slice_split (λ b. b == t) (spelled_pieces (t ∷ line) ps)) ≡ spelled_pieces (t ∷ []) ps
join_lines t line [] is all = refl
join_lines t line (p ∷ ps) is all =
    ap (spelled_pieces (t ∷ [])) (line_pieces t line (behind_line_ends p) ps is (wle_clean t p all.0) all.1)
    ∙ rw (wle_twice p, join_pieces t line ps is) refl

break_of : (t : ℕ) (c : Bool) → (t == 10) ≡ c → IsBreak t (cond c [] (10 ∷ []))
break_of t true is = record { clean = tt; skipped = λ bytes. refl }
break_of t false is = record {
  clean = (ne_eqb 10 t (λ same. let yes : (t == 10) ≡ true = eq-eqb t 10 (sym same) in let no : true ≡ false = sym yes ∙ is in cc), tt);
  skipped = λ bytes. wle-cons 10 bytes;
}

-- the law
pub lines_joined : LinesAreJoined
unfolding spelled
lines_joined t bytes = join_lines t (new_line t) (slice_split (λ b. b == t) bytes) (break_of t (t == 10) refl) (split_clean t bytes)

-- what is spelled of a first piece and of what stands behind it
spelled_more : (between : List ℕ) (ps : List (List ℕ)) → 0 < length ps → flat_map (λ p. between ++ behind_line_ends p) ps ≡ between ++ spelled_pieces between ps
spelled_more between [] some = absurd (omega (arith, some))
spelled_more between (p ∷ ps) some = append_assoc between (behind_line_ends p) (flat_map (λ q. between ++ behind_line_ends q) ps)

pub spelled_on : (between : List ℕ) (t : ℕ) (bytes piece behind : List ℕ) → IsCut t bytes piece behind →
    spelled between t bytes ≡ behind_line_ends piece ++ (between ++ spelled between t behind)
unfolding spelled
spelled_on between t bytes piece behind cut =
    let some : 0 < length (slice_split (λ b. b == t) behind) = omega (arith, length-slice_split (λ b. b == t) behind) in
    ap (spelled_pieces between) (cut_split t bytes piece behind cut)
    ∙ ap (λ rest. behind_line_ends piece ++ rest) (spelled_more between (slice_split (λ b. b == t) behind) some)

pub spelled_last : (between : List ℕ) (t : ℕ) (bytes : List ℕ) → slice_split (λ b. b == t) bytes ≡ bytes ∷ [] →
    spelled between t bytes ≡ behind_line_ends bytes
unfolding spelled
spelled_last between t bytes is = ap (spelled_pieces between) is ∙ append-nil (behind_line_ends bytes)

-- one piece more is added
pub piece_added : (out new piece between left rest all : List ℕ) → new ≡ out ++ (piece ++ between) → rest ≡ piece ++ (between ++ left) →
    out ++ rest ≡ all → new ++ left ≡ all
piece_added out new piece between left rest all is splits was =
    ap (λ xs. xs ++ left) is ∙ append_assoc out (piece ++ between) left ∙ ap (λ xs. out ++ xs) (append_assoc piece between left ∙ sym splits) ∙ was

-- the last piece is added
pub last_added : (out new piece rest all : List ℕ) → new ≡ out ++ (piece ++ []) → rest ≡ piece → out ++ rest ≡ all → new ≡ all
last_added out new piece rest all is last was = is ∙ ap (λ xs. out ++ xs) (append-nil piece ∙ sym last) ∙ was
