-- Segments are read back from each of their texts.
use Rattle.std.proofs.Common.{◌≡◌, ℕ, zero, suc, ◌+◌, Bool, true, not, ◌&&◌, ◌==◌, List, [], ◌∷◌, ◌++◌, take, drop, replicate, map, refl, sym, ap, ap₂, ◌∙◌, arith, append_assoc, append-nil, length-append}
use Rattle.std.specs.List.{list_all, slice_split, prefix_len, suffix_len}
use Rattle.std.proofs.lemmas.Bool.{eq-eqb, and_parts}
use Rattle.std.proofs.lemmas.List.{reverse-append, length-replicate}
use Rattle.std.proofs.Math.Seq.{take-append_seam}
use Rattle.std.proofs.lemmas.List.Folds.{list_all-append}
use Rattle.std.proofs.lemmas.List.Splits.{slice_split_none}
use Rattle.x12_envelopes.specs.declared.delimiters.Delims.{Delims}
use Rattle.x12_envelopes.specs.Byte.{byte_is_line_end}
use Rattle.x12_envelopes.specs.Delimiters.{bytes_are_delimiters}
use Rattle.x12_envelopes.specs.Segment.{Segment, text_of, parts_of, ended_pieces, behind_line_ends, trimmed_segment, elements_of}
use Rattle.x12_envelopes.specs.Fitting.{segment_is_writable, joined}
use Rattle.x12_envelopes.specs.Text.{IsTextOf}
use Rattle.x12_envelopes.proofs.CuttingLemmas.{parts_of_cut}
use Rattle.x12_envelopes.proofs.JoinedLemmas.{none, text_is, all_joined, split_joined, suffix_joined}
use Rattle.x12_envelopes.proofs.PlacedLemmas.{apart, starts, writable_no_end}
use Rattle.x12_envelopes.proofs.WrittenKindLemmas.{elements_writable}

-- Further separators.

suffix_more : (p : ℕ → Bool) (c m : ℕ) (xs : List ℕ) → p c ≡ true → suffix_len p (xs ++ replicate m c) ≡ m + suffix_len p xs
suffix_more p c zero xs passes = ap (suffix_len p) (append-nil xs) ∙ omega arith
suffix_more p c (suc m) xs passes =
    let one : suffix_len p (xs ++ c ∷ []) ≡ 1 + suffix_len p xs = rw (reverse-append xs (c ∷ []), passes) refl in
    ap (suffix_len p) (sym (append_assoc xs (c ∷ []) (replicate m c)))
    ∙ suffix_more p c m (xs ++ c ∷ []) passes ∙ omega (arith, one)

trimmed_more : (d : Delims) (s : Segment) (m : ℕ) → segment_is_writable d s ≡ true → trimmed_segment d (joined d s ++ replicate m d.element) ≡ joined d s
unfolding trimmed_segment
trimmed_more d s m held =
    let long = length-append (joined d s) (replicate m d.element) in
    let count : suffix_len (λ b. b == d.element) (joined d s ++ replicate m d.element) ≡ m =
    suffix_more (λ b. b == d.element) d.element m (joined d s) (eq-eqb d.element d.element refl) ∙ omega (arith, suffix_joined d s held) in
    ap (λ n. take n (joined d s ++ replicate m d.element)) (omega (arith, long, count, length-replicate {A = ℕ} m d.element))
    ∙ take-append_seam (joined d s) (replicate m d.element)

elements_more : (d : Delims) (s : Segment) (m : ℕ) → segment_is_writable d s ≡ true → elements_of d (joined d s ++ replicate m d.element) ≡ s
unfolding elements_of segment_is_writable
elements_more d [] m held = absurd cc
elements_more d (e ∷ es) m held =
    ap (slice_split (λ b. b == d.element)) (trimmed_more d (e ∷ es) m held) ∙ split_joined d e es (and_parts _ _ held).0

-- The run of line ends in front.

drop_more_one : (k b : ℕ) (xs : List ℕ) → drop (1 + k) (b ∷ xs) ≡ drop k xs
drop_more_one k b xs = ap (λ n. drop n (b ∷ xs)) (one k)
  where
    one : (k : ℕ) → 1 + k ≡ suc k
    one k = omega arith

skipped : (run xs : List ℕ) → list_all byte_is_line_end run ≡ true → prefix_len byte_is_line_end xs ≡ 0 → behind_line_ends (run ++ xs) ≡ xs
skipped [] xs ends first = rw first refl
skipped (b ∷ run) xs ends first =
    let h = and_parts (byte_is_line_end b) (list_all byte_is_line_end run) ends in
    rw h.0 (drop_more_one (prefix_len byte_is_line_end (run ++ xs)) b (run ++ xs) ∙ skipped run xs h.1 first)

all_same : (q : ℕ → Bool) (m c : ℕ) → q c ≡ true → list_all q (replicate m c) ≡ true
all_same q zero c passes = refl
all_same q (suc m) c passes = rw passes (all_same q m c passes)

each : (p q : ℕ → Bool) (xs : List ℕ) → list_all (λ b. p b && q b) xs ≡ true → (list_all p xs ≡ true) × (list_all q xs ≡ true)
each p q [] held = (refl, refl)
each p q (b ∷ xs) held =
    let h = and_parts (p b && q b) (list_all (λ b. p b && q b) xs) held in
    let one = and_parts (p b) (q b) h.0 in
    let more = each p q xs h.1 in
    (rw (one.0, more.0) refl, rw (one.1, more.1) refl)

all_joined_up : (q : ℕ → Bool) (xs ys : List ℕ) → list_all q xs ≡ true → list_all q ys ≡ true → list_all q (xs ++ ys) ≡ true
all_joined_up q xs ys a b = list_all-append q xs ys ∙ ap₂ (λ x y. x && y) a b

nothing : (d : Delims) (bytes : List ℕ) → list_all (λ b. not (b == d.terminator)) bytes ≡ true → parts_of d bytes ≡ []
unfolding parts_of
nothing d bytes held = ap ended_pieces (slice_split_none (λ b. b == d.terminator) bytes (none (λ b. b == d.terminator) bytes held))

read_from : (d : Delims) (ss : List Segment) (bytes run : List ℕ) → bytes_are_delimiters d ≡ true → list_all (segment_is_writable d) ss ≡ true → list_all (λ b. byte_is_line_end b && not (b == d.terminator)) run ≡ true → IsTextOf d ss bytes → map (elements_of d) (parts_of d (run ++ bytes)) ≡ ss
read_from d [] bytes run good held ends text =
    ap (map (elements_of d)) (ap (parts_of d) (ap (λ xs. run ++ xs) text ∙ append-nil run) ∙ nothing d run (each byte_is_line_end (λ b. not (b == d.terminator)) run ends).1)
read_from d (s ∷ ss) bytes run good held ends text =
    let h = and_parts _ _ held in
    let rest = text.0 in
    let t = text.1.0 in
    let a = apart d good in
    let elements = elements_writable d s h.0 in
    let seps = replicate t.separators d.element in
    let body = joined d s ++ seps in
    let tests = each byte_is_line_end (λ b. not (b == d.terminator)) run ends in
    let clean = all_joined_up (λ b. not (b == d.terminator)) run body tests.1
    (all_joined_up (λ b. not (b == d.terminator)) (joined d s) seps
    (all_joined d (λ b. not (b == d.terminator)) (ap not a.ended) (λ b w. (and_parts _ _ (and_parts _ _ w).0).1) s elements)
    (all_same (λ b. not (b == d.terminator)) t.separators d.element (ap not a.ended))) in
    let first = starts byte_is_line_end body
    (all_joined_up (λ b. not (byte_is_line_end b)) (joined d s) seps
    (all_joined d (λ b. not (byte_is_line_end b)) (ap not a.element) (λ b w. writable_no_end d b a w) s elements)
    (all_same (λ b. not (byte_is_line_end b)) t.separators d.element (ap not a.element))) in
    let whole : run ++ bytes ≡ (run ++ body) ++ d.terminator ∷ (t.line_ends ++ rest) =
    ap (λ xs. run ++ xs) (t.text ∙ sym (append_assoc (joined d s) seps (d.terminator ∷ (t.line_ends ++ rest))))
    ∙ sym (append_assoc run body (d.terminator ∷ (t.line_ends ++ rest))) in
    let cut = parts_of_cut d (run ++ bytes) (run ++ body) (t.line_ends ++ rest) (record { clean = none (λ b. b == d.terminator) (run ++ body) clean; whole = whole }) in
    ap (map (elements_of d)) cut
    ∙ ap₂ ◌∷◌ (ap (elements_of d) (skipped run body tests.0 first) ∙ elements_more d s t.separators h.0) (read_from d ss rest t.line_ends good h.1 t.run text.1.1)

pub text_back : (d : Delims) (ss : List Segment) (bytes : List ℕ) → bytes_are_delimiters d ≡ true → list_all (segment_is_writable d) ss ≡ true → IsTextOf d ss bytes → map (elements_of d) (parts_of d bytes) ≡ ss
text_back d ss bytes good held text = read_from d ss bytes [] good held refl text

pub written_text : (d : Delims) (ss : List Segment) → list_all (segment_is_writable d) ss ≡ true → IsTextOf d ss (text_of d ss)
unfolding segment_is_writable
written_text d [] held = refl
written_text d ([] ∷ ss) held = absurd cc
written_text d ((e ∷ es) ∷ ss) held =
    let h = and_parts _ _ held in (
      text_of d ss,
      (
        record {
          separators = 0;
          line_ends = [];
          run = refl;
          text = ap (λ xs. xs ++ text_of d ss) (text_is d e es) ∙ append_assoc (joined d (e ∷ es)) (d.terminator ∷ []) (text_of d ss);
        },
        written_text d ss h.1,
      ),
    )
