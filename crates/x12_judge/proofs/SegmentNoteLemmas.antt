-- The rows of a segment's notes, as they are kept one after the other.
use Rattle.std.proofs.Common.{◌≡◌, ℕ, ◌≤◌, Bool, true, false, not, ◌&&◌, List, [], ◌∷◌, ◌++◌, length, take, if◌then◌else◌, flat_map, ◌==◌, refl, ap, sym, ◌∙◌, suc, arith}
use Rattle.std.proofs.lemmas.Bool.Decides.{nat_tests}
use Rattle.std.proofs.lemmas.List.{append-nil}
use Rattle.std.proofs.lemmas.Slice.Eq.{bytes_eq-Decides}
use Rattle.x12_envelopes.specs.Row.{held_of_rows}
use Rattle.x12_judge.specs.declared.verdict.SegmentCode.{SegmentCode}
use Rattle.x12_judge.specs.Note.{with_errors}
use Rattle.x12_judge.specs.Keeping.{KeptNotes, keeping}
use Rattle.std.proofs.Common.{◌-◌, ◌||◌, ◌<◌, nat_lt, bytes_eq, codes, slice_index}
use Rattle.std.proofs.lemmas.Bool.{false≢true}
use Rattle.x12_envelopes.specs.declared.delimiters.Delims.{Delims}
use Rattle.std.specs.Char.{is_ascii_uppercase, is_ascii_digit}
use Rattle.x12_envelopes.specs.Byte.{byte_is_capital_or_digit}
use Rattle.x12_judge.specs.Segment.{SegmentNote, ElementNote, note_on_segment, identifier_of, name_is_identifier, notes_at}
use Rattle.x12_judge.specs.Set.{ReportedNote, reported, segment}
use Rattle.x12_judge.proofs.KeptNoteLemmas.{keeps_more}

-- one row, and those behind it
pub one_row :
    (b : Bool) (n : SegmentNote) (rows : List (Bool × SegmentNote))
    → flat_map reported (held_of_rows ((b, n) ∷ rows))
    ≡ (if b then reported n else []) ++ flat_map reported (held_of_rows rows)
one_row true n rows = refl
one_row false n rows = refl

-- a row with no element errors
pub plain_row :
    (b : Bool) (name : List ℕ) (position : ℕ) (code : SegmentCode)
    → held_of_rows ((b, segment (take 3 name) position code) ∷ [])
    ≡ (if b then reported (note_on_segment name position code []) else [])
plain_row true name position code = refl
plain_row false name position code = refl

-- a list with an element isn't empty
pub not_empty : (n : ℕ) → not (suc n == 0) ≡ true
not_empty n = grind (arith, nat_tests)

-- the row of element errors
pub errors_row :
    (b : Bool) (name : List ℕ) (position : ℕ) (code : SegmentCode) (es : List ElementNote)
    → (if b then with_errors (segment (take 3 name) position code) es else [])
    ≡ flat_map reported (held_of_rows ((b && not (length es == 0), note_on_segment name position code es) ∷ []))
errors_row true name position code [] = refl
errors_row true name position code (e ∷ es) =
    let n = note_on_segment name position code (e ∷ es) in
    sym (ap (λ b. flat_map reported (held_of_rows ((b, n) ∷ []))) (not_empty (length es)) ∙ append-nil (reported n))
errors_row false name position code es = refl

-- four steps are one
pub keeps_four :
    (old one two three four : KeptNotes) (a b c d all : List ReportedNote)
    → one ≡ keeping old a
    → two ≡ keeping one b
    → three ≡ keeping two c
    → four ≡ keeping three d
    → a ++ (b ++ (c ++ d)) ≡ all
    → four ≡ keeping old all
keeps_four old one two three four a b c d all e f g h whole =
    keeps_more old one four a _ e (keeps_more one two four b _ f (keeps_more two three four c d g h))
    ∙ ap (keeping old) whole

-- two rows
pub two_rows :
    {X : Type 0} (p q : Bool × X) → held_of_rows (p ∷ []) ++ held_of_rows (q ∷ []) ≡ held_of_rows (p ∷ q ∷ [])
two_rows (true, x) q = refl
two_rows (false, x) q = refl

-- the four rows of a segment
pub four_rows :
    (name beg : List ℕ) (position : ℕ) (unrecognized missing again checked : Bool)
    (one two three four : SegmentCode) (es : List ElementNote)
    → held_of_rows ((unrecognized, segment (take 3 name) position one) ∷ [])
    ++ (held_of_rows ((missing, segment (take 3 beg) 2 two) ∷ [])
    ++ (held_of_rows ((again, segment (take 3 name) position three) ∷ [])
    ++ (if checked then with_errors (segment (take 3 name) position four) es else [])))
    ≡ flat_map reported (held_of_rows (
    (unrecognized, note_on_segment name position one [])
    ∷ (missing, note_on_segment beg 2 two [])
    ∷ (again, note_on_segment name position three [])
    ∷ (checked && not (length es == 0), note_on_segment name position four es)
    ∷ []))
four_rows name beg position unrecognized missing again checked one two three four es =
    let last = errors_row checked name position four es in
    let row = (checked && not (length es == 0), note_on_segment name position four es) ∷ [] in
    let third = (again, note_on_segment name position three []) ∷ row in
    let second = (missing, note_on_segment beg 2 two []) ∷ third in
    let at_three = plain_row again name position three in
    let at_two = plain_row missing beg 2 two in
    let at_one = plain_row unrecognized name position one in
    let behind_three = ap (λ xs. held_of_rows ((again, segment (take 3 name) position three) ∷ []) ++ xs) last
    ∙ ap (λ xs. xs ++ flat_map reported (held_of_rows row)) at_three
    ∙ sym (one_row again (note_on_segment name position three []) row) in
    let behind_two = ap (λ xs. held_of_rows ((missing, segment (take 3 beg) 2 two) ∷ []) ++ xs) behind_three
    ∙ ap (λ xs. xs ++ flat_map reported (held_of_rows third)) at_two
    ∙ sym (one_row missing (note_on_segment beg 2 two []) third) in
    ap (λ xs. held_of_rows ((unrecognized, segment (take 3 name) position one) ∷ []) ++ xs) behind_two
    ∙ ap (λ xs. xs ++ flat_map reported (held_of_rows second)) at_one
    ∙ sym (one_row unrecognized (note_on_segment name position one []) second)

-- the rows of a segment, by the same tests and the same name under other names
pub same_rows :
    (name name' beg : List ℕ) (position : ℕ) (one two three four : SegmentCode) (es : List ElementNote)
    (a a' b b' c c' d d' : Bool) → name ≡ name' → a ≡ a' → b ≡ b' → c ≡ c' → d ≡ d'
    → flat_map reported (held_of_rows (
    (a, note_on_segment name position one [])
    ∷ (b, note_on_segment beg 2 two [])
    ∷ (c, note_on_segment name position three [])
    ∷ (d && not (length es == 0), note_on_segment name position four es)
    ∷ []))
    ≡ flat_map reported (held_of_rows (
    (a', note_on_segment name' position one [])
    ∷ (b', note_on_segment beg 2 two [])
    ∷ (c', note_on_segment name' position three [])
    ∷ (d' && not (length es == 0), note_on_segment name' position four es)
    ∷ []))
same_rows name name' beg position one two three four es a a' b b' c c' d d' n e f g h =
    λ i. flat_map reported (held_of_rows (
    (e i, note_on_segment (n i) position one [])
    ∷ (f i, note_on_segment beg 2 two [])
    ∷ (g i, note_on_segment (n i) position three [])
    ∷ (h i && not (length es == 0), note_on_segment (n i) position four es)
    ∷ []))

same_test : (u d x y : Bool) → (u && x && y) ≡ ((u || d) && (x && (y && true)) && u)
same_test true d true true = refl
same_test true d true false = refl
same_test true d false y = refl
same_test false true true true = refl
same_test false true true false = refl
same_test false true false y = refl
same_test false false x y = refl

same_two : (u d x : Bool) → (u && x && x) ≡ ((u || d) && (x && true) && u)
same_two true d true = refl
same_two true d false = refl
same_two false true true = refl
same_two false true false = refl
same_two false false x = refl

-- an identifier of two or three bytes, by its first, its second and its last byte
pub identifier_by_three :
    (name : List ℕ) → 2 ≤ length name → length name ≤ 3
    → (is_ascii_uppercase (slice_index name 0) && byte_is_capital_or_digit (slice_index name 1)
    && byte_is_capital_or_digit (slice_index name (length name - 1))) ≡ name_is_identifier name
unfolding name_is_identifier
identifier_by_three [] few most = absurd (omega (arith, few))
identifier_by_three (a ∷ []) few most = absurd (omega (arith, few))
identifier_by_three (a ∷ b ∷ []) few most = same_two (is_ascii_uppercase a) (is_ascii_digit a) (byte_is_capital_or_digit b)
identifier_by_three (a ∷ b ∷ c ∷ []) few most = same_test (is_ascii_uppercase a) (is_ascii_digit a) (byte_is_capital_or_digit b) (byte_is_capital_or_digit c)
identifier_by_three (a ∷ b ∷ c ∷ d ∷ more) few most = absurd (omega (arith, most))

ordinary_rows :
    {X : Type 0} (identifier beg ctt first later wrong : Bool) (v w x y : X)
    → (identifier && not beg && not ctt) ≡ true → first ≡ false
    → held_of_rows ((not identifier, v) ∷ (first && not beg, w) ∷ (beg && later, x) ∷ ((beg && first || ctt) && wrong, y) ∷ []) ≡ []
ordinary_rows true false false false later wrong v w x y is behind = refl
ordinary_rows true false false true later wrong v w x y is behind = absurd (false≢true (sym behind))
ordinary_rows true false true first later wrong v w x y is behind = absurd (false≢true is)
ordinary_rows true true ctt first later wrong v w x y is behind = absurd (false≢true is)
ordinary_rows false beg ctt first later wrong v w x y is behind = absurd (false≢true is)

-- PO1 is an identifier, and neither BEG nor CTT
pub po1_is_plain :
    (name : List ℕ) → bytes_eq name (codes "PO1") ≡ true
    → (name_is_identifier name && not (bytes_eq name (codes "BEG")) && not (bytes_eq name (codes "CTT"))) ≡ true
unfolding name_is_identifier
po1_is_plain name is =
    ap (λ n. name_is_identifier n && not (bytes_eq n (codes "BEG")) && not (bytes_eq n (codes "CTT")))
    ((bytes_eq-Decides name (codes "PO1")).0 is)

not_second : (n : ℕ) → 2 < n → (n == 2) ≡ false
not_second n behind = grind (arith, nat_tests, behind)

-- nothing is noted behind the first segment on one with an identifier, neither BEG nor CTT
pub ordinary :
    (d : Delims) (position : ℕ) (part : List ℕ) → 2 < position
    → (name_is_identifier (identifier_of d part) && not (bytes_eq (identifier_of d part) (codes "BEG"))
    && not (bytes_eq (identifier_of d part) (codes "CTT"))) ≡ true
    → notes_at d position part ≡ []
unfolding notes_at
ordinary d position part behind is =
    ordinary_rows (name_is_identifier (identifier_of d part)) (bytes_eq (identifier_of d part) (codes "BEG"))
    (bytes_eq (identifier_of d part) (codes "CTT")) (position == 2) (nat_lt 2 position) _ _ _ _ _ is
    (not_second position behind)
