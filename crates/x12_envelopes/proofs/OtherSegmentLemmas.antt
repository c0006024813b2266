-- Segments in which no identifier IEA stands are no trailers: the way to the trailer may skip them.
use Rattle.std.proofs.Common.{◌≡◌, ℕ, zero, suc, ◌+◌, ◌-◌, ◌<◌, ◌≤◌, Bool, true, false, ◌||◌, Option, Some, None, option_map, List, [], ◌∷◌, ◌++◌, length, get_or, take, drop, ◌==◌, codes, bytes_eq, nat_lt, refl, sym, ◌∙◌, ap, ap₂, subst, arith, ◌⊎◌, inl, inr, append_assoc, append-nil, length-append, one-add}
use Rattle.std.proofs.Math.Seq.{take-add}
use Rattle.std.specs.List.{All, prefix_len, position_or_len}
use Rattle.std.proofs.Math.Bool.{or-true}
use Rattle.std.proofs.lemmas.Bool.{and_parts, eqb-true, eq-eqb, ltb-true, ltb-false, cases_Bool}
use Rattle.std.proofs.lemmas.List.Sums.{prefix_len-le-length}
use Rattle.std.proofs.lemmas.List.{take-append-drop, get_or-take, get_or-drop, drop_more, drop_all, drop-append-le, length-take, length-take-le}
use Rattle.std.proofs.lemmas.Slice.Eq.{bytes_eq-Decides}
use Rattle.memchr.specs.Find.{Nowhere, Passes, is_byte}
use Rattle.std.proofs.lemmas.List.Elements.{All-nil, All-cons, All-append}
use Rattle.std.proofs.lemmas.List.Splits.{slice_split_at, slice_split_none}
use Rattle.x12_envelopes.specs.declared.delimiters.Delims.{Delims}
use Rattle.x12_envelopes.specs.Byte.{byte_is_line_end}
use Rattle.x12_envelopes.specs.Segment.{behind_line_ends, element_of}
use Rattle.x12_envelopes.specs.Transmission.{segment_is_trailer, names_trailer, NamesTrailer, length_through_trailer, SkipsOthers}
use Rattle.x12_envelopes.proofs.CuttingLemmas.{pieces, pieces_more}
use Rattle.x12_envelopes.proofs.ElementLemmas.{identifier_is}
use Rattle.x12_envelopes.proofs.TrailerLemmas.{from_place, goes_on, behind_place}
use Rattle.x12_numbers.proofs.Shelf.{never_both}

-- at no place of these bytes stands the identifier of a trailer
abbrev pub NoName : Delims → List ℕ → Type 0
NoName d bytes = (k : ℕ) → NamesTrailer d bytes k → ⊥

below : (a b : ℕ) → (a < b) ⊎ (b ≤ a)
below a b = elim (cases_Bool (nat_lt a b)) [
  | inl is ↦ inl (ltb-true a b is)
  | inr isnt ↦ inr (ltb-false a b isnt)
]

-- what follows changes nothing
names_more : (d : Delims) (xs ys : List ℕ) → names_trailer d xs ≡ true → names_trailer d (xs ++ ys) ≡ true
names_more d [] ys is = cc
names_more d (i ∷ []) ys is = cc
names_more d (i ∷ e ∷ []) ys is = cc
names_more d (i ∷ e ∷ a ∷ []) ys is = cc
names_more d (i ∷ e ∷ a ∷ end ∷ more) ys is = is

names_in : (d : Delims) (k : ℕ) (xs ys : List ℕ) → NamesTrailer d xs k → NamesTrailer d (xs ++ ys) k
names_in d zero xs ys is = names_more d xs ys is
names_in d (suc k) [] ys is = cc
names_in d (suc k) (x ∷ xs) ys is = names_in d k xs ys is

NoName-front : (d : Delims) (xs ys : List ℕ) → NoName d (xs ++ ys) → NoName d xs
NoName-front d xs ys none = λ k is. none k (names_in d k xs ys is)

NoName-back : (d : Delims) (xs ys : List ℕ) → NoName d (xs ++ ys) → NoName d ys
NoName-back d [] ys none = none
NoName-back d (x ∷ xs) ys none = NoName-back d xs ys (λ k is. none (suc k) is)

-- up to a place with none in front of it
no_name_before : (d : Delims) (bytes : List ℕ) (k : ℕ) → Nowhere (NamesTrailer d bytes) 0 k → (end : ℕ) → end < k → NoName d (take (end + 1) bytes)
no_name_before d bytes k none end low j is = elim (below j (end + 1)) [
  | inl near ↦
      let whole : NamesTrailer d bytes j = subst (λ l. NamesTrailer d l j) (take-append-drop (end + 1) bytes) (names_in d j (take (end + 1) bytes) (drop (end + 1) bytes) is) in
      none j (omega arith) (omega (arith, near, low)) whole
  | inr far ↦
      let empty : drop j (take (end + 1) bytes) ≡ [] = drop_all j (take (end + 1) bytes) (omega (arith, far, length-take (end + 1) bytes)) in
      let bad : names_trailer d [] ≡ true = ap (names_trailer d) (sym empty) ∙ is in
      cc
]

no_name : (d : Delims) (bytes : List ℕ) → Nowhere (NamesTrailer d bytes) 0 (length bytes) → NoName d bytes
no_name d bytes none j is = elim (below j (length bytes)) [
  | inl near ↦ none j (omega arith) near is
  | inr far ↦
      let bad : names_trailer d [] ≡ true = ap (names_trailer d) (sym (drop_all j bytes far)) ∙ is in
      cc
]

-- the bytes in front of the first separator, where they begin with this one
named_step : (q : ℕ → Bool) (ps : List ℕ) (c : ℕ) (more : List ℕ) → take (position_or_len q ps) ps ≡ c ∷ more → (rest : List ℕ) × ((ps ≡ c ∷ rest) × (take (position_or_len q rest) rest ≡ more))
named_step q [] c more is = cc
named_step q (p ∷ ps) c more is = elim (cases_Bool (q p)) [
  | inl ends ↦
      let bad : [] ≡ c ∷ more = rw ends at is in
      cc
  | inr goes ↦
      let spelled : p ∷ take (position_or_len q ps) ps ≡ c ∷ more = rw (goes, one-add) at is in
      (ps, (cc, cc))
]

-- where they are at an end, so are the bytes, or the separator stands there
named_end : (d : Delims) (ps : List ℕ) (t : ℕ) → (t == d.terminator) ≡ true → take (position_or_len (λ b. b == d.element) ps) ps ≡ [] → names_trailer d (73 ∷ 69 ∷ 65 ∷ (ps ++ t ∷ [])) ≡ true
named_end d [] t ends is = rw (ends, or-true (t == d.element)) refl
named_end d (p ∷ ps) t ends is = elim (cases_Bool (p == d.element)) [
  | inl separated ↦ rw separated refl
  | inr goes ↦
      let bad : p ∷ take (position_or_len (λ b. b == d.element) ps) ps ≡ [] = rw (goes, one-add) at is in
      cc
]

-- bytes whose first element is IEA begin with its identifier, where a terminator follows
named_part : (d : Delims) (part : List ℕ) (t : ℕ) → (t == d.terminator) ≡ true → element_of d part 0 ≡ codes "IEA" → names_trailer d (part ++ t ∷ []) ≡ true
named_part d part t ends is =
    let q = λ (b : ℕ). b == d.element in
    let one = named_step q part 73 (69 ∷ 65 ∷ []) (identifier_is d part ∙ is) in
    let two = named_step q one.0 69 (65 ∷ []) one.1.1 in
    let three = named_step q two.0 65 [] two.1.1 in
    let spelled : part ≡ 73 ∷ 69 ∷ 65 ∷ three.0 = one.1.0 ∙ ap (λ l. 73 ∷ l) (two.1.0 ∙ ap (λ l. 69 ∷ l) three.1.0) in
    ap (λ (l : List ℕ). names_trailer d (l ++ t ∷ [])) spelled ∙ named_end d three.0 t ends three.1.1

no_name_no_trailer : (d : Delims) (bytes : List ℕ) (t : ℕ) → (t == d.terminator) ≡ true → NoName d (bytes ++ t ∷ []) → segment_is_trailer d (behind_line_ends bytes) ≡ false
unfolding segment_is_trailer
no_name_no_trailer d bytes t ends none =
    let n = prefix_len byte_is_line_end bytes in
    let part = behind_line_ends bytes in
    elim (cases_Bool (bytes_eq (element_of d part 0) (codes "IEA"))) [
      | inl is ↦
          let names = named_part d part t ends ((bytes_eq-Decides (element_of d part 0) (codes "IEA")).0 is) in
          let there : drop n (bytes ++ t ∷ []) ≡ part ++ t ∷ [] = drop-append-le n bytes (t ∷ []) (prefix_len-le-length byte_is_line_end bytes) in
          absurd (none n (ap (names_trailer d) there ∙ names))
      | inr is ↦ is
    ]

abbrev Clean : Delims → List ℕ → Type 0
Clean d bytes = All (λ b. (b == d.terminator) ≡ false) bytes

snoc_assoc : (acc : List ℕ) (x : ℕ) (more : List ℕ) → acc ++ x ∷ more ≡ (acc ++ x ∷ []) ++ more
snoc_assoc acc x more = sym (append_assoc acc (x ∷ []) more)

-- a piece that ends at this byte, and the bytes behind it
here : (d : Delims) (acc : List ℕ) (x : ℕ) (more : List ℕ) → NoName d (acc ++ x ∷ more) → NoName d (acc ++ x ∷ [])
here d acc x more none = NoName-front d (acc ++ x ∷ []) more (subst (NoName d) (snoc_assoc acc x more) none)

after : (d : Delims) (acc : List ℕ) (x : ℕ) (more : List ℕ) → NoName d (acc ++ x ∷ more) → NoName d more
after d acc x more none = NoName-back d (acc ++ x ∷ []) more (subst (NoName d) (snoc_assoc acc x more) none)

-- the segments of bytes with no such identifier that end in a terminator are passed; `acc` is what was read of the first
past_others :
    (d : Delims) (acc front behind : List ℕ) → Clean d acc → NoName d (acc ++ (front ++ d.terminator ∷ []))
    → length_through_trailer d (pieces d (acc ++ (front ++ d.terminator ∷ behind)))
    ≡ from_place (length acc + length front + 1) (length_through_trailer d (pieces d behind))
past_others d acc [] behind clean none =
    let ends = eq-eqb d.terminator d.terminator refl in
    ap (length_through_trailer d) (slice_split_at (λ b. b == d.terminator) acc d.terminator behind clean ends)
    ∙ goes_on d acc (pieces d behind) (pieces_more d behind) (no_name_no_trailer d acc d.terminator ends none)
    ∙ ap (λ k. from_place k (length_through_trailer d (pieces d behind))) (omega arith)
past_others d acc (x ∷ xs) behind clean none = elim (cases_Bool (x == d.terminator)) [
  | inl ends ↦
      let more = xs ++ d.terminator ∷ behind in
      let rest = past_others d [] xs behind (All-nil _) (after d acc x (xs ++ d.terminator ∷ []) none) in
      ap (length_through_trailer d) (slice_split_at (λ b. b == d.terminator) acc x more clean ends)
      ∙ goes_on d acc (pieces d more) (pieces_more d more) (no_name_no_trailer d acc x ends (here d acc x (xs ++ d.terminator ∷ []) none))
      ∙ ap (from_place (length acc + 1)) rest
      ∙ behind_place (length acc + 1) (length {A = ℕ} [] + length xs + 1) (length_through_trailer d (pieces d behind))
      ∙ ap (λ k. from_place k (length_through_trailer d (pieces d behind))) (omega arith)
  | inr goes ↦
      let clean_x : Clean d (x ∷ []) = All-cons (λ b. (b == d.terminator) ≡ false) x [] goes (All-nil _) in
      ap (λ bytes. length_through_trailer d (pieces d bytes)) (snoc_assoc acc x (xs ++ d.terminator ∷ behind))
      ∙ past_others d (acc ++ x ∷ []) xs behind
      (All-append (λ b. (b == d.terminator) ≡ false) acc (x ∷ []) clean clean_x)
      (subst (NoName d) (snoc_assoc acc x (xs ++ d.terminator ∷ [])) none)
      ∙ ap (λ k. from_place k (length_through_trailer d (pieces d behind))) (omega (arith, length-append acc (x ∷ [])))
]

-- bytes with no such identifier have no trailer
none_in :
    (d : Delims) (acc front : List ℕ) → Clean d acc → NoName d (acc ++ front) → length_through_trailer d (pieces d (acc ++ front)) ≡ None
unfolding length_through_trailer
none_in d acc [] clean none =
    ap (λ bytes. length_through_trailer d (pieces d bytes)) (append-nil acc)
    ∙ ap (length_through_trailer d) (slice_split_none (λ b. b == d.terminator) acc clean)
none_in d acc (x ∷ xs) clean none = elim (cases_Bool (x == d.terminator)) [
  | inl ends ↦
      ap (length_through_trailer d) (slice_split_at (λ b. b == d.terminator) acc x xs clean ends)
      ∙ goes_on d acc (pieces d xs) (pieces_more d xs) (no_name_no_trailer d acc x ends (here d acc x xs none))
      ∙ ap (from_place (length acc + 1)) (none_in d [] xs (All-nil _) (after d acc x xs none))
  | inr goes ↦
      let clean_x : Clean d (x ∷ []) = All-cons (λ b. (b == d.terminator) ≡ false) x [] goes (All-nil _) in
      ap (λ bytes. length_through_trailer d (pieces d bytes)) (snoc_assoc acc x xs)
      ∙ none_in d (acc ++ x ∷ []) xs
      (All-append (λ b. (b == d.terminator) ≡ false) acc (x ∷ []) clean clean_x)
      (subst (NoName d) (snoc_assoc acc x xs) none)
]

pub no_name_no_way : (d : Delims) (bytes : List ℕ) → Nowhere (NamesTrailer d bytes) 0 (length bytes) → length_through_trailer d (pieces d bytes) ≡ None
no_name_no_way d bytes none = none_in d [] bytes (All-nil _) (no_name d bytes none)

-- such bytes begin with I
names_i : (d : Delims) (xs : List ℕ) → names_trailer d xs ≡ true → get_or xs 0 0 ≡ 73
names_i d [] is = cc
names_i d (i ∷ []) is = cc
names_i d (i ∷ e ∷ []) is = cc
names_i d (i ∷ e ∷ a ∷ []) is = cc
names_i d (i ∷ e ∷ a ∷ end ∷ more) is =
    let parts = and_parts (bytes_eq (i ∷ e ∷ a ∷ []) (codes "IEA")) (end == d.element || end == d.terminator) is in
    ap (λ (l : List ℕ). get_or l 0 0) ((bytes_eq-Decides (i ∷ e ∷ a ∷ []) (codes "IEA")).0 parts.0)

-- a search for I goes past places where no such identifier stands
pub on_to_i : (d : Delims) (bytes rest : List ℕ) (from n : ℕ) → Nowhere (NamesTrailer d bytes) 0 from → rest ≡ drop from bytes → Nowhere (Passes (is_byte 73) rest) 0 n → Nowhere (NamesTrailer d bytes) 0 (from + n)
on_to_i d bytes rest from n none is none_i k low high names = elim (below k from) [
  | inl before ↦ none k low (omega (arith, before)) names
  | inr behind ↦
      let place : from + (k - from) ≡ k = omega (arith, behind) in
      let at : get_or rest (k - from) 0 ≡ 73 =
      ap (λ (l : List ℕ). get_or l (k - from) 0) is ∙ get_or-drop from bytes (k - from) 0
      ∙ ap (λ n. get_or bytes n 0) (place ∙ omega arith) ∙ sym (get_or-drop k bytes 0 0) ∙ names_i d (drop k bytes) names in
      none_i (k - from) (omega arith) (omega (arith, behind, high)) (eq-eqb (get_or rest (k - from) 0) 73 at)
]

-- and past an I where none stands
pub past_one : (d : Delims) (bytes near : List ℕ) (place : ℕ) → Nowhere (NamesTrailer d bytes) 0 place → near ≡ drop place bytes → names_trailer d near ≡ false → Nowhere (NamesTrailer d bytes) 0 (place + 1)
past_one d bytes near place none is isnt k low high names = elim (below k place) [
  | inl before ↦ none k low (omega (arith, before)) names
  | inr at ↦
      let same : k ≡ place = omega (arith, at, high) in
      never_both (names_trailer d near) (ap (names_trailer d) (is ∙ ap (λ n. drop n bytes) (sym same)) ∙ names) isnt
]

-- nothing is skipped
pub skips_none : (d : Delims) (bytes : List ℕ) → SkipsOthers d bytes bytes
skips_none d bytes = record {
  shorter = omega arith;
  way = sym (same (length_through_trailer d (pieces d bytes)));
}
  where
    same : (way : Option ℕ) → option_map (λ n. length bytes - length bytes + n) way ≡ way
    same None = refl
    same (Some n) = ap Some (omega arith)

-- the segments up to a terminator in front of the first such identifier are skipped
pub skips_to :
    (d : Delims) (bytes front rest : List ℕ) (first end : ℕ) → Nowhere (NamesTrailer d bytes) 0 first → first < length bytes
    → front ≡ take first bytes → end < length front → Passes (is_byte d.terminator) front end → rest ≡ drop (end + 1) bytes → SkipsOthers d bytes rest
skips_to d bytes front rest first end before high is_front within ends is_rest =
    let fits : length front ≤ first = omega (arith, ap length is_front, length-take first bytes) in
    let inside : end < length bytes = omega (arith, high, within, fits) in
    let at : get_or bytes end 0 ≡ d.terminator = sym (get_or-take first bytes end 0 (omega (arith, fits))) ∙ ap (λ (l : List ℕ). get_or l end 0) (sym is_front) ∙ eqb-true _ d.terminator ends in
    let whole : bytes ≡ take end bytes ++ d.terminator ∷ rest =
    sym (take-append-drop end bytes) ∙ ap (λ l. take end bytes ++ l) (drop_more bytes end 0 inside ∙ ap₂ ◌∷◌ at (sym is_rest)) in
    let through : take (end + 1) bytes ≡ take end bytes ++ d.terminator ∷ [] = take-add end 1 bytes ∙ ap (λ l. take end bytes ++ take 1 l) (drop_more bytes end 0 inside ∙ ap₂ ◌∷◌ at refl) in
    let none : NoName d (take end bytes ++ d.terminator ∷ []) = subst (NoName d) through (no_name_before d bytes first before end (omega (arith, within, fits))) in
    let sizes : length (take end bytes) ≡ end = length-take-le end bytes (omega (arith, inside)) in
    let left : length bytes ≡ end + 1 + length rest = omega (arith, ap length whole, length-append (take end bytes) (d.terminator ∷ rest), sizes) in
    record {
      shorter = omega (arith, left);
      way = ap (λ l. length_through_trailer d (pieces d l)) whole
          ∙ past_others d [] (take end bytes) rest (All-nil _) none
          ∙ ap (λ k. from_place k (length_through_trailer d (pieces d rest))) (omega (arith, left, sizes));
    }

pub skipped : (d : Delims) (rest near : List ℕ) (place : ℕ) → SkipsOthers d rest near
    → from_place place (length_through_trailer d (pieces d rest)) ≡ from_place (place + (length rest - length near)) (length_through_trailer d (pieces d near))
skipped d rest near place skips = ap (from_place place) skips.way ∙ behind_place place (length rest - length near) (length_through_trailer d (pieces d near))
