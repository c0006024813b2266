-- A segment of data that its first byte tells.
use Rattle.std.proofs.Common.{◌≡◌, ◌≤◌, ◌+◌, ◌-◌, ℕ, Bool, true, false, not, ◌&&◌, ◌||◌, ◌==◌, List, [], ◌∷◌, ◌++◌, length, take, drop, codes, nat_le, refl, sym, ap, ap₂, subst, ◌∙◌, arith, inl, inr, one-add}
use Rattle.std.specs.Char.{is_ascii_uppercase}
use Rattle.std.specs.List.{prefix_len, position_or_len}
use Rattle.std.proofs.lemmas.Bool.{cases_Bool, and_parts, leb-true, not-true}
use Rattle.std.proofs.lemmas.List.{length-drop}
use Rattle.std.proofs.lemmas.Bool.Decides.{Decides-eqb}
use Rattle.x12_envelopes.specs.declared.delimiters.Delims.{Delims}
use Rattle.x12_envelopes.specs.declared.source.Source.{Source}
use Rattle.x12_envelopes.specs.declared.content.Kind.TheVariants.{Data}
use Rattle.x12_envelopes.specs.declared.content.Level.TheVariants.{InSet}
use Rattle.std.specs.Prelude.{None}
use Rattle.x12_envelopes.specs.Letter.{is_one_of}
use Rattle.x12_envelopes.specs.Byte.{byte_is_line_end}
use Rattle.x12_envelopes.specs.Content.{kind_of_segment, kind_of_name}
use Rattle.x12_envelopes.specs.Segment.{PlacedSegment, place_piece, element_of}
use Rattle.x12_envelopes.specs.Outline.{fault_of_segment}
use Rattle.x12_envelopes.specs.Reading.{IsCut, IsNext}
use Rattle.x12_envelopes.specs.PlainData.{letter_begins_data, bytes_begin_data, IsNextData}
use Rattle.x12_envelopes.proofs.ElementLemmas.{identifier_is}
use Rattle.x12_envelopes.proofs.FirstFaultLemmas.{no_control}
use Rattle.x12_envelopes.proofs.PlainLemmas.{any_low, plain_part}
use Rattle.x12_envelopes.proofs.SegmentLemmas.{next_segment, place, place_is}

-- what a letter that begins data is not
record IsOther (b : ℕ) : Type 0 where
  g : (b == 71) ≡ false
  i : (b == 73) ≡ false
  s : (b == 83) ≡ false
  t : (b == 84) ≡ false

none_of : (b : ℕ) (g i s t : Bool) → (b == 71) ≡ g → (b == 73) ≡ i → (b == 83) ≡ s → (b == 84) ≡ t → not (g || (i || (s || (t || false)))) ≡ true → IsOther b
none_of b true i s t eg ei es et e = absurd (cc)
none_of b false true s t eg ei es et e = absurd (cc)
none_of b false false true t eg ei es et e = absurd (cc)
none_of b false false false true eg ei es et e = absurd (cc)
none_of b false false false false eg ei es et e = record { g = eg; i = ei; s = es; t = et }

-- an identifier that begins with another letter is one of data
data_name : (b : ℕ) (more : List ℕ) → IsOther b → kind_of_name (b ∷ more) ≡ Data
unfolding kind_of_name
data_name b more o = rw (o.g, o.i, o.s, o.t) refl

-- the identifier begins with the segment's first byte, where that isn't the separator
named : (d : Delims) (b : ℕ) (more : List ℕ) → (b == d.element) ≡ false → element_of d (b ∷ more) 0 ≡ b ∷ take (position_or_len (λ c. c == d.element) more) more
named d b more other = sym (identifier_is d (b ∷ more)) ∙ rw (other, one-add) refl

kind_is_data : (d : Delims) (b : ℕ) (more : List ℕ) → IsOther b → (b == d.element) ≡ false → kind_of_segment d (b ∷ more) ≡ Data
unfolding kind_of_segment
kind_is_data d b more o other = ap kind_of_name (named d b more other) ∙ data_name b _ o

-- a capital letter is no line end
no_line_end : (b : ℕ) → 65 ≤ b → byte_is_line_end b ≡ false
no_line_end b high = elim (cases_Bool (b == 13)) [
  | inl cr ↦ absurd (omega (arith, (Decides-eqb b 13).0 cr))
  | inr other ↦ elim (cases_Bool (b == 10)) [
    | inl lf ↦ absurd (omega (arith, (Decides-eqb b 10).0 lf))
    | inr neither ↦ rw (other, neither) refl
  ]
]

-- bytes that begin with a letter of data, cut at the first terminator
record BeginsData (d : Delims) (piece : List ℕ) : Type 0 where
  first : ℕ
  more : List ℕ
  is : piece ≡ first ∷ more
  letter : IsOther first
  above : 65 ≤ first
  apart : (first == d.element) ≡ false

same_first : (t b : ℕ) (bytes piece back : List ℕ) → (b == t) ≡ false → b ∷ bytes ≡ piece ++ t ∷ back → piece ≡ b ∷ drop 1 piece
same_first t b bytes [] back other whole =
    let same : b ≡ t = cc in
    absurd (let e : (t == t) ≡ false = ap (λ c. c == t) (sym same) ∙ other in let y : (t == t) ≡ true = (Decides-eqb t t).1 refl in cc)
same_first t b bytes (x ∷ xs) back other whole =
    let same : x ≡ b = cc in
    ap (λ y. y ∷ xs) same

begins : (d : Delims) (rest piece back : List ℕ) → bytes_begin_data d rest ≡ true → rest ≡ piece ++ d.terminator ∷ back → BeginsData d piece
begins d [] piece back e whole = absurd (cc)
begins d (b ∷ bytes) piece back e whole =
    let outer = and_parts (letter_begins_data b && not (b == d.element)) (not (b == d.terminator)) e in
    let letter = and_parts (letter_begins_data b) (not (b == d.element)) outer.0 in
    let inner = and_parts (is_ascii_uppercase b) (not (is_one_of (codes "GIST") b)) letter.0 in
    let capital = and_parts (nat_le 65 b) (nat_le b 90) inner.0 in
    record {
      first = b;
      more = drop 1 piece;
      is = same_first d.terminator b bytes piece back (not-true (b == d.terminator) outer.1) whole;
      letter = none_of b (b == 71) (b == 73) (b == 83) (b == 84) refl refl refl refl inner.1;
      above = leb-true 65 b capital.0;
      apart = not-true (b == d.element) letter.1;
    }

begun : (d : Delims) (part : List ℕ) → bytes_begin_data d part ≡ true → BeginsData d part
begun d [] e = absurd (cc)
begun d (b ∷ bytes) e =
    let outer = and_parts (letter_begins_data b && not (b == d.element)) (not (b == d.terminator)) e in
    let letter = and_parts (letter_begins_data b) (not (b == d.element)) outer.0 in
    let inner = and_parts (is_ascii_uppercase b) (not (is_one_of (codes "GIST") b)) letter.0 in
    let capital = and_parts (nat_le 65 b) (nat_le b 90) inner.0 in
    record {
      first = b;
      more = bytes;
      is = refl;
      letter = none_of b (b == 71) (b == 73) (b == 83) (b == 84) refl refl refl refl inner.1;
      above = leb-true 65 b capital.0;
      apart = not-true (b == d.element) letter.1;
    }

-- no line ends stand in front of it
stands : (at first : ℕ) (more piece : List ℕ) → piece ≡ first ∷ more → 65 ≤ first → place_piece at piece ≡ place at piece
stands at first more piece is above =
    let none : prefix_len byte_is_line_end piece ≡ 0 = ap (prefix_len byte_is_line_end) is ∙ rw (no_line_end first above) refl in
    ap₂ place (omega (arith, none)) (ap (λ n. drop n piece) none)

-- the next segment is one of data
pub data_next : (s : Source) (at : ℕ) (rest piece back : List ℕ) → at ≤ length s.input.now → rest ≡ drop at s.input.now → bytes_begin_data s.delims rest ≡ true → IsCut s.delims.terminator rest piece back → any_low s.input.now ≡ false → IsNextData s at (at + length piece + 1)
data_next s at rest piece back within is begin cut low =
    let d = s.delims in
    let b = begins d rest piece back begin cut.whole in
    let cut_there = subst (λ l. IsCut d.terminator l piece back) is cut in
    record {
      place = at;
      bytes = piece;
      next = subst (λ (p : PlacedSegment). IsNext d s.input.now at p) (stands at b.first b.more piece b.is b.above) (next_segment d s.input.now at piece back within cut_there);
      kind = ap (kind_of_segment d) b.is ∙ kind_is_data d b.first b.more b.letter b.apart;
      plain = plain_part s.input.now rest piece back piece at 0 d.terminator is cut refl low;
      ends = refl;
    }

-- the same where line ends were skipped, and the kind is known
pub known_data_next : (s : Source) (at : ℕ) (rest piece back : List ℕ) (skipped : ℕ) (part : List ℕ) → at ≤ length s.input.now → rest ≡ drop at s.input.now → IsCut s.delims.terminator rest piece back → skipped ≡ prefix_len byte_is_line_end piece → skipped ≤ length piece → part ≡ drop skipped piece → kind_of_segment s.delims part ≡ Data → any_low part ≡ false → IsNextData s at (at + length piece + 1)
known_data_next s at rest piece back skipped part within is cut count high is_part kind low =
    let d = s.delims in
    let cut_there = subst (λ l. IsCut d.terminator l piece back) is cut in
    let size : length part ≡ length piece - skipped = ap length is_part ∙ length-drop skipped piece in
    record {
      place = at + skipped;
      bytes = part;
      next = subst (λ (p : PlacedSegment). IsNext d s.input.now at p) (sym (place_is at skipped piece part count is_part)) (next_segment d s.input.now at piece back within cut_there);
      kind = kind;
      plain = low;
      ends = omega (arith, size, high);
    }

-- and where its first byte tells the kind
pub any_data_next : (s : Source) (at : ℕ) (rest piece back : List ℕ) (skipped : ℕ) (part : List ℕ) → at ≤ length s.input.now → rest ≡ drop at s.input.now → IsCut s.delims.terminator rest piece back → skipped ≡ prefix_len byte_is_line_end piece → skipped ≤ length piece → part ≡ drop skipped piece → bytes_begin_data s.delims part ≡ true → any_low part ≡ false → IsNextData s at (at + length piece + 1)
any_data_next s at rest piece back skipped part within is cut count high is_part begin low =
    let b = begun s.delims part begin in
    known_data_next s at rest piece back skipped part within is cut count high is_part (ap (kind_of_segment s.delims) b.is ∙ kind_is_data s.delims b.first b.more b.letter b.apart) low

-- a segment of data without a byte below 0x20 has no fault in a transaction set
pub data_is_sound : (d : Delims) (groups sets : ℕ) (s : PlacedSegment) → kind_of_segment d s.bytes ≡ Data → any_low s.bytes ≡ false → fault_of_segment d InSet groups sets s ≡ None
unfolding fault_of_segment
data_is_sound d groups sets s kind plain = rw (no_control d s.bytes plain, kind) refl
