-- What the segments of an interchange that fits make up.
use Rattle.std.proofs.Common.{◌≡◌, ℕ, ◌+◌, ◌≤◌, true, false, List, [], ◌∷◌, ◌++◌, length, take, drop, flat_map, map, Some, slice_range, refl, sym, ap, ap₂, ◌∙◌, arith, append_assoc, length-append}
use Rattle.std.specs.List.{list_all}
use Rattle.std.proofs.lemmas.List.{length-map, drop-drop}
use Rattle.std.proofs.Math.Seq.{take-append_seam, drop-append_seam}
use Rattle.std.proofs.lemmas.Grind.{flat_map-append}
use Rattle.x12_envelopes.specs.declared.delimiters.Delims.{Delims}
use Rattle.x12_envelopes.specs.declared.content.Kind.{Kind}
use Rattle.x12_envelopes.specs.declared.content.Kind.TheVariants.{St, Data, Se, Ge, Gs, Iea, Ta1}
use Rattle.x12_envelopes.specs.Delimiters.{bytes_are_delimiters}
use Rattle.x12_envelopes.specs.Segment.{Segment, segment_text, text_of}
use Rattle.x12_envelopes.specs.Content.{kind_of_segment, set_trailer_of, group_trailer_of}
use Rattle.x12_envelopes.specs.Outline.{GroupRest, set_rest, transaction_set_of, with_sets, group_rest, functional_group_of, with_group, interchange_of, offset_behind, is_kind}
use Rattle.x12_envelopes.specs.Envelope.{WrittenSet, WrittenGroup, set_segments, group_segments, se_segment, ge_segment}
use Rattle.x12_envelopes.specs.Fitting.{joined, data_is_writable, set_is_writable, group_is_writable}
use Rattle.x12_envelopes.specs.RoundTrip.{written_set_outline, written_group_outline}
use Rattle.std.proofs.lemmas.Bool.{and_parts}
use Rattle.x12_envelopes.proofs.ContentLemmas.{nth_joined}
use Rattle.x12_envelopes.proofs.PlacedLemmas.{placed}
use Rattle.x12_envelopes.proofs.NumberLemmas.{number_decimal}
use Rattle.x12_envelopes.proofs.WrittenKindLemmas.{Written, gs_written, st_written, data_written, se_written, ge_written}
use Rattle.x12_envelopes.proofs.WrittenFaultLemmas.{short_sets, set_parts, group_parts}

-- the place behind written segments
abbrev pub past : Delims → ℕ → List Segment → ℕ
past d at [] = at
past d at (s ∷ ss) = past d (at + length (joined d s) + 1) ss

pub text_size : (d : Delims) (s : Segment) → length (segment_text d s) ≡ length (joined d s) + 1
unfolding segment_text joined
text_size d [] = refl
text_size d (e ∷ es) = length-append (joined d (e ∷ es)) (d.terminator ∷ [])

pub past_is : (d : Delims) (at : ℕ) (ss : List Segment) → past d at ss ≡ at + length (text_of d ss)
past_is d at [] = omega arith
past_is d at (s ∷ ss) =
    past_is d (at + length (joined d s) + 1) ss
    ∙ omega (arith, text_size d s, length-append (segment_text d s) (text_of d ss))

past_more : (d : Delims) (at : ℕ) (ss ts : List Segment) → past d at (ss ++ ts) ≡ past d (past d at ss) ts
past_more d at [] ts = refl
past_more d at (s ∷ ss) ts = past_more d (at + length (joined d s) + 1) ss ts

-- an open set: data, then SE
set_closes : (d : Delims) (segments : List Segment) (se : Segment) (more : List Segment) (place at : ℕ) → list_all (data_is_writable d) segments ≡ true → Written d se Se → set_rest d place (placed d at (segments ++ se ∷ more)) ≡ record { parts = map (joined d) (segments ++ se ∷ []); place = past d at (segments ++ se ∷ []); trailer = Some (joined d se); rest = placed d (past d at (segments ++ se ∷ [])) more }
unfolding set_rest
set_closes d [] se more place at held w = rw w.kind refl
set_closes d (s ∷ segments) se more place at held w =
    let h = and_parts _ _ held in
    let s' = data_written d s h.0 in
    rw (s'.kind, set_closes d segments se more (at + length (joined d s) + 1) (at + length (joined d s) + 1) h.1 w) refl

-- a segment that ends no group and opens no set
data_passes : (d : Delims) (input : List ℕ) (s : Segment) (ss : List Segment) (at : ℕ) → Written d s Data → group_rest d input (placed d at (s ∷ ss)) ≡ group_rest d input (placed d (at + length (joined d s) + 1) ss)
unfolding group_rest
data_passes d input s ss at w = rw w.kind refl

se_passes : (d : Delims) (input : List ℕ) (s : Segment) (ss : List Segment) (at : ℕ) → Written d s Se → group_rest d input (placed d at (s ∷ ss)) ≡ group_rest d input (placed d (at + length (joined d s) + 1) ss)
unfolding group_rest
se_passes d input s ss at w = rw w.kind refl

body_passes : (d : Delims) (input : List ℕ) (segments : List Segment) (se : Segment) (more : List Segment) (at : ℕ) → list_all (data_is_writable d) segments ≡ true → Written d se Se → group_rest d input (placed d at (segments ++ se ∷ more)) ≡ group_rest d input (placed d (past d at (segments ++ se ∷ [])) more)
body_passes d input [] se more at held w = se_passes d input se more at w
body_passes d input (s ∷ segments) se more at held w =
    let h = and_parts _ _ held in
    data_passes d input s (segments ++ se ∷ more) at (data_written d s h.0) ∙ body_passes d input segments se more (at + length (joined d s) + 1) h.1 w

-- bytes that stand at a place
slice_at : (input front offset_behind : List ℕ) (at past : ℕ) → drop at input ≡ front ++ offset_behind → past ≡ at + length front → slice_range input at past ≡ front
slice_at input front offset_behind at past is place =
    ap₂ take (omega (arith, place)) is ∙ take-append_seam front offset_behind

pub drop_past : (input front offset_behind : List ℕ) (at past : ℕ) → drop at input ≡ front ++ offset_behind → past ≡ at + length front → drop past input ≡ offset_behind
drop_past input front offset_behind at past is place =
    ap (λ n. drop n input) place ∙ sym (drop-drop (length front) at input) ∙ ap (drop (length front)) is ∙ drop-append_seam front offset_behind

-- a transaction set, from its ST on
set_reads : (d : Delims) (input : List ℕ) (s : WrittenSet) (more : List Segment) (at : ℕ) → bytes_are_delimiters d ≡ true → set_is_writable d s ≡ true → length s.segments + 2 ≤ 999999999 → drop at input ≡ text_of d (set_segments s ++ more) → transaction_set_of d input (record { at = at; bytes = joined d s.header }) (set_rest d (at + length (joined d s.header) + 1) (placed d (at + length (joined d s.header) + 1) (s.segments ++ se_segment s ∷ more))) ≡ written_set_outline d s
unfolding transaction_set_of set_trailer_of
set_reads d input s more at good held small stands =
    let parts = set_parts d s held in
    let st = (st_written d s.header parts.0).0 in
    let se = se_written d s good parts.0 small in
    let next = at + length (joined d s.header) + 1 in
    let bytes = slice_at input (text_of d (set_segments s)) (text_of d more) at (past d next (s.segments ++ se_segment s ∷ [])) (stands ∙ flat_map-append (segment_text d) (set_segments s) more) (past_is d at (set_segments s)) in
    let count : 1 + length (map (joined d) (s.segments ++ se_segment s ∷ [])) ≡ length s.segments + 2 =
    omega (arith, length-map (s.segments ++ se_segment s ∷ []) (joined d), length-append s.segments (se_segment s ∷ [])) in
    rw (set_closes d s.segments (se_segment s) more next next parts.1 se, nth_joined d s.header st.segment 1, nth_joined d s.header st.segment 2, bytes, count, nth_joined d (se_segment s) se.segment 1, nth_joined d (se_segment s) se.segment 2, number_decimal (length s.segments + 2) small) refl

-- a transaction set in front of the rest of a group
set_in_front : (d : Delims) (input : List ℕ) (s : WrittenSet) (more : List Segment) (at : ℕ) → bytes_are_delimiters d ≡ true → set_is_writable d s ≡ true → length s.segments + 2 ≤ 999999999 → drop at input ≡ text_of d (set_segments s ++ more) → group_rest d input (placed d at (set_segments s ++ more)) ≡ with_sets (written_set_outline d s ∷ []) (group_rest d input (placed d (past d at (set_segments s)) more))
unfolding group_rest
set_in_front d input s more at good held small stands =
    let parts = set_parts d s held in
    let st = (st_written d s.header parts.0).0 in
    let se = se_written d s good parts.0 small in
    let next = at + length (joined d s.header) + 1 in
    let list : (s.segments ++ se_segment s ∷ []) ++ more ≡ s.segments ++ se_segment s ∷ more = append_assoc s.segments (se_segment s ∷ []) more in
    rw (list, st.kind) (ap₂ (λ x r. with_sets (x ∷ []) r) (set_reads d input s more at good held small stands) (body_passes d input s.segments (se_segment s) more next parts.1 se))

record SetsRead (d : Delims) (input : List ℕ) (ss : List WrittenSet) (ge : Segment) (read : GroupRest) : Type 0 where
  sets : read.sets ≡ map (written_set_outline d) ss
  trailer : read.trailer ≡ Some (joined d ge)

sets_read : (d : Delims) (input : List ℕ) (ss : List WrittenSet) (ge : Segment) (more : List Segment) (at : ℕ) → bytes_are_delimiters d ≡ true → list_all (set_is_writable d) ss ≡ true → short_sets ss → Written d ge Ge → drop at input ≡ text_of d (flat_map set_segments ss ++ ge ∷ more) → SetsRead d input ss ge (group_rest d input (placed d at (flat_map set_segments ss ++ ge ∷ more)))
unfolding group_rest
sets_read d input [] ge more at good held small w stands = record { sets = rw w.kind refl; trailer = rw w.kind refl }
sets_read d input (s ∷ ss) ge more at good held small w stands =
    let h = and_parts _ _ held in
    let tail = flat_map set_segments ss ++ ge ∷ more in
    let list : (set_segments s ++ flat_map set_segments ss) ++ ge ∷ more ≡ set_segments s ++ tail = append_assoc (set_segments s) (flat_map set_segments ss) (ge ∷ more) in
    let stands' = stands ∙ ap (text_of d) list in
    let front = set_in_front d input s tail at good h.0 small.0 stands' in
    let next = drop_past input (text_of d (set_segments s)) (text_of d tail) at (past d at (set_segments s)) (stands' ∙ flat_map-append (segment_text d) (set_segments s) tail) (past_is d at (set_segments s)) in
    let r = sets_read d input ss ge more (past d at (set_segments s)) good h.1 small.1 w next in
    let all = ap (λ xs. group_rest d input (placed d at xs)) list ∙ front in
    record {
      sets = ap (λ (g : GroupRest). g.sets) all ∙ ap (λ xs. written_set_outline d s ∷ xs) r.sets;
      trailer = ap (λ (g : GroupRest). g.trailer) all ∙ r.trailer;
    }

-- Segments within a group are passed over on the way to the next one.

record Inner (d : Delims) (s : Segment) : Type 0 where
  ta1 : is_kind Ta1 (kind_of_segment d (joined d s)) ≡ false
  gs : is_kind Gs (kind_of_segment d (joined d s)) ≡ false
  iea : is_kind Iea (kind_of_segment d (joined d s)) ≡ false

abbrev AllInner : Delims → List Segment → Type 0
AllInner d [] = Unit {0}
AllInner d (s ∷ ss) = Inner d s × AllInner d ss

inner_more : (d : Delims) (ss ts : List Segment) → AllInner d ss → AllInner d ts → AllInner d (ss ++ ts)
inner_more d [] ts a b = b
inner_more d (s ∷ ss) ts a b = (a.0, inner_more d ss ts a.1 b)

inner_of : (d : Delims) (s : Segment) (k : Kind) → Written d s k → is_kind Ta1 k ≡ false → is_kind Gs k ≡ false → is_kind Iea k ≡ false → Inner d s
inner_of d s k w a b c = record { ta1 = ap (is_kind Ta1) w.kind ∙ a; gs = ap (is_kind Gs) w.kind ∙ b; iea = ap (is_kind Iea) w.kind ∙ c }

inner_data : (d : Delims) (ss : List Segment) → list_all (data_is_writable d) ss ≡ true → AllInner d ss
inner_data d [] held = tt
inner_data d (s ∷ ss) held =
    let h = and_parts _ _ held in
    (inner_of d s Data (data_written d s h.0) refl refl refl, inner_data d ss h.1)

inner_set : (d : Delims) (s : WrittenSet) → bytes_are_delimiters d ≡ true → set_is_writable d s ≡ true → length s.segments + 2 ≤ 999999999 → AllInner d (set_segments s)
inner_set d s good held small =
    let parts = set_parts d s held in (
      inner_of d s.header St (st_written d s.header parts.0).0 refl refl refl,
      inner_more d s.segments (se_segment s ∷ []) (inner_data d s.segments parts.1) (inner_of d (se_segment s) Se (se_written d s good parts.0 small) refl refl refl, tt),
    )

inner_sets : (d : Delims) (ss : List WrittenSet) → bytes_are_delimiters d ≡ true → list_all (set_is_writable d) ss ≡ true → short_sets ss → AllInner d (flat_map set_segments ss)
inner_sets d [] good held small = tt
inner_sets d (s ∷ ss) good held small =
    let h = and_parts _ _ held in
    inner_more d (set_segments s) (flat_map set_segments ss) (inner_set d s good h.0 small.0) (inner_sets d ss good h.1 small.1)

passed : (d : Delims) (input : List ℕ) (ss more : List Segment) (at : ℕ) → AllInner d ss → interchange_of d input (placed d at (ss ++ more)) ≡ interchange_of d input (placed d (past d at ss) more)
unfolding interchange_of
passed d input [] more at a = refl
passed d input (s ∷ ss) more at a = rw (a.0.ta1, a.0.gs, a.0.iea) (passed d input ss more (at + length (joined d s) + 1) a.1)

-- a functional group in front of what follows
pub group_reads : (d : Delims) (input : List ℕ) (g : WrittenGroup) (more : List Segment) (at : ℕ) → bytes_are_delimiters d ≡ true → group_is_writable d g ≡ true → short_sets g.sets → length g.sets ≤ 999999999 → drop at input ≡ text_of d (group_segments g ++ more) → interchange_of d input (placed d at (group_segments g ++ more)) ≡ with_group (written_group_outline d g) (interchange_of d input (placed d (past d at (group_segments g)) more))
unfolding interchange_of functional_group_of group_trailer_of
group_reads d input g more at good held small few stands =
    let parts = group_parts d g held in
    let gs = (gs_written d g.header parts.0).0 in
    let ge = ge_written d g good parts.0 few in
    let next = at + length (joined d g.header) + 1 in
    let sets = flat_map set_segments g.sets in
    let list : (sets ++ ge_segment g ∷ []) ++ more ≡ sets ++ ge_segment g ∷ more = append_assoc sets (ge_segment g ∷ []) more in
    let here = stands ∙ ap (λ xs. text_of d (g.header ∷ xs)) list in
    let offset_behind = drop_past input (segment_text d g.header) (text_of d (sets ++ ge_segment g ∷ more)) at next here (omega (arith, text_size d g.header)) in
    let read = sets_read d input g.sets (ge_segment g) more next good parts.1 small ge offset_behind in
    let inner = inner_more d sets (ge_segment g ∷ []) (inner_sets d g.sets good parts.1 small) (inner_of d (ge_segment g) Ge ge refl refl refl, tt) in
    let rest = passed d input (sets ++ ge_segment g ∷ []) more next inner in
    rw (gs.kind, rest, list, read.sets, read.trailer, nth_joined d g.header gs.segment 1, nth_joined d g.header gs.segment 2, nth_joined d g.header gs.segment 3, nth_joined d g.header gs.segment 6, nth_joined d g.header gs.segment 8, nth_joined d (ge_segment g) ge.segment 1, nth_joined d (ge_segment g) ge.segment 2, number_decimal (length g.sets) few) refl
