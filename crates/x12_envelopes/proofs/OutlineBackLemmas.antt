-- The outline of a written interchange is read back.
use Rattle.std.proofs.Common.{◌≡◌, ℕ, ◌+◌, ◌≤◌, true, ◌&&◌, List, [], ◌∷◌, ◌++◌, length, drop, flat_map, map, None, Some, Ok, refl, sym, ap, ap₂, ◌∙◌, arith, append_assoc, append-nil, length-append}
use Rattle.std.specs.List.{list_all, sum_by}
use Rattle.std.proofs.lemmas.Bool.{leb-true, and_parts}
use Rattle.std.proofs.lemmas.List.Folds.{list_all-append}
use Rattle.std.proofs.lemmas.Grind.{flat_map-append}
use Rattle.x12_envelopes.specs.declared.delimiters.Delims.{Delims}
use Rattle.x12_envelopes.specs.declared.content.Kind.TheVariants.{Iea}
use Rattle.x12_envelopes.specs.declared.content.Level.TheVariants.{Front}
use Rattle.x12_envelopes.specs.Delimiters.{bytes_are_delimiters}
use Rattle.x12_envelopes.specs.Segment.{Segment, segment_text, text_of, segments_from}
use Rattle.x12_envelopes.specs.Content.{ta1_of}
use Rattle.x12_envelopes.specs.Shape.{Interchange}
use Rattle.x12_envelopes.specs.Outline.{first_fault, interchange_of, with_ta1, with_group, outline_of}
use Rattle.x12_envelopes.specs.Envelope.{WrittenSet, WrittenGroup, WrittenInterchange, set_segments, group_segments, se_segment, ge_segment, isa_segment, iea_segment, written}
use Rattle.x12_envelopes.specs.Fitting.{segment_is_writable, joined, ta1_is_writable, data_is_writable, set_is_writable, group_is_writable, interchange_is_within_limits, interchange_fits}
use Rattle.x12_envelopes.specs.RoundTrip.{written_group_outline, written_outline}
use Rattle.x12_envelopes.proofs.ContentLemmas.{nth_joined}
use Rattle.x12_envelopes.proofs.PlacedLemmas.{placed, segments_placed}
use Rattle.x12_envelopes.proofs.NumberLemmas.{number_decimal, number_padded}
use Rattle.x12_envelopes.proofs.WrittenLengthLemmas.{header_length, written_is}
use Rattle.x12_envelopes.proofs.HeaderBackLemmas.{fitting}
use Rattle.x12_envelopes.proofs.WrittenKindLemmas.{Written, ta1_written, gs_written, st_written, data_written, se_written, ge_written, iea_written}
use Rattle.x12_envelopes.proofs.WrittenFaultLemmas.{short_sets, short_groups, set_parts, group_parts, clean_tas, clean_groups, clean_iea}
use Rattle.x12_envelopes.proofs.WrittenOutlineLemmas.{past, past_is, text_size, drop_past, group_reads}

-- Each segment can be written.

all_data : (d : Delims) (ss : List Segment) → list_all (data_is_writable d) ss ≡ true → list_all (segment_is_writable d) ss ≡ true
all_data d [] held = refl
all_data d (s ∷ ss) held = let h = and_parts _ _ held in rw ((data_written d s h.0).segment, all_data d ss h.1) refl

pub all_tas : (d : Delims) (ss : List Segment) → list_all (ta1_is_writable d) ss ≡ true → list_all (segment_is_writable d) ss ≡ true
all_tas d [] held = refl
all_tas d (s ∷ ss) held = let h = and_parts _ _ held in rw ((ta1_written d s h.0).0.segment, all_tas d ss h.1) refl

pub joined_all : (d : Delims) (ss ts : List Segment) → list_all (segment_is_writable d) ss ≡ true → list_all (segment_is_writable d) ts ≡ true → list_all (segment_is_writable d) (ss ++ ts) ≡ true
joined_all d ss ts a b = list_all-append (segment_is_writable d) ss ts ∙ ap₂ (λ x y. x && y) a b

all_sets : (d : Delims) (ss : List WrittenSet) → bytes_are_delimiters d ≡ true → list_all (set_is_writable d) ss ≡ true → short_sets ss → list_all (segment_is_writable d) (flat_map set_segments ss) ≡ true
all_sets d [] good held small = refl
all_sets d (s ∷ ss) good held small =
    let h = and_parts _ _ held in
    let parts = set_parts d s h.0 in
    let se = se_written d s good parts.0 small.0 in
    let body = joined_all d s.segments (se_segment s ∷ []) (all_data d s.segments parts.1) (ap₂ (λ x y. x && y) se.segment refl) in
    joined_all d (set_segments s) (flat_map set_segments ss) (ap₂ (λ x y. x && y) (st_written d s.header parts.0).0.segment body) (all_sets d ss good h.1 small.1)

-- each group has few sets
abbrev pub few_sets : List WrittenGroup → Type 0
few_sets [] = Unit {0}
few_sets (g ∷ gs) = (length g.sets ≤ 999999999) × few_sets gs

pub all_groups : (d : Delims) (gs : List WrittenGroup) → bytes_are_delimiters d ≡ true → list_all (group_is_writable d) gs ≡ true → short_groups gs → few_sets gs → list_all (segment_is_writable d) (flat_map group_segments gs) ≡ true
all_groups d [] good held small few = refl
all_groups d (g ∷ gs) good held small few =
    let h = and_parts _ _ held in
    let parts = group_parts d g h.0 in
    let ge = ge_written d g good parts.0 few.0 in
    let body = joined_all d (flat_map set_segments g.sets) (ge_segment g ∷ []) (all_sets d g.sets good parts.1 small.0) (ap₂ (λ x y. x && y) ge.segment refl) in
    joined_all d (group_segments g) (flat_map group_segments gs) (ap₂ (λ x y. x && y) (gs_written d g.header parts.0).0.segment body) (all_groups d gs good h.1 small.1 few.1)

-- Each list of segments is no longer than the written text.

pub few_segments : (d : Delims) (ss : List Segment) → length ss ≤ length (text_of d ss)
few_segments d [] = omega arith
few_segments d (s ∷ ss) = omega (arith, few_segments d ss, text_size d s, length-append (segment_text d s) (text_of d ss))

sets_short : (ss : List WrittenSet) → length (flat_map set_segments ss) ≤ 1048576 → short_sets ss
sets_short [] le = tt
sets_short (s ∷ ss) le =
    let all = length-append (set_segments s) (flat_map set_segments ss) in
    let one = length-append s.segments (se_segment s ∷ []) in
    (omega (arith, le, all, one), sets_short ss (omega (arith, le, all)))

pub groups_short : (gs : List WrittenGroup) → length (flat_map group_segments gs) ≤ 1048576 → short_groups gs
groups_short [] le = tt
groups_short (g ∷ gs) le =
    let all = length-append (group_segments g) (flat_map group_segments gs) in
    let one = length-append (flat_map set_segments g.sets) (ge_segment g ∷ []) in
    (sets_short g.sets (omega (arith, le, all, one)), groups_short gs (omega (arith, le, all)))

sets_le : (ss : List WrittenSet) → length ss ≤ length (flat_map set_segments ss)
sets_le [] = omega arith
sets_le (s ∷ ss) = omega (arith, sets_le ss, length-append (set_segments s) (flat_map set_segments ss))

pub sets_few : (gs : List WrittenGroup) → length (flat_map group_segments gs) ≤ 1048576 → few_sets gs
sets_few [] le = tt
sets_few (g ∷ gs) le =
    let all = length-append (group_segments g) (flat_map group_segments gs) in
    let one = length-append (flat_map set_segments g.sets) (ge_segment g ∷ []) in
    (omega (arith, le, all, one, sets_le g.sets), sets_few gs (omega (arith, le, all)))

-- What they make up.

iea_reads : (x : WrittenInterchange) (input : List ℕ) (at : ℕ) → Written x.delims (iea_segment x) Iea → x.icn ≤ 999999999 → length x.groups ≤ 999999999 → interchange_of x.delims input (placed x.delims at (iea_segment x ∷ [])) ≡ record { tas = []; groups = []; count = Some (length x.groups); trailer = Some x.icn }
unfolding interchange_of
iea_reads x input at w number few =
    rw (w.kind, nth_joined x.delims (iea_segment x) w.segment 1, nth_joined x.delims (iea_segment x) w.segment 2, number_decimal (length x.groups) few, number_padded x.icn number) refl

groups_read : (d : Delims) (input : List ℕ) (gs : List WrittenGroup) (iea : Segment) (end : Interchange) (at : ℕ) → bytes_are_delimiters d ≡ true → list_all (group_is_writable d) gs ≡ true → short_groups gs → few_sets gs → ((at : ℕ) → interchange_of d input (placed d at (iea ∷ [])) ≡ end) → drop at input ≡ text_of d (flat_map group_segments gs ++ iea ∷ []) → interchange_of d input (placed d at (flat_map group_segments gs ++ iea ∷ [])) ≡ record end { groups = map (written_group_outline d) gs ++ end.groups }
groups_read d input [] iea end at good held small few last stands = last at
groups_read d input (g ∷ gs) iea end at good held small few last stands =
    let h = and_parts _ _ held in
    let tail = flat_map group_segments gs ++ iea ∷ [] in
    let list : (group_segments g ++ flat_map group_segments gs) ++ iea ∷ [] ≡ group_segments g ++ tail = append_assoc (group_segments g) (flat_map group_segments gs) (iea ∷ []) in
    let stands' = stands ∙ ap (text_of d) list in
    let next = drop_past input (text_of d (group_segments g)) (text_of d tail) at (past d at (group_segments g)) (stands' ∙ flat_map-append (segment_text d) (group_segments g) tail) (past_is d at (group_segments g)) in
    ap (λ xs. interchange_of d input (placed d at xs)) list
    ∙ group_reads d input g tail at good h.0 small.0 few.0 stands'
    ∙ ap (with_group (written_group_outline d g)) (groups_read d input gs iea end (past d at (group_segments g)) good h.1 small.1 few.1 last next)

tas_read : (d : Delims) (input : List ℕ) (tas more : List Segment) (at : ℕ) → list_all (ta1_is_writable d) tas ≡ true → interchange_of d input (placed d at (tas ++ more)) ≡ record (interchange_of d input (placed d (past d at tas) more)) { tas = map (λ s. ta1_of d (joined d s)) tas ++ (interchange_of d input (placed d (past d at tas) more)).tas }
unfolding interchange_of
tas_read d input [] more at held = refl
tas_read d input (s ∷ tas) more at held =
    let h = and_parts _ _ held in
    rw (ta1_written d s h.0).0.kind (ap (with_ta1 (joined d s) d) (tas_read d input tas more (at + length (joined d s) + 1) h.1))

outline_from : (d : Delims) (input text : List ℕ) (ss : List Segment) (outline : Interchange) → drop 106 input ≡ text_of d ss → bytes_are_delimiters d ≡ true → list_all (segment_is_writable d) ss ≡ true → first_fault d Front 0 0 (placed d 106 ss) ≡ None → interchange_of d input (placed d 106 ss) ≡ outline → outline_of d input ≡ Ok outline
unfolding outline_of
outline_from d input text ss outline stands good held clean is =
    let segments : segments_from d 106 (drop 106 input) ≡ placed d 106 ss = ap (segments_from d 106) stands ∙ segments_placed d 106 ss good held in
    rw (segments, clean, is) refl

pub record Limits (x : WrittenInterchange) : Type 0 where
  pub groups : length x.groups ≤ 32
  pub sets : sum_by (λ (g : WrittenGroup). length g.sets) x.groups ≤ 400

pub limits : (x : WrittenInterchange) → interchange_is_within_limits x ≡ true → Limits x
unfolding interchange_is_within_limits
limits x held =
    let a = and_parts _ _ held in
    let b = and_parts _ _ a.0 in
    record { groups = leb-true (length x.groups) 32 b.0; sets = leb-true (sum_by (λ (g : WrittenGroup). length g.sets) x.groups) 400 b.1 }

pub outline_back : (x : WrittenInterchange) → interchange_fits x ≡ true → outline_of x.delims (written x) ≡ Ok (written_outline x)
outline_back x held =
    let f = fitting x held in
    let d = x.delims in
    let input = written x in
    let most = limits x f.limits in
    let groups = flat_map group_segments x.groups in
    let tail = groups ++ iea_segment x ∷ [] in
    let isa = segment_text d (isa_segment x) in
    let texts : text_of d x.tas ++ (text_of d groups ++ segment_text d (iea_segment x)) ≡ text_of d (x.tas ++ tail) =
    sym (flat_map-append (segment_text d) x.tas tail ∙ ap (λ xs. text_of d x.tas ++ xs) (flat_map-append (segment_text d) groups (iea_segment x ∷ []) ∙ ap (λ xs. text_of d groups ++ xs) (append-nil (segment_text d (iea_segment x))))) in
    let whole : drop 0 input ≡ isa ++ text_of d (x.tas ++ tail) = written_is x ∙ ap (λ xs. isa ++ xs) texts in
    let stands : drop 106 input ≡ text_of d (x.tas ++ tail) = drop_past input isa (text_of d (x.tas ++ tail)) 0 106 whole (omega (arith, header_length x f.sizes f.number)) in
    let size : length (flat_map group_segments x.groups) ≤ 1048576 =
    omega (arith, f.short, ap length whole, length-append isa (text_of d (x.tas ++ tail)), few_segments d (x.tas ++ tail), length-append x.tas tail, length-append groups (iea_segment x ∷ [])) in
    let short = groups_short x.groups size in
    let few = sets_few x.groups size in
    let iea = iea_written x f.good f.number (omega (arith, most.groups)) in
    let all = joined_all d x.tas tail (all_tas d x.tas f.tas) (joined_all d groups (iea_segment x ∷ []) (all_groups d x.groups f.good f.groups short few) (ap₂ (λ x y. x && y) iea.segment refl)) in
    let clean = clean_tas d x.tas tail 0 0 f.tas (clean_groups d x.groups (iea_segment x ∷ []) Front 0 0 f.good f.groups short (omega (arith, most.groups)) (omega (arith, most.sets)) (λ level n m. clean_iea d (iea_segment x) level n m iea)) 106 in
    let behind = drop_past input (text_of d x.tas) (text_of d tail) 106 (past d 106 x.tas) (stands ∙ flat_map-append (segment_text d) x.tas tail) (past_is d 106 x.tas) in
    let read = groups_read d input x.groups (iea_segment x) _ (past d 106 x.tas) f.good f.groups short few (λ at. iea_reads x input at iea f.number (omega (arith, most.groups))) behind in
    outline_from d input [] (x.tas ++ tail) (written_outline x) stands f.good all clean
    (tas_read d input x.tas tail 106 f.tas ∙ rw (read, append-nil (map (written_group_outline d) x.groups), append-nil (map (λ s. ta1_of d (joined d s)) x.tas)) refl)
