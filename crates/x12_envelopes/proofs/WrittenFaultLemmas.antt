-- An interchange that fits has no fault.
use Rattle.std.proofs.Common.{◌≡◌, ℕ, ◌+◌, ◌<◌, ◌≤◌, true, false, not, ◌||◌, List, [], ◌∷◌, ◌++◌, length, flat_map, None, refl, sym, ap, ap₂, subst, arith, append_assoc}
use Rattle.std.specs.List.{list_all, sum_by}
use Rattle.std.proofs.lemmas.List.Sums.{sum_by-cons}
use Rattle.x12_envelopes.specs.declared.delimiters.Delims.{Delims}
use Rattle.x12_envelopes.specs.declared.content.Kind.{Kind}
use Rattle.x12_envelopes.specs.declared.content.Kind.TheVariants.{Ta1, Gs, St, Data, Se, Ge, Iea}
use Rattle.x12_envelopes.specs.declared.content.Level.{Level}
use Rattle.x12_envelopes.specs.declared.content.Level.TheVariants.{Front, Between, InGroup, InSet}
use Rattle.x12_envelopes.specs.Delimiters.{bytes_are_delimiters}
use Rattle.x12_envelopes.specs.Segment.{Segment}
use Rattle.x12_envelopes.specs.Outline.{level_behind, groups_behind, sets_behind, kind_is_misplaced, segment_is_unreadable, fault_of_segment, first_fault, is_kind}
use Rattle.x12_envelopes.specs.Envelope.{WrittenSet, WrittenGroup, set_segments, group_segments, se_segment, ge_segment}
use Rattle.x12_envelopes.specs.Fitting.{joined, ta1_is_writable, data_is_writable, set_is_writable, group_is_writable, st_is_writable, gs_is_writable}
use Rattle.std.proofs.lemmas.Bool.{and_parts, lt-leb}
use Rattle.x12_envelopes.proofs.PlacedLemmas.{placed, no_control}
use Rattle.x12_envelopes.proofs.WrittenKindLemmas.{Written, ta1_written, gs_written, st_written, data_written, se_written, ge_written, elements_writable}
use Rattle.x12_envelopes.proofs.KindLemmas.{gs_stands, iea_stands}

-- the segments from a place on have no fault, wherever that place is
abbrev pub Clean : Delims → Level → ℕ → ℕ → List Segment → Type 0
Clean d level groups sets ss = (at : ℕ) → first_fault d level groups sets (placed d at ss) ≡ None

no_fault : (d : Delims) (s : Segment) (k : Kind) (level : Level) (groups sets at : ℕ) → Written d s k → kind_is_misplaced level k ≡ false → segment_is_unreadable d groups sets k (joined d s) ≡ false → fault_of_segment d level groups sets (record { at = at; bytes = joined d s }) ≡ None
unfolding fault_of_segment
no_fault d s k level groups sets at w stands readable =
    rw (no_control d s (elements_writable d s w.segment), w.kind, stands, readable) refl

-- a segment without a fault in front
clean_more : (d : Delims) (s : Segment) (k : Kind) (level : Level) (groups sets : ℕ) (ss : List Segment) → Written d s k → kind_is_misplaced level k ≡ false → segment_is_unreadable d groups sets k (joined d s) ≡ false → is_kind Iea k ≡ false → Clean d (level_behind k) (groups_behind groups k) (sets_behind sets k) ss → Clean d level groups sets (s ∷ ss)
unfolding first_fault
clean_more d s k level groups sets [] w stands readable further rest =
    λ at. rw (no_fault d s k level groups sets at w stands readable, w.kind, further) (rest (at + length (joined d s) + 1))
clean_more d s k level groups sets (t ∷ more) w stands readable further rest =
    λ at. rw (no_fault d s k level groups sets at w stands readable, w.kind, further) (rest (at + length (joined d s) + 1))

pub clean_tas : (d : Delims) (tas more : List Segment) (groups sets : ℕ) → list_all (ta1_is_writable d) tas ≡ true → Clean d Front groups sets more → Clean d Front groups sets (tas ++ more)
clean_tas d [] more groups sets held rest = rest
clean_tas d (s ∷ tas) more groups sets held rest =
    let h = and_parts _ _ held in
    let w = ta1_written d s h.0 in
    clean_more d s Ta1 Front groups sets (tas ++ more) w.0 refl (ap not w.1) refl (clean_tas d tas more groups sets h.1 rest)

clean_data : (d : Delims) (segments more : List Segment) (groups sets : ℕ) → list_all (data_is_writable d) segments ≡ true → Clean d InSet groups sets more → Clean d InSet groups sets (segments ++ more)
clean_data d [] more groups sets held rest = rest
clean_data d (s ∷ segments) more groups sets held rest =
    let h = and_parts _ _ held in
    clean_more d s Data InSet groups sets (segments ++ more) (data_written d s h.0) refl refl refl (clean_data d segments more groups sets h.1 rest)

pub set_parts : (d : Delims) (s : WrittenSet) → set_is_writable d s ≡ true → (st_is_writable d s.header ≡ true) × (list_all (data_is_writable d) s.segments ≡ true)
unfolding set_is_writable
set_parts d s held = and_parts _ _ held

pub group_parts : (d : Delims) (g : WrittenGroup) → group_is_writable d g ≡ true → (gs_is_writable d g.header ≡ true) × (list_all (set_is_writable d) g.sets ≡ true)
unfolding group_is_writable
group_parts d g held = and_parts _ _ held

clean_set : (d : Delims) (s : WrittenSet) (more : List Segment) (groups sets : ℕ) → bytes_are_delimiters d ≡ true → set_is_writable d s ≡ true → length s.segments + 2 ≤ 999999999 → sets < 400 → Clean d InGroup groups (sets + 1) more → Clean d InGroup groups sets (set_segments s ++ more)
clean_set d s more groups sets good held small few rest =
    let parts = set_parts d s held in
    let st = st_written d s.header parts.0 in
    let se = se_written d s good parts.0 small in
    let end = clean_more d (se_segment s) Se InSet groups (sets + 1) more se refl refl refl rest in
    let body = clean_data d s.segments (se_segment s ∷ more) groups (sets + 1) parts.1 end in
    let behind = subst (λ xs. Clean d InSet groups (sets + 1) xs) (sym (append_assoc s.segments (se_segment s ∷ []) more)) body in
    clean_more d s.header St InGroup groups sets ((s.segments ++ se_segment s ∷ []) ++ more) st.0 refl (ap₂ (λ x y. not x || y) st.1 (lt-leb 400 sets few)) refl behind

-- each set is short
abbrev pub short_sets : List WrittenSet → Type 0
short_sets [] = Unit {0}
short_sets (s ∷ sets) = (length s.segments + 2 ≤ 999999999) × short_sets sets

pub clean_sets : (d : Delims) (ss : List WrittenSet) (more : List Segment) (groups sets : ℕ) → bytes_are_delimiters d ≡ true → list_all (set_is_writable d) ss ≡ true → short_sets ss → sets + length ss ≤ 400 → Clean d InGroup groups (sets + length ss) more → Clean d InGroup groups sets (flat_map set_segments ss ++ more)
clean_sets d [] more groups sets good held small few rest = subst (λ n. Clean d InGroup groups n more) (omega arith) rest
clean_sets d (s ∷ ss) more groups sets good held small few rest =
    let h = and_parts _ _ held in
    let behind = clean_sets d ss more groups (sets + 1) good h.1 small.1 (omega (arith, few)) (subst (λ n. Clean d InGroup groups n more) (omega arith) rest) in
    subst (λ xs. Clean d InGroup groups sets xs) (sym (append_assoc (set_segments s) (flat_map set_segments ss) more))
    (clean_set d s (flat_map set_segments ss ++ more) groups sets good h.0 small.0 (omega (arith, few)) behind)

pub clean_group : (d : Delims) (g : WrittenGroup) (more : List Segment) (level : Level) (groups sets : ℕ) → bytes_are_delimiters d ≡ true → group_is_writable d g ≡ true → short_sets g.sets → groups < 32 → sets + length g.sets ≤ 400 → Clean d Between (groups + 1) (sets + length g.sets) more → Clean d level groups sets (group_segments g ++ more)
clean_group d g more level groups sets good held small few room rest =
    let parts = group_parts d g held in
    let gs = gs_written d g.header parts.0 in
    let ge = ge_written d g good parts.0 (omega (arith, room)) in
    let end = clean_more d (ge_segment g) Ge InGroup (groups + 1) (sets + length g.sets) more ge refl refl refl rest in
    let body = clean_sets d g.sets (ge_segment g ∷ more) (groups + 1) sets good parts.1 small room end in
    let behind = subst (λ xs. Clean d InGroup (groups + 1) sets xs) (sym (append_assoc (flat_map set_segments g.sets) (ge_segment g ∷ []) more)) body in
    clean_more d g.header Gs level groups sets ((flat_map set_segments g.sets ++ ge_segment g ∷ []) ++ more) gs.0 (gs_stands level) (ap₂ (λ x y. not x || y) gs.1 (lt-leb 32 groups few)) refl behind

abbrev pub short_groups : List WrittenGroup → Type 0
short_groups [] = Unit {0}
short_groups (g ∷ groups) = short_sets g.sets × short_groups groups

pub clean_groups : (d : Delims) (gs : List WrittenGroup) (more : List Segment) (level : Level) (groups sets : ℕ) → bytes_are_delimiters d ≡ true → list_all (group_is_writable d) gs ≡ true → short_groups gs → groups + length gs ≤ 32 → sets + sum_by (λ (g : WrittenGroup). length g.sets) gs ≤ 400 → ((end : Level) (n m : ℕ) → Clean d end n m more) → Clean d level groups sets (flat_map group_segments gs ++ more)
clean_groups d [] more level groups sets good held small few room rest = rest level groups sets
clean_groups d (g ∷ gs) more level groups sets good held small few room rest =
    let h = and_parts _ _ held in
    let one = sum_by-cons (λ (g : WrittenGroup). length g.sets) g gs in
    let behind = clean_groups d gs more Between (groups + 1) (sets + length g.sets) good h.1 small.1 (omega (arith, few)) (omega (arith, room, one)) rest in
    subst (λ xs. Clean d level groups sets xs) (sym (append_assoc (group_segments g) (flat_map group_segments gs) more))
    (clean_group d g (flat_map group_segments gs ++ more) level groups sets good h.0 small.0 (omega (arith, few)) (omega (arith, room, one)) behind)

pub clean_iea : (d : Delims) (s : Segment) (level : Level) (groups sets : ℕ) → Written d s Iea → Clean d level groups sets (s ∷ [])
unfolding first_fault
clean_iea d s level groups sets w = λ at. rw (no_fault d s Iea level groups sets at w (iea_stands level) refl, w.kind) refl
