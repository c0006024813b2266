-- What a ledger holds once it settled an arrival's evidence: the open entries of the history then, each as it was scheduled.
use Rattle.std.specs.Prelude.{◌≡◌, ℕ, suc, ◌+◌, ◌-◌, ◌<◌, List, [], ◌∷◌, Bool, false, map, Option, Some, None, option_map, option_and_then, slice_get, IfSome, Contains, AllPairs, refl}
use mathlib.Core.Path.{sym, ap, ap₂, subst, ◌∙◌}
use mathlib.Core.Logic.{inl, inr}
use native.Mathlib.Omega.{arith}
use Rattle.std.proofs.Common.{get_or}
use Rattle.std.proofs.lemmas.Bool.{cases_order}
use Rattle.std.proofs.lemmas.Bool.Decides.{eqb_tells}
use Rattle.std.proofs.lemmas.List.{get_or_default}
use Rattle.x12_envelopes.specs.declared.party.Party.{Party}
use Rattle.x12_acks.specs.Submission.{Submission, SubmittedGroup, SubmittedSet}
use Rattle.x12_outbound.specs.declared.fate.Fate.{Fate}
use Rattle.x12_outbound.specs.Entry.{SetRow, GroupRow, InterchangeRow, submitted_set_of_row, submitted_group_of_row, submission_of_entry, at_place, set_row_at}
use Rattle.x12_station.proofs.OwnLemmas.{set_of_entry}
use Rattle.x12_station.proofs.CellLemmas.{Cell, cells_of, entry_by, set_at, at_cell}
use Rattle.std.proofs.lemmas.Option.{slice_get-map}

-- Lists in order.

module _ {X : Type 0} (key : X → ℕ) where
  -- two with one number are one
  pub one_by_key : (xs : List X) → AllPairs (λ a b. key a < key b) xs → (x y : X) → Contains xs x → Contains xs y → key x ≡ key y → x ≡ y
  one_by_key xs rise x y at_x at_y same = elim (cases_order at_x.0 at_y.0) [
    | inl equal ↦ sym at_x.2 ∙ get_or_default xs at_x.0 x y at_x.1 ∙ ap (λ k. get_or xs k y) equal ∙ at_y.2
    | inr (inl first) ↦
        let lower = subst (λ z. key z < key y) at_x.2 (subst (λ z. key (get_or xs at_x.0 x) < key z) (get_or_default xs at_y.0 x y at_y.1 ∙ at_y.2) (rise at_x.0 at_y.0 x first at_y.1)) in
        absurd (omega (arith, lower, same))
    | inr (inr second) ↦
        let lower = subst (λ z. key z < key x) at_y.2 (subst (λ z. key (get_or xs at_y.0 y) < key z) (get_or_default xs at_x.0 y x at_x.1 ∙ at_x.2) (rise at_y.0 at_x.0 y second at_x.1)) in
        absurd (omega (arith, lower, same))
  ]

-- An entry is known by what it submitted and by its sets at their places.

at_next : {X : Type 0} (i : ℕ) (xs : List X) → at_place (i + 1) xs ≡ slice_get xs i
at_next i xs = elim (eqb_tells (i + 1) 0) [
  | inl none ↦ let zero_is = none.1 in absurd (omega (arith, zero_is))
  | inr some ↦ let less : i + 1 - 1 ≡ i = omega arith in rw (some.0, less) refl
]

same_elements : {X : Type 0} (xs ys : List X) → ((i : ℕ) → slice_get xs i ≡ slice_get ys i) → xs ≡ ys
same_elements [] [] same = refl
same_elements [] (y ∷ ys) same = let first : None ≡ Some y = same 0 in absurd (let no : ⊥ = cc in no)
same_elements (x ∷ xs) [] same = let first : Some x ≡ None = same 0 in absurd (let no : ⊥ = cc in no)
same_elements (x ∷ xs) (y ∷ ys) same = let first : Some x ≡ Some y = same 0 in let is : x ≡ y = cc in ap₂ (λ z zs. z ∷ zs) is (same_elements xs ys (λ i. same (suc i)))

-- a set of groups by the numbers from 0
abbrev set_from : List GroupRow → ℕ → ℕ → Option SetRow
set_from gs i j = option_and_then (λ g. slice_get g.sets j) (slice_get gs i)

same_groups : (gs hs : List GroupRow) → map submitted_group_of_row gs ≡ map submitted_group_of_row hs → ((i j : ℕ) → set_from gs i j ≡ set_from hs i j) → gs ≡ hs
same_groups [] [] heads same = refl
same_groups [] (h ∷ hs) heads same = absurd (let no : ⊥ = cc in no)
same_groups (g ∷ gs) [] heads same = absurd (let no : ⊥ = cc in no)
same_groups (g ∷ gs) (h ∷ hs) heads same =
    let head : submitted_group_of_row g ≡ submitted_group_of_row h = cc in
    let rest : map submitted_group_of_row gs ≡ map submitted_group_of_row hs = cc in
    let functional : g.functional ≡ h.functional = ap (λ (s : SubmittedGroup). s.functional) head in
    let number : g.number ≡ h.number = ap (λ (s : SubmittedGroup). s.number) head in
    let sets : g.sets ≡ h.sets = same_elements g.sets h.sets (λ j. same 0 j) in
    ap₂ (λ (z : GroupRow) (zs : List GroupRow). z ∷ zs) (one functional number sets) (same_groups gs hs rest (λ i j. same (suc i) j))
  where
    one : g.functional ≡ h.functional → g.number ≡ h.number → g.sets ≡ h.sets → g ≡ h
    one f n s = ap₂ (λ (x : List ℕ) (y : ℕ). group x y g.sets) f n ∙ ap (group h.functional h.number) s
      where
        group : List ℕ → ℕ → List SetRow → GroupRow
        group f n s = record { functional = f; number = n; sets = s }

pub same_entry : (me : Party) (e d : InterchangeRow) → submission_of_entry me e ≡ submission_of_entry me d → ((group set : ℕ) → set_row_at group set e ≡ set_row_at group set d) → e ≡ d
unfolding set_row_at
same_entry me e d heads same =
    let icn : e.icn ≡ d.icn = ap (λ (s : Submission). s.icn) heads in
    let receiver : e.receiver ≡ d.receiver = ap (λ (s : Submission). s.receiver) heads in
    let bytes : e.bytes ≡ d.bytes = ap (λ (s : Submission). s.bytes) heads in
    let groups : e.groups ≡ d.groups = same_groups e.groups d.groups (ap (λ (s : Submission). s.groups) heads) (λ i j. sym (from e i j) ∙ same (i + 1) (j + 1) ∙ from d i j) in
    ap₂ (λ (n : ℕ) (p : Party). row n p e.bytes e.groups) icn receiver ∙ ap₂ (λ (b : List ℕ) (gs : List GroupRow). row d.icn d.receiver b gs) bytes groups
  where
    row : ℕ → Party → List ℕ → List GroupRow → InterchangeRow
    row n p b gs = record { icn = n; receiver = p; bytes = b; groups = gs }

    from : (x : InterchangeRow) (i j : ℕ) → option_and_then (λ (g : GroupRow). at_place (j + 1) g.sets) (at_place (i + 1) x.groups) ≡ set_from x.groups i j
    from x i j = ap (option_and_then (λ (g : GroupRow). at_place (j + 1) g.sets)) (at_next i x.groups) ∙ by (slice_get x.groups i)
      where
        by : (o : Option GroupRow) → option_and_then (λ (g : GroupRow). at_place (j + 1) g.sets) o ≡ option_and_then (λ (g : GroupRow). slice_get g.sets j) o
        by None = refl
        by (Some g) = at_next j g.sets

pub at_mapped : {X Y : Type 0} (f : X → Y) (i : ℕ) (xs : List X) → at_place i (map f xs) ≡ option_map f (at_place i xs)
at_mapped f i xs = elim (eqb_tells i 0) [ inl none ↦ rw none.0 refl | inr some ↦ rw some.0 (slice_get-map f xs (i - 1)) ]

pub submitted_at : (group set : ℕ) (e : InterchangeRow) → set_at (map submitted_group_of_row e.groups) group set ≡ option_map submitted_set_of_row (set_row_at group set e)
unfolding set_row_at
submitted_at group set e = ap (option_and_then (λ (g : SubmittedGroup). at_place set g.sets)) (at_mapped submitted_group_of_row group e.groups) ∙ by (at_place group e.groups)
  where
    by : (o : Option GroupRow) → option_and_then (λ (g : SubmittedGroup). at_place set g.sets) (option_map submitted_group_of_row o) ≡ option_map submitted_set_of_row (option_and_then (λ (g : GroupRow). at_place set g.sets) o)
    by None = refl
    by (Some g) = at_mapped submitted_set_of_row set g.sets

-- an entry whose sets fare so, and none of which is out, is the one with these fates
pub entry_known : (me : Party) (fate : ℕ → ℕ → Fate) (e : Submission) (r : InterchangeRow) → submission_of_entry me r ≡ e → submission_of_entry me (entry_by fate e) ≡ e
    → ((c : Cell) → Contains (cells_of e.groups) c → option_map (λ t. t.fate) (set_row_at c.group c.set r) ≡ Some (fate c.group c.set))
    → ((group set : ℕ) → IfSome (set_row_at group set r) (λ t. t.is_out ≡ false)) → r ≡ entry_by fate e
entry_known me fate e r sent own fares laid = same_entry me r (entry_by fate e) (sent ∙ sym own) (λ group set. one group set (set_row_at group set r) refl (set_at e.groups group set) refl ∙ sym (set_of_entry fate group set e))
  where
    heads : (group set : ℕ) → set_at e.groups group set ≡ option_map submitted_set_of_row (set_row_at group set r)
    heads group set = ap (λ (s : Submission). set_at s.groups group set) (sym sent) ∙ submitted_at group set r

    set_is : (t : SetRow) (n : List ℕ) (f : Fate) → t.number ≡ n → t.fate ≡ f → t.is_out ≡ false → t ≡ record { number = n; fate = f; is_out = false }
    set_is t n f number fate out = ap₂ (λ (x : List ℕ) (y : Fate). made x y t.is_out) number fate ∙ ap (made n f) out
      where
        made : List ℕ → Fate → Bool → SetRow
        made n f o = record { number = n; fate = f; is_out = o }

    one : (group set : ℕ) (o : Option SetRow) → set_row_at group set r ≡ o → (u : Option SubmittedSet) → set_at e.groups group set ≡ u
        → set_row_at group set r ≡ option_map (λ u. record { number = u.number; fate = fate group set; is_out = false }) (set_at e.groups group set)
    one group set None is None there = rw (is, there) refl
    one group set None is (Some u) there = let both : Some u ≡ None = sym there ∙ heads group set ∙ ap (option_map submitted_set_of_row) is in absurd (let no : ⊥ = cc in no)
    one group set (Some t) is None there = let both : None ≡ Some (submitted_set_of_row t) = sym there ∙ heads group set ∙ ap (option_map submitted_set_of_row) is in absurd (let no : ⊥ = cc in no)
    one group set (Some t) is (Some u) there =
        let both : Some u ≡ Some (submitted_set_of_row t) = sym there ∙ heads group set ∙ ap (option_map submitted_set_of_row) is in
        let same : u ≡ submitted_set_of_row t = cc in
        let c = at_cell e.groups group set u there in
        let told : Some t.fate ≡ Some (fate group set) =
        ap (option_map (λ (q : SetRow). q.fate)) (sym is) ∙ ap₂ (λ (g s : ℕ). option_map (λ (q : SetRow). q.fate) (set_row_at g s r)) (sym c.2) (sym c.3) ∙ fares c.0 c.1 ∙ ap₂ (λ (g s : ℕ). Some (fate g s)) c.2 c.3 in
        let fate_is : t.fate ≡ fate group set = cc in
        let out : t.is_out ≡ false = subst (λ (q : Option SetRow). IfSome q (λ t. t.is_out ≡ false)) is (laid group set) in
        rw (is, there) (ap Some (set_is t u.number (fate group set) (ap (λ (q : SubmittedSet). q.number) (sym same)) fate_is out))
