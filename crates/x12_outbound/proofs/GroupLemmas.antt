-- A functional group found by its number, among groups by rising number.
use Rattle.std.specs.Result.{result_ok}
use Rattle.std.proofs.Common.{ℕ, ◌≡◌, ◌≢◌, ◌<◌, ◌≤◌, ◌-◌, [], ◌∷◌, ap, true, false, IfSome, IfNone, List, length, get_or, Option, Result, Ok, Err, MatchResult, arith, refl, ltb}
use Rattle.std.specs.List.Sorted.{IsPartitionPoint, IsNonDecreasingBy}
use Rattle.std.proofs.lemmas.Bool.Decides.{nat_tests}
use Rattle.std.proofs.lemmas.Option.{slice_get-get_or}
use Rattle.x12_outbound.specs.declared.entry.EntryGroup.{EntryGroup}
use Rattle.x12_outbound.specs.declared.row.Row.{Row}
use Rattle.x12_outbound.specs.Group.{groups_of_row, last_gcn, GroupsRise, HasGroup, LacksGroup}

-- the last group's number is the greatest
last_at : (groups : List EntryGroup) (d : EntryGroup) → 0 < length groups → last_gcn groups ≡ (get_or groups (length groups - 1) d).gcn
last_at groups d filled = rw (slice_get-get_or groups (length groups - 1) d (omega arith)) refl

module _ (rows : List Row) (rise : GroupsRise rows) where
  below_last : (k : ℕ) (d : Row) → k < length rows → (m : ℕ) (e : EntryGroup) → m < length (groups_of_row (get_or rows k d))
      → (get_or (groups_of_row (get_or rows k d)) m e).gcn ≤ last_gcn (groups_of_row (get_or rows k d))
  below_last k d within m e at =
      let groups = groups_of_row (get_or rows k d) in
      let last = last_at groups e (omega arith) in
      let before : m < length groups - 1 → (get_or groups m e).gcn < (get_or groups (length groups - 1) e).gcn = λ lt. rise.within k d within m (length groups - 1) e lt (omega arith) in
      let same : m ≡ length groups - 1 → (get_or groups m e).gcn ≡ (get_or groups (length groups - 1) e).gcn = λ eq. ap (λ (i : ℕ). (get_or groups i e).gcn) eq in
      grind (arith, last, before, same)

  above_last : (i k : ℕ) (d : Row) → i < k → k < length rows → (m : ℕ) (e : EntryGroup) → m < length (groups_of_row (get_or rows k d))
      → last_gcn (groups_of_row (get_or rows i d)) < (get_or (groups_of_row (get_or rows k d)) m e).gcn
  above_last i k d before within m e at =
      let groups = groups_of_row (get_or rows i d) in
      let filled = rise.filled i d (omega arith) in
      let last = last_at groups e filled in
      let less = rise.across i k d before within (length groups - 1) e (omega (arith, filled)) m e at in
      omega (arith, last, less)

  pub last_rises : IsNonDecreasingBy (λ r. last_gcn (groups_of_row r)) rows
  last_rises = λ i j d le within.
      let last = last_at (groups_of_row (get_or rows j d)) in
      let filled = rise.filled j d within in
      let less : i < j → last_gcn (groups_of_row (get_or rows i d)) ≤ last_gcn (groups_of_row (get_or rows j d)) = λ lt. rises_to i j d lt within filled in
      let same : i ≡ j → last_gcn (groups_of_row (get_or rows i d)) ≡ last_gcn (groups_of_row (get_or rows j d)) = λ eq. ap (λ (k : ℕ). last_gcn (groups_of_row (get_or rows k d))) eq in
      grind (arith, less, same)
    where
      rises_to : (i j : ℕ) (d : Row) → i < j → j < length rows → 0 < length (groups_of_row (get_or rows j d)) → last_gcn (groups_of_row (get_or rows i d)) ≤ last_gcn (groups_of_row (get_or rows j d))
      rises_to i j d lt within filled = go (groups_of_row (get_or rows j d)) (λ m e. above_last i j d lt within m e) (λ m e. below_last j d within m e) filled
        where
          go : (groups : List EntryGroup) → ((m : ℕ) (e : EntryGroup) → m < length groups → last_gcn (groups_of_row (get_or rows i d)) < (get_or groups m e).gcn)
              → ((m : ℕ) (e : EntryGroup) → m < length groups → (get_or groups m e).gcn ≤ last_gcn groups) → 0 < length groups → last_gcn (groups_of_row (get_or rows i d)) ≤ last_gcn groups
          go [] above below filled = absurd (omega arith)
          go (g ∷ gs) above below filled = omega (arith, above 0 g (omega arith), below 0 g (omega arith))

  -- no row but the one at the partition point holds the number
  pub one_row : (number at : ℕ) → IsPartitionPoint (λ r. ltb (last_gcn (groups_of_row r)) number ≡ true) (λ r. ltb (last_gcn (groups_of_row r)) number ≡ false) rows at
      → (k : ℕ) (d : Row) → k < length rows → k ≢ at → LacksGroup number (groups_of_row (get_or rows k d))
  one_row number at point k d within other = λ m e inside same.
      let below = below_last k d within m e inside in
      let low : k < at → last_gcn (groups_of_row (get_or rows k d)) < number = λ lt. grind (arith, nat_tests, point.0 k d (omega arith) lt) in
      let high : at < k → number < (get_or (groups_of_row (get_or rows k d)) m e).gcn = λ lt. grind (arith, nat_tests, point.1 at d (omega arith) (omega arith), above_last at k d lt within m e inside) in
      grind (arith, below, low, high)

-- what a search among the groups of an interchange finds
pub record GroupFound (number : ℕ) (groups : List EntryGroup) (o : Option ℕ) : Type 0 where
  pub found : IfSome o (λ index. HasGroup number index groups)
  pub none : IfNone o (LacksGroup number groups)

pub group_found : (number : ℕ) (groups : List EntryGroup) (r : Result ℕ ℕ) → MatchResult r (λ i. HasGroup number i groups) (λ i. LacksGroup number groups)
    → GroupFound number groups (result_ok r)
group_found number groups (Ok i) has = record { found = has; none = tt }
group_found number groups (Err i) lacks = record { found = tt; none = lacks }
