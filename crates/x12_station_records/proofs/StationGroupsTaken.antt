-- Groups are put together from the rows of their transaction sets.
use Rattle.std.proofs.Common.{◌≡◌, ◌<◌, ◌≤◌, nat_le, true, ◌+◌, ◌++◌, ◌∙◌, ℕ, suc, inl, inr, List, [], ◌∷◌, length, get_or, drop, map, flat_map, refl, sym, ap, subst, arith, All, AllPairs}
use Rattle.std.specs.List.{AllByRecursion, enumerate_from}
use Rattle.std.proofs.lemmas.Bool.Decides.{nat_tests}
use Rattle.std.proofs.lemmas.List.Elements.{All-head, All-tail}
use Rattle.sqlite.specs.Order.{Row}
use Rattle.x12_outbound.specs.Entry.{GroupRow, SetRow}
use Rattle.x12_station.specs.Stored.{StoredSet, rows_of_group}
use Rattle.x12_station_records.proofs.StationGroupLemmas.{left_next, row_in}
use Rattle.x12_station_records.specs.StationGroups.{StandBehind, EndsGroups, set_shown, no_set, StandsNext, AreWhole, rows_of_groups, are_rising}
use Rattle.x12_station_records.specs.StationTaken.{HasSetRow}

-- what is left, once these groups are put together
pub record AreLeft (groups : List GroupRow) (rows : List Row) : Type 0 where
  pub last : StoredSet
  pub ends : EndsGroups groups last
  pub stand : StandBehind last (map (set_shown 0) rows)
  pub wide : AllByRecursion HasSetRow rows

module _ (groups : List GroupRow) (rows : List Row) (i : ℕ) (d row : Row) (low : i < length rows) (is : get_or rows i d ≡ row) (left : AreLeft groups (drop i rows)) where
  one : AreLeft groups (row ∷ drop (i + 1) rows)
  one = let e : suc i ≡ i + 1 = omega arith in subst (AreLeft groups) (left_next i rows d row low is ∙ ap (λ k. row ∷ drop k rows) e) left

  pub next_wide : HasSetRow row
  next_wide = one.wide.0

  pub next_follows : (placed : StoredSet) → placed ≡ set_shown 0 row → (last : StoredSet) × EndsGroups groups last × StandsNext last placed
  next_follows placed same = (one.last, one.ends, subst (StandsNext one.last) (sym same) one.stand.0)

  pub less_left : (placed : StoredSet) (after : List GroupRow) → placed ≡ set_shown 0 row → EndsGroups after placed → AreLeft after (drop (i + 1) rows)
  less_left placed after same ends = record { last = set_shown 0 row; ends = subst (EndsGroups after) same ends; stand = one.stand.1; wide = one.wide.1 }

-- The transaction sets of whole groups stand one behind the other.
sets_stand : (icn n : ℕ) (g : GroupRow) (at : ℕ) (ts : List SetRow) (last : StoredSet) (more : List StoredSet) → last.group ≡ n → 0 < last.set → at ≡ last.set + 1 → g.functional ≡ last.functional → g.number ≡ last.gcn
    → ((end : StoredSet) → end.group ≡ n → StandBehind end more) → StandBehind last (map (row_in icn n g) (enumerate_from at ts) ++ more)
sets_stand icn n g at [] last more group low place functional gcn behind = behind last group
sets_stand icn n g at (t ∷ ts) last more group low place functional gcn behind =
    (inr (sym group, low, place, functional, gcn), sets_stand icn n g (at + 1) ts (row_in icn n g (at, t)) more refl (omega (arith, place)) refl refl refl behind)

groups_stand : (icn n : ℕ) (groups : List GroupRow) (last : StoredSet) → n ≡ last.group + 1 → All (λ g. 0 < length g.sets) groups → StandBehind last (flat_map (rows_of_group icn) (enumerate_from n groups))
groups_stand icn n [] last at filled = tt
groups_stand icn n (g ∷ groups) last at filled =
    first g.sets refl (All-head (λ (x : GroupRow). 0 < length x.sets) g groups filled)
    (λ end group. groups_stand icn (n + 1) groups end (ap (λ k. k + 1) (sym group)) (All-tail (λ (x : GroupRow). 0 < length x.sets) g groups filled))
  where
    first : (ts : List SetRow) → g.sets ≡ ts → 0 < length g.sets → ((end : StoredSet) → end.group ≡ n → StandBehind end (flat_map (rows_of_group icn) (enumerate_from (n + 1) groups)))
        → StandBehind last (flat_map (rows_of_group icn) (enumerate_from n (g ∷ groups)))
    first [] is some behind = absurd (omega (arith, some, ap length is))
    first (t ∷ ts) is some behind =
        let rest = flat_map (rows_of_group icn) (enumerate_from (n + 1) groups) in
        subst (λ sets. StandBehind last (map (row_in icn n g) (enumerate_from 1 sets) ++ rest)) (sym is)
        (inl (at, refl), sets_stand icn n g (1 + 1) ts (row_in icn n g (1, t)) rest refl (omega arith) refl refl refl behind)

pub whole_stand : (icn : ℕ) (groups : List GroupRow) → AreWhole groups → StandBehind no_set (rows_of_groups icn groups)
whole_stand icn groups whole = groups_stand icn 1 groups no_set refl whole.sets

-- another submission's number changes nothing
pub stand_shown : (icn : ℕ) (rows : List Row) (last other : StoredSet) → last ≡ record other { icn = last.icn } → StandBehind last (map (set_shown icn) rows) → StandBehind other (map (set_shown 0) rows)
stand_shown icn [] last other same h = tt
stand_shown icn (r ∷ rows) last other same h = (follows same h.0, stand_shown icn rows (set_shown icn r) (set_shown 0 r) refl h.1)
  where
    follows : last ≡ record other { icn = last.icn } → StandsNext last (set_shown icn r) → StandsNext other (set_shown 0 r)
    follows is (inl first) = inl (first.0 ∙ ap (λ (t : StoredSet). t.group + 1) is, first.1)
    follows is (inr next) = inr (next.0 ∙ ap (λ (t : StoredSet). t.group) is, subst (λ k. 0 < k) (ap (λ (t : StoredSet). t.set) is) next.1, next.2 ∙ ap (λ (t : StoredSet). t.set + 1) is, next.3 ∙ ap (λ (t : StoredSet). t.functional) is, next.4 ∙ ap (λ (t : StoredSet). t.gcn) is)

rising : (n : ℕ) (gs : List GroupRow) → All (λ g. n ≤ g.number) gs → AllPairs (λ (g : GroupRow) h. g.number < h.number) gs → are_rising n gs ≡ true
rising n [] low rise = refl
rising n (g ∷ gs) low rise =
    let first = All-head (λ (h : GroupRow). n ≤ h.number) g gs low in
    let up : nat_le n g.number ≡ true = grind (arith, nat_tests, first) in
    rw up (rising (g.number + 1) gs (λ k d at. let less = rise 0 (suc k) d (omega arith) (omega arith) in omega (arith, less)) (λ i j d before at. rise (suc i) (suc j) d (omega arith) (omega arith)))

-- groups whose numbers rise pass the test
pub pairs_rising : (gs : List GroupRow) → AllPairs (λ (g : GroupRow) h. g.number < h.number) gs → are_rising 0 gs ≡ true
pairs_rising gs rise = rising 0 gs (λ k d at. omega arith) rise
