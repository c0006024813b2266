-- The functional groups of a submission, from the rows of its transaction sets.
use Rattle.std.specs.Prelude.{◌≡◌, ◌⊎◌, ◌<◌, ◌≤◌, ◌+◌, ◌++◌, nat_le, ℕ, Bool, true, false, ◌&&◌, List, [], ◌∷◌, flat_map, length, All, AllPairs}
use Rattle.std.specs.List.{enumerate_from, sum_by}
use Rattle.sqlite.specs.Order.{Row, column}
use Rattle.sql_rows.specs.Keyed.{number_in}
use Rattle.x12_outbound.specs.declared.fate.Fate.TheVariants.{Pending}
use Rattle.x12_outbound.specs.Entry.{GroupRow, SetRow, set_row}
use Rattle.x12_station.specs.Stored.{StoredSet, rows_of_group}
use Rattle.x12_tables.specs.Party.{bytes_in}
use Rattle.x12_station_records.specs.StationContent.{fate_numbered}
use Rattle.x12_station_records.specs.declared.station_groups.PlacedSet.{PlacedSet}

-- the transaction set in a row of the place of its group and its own, GS01 and GS06 of the group, its
-- number and its fate; its submission has this number
abbrev pub set_shown : ℕ → Row → StoredSet
set_shown icn r = record {
  icn = icn;
  group = number_in (column r 0);
  set = number_in (column r 1);
  functional = bytes_in (column r 2);
  gcn = number_in (column r 3);
  number = bytes_in (column r 4);
  fate = fate_numbered (number_in (column r 5));
}

-- what the code's value of such a row stands for
abbrev pub placed_set_view : ℕ → PlacedSet → StoredSet
placed_set_view icn p = record {
  icn = icn;
  group = p.group;
  set = p.place;
  functional = p.functional;
  gcn = p.gcn;
  number = (set_row p.set).number;
  fate = (set_row p.set).fate;
}

-- the transaction set in such a row, as an entry has it; none is out
abbrev pub set_row_shown : Row → SetRow
set_row_shown r = record {
  number = bytes_in (column r 4);
  fate = fate_numbered (number_in (column r 5));
  is_out = false;
}

-- the transaction sets of groups, by the place of the group and the set's own
abbrev pub rows_of_groups : ℕ → List GroupRow → List StoredSet
rows_of_groups icn groups = flat_map (rows_of_group icn) (enumerate_from 1 groups)

-- no transaction set: what stands in front of the first one
abbrev pub no_set : StoredSet
no_set = record { icn = 0; group = 0; set = 0; functional = []; gcn = 0; number = []; fate = Pending }

-- a transaction set is the first one of the next group, or the next one of the same group
abbrev pub StandsNext : StoredSet → StoredSet → Type 0
StandsNext last t =
    ((t.group ≡ last.group + 1) × (t.set ≡ 1))
    ⊎ ((t.group ≡ last.group) × (0 < last.set) × (t.set ≡ last.set + 1)
    × (t.functional ≡ last.functional) × (t.gcn ≡ last.gcn))

-- transaction sets stand by group and by place, behind this one
abbrev pub StandBehind : StoredSet → List StoredSet → Type 0
StandBehind last [] = Unit {0}
StandBehind last (t ∷ ts) = StandsNext last t × StandBehind t ts

-- the last transaction set of groups stands where this one does
pub record EndsLast (groups front : List GroupRow) (g : GroupRow) (last : StoredSet) : Type 0 where
  pub split : groups ≡ front ++ g ∷ []
  pub group : last.group ≡ length groups
  pub set : last.set ≡ length g.sets
  pub functional : last.functional ≡ g.functional
  pub gcn : last.gcn ≡ g.number

-- a transaction set is the next one of the last of these groups
pub record JoinsLast (groups front : List GroupRow) (g : GroupRow) (t : StoredSet) : Type 0 where
  pub split : groups ≡ front ++ g ∷ []
  pub group : t.group ≡ length groups
  pub set : t.set ≡ length g.sets + 1
  pub functional : t.functional ≡ g.functional
  pub gcn : t.gcn ≡ g.number

-- so it is, or there is none and there are no groups
abbrev pub EndsGroups : List GroupRow → StoredSet → Type 0
EndsGroups groups last = ((groups ≡ []) × (last.group ≡ 0) × (last.set ≡ 0))
    ⊎ ((front : List GroupRow) × (g : GroupRow) × EndsLast groups front g last)

-- each group has a transaction set, and none is out
pub record AreWhole (groups : List GroupRow) : Type 0 where
  pub laid : All (λ g. All (λ t. t.is_out ≡ false) g.sets) groups
  pub sets : All (λ g. 0 < length g.sets) groups

-- the numbers of groups rise, the first from this one on
abbrev pub are_rising : ℕ → List GroupRow → Bool
are_rising least [] = true
are_rising least (g ∷ gs) = nat_le least g.number && are_rising (g.number + 1) gs

-- groups with which a submission can be sent: one at least and 32 at most, by rising number, and at
-- most 400 transaction sets in all
pub record AreSendable (groups : List GroupRow) : Type 0 where
  pub has_group : 0 < length groups
  pub groups_rise : AllPairs (λ g h. g.number < h.number) groups
  pub few_groups : length groups ≤ 32
  pub few_sets : sum_by (λ g. length g.sets) groups ≤ 400
