-- Functional groups by their numbers, which rise over the interchanges of a ledger.
use Rattle.std.specs.Prelude.{ℕ, ◌≡◌, ◌≢◌, ◌<◌, ◌-◌, List, length, All, AllPairs, option_map, unwrap_or, slice_get, slice_index_or}
use Rattle.x12_outbound.specs.declared.entry.EntryGroup.{EntryGroup}
use Rattle.x12_outbound.specs.declared.row.Row.{Row}

abbrev pub groups_of_row : Row → List EntryGroup
groups_of_row r = r.entry.groups.items

-- the number of the last group; 0 where there is none
abbrev pub last_gcn : List EntryGroup → ℕ
last_gcn groups = unwrap_or (option_map (λ g. g.gcn) (slice_get groups (length groups - 1))) 0

-- the groups' numbers rise
abbrev pub GcnsRise : List EntryGroup → Type 0
GcnsRise groups = AllPairs (λ g h. g.gcn < h.gcn) groups

-- each interchange has a group, and the groups' numbers rise in it and from one to the next
pub record GroupsRise (rows : List Row) : Type 0 where
  pub filled : All (λ r. 0 < length (groups_of_row r)) rows
  pub within : All (λ r. GcnsRise (groups_of_row r)) rows
  pub across :
      AllPairs (λ r q. All (λ g. All (λ h. g.gcn < h.gcn) (groups_of_row q)) (groups_of_row r)) rows

-- the group at this index has this number; and no group has it
abbrev pub HasGroup : ℕ → ℕ → List EntryGroup → Type 0
HasGroup number index groups =
    (index < length groups) × ((d : EntryGroup) → (slice_index_or groups index d).gcn ≡ number)

abbrev pub LacksGroup : ℕ → List EntryGroup → Type 0
LacksGroup number groups = All (λ g. g.gcn ≢ number) groups
