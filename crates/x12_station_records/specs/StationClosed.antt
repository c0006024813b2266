-- Closed submissions, as they are looked for.
use Rattle.std.specs.Prelude.{◌==◌, ℕ, Bool, not, ◌&&◌, List, Option, find, option_map, option_and_then}
use Rattle.std.specs.List.{list_any}
use Rattle.x12_envelopes.specs.declared.party.Party.{Party}
use Rattle.x12_judge.specs.Agreement.{is_same_party}
use Rattle.x12_outbound.specs.Entry.{InterchangeRow, row_is_open}
use Rattle.x12_station.specs.Stored.{Stored, StoredSet, is_group_named, closed_entry}

-- a submission none of whose sets is pending
abbrev pub is_closed : InterchangeRow → Bool
is_closed e = not (row_is_open e)

-- a submission to this partner with a group of this code and number
abbrev pub is_named_by : Party → List ℕ → ℕ → InterchangeRow → Bool
is_named_by partner functional gcn e =
    is_same_party e.receiver partner && list_any (is_group_named functional gcn) e.groups

-- the number of the first submission that has a transaction set in a group of this number
abbrev pub number_of_group : List StoredSet → ℕ → Option ℕ
number_of_group sets gcn = option_map (λ t. t.icn) (find (λ t. t.gcn == gcn) sets)

-- the closed submission of that number
abbrev pub closed_with_number : Stored → ℕ → Option InterchangeRow
closed_with_number s gcn = option_and_then (closed_entry s) (number_of_group s.sets gcn)
