-- Submissions with the fates of their sets, in two records.
use Rattle.std.specs.Prelude.{◌≡◌, List, map, Contains, All, false}
use Rattle.x12_outbound.specs.Entry.{InterchangeRow, GroupRow, SetRow}
use Rattle.x12_profile.specs.Interchange.{Bytes}
use Rattle.x12_station.specs.History.{Item, Submitted, Came}
use Rattle.x12_station.specs.Record.{HasNoneOut}

-- a set that no ledger has lifted to settle it
abbrev pub set_at_rest : SetRow → SetRow
set_at_rest t = record { number = t.number; fate = t.fate; is_out = false }

abbrev pub group_at_rest : GroupRow → GroupRow
group_at_rest g =
    record { functional = g.functional; number = g.number; sets = map set_at_rest g.sets }

abbrev pub entry_at_rest : InterchangeRow → InterchangeRow
entry_at_rest e = record {
  icn = e.icn;
  receiver = e.receiver;
  bytes = e.bytes;
  groups = map group_at_rest e.groups;
}

-- one submission of these bytes, with the same fates in both lists
pub record StandsInBoth (one other : List InterchangeRow) (x : Bytes) : Type 0 where
  pub entry : InterchangeRow
  pub bytes : entry.bytes ≡ x
  pub in_one : Contains one entry
  pub in_other : Contains other entry

-- a submission stands in both
abbrev pub IsRightSubmission : List InterchangeRow → List InterchangeRow → Item → Type 0
IsRightSubmission one other (Submitted x) = StandsInBoth one other x
IsRightSubmission one other (Came by b r) = Unit {0}

-- each of these submissions stands there, and no set of it is lifted
pub record AreOpenIn (entries rows : List InterchangeRow) : Type 0 where
  pub there : (e : InterchangeRow) → Contains rows e → Contains entries e
  pub laid : All HasNoneOut rows
