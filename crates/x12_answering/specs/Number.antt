-- The control numbers that replies use in turn (X12.5, ISA13; X12.6, GS06).
use Rattle.std.specs.Prelude.{◌+◌, ◌<◌, ◌≤◌, Bool, ◌&&◌, ◌||◌, nat_lt, if◌then◌else◌}
use Rattle.x12_answering.specs.declared.number.NextNumbers.{NextNumbers}

-- a number that a reply takes has more than nine digits
abbrev pub numbers_are_exhausted : NextNumbers → Bool → Bool
numbers_are_exhausted next takes_group =
    nat_lt 999999999 next.icn || (takes_group && nat_lt 999999999 next.gcn)

-- the numbers behind a reply: one interchange number is used up, and a group number
-- where it takes one
abbrev pub numbers_behind : NextNumbers → Bool → NextNumbers
numbers_behind next takes_group = record {
  icn = next.icn + 1;
  gcn = (if takes_group then next.gcn + 1 else next.gcn);
}

-- numbers from 1, each with at most nine digits or the one behind these
pub record AreNext (next : NextNumbers) : Type 0 where
  pub some_icn : 0 < next.icn
  pub icn : next.icn ≤ 1000000000
  pub some_gcn : 0 < next.gcn
  pub gcn : next.gcn ≤ 1000000000
