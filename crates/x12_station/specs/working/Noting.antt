-- The refusal of other bytes under a filed number takes the next number.
use Rattle.std.specs.Prelude.{◌≡◌, ◌+◌, IsTrue, Result, true, false}
use Rattle.x12_numbers.specs.Book.{Numbers}
use Rattle.x12_profile.specs.Interchange.{book_for, is_within}
use Rattle.x12_station.specs.declared.cached.Cached.{Cached}
use Rattle.x12_station.specs.declared.records.Records.{Ghosts}
use Rattle.x12_station.specs.Plan.{Commit, TakesNumbers, stored_after}
use Rattle.x12_station.specs.Standing.{LeavesNoMore, MayLeave}

-- the last number of an interchange is the next one, in memory and in the records; all else stays
pub record TakesNumber {R : Type 0} (g : Ghosts R) (old new : R)
    (memory_old memory_new : Cached) : Type 0 where
  pub memory :
      memory_new
      ≡ record memory_old {
        book = record memory_old.book { interchange = memory_old.book.interchange + 1 };
      }
  pub written :
      IsTrue (g.answers new) →
      g.content new
      ≡ stored_after (record {
        book = memory_new.book;
        seq = memory_old.seq;
        change = TakesNumbers;
      }) (g.content old)

-- the numbers under which a refusal is written, and the commit that takes them
abbrev pub numbers_noted : Cached → Numbers
numbers_noted m = book_for m.book (record { reply = true; group = false })

abbrev pub plan_noted : Cached → Commit
plan_noted m = record { book = numbers_noted m; seq = m.seq; change = TakesNumbers }

-- a stop may leave that commit; where no number is left for it, nothing is written
pub record MayLeaveNumber {R A E : Type 0} (g : Ghosts R) (m : Cached) (r : Result A E)
    (old new : R) : Type 0 where
  pub taken : MayLeave g (plan_noted m) r old new
  pub spent : is_within (numbers_noted m) ≡ false → LeavesNoMore g old new
