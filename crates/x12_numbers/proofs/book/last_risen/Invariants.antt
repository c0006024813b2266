use Rattle.std.proofs.Common.{◌≡◌, ◌≤◌, drop}
use Rattle.x12_numbers.specs.Book.{is_rising, latest_number}
use Rattle.x12_numbers.specs.declared.book.TheConstants.{MAX_CONTROL_NUMBER}
use Rattle.x12_numbers.proofs.book.last_risen.Given as goal

-- what is left decides, from the latest number on
abbrev pub invariant-loop-number : goal.invariant-loop-number
invariant-loop-number l = record {
  rising : is_rising l.last l.numbers ≡ is_rising l.latest (drop l.number-index l.numbers);
  latest : latest_number l.last l.numbers ≡ latest_number l.latest (drop l.number-index l.numbers);
  within : l.latest ≤ MAX_CONTROL_NUMBER;
}
