use Rattle.x12_numbers.specs.History.{interchanges_of, groups_of}
use Rattle.x12_numbers.proofs.RisingLemmas.{Rises-from_is_rising, rising_interchanges, rising_groups}
use Rattle.x12_numbers.proofs.history.numbers_rise.Goals as goal

pub returns-clause-interchanges : goal.returns-clause-interchanges
returns-clause-interchanges c book steps history =
    Rises-from_is_rising book.interchange (interchanges_of steps) (rising_interchanges book steps history)

pub returns-clause-groups : goal.returns-clause-groups
returns-clause-groups c book steps history =
    Rises-from_is_rising book.group (groups_of steps) (rising_groups book steps history)
