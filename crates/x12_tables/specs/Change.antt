-- Changes of what is seen of a database.
use Rattle.sqlite.specs.Effect.{Database}
use Rattle.sqlite.specs.State.{State}

-- nothing is needed
abbrev pub Always : {S : Type 0} → S → Type 0
Always s = Unit {0}

-- a change of what is seen
abbrev pub ChangesSeen : (Database → Database → Type 0) → State → State → Type 0
ChangesSeen Does old new = Does old.now new.now
