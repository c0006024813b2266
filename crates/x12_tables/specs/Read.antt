-- What a call that only reads records leaves, and what it answers.
use Rattle.std.specs.Prelude.{◌≡◌, false, Result, Ok, Err, IfOk, OnOk, IsTrue}
use Rattle.sqlite.specs.State.{State}
use Rattle.sqlite.specs.Tree.{Trees}

-- Records were only read: while the store is open, what was committed and what is seen stay, and a
-- crash leaves what it left before.
pub record OnlyReads (old new : State) : Type 0 where
  pub mode : old.in_transaction ≡ false → new.in_transaction ≡ false
  pub never_won_back : IsTrue new.is_open → IsTrue old.is_open
  pub committed : IsTrue new.is_open → new.committed ≡ old.committed
  pub same : old.now ≡ old.committed → IsTrue new.is_open → new.now ≡ old.now
  pub clean : IsTrue new.is_clean → IsTrue old.is_clean
  pub crash : IsTrue new.is_clean → (db : Trees) → new.may_leave db → old.may_leave db

-- A question to records: over a clean disk an Ok comes of a store that is open; and while it is, the
-- answer of valid records fits what was seen.
pub record Answers {A E : Type 0} (Valid : State → Type 0) (Fits : Trees → A → Type 0)
    (r : Result A E) (old new : State) : Type 0 where
  pub reads : OnlyReads old new
  pub answered : IsTrue new.is_clean → OnOk r (IsTrue new.is_open)
  pub found : Valid old → IsTrue new.is_open → IfOk r (Fits old.now.trees)

-- The answer is told as it came; an error as another one.
abbrev pub IsToldAs : {A E F : Type 0} → Result A E → Result A F → Type 0
IsToldAs (Ok x) told = told ≡ Ok x
IsToldAs (Err e) told = OnOk told ⊥
