-- What is gathered before it is written, and what a writer took of it.
use Rattle.std.specs.Prelude.{◌≡◌, ℕ, List, ◌++◌, Option}
use Rattle.std.specs.Io.KnownBytes.{Appends}

-- gathered bytes move to a writer: a front of them is appended to what it held, the rest is kept
pub record MovesBytes (old new : Option (List ℕ)) (gathered kept : List ℕ) : Type 0 where
  pub moved : List ℕ
  pub appended : Appends old new moved
  pub parted : gathered ≡ moved ++ kept

-- a front of these bytes is appended to what a writer held, and no more of them
pub record AppendsFront (old new : Option (List ℕ)) (bytes : List ℕ) : Type 0 where
  pub front : List ℕ
  pub rest : List ℕ
  pub appended : Appends old new front
  pub parted : bytes ≡ front ++ rest
