-- What a call of a node's records leaves on their disk, whatever stops it: records are clean so far
-- as the disk has returned what was written. And how a call counts the failures of the device.
use Rattle.std.specs.Prelude.{◌≡◌, ◌≤◌, ℕ, ◌⊎◌, Bool, IsTrue, Result, OnOk, IfErr}
use Rattle.x12_numbers.specs.Count.{CountRose}

-- A call that only asks. A disk that returned something else is never clean again; over a clean one
-- an Ok comes of records that answer, and a stop leaves what it might have left before.
pub record OnlyAsks {A E D : Type 0} (r : Result A E) (clean_old clean_new answers : Bool)
    (left_old left_new : D → Type 0) : Type 0 where
  pub was_clean : IsTrue clean_new → IsTrue clean_old
  pub answered : IsTrue clean_new → OnOk r (IsTrue answers)
  pub left : IsTrue clean_new → (d : D) → left_new d → left_old d

-- A call that writes: the same, but a stop may leave what is written besides, whole.
pub record WritesWhole {A E D : Type 0} (written : D → Type 0) (r : Result A E)
    (clean_old clean_new answers : Bool) (left_old left_new : D → Type 0) : Type 0 where
  pub was_clean : IsTrue clean_new → IsTrue clean_old
  pub answered : IsTrue clean_new → OnOk r (IsTrue answers)
  pub left : IsTrue clean_new → (d : D) → left_new d → left_old d ⊎ written d

-- A call that counts failures of the device: never fewer than before. An Err that is the device's was
-- counted; another Err leaves the count as it was, and so does an Ok.
pub record CountsFailures {A E : Type 0} (r : Result A E) (is_device : E → Type 0) (old new : ℕ)
    : Type 0 where
  pub never_fewer : old ≤ new
  pub ok : OnOk r (new ≡ old)
  pub device : IfErr r (λ e. is_device e → CountRose old new)
  pub other : IfErr r (λ e. (is_device e → ⊥) → new ≡ old)
