-- A law of records whose store is open: the disk has returned what was written.
use Rattle.std.proofs.Common.{◌≡◌, ◌∙◌, Bool, true, false, refl, sym, IsTrue}

-- what is shut where it is dirty is clean where it is open
pub clean_of : (clean is_open : Bool) → (clean ≡ false → is_open ≡ false) → IsTrue is_open → IsTrue clean
clean_of true is_open law open1 = refl
clean_of false is_open law open1 = absurd (let shut = law refl in let clash = sym open1 ∙ shut in cc)
