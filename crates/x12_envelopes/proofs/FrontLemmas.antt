-- What stood in front still stands there.
use Rattle.std.proofs.Common.{◌≡◌, ℕ, ◌≤◌, List, ◌++◌, length, take, drop, sym, ◌∙◌, ap, arith}
use Rattle.std.proofs.lemmas.List.{take-append-drop, take-append-le, length-take}
use Rattle.std.specs.Io.{StartsWith}

-- what begins with a list that begins with another, begins with that other
pub starts_trans : (new mid old : List ℕ) → StartsWith new mid → StartsWith mid old → StartsWith new old
starts_trans new mid old e h =
    let new_is : new ≡ mid ++ drop (length mid) new =
    sym (take-append-drop (length mid) new) ∙ ap (λ x. x ++ drop (length mid) new) e in
    let fits : length old ≤ length mid = omega (arith, length-take (length old) mid, ap length h) in
    ap (take (length old)) new_is ∙ take-append-le (length old) mid (drop (length mid) new) fits ∙ h
