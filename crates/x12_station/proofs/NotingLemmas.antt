-- Records stay sound where a number alone is used; a fault of the records is one of any table.
use Rattle.std.specs.Prelude.{◌≡◌, ℕ, true, false}
use mathlib.Core.Path.{sym, ap, subst, ◌∙◌}
use native.Mathlib.Omega.{arith}
use Rattle.x12_numbers.specs.Book.{Numbers}
use Rattle.x12_profile.specs.Interchange.{book_for}
use Rattle.x12_station.specs.Plan.{Commit, TakesNumbers, stored_after}
use Rattle.x12_station.specs.Stored.{Stored, IsSound}
use Rattle.x12_station.proofs.DurableLemmas.{IsLater, sound_numbered}

pub one_later : (last : Numbers) → IsLater last (book_for last (record { reply = true; group = false }))
one_later last = record { interchange = omega arith; group = omega arith }

pub noted_fits : (s : Stored) (last book : Numbers) (seq : ℕ) (plan : Commit) → IsSound s → plan ≡ record { book = book; seq = seq; change = TakesNumbers } → seq ≡ s.seq → last ≡ s.book
    → book ≡ book_for last (record { reply = true; group = false }) → IsSound (stored_after plan s)
noted_fits s last book seq plan sound plan_is seq_is last_is book_is =
    let later : IsLater s.book book = subst (λ (x : Numbers). IsLater s.book x) (sym book_is) (subst (λ (x : Numbers). IsLater x (book_for last (record { reply = true; group = false }))) last_is (one_later last)) in
    subst (λ (q : Commit). IsSound (stored_after q s)) (sym (plan_is ∙ ap (λ n. record { book = book; seq = n; change = TakesNumbers }) seq_is)) (sound_numbered s book later sound)
