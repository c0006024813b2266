use Rattle.std.proofs.Common.{ℕ, ◌≤◌, ◌<◌, ◌^◌, ◌-◌, ◌∙◌, sym, arith}
use Rattle.std.proofs.lemmas.Nat.{pow_below, one_shl}
use Rattle.std.proofs.Math.Nat.{min-eq_left, min-eq_right, pow-le-pow_right}
use Rattle.x12_outbound.proofs.schedule.wait.Goals as goal

-- from the seventh sending on, the doubled wait is no shorter than the longest
long : (n : ℕ) → 6 < n → 64 ≤ 2 ^ (n - 1)
long n more = pow-le-pow_right {n = 2} (omega arith) {i = 6} {j = n - 1} (omega arith)

short : (n : ℕ) → n ≤ 6 → 2 ^ (n - 1) ≤ 64
short n few = omega (arith, pow_below (n - 1) 6 (omega arith))

pub returns-then-sendings-gt6 : goal.returns-then-sendings-gt6
returns-then-sendings-gt6 c = sym (min-eq_right (long c.args.sendings c.if-sendings-gt6.true))

pub returns-else-sendings-gt6 : goal.returns-else-sendings-gt6
returns-else-sendings-gt6 c = one_shl (c.args.sendings - 1) 64 (omega arith) ∙ sym (min-eq_left (short c.args.sendings c.if-sendings-gt6.false))
