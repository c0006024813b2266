-- A set that waits may be laid back, or closed, once it is lifted.
use Rattle.std.proofs.Common.{◌≡◌, ◌&&◌, sym, Bool, true, false, not, Option, Some, None, option_map, refl}
use Rattle.x12_acks.specs.Submission.{TransactionSetKey}
use Rattle.x12_outbound.specs.Entry.{SetRow}
use Rattle.x12_outbound.specs.Fate.{is_pending}
use Rattle.x12_outbound.specs.Ledger.{LedgerInMemory, row_of, can_be_lifted, is_lifted, lifted, with_row}
use Rattle.x12_outbound.proofs.FateLemmas.{row_changed}

and_true : (a b : Bool) → (a && b) ≡ true → (a && true) ≡ true
and_true true b both = refl
and_true false b both = both

lifted_once : (o : Option SetRow) → can_be_lifted o ≡ true → is_lifted (option_map lifted o) ≡ true
lifted_once None waits = absurd (cc)
lifted_once (Some s) waits = and_true (is_pending s.fate) (not s.is_out) waits

pub is_out : (v w : LedgerInMemory) (key : TransactionSetKey) (k j : TransactionSetKey) → w ≡ record v { holds = with_row lifted key v.holds } → key ≡ j → k ≡ j
    → true ≡ can_be_lifted (row_of v.holds key) → is_lifted (row_of w.holds k) ≡ true
unfolding with_row
is_out v w key k j out at same waits =
    rw (out, same, ← at, row_changed lifted v.holds.me key v.holds.rows) (lifted_once (row_of v.holds key) (sym waits))
