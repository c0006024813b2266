use Rattle.std.proofs.Common.{◌≡◌, Bool, true, false, ap, sym, ◌∙◌}
use Rattle.x12_acks.specs.Key.{key_view}
use Rattle.x12_outbound.specs.Counts.{with_piece}
use Rattle.x12_outbound.specs.Ledger.{LedgerInMemory}
use Rattle.x12_outbound.proofs.SettleLemmas.{Used, idle_of, aims_of, used, can_lift, is_then_lifted, can_settle}
use Rattle.x12_outbound.proofs.ledger.Ledger.use_piece.Goals as goal
use Rattle.x12_outbound.proofs.ledger.Ledger.use_piece.Goals.{After-count}

-- a piece without a target is counted as it was found
pub returns-in_default-clause-fates : goal.returns-in_default-clause-fates
returns-in_default-clause-fates c k = (idle_of _ c.args.evidence c.requires.settles (sym c.in_default.ensures)).same k

pub returns-in_default-clause-counts : goal.returns-in_default-clause-counts
returns-in_default-clause-counts c = c.shelve.ensures ∙ ap (with_piece c.args.counts.now) (idle_of _ c.args.evidence c.requires.settles (sym c.in_default.ensures)).counted

-- a set that the piece aims at can be lifted
not_both : {b : Bool} → b ≡ false → b ≡ true → ⊥
not_both f t = cc

pub returns-in_default-lift : goal.returns-in_default-lift
returns-in_default-lift c = absurd (not_both (sym c.in_default-lift.ensures.lifts) (can_lift c.args.self.now.holds c.args.evidence (key_view c.in-Some.key) c.in-Some.field-0-1 c.requires.settles c.in-Some.ensures c.requires.none_out))

pub close-requires : goal.close-requires
close-requires c =
    is_then_lifted c.args.self.now.holds c.args.evidence (key_view c.in-Some.key) c.in-Some.field-0-1 _ _ c.requires.settles c.in-Some.ensures c.requires.none_out
    (ap (λ (v : LedgerInMemory). v.holds) c.in-Some-lift.ensures.out) (c.in-Ok.ensures.key ∙ c.in-Some-lift.ensures.key)

-- and the piece settles it
pub lay-requires : goal.lay-requires
lay-requires c =
    absurd (can_settle c.args.self.now.holds c.args.evidence (key_view c.in-Some.key) c.in-Some.field-0-1 c.in-Some-lift.open c.requires.settles c.in-Some.ensures c.requires.named
    c.in-Some-lift.ensures.set c.in-Some-lift.ensures.hubs c.in-Err.ensures.other)

pub returns-in-Err : goal.returns-in-Err
returns-in-Err c =
    absurd (can_settle c.args.self.now.holds c.args.evidence (key_view c.in-Some.key) c.in-Some.field-0-1 c.in-Some-lift.open c.requires.settles c.in-Some.ensures c.requires.named
    c.in-Some-lift.ensures.set c.in-Some-lift.ensures.hubs c.in-Err.ensures.other)

settled : (c : After-count) → Used c.args.self.now.holds c.args.evidence c.close.new.self.holds
settled c =
    used c.args.self.now.holds c.args.evidence (key_view c.in-Some.key) c.in-Some.field-0-1 c.in-Some-lift.open c.in-Ok.set c.lift.new.self.holds c.close.new.self.holds
    c.requires.settles c.in-Some.ensures c.requires.none_out
    (ap (λ (v : LedgerInMemory). v.holds) c.in-Some-lift.ensures.out) c.in-Some-lift.ensures.key c.in-Ok.ensures.key c.in-Ok.ensures.fate (ap (λ (v : LedgerInMemory). v.holds) c.close.ensures)

pub returns-in-Ok-clause-fates : goal.returns-in-Ok-clause-fates
returns-in-Ok-clause-fates c = (settled c).fates_are

pub returns-in-Ok-clause-counts : goal.returns-in-Ok-clause-counts
returns-in-Ok-clause-counts c =
    c.count.ensures ∙ ap (with_piece c.args.counts.now) (sym (aims_of _ c.args.evidence _ c.in-Some.field-0-1 c.requires.settles c.in-Some.ensures).settles)

pub returns-in-Ok-clause-kept : goal.returns-in-Ok-clause-kept
returns-in-Ok-clause-kept c = (settled c).kept

pub returns-in-Ok-clause-numbers : goal.returns-in-Ok-clause-numbers
returns-in-Ok-clause-numbers c = (settled c).numbers

pub returns-in-Ok-clause-none_out : goal.returns-in-Ok-clause-none_out
returns-in-Ok-clause-none_out c = (settled c).none_out
