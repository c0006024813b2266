-- Records that were asked twice, and what stands after a call.
use mathlib.Core.Path.{refl, ◌∙◌}
use native.Mathlib.Omega.{arith}
use Rattle.x12_outbound.specs.Hubs.{hubs_of}
use Rattle.x12_outbound.specs.Ledger.{OutboundLedger}
use Rattle.x12_outbound.specs.declared.hubs.Hubs.{Hubs}
use Rattle.x12_station.specs.declared.records.Records.{Ghosts}
use Rattle.std.specs.Prelude.{◌≡◌, List, IsTrue, Result, Ok, Err, OnErr, OnOk}
use mathlib.Core.Logic.{inl, inr}
use mathlib.Core.Path.{ap, subst, sym}
use Rattle.x12_envelopes.specs.declared.party.Party.{Party}
use Rattle.x12_station.specs.declared.cached.Cached.{Cached}
use Rattle.x12_station.specs.Durable.{IsHistoryOf}
use Rattle.x12_station.specs.Keeps.{memory_of}
use Rattle.x12_station.specs.Plan.{Commit, stored_after}
use Rattle.x12_station.specs.Stored.{Stored}
use Rattle.x12_station.specs.Standing.{WereAsked, LeavesHistory, LeavesNoMore, MayLeave}

pub not_asked : {R : Type 0} {g : Ghosts R} {a : R} → g.valid a → WereAsked g a a
not_asked valid = record {
  valid = valid;
  counted = omega arith;
  never_won_back = λ answers. answers;
  same = λ _. refl;
  leaves = record { was_clean = λ clean. clean; left = λ _ _ may. may };
}

pub asked_again : {R : Type 0} {g : Ghosts R} {a b c : R} → WereAsked g a b → WereAsked g b c → WereAsked g a c
asked_again first next = record {
  valid = next.valid;
  counted = let x = first.counted in let y = next.counted in omega (arith, x, y);
  never_won_back = λ answers. first.never_won_back (next.never_won_back answers);
  same = λ answers. next.same answers ∙ first.same (next.never_won_back answers);
  leaves = record {
    was_clean = λ clean. first.leaves.was_clean (next.leaves.was_clean clean);
    left = λ clean d may. first.leaves.left (next.leaves.was_clean clean) d (next.leaves.left clean d may);
  };
}

-- what a station wrote before is so after a call that asked
pub still_left : {R : Type 0} (g : Ghosts R) (me : Party) (hubs : List Party) {a b : R} → LeavesNoMore g a b → LeavesHistory g me hubs a → LeavesHistory g me hubs b
still_left g me hubs leaves before clean d may = before (leaves.was_clean clean) d (leaves.left clean d may)

-- and after a commit of what it may write
pub left_after : {R A E : Type 0} (g : Ghosts R) (me : Party) (hubs : List Party) (plan : Commit) {r : Result A E} {a b : R} → MayLeave g plan r a b → LeavesHistory g me hubs a
    → (IsTrue (g.answers a) → IsHistoryOf me hubs (stored_after plan (g.content a))) → LeavesHistory g me hubs b
left_after g me hubs plan leaves before durable clean d may = elim (leaves.left clean d may) [
  | inl old ↦ before (leaves.was_clean clean) d old
  | inr done ↦ subst (IsHistoryOf me hubs) (sym done.1) (durable done.0)
]

-- where it is an Ok, what follows from what stands follows
pub on_ok_so : {A E : Type 0} (r : Result A E) (P Q : Type 0) → OnOk r (P → Q) → P → OnOk r Q
on_ok_so (Ok x) P Q so p = so p
on_ok_so (Err e) P Q so p = tt

-- records that answer leave what they hold, which a station wrote
pub left_held : {R : Type 0} (g : Ghosts R) (me : Party) (hubs : List Party) (a : R) → (IsTrue (g.clean a) → IsTrue (g.answers a))
    → ((d : Stored) → IsTrue (g.answers a) → g.may_leave a d → d ≡ g.content a) → (IsTrue (g.answers a) → IsHistoryOf me hubs (g.content a)) → LeavesHistory g me hubs a
left_held g me hubs a answered law wrote clean d may =
    let answers = answered clean in
    subst (IsHistoryOf me hubs) (sym (law d answers may)) (wrote answers)

-- of the same party and hubs
pub left_of : {R : Type 0} (g : Ghosts R) (me : Party) (hubs : Hubs) (me' : Party) (hubs' : Hubs) {a : R} → me' ≡ me → hubs' ≡ hubs → LeavesHistory g me (hubs_of hubs) a → LeavesHistory g me' (hubs_of hubs') a
left_of g me hubs me' hubs' p q left = rw (p, q) left

-- where it is an Err, what holds anyway holds
pub refused_so : {A E : Type 0} (r : Result A E) {P : Type 0} → P → OnErr r P
refused_so (Ok x) p = tt
refused_so (Err e) p = p

-- memory whose ledger holds the same is as it was
pub same_holds : (m : Cached) (h : OutboundLedger) → h ≡ m.ledger.holds → record (memory_of m) { ledger = h } ≡ memory_of m
same_holds m h same = ap (λ (x : OutboundLedger). record (memory_of m) { ledger = x }) same
