-- A log that is one entry longer, and one that is as it was.
use Rattle.std.proofs.Common.{◌≡◌, ℕ, ◌<◌, ◌≤◌, ◌-◌, ◌^◌, List, [], ◌∷◌, ◌++◌, Bool, true, nat_lt, length, refl, IsTrue, ◌⊎◌, inl, inr, sym, ap, subst, ◌∙◌, arith}
use Rattle.std.proofs.lemmas.Bool.Decides.{nat_tests}
use Rattle.std.proofs.lemmas.Bool.{and_parts}
use Rattle.x12_core.specs.Ask.{Ask, suits}
use Rattle.x12_core.specs.Bound.{SendsAtMost}
use Rattle.x12_core.specs.Core.{Did}
use Rattle.x12_core.specs.declared.packet.Site.{Site}
use Rattle.x12_core.specs.declared.node_core.Answer.{Answer}
use Rattle.x12_core.specs.declared.node_core.Answer.TheVariants as core
use Rattle.x12_core.specs.Node.{Node}
use Rattle.x12_core.specs.Sends.{sends_view}
use Rattle.x12_nodes.specs.Cell.{CellView, IsCellRefusal, IsReplayed, IsStepRefusal, opening_node, stamp_may_follow}
use Rattle.x12_nodes.specs.declared.fault.CellFault.{CellFault}
use Rattle.x12_nodes.specs.declared.fault.CellFault.TheVariants as said
use Rattle.x12_nodes.specs.declared.opening.Opening.{Opening}
use Rattle.x12_nodes.specs.Log.{LogEntry, NodeAnswer, IsStepOf, Replays, StampsRise, last_stamp}
use Rattle.x12_nodes.specs.View.{Receipt, receipt_of}
use Rattle.x12_nodes.specs.Writing.{entry_of, IsEnoughFor}

pub replays_push : (i : Site) (a b c : Node) (es : List LogEntry) (e : LogEntry) → Replays i a es b → IsStepOf i e b c → Replays i a (es ++ e ∷ []) c
replays_push i a b c [] e was step = (c, subst (λ n. IsStepOf i e n c) was step, refl)
replays_push i a b c (x ∷ es) e was step = (was.0, was.1, replays_push i was.0 b c es e was.2 step)

rises_push : (s : ℕ) (es : List LogEntry) (e : LogEntry) → StampsRise s es → last_stamp s es < e.stamp → e.stamp < 2 ^ 64 - 1 → StampsRise s (es ++ e ∷ [])
rises_push s [] e up lt most = (lt, most, tt)
rises_push s (x ∷ es) e up lt most = (up.0, up.1, rises_push x.stamp es e up.2 lt most)

last_push : (s : ℕ) (es : List LogEntry) (e : LogEntry) → last_stamp s (es ++ e ∷ []) ≡ e.stamp
last_push s [] e = refl
last_push s (x ∷ es) e = last_push x.stamp es e

-- what a core did is a step of its entry
pub did_step : (i : Site) (stamp : ℕ) (k : Ask) (old new : Node) (did : Answer) → Did i k old new did → IsStepOf i (entry_of stamp k did) old new
did_step i stamp k old new (core.Sent s) d = (d, refl)
did_step i stamp k old new (core.Fate f) d = (d.0, refl, d.1)

-- what a core did fits into the room that was made for it
pub is_enough : (most count : ℕ) (did : Answer) → count ≡ most → SendsAtMost most did → IsEnoughFor count did
is_enough most count (core.Sent s) is few = subst (λ n. length (sends_view s) ≤ n) (sym is) few
is_enough most count (core.Fate f) is few = omega arith

may_follow_parts : (last stamp : ℕ) → stamp_may_follow last stamp ≡ true → (last < stamp) × (stamp < 2 ^ 64 - 1)
may_follow_parts last stamp e =
    let parts = and_parts (nat_lt last stamp) (nat_lt stamp (2 ^ 64 - 1)) e in
    let low = parts.0 in
    let high = parts.1 in
    (grind (arith, nat_tests), grind (arith, nat_tests))

abbrev pub cell : Site → Opening → List LogEntry → ℕ → Node → Bool → ℕ → CellView
cell site opening log last now answers failures = record { site = site; opening = opening; log = log; last = last; now = now; answers = answers; failures = failures }

-- a cell whose log has one entry more
pub replayed_more : (site : Site) (opening : Opening) (old new : Node) (log log' : List LogEntry) (last stamp : ℕ) (h h' : Bool) (f f' : ℕ) (e : LogEntry)
    → IsReplayed (cell site opening log last old h f) → (IsTrue h' → IsTrue h) → stamp_may_follow last stamp ≡ true → e.stamp ≡ stamp → log' ≡ log ++ e ∷ []
    → (IsTrue h' → IsStepOf site e old new) → IsReplayed (cell site opening log' stamp new h' f')
replayed_more site opening old new log log' last stamp h h' f f' e was still follows is longer step =
    let parts = may_follow_parts last stamp follows in
    subst (λ es. IsReplayed (cell site opening es stamp new h' f')) (sym longer) (record {
      replays = λ answers. replays_push site (opening_node opening) old new log e (was.replays (still answers)) (step answers);
      rises = rises_push 0 log e was.rises (subst (λ n. n < e.stamp) was.last (subst (λ n. last < n) (sym is) parts.0)) (subst (λ n. n < 2 ^ 64 - 1) (sym is) parts.1);
      last = sym (last_push 0 log e ∙ is);
    })

-- one that refused
pub replayed_still : (site : Site) (opening : Opening) (old new : Node) (log log' : List LogEntry) (last : ℕ) (h h' : Bool) (f f' : ℕ)
    → IsReplayed (cell site opening log last old h f) → (IsTrue h' → IsTrue h) → (IsTrue h' → new ≡ old) → log' ≡ log → IsReplayed (cell site opening log' last new h' f')
replayed_still site opening old new log log' last h h' f f' was still same kept = subst (λ es. IsReplayed (cell site opening es last new h' f')) (sym kept) (record {
  replays = λ answers. subst (λ n. Replays site (opening_node opening) log n) (sym (same answers)) (was.replays (still answers));
  rises = was.rises;
  last = was.last;
})

-- a receipt that says this is that of the entry
pub receipt_known : (node stamp : ℕ) (k : Ask) (e : LogEntry) (r : Receipt) (answer : NodeAnswer) → r ≡ record { node = node; stamp = stamp; ask = k; answer = answer } → answer ≡ e.answer → e.stamp ≡ stamp → e.ask ≡ k → r ≡ receipt_of node e
receipt_known node stamp k e r answer is told stamped asked =
    is
    ∙ ap (λ a. record { node = node; stamp = stamp; ask = k; answer = a }) told
    ∙ ap (λ s. record { node = node; stamp = s; ask = k; answer = e.answer }) (sym stamped)
    ∙ ap (λ j. record { node = node; stamp = e.stamp; ask = j; answer = e.answer }) (sym asked)

-- no copies are copies of no packets
pub copies_known : {A B : Type 0} (f : List A → List B) (copies : List A) (P : Type 0) → P ⊎ (copies ≡ []) → f [] ≡ [] → P ⊎ (f copies ≡ [])
copies_known f copies P (inl is) nothing = inl is
copies_known f copies P (inr none) nothing = inr (ap f none ∙ nothing)

-- where a step is refused, its cell refuses
pub refused_by : (c : CellView) (stamp : ℕ) (k : Ask) (f : CellFault) → suits c.site.node k c.now ≡ true → IsStepRefusal c.site.node (stamp_may_follow c.last stamp) k c.now f → IsCellRefusal c stamp k f
refused_by c stamp k said.WrongKind fits why = why
refused_by c stamp k said.Memory fits why = why
refused_by c stamp k said.WentBack fits why = (fits, why)
refused_by c stamp k (said.Core fault) fits why = why
