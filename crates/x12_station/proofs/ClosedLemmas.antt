-- Closed submissions that are put into a ledger by rising number: which may follow, and that all that answers may name are held.
use Rattle.std.specs.Prelude.{◌≡◌, ℕ, ◌+◌, ◌<◌, ◌≤◌, ◌==◌, ◌&&◌, not, max, List, [], ◌∷◌, ◌++◌, Bool, true, false, map, Some, Contains, All, refl}
use Rattle.std.specs.List.{list_any}
use mathlib.Core.Path.{sym, ap, subst, ◌∙◌}
use mathlib.Core.Logic.{inl, inr}
use native.Mathlib.Omega.{arith}
use Rattle.std.proofs.Common.{get_or, eqb-true}
use Rattle.std.proofs.lemmas.Bool.{cases_order, and_parts}
use Rattle.std.proofs.lemmas.List.{get_or_default}
use Rattle.std.proofs.lemmas.List.Elements.{All-contains}
use Rattle.x12_envelopes.specs.declared.party.Party.{Party}
use Rattle.x12_judge.specs.Agreement.{is_same_party}
use Rattle.x12_acks.specs.Answer.{Acknowledgment, of_interchange, of_group, unclear}
use Rattle.x12_acks.specs.Submission.{Submission, SubmittedGroup, IsBefore}
use Rattle.x12_acks.proofs.FindLemmas.{one_found}
use Rattle.x12_numbers.proofs.Shelf.{found_passes, all_from_contains, none_in_nil, contains_cons, contains_head, contains_tail, contains_mapped, eq_itself, and_three}
use Rattle.x12_outbound.specs.Entry.{GroupRow, InterchangeRow, submission_of_entry, submitted_group_of_row, row_is_open}
use Rattle.x12_outbound.specs.Ledger.{OutboundLedger, LedgerRow, MayBeAdded, ledger_submissions}
use Rattle.x12_station.specs.Closed.{HoldsNumbers, HoldsClosed, above_groups, above_entries}
use Rattle.x12_station.specs.Found.{closed_for, AreFound}
use Rattle.x12_station.specs.Record.{IsSoundClosed}
use Rattle.x12_station.specs.Stored.{Stored, IsSound, entries, closed_entry, is_group_named}
use Rattle.x12_station.proofs.EntryLemmas.{entries_rise}
use Rattle.x12_station.proofs.LedgerLemmas.{one_by_key}
use Rattle.x12_station.proofs.ListLemmas.{contains_map}
use Rattle.x12_station.proofs.PieceLemmas.{sent_are}

-- Numbers.

group_below : (gs : List GroupRow) (g : GroupRow) → Contains gs g → g.number < above_groups gs
group_below [] g at = none_in_nil g at
group_below (h ∷ gs) g at = elim (contains_cons g h gs at) [
  | inl same ↦ subst (λ (x : GroupRow). x.number < max (h.number + 1) (above_groups gs)) same (omega arith)
  | inr later ↦ let lower = group_below gs g later in omega (arith, lower)
]

entry_below : (es : List InterchangeRow) (e : InterchangeRow) (g : GroupRow) → Contains es e → Contains e.groups g → g.number < above_entries es
entry_below [] e g at there = none_in_nil e at
entry_below (d ∷ es) e g at there = elim (contains_cons e d es at) [
  | inl same ↦ subst (λ (x : InterchangeRow). Contains x.groups g → g.number < max (above_groups d.groups) (above_entries es)) same (λ inside. let lower = group_below d.groups g inside in omega (arith, lower)) there
  | inr later ↦ let lower = entry_below es e g later there in omega (arith, lower)
]

groups_up_to : (m : ℕ) (gs : List GroupRow) → ((g : GroupRow) → Contains gs g → g.number < m) → above_groups gs ≤ m
groups_up_to m [] lower = omega arith
groups_up_to m (g ∷ gs) lower = let first = lower g (contains_head g gs) in let rest = groups_up_to m gs (λ h at. lower h (contains_tail h g gs at)) in omega (arith, first, rest)

entries_up_to : (m : ℕ) (es : List InterchangeRow) → ((e : InterchangeRow) (g : GroupRow) → Contains es e → Contains e.groups g → g.number < m) → above_entries es ≤ m
entries_up_to m [] lower = omega arith
entries_up_to m (e ∷ es) lower =
    let first = groups_up_to m e.groups (λ g at. lower e g (contains_head e es) at) in
    let rest = entries_up_to m es (λ d g at there. lower d g (contains_tail d e es at) there) in
    omega (arith, first, rest)

pub above_pushed : (es : List InterchangeRow) (e : InterchangeRow) → above_entries (es ++ e ∷ []) ≡ max (above_entries es) (above_groups e.groups)
above_pushed [] e = omega arith
above_pushed (d ∷ es) e = let rest = above_pushed es e in omega (arith, rest)

-- an entry whose number and whose groups' numbers are above all that are held may follow
pub may_follow : (v : OutboundLedger) (e : InterchangeRow) → IsSoundClosed e → ((r : InterchangeRow) → Contains (map (λ q. q.interchange) v.rows) r → r.icn < e.icn)
    → ((g : GroupRow) → Contains e.groups g → above_entries (map (λ q. q.interchange) v.rows) ≤ g.number) → MayBeAdded v e
may_follow v e sound higher above = record {
  sendable = sound.sendable v.me;
  after = all_from_contains (λ s. IsBefore s (submission_of_entry v.me e)) (ledger_submissions v) (λ s at.
      let held = map (λ (q : LedgerRow). q.interchange) v.rows in
      let r = contains_map (submission_of_entry v.me) held s (subst (λ l. Contains l s) (sent_are v.me v.rows) at) in
      subst (λ x. IsBefore x (submission_of_entry v.me e)) r.2 (record {
        interchange = higher r.0 r.1;
        groups = all_from_contains (λ g. All (λ h. g.number < h.number) (map submitted_group_of_row e.groups)) (map submitted_group_of_row r.0.groups) (λ g in_r.
            all_from_contains (λ h. g.number < h.number) (map submitted_group_of_row e.groups) (λ h in_e.
            let p = contains_map submitted_group_of_row r.0.groups g in_r in
            let q = contains_map submitted_group_of_row e.groups h in_e in
            let low = entry_below held r.0 p.0 r.1 p.1 in
            let high = above q.0 q.1 in
            subst (λ (x : SubmittedGroup). x.number < h.number) p.2 (subst (λ (x : SubmittedGroup). p.0.number < x.number) q.2 (omega (arith, low, high)))));
      }));
}

-- a closed submission has the number that it is found by
pub number_of_closed : (s : Stored) (n : ℕ) (e : InterchangeRow) → closed_entry s n ≡ Some e → e.icn ≡ n
number_of_closed s n e is =
    let passes = found_passes (λ (e : InterchangeRow). e.icn == n && not (row_is_open e)) (entries s) e is in
    eqb-true e.icn n (and_parts (e.icn == n) (not (row_is_open e)) passes.1).0

-- Records that answer.

module _ (s : Stored) (sound : IsSound s) where
  pub one_stored : (e d : InterchangeRow) → Contains (entries s) e → Contains (entries s) d → e.icn ≡ d.icn → e ≡ d
  one_stored = one_by_key (λ (e : InterchangeRow). e.icn) (entries s) (entries_rise s sound)

  pub closed_is : (n : ℕ) (e : InterchangeRow) → closed_entry s n ≡ Some e → Contains (entries s) e × (e.icn ≡ n) × (row_is_open e ≡ false)
  closed_is n e is =
      let passes = found_passes (λ (e : InterchangeRow). e.icn == n && not (row_is_open e)) (entries s) e is in
      let tests = and_parts (e.icn == n) (not (row_is_open e)) passes.1 in
      (passes.0, eqb-true e.icn n tests.0, turned (row_is_open e) tests.1)
    where
      turned : (b : Bool) → not b ≡ true → b ≡ false
      turned true is = absurd (let no : ⊥ = cc in no)
      turned false is = refl

  -- of two entries the one of the lower number has the lower groups' numbers
  pub lower_groups : (me : Party) (e d : InterchangeRow) → Contains (entries s) e → Contains (entries s) d → e.icn < d.icn → (g h : GroupRow) → Contains e.groups g → Contains d.groups h → g.number < h.number
  lower_groups me e d at_e at_d lower g h in_e in_d =
      let all = map (submission_of_entry me) (entries s) in
      let x = contains_mapped (submission_of_entry me) (entries s) e at_e in
      let y = contains_mapped (submission_of_entry me) (entries s) d at_d in
      let before = first x y in
      All-contains (λ (q : SubmittedGroup). g.number < q.number) (map submitted_group_of_row d.groups) (submitted_group_of_row h)
      (All-contains (λ (p : SubmittedGroup). All (λ (q : SubmittedGroup). p.number < q.number) (map submitted_group_of_row d.groups)) (map submitted_group_of_row e.groups) (submitted_group_of_row g) before.groups (contains_mapped submitted_group_of_row e.groups g in_e))
      (contains_mapped submitted_group_of_row d.groups h in_d)
    where
      sent : List Submission
      sent = map (submission_of_entry me) (entries s)

      first : Contains (map (submission_of_entry me) (entries s)) (submission_of_entry me e) → Contains (map (submission_of_entry me) (entries s)) (submission_of_entry me d) → IsBefore (submission_of_entry me e) (submission_of_entry me d)
      first x y = elim (cases_order x.0 y.0) [
        | inl same ↦
            let alike : submission_of_entry me e ≡ submission_of_entry me d = sym x.2 ∙ get_or_default (map (submission_of_entry me) (entries s)) x.0 (submission_of_entry me e) (submission_of_entry me d) x.1 ∙ ap (λ k. get_or (map (submission_of_entry me) (entries s)) k (submission_of_entry me d)) same ∙ y.2 in
            let icn : e.icn ≡ d.icn = ap (λ (z : Submission). z.icn) alike in
            absurd (omega (arith, icn, lower))
        | inr (inl less) ↦
            subst (λ z. IsBefore z (submission_of_entry me d)) x.2 (subst (λ z. IsBefore (get_or (map (submission_of_entry me) (entries s)) x.0 (submission_of_entry me e)) z)
            (get_or_default (map (submission_of_entry me) (entries s)) y.0 (submission_of_entry me e) (submission_of_entry me d) y.1 ∙ y.2) ((sound.in_order me).before x.0 y.0 (submission_of_entry me e) less y.1))
        | inr (inr more) ↦
            let back = subst (λ z. IsBefore z (submission_of_entry me e)) y.2 (subst (λ z. IsBefore (get_or (map (submission_of_entry me) (entries s)) y.0 (submission_of_entry me d)) z)
            (get_or_default (map (submission_of_entry me) (entries s)) x.0 (submission_of_entry me d) (submission_of_entry me e) x.1 ∙ x.2) ((sound.in_order me).before y.0 x.0 (submission_of_entry me d) more x.1)) in
            let higher = back.interchange in
            absurd (omega (arith, higher, lower))
      ]

  -- so the groups of the next closed one are above those that are held
  pub closed_above : (held : List InterchangeRow) (e : InterchangeRow) → ((r : InterchangeRow) → Contains held r → Contains (entries s) r) → ((r : InterchangeRow) → Contains held r → r.icn < e.icn) → Contains (entries s) e
      → (g : GroupRow) → Contains e.groups g → above_entries held ≤ g.number
  closed_above held e stored lower at g there = entries_up_to g.number held (λ d h in_held in_d. lower_groups nobody_at d e (stored d in_held) at (lower d in_held) h g in_d there)
    where
      nobody_at : Party
      nobody_at = record { qualifier = []; id = [] }

  -- what is named is found by its number
  pub named_closed : (from : Party) (a : Acknowledgment) (e : InterchangeRow) → closed_for s from a ≡ Some e → closed_entry s e.icn ≡ Some e
  named_closed from (of_interchange icn code note) e is = let its = closed_is icn e is in subst (λ n. closed_entry s n ≡ Some e) (sym its.1) is
  named_closed from (of_group a) e is =
      let passes = found_passes (λ (e : InterchangeRow). is_same_party e.receiver from && list_any (is_group_named a.functional a.number) e.groups && not (row_is_open e)) (entries s) e is in
      let its = and_three (is_same_party e.receiver from) (list_any (is_group_named a.functional a.number) e.groups) (not (row_is_open e)) passes.1 in
      one_found (λ (d : InterchangeRow). d.icn == e.icn && not (row_is_open d)) (entries s) e
      (λ x y at_x at_y is_x is_y. one_stored x y at_x at_y (eqb-true x.icn e.icn (and_parts (x.icn == e.icn) (not (row_is_open x)) is_x).0 ∙ sym (eqb-true y.icn e.icn (and_parts (y.icn == e.icn) (not (row_is_open y)) is_y).0)))
      passes.0 (rw (eq_itself e.icn, its.2) refl)
  named_closed from unclear e is = absurd (let no : ⊥ = cc in no)

  pub are_found : (from : Party) (answers : List Acknowledgment) (numbers : List ℕ) (held : List InterchangeRow) → HoldsNumbers s from answers numbers → HoldsClosed s numbers held → AreFound s from answers held
  are_found from answers numbers held named holds = record {
    stored = holds.stored;
    named = λ a e at is. holds.numbered e.icn e (named a e at is) (named_closed from a e is);
  }
