-- One piece of evidence, used by its ledger: what it does to the fates.
use Rattle.std.proofs.Common.{◌≡◌, ◌==◌, ◌∙◌, ap, sym, subst, inl, inr, true, false, not, List, map, Option, Some, None, IfSome, option_map, refl}
use Rattle.std.proofs.lemmas.Bool.{cases_Bool}
use Rattle.x12_envelopes.specs.declared.party.Party.{Party}
use Rattle.x12_judge.specs.Agreement.{is_same_party}
use Rattle.x12_acks.specs.Submission.{TransactionSetKey}
use Rattle.x12_acks.specs.Evidence.{Evidence, FinalFate, accepted, noted, rejected}
use Rattle.x12_outbound.specs.declared.fate.Fate.{Fate}
use Rattle.x12_outbound.specs.declared.fate.Fate.TheVariants.{Pending, Accepted, Noted, Rejected}
use Rattle.x12_outbound.specs.Piece.{Finding, Settles, Repeats, Conflicts, Unmatched, SetStatement, PlannedPiece}
use Rattle.x12_acks.specs.Key.{is_same_key}
use Rattle.x12_outbound.specs.Fate.{ended}
use Rattle.x12_outbound.specs.Entry.{SetRow}
use Rattle.x12_outbound.specs.Matching.{LiftedSet, SettledSet, stated, is_about, settled_by}
use Rattle.x12_outbound.specs.Counts.{shelved_finding}
use Rattle.x12_outbound.specs.Settling.{Fates, finding_by_fate, finding, with_fate, fates_by, fates_after, target_by, target_of}
use Rattle.x12_outbound.specs.Ledger.{LedgerRow, OutboundLedger, row_in, row_of, fates, numbers_of, with_set_of, with_row, lifted, closed, can_be_lifted, is_lifted, NoneIsOut}
use Rattle.x12_outbound.specs.Plan.{KeepsSubmissions, names_what_it_settles, is_settling}
use Rattle.x12_outbound.proofs.FirstEvidenceLemmas.{same_key}
use Rattle.x12_outbound.proofs.FateLemmas.{row_changed, row_kept, numbers_changed}
use Rattle.x12_outbound.proofs.LedgerLemmas.{sent_by_changed, map_same}

-- a piece with no target changes no fate, and is counted as it was found
pub record Idle (fs : Fates) (p : PlannedPiece) : Type 0 where
  pub counted : shelved_finding p.finding ≡ p.finding
  pub same : (k : TransactionSetKey) → fs k ≡ fates_after fs (stated p.statement) k

-- a piece that settles nothing leaves the fates as they are
pub stays : (x : Finding) (fs : Fates) (e : Evidence) (k : TransactionSetKey) → false ≡ is_settling x → fs k ≡ fates_by x fs e k
stays Settles fs e k not = absurd (let no : ⊥ = cc in no)
stays Repeats fs e k not = refl
stays Conflicts fs e k not = refl
stays Unmatched fs e k not = refl

pub settling_is : (x : Finding) → true ≡ is_settling x → x ≡ Settles
settling_is Settles is = refl
settling_is Repeats is = absurd (let no : ⊥ = cc in no)
settling_is Conflicts is = absurd (let no : ⊥ = cc in no)
settling_is Unmatched is = absurd (let no : ⊥ = cc in no)

pub idle : (fs : Fates) (statement : Option SetStatement) (f : Finding) → is_settling f ≡ is_settling (finding fs (stated statement))
    → target_by f (stated statement) ≡ None → Idle fs (record { statement = statement; finding = f })
unfolding finding
idle fs None Settles found none = absurd (settles_unmatched found)
  where
    settles_unmatched : true ≡ false → ⊥
    settles_unmatched same = cc
idle fs None Repeats found none = record { counted = refl; same = λ k. refl }
idle fs None Conflicts found none = record { counted = refl; same = λ k. refl }
idle fs None Unmatched found none = record { counted = refl; same = λ k. refl }
idle fs (Some s) Settles found none = absurd (some_none none)
  where
    some_none : {X : Type 0} {x : X} → Some x ≡ None → ⊥
    some_none same = cc
idle fs (Some s) Repeats found none = record { counted = refl; same = λ k. stays (finding fs (stated (Some s))) fs (stated (Some s)) k found }
idle fs (Some s) Conflicts found none = record { counted = refl; same = λ k. stays (finding fs (stated (Some s))) fs (stated (Some s)) k found }
idle fs (Some s) Unmatched found none = record { counted = refl; same = λ k. stays (finding fs (stated (Some s))) fs (stated (Some s)) k found }

-- a piece with a target is a statement about a pending set
pub record Aims (fs : Fates) (p : PlannedPiece) (about : TransactionSetKey) : Type 0 where
  pub statement : SetStatement
  pub is : p.statement ≡ Some statement
  pub settles : p.finding ≡ Settles
  pub key : about ≡ statement.key
  pub pending : fs about ≡ Some Pending

pending_from_settles : (o : Option Fate) (fate : FinalFate) → Settles ≡ finding_by_fate o fate → o ≡ Some Pending
pending_from_settles None accepted same = absurd (let no : ⊥ = cc in no)
pending_from_settles None noted same = absurd (let no : ⊥ = cc in no)
pending_from_settles None rejected same = absurd (let no : ⊥ = cc in no)
pending_from_settles (Some Pending) fate same = refl
pending_from_settles (Some Accepted) accepted same = absurd (let no : ⊥ = cc in no)
pending_from_settles (Some Accepted) noted same = absurd (let no : ⊥ = cc in no)
pending_from_settles (Some Noted) accepted same = absurd (let no : ⊥ = cc in no)
pending_from_settles (Some Noted) noted same = absurd (let no : ⊥ = cc in no)
pending_from_settles (Some Noted) rejected same = absurd (let no : ⊥ = cc in no)
pending_from_settles (Some Accepted) rejected same = absurd (let no : ⊥ = cc in no)
pending_from_settles (Some Rejected) accepted same = absurd (let no : ⊥ = cc in no)
pending_from_settles (Some Rejected) noted same = absurd (let no : ⊥ = cc in no)
pending_from_settles (Some Rejected) rejected same = absurd (let no : ⊥ = cc in no)

pub aims : (fs : Fates) (statement : Option SetStatement) (f : Finding) (about : TransactionSetKey) (fate : Fate) → is_settling f ≡ is_settling (finding fs (stated statement))
    → Some (about, fate) ≡ target_by f (stated statement) → Aims fs (record { statement = statement; finding = f }) about
unfolding finding
aims fs None Settles about fate found target = absurd (let no : ⊥ = cc in no)
aims fs None Repeats about fate found target = absurd (let no : ⊥ = cc in no)
aims fs None Conflicts about fate found target = absurd (let no : ⊥ = cc in no)
aims fs None Unmatched about fate found target = absurd (let no : ⊥ = cc in no)
aims fs (Some s) Repeats about fate found target = absurd (let no : ⊥ = cc in no)
aims fs (Some s) Conflicts about fate found target = absurd (let no : ⊥ = cc in no)
aims fs (Some s) Unmatched about fate found target = absurd (let no : ⊥ = cc in no)
aims fs (Some s) Settles about fate found target =
    let pair : (about, fate) ≡ (s.key, ended (s.fate)) = cc in
    let same : about ≡ s.key = ap (λ (t : TransactionSetKey × Fate). t.0) pair in
    record { statement = s; is = refl; settles = refl; key = same; pending = rw same (pending_from_settles _ _ (sym (settling_is (finding fs (stated (Some s))) found))) }

-- the row of a pending set
pub record PendingRow (v : OutboundLedger) (key : TransactionSetKey) : Type 0 where
  pub row : SetRow
  pub is : row_of v key ≡ Some row
  pub pending : row.fate ≡ Pending
  pub inside : row.is_out ≡ false

pub pending_row : (v : OutboundLedger) (key : TransactionSetKey) → fates v key ≡ Some Pending → NoneIsOut v → PendingRow v key
pending_row v key pending none_out = go (row_of v key) refl pending (none_out key)
  where
    go : (o : Option SetRow) → row_of v key ≡ o → option_map (λ (s : SetRow). s.fate) o ≡ Some Pending → IfSome o (λ s. s.is_out ≡ false) → PendingRow v key
    go None at fate inside = absurd (let no : ⊥ = cc in no)
    go (Some s) at fate inside = record { row = s; is = at; pending = cc; inside = inside }

pub waits : (v : OutboundLedger) (key : TransactionSetKey) → PendingRow v key → can_be_lifted (row_of v key) ≡ true
waits v key r = rw (r.is, r.pending, r.inside) refl

pub lifted_row : (v : OutboundLedger) (key : TransactionSetKey) → PendingRow v key → is_lifted (row_of (with_row lifted key v) key) ≡ true
unfolding with_row
lifted_row v key r = rw (row_changed lifted v.me key v.rows, r.is, r.pending) refl

-- only the sender's own sets have rows
row_mine : (me : Party) (rows : List LedgerRow) (key : TransactionSetKey) (s : SetRow) → row_in me rows key ≡ Some s → is_same_party key.sender me ≡ true
unfolding row_in
row_mine me rows key s found = elim (cases_Bool (is_same_party key.sender me)) [
  | inl mine ↦ mine
  | inr other ↦ absurd (none_some (rw other at found))
]
  where
    none_some : None ≡ Some s → ⊥
    none_some same = cc

pub record Settled (v : OutboundLedger) (key : TransactionSetKey) (fate : FinalFate) (new : OutboundLedger) : Type 0 where
  pub fates_are : (k : TransactionSetKey) → fates new k ≡ with_fate (fates v) key fate k
  pub kept : KeepsSubmissions v new
  pub numbers : (k : TransactionSetKey) → numbers_of new k ≡ numbers_of v k
  pub none_out : NoneIsOut new

pub settled : (v : OutboundLedger) (key : TransactionSetKey) (fate : FinalFate) → PendingRow v key → NoneIsOut v
    → Settled v key fate (with_row (closed fate) key (with_row lifted key v))
unfolding with_row with_fate
settled v key fate r none_out =
    let rows = map (with_set_of (closed fate) key) (map (with_set_of lifted key) v.rows) in
    let mine = row_mine v.me v.rows key r.row r.is in
    let here : row_in v.me rows key ≡ Some (closed fate (lifted r.row)) =
    row_changed (closed fate) v.me key (map (with_set_of lifted key) v.rows) ∙ ap (option_map (closed fate)) (row_changed lifted v.me key v.rows ∙ ap (option_map lifted) r.is) in
    let there : (k : TransactionSetKey) → is_same_key key k ≡ false → row_in v.me rows k ≡ row_in v.me v.rows k =
    λ k differ. row_kept (closed fate) v.me key k (map (with_set_of lifted key) v.rows) mine differ ∙ row_kept lifted v.me key k v.rows mine differ in
    let fate_of = λ (s : SetRow). s.fate in
    record {
      fates_are = λ k. elim (cases_Bool (is_same_key key k)) [
        | inl same ↦ rw same (ap (option_map fate_of) (ap (row_in v.me rows) (sym (same_key key k same)) ∙ here))
        | inr differ ↦ rw differ (ap (option_map fate_of) (there k differ))
      ];
      kept = record {
        me = refl;
        hubs = refl;
        tick = refl;
        submitted = sent_by_changed (closed fate) (λ s. refl) v.me key (map (with_set_of lifted key) v.rows) ∙ sent_by_changed lifted (λ s. refl) v.me key v.rows;
        schedules = same_schedules (closed fate) key (map (with_set_of lifted key) v.rows) ∙ same_schedules lifted key v.rows;
      };
      numbers = λ k. numbers_changed (closed fate) (λ s. refl) v.me key k (map (with_set_of lifted key) v.rows) ∙ numbers_changed lifted (λ s. refl) v.me key k v.rows;
      none_out = λ k. elim (cases_Bool (is_same_key key k)) [
        | inl same ↦ rw (ap (row_in v.me rows) (sym (same_key key k same)) ∙ here) refl
        | inr differ ↦ rw (there k differ) (none_out k)
      ];
    }
  where
    same_schedule : (f : SetRow → SetRow) (key : TransactionSetKey) (r : LedgerRow) → (with_set_of f key r).schedule ≡ r.schedule
    same_schedule f key r = elim (cases_Bool (r.interchange.icn == key.icn)) [
      | inl is ↦ rw is refl
      | inr not ↦ rw not refl
    ]

    same_schedules : (f : SetRow → SetRow) (key : TransactionSetKey) (rows : List LedgerRow) → map (λ (r : LedgerRow). r.schedule) (map (with_set_of f key) rows) ≡ map (λ (r : LedgerRow). r.schedule) rows
    same_schedules f key rows = map_same (λ (r : LedgerRow). r.schedule) (with_set_of f key) (same_schedule f key) rows

-- the same of a planned piece
pub idle_of : (fs : Fates) (p : PlannedPiece) → is_settling p.finding ≡ is_settling (finding fs (stated p.statement)) → target_of p ≡ None → Idle fs p
idle_of fs p found none = idle fs p.statement p.finding found none

pub aims_of : (fs : Fates) (p : PlannedPiece) (about : TransactionSetKey) (fate : Fate) → is_settling p.finding ≡ is_settling (finding fs (stated p.statement))
    → Some (about, fate) ≡ target_of p → Aims fs p about
aims_of fs p about fate found target = aims fs p.statement p.finding about fate found target

-- the fate that evidence gives a set is the one that it tells
fate_told : (o : LiftedSet) (p : PlannedPiece) (s : SetStatement) (f : FinalFate) → p.statement ≡ Some s → settled_by o p ≡ Some f → s.fate ≡ f
unfolding settled_by
fate_told o p s f is told = elim (cases_Bool (is_about o.hubs o.numbers s)) [
  | inl about ↦ same (rw (is, about) at told)
  | inr other ↦ absurd (none_some (rw (is, other) at told))
]
  where
    same : Some s.fate ≡ Some f → s.fate ≡ f
    same eq = cc

    none_some : None ≡ Some f → ⊥
    none_some eq = cc

-- what a used piece leaves
pub record Used (v : OutboundLedger) (p : PlannedPiece) (new : OutboundLedger) : Type 0 where
  pub fates_are : (k : TransactionSetKey) → fates new k ≡ fates_after (fates v) (stated p.statement) k
  pub kept : KeepsSubmissions v new
  pub numbers : (k : TransactionSetKey) → numbers_of new k ≡ numbers_of v k
  pub none_out : NoneIsOut new

used_settled : (v : OutboundLedger) (p : PlannedPiece) (about : TransactionSetKey) (aim : Aims (fates v) p about) (new : OutboundLedger)
    → is_settling p.finding ≡ is_settling (finding (fates v) (stated p.statement)) → Settled v about aim.statement.fate new → Used v p new
used_settled v p about aim new found done = record {
  fates_are = λ k. done.fates_are k ∙ sym (after k);
  kept = done.kept;
  numbers = done.numbers;
  none_out = done.none_out;
}
  where
    settles : finding (fates v) (stated p.statement) ≡ Settles
    settles = settling_is (finding (fates v) (stated p.statement)) (sym (ap is_settling aim.settles) ∙ found)

    after : (k : TransactionSetKey) → fates_after (fates v) (stated p.statement) k ≡ with_fate (fates v) about aim.statement.fate k
    after k = rw settles (rw (aim.is, aim.key) refl)

pub used : (v : OutboundLedger) (p : PlannedPiece) (key : TransactionSetKey) (fate : Fate) (o : LiftedSet) (set : SettledSet) (mid new : OutboundLedger)
    → is_settling p.finding ≡ is_settling (finding (fates v) (stated p.statement)) → Some (key, fate) ≡ target_of p → NoneIsOut v
    → mid ≡ with_row lifted key v → o.numbers.key ≡ key → set.key ≡ o.numbers.key → settled_by o p ≡ Some set.fate
    → new ≡ with_row (closed set.fate) set.key mid → Used v p new
used v p key fate o set mid new found target none_out lifts opened same told closes =
    let aim = aims_of (fates v) p key fate found target in
    let final = fate_told o p aim.statement set.fate aim.is told in
    let ends : with_row (closed aim.statement.fate) key (with_row lifted key v) ≡ new =
    ap (λ (f : FinalFate). with_row (closed f) key (with_row lifted key v)) final
    ∙ ap (λ (k : TransactionSetKey). with_row (closed set.fate) k (with_row lifted key v)) (sym (same ∙ opened))
    ∙ ap (with_row (closed set.fate) set.key) (sym lifts) ∙ sym closes in
    used_settled v p key aim new found
    (subst (Settled v key aim.statement.fate) ends (settled v key aim.statement.fate (pending_row v key aim.pending none_out) none_out))

-- a set that a piece aims at can be lifted, is then lifted, and is settled by the piece
pub can_lift : (v : OutboundLedger) (p : PlannedPiece) (key : TransactionSetKey) (fate : Fate) → is_settling p.finding ≡ is_settling (finding (fates v) (stated p.statement))
    → Some (key, fate) ≡ target_of p → NoneIsOut v → can_be_lifted (row_of v key) ≡ true
can_lift v p key fate found target none_out =
    let aim = aims_of (fates v) p key fate found target in
    waits v key (pending_row v key aim.pending none_out)

pub is_then_lifted : (v : OutboundLedger) (p : PlannedPiece) (key : TransactionSetKey) (fate : Fate) (at : TransactionSetKey) (mid : OutboundLedger)
    → is_settling p.finding ≡ is_settling (finding (fates v) (stated p.statement)) → Some (key, fate) ≡ target_of p → NoneIsOut v
    → mid ≡ with_row lifted key v → at ≡ key → is_lifted (row_of mid at) ≡ true
is_then_lifted v p key fate at mid found target none_out lifts same =
    let aim = aims_of (fates v) p key fate found target in
    rw (lifts, same) (lifted_row v key (pending_row v key aim.pending none_out))

pub can_settle : (v : OutboundLedger) (p : PlannedPiece) (key : TransactionSetKey) (fate : Fate) (o : LiftedSet) → is_settling p.finding ≡ is_settling (finding (fates v) (stated p.statement))
    → Some (key, fate) ≡ target_of p → names_what_it_settles v p ≡ true
    → numbers_of v key ≡ Some o.numbers → o.hubs ≡ v.hubs → settled_by o p ≡ None → ⊥
unfolding settled_by
can_settle v p key fate o found target named numbers hubs not =
    let aim = aims_of (fates v) p key fate found target in
    let about : is_about v.hubs o.numbers aim.statement ≡ true = rw (aim.settles, aim.is, ← aim.key, numbers) at named in
    some_none aim.statement.fate (rw (aim.is, hubs, about) at not)
  where
    some_none : (f : FinalFate) → Some f ≡ None → ⊥
    some_none f eq = cc
