-- The pieces that are planned over the open submissions and the closed ones that were found: the evidence of all, and what each piece is by the history.
use Rattle.std.specs.Prelude.{◌≡◌, ℕ, ◌==◌, ◌&&◌, ◌||◌, not, List, [], ◌∷◌, ◌++◌, Bool, true, false, map, flat_map, filter, find, Option, Some, None, Contains, refl, ◌⊎◌, bytes_eq, if◌then◌else◌}
use Rattle.std.specs.List.{AllByRecursion, list_any}
use Rattle.std.specs.Option.{option_or}
use mathlib.Core.Path.{sym, ap, ap₂, subst, ◌∙◌}
use mathlib.Core.Logic.{inl, inr}
use Rattle.std.proofs.lemmas.Bool.{cases_Bool, and_parts}
use Rattle.std.proofs.lemmas.List.{append-nil}
use Rattle.std.proofs.lemmas.List.Elements.{Contains-append_left, Contains-append_right, Contains-append_cases}
use Rattle.x12_envelopes.specs.declared.party.Party.{Party}
use Rattle.x12_envelopes.specs.declared.shape.AcknowledgmentCode.TheVariants as interchange
use Rattle.x12_judge.specs.Agreement.{is_same_party}
use Rattle.x12_acks.specs.Answer.{Acknowledgment, of_interchange, of_group, unclear}
use Rattle.x12_acks.specs.Evidence.{Evidence, tells, unmatched, answer_evidence, evidence_of}
use Rattle.x12_acks.specs.Named.{SubmissionsRise, HoldsTheNamed, IsOwn, names_group, names_submission, evidence_for_one}
use Rattle.x12_acks.specs.Submission.{Submission, SubmittedGroup}
use Rattle.x12_acks.proofs.CutLemmas.{one_answered, needs_the_named}
use Rattle.std.proofs.Common.{eqb-true}
use Rattle.x12_acks.proofs.EachLemmas.{evidence_of_each}
use Rattle.x12_acks.proofs.FindLemmas.{none_passes, clash}
use Rattle.x12_numbers.proofs.Shelf.{found_passes, all_append, and_three, contains_in_filter, map_twice, list_any-map, none_in_nil, contains_cons, contains_mapped}
use Rattle.x12_acks.proofs.NamedLemmas.{evidence_is_of_the_named}
use Rattle.x12_outbound.specs.Piece.{PlannedPiece}
use Rattle.x12_outbound.specs.declared.fate.Fate.{Fate}
use Rattle.x12_outbound.specs.Entry.{GroupRow, InterchangeRow, submission_of_entry, submitted_group_of_row, row_is_open}
use Rattle.x12_outbound.specs.Ledger.{OutboundLedger, LedgerRow, submitted_by, ledger_submissions}
use Rattle.x12_outbound.specs.Plan.{ArePieces, evidence_in, findings_in, submissions_of_both, fates_of_both}
use Rattle.x12_outbound.specs.Settling.{findings, targets_of}
use Rattle.x12_profile.specs.X12.{x12}
use Rattle.x12_station.specs.Durable.{items_of, IsHistoryOf}
use Rattle.x12_station.specs.Found.{closed_for, AreFound}
use Rattle.x12_station.specs.Key.{own_fates}
use Rattle.x12_station.specs.Stored.{Stored, entries, open_entries, closed_entry, closed_entry_with_group, is_group_named}
use Rattle.x12_station.proofs.ArrivedLemmas.{all_rise, history_fates}
use Rattle.x12_station.proofs.KnownLemmas.{known, all_submitted, fate_at, entry_of, AreOfAll, all_of_all, all_hold, one_submission, fares_in_both, own_fates_are}
use Rattle.x12_station.proofs.ListLemmas.{contains_map, contains_filter}
use Rattle.x12_station.proofs.OwnLemmas.{submitted_entry, fates_are, fates_in}
use Rattle.x12_station.proofs.TargetLemmas.{targets_by, targets_are, IsSameAt, same_findings}

pub passes_filter : {X : Type 0} (p : X → Bool) (xs : List X) (x : X) → Contains (filter p xs) x → p x ≡ true
passes_filter p [] x at = none_in_nil x at
passes_filter p (y ∷ ys) x at = by (p y) refl (passes_filter p ys x) at
  where
    by : (t : Bool) → p y ≡ t → (Contains (filter p ys) x → p x ≡ true) → Contains (if t then y ∷ filter p ys else filter p ys) x → p x ≡ true
    by true test more at = elim (contains_cons x y (filter p ys) at) [ inl same ↦ subst (λ z. p z ≡ true) same test | inr later ↦ more later ]
    by false test more at = more at

-- what a ledger's rows submitted
pub sent_are : (me : Party) (rows : List LedgerRow) → submitted_by me rows ≡ map (submission_of_entry me) (map (λ r. r.interchange) rows)
unfolding submitted_by
sent_are me rows = sym (map_twice (submission_of_entry me) (λ (r : LedgerRow). r.interchange) rows)

-- Each piece is of a submission that is in the list.
abbrev pub IsOfSome : List Submission → Evidence → Type 0
IsOfSome some e = ((s : Submission) × Contains some s × IsOwn s e) ⊎ (e ≡ unmatched)

all_weaker : {X : Type 0} (P Q : X → Type 0) → ((x : X) → P x → Q x) → (xs : List X) → AllByRecursion P xs → AllByRecursion Q xs
all_weaker P Q w [] all = tt
all_weaker P Q w (x ∷ xs) all = (w x all.0, all_weaker P Q w xs all.1)

module _ (hubs : List Party) (from : Party) (some : List Submission) where
  of_none : (a : Acknowledgment) → AllByRecursion (IsOfSome some) (answer_evidence hubs [] from a)
  unfolding answer_evidence
  of_none (of_interchange icn interchange.Rejected note) = (inr refl, tt)
  of_none (of_interchange icn interchange.Accepted note) = tt
  of_none (of_interchange icn interchange.ErrorsNoted note) = tt
  of_none (of_group a) = (inr refl, tt)
  of_none unclear = tt

  alone : (e : Submission) (a : Acknowledgment) → AllByRecursion (IsOwn e) (answer_evidence hubs (e ∷ []) from a ++ [])
  unfolding evidence_of
  alone e a = evidence_of_each.alone hubs from e (a ∷ [])

  of_answer : (a : Acknowledgment) → AllByRecursion (IsOfSome some) (answer_evidence hubs some from a)
  of_answer a = subst (AllByRecursion (IsOfSome some)) (sym (evidence_is_of_the_named hubs from some a)) (by (find (names_submission hubs from a) some) refl)
    where
      by : (o : Option Submission) → find (names_submission hubs from a) some ≡ o → AllByRecursion (IsOfSome some) (evidence_for_one hubs from a o)
      by None is = of_none a
      by (Some e) is =
          let passes = found_passes (names_submission hubs from a) some e is in
          all_weaker (IsOwn e) (IsOfSome some) (λ piece own. inl (e, passes.0, own)) (answer_evidence hubs (e ∷ []) from a)
          (subst (AllByRecursion (IsOwn e)) (append-nil (answer_evidence hubs (e ∷ []) from a)) (alone e a))

  pub pieces_of_some : (answers : List Acknowledgment) → AllByRecursion (IsOfSome some) (evidence_of hubs some from answers)
  unfolding evidence_of
  pieces_of_some [] = tt
  pieces_of_some (a ∷ answers) = all_append (IsOfSome some) (answer_evidence hubs some from a) (flat_map (answer_evidence hubs some from) answers) (of_answer a) (pieces_of_some answers)

-- an entry has the groups that were submitted
groups_named : (f : List ℕ) (n : ℕ) (gs : List GroupRow) → list_any (is_group_named f n) gs ≡ list_any (λ (g : SubmittedGroup). bytes_eq g.functional f && g.number == n) (map submitted_group_of_row gs)
groups_named f n gs = sym (list_any-map (λ (g : SubmittedGroup). bytes_eq g.functional f && g.number == n) submitted_group_of_row gs)

module _ (v c : OutboundLedger) (s : Stored) (d : IsHistoryOf v.me v.hubs s) (near_are : map (λ r. r.interchange) v.rows ≡ open_entries s) (c_me : c.me ≡ v.me)
    (from : Party) (answers : List Acknowledgment) (found : AreFound s from answers (map (λ r. r.interchange) c.rows)) where
  abbrev all : List Submission
  all = all_submitted (items_of s)

  abbrev near : List InterchangeRow
  near = map (λ (r : LedgerRow). r.interchange) v.rows

  abbrev far : List InterchangeRow
  far = map (λ (r : LedgerRow). r.interchange) c.rows

  abbrev entry : Submission → InterchangeRow
  entry e = entry_of v.me v.hubs (items_of s) d.own e

  abbrev rise : SubmissionsRise all
  rise = all_rise v.me v.hubs s d

  of_stored : (r : InterchangeRow) → Contains (entries s) r → (e : Submission) × Contains all e × (entry e ≡ r)
  of_stored r at = all_of_all v.me v.hubs (items_of s) d.own rise r (subst (λ l. Contains l r) d.fates at)

  stored_of : (e : Submission) → Contains all e → Contains (entries s) (entry e)
  stored_of e at = subst (λ l. Contains l (entry e)) (sym d.fates) (all_hold v.me v.hubs (items_of s) d.own rise e at)

  near_stored : (r : InterchangeRow) → Contains near r → Contains (entries s) r
  near_stored r at = contains_filter row_is_open (entries s) r (subst (λ l. Contains l r) near_are at)

  near_of : AreOfAll v.me v.hubs (items_of s) d.own rise near
  near_of r at = of_stored r (near_stored r at)

  far_of : AreOfAll v.me v.hubs (items_of s) d.own rise far
  far_of r at = of_stored r (found.stored r at)

  submitted_is : (e : Submission) → Contains all e → submission_of_entry v.me (entry e) ≡ e
  submitted_is e at = submitted_entry (fate_at v.me v.hubs (items_of s) e) v.me e (known v.me v.hubs (items_of s) d.own e at).sender

  near_sent : ledger_submissions v ≡ map (submission_of_entry v.me) near
  near_sent = sent_are v.me v.rows

  far_sent : ledger_submissions c ≡ map (submission_of_entry v.me) far
  far_sent = sent_are c.me c.rows ∙ ap (λ me. map (submission_of_entry me) far) c_me

  -- a submission that is sent by one of them is one of all, and its entry is held
  sent_in : (held : List InterchangeRow) → AreOfAll v.me v.hubs (items_of s) d.own rise held → (e : Submission) → Contains (map (submission_of_entry v.me) held) e → Contains all e × Contains held (entry e)
  sent_in held of_all e at =
      let r = contains_map (submission_of_entry v.me) held e at in
      let x = of_all r.0 r.1 in
      let same : x.0 ≡ e = sym (submitted_is x.0 x.1) ∙ ap (submission_of_entry v.me) x.2 ∙ r.2 in
      (subst (λ z. Contains all z) same x.1, subst (λ z. Contains held (entry z)) same (subst (λ q. Contains held q) (sym x.2) r.1))

  held_in : (e : Submission) → Contains (submissions_of_both v c) e → Contains all e × (Contains near (entry e) ⊎ Contains far (entry e))
  held_in e at = elim (Contains-append_cases (ledger_submissions v) (ledger_submissions c) e at) [
    | inl here ↦ let in_near = sent_in near near_of e (subst (λ l. Contains l e) near_sent here) in (in_near.0, inl in_near.1)
    | inr there ↦ let in_far = sent_in far far_of e (subst (λ l. Contains l e) far_sent there) in (in_far.0, inr in_far.1)
  ]

  -- the closed submission that an answer names is the one that is found for it
  closed_is : (a : Acknowledgment) (e : Submission) → Contains all e → names_submission v.hubs from a e ≡ true → row_is_open (entry e) ≡ false → closed_for s from a ≡ Some (entry e)
  closed_is (of_interchange icn code note) e at names ended = by (closed_entry s icn) refl
    where
      test : (e.icn == icn) ≡ true
      test = (and_parts (e.icn == icn) (is_same_party e.receiver from || list_any (is_same_party from) v.hubs) names).0

      by : (o : Option InterchangeRow) → closed_entry s icn ≡ o → closed_entry s icn ≡ Some (entry e)
      by (Some r) is =
          let passes = found_passes (λ (e : InterchangeRow). e.icn == icn && not (row_is_open e)) (entries s) r is in
          let number = and_parts (r.icn == icn) (not (row_is_open r)) passes.1 in
          let x = of_stored r passes.0 in
          let x_icn : x.0.icn ≡ e.icn = ap (λ (q : InterchangeRow). q.icn) x.2 ∙ eqb-true r.icn icn number.0 ∙ sym (eqb-true e.icn icn test) in
          is ∙ ap Some (sym x.2 ∙ ap entry (one_submission v.me v.hubs (items_of s) d.own rise x.0 e x.1 at x_icn))
      by None is = clash (e.icn == icn && not (row_is_open (entry e))) (rw (test, ended) refl) (none_passes (λ (e : InterchangeRow). e.icn == icn && not (row_is_open e)) (entries s) (entry e) is (stored_of e at))
  closed_is (of_group a) e at names ended = by (closed_entry_with_group s from a.functional a.number) refl
    where
      parts : (is_same_party e.receiver from ≡ true) × (list_any (names_group a) e.groups ≡ true)
      parts = and_parts (is_same_party e.receiver from) (list_any (names_group a) e.groups) names

      groups_is : list_any (is_group_named a.functional a.number) (entry e).groups ≡ true
      groups_is = groups_named a.functional a.number (entry e).groups ∙ ap (λ (x : Submission). list_any (names_group a) x.groups) (submitted_is e at) ∙ parts.1

      by : (o : Option InterchangeRow) → closed_entry_with_group s from a.functional a.number ≡ o → closed_entry_with_group s from a.functional a.number ≡ Some (entry e)
      by (Some r) is =
          let passes = found_passes (λ (e : InterchangeRow). is_same_party e.receiver from && list_any (is_group_named a.functional a.number) e.groups && not (row_is_open e)) (entries s) r is in
          let its = and_three (is_same_party r.receiver from) (list_any (is_group_named a.functional a.number) r.groups) (not (row_is_open r)) passes.1 in
          let x = of_stored r passes.0 in
          let x_groups : list_any (names_group a) x.0.groups ≡ true =
          ap (λ (z : Submission). list_any (names_group a) z.groups) (sym (submitted_is x.0 x.1)) ∙ sym (groups_named a.functional a.number (entry x.0).groups)
          ∙ ap (λ (q : InterchangeRow). list_any (is_group_named a.functional a.number) q.groups) x.2 ∙ its.1 in
          let x_receiver : is_same_party x.0.receiver from ≡ true = ap (λ (q : InterchangeRow). is_same_party q.receiver from) x.2 ∙ its.0 in
          let x_names : names_submission v.hubs from (of_group a) x.0 ≡ true = rw (x_receiver, x_groups) refl in
          is ∙ ap Some (sym x.2 ∙ ap entry (one_answered all rise v.hubs from (of_group a) x.0 e x.1 at x_names names))
      by None is =
          clash (is_same_party e.receiver from && list_any (is_group_named a.functional a.number) (entry e).groups && not (row_is_open (entry e))) (rw (parts.0, groups_is, ended) refl)
          (none_passes (λ (e : InterchangeRow). is_same_party e.receiver from && list_any (is_group_named a.functional a.number) e.groups && not (row_is_open e)) (entries s) (entry e) is (stored_of e at))
  closed_is unclear e at names ended = absurd (let no : ⊥ = cc in no)

  holds_named : HoldsTheNamed v.hubs from answers all (submissions_of_both v c)
  holds_named = record {
    of_all = λ e at. (held_in e at).0;
    named = λ e a at asked names. elim (cases_Bool (row_is_open (entry e))) [
      | inl is_open ↦
          let here = subst (λ l. Contains l (entry e)) (sym near_are) (contains_in_filter row_is_open (entries s) (entry e) (stored_of e at) is_open) in
          Contains-append_left (ledger_submissions v) (ledger_submissions c) e (subst (λ l. Contains l e) (sym near_sent) (subst (λ z. Contains (map (submission_of_entry v.me) near) z) (submitted_is e at) (contains_mapped (submission_of_entry v.me) near (entry e) here)))
      | inr ended ↦
          let there = found.named a (entry e) asked (closed_is a e at names ended) in
          Contains-append_right (ledger_submissions v) (ledger_submissions c) e (subst (λ l. Contains l e) (sym far_sent) (subst (λ z. Contains (map (submission_of_entry v.me) far) z) (submitted_is e at) (contains_mapped (submission_of_entry v.me) far (entry e) there)))
    ];
  }

  -- the evidence over both is that for all that was submitted
  pub evidence_is_of_all : evidence_of v.hubs (submissions_of_both v c) from answers ≡ evidence_of v.hubs all from answers
  evidence_is_of_all = needs_the_named v.hubs from all (submissions_of_both v c) answers rise holds_named

  -- a set that a piece tells of fares in both as in the history
  same_at : (piece : Evidence) → IsOfSome (submissions_of_both v c) piece → IsSameAt (fates_of_both v c) (history_fates v.me v.hubs s d) piece
  same_at (tells key fate) (inl told) =
      let e = held_in told.0 told.1 in
      let x = known v.me v.hubs (items_of s) d.own told.0 e.0 in
      ap₂ (λ (a b : Option Fate). option_or a b) (fates_are v key) (fates_are c key ∙ ap (λ me. fates_in me far key) c_me)
      ∙ fares_in_both v.me v.hubs (items_of s) d.own rise near far near_of far_of told.0 e.0 e.1 key (told.2.1 ∙ x.sender) told.2.0
  same_at (tells key fate) (inr none) = absurd (let no : ⊥ = cc in no)
  same_at unmatched of_some = tt

  module _ (pieces : List PlannedPiece) (told : evidence_in pieces ≡ evidence_of v.hubs (submissions_of_both v c) from answers) (are : ArePieces v c pieces) where
    pub pieces_told : evidence_in pieces ≡ evidence_of v.hubs all from answers
    pieces_told = told ∙ evidence_is_of_all

    pub pieces_found : findings_in pieces ≡ findings (history_fates v.me v.hubs s d) (evidence_in pieces)
    pieces_found =
        are.found ∙ same_findings (fates_of_both v c) (history_fates v.me v.hubs s d) (evidence_in pieces)
        (subst (λ es. AllByRecursion (IsSameAt (fates_of_both v c) (history_fates v.me v.hubs s d)) es) (sym told)
        (all_weaker (IsOfSome (submissions_of_both v c)) (IsSameAt (fates_of_both v c) (history_fates v.me v.hubs s d)) same_at (evidence_of v.hubs (submissions_of_both v c) from answers) (pieces_of_some v.hubs from (submissions_of_both v c) answers)))

    -- what the plan settles
    pub targets_told : targets_of pieces ≡ targets_by (history_fates v.me v.hubs s d) (evidence_of v.hubs all from answers)
    targets_told = targets_are pieces (history_fates v.me v.hubs s d) pieces_found ∙ ap (targets_by (history_fates v.me v.hubs s d)) pieces_told

    -- what each piece is, by the fates of the history
    pub findings_told : findings_in pieces ≡ findings (own_fates x12 v.me v.hubs (items_of s)) (evidence_of v.hubs all from answers)
    findings_told =
        pieces_found ∙ ap (findings (history_fates v.me v.hubs s d)) pieces_told
        ∙ same_findings (history_fates v.me v.hubs s d) (own_fates x12 v.me v.hubs (items_of s)) (evidence_of v.hubs all from answers) (everywhere (evidence_of v.hubs all from answers))
      where
        one : (piece : Evidence) → IsSameAt (history_fates v.me v.hubs s d) (own_fates x12 v.me v.hubs (items_of s)) piece
        one (tells key fate) = sym (own_fates_are v.me v.hubs (items_of s) d.own rise key)
        one unmatched = tt

        everywhere : (es : List Evidence) → AllByRecursion (IsSameAt (history_fates v.me v.hubs s d) (own_fates x12 v.me v.hubs (items_of s))) es
        everywhere [] = tt
        everywhere (e ∷ es) = (one e, everywhere es)
