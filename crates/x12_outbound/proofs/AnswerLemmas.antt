-- What one answer adds: the statements of what it finds, or an unmatched one.
use Rattle.std.proofs.Common.{ℕ, ◌≡◌, ◌+◌, ◌<◌, ◌≤◌, ◌∙◌, ◌==◌, ◌&&◌, ◌||◌, ap, sym, subst, Bool, true, false, List, [], ◌∷◌, ◌++◌, map, find, flat_map, length, get_or, slice_get, take, Option, Some, None, Result, Ok, Err, OnOk, option_map, if◌then◌else◌, All, arith, refl}
use Rattle.std.specs.List.{enumerate_from, list_any}
use Rattle.std.specs.Str.{bytes_eq}
use Rattle.std.proofs.lemmas.Bool.Decides.{nat_tests}
use Rattle.std.proofs.lemmas.List.{flat_map_more, take_all, take_more, map-append, append-nil, get_or-map, length-map}
use Rattle.std.proofs.lemmas.Grind.{flat_map-append}
use Rattle.std.proofs.lemmas.Option.{slice_get-get_or}
use Rattle.std.proofs.lemmas.Slice.Eq.{bytes_eq-Decides}
use Rattle.x12_envelopes.specs.declared.party.Party.{Party}
use Rattle.x12_envelopes.specs.declared.shape.SetNo.{SetNo}
use Rattle.x12_judge.specs.Agreement.{is_same_party}
use Rattle.x12_acks.specs.declared.answer.Answer.{Answer}
use Rattle.x12_acks.specs.declared.answer.AnswerCode.{AnswerCode}
use Rattle.x12_acks.specs.Answer.{FunctionalGroupAnswer, answer_view, set_answer_view}
use Rattle.x12_acks.specs.Submission.{Submission, KeyedGroup, keyed_sets}
use Rattle.x12_acks.specs.Evidence.{Evidence, rejected, tells_each, group_evidence, found_interchange, found_group, or_unmatched, answer_evidence, evidence_of}
use Rattle.x12_outbound.specs.Hubs.{hubs_of}
use Rattle.x12_outbound.specs.declared.entry.EntrySet.{EntrySet}
use Rattle.x12_outbound.specs.declared.entry.EntryGroup.{EntryGroup}
use Rattle.x12_outbound.specs.declared.entry.Entry.{Entry}
use Rattle.x12_outbound.specs.declared.fate.FinalFate.TheVariants.{Rejected}
use Rattle.x12_outbound.specs.declared.evidence.Statement.{Statement}
use Rattle.x12_outbound.specs.declared.row.Row.{Row}
use Rattle.x12_outbound.specs.declared.statement.NamedBy.TheVariants.{Interchange, Group}
use Rattle.x12_outbound.specs.declared.matches.Parties.{Parties}
use Rattle.x12_outbound.specs.Entry.{entry_row, group_row, submission_of_entry}
use Rattle.x12_outbound.specs.Ledger.{LedgerRow, row_view, submitted_by, AreInOrder, interchange_in}
use Rattle.x12_outbound.specs.Group.{groups_of_row, HasGroup, LacksGroup}
use Rattle.x12_outbound.specs.Statement.{all_told, told_of_group}
use Rattle.x12_outbound.specs.Subject.{an_interchange, a_group}
use Rattle.x12_outbound.specs.Matches.{origin, interchange_told, AddsStatements, MayReject, rejection_evidence, functional_evidence}
use Rattle.x12_outbound.proofs.PlaceLemmas.{at_place_map}
use Rattle.x12_numbers.proofs.Shelf.{find_at}
use Rattle.x12_outbound.proofs.LedgerLemmas.{icns_rise}
use Rattle.x12_outbound.proofs.ToldLemmas.{placed_more}
use Rattle.x12_outbound.proofs.FoundLemmas.{groups_rise, none_found, one_found, keyed, kept_if, no_interchange, one_interchange}
use Rattle.x12_outbound.proofs.EvidenceLemmas.{keyed_sets_are, group_are, group_named, interchange_are, interchange_named, adds}
use Rattle.x12_outbound.proofs.SubjectLemmas.{interchange_names, group_names}

-- what follows from the fact of an Ok
pub on_ok : {E : Type 0} {P Q : Type 0} (r : Result (Unit {0}) E) → (P → Q) → OnOk r P → OnOk r Q
on_ok (Ok x) gives fact = gives fact
on_ok (Err e) gives fact = fact

-- the sets of one group more are told of, and of all groups
module _ (p : Parties) (e : Entry) (groups : List EntryGroup) (are : groups ≡ e.groups.items) (before : List (Option Statement)) where
  abbrev group_told_at : ℕ × EntryGroup → List (Option Statement)
  group_told_at g = all_told (origin p e Interchange g.0) Rejected g.1.sets.items

  pub groups_more : (i : ℕ) (group : EntryGroup) (place : ℕ) (sets : List EntrySet) (old new : List (Option Statement)) → i < length groups → group ≡ get_or groups i group
      → place ≡ i + 1 → sets ≡ group.sets.items → old ≡ before ++ flat_map group_told_at (enumerate_from 1 (take i e.groups.items))
      → new ≡ old ++ all_told (origin p e Interchange place) Rejected sets
      → new ≡ before ++ flat_map group_told_at (enumerate_from 1 (take (i + 1) e.groups.items))
  groups_more i group place sets old new within is at sets_are so_far more =
      more ∙ ap (λ (s : List EntrySet). old ++ all_told (origin p e Interchange place) Rejected s) sets_are
      ∙ ap (λ (n : ℕ). old ++ group_told_at (n, group)) at
      ∙ ap (λ items. items ++ group_told_at (i + 1, group)) so_far
      ∙ flat_map_more group_told_at before (enumerate_from 1 (take i e.groups.items)) (i + 1, group)
      ∙ ap (λ gs. before ++ flat_map group_told_at gs) (sym (placed_more e.groups.items i group (subst (λ gs. i < length gs) are within) (subst (λ gs. group ≡ get_or gs i group) are is)))

  pub groups_all : (i : ℕ) (new : List (Option Statement)) → length groups ≤ i → new ≡ before ++ flat_map group_told_at (enumerate_from 1 (take i e.groups.items)) → new ≡ before ++ interchange_told p e
  unfolding interchange_told
  groups_all i new all so_far = so_far ∙ ap (λ gs. before ++ flat_map group_told_at (enumerate_from 1 gs)) (take_all i e.groups.items (subst (λ gs. length gs ≤ i) are all))

-- an element of a list that isn't empty stands for any
pub with_one : {X P : Type 0} (xs : List X) (i : ℕ) → i < length xs → ((d : X) → P) → P
with_one [] i within gives = absurd (omega (arith, within))
with_one (x ∷ xs) i within gives = gives x

module _ (p : Parties) (rows : List Row) (order : AreInOrder (submitted_by p.me (map row_view rows))) where
  -- a row among what the rows stand for
  row_at : (at : ℕ) (row : Row) → at < length rows → row ≡ get_or rows at row → slice_get (map row_view rows) at ≡ Some (row_view row)
  row_at at row within is =
      let inside : at < length (map row_view rows) = omega (arith, length-map rows row_view, within) in
      slice_get-get_or (map row_view rows) at (row_view row) inside ∙ ap Some (get_or-map row_view rows at row (row_view row) within ∙ ap row_view (sym is))

  interchange_at : (at : ℕ) (row : Row) → at < length rows → row ≡ get_or rows at row → find (λ r. r.interchange.icn == row.entry.icn) (map row_view rows) ≡ Some (row_view row)
  interchange_at at row within is =
      let inside : at < length (map row_view rows) = omega (arith, length-map rows row_view, within) in
      let rise = icns_rise p.me (map row_view rows) order in
      let here : (d : LedgerRow) → (get_or (map row_view rows) at d).interchange.icn ≡ row.entry.icn = λ d. ap (λ (r : LedgerRow). r.interchange.icn) (get_or-map row_view rows at row d within ∙ ap row_view (sym is)) in
      find_at (λ r. r.interchange.icn == row.entry.icn) (map row_view rows) at inside
      (λ d. grind (arith, nat_tests, here d)) (λ k d below. grind (arith, nat_tests, here d, rise k at d below inside))
      ∙ row_at at row within is

  -- A TA1 that rejects.

  module _ (icn : ℕ) where
    pub no_row : find (λ r. r.interchange.icn == icn) (map row_view rows) ≡ None → found_interchange (hubs_of p.hubs) (submitted_by p.me (map row_view rows)) p.from icn ≡ None
    no_row none = no_interchange p.me (hubs_of p.hubs) p.from (map row_view rows) (icns_rise p.me (map row_view rows) order) icn none

    the_one : (at : ℕ) (row : Row) → at < length rows → row ≡ get_or rows at row → find (λ r. r.interchange.icn == icn) (map row_view rows) ≡ slice_get (map row_view rows) at
        → found_interchange (hubs_of p.hubs) (submitted_by p.me (map row_view rows)) p.from icn
        ≡ option_map (λ r. submission_of_entry p.me r.interchange) (kept_if (λ (r : LedgerRow). is_same_party r.interchange.receiver p.from || list_any (is_same_party p.from) (hubs_of p.hubs)) (row_view row))
    the_one at row within row_is found = one_interchange p.me (hubs_of p.hubs) p.from (map row_view rows) (icns_rise p.me (map row_view rows) order) icn (row_view row) (found ∙ row_at at row within row_is)

    pub may_not : (at : ℕ) (row : Row) → at < length rows → row ≡ get_or rows at row → find (λ r. r.interchange.icn == icn) (map row_view rows) ≡ slice_get (map row_view rows) at
        → (is_same_party row.entry.partner p.from || list_any (is_same_party p.from) (hubs_of p.hubs)) ≡ false → found_interchange (hubs_of p.hubs) (submitted_by p.me (map row_view rows)) p.from icn ≡ None
    may_not at row within row_is found other = the_one at row within row_is found ∙ rw other refl

    -- the row that may be rejected is found, and told of
    module _ (at : ℕ) (found : MayReject p rows icn at) (row : Row) (row_is : row ≡ get_or rows at row) where
      may_be : (is_same_party row.entry.partner p.from || list_any (is_same_party p.from) (hubs_of p.hubs)) ≡ true
      may_be = ap (λ (r : Row). is_same_party r.entry.partner p.from || list_any (is_same_party p.from) (hubs_of p.hubs)) row_is ∙ found.may row

      number_is : row.entry.icn ≡ icn
      number_is = ap (λ (r : Row). r.entry.icn) row_is ∙ found.number row

      pub rejected_is : found_interchange (hubs_of p.hubs) (submitted_by p.me (map row_view rows)) p.from icn ≡ Some (submission_of_entry p.me (entry_row row.entry))
      rejected_is = the_one at row found.within row_is found.found ∙ rw may_be refl

      pub rejects_all : (old new : List (Option Statement)) → new ≡ old ++ interchange_told p row.entry
          → AddsStatements p (map row_view rows) (Some (an_interchange icn)) old new (rejection_evidence p (submitted_by p.me (map row_view rows)) icn)
      unfolding interchange_in
      rejects_all old new is =
          adds p (map row_view rows) _ old new (interchange_told p row.entry) _ is
          (interchange_are p row.entry ∙ sym (ap (λ (o : Option Submission). or_unmatched (option_map (λ e. tells_each rejected (keyed_sets e)) o)) rejected_is)) (rw (← number_is) (interchange_names p row.entry))
          (interchange_named p (map row_view rows) row.entry (ap (option_map (λ (r : LedgerRow). r.interchange)) (interchange_at at row found.within row_is)) may_be)

  -- A 997.

  module _ (a : FunctionalGroupAnswer) where
    abbrev wanted : FunctionalGroupAnswer → KeyedGroup → Bool
    wanted a g = bytes_eq g.functional a.functional && g.number == a.number

    abbrev group_tells : Option KeyedGroup → List Evidence
    group_tells o = or_unmatched (option_map (λ g. group_evidence a.code a.sets g.sets) o)

    pub no_group : All (λ r. LacksGroup a.number (groups_of_row r)) rows → found_group (submitted_by p.me (map row_view rows)) p.from a ≡ None
    no_group lacks = none_found p.me p.from rows a lacks

    module _ (at index : ℕ) (row : Row) (group : EntryGroup) (within : at < length rows) (has : (d : Row) → HasGroup a.number index (groups_of_row (get_or rows at d)))
        (row_is : row ≡ get_or rows at row) (group_is : group ≡ get_or (groups_of_row row) index group) where
      the_group : found_group (submitted_by p.me (map row_view rows)) p.from a
          ≡ (if is_same_party row.entry.partner p.from then (if wanted a (keyed p.me row (1 + index, group)) then Some (keyed p.me row (1 + index, group)) else None) else None)
      the_group = one_found p.me p.from rows a (groups_rise p.me rows order) at index row group within has row_is group_is

      here : HasGroup a.number index (groups_of_row row)
      here = subst (λ (r : Row). HasGroup a.number index (groups_of_row r)) (sym row_is) (has row)

      gcn_is : group.gcn ≡ a.number
      gcn_is = ap (λ (g : EntryGroup). g.gcn) group_is ∙ here.1 group

      pub other_receiver : is_same_party row.entry.partner p.from ≡ false → found_group (submitted_by p.me (map row_view rows)) p.from a ≡ None
      other_receiver other = the_group ∙ rw other refl

      pub other_code : is_same_party row.entry.partner p.from ≡ true → bytes_eq group.functional a.functional ≡ false → found_group (submitted_by p.me (map row_view rows)) p.from a ≡ None
      other_code same other = the_group ∙ rw (same, other) refl

      module _ (same : is_same_party row.entry.partner p.from ≡ true) (code : bytes_eq group.functional a.functional ≡ true) where
        pub group_found : found_group (submitted_by p.me (map row_view rows)) p.from a ≡ Some (keyed p.me row (1 + index, group))
        group_found =
            let equal : (group.gcn == a.number) ≡ true = grind (arith, nat_tests, gcn_is) in
            the_group ∙ rw (same, code, equal) refl

        pub answers_group : (old new : List (Option Statement)) (functional : List ℕ) (number place : ℕ) (sets : List EntrySet) (listed : List (SetNo × AnswerCode))
            → functional ≡ a.functional → number ≡ a.number → a.sets ≡ map set_answer_view listed → place ≡ index + 1 → sets ≡ group.sets.items
            → new ≡ old ++ told_of_group (origin p row.entry (Group functional number) place) a.code sets listed
            → AddsStatements p (map row_view rows) (Some (a_group a.functional a.number)) old new (functional_evidence p (submitted_by p.me (map row_view rows)) a)
        unfolding interchange_in
        answers_group old new functional number place sets listed functional_is number_same listed_is place_is sets_are is =
            let o = origin p row.entry (Group functional number) place in
            let next : 1 + index ≡ place = omega (arith, place_is) in
            let found : found_group (submitted_by p.me (map row_view rows)) p.from a ≡ Some (keyed p.me row (place, group)) = group_found ∙ ap (λ (n : ℕ). Some (keyed p.me row (n, group))) next in
            let functional_same : bytes_eq functional group.functional ≡ true = (bytes_eq-Decides functional group.functional).1 (functional_is ∙ sym ((bytes_eq-Decides group.functional a.functional).0 code)) in
            adds p (map row_view rows) _ old new (told_of_group o a.code group.sets.items listed) _
            (is ∙ ap (λ (s : List EntrySet). old ++ told_of_group o a.code s listed) sets_are)
            (group_are o a.code group.sets.items listed ∙ ap (λ keyed_sets. group_evidence a.code (map set_answer_view listed) keyed_sets) (sym (keyed_sets_are p.me (entry_row row.entry) o group refl refl))
            ∙ ap (λ answers. group_evidence a.code answers (keyed p.me row (place, group)).sets) (sym listed_is) ∙ sym (ap group_tells found))
            (rw (← functional_is, ← number_same) (group_names o functional number refl a.code group.sets.items listed))
            (group_named p (map row_view rows) (entry_row row.entry) group o refl (ap (option_map (λ (r : LedgerRow). r.interchange)) (interchange_at at row within row_is))
            (at_place_map group_row (groups_of_row row) place index group (sym place_is) here.0 group_is) (functional_same, number_same ∙ sym gcn_is, same) a.code listed)

-- one answer more
pub evidence_more : (hubs : List Party) (sent : List Submission) (from : Party) (answers : List Answer) (i : ℕ) (answer : Answer) → i < length answers → answer ≡ get_or answers i answer
    → evidence_of hubs sent from (map answer_view (take (i + 1) answers)) ≡ evidence_of hubs sent from (map answer_view (take i answers)) ++ answer_evidence hubs sent from (answer_view answer)
unfolding evidence_of
evidence_more hubs sent from answers i answer within is =
    ap (λ taken. flat_map (answer_evidence hubs sent from) (map answer_view taken)) (take_more answers i answer within ∙ ap (λ (a : Answer). take i answers ++ a ∷ []) (sym is))
    ∙ ap (flat_map (answer_evidence hubs sent from)) (map-append answer_view (take i answers) (answer ∷ []))
    ∙ flat_map-append (answer_evidence hubs sent from) (map answer_view (take i answers)) (answer_view answer ∷ [])
    ∙ ap (λ last. flat_map (answer_evidence hubs sent from) (map answer_view (take i answers)) ++ last) (append-nil (answer_evidence hubs sent from (answer_view answer)))

pub no_evidence : (hubs : List Party) (sent : List Submission) (from : Party) → evidence_of hubs sent from [] ≡ []
unfolding evidence_of
no_evidence hubs sent from = refl
