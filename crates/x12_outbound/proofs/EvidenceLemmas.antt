-- The statements that answers make are the evidence that they bring, and each names its set.
use Rattle.std.proofs.Common.{ℕ, ◌≡◌, ◌+◌, ◌-◌, ◌∙◌, ◌==◌, ◌||◌, ap, ap₂, sym, suc, inl, inr, true, false, not, List, [], ◌∷◌, ◌++◌, map, filter, find, flat_map, slice_get, Option, Some, None, option_map, unwrap_or, arith, refl}
use Rattle.std.specs.List.{enumerate_from, list_any, AllByRecursion}
use Rattle.std.specs.Str.{bytes_eq}
use Rattle.std.proofs.lemmas.Bool.{cases_Bool}
use Rattle.std.proofs.lemmas.Bool.Decides.{nat_tests}
use Rattle.std.proofs.lemmas.List.{map-append}
use Rattle.std.proofs.lemmas.Slice.Eq.{bytes_eq-Decides}
use Rattle.x12_envelopes.specs.declared.party.Party.{Party}
use Rattle.x12_envelopes.specs.declared.shape.SetNo.{SetNo}
use Rattle.x12_envelopes.specs.Shape.{bytes_of_set_no}
use Rattle.x12_judge.specs.Agreement.{is_same_party}
use Rattle.x12_acks.specs.declared.answer.AnswerCode.{AnswerCode}
use Rattle.x12_acks.specs.declared.answer.AnswerCode.TheVariants.{Accepted as CodeAccepted, ErrorsNoted, Rejected as CodeRejected, MacFailed, AssuranceFailed, ContentUnreadable, PartiallyAccepted}
use Rattle.x12_acks.specs.Answer.{TransactionSetAnswer, set_answer_view}
use Rattle.x12_acks.specs.Submission.{SubmittedSet, KeyedSet, KeyedGroup, keyed_set, keyed_sets, keyed_group}
use Rattle.x12_acks.specs.Key.{key_view}
use Rattle.x12_acks.specs.Evidence.{Evidence, tells, unmatched, accepted, rejected, tells_each, fate_of_code, listed_evidence, unlisted, group_evidence}
use Rattle.x12_outbound.specs.Hubs.{hubs_of}
use Rattle.x12_outbound.specs.declared.entry.EntrySet.{EntrySet}
use Rattle.x12_outbound.specs.declared.entry.EntryGroup.{EntryGroup}
use Rattle.x12_outbound.specs.declared.entry.Entry.{Entry}
use Rattle.x12_outbound.specs.declared.fate.FinalFate.{FinalFate}
use Rattle.x12_outbound.specs.declared.fate.FinalFate.TheVariants.{Accepted, Rejected}
use Rattle.x12_outbound.specs.declared.evidence.Statement.{Statement}
use Rattle.x12_outbound.specs.declared.statement.NamedBy.{NamedBy}
use Rattle.x12_outbound.specs.declared.statement.NamedBy.TheVariants.{Interchange, Group}
use Rattle.x12_outbound.specs.declared.statement.Origin.{Origin}
use Rattle.x12_outbound.specs.declared.matches.Parties.{Parties}
use Rattle.x12_outbound.specs.Fate.{final_fate}
use Rattle.x12_outbound.specs.Piece.{set_statement_view}
use Rattle.x12_outbound.specs.Matching.{is_about}
use Rattle.x12_outbound.specs.Entry.{GroupRow, InterchangeRow, set_row, group_row, entry_row, submission_of_entry, submitted_set_of_row, submitted_group_of_row, at_place}
use Rattle.x12_outbound.specs.Ledger.{LedgerRow, interchange_in, numbers_of_set, numbers_in, numbers_in_rows}
use Rattle.x12_outbound.specs.Statement.{naming_by, told_of_set, all_told, fate_by_code, set_numbered, listed_told, is_listed, unlisted_told, told_of_group, evidence_told, subject_told}
use Rattle.x12_outbound.specs.Subject.{Subject, subject_for}
use Rattle.x12_outbound.specs.Matches.{origin, interchange_told, statement_is_named, AreNamed, AddsStatements}
use Rattle.x12_acks.proofs.ReplyGroupLemmas.{same_party_itself}
use Rattle.x12_outbound.proofs.FoundLemmas.{entry_keyed}
use Rattle.x12_numbers.proofs.Shelf.{map_twice, enumerate_mapped, all_append, all_filtered, found_holds}
use Rattle.x12_outbound.proofs.KeyLemmas.{key_itself}
use Rattle.std.proofs.lemmas.Option.{slice_get-map}

number_itself : (a b : ℕ) → a ≡ b → (a == b) ≡ true
number_itself a b same = grind (arith, nat_tests)

-- the keyed set that stands for a set at a place
abbrev pub keyed : Origin → ℕ × EntrySet → KeyedSet
keyed o s = record {
  key = record { sender = o.sender; icn = o.icn; group = o.group; set = s.0 };
  number = bytes_of_set_no s.1.number;
}

-- the sets of a group with their keys
pub keyed_sets_are : (me : Party) (e : InterchangeRow) (o : Origin) (group : EntryGroup) → o.sender ≡ me → o.icn ≡ e.icn
    → (keyed_group (submission_of_entry me e) o.group (submitted_group_of_row (group_row group))).sets ≡ map (keyed o) (enumerate_from 1 group.sets.items)
keyed_sets_are me e o group sender icn =
    let of = λ (s : ℕ × SubmittedSet). keyed_set (submission_of_entry me e) o.group s.0 s.1 in
    let at = λ (p : Party) (n : ℕ) (s : ℕ × EntrySet). keyed (record o { sender = p; icn = n }) s in
    ap (map of) (ap (enumerate_from 1) (map_twice submitted_set_of_row set_row group.sets.items) ∙ enumerate_mapped (λ (s : EntrySet). submitted_set_of_row (set_row s)) 1 group.sets.items)
    ∙ map_twice of (λ (s : ℕ × EntrySet). (s.0, submitted_set_of_row (set_row s.1))) (enumerate_from 1 group.sets.items)
    ∙ ap₂ (λ (p : Party) (n : ℕ). map (at p n) (enumerate_from 1 group.sets.items)) (sym sender) (sym icn)

-- Statements are the evidence.

each_told : (o : Origin) (fate : FinalFate) (sets : List (ℕ × EntrySet)) → map evidence_told (map (λ s. Some (told_of_set o fate s)) sets) ≡ tells_each (final_fate fate) (map (keyed o) sets)
each_told o fate [] = refl
each_told o fate (s ∷ sets) = ap (λ rest. tells (keyed o s).key (final_fate fate) ∷ rest) (each_told o fate sets)

find_keyed : (o : Origin) (number : List ℕ) (sets : List (ℕ × EntrySet)) → find (λ (s : KeyedSet). bytes_eq s.number number) (map (keyed o) sets) ≡ option_map (keyed o) (find (λ s. bytes_eq (bytes_of_set_no s.1.number) number) sets)
find_keyed o number [] = refl
find_keyed o number (s ∷ sets) = elim (cases_Bool (bytes_eq (bytes_of_set_no s.1.number) number)) [
  | inl is ↦ rw is refl
  | inr other ↦ rw other (find_keyed o number sets)
]

same_fate : (code : AnswerCode) → final_fate (fate_by_code code) ≡ fate_of_code code
same_fate CodeAccepted = refl
same_fate ErrorsNoted = refl
same_fate CodeRejected = refl
same_fate MacFailed = refl
same_fate AssuranceFailed = refl
same_fate ContentUnreadable = refl
same_fate PartiallyAccepted = refl

listed_one : (o : Origin) (sets : List EntrySet) (a : SetNo × AnswerCode)
    → evidence_told (option_map (told_of_set o (fate_by_code a.1)) (set_numbered (bytes_of_set_no a.0) sets)) ≡ listed_evidence (map (keyed o) (enumerate_from 1 sets)) (set_answer_view a)
listed_one o sets a = go (set_numbered (bytes_of_set_no a.0) sets) (find_keyed o (bytes_of_set_no a.0) (enumerate_from 1 sets))
  where
    go : (n : Option (ℕ × EntrySet)) → {k : Option KeyedSet} → k ≡ option_map (keyed o) n
        → evidence_told (option_map (told_of_set o (fate_by_code a.1)) n) ≡ unwrap_or (option_map (λ (s : KeyedSet). tells s.key (fate_of_code a.1)) k) unmatched
    go None is = rw is refl
    go (Some s) is = rw is (ap (tells (keyed o s).key) (same_fate a.1))

listed_are : (o : Origin) (sets : List EntrySet) (listed : List (SetNo × AnswerCode))
    → map evidence_told (listed_told o sets listed) ≡ map (listed_evidence (map (keyed o) (enumerate_from 1 sets))) (map set_answer_view listed)
listed_are o sets [] = refl
listed_are o sets (a ∷ listed) = ap₂ (λ x xs. x ∷ xs) (listed_one o sets a) (listed_are o sets listed)

listed_same : (listed : List (SetNo × AnswerCode)) (number : List ℕ) → list_any (λ (a : TransactionSetAnswer). bytes_eq a.number number) (map set_answer_view listed) ≡ is_listed listed number
listed_same [] number = refl
listed_same (a ∷ listed) number = ap (λ b. bytes_eq (bytes_of_set_no a.0) number || b) (listed_same listed number)

unlisted_keyed : (o : Origin) (listed : List (SetNo × AnswerCode)) (sets : List (ℕ × EntrySet))
    → unlisted (map set_answer_view listed) (map (keyed o) sets) ≡ map (keyed o) (filter (λ s. not (is_listed listed (bytes_of_set_no s.1.number))) sets)
unlisted_keyed o listed [] = refl
unlisted_keyed o listed (s ∷ sets) = rw (listed_same listed (bytes_of_set_no s.1.number)) (elim (cases_Bool (is_listed listed (bytes_of_set_no s.1.number))) [
  | inl is ↦ rw is (unlisted_keyed o listed sets)
  | inr other ↦ rw other (ap (λ rest. keyed o s ∷ rest) (unlisted_keyed o listed sets))
])

unlisted_are : (o : Origin) (sets : List EntrySet) (listed : List (SetNo × AnswerCode))
    → map evidence_told (unlisted_told o sets listed) ≡ tells_each accepted (unlisted (map set_answer_view listed) (map (keyed o) (enumerate_from 1 sets)))
unlisted_are o sets listed = each_told o Accepted (filter (λ s. not (is_listed listed (bytes_of_set_no s.1.number))) (enumerate_from 1 sets)) ∙ ap (tells_each accepted) (sym (unlisted_keyed o listed (enumerate_from 1 sets)))

pub all_are : (o : Origin) (fate : FinalFate) (sets : List EntrySet) → map evidence_told (all_told o fate sets) ≡ tells_each (final_fate fate) (map (keyed o) (enumerate_from 1 sets))
all_are o fate sets = each_told o fate (enumerate_from 1 sets)

pub group_are : (o : Origin) (code : AnswerCode) (sets : List EntrySet) (listed : List (SetNo × AnswerCode))
    → map evidence_told (told_of_group o code sets listed) ≡ group_evidence code (map set_answer_view listed) (map (keyed o) (enumerate_from 1 sets))
unfolding told_of_group group_evidence
group_are o CodeAccepted sets listed = map-append evidence_told (listed_told o sets listed) (unlisted_told o sets listed) ∙ ap₂ (λ xs ys. xs ++ ys) (listed_are o sets listed) (unlisted_are o sets listed)
group_are o ErrorsNoted sets listed = map-append evidence_told (listed_told o sets listed) (unlisted_told o sets listed) ∙ ap₂ (λ xs ys. xs ++ ys) (listed_are o sets listed) (unlisted_are o sets listed)
group_are o PartiallyAccepted sets listed = listed_are o sets listed
group_are o CodeRejected sets listed = all_are o Rejected sets
group_are o MacFailed sets listed = all_are o Rejected sets
group_are o AssuranceFailed sets listed = all_are o Rejected sets
group_are o ContentUnreadable sets listed = all_are o Rejected sets

-- Each statement names its set.

-- what holds of each element of a list that is made of another
all_mapped : {X Y : Type 0} (P : Y → Type 0) (Q : X → Type 0) (f : X → Y) (xs : List X) → ((x : X) → Q x → P (f x)) → AllByRecursion Q xs → AllByRecursion P (map f xs)
all_mapped P Q f [] gives all = tt
all_mapped P Q f (x ∷ xs) gives all = (gives x all.0, all_mapped P Q f xs gives all.1)

all_flat : {X Y : Type 0} (P : Y → Type 0) (Q : X → Type 0) (f : X → List Y) (xs : List X) → ((x : X) → Q x → AllByRecursion P (f x)) → AllByRecursion Q xs → AllByRecursion P (flat_map f xs)
all_flat P Q f [] gives all = tt
all_flat P Q f (x ∷ xs) gives all = all_append P (f x) (flat_map f xs) (gives x all.0) (all_flat P Q f xs gives all.1)

all_placed : {X Y : Type 0} (v : X → Y) (all : List Y) (xs : List X) (n : ℕ) → ((k : ℕ) (x : X) → slice_get xs k ≡ Some x → at_place (n + k) all ≡ Some (v x))
    → AllByRecursion (λ p. at_place p.0 all ≡ Some (v p.1)) (enumerate_from n xs)
all_placed v all [] n stand = tt
all_placed v all (x ∷ xs) n stand =
    let first : n + 0 ≡ n = omega arith in
    (rw first at (stand 0 x refl), all_placed v all xs (n + 1) (λ k y found. let next : n + suc k ≡ n + 1 + k = omega arith in rw next at (stand (suc k) y found)))

pub placed : {X Y : Type 0} (v : X → Y) (xs : List X) → AllByRecursion (λ p. at_place p.0 (map v xs) ≡ Some (v p.1)) (enumerate_from 1 xs)
placed v xs = all_placed v (map v xs) xs 1 (λ k x found. rw (some k, index k) (slice_get-map v xs k ∙ ap (option_map v) found))
  where
    some : (k : ℕ) → (1 + k == 0) ≡ false
    some k = grind (arith, nat_tests)

    index : (k : ℕ) → 1 + k - 1 ≡ k
    index k = omega arith

-- who may tell of the sets of a group
abbrev pub MayTell : List Party → InterchangeRow → GroupRow → Origin → NamedBy → Type 0
MayTell hubs e g o Interchange = (is_same_party e.receiver o.from || list_any (is_same_party o.from) hubs) ≡ true
MayTell hubs e g o (Group functional number) = (bytes_eq functional g.functional ≡ true) × (number ≡ g.number) × (is_same_party e.receiver o.from ≡ true)

abbrev IsNamed : Parties → List LedgerRow → Option Statement → Type 0
IsNamed p rows s = statement_is_named p rows s ≡ true

module _ (p : Parties) (rows : List LedgerRow) (e : InterchangeRow) (group : EntryGroup) (o : Origin) (sender : o.sender ≡ p.me)
    (stands : interchange_in rows o.icn ≡ Some e) (at : at_place o.group e.groups ≡ Some (group_row group)) (may : MayTell (hubs_of p.hubs) e (group_row group) o o.by) where
  numbers_are : (fate : FinalFate) (s : ℕ × EntrySet) → at_place s.0 (map set_row group.sets.items) ≡ Some (set_row s.1)
      → numbers_in_rows p.me rows (key_view (told_of_set o fate s).key) ≡ Some (numbers_of_set (key_view (told_of_set o fate s).key) e (group_row group) (set_row s.1))
  unfolding numbers_in_rows numbers_in
  numbers_are fate s here =
      let mine : is_same_party o.sender p.me ≡ true = rw sender (same_party_itself p.me) in
      rw (mine, stands) (rw at (rw here refl))

  about : (fate : FinalFate) (s : ℕ × EntrySet) (by : NamedBy) → MayTell (hubs_of p.hubs) e (group_row group) o by
      → is_about (hubs_of p.hubs) (numbers_of_set (key_view (told_of_set o fate s).key) e (group_row group) (set_row s.1)) (set_statement_view (record (told_of_set o fate s) { naming = naming_by by s.1 })) ≡ true
  unfolding is_about
  about fate s Interchange may = rw (key_itself (key_view (told_of_set o fate s).key), may) refl
  about fate s (Group functional number) may =
      rw (same_party_itself o.sender, may.0, number_itself number group.gcn may.1, (bytes_eq-Decides (bytes_of_set_no s.1.number) (bytes_of_set_no s.1.number)).1 refl, may.2) refl

  named_one : (fate : FinalFate) (s : ℕ × EntrySet) → at_place s.0 (map set_row group.sets.items) ≡ Some (set_row s.1) → statement_is_named p rows (Some (told_of_set o fate s)) ≡ true
  named_one fate s here = rw (numbers_are fate s here) (about fate s o.by may)

  -- so each of the group's sets is named
  abbrev Named : ℕ × EntrySet → Type 0
  Named s = (fate : FinalFate) → statement_is_named p rows (Some (told_of_set o fate s)) ≡ true

  sets_named : AllByRecursion Named (enumerate_from 1 group.sets.items)
  sets_named = all_of (enumerate_from 1 group.sets.items) (placed set_row group.sets.items)
    where
      all_of : (sets : List (ℕ × EntrySet)) → AllByRecursion (λ s. at_place s.0 (map set_row group.sets.items) ≡ Some (set_row s.1)) sets → AllByRecursion Named sets
      all_of [] all = tt
      all_of (s ∷ sets) all = (λ fate. named_one fate s all.0, all_of sets all.1)

  pub all_named : (fate : FinalFate) → AreNamed p rows (all_told o fate group.sets.items)
  all_named fate = all_mapped (IsNamed p rows) Named (λ s. Some (told_of_set o fate s)) (enumerate_from 1 group.sets.items) (λ s named. named fate) sets_named

  unlisted_named : (listed : List (SetNo × AnswerCode)) → AreNamed p rows (unlisted_told o group.sets.items listed)
  unlisted_named listed =
      let passes = λ (s : ℕ × EntrySet). not (is_listed listed (bytes_of_set_no s.1.number)) in
      all_mapped (IsNamed p rows) Named (λ s. Some (told_of_set o Accepted s)) (filter passes (enumerate_from 1 group.sets.items)) (λ s named. named Accepted) (all_filtered Named passes (enumerate_from 1 group.sets.items) sets_named)

  listed_named : (listed : List (SetNo × AnswerCode)) → AreNamed p rows (listed_told o group.sets.items listed)
  listed_named [] = tt
  listed_named (a ∷ listed) = (one (set_numbered (bytes_of_set_no a.0) group.sets.items) refl, listed_named listed)
    where
      one : (n : Option (ℕ × EntrySet)) → set_numbered (bytes_of_set_no a.0) group.sets.items ≡ n → statement_is_named p rows (option_map (told_of_set o (fate_by_code a.1)) n) ≡ true
      one None is = refl
      one (Some s) is = found_holds Named (λ s. bytes_eq (bytes_of_set_no s.1.number) (bytes_of_set_no a.0)) (enumerate_from 1 group.sets.items) s sets_named is (fate_by_code a.1)

  pub group_named : (code : AnswerCode) (listed : List (SetNo × AnswerCode)) → AreNamed p rows (told_of_group o code group.sets.items listed)
  unfolding told_of_group
  group_named CodeAccepted listed = all_append (IsNamed p rows) (listed_told o group.sets.items listed) (unlisted_told o group.sets.items listed) (listed_named listed) (unlisted_named listed)
  group_named ErrorsNoted listed = all_append (IsNamed p rows) (listed_told o group.sets.items listed) (unlisted_told o group.sets.items listed) (listed_named listed) (unlisted_named listed)
  group_named PartiallyAccepted listed = listed_named listed
  group_named CodeRejected listed = all_named Rejected
  group_named MacFailed listed = all_named Rejected
  group_named AssuranceFailed listed = all_named Rejected
  group_named ContentUnreadable listed = all_named Rejected

-- The sets of a whole interchange.

abbrev keyed_at : Parties → Entry → ℕ × EntryGroup → KeyedGroup
keyed_at p e g = keyed_group (submission_of_entry p.me (entry_row e)) g.0 (submitted_group_of_row (group_row g.1))

pub interchange_are : (p : Parties) (e : Entry) → map evidence_told (interchange_told p e) ≡ tells_each rejected (keyed_sets (submission_of_entry p.me (entry_row e)))
unfolding interchange_told keyed_sets
interchange_are p e =
    groups_are (enumerate_from 1 e.groups.items) ∙ ap (λ groups. tells_each rejected (flat_map (λ (g : KeyedGroup). g.sets) groups)) (sym (entry_keyed p.me e))
  where
    groups_are : (groups : List (ℕ × EntryGroup)) → map evidence_told (flat_map (λ g. all_told (origin p e Interchange g.0) Rejected g.1.sets.items) groups)
        ≡ tells_each rejected (flat_map (λ (g : KeyedGroup). g.sets) (map (keyed_at p e) groups))
    groups_are [] = refl
    groups_are (g ∷ groups) =
        let told_here = all_told (origin p e Interchange g.0) Rejected g.1.sets.items in
        map-append evidence_told told_here _
        ∙ ap₂ (λ xs ys. xs ++ ys) (all_are (origin p e Interchange g.0) Rejected g.1.sets.items ∙ ap (tells_each rejected) (sym (keyed_sets_are p.me (entry_row e) (origin p e Interchange g.0) g.1 refl refl))) (groups_are groups)
        ∙ sym (map-append (λ (s : KeyedSet). tells s.key rejected) (keyed_at p e g).sets (flat_map (λ (g : KeyedGroup). g.sets) (map (keyed_at p e) groups)))

pub interchange_named : (p : Parties) (rows : List LedgerRow) (e : Entry) → interchange_in rows e.icn ≡ Some (entry_row e)
    → (is_same_party e.partner p.from || list_any (is_same_party p.from) (hubs_of p.hubs)) ≡ true → AreNamed p rows (interchange_told p e)
unfolding interchange_told
interchange_named p rows e stands may =
    all_flat (IsNamed p rows) (λ g. at_place g.0 (map group_row e.groups.items) ≡ Some (group_row g.1)) (λ g. all_told (origin p e Interchange g.0) Rejected g.1.sets.items) (enumerate_from 1 e.groups.items)
    (λ g at. all_named p rows (entry_row e) g.1 (origin p e Interchange g.0) refl stands at may Rejected) (placed group_row e.groups.items)

-- Statements that are added, one answer after another.

pub adds : (p : Parties) (rows : List LedgerRow) (name : Option Subject) (old new more : List (Option Statement)) (evidence : List Evidence) → new ≡ old ++ more → map evidence_told more ≡ evidence
    → map subject_told more ≡ map (subject_for name) (map evidence_told more) → AreNamed p rows more → AddsStatements p rows name old new evidence
adds p rows name old new more evidence is told_of_set names named = record { more = more; is = is; told = told_of_set; names = names ∙ ap (map (subject_for name)) told_of_set; named = named }
