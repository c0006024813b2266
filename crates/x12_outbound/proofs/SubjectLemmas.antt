-- Statements name what the answer names that makes them.
use Rattle.std.proofs.Common.{ℕ, ◌≡◌, ◌∙◌, ap, ap₂, sym, not, List, [], ◌∷◌, ◌++◌, map, filter, flat_map, take, length, get_or, ◌+◌, ◌<◌, Option, Some, None, option_map, refl}
use Rattle.std.specs.List.{enumerate_from}
use Rattle.std.proofs.lemmas.List.{map-append, append-nil, take_more}
use Rattle.std.proofs.lemmas.Grind.{flat_map-append}
use Rattle.x12_envelopes.specs.declared.party.Party.{Party}
use Rattle.x12_envelopes.specs.declared.shape.SetNo.{SetNo}
use Rattle.x12_envelopes.specs.Shape.{bytes_of_set_no}
use Rattle.x12_acks.specs.declared.answer.Answer.{Answer}
use Rattle.x12_acks.specs.declared.answer.AnswerCode.{AnswerCode}
use Rattle.x12_acks.specs.declared.answer.AnswerCode.TheVariants.{Accepted as CodeAccepted, ErrorsNoted, Rejected as CodeRejected, MacFailed, AssuranceFailed, ContentUnreadable, PartiallyAccepted}
use Rattle.x12_acks.specs.Answer.{Acknowledgment, answer_view}
use Rattle.x12_acks.specs.Submission.{Submission}
use Rattle.x12_acks.specs.Evidence.{answer_evidence}
use Rattle.x12_outbound.specs.declared.entry.EntrySet.{EntrySet}
use Rattle.x12_outbound.specs.declared.entry.EntryGroup.{EntryGroup}
use Rattle.x12_outbound.specs.declared.entry.Entry.{Entry}
use Rattle.x12_outbound.specs.declared.fate.FinalFate.{FinalFate}
use Rattle.x12_outbound.specs.declared.fate.FinalFate.TheVariants.{Accepted, Rejected}
use Rattle.x12_outbound.specs.declared.evidence.Statement.{Statement}
use Rattle.x12_outbound.specs.declared.statement.NamedBy.TheVariants.{Interchange, Group}
use Rattle.x12_outbound.specs.declared.statement.Origin.{Origin}
use Rattle.x12_outbound.specs.declared.matches.Parties.{Parties}
use Rattle.x12_outbound.specs.Subject.{Subject, an_interchange, a_group, subject_of, subject_for, subjects_of}
use Rattle.x12_outbound.specs.Statement.{told_of_set, all_told, fate_by_code, set_numbered, listed_told, is_listed, unlisted_told, told_of_group, evidence_told, subject_told}
use Rattle.x12_outbound.specs.Matches.{origin, interchange_told}

-- statements name this, those that find something
abbrev Name : Subject → List (Option Statement) → Type 0
Name name ss = map subject_told ss ≡ map (subject_for (Some name)) (map evidence_told ss)

name_both : (name : Subject) (ss ts : List (Option Statement)) → Name name ss → Name name ts → Name name (ss ++ ts)
name_both name ss ts first second =
    map-append subject_told ss ts ∙ ap₂ (λ xs ys. xs ++ ys) first second
    ∙ sym (ap (map (subject_for (Some name))) (map-append evidence_told ss ts) ∙ map-append (subject_for (Some name)) (map evidence_told ss) (map evidence_told ts))

module _ (o : Origin) (name : Subject) (names : (fate : FinalFate) (s : ℕ × EntrySet) → subject_told (Some (told_of_set o fate s)) ≡ Some name) where
  placed_name : (fate : FinalFate) (xs : List (ℕ × EntrySet)) → Name name (map (λ s. Some (told_of_set o fate s)) xs)
  placed_name fate [] = refl
  placed_name fate (x ∷ xs) = ap₂ (λ y ys. y ∷ ys) (names fate x) (placed_name fate xs)

  one_names : (fate : FinalFate) (found : Option (ℕ × EntrySet)) → subject_told (option_map (told_of_set o fate) found) ≡ subject_for (Some name) (evidence_told (option_map (told_of_set o fate) found))
  one_names fate None = refl
  one_names fate (Some x) = names fate x

  listed_name : (sets : List EntrySet) (listed : List (SetNo × AnswerCode)) → Name name (listed_told o sets listed)
  listed_name sets [] = refl
  listed_name sets (a ∷ listed) = ap₂ (λ y ys. y ∷ ys) (one_names (fate_by_code a.1) (set_numbered (bytes_of_set_no a.0) sets)) (listed_name sets listed)

  unlisted_name : (sets : List EntrySet) (listed : List (SetNo × AnswerCode)) → Name name (unlisted_told o sets listed)
  unlisted_name sets listed = placed_name Accepted (filter (λ s. not (is_listed listed (bytes_of_set_no s.1.number))) (enumerate_from 1 sets))

  told_name : (code : AnswerCode) (sets : List EntrySet) (listed : List (SetNo × AnswerCode)) → Name name (told_of_group o code sets listed)
  unfolding told_of_group
  told_name CodeAccepted sets listed = name_both name (listed_told o sets listed) (unlisted_told o sets listed) (listed_name sets listed) (unlisted_name sets listed)
  told_name ErrorsNoted sets listed = name_both name (listed_told o sets listed) (unlisted_told o sets listed) (listed_name sets listed) (unlisted_name sets listed)
  told_name PartiallyAccepted sets listed = listed_name sets listed
  told_name CodeRejected sets listed = placed_name Rejected (enumerate_from 1 sets)
  told_name MacFailed sets listed = placed_name Rejected (enumerate_from 1 sets)
  told_name AssuranceFailed sets listed = placed_name Rejected (enumerate_from 1 sets)
  told_name ContentUnreadable sets listed = placed_name Rejected (enumerate_from 1 sets)

-- a 997 names the group
pub group_names : (o : Origin) (functional : List ℕ) (number : ℕ) → o.by ≡ Group functional number → (code : AnswerCode) (sets : List EntrySet) (listed : List (SetNo × AnswerCode))
    → Name (a_group functional number) (told_of_group o code sets listed)
group_names o functional number by code sets listed = told_name o (a_group functional number) (λ fate s. rw by refl) code sets listed

-- a TA1 names the interchange
groups_name : (p : Parties) (e : Entry) (groups : List (ℕ × EntryGroup)) → Name (an_interchange e.icn) (flat_map (λ g. all_told (origin p e Interchange g.0) Rejected g.1.sets.items) groups)
groups_name p e [] = refl
groups_name p e (g ∷ groups) =
    let o = origin p e Interchange g.0 in
    name_both (an_interchange e.icn) (all_told o Rejected g.1.sets.items) (flat_map (λ h. all_told (origin p e Interchange h.0) Rejected h.1.sets.items) groups)
    (placed_name o (an_interchange e.icn) (λ fate s. refl) Rejected (enumerate_from 1 g.1.sets.items)) (groups_name p e groups)

pub interchange_names : (p : Parties) (e : Entry) → Name (an_interchange e.icn) (interchange_told p e)
unfolding interchange_told
interchange_names p e = groups_name p e (enumerate_from 1 e.groups.items)

-- one answer more
pub names_more : (hubs : List Party) (sent : List Submission) (from : Party) (answers : List Answer) (i : ℕ) (answer : Answer) → i < length answers → answer ≡ get_or answers i answer
    → subjects_of hubs sent from (map answer_view (take (i + 1) answers))
    ≡ subjects_of hubs sent from (map answer_view (take i answers)) ++ map (subject_for (subject_of (answer_view answer))) (answer_evidence hubs sent from (answer_view answer))
unfolding subjects_of
names_more hubs sent from answers i answer within is =
    let f : Acknowledgment → List (Option Subject) = λ a. map (subject_for (subject_of a)) (answer_evidence hubs sent from a) in
    ap (λ taken. flat_map f (map answer_view taken)) (take_more answers i answer within ∙ ap (λ (a : Answer). take i answers ++ a ∷ []) (sym is))
    ∙ ap (flat_map f) (map-append answer_view (take i answers) (answer ∷ []))
    ∙ flat_map-append f (map answer_view (take i answers)) (answer_view answer ∷ [])
    ∙ ap (λ last. flat_map f (map answer_view (take i answers)) ++ last) (append-nil (f (answer_view answer)))

pub no_names : (hubs : List Party) (sent : List Submission) (from : Party) → subjects_of hubs sent from [] ≡ []
unfolding subjects_of
no_names hubs sent from = refl
