-- What is told of a submission comes from an answer that names it: a TA1 by its number, from its receiver or a hub; a 997
-- by the code and the number of one of its groups, from its receiver.
use Rattle.std.specs.Prelude.{◌≡◌, ℕ, ◌+◌, List, [], ◌∷◌, ◌++◌, Bool, true, false, ◌&&◌, ◌||◌, ◌==◌, map, flat_map, find, cond, Option, Some, None, Result, Ok, Err, option_map, refl, Contains, bytes_eq, ◌⊎◌}
use Rattle.std.specs.List.{enumerate_from, list_any}
use mathlib.Core.Path.{sym, ap, ap₂, subst, ◌∙◌}
use mathlib.Core.List.{append-nil}
use mathlib.Core.Logic.{inl, inr}
use Rattle.std.proofs.lemmas.Bool.{and_parts, eqb-true}
use Rattle.std.proofs.lemmas.Grind.{flat_map-append}
use Rattle.std.proofs.lemmas.List.Elements.{Contains-append_cases}
use Rattle.std.proofs.lemmas.Map.Views.{Contains-from_any}
use Rattle.std.proofs.lemmas.Slice.Eq.{bytes_eq-Decides}
use Rattle.x12_envelopes.specs.declared.header.Header.{Header}
use Rattle.x12_envelopes.specs.declared.header.HeaderFault.{HeaderFault}
use Rattle.x12_envelopes.specs.declared.party.Party.{Party}
use Rattle.x12_envelopes.specs.declared.shape.AcknowledgmentCode.TheVariants as interchange
use Rattle.x12_envelopes.specs.declared.shape.OutlineFault.{OutlineFault}
use Rattle.x12_envelopes.specs.Header.{header_of}
use Rattle.x12_envelopes.specs.Outline.{outline_of}
use Rattle.x12_envelopes.specs.Shape.{Interchange}
use Rattle.x12_judge.specs.Agreement.{is_same_party}
use Rattle.x12_acks.specs.Answer.{Acknowledgment, of_interchange, of_group, unclear, FunctionalGroupAnswer}
use Rattle.x12_acks.specs.Submission.{Submission, SubmittedGroup, KeyedGroup, keyed_group, keyed_groups, keyed_sets, submission_of}
use Rattle.x12_acks.specs.Evidence.{answer_evidence, evidence_of, group_evidence, is_acknowledged_by, or_unmatched, rejected, tells_each}
use Rattle.x12_profile.specs.declared.edition.Edition.{Edition}
use Rattle.x12_profile.specs.Interchange.{Bytes, PlacedEvidence}
use Rattle.x12_profile.specs.Reading.{answers_in}
use Rattle.x12_profile.specs.X12.{x12, submission_in_bytes, pieces_read, told_by_piece}
use Rattle.x12_numbers.proofs.Shelf.{none_in_nil, contains_head, contains_tail}
use Rattle.x12_profile.proofs.FieldLemmas as field
use Rattle.x12_profile.proofs.PlaceLemmas.{told_as_read, was_told}
use Rattle.x12_profile.proofs.PartyLemmas.{is_same_party-Decides}

-- a group of this code and number
abbrev pub HasGroup : Submission → FunctionalGroupAnswer → Type 0
HasGroup s a = (g : SubmittedGroup) × Contains s.groups g × (g.functional ≡ a.functional) × (g.number ≡ a.number)

abbrev pub IsNamed : List Party → Party → Submission → Acknowledgment → Type 0
IsNamed hubs from s (of_interchange icn code note) = (s.icn ≡ icn) × ((from ≡ s.receiver) ⊎ Contains hubs from)
IsNamed hubs from s (of_group a) = (from ≡ s.receiver) × HasGroup s a
IsNamed hubs from s unclear = ⊥

abbrev names : FunctionalGroupAnswer → KeyedGroup → Bool
names a g = bytes_eq g.functional a.functional && g.number == a.number

group_from : (a : FunctionalGroupAnswer) (s : Submission) (n : ℕ) (gs : List SubmittedGroup) (k : KeyedGroup) → find (names a) (map (λ g. keyed_group s g.0 g.1) (enumerate_from n gs)) ≡ Some k
    → (g : SubmittedGroup) × Contains gs g × (g.functional ≡ a.functional) × (g.number ≡ a.number)
group_from a s n [] k e = absurd cc
group_from a s n (g ∷ gs) k e = by (names a (keyed_group s n g)) refl e (group_from a s (n + 1) gs k)
  where
    by : (b : Bool) → (bytes_eq g.functional a.functional && g.number == a.number) ≡ b → cond b (Some (keyed_group s n g)) (find (names a) (map (λ g. keyed_group s g.0 g.1) (enumerate_from (n + 1) gs))) ≡ Some k
        → (find (names a) (map (λ g. keyed_group s g.0 g.1) (enumerate_from (n + 1) gs)) ≡ Some k → (g : SubmittedGroup) × Contains gs g × (g.functional ≡ a.functional) × (g.number ≡ a.number))
        → (z : SubmittedGroup) × Contains (g ∷ gs) z × (z.functional ≡ a.functional) × (z.number ≡ a.number)
    by true is e more =
        let parts = and_parts (bytes_eq g.functional a.functional) (g.number == a.number) is in
        (g, contains_head g gs, (bytes_eq-Decides g.functional a.functional).0 parts.0, eqb-true g.number a.number parts.1)
    by false is e more = let z = more e in (z.0, contains_tail z.0 g gs z.1, z.2, z.3)

module _ (hubs : List Party) (from : Party) (s : Submission) where
  by_hub : (list : List Party) → list_any (is_same_party from) list ≡ true → Contains list from
  by_hub list e = Contains-from_any (λ p q is. (is_same_party-Decides p q).0 is) from list e

  who : (a b : Bool) → is_same_party s.receiver from ≡ a → list_any (is_same_party from) hubs ≡ b → (a || b) ≡ true → (from ≡ s.receiver) ⊎ Contains hubs from
  who true b own hub e = inl (sym ((is_same_party-Decides s.receiver from).0 own))
  who false b own hub e = inr (by_hub hubs (hub ∙ e))

  -- a TA1 that rejects
  of_ta1 : (icn note : ℕ) (e : PlacedEvidence) (b : Bool) → is_acknowledged_by hubs from icn s ≡ b → Contains (flat_map told_by_piece (or_unmatched (option_map (λ z. tells_each rejected (keyed_sets z)) (cond b (Some s) None)))) e → (s.icn ≡ icn) × ((from ≡ s.receiver) ⊎ Contains hubs from)
  of_ta1 icn note e true is h =
      let parts = and_parts (s.icn == icn) (is_same_party s.receiver from || list_any (is_same_party from) hubs) is in
      (eqb-true s.icn icn parts.0, who (is_same_party s.receiver from) (list_any (is_same_party from) hubs) refl refl parts.1)
  of_ta1 icn note e false is h = none_in_nil e h

  abbrev evidence_by_group : FunctionalGroupAnswer → Option KeyedGroup → List PlacedEvidence
  evidence_by_group a o = flat_map told_by_piece (or_unmatched (option_map (λ g. group_evidence a.code a.sets g.sets) o))

  found : (a : FunctionalGroupAnswer) (e : PlacedEvidence) (o : Option KeyedGroup) → find (names a) (keyed_groups s) ≡ o → Contains (evidence_by_group a o) e → HasGroup s a
  unfolding keyed_groups
  found a e None is h = none_in_nil e h
  found a e (Some k) is h = group_from a s 1 s.groups k is

  of_997 : (a : FunctionalGroupAnswer) (e : PlacedEvidence) (b : Bool) → is_same_party s.receiver from ≡ b → Contains (evidence_by_group a (find (names a) (flat_map keyed_groups (cond b (s ∷ []) [])))) e → (from ≡ s.receiver) × HasGroup s a
  of_997 a e false is h = none_in_nil e h
  of_997 a e true is h = (sym ((is_same_party-Decides s.receiver from).0 is), found a e (find (names a) (keyed_groups s)) refl (subst (λ gs. Contains (evidence_by_group a (find (names a) gs)) e) (append-nil (keyed_groups s)) h))

  of_answer : (a : Acknowledgment) (e : PlacedEvidence) → Contains (flat_map told_by_piece (answer_evidence hubs (s ∷ []) from a)) e → IsNamed hubs from s a
  unfolding answer_evidence
  of_answer (of_interchange icn interchange.Rejected note) e h = of_ta1 icn note e (is_acknowledged_by hubs from icn s) refl h
  of_answer (of_interchange icn interchange.Accepted note) e h = none_in_nil e h
  of_answer (of_interchange icn interchange.ErrorsNoted note) e h = none_in_nil e h
  of_answer (of_group a) e h = of_997 a e (is_same_party s.receiver from) refl h
  of_answer unclear e h = none_in_nil e h

  of_answers : (answers : List Acknowledgment) (e : PlacedEvidence) → Contains (flat_map told_by_piece (evidence_of hubs (s ∷ []) from answers)) e → (a : Acknowledgment) × Contains answers a × IsNamed hubs from s a
  unfolding evidence_of
  of_answers [] e h = none_in_nil e h
  of_answers (a ∷ answers) e h = elim (Contains-append_cases (flat_map told_by_piece (answer_evidence hubs (s ∷ []) from a)) (flat_map told_by_piece (evidence_of hubs (s ∷ []) from answers)) e (subst (λ es. Contains es e) (flat_map-append told_by_piece (answer_evidence hubs (s ∷ []) from a) (evidence_of hubs (s ∷ []) from answers)) h)) [
    | inl now ↦ (a, contains_head a answers, of_answer a e now)
    | inr later ↦ let c = of_answers answers e later in (c.0, contains_tail c.0 a answers c.1, c.2)
  ]

-- where nothing was submitted, nothing is told
nothing_told : (hubs : List Party) (from : Party) (a : Acknowledgment) → flat_map told_by_piece (answer_evidence hubs [] from a) ≡ []
unfolding answer_evidence
nothing_told hubs from (of_interchange icn interchange.Rejected note) = refl
nothing_told hubs from (of_interchange icn interchange.Accepted note) = refl
nothing_told hubs from (of_interchange icn interchange.ErrorsNoted note) = refl
nothing_told hubs from (of_group a) = refl
nothing_told hubs from unclear = refl

no_evidence : (hubs : List Party) (from : Party) (answers : List Acknowledgment) → flat_map told_by_piece (evidence_of hubs [] from answers) ≡ []
unfolding evidence_of
no_evidence hubs from [] = refl
no_evidence hubs from (a ∷ answers) = flat_map-append told_by_piece (answer_evidence hubs [] from a) (evidence_of hubs [] from answers) ∙ ap₂ (λ x y. x ++ y) (nothing_told hubs from a) (no_evidence hubs from answers)

-- The evidence of bytes, by the submission and an answer that names it.

pub record Telling (hubs : List Party) (b x : Bytes) : Type 0 where
  pub header : Header
  pub outline : Interchange
  pub is_header : header_of x ≡ Ok header
  pub is_outline : outline_of header.delims x ≡ Ok outline
  pub answer : Acknowledgment
  pub answers : Contains (answers_in b) answer
  pub named : IsNamed hubs (x12.sender b) (submission_of header x outline) answer

module _ (ed : Edition) (hubs : List Party) (b x : Bytes) (e : PlacedEvidence) (tells : Contains (x12.evidence ed hubs b x) e) where
  abbrev evidence_for : List Submission → List PlacedEvidence
  evidence_for ss = flat_map told_by_piece (evidence_of hubs (ss ++ []) (x12.sender b) (answers_in b))

  -- as it was told, before it was read by the edition
  told_for : (ss : List Submission) → submission_in_bytes x ≡ ss → (f : PlacedEvidence) × Contains (evidence_for ss) f
  told_for ss is =
      let pieces = evidence_of hubs (ss ++ []) (x12.sender b) (answers_in b) in
      was_told ed (evidence_for ss) e (subst (λ es. Contains es e) (field.evidence_is ed hubs b x ∙ ap (λ zs. flat_map told_by_piece (pieces_read ed (evidence_of hubs (zs ++ []) (x12.sender b) (answers_in b)))) is ∙ told_as_read ed pieces) tells)

  nothing : submission_in_bytes x ≡ [] → Telling hubs b x
  nothing is = let f = told_for [] is in none_in_nil f.0 (subst (λ es. Contains es f.0) (no_evidence hubs (x12.sender b) (answers_in b)) f.1)

  by_outline : (h : Header) → header_of x ≡ Ok h → (o : Result Interchange OutlineFault) → outline_of h.delims x ≡ o → Telling hubs b x
  by_outline h is (Err f) there = nothing (field.no_submission x h is f there)
  by_outline h is (Ok o) there =
      let f = told_for (submission_of h x o ∷ []) (field.submission_is x h is o there) in
      let one = of_answers hubs (x12.sender b) (submission_of h x o) (answers_in b) f.0 f.1 in
      record { header = h; outline = o; is_header = is; is_outline = there; answer = one.0; answers = one.1; named = one.2 }

  by_header : (r : Result Header HeaderFault) → header_of x ≡ r → Telling hubs b x
  by_header (Ok h) is = by_outline h is (outline_of h.delims x) refl
  by_header (Err f) is = nothing (field.no_submission_of x f is)

  pub telling : Telling hubs b x
  telling = by_header (header_of x) refl

-- Only the receiver or a hub tells.

from_named : (hubs : List Party) (from : Party) (s : Submission) (a : Acknowledgment) → IsNamed hubs from s a → (from ≡ s.receiver) ⊎ Contains hubs from
from_named hubs from s (of_interchange icn code note) named = named.1
from_named hubs from s (of_group a) named = inl named.0
from_named hubs from s unclear named = absurd named

receiver_of : (x : Bytes) (h : Header) (o : Interchange) → header_of x ≡ Ok h → x12.receiver x ≡ (submission_of h x o).receiver
unfolding submission_of
receiver_of x h o is = field.receiver_is x h is

pub told_by : (ed : Edition) (hubs : List Party) (b x : Bytes) (e : PlacedEvidence) → Contains (x12.evidence ed hubs b x) e → (x12.sender b ≡ x12.receiver x) ⊎ Contains hubs (x12.sender b)
told_by ed hubs b x e h = let t = telling ed hubs b x e h in by t (from_named hubs (x12.sender b) (submission_of t.header x t.outline) t.answer t.named)
  where
    by : (t : Telling hubs b x) → (x12.sender b ≡ (submission_of t.header x t.outline).receiver) ⊎ Contains hubs (x12.sender b) → (x12.sender b ≡ x12.receiver x) ⊎ Contains hubs (x12.sender b)
    by t (inl own) = inl (own ∙ sym (receiver_of x t.header t.outline t.is_header))
    by t (inr hub) = inr hub
