-- A reply tells only of the answered number and of the answered groups.
use Rattle.std.specs.Prelude.{◌≡◌, ℕ, List, [], ◌∷◌, ◌++◌, Bool, true, false, not, if◌then◌else◌, map, filter, flat_map, Option, Some, None, Result, Ok, Err, option_map, unwrap_or, refl, Contains, bytes_eq, codes, ◌⊎◌}
use Rattle.std.specs.List.{enumerate_from, AllByRecursion}
use mathlib.Core.Path.{sym, ap, ap₂, subst, ◌∙◌}
use mathlib.Core.Logic.{inl, inr}
use Rattle.std.proofs.lemmas.Grind.{flat_map-append}
use Rattle.x12_envelopes.specs.declared.header.Header.{Header}
use Rattle.x12_envelopes.specs.declared.party.Party.{Party}
use Rattle.x12_envelopes.specs.declared.moment.Moment.{Moment}
use Rattle.x12_envelopes.specs.declared.shape.OutlineFault.{OutlineFault}
use Rattle.x12_envelopes.specs.Header.{header_of}
use Rattle.x12_envelopes.specs.Outline.{outline_of}
use Rattle.x12_envelopes.specs.Byte.{value_of_digits, zero_padded_number}
use Rattle.x12_envelopes.specs.Envelope.{WrittenGroup, WrittenSet, element_at}
use Rattle.x12_envelopes.specs.Readable.{HeaderNumberIsReadable}
use Rattle.x12_envelopes.specs.Shape.{Interchange, FunctionalGroup}
use Rattle.x12_judge.specs.Agreement.{TradingAgreement}
use Rattle.x12_judge.specs.Controls.{JudgingTerms}
use Rattle.x12_judge.specs.Interchange.{note_of_interchange}
use Rattle.x12_judge.specs.Verdict.{InterchangeVerdict, refused, judged, judgement_of, verdicts_of_groups, verdict_by, group_is_acknowledgment}
use Rattle.x12_numbers.proofs.Shelf.{all_append, none_in_nil, contains_cons, contains_head, contains_tail, contains_in_filter, contains_mapped}
use Rattle.x12_acks.specs.Answer.{Acknowledgment, of_interchange, of_group, unclear, FunctionalGroupAnswer, answer_of, ListedSets, group_answer_of, listed_from, between}
use Rattle.x12_acks.specs.Laws.{written_ta1, written_set, written_group, written_answers}
use Rattle.x12_acks.specs.Place.{answered_groups, functional_answer, NamesGroup, ReplyAcceptsByPlace}
use Rattle.x12_acks.specs.Reply.{reply_of, reply_to, reply_tas, judged_groups, answer_groups, ta1_segment, asks_acknowledgment}
use Rattle.x12_acks.specs.Statement.{Statement, st, ak1}
use Rattle.x12_acks.specs.Submission.{SubmittedGroup, submission_of, submitted_group}
use Rattle.x12_profile.specs.declared.edition.Edition.{Edition}
use Rattle.x12_profile.specs.Edition.{terms_by}
use Rattle.x12_profile.specs.Interchange.{Bytes, PlacedEvidence}
use Rattle.x12_profile.specs.Laws.{IsReply, SharesGroup}
use Rattle.x12_profile.specs.Reading.{answers_in}
use Rattle.x12_profile.specs.X12.{x12, group_numbers}
use Rattle.x12_profile.proofs.Below.{Below}
use Rattle.x12_profile.proofs.FieldLemmas as field
use Rattle.x12_profile.proofs.ListLemmas.{all_in, in_filter, in_enumerated, zip_left}
use Rattle.x12_profile.proofs.NamedLemmas.{IsNamed, HasGroup, telling}
use Rattle.x12_profile.proofs.ReplyLemmas as reply
use Rattle.x12_acks.proofs.ReplyLawLemmas.{no_answers}
use Rattle.x12_acks.proofs.ReplyPlaceLemmas.{no_functional}

-- an answer is to this number, or names one of these groups by its code and its number
abbrev IsTo : ℕ → List (ℕ × FunctionalGroup) → Acknowledgment → Type 0
IsTo n ps (of_interchange icn code note) = icn ≡ n
IsTo n ps (of_group a) = (p : ℕ × FunctionalGroup) × Contains ps p × NamesGroup p.1 a
IsTo n ps unclear = Unit {0}

-- a TA1 is to this number
abbrev IsToNumber : ℕ → Acknowledgment → Type 0
IsToNumber n (of_interchange icn code note) = icn ≡ n
IsToNumber n (of_group a) = Unit {0}
IsToNumber n unclear = Unit {0}

-- a 997 names one of these groups
abbrev NamesOne : List (ℕ × FunctionalGroup) → FunctionalGroupAnswer → Type 0
NamesOne ps a = (p : ℕ × FunctionalGroup) × Contains ps p × NamesGroup p.1 a

-- The answers of groups are no TA1s.

abbrev IsOfGroup : Acknowledgment → Type 0
IsOfGroup (of_interchange icn code note) = ⊥
IsOfGroup (of_group a) = Unit {0}
IsOfGroup unclear = Unit {0}

answer_is : (ss : List Statement) → IsOfGroup (answer_of ss)
unfolding answer_of
answer_is (st ∷ ak1 functional number ∷ more) = by (listed_from between more)
  where
    by : (o : Option ListedSets) → IsOfGroup (unwrap_or (option_map (group_answer_of functional number) o) unclear)
    by (Some l) = tt
    by None = tt
answer_is ss = cc

no_ta1 : (n : ℕ) (a : Acknowledgment) → IsOfGroup a → IsToNumber n a
no_ta1 n (of_interchange icn code note) is = absurd is
no_ta1 n (of_group a) is = tt
no_ta1 n unclear is = tt

sets_to : (n : ℕ) (ss : List WrittenSet) → AllByRecursion (IsToNumber n) (map written_set ss)
sets_to n [] = tt
sets_to n (s ∷ ss) = (no_ta1 n (written_set s) (answer_is _), sets_to n ss)

groups_to : (n : ℕ) (gs : List WrittenGroup) → AllByRecursion (IsToNumber n) (flat_map written_group gs)
groups_to n [] = tt
groups_to n (g ∷ gs) = all_append (IsToNumber n) (written_group g) (flat_map written_group gs) (by (bytes_eq (element_at g.header 1) (codes "FA"))) (groups_to n gs)
  where
    by : (b : Bool) → AllByRecursion (IsToNumber n) (if b then map written_set g.sets else [])
    by true = sets_to n g.sets
    by false = tt

tas_to : (h : Header) (v : InterchangeVerdict) → value_of_digits (zero_padded_number 9 h.icn) ≡ h.icn → AllByRecursion (IsToNumber h.icn) (map written_ta1 (reply_tas h v))
tas_to h (refused note) is = (is, tt)
tas_to h (judged groups) is = by (asks_acknowledgment h)
  where
    by : (b : Bool) → AllByRecursion (IsToNumber h.icn) (map written_ta1 (if b then ta1_segment h (codes "A") 0 ∷ [] else []))
    by true = (is, tt)
    by false = tt

together : (n : ℕ) (ps : List (ℕ × FunctionalGroup)) (answers : List Acknowledgment) → AllByRecursion (IsToNumber n) answers → AllByRecursion (NamesOne ps) (flat_map functional_answer answers) → AllByRecursion (IsTo n ps) answers
together n ps [] tas groups = tt
together n ps (of_interchange icn code note ∷ answers) tas groups = (tas.0, together n ps answers tas.1 groups)
together n ps (of_group a ∷ answers) tas groups = (groups.0, together n ps answers tas.1 groups.1)
together n ps (unclear ∷ answers) tas groups = (tt, together n ps answers tas.1 groups)

-- What the segments of a reply answer.

module _ (me : Party) (a : JudgingTerms) (h : Header) (b : Bytes) (at : Moment) (icn gcn : ℕ) where
  abbrev v : InterchangeVerdict
  v = (judgement_of me a h b).verdict

  abbrev said : List Acknowledgment
  said = written_answers (reply_of h (judgement_of me a h b) me at icn gcn)

  segments : said ≡ map written_ta1 (reply_tas h v) ++ flat_map written_group (answer_groups at gcn (judged_groups v))
  unfolding written_answers reply_of reply_to
  segments = refl

  all_to : value_of_digits (zero_padded_number 9 h.icn) ≡ h.icn → AllByRecursion (IsToNumber h.icn) said
  all_to is = subst (AllByRecursion (IsToNumber h.icn)) (sym segments) (all_append (IsToNumber h.icn) _ _ (tas_to h v is) (groups_to h.icn (answer_groups at gcn (judged_groups v))))

  none_named : judged_groups v ≡ [] → flat_map functional_answer said ≡ []
  none_named none =
      ap (flat_map functional_answer) segments
      ∙ flat_map-append functional_answer (map written_ta1 (reply_tas h v)) (flat_map written_group (answer_groups at gcn (judged_groups v)))
      ∙ ap₂ (λ x y. x ++ y) (no_functional (reply_tas h v)) (ap (λ gs. flat_map functional_answer (flat_map written_group (answer_groups at gcn gs))) none ∙ ap (flat_map functional_answer) (no_answers at gcn))

  by_verdict : ReplyAcceptsByPlace → (o : Interchange) → outline_of h.delims b ≡ Ok o → (w : InterchangeVerdict) → v ≡ w → AllByRecursion (NamesOne (answered_groups o)) (flat_map functional_answer said)
  by_verdict places o there (refused note) same = subst (AllByRecursion (NamesOne (answered_groups o))) (sym (none_named (ap judged_groups same))) tt
  by_verdict places o there (judged groups) same = zip_left (λ place a. NamesGroup place.1 a) (answered_groups o) (flat_map functional_answer said) (places.named me a h b o at icn gcn groups there same)

  none_judged : (f : OutlineFault) → outline_of h.delims b ≡ Err f → judged_groups v ≡ []
  unfolding judgement_of verdicts_of_groups
  none_judged f is = rw is (by (note_of_interchange a.controls me h (Err f)))
    where
      by : (n : Option ℕ) → judged_groups (verdict_by n []) ≡ []
      by (Some n) = refl
      by None = refl

  -- each answer is to the number, or names an answered group
  pub answered : ReplyAcceptsByPlace → HeaderNumberIsReadable → header_of b ≡ Ok h → (o : Interchange) → outline_of h.delims b ≡ Ok o → AllByRecursion (IsTo h.icn (answered_groups o)) said
  answered places number is o there = together h.icn (answered_groups o) said (all_to (number b h is)) (by_verdict places o there v refl)

  pub answered_none : HeaderNumberIsReadable → header_of b ≡ Ok h → (f : OutlineFault) → outline_of h.delims b ≡ Err f → AllByRecursion (IsTo h.icn []) said
  answered_none number is f there = together h.icn [] said (all_to (number b h is)) (subst (AllByRecursion (NamesOne [])) (sym (none_named (none_judged f there))) tt)

-- a submitted group is one of the outline
of_outline : (gs : List FunctionalGroup) (k : SubmittedGroup) → Contains (map submitted_group gs) k → (g : FunctionalGroup) × Contains gs g × (g.functional ≡ k.functional) × (g.number ≡ k.number)
of_outline [] k h = none_in_nil k h
of_outline (g ∷ gs) k h = elim (contains_cons k (submitted_group g) (map submitted_group gs) h) [
  | inl same ↦ (g, contains_head g gs, ap (λ (z : SubmittedGroup). z.functional) same, ap (λ (z : SubmittedGroup). z.number) same)
  | inr later ↦ let c = of_outline gs k later in (c.0, contains_tail c.0 g gs c.1, c.2, c.3)
]

-- a group that isn't of acknowledgments gives its number
numbered : (o : Interchange) (k : FunctionalGroup) → Contains o.groups k → not (group_is_acknowledgment k) ≡ true → Contains (group_numbers o) k.number
numbered o k k_in kind = contains_mapped (λ (z : FunctionalGroup). z.number) (filter (λ z. not (group_is_acknowledgment z)) o.groups) k (contains_in_filter (λ z. not (group_is_acknowledgment z)) o.groups k k_in kind)

-- The law.

module _ (g : Below) (me : Party) (a : List TradingAgreement) (b r : Bytes) (w : IsReply x12 me a b r) where
  abbrev hb : Header
  hb = (reply.known g me a b r w).0

  known : header_of b ≡ Ok hb
  known = (reply.known g me a b r w).1

  -- the groups that are answered
  abbrev answered_in : Result Interchange OutlineFault → List (ℕ × FunctionalGroup)
  answered_in (Ok o) = answered_groups o
  answered_in (Err f) = []

  all_answered : (o : Result Interchange OutlineFault) → outline_of hb.delims b ≡ o → AllByRecursion (IsTo hb.icn (answered_in o)) (answers_in r)
  all_answered (Ok o) is = subst (AllByRecursion (IsTo hb.icn (answered_groups o))) (sym (reply.answers_are g me a b r w)) (answered me (terms_by w.edition a) hb b w.at w.book.interchange w.book.group g.places g.number known o is)
  all_answered (Err f) is = subst (AllByRecursion (IsTo hb.icn [])) (sym (reply.answers_are g me a b r w)) (answered_none me (terms_by w.edition a) hb b w.at w.book.interchange w.book.group g.number known f is)

  module _ (x : Bytes) (h : Header) (o : Interchange) (is : header_of x ≡ Ok h) (there : outline_of h.delims x ≡ Ok o) where
    -- a group that is answered, and a group of x of its code and number
    shared : (k : FunctionalGroup) → Contains o.groups k → (ob : Interchange) → outline_of hb.delims b ≡ Ok ob → (p : ℕ × FunctionalGroup) → Contains (answered_groups ob) p
        → k.functional ≡ p.1.functional → k.number ≡ p.1.number → SharesGroup x12 b x
    shared k k_in ob ob_there p p_in functional number =
        let q = in_filter (λ place. not (group_is_acknowledgment place.1)) (enumerate_from 1 ob.groups) p p_in in
        let kind : not (group_is_acknowledgment k) ≡ true = ap (λ f. not (bytes_eq f (codes "FA"))) functional ∙ q.1 in (
          p.1.number,
          subst (λ ns. Contains ns p.1.number) (sym (field.groups_are b hb known ob ob_there)) (numbered ob p.1 (in_enumerated 1 ob.groups p q.0) q.1),
          subst (λ n. Contains (x12.groups x) n) number (subst (λ ns. Contains ns k.number) (sym (field.groups_are x h is o there)) (numbered o k k_in kind)),
        )

    abbrev IsAbout : Type 0
    IsAbout = (x12.number b ≡ x12.number x) ⊎ SharesGroup x12 b x

    -- a 997 of the reply that names a group of x
    of_997 : (y : FunctionalGroupAnswer) (from : Party) → HasGroup (submission_of h x o) y → (ob : Result Interchange OutlineFault) → outline_of hb.delims b ≡ ob → NamesOne (answered_in ob) y → IsAbout
    unfolding submission_of
    of_997 y from group (Ok ob) ob_there to =
        let k = of_outline o.groups group.0 group.1 in
        inr (shared k.0 k.1 ob ob_there to.0 to.1 (k.2 ∙ group.2 ∙ to.2.functional) (k.3 ∙ group.3 ∙ to.2.number))
    of_997 y from group (Err f) ob_there to = none_in_nil to.0 to.1

    number_of_x : x12.number x ≡ (submission_of h x o).icn
    unfolding submission_of
    number_of_x = field.number_is x h is

    of_answer : (hubs : List Party) (from : Party) (y : Acknowledgment) → IsTo hb.icn (answered_in (outline_of hb.delims b)) y → IsNamed hubs from (submission_of h x o) y → IsAbout
    of_answer hubs from (of_interchange icn code note) to named = inl (field.number_is b hb known ∙ sym to ∙ sym named.0 ∙ sym number_of_x)
    of_answer hubs from (of_group y) to named = of_997 y from named.1 (outline_of hb.delims b) refl to
    of_answer hubs from unclear to named = absurd named

  pub about : (ed : Edition) (hubs : List Party) (x : Bytes) (e : PlacedEvidence) → Contains (x12.evidence ed hubs r x) e → (x12.number b ≡ x12.number x) ⊎ SharesGroup x12 b x
  about ed hubs x e told =
      let t = telling ed hubs r x e told in
      of_answer x t.header t.outline t.is_header t.is_outline hubs (x12.sender r) t.answer
      (all_in (IsTo hb.icn (answered_in (outline_of hb.delims b))) (answers_in r) t.answer (all_answered (outline_of hb.delims b) refl) t.answers) t.named
