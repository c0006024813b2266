-- A tiny profile that meets every law: a party is a qualifier of one number; an interchange is a list of its kind (0 a
-- submission, 1 a reply, 2 a refusal), sender, receiver, number; then, of an acknowledgment, the number that it answers and whether it
-- accepts (1), with errors noted (2), or rejects (0). A submission has one set. Its receiver accepts it where it has any agreement, and
-- notes errors where an agreement is lenient.
use Rattle.std.specs.Prelude.{◌≡◌, ◌≢◌, ◌⊎◌, ℕ, List, [], ◌∷◌, Bool, true, false, not, ◌&&◌, ◌||◌, ◌==◌, if◌then◌else◌, Contains, refl, length, filter, slice_index}
use Rattle.std.specs.List.{list_any}
use mathlib.Core.Path.{sym, ap, ap₂, subst, ◌∙◌}
use mathlib.Core.Logic.{inl, inr}
use native.Mathlib.Omega.{arith}
use Rattle.std.proofs.lemmas.Bool.{eqb-true, and_parts}
use Rattle.x12_envelopes.specs.declared.party.Party.{Party}
use Rattle.x12_judge.specs.Agreement.{TradingAgreement, is_same_party}
use Rattle.x12_envelopes.specs.declared.moment.Moment.{Moment}
use Rattle.x12_profile.specs.declared.edition.Edition.{Edition}
use Rattle.x12_judge.specs.declared.verdict.SetResult.{SetResult}
use Rattle.x12_judge.specs.declared.verdict.SetResult.TheVariants.{Rejected}
use Rattle.x12_judge.specs.Set.{takes}
use Rattle.x12_acks.specs.Told.{result_if}
use Rattle.x12_profile.specs.Interchange.{Bytes, PlaceOfSet, PlacedTransactionSet, PlacedEvidence, Book, is_place, evidence_by}
use Rattle.x12_profile.specs.Profile.{Profile}
use Rattle.x12_profile.specs.Laws.{Laws, SubmissionLaws, ReplyLaws, RefusalLaws}
use Rattle.x12_numbers.proofs.Shelf.{none_in_nil, contains_cons, contains_head, contains_tail, eq_itself, or_true_right}
use Rattle.x12_profile.proofs.PartyLemmas.{is_same_party-Decides, party_tells}
use Rattle.x12_acks.proofs.ReplyGroupLemmas.{same_party_itself}
use Rattle.x12_acks.proofs.ReplyLawLemmas.{hub_known}

abbrev nth : Bytes → ℕ → ℕ
nth b i = slice_index b i

abbrev is_sub : Bytes → Bool
is_sub b = nth b 0 == 0

-- the party of a number, and the number of a party
abbrev pub party : ℕ → Party
party n = record { qualifier = n ∷ []; id = [] }

abbrev digit : Party → ℕ
digit me = nth me.qualifier 0

abbrev from : Bytes → Party
from b = party (nth b 1)

abbrev to : Bytes → Party
to b = party (nth b 2)

abbrev pub the_set : Bytes → PlacedTransactionSet
the_set b = record { place = record { group = 1; set = 1 }; functional = []; set = []; number = []; bytes = b }

abbrev sets_of : Bytes → List PlacedTransactionSet
sets_of b = if is_sub b then the_set b ∷ [] else []

-- whether b answers x, from one that may
abbrev tells_of : List Party → Bytes → Bytes → Bool
tells_of hubs b x = not (is_sub b) && (nth b 4 == nth x 3) && (is_same_party (from b) (to x) || ((nth b 0 == 2) && list_any (is_same_party (from b)) hubs))

abbrev has : List TradingAgreement → Bool
has [] = false
has (a ∷ agreements) = true

abbrev agrees : Party → List TradingAgreement → Bytes → Bool
agrees me agreements b = is_sub b && is_same_party (to b) me && has agreements

-- whether some agreement is lenient
abbrev notes : List TradingAgreement → Bool
notes agreements = list_any (λ a. a.lenient) agreements

-- what an acknowledgment says, and what that stands for
abbrev flag : Party → List TradingAgreement → Bytes → ℕ
flag me agreements b = if agrees me agreements b then (if notes agreements then 2 else 1) else 0

abbrev flagged : ℕ → SetResult
flagged n = result_if (n == 2) (not (n == 0))

abbrev pub toy : Profile
toy = record {
  has_header = λ b. true;
  sender = from;
  receiver = to;
  number = λ b. nth b 3;
  groups = λ b. if is_sub b then nth b 3 ∷ [] else [];
  sets = sets_of;
  is_submission = is_sub;
  is_silent = λ b. not (is_sub b);
  refuses = λ ed me b. not (is_same_party (to b) me);
  verdict = λ ed me agreements x k. result_if (notes agreements) (agrees me agreements x);
  needs = λ ed me agreements b. record { reply = is_sub b; group = is_sub b };
  reply = λ ed me agreements at book b. 1 ∷ digit me ∷ nth b 1 ∷ book.interchange ∷ nth b 3 ∷ flag me agreements b ∷ [];
  refusal = λ note me at icn b. 2 ∷ digit me ∷ nth b 1 ∷ icn ∷ nth b 3 ∷ 0 ∷ [];
  evidence = λ ed hubs b x. if tells_of hubs b x then evidence_by ed (λ k. flagged (nth b 5)) (sets_of x) else [];
  result = λ b r k. result_if (nth r 5 == 2) (is_sub b && is_same_party (to b) (from r) && not (nth r 5 == 0));
  pieces = λ ed hubs xs b. [];
  unclear = λ b. 0;
  may_order = λ partner texts. true;
  orders = λ me partner at book texts. 0 ∷ digit me ∷ digit partner ∷ book.interchange ∷ [];
  is_plain = λ me. (length me.qualifier == 1) && (length me.id == 0);
}

-- a plain party is one number
one_number : (me : Party) → ((length me.qualifier == 1) && (length me.id == 0)) ≡ true → party (digit me) ≡ me
one_number me e =
    let parts = and_parts (length me.qualifier == 1) (length me.id == 0) e in
    ap₂ (λ q i. party_by q i) (one me.qualifier (eqb-true (length me.qualifier) 1 parts.0)) (sym (none me.id (eqb-true (length me.id) 0 parts.1)))
  where
    party_by : List ℕ → List ℕ → Party
    party_by q i = record { qualifier = q; id = i }

    one : (ns : List ℕ) → length ns ≡ 1 → nth ns 0 ∷ [] ≡ ns
    one [] is = absurd (omega arith)
    one (n ∷ []) is = refl
    one (n ∷ m ∷ ms) is = absurd (omega arith)

    none : (ns : List ℕ) → length ns ≡ 0 → ns ≡ []
    none [] is = refl
    none (n ∷ ns) is = absurd (omega arith)

or_cases : (x y : Bool) → (x || y) ≡ true → (x ≡ true) ⊎ (y ≡ true)
or_cases true y e = inl refl
or_cases false y e = inr e

any_contains : (a : Party) (names : List Party) → list_any (is_same_party a) names ≡ true → Contains names a
any_contains a [] e = absurd (cc)
any_contains a (n ∷ names) e = elim (or_cases (is_same_party a n) (list_any (is_same_party a) names) e) [
  | inl here ↦ subst (λ z. Contains (n ∷ names) z) (sym ((is_same_party-Decides a n).0 here)) (contains_head n names)
  | inr later ↦ contains_tail a n names (any_contains a names later)
]

-- evidence tells that b answers x
answers : (ed : Edition) (hubs : List Party) (b x : Bytes) (e : PlacedEvidence) → Contains (toy.evidence ed hubs b x) e → tells_of hubs b x ≡ true
answers ed hubs b x e h = by (tells_of hubs b x) h
  where
    by : (t : Bool) → Contains (if t then evidence_by ed (λ k. flagged (nth b 5)) (sets_of x) else []) e → t ≡ true
    by true k = refl
    by false k = none_in_nil e k

parts : (hubs : List Party) (b x : Bytes) → tells_of hubs b x ≡ true → (not (is_sub b) ≡ true) × (nth b 4 ≡ nth x 3) × ((is_same_party (from b) (to x) || ((nth b 0 == 2) && list_any (is_same_party (from b)) hubs)) ≡ true)
parts hubs b x e =
    let one = and_parts (not (is_sub b) && (nth b 4 == nth x 3)) (is_same_party (from b) (to x) || ((nth b 0 == 2) && list_any (is_same_party (from b)) hubs)) e in
    let two = and_parts (not (is_sub b)) (nth b 4 == nth x 3) one.0 in
    (two.0, eqb-true (nth b 4) (nth x 3) two.1, one.1)

one_at_a_place : (x : Bytes) (s : PlacedTransactionSet) → Contains (sets_of x) s → (t : Bool) → is_sub x ≡ t → filter (λ t. is_place s.place t.place) (sets_of x) ≡ s ∷ []
one_at_a_place x s h false is = none_in_nil s (rw is at h)
one_at_a_place x s h true is = elim (contains_cons s (the_set x) [] (rw is at h)) [
  | inl e ↦ subst (λ z. filter (λ t. is_place z.place t.place) (sets_of x) ≡ z ∷ []) e (rw is refl)
  | inr past ↦ none_in_nil s past
]

submission_laws : SubmissionLaws toy
submission_laws = record {
  has_group = λ x sub e. no_nil (rw sub at e);
  one_at_a_place = λ x s h. one_at_a_place x s h (is_sub x) refl;
  tells_nothing = λ ed hubs b x sub. rw sub refl;
}
  where
    no_nil : {n : ℕ} → n ∷ [] ≡ [] → ⊥
    no_nil e = cc

told_flag : (lenient agreed : Bool) → flagged (if agreed then (if lenient then 2 else 1) else 0) ≡ result_if lenient agreed
told_flag true true = refl
told_flag false true = refl
told_flag lenient false = refl

tells_own : (ed by : Edition) (a : List TradingAgreement) (m : Moment) (book : Book) (hubs : List Party) (x : Bytes) → toy.evidence ed hubs (toy.reply by (to x) a m book x) x ≡ evidence_by ed (toy.verdict by (to x) a x) (toy.sets x)
tells_own ed by a m book hubs x = rw (eq_itself (nth x 3), told_flag (notes a) (agrees (to x) a x), eq_itself (nth x 2)) refl

-- what a reply by this party says of the set
abbrev flag_by : (s t h lenient : Bool) → ℕ
flag_by s t h lenient = if s && t && h then (if lenient then 2 else 1) else 0

says_by : (s t h lenient : Bool) → result_if (flag_by s t h lenient == 2) (s && t && not (flag_by s t h lenient == 0)) ≡ result_if lenient (s && t && h)
says_by true true true true = refl
says_by true true true false = refl
says_by true true false lenient = refl
says_by true false h lenient = refl
says_by false t h lenient = refl

says_from : (q me : Party) (a : List TradingAgreement) (x : Bytes) → q ≡ me → result_if (flag me a x == 2) (is_sub x && is_same_party (to x) q && not (flag me a x == 0)) ≡ result_if (notes a) (agrees me a x)
says_from q me a x plain = ap (λ z. result_if (flag me a x == 2) (is_sub x && is_same_party (to x) z && not (flag me a x == 0))) plain ∙ says_by (is_sub x) (is_same_party (to x) me) (has a) (notes a)

accepts_own : (ed : Edition) (me : Party) (a : List TradingAgreement) (m : Moment) (book : Book) (x : Bytes) (k : PlaceOfSet) → party (digit me) ≡ me → toy.result x (toy.reply ed me a m book x) k ≡ toy.verdict ed me a x k
accepts_own ed me a m book x k plain = says_from (party (digit me)) me a x plain

accepts_no_group : (b r : Bytes) (k : PlaceOfSet) → is_sub b ≡ true → toy.groups b ≡ [] → takes (toy.result b r k) ≡ false
accepts_no_group b r k sub none = absurd (no_nil (rw sub at none))
  where
    no_nil : {n : ℕ} → n ∷ [] ≡ [] → ⊥
    no_nil e = cc

takes_no_other : (me : Party) (a : List TradingAgreement) (b : Bytes) → to b ≢ me → agrees me a b ≡ false
takes_no_other me a b other = elim (party_tells (to b) me) [
  | inl same ↦ absurd (other same.1)
  | inr apart ↦ rw (apart.0) (by (is_sub b) (has a))
]
  where
    by : (s h : Bool) → (s && false && h) ≡ false
    by true h = refl
    by false h = refl

reply_laws : ReplyLaws toy
reply_laws = record {
  from = λ me a b r w. ap (λ z. party (nth z 1)) w.bytes ∙ one_number me w.plain;
  to = λ me a b r w. ap (λ z. party (nth z 2)) w.bytes;
  number = λ me a b r w. ap (λ z. nth z 3) w.bytes;
  no_groups = λ me a b r w. ap toy.groups w.bytes;
  about = λ me a b r w ed hubs x e h. inl (sym (ap (λ z. nth z 4) w.bytes) ∙ (parts hubs r x (answers ed hubs r x e h)).1);
  is_taken = λ me a x r w ed. ap (toy.refuses ed (from x)) w.bytes ∙ rw (same_party_itself (from x)) refl;
  tells = λ me a x r w sub n rises own ed hubs. ap (λ z. toy.evidence ed hubs z x) w.bytes ∙ subst (λ z. toy.evidence ed hubs (toy.reply w.edition z a w.at w.book x) x ≡ evidence_by ed (toy.verdict w.edition z a x) (toy.sets x)) own (tells_own ed w.edition a w.at w.book hubs x);
  result = λ me a b r w k. ap (λ z. toy.result b z k) w.bytes ∙ accepts_own w.edition me a w.at w.book b k (one_number me w.plain);
  accepts_no_group = λ me a b r w none k. accepts_no_group b r k w.due none;
  accepts_no_other = λ me a b r w other k. ap takes (ap (λ z. toy.result b z k) w.bytes ∙ accepts_own w.edition me a w.at w.book b k (one_number me w.plain)) ∙ ap (λ t. takes (result_if (notes a) t)) (takes_no_other me a b other);
}

rejects_all : (ed : Edition) (note : ℕ) (me : Party) (m : Moment) (icn : ℕ) (hubs : List Party) (x : Bytes) → party (digit me) ≡ me → Contains hubs me → toy.evidence ed hubs (toy.refusal note me m icn x) x ≡ evidence_by ed (λ k. Rejected) (toy.sets x)
rejects_all ed note me m icn hubs x plain hub =
    let known : list_any (is_same_party (party (digit me))) hubs ≡ true = hub_known (party (digit me)) hubs (rw plain hub) in
    rw (eq_itself (nth x 3), known, or_true_right (is_same_party (party (digit me)) (to x))) refl

refusal_laws : RefusalLaws toy
refusal_laws = record {
  from = λ me b r w. ap (λ z. party (nth z 1)) w.bytes ∙ one_number me w.plain;
  to = λ me b r w. ap (λ z. party (nth z 2)) w.bytes;
  number = λ me b r w. ap (λ z. nth z 3) w.bytes;
  no_groups = λ me b r w. ap toy.groups w.bytes;
  about = λ me b r w ed hubs x e h. sym (ap (λ z. nth z 4) w.bytes) ∙ (parts hubs r x (answers ed hubs r x e h)).1;
  is_taken = λ me x r w ed. ap (toy.refuses ed (from x)) w.bytes ∙ rw (same_party_itself (from x)) refl;
  tells = λ me x r w sub ed hubs hub. ap (λ z. toy.evidence ed hubs z x) w.bytes ∙ rejects_all ed w.note me w.at w.icn hubs x (one_number me w.plain) hub;
}

pub toy_laws : Laws toy
toy_laws = record {
  submission = submission_laws;
  reply = reply_laws;
  refusal = refusal_laws;
  told_by = λ ed hubs b x e h. who hubs b x (parts hubs b x (answers ed hubs b x e h)).2;
  refuses_others = λ ed me b header taken. addressed me b taken;
}
  where
    who : (hubs : List Party) (b x : Bytes) → (is_same_party (from b) (to x) || ((nth b 0 == 2) && list_any (is_same_party (from b)) hubs)) ≡ true → (from b ≡ to x) ⊎ Contains hubs (from b)
    who hubs b x e = elim (or_cases (is_same_party (from b) (to x)) ((nth b 0 == 2) && list_any (is_same_party (from b)) hubs) e) [
      | inl own ↦ inl ((is_same_party-Decides (from b) (to x)).0 own)
      | inr hub ↦ inr (any_contains (from b) hubs (and_parts (nth b 0 == 2) (list_any (is_same_party (from b)) hubs) hub).1)
    ]

    addressed : (me : Party) (b : Bytes) → not (is_same_party (to b) me) ≡ false → to b ≡ me
    addressed me b e = elim (party_tells (to b) me) [ inl same ↦ same.1 | inr apart ↦ let wrong : true ≡ false = rw (apart.0) at e in absurd cc ]
