-- The sets that a reply accepts, matched by place, are those that the verdict accepts.
use Rattle.std.proofs.Common.{◌≡◌, ◌++◌, ◌∷◌, [], List, ℕ, Bool, true, false, not, map, flat_map, if◌then◌else◌, ◌==◌, ◌+◌, length, refl, cond, ap, ap₂, append-nil, sym, ◌∙◌, is_some, count_by, ◌⊎◌, inl, inr}
use Rattle.std.proofs.lemmas.List.Sums.{sum_by-cons}
use Rattle.std.proofs.lemmas.Bool.Decides.{Decides-eqb}
use Rattle.std.proofs.lemmas.Grind.{flat_map-append}
use Rattle.std.specs.Prelude.{Option, Some, None, Ok, filter, zip, take}
use Rattle.std.specs.List.{AllByRecursion, AllZip, enumerate_from}
use Rattle.x12_envelopes.specs.declared.delimiters.Delims.{Delims}
use Rattle.x12_envelopes.specs.declared.party.Party.{Party}
use Rattle.x12_envelopes.specs.declared.moment.Moment.{Moment}
use Rattle.x12_envelopes.specs.declared.header.Header.{Header}
use Rattle.x12_envelopes.specs.Segment.{Segment}
use Rattle.x12_envelopes.specs.Outline.{outline_of}
use Rattle.x12_envelopes.specs.Shape.{Interchange, FunctionalGroup, TransactionSet}
use Rattle.x12_envelopes.specs.Readable.{IsReadable, ReadIsReadable}
use Rattle.x12_envelopes.specs.Envelope.{WrittenInterchange, written, written_header}
use Rattle.x12_envelopes.specs.Fitting.{interchange_fits}
use Rattle.x12_envelopes.specs.RoundTrip.{ElementsReadBack, HeaderReadBack, OutlineReadBack, written_outline}
use Rattle.x12_envelopes.specs.WrittenSegments.{SegmentsFit}
use Rattle.x12_judge.specs.Agreement.{TradingAgreement, set_is_agreed, partner_is_lenient}
use Rattle.x12_judge.specs.Controls.{JudgingTerms}
use Rattle.x12_judge.specs.declared.verdict.SetResult.{SetResult}
use Rattle.x12_judge.specs.declared.verdict.SetResult.TheVariants as result
use Rattle.x12_judge.specs.Interchange.{note_of_interchange}
use Rattle.x12_judge.specs.Set.{TransactionSetVerdict, set_is_accepted, takes, verdict_of_set}
use Rattle.x12_judge.specs.Group.{FunctionalGroupVerdict, verdict_of_group, refusal_of_group, verdicts_of_sets}
use Rattle.x12_judge.specs.Verdict.{judged, group_is_acknowledgment, verdict_by, verdicts_of_groups, judgement_of}
use Rattle.x12_acks.specs.Reply.{reply_to, reply_of, reply_tas, accepted_tas, judged_groups, answer_groups, group_answer}
use Rattle.x12_acks.specs.Answer.{of_group, TransactionSetAnswer, FunctionalGroupAnswer}
use Rattle.x12_acks.specs.Laws.{written_ta1, written_set, written_group, written_answers}
use Rattle.x12_acks.specs.Accepted.{AcceptedSet, judged_set, sets_in_group, sets_by_verdict, accepted_by_verdict}
use Rattle.x12_acks.specs.Evidence.{result_of_code}
use Rattle.x12_acks.specs.Place.{refuses_all, answered_groups, placed_set, placed_sets, sets_by_answer, functional_answer, sets_by_reply, NamesGroup, AcceptsSets}
use Rattle.x12_acks.specs.Reply.{some_are_noted}
use Rattle.x12_acks.proofs.ReplyStatementLemmas.{code_written, group_code_by, told_set, told_group, group_stated}
use Rattle.x12_acks.proofs.ReplyEvidenceLemmas.{split_count}
use Rattle.x12_acks.proofs.ReplyVerdictLemmas.{verdicts_from, group_is_told}
use Rattle.x12_acks.proofs.ReplyBackLemmas.{answers_back}
use Rattle.x12_acks.proofs.ReplyLawLemmas.{no_answers}

-- a result is told by the code that is written of it
same_code : (r : SetResult) → result_of_code (code_written r) ≡ r
same_code result.Accepted = refl
same_code result.Noted = refl
same_code result.Rejected = refl

-- what isn't accepted passes no test that a rejected set doesn't pass
not_passed : (test : SetResult → Bool) → test result.Rejected ≡ false → (r : SetResult) → takes r ≡ false → test r ≡ false
not_passed test none result.Accepted is = cc
not_passed test none result.Noted is = cc
not_passed test none result.Rejected is = none

-- Of the sets whose result passes a test that no rejected set passes.

module _ (test : SetResult → Bool) (none_rejected : test result.Rejected ≡ false) where
  -- a set in front, which passes or not
  one_kept : (by_verdict : ℕ × TransactionSetVerdict → AcceptedSet) (b c : Bool) → c ≡ b → (p : AcceptedSet) (t : TransactionSetAnswer) (ts : List (AcceptedSet × TransactionSetAnswer)) (v : ℕ × TransactionSetVerdict) (vs : List (ℕ × TransactionSetVerdict)) → p ≡ by_verdict v → map (λ s. s.0) ts ≡ map by_verdict vs → map (λ s. s.0) (cond c ((p, t) ∷ ts) ts) ≡ map by_verdict (cond b (v ∷ vs) vs)
  one_kept by_verdict true true same p t ts v vs first more = ap₂ (λ x xs. x ∷ xs) first more
  one_kept by_verdict false false same p t ts v vs first more = more
  one_kept by_verdict true false same p t ts v vs first more = cc
  one_kept by_verdict false true same p t ts v vs first more = cc

  -- the sets of a group that pass by its answer and by its verdict
  sets_kept : (placed : ℕ × TransactionSet → AcceptedSet) (by_verdict : ℕ × TransactionSetVerdict → AcceptedSet) (d : Delims) (agreed : TransactionSet → Bool) (lenient : Bool) (all : List TransactionSet) (m n : ℕ) (ss : List TransactionSet) → ((m n : ℕ) (s : TransactionSet) → placed (m, s) ≡ by_verdict (m, verdict_of_set d (agreed s) lenient (take n all) s)) → map (λ s. s.0) (filter (λ s. test (result_of_code s.1.code)) (zip (map placed (enumerate_from m ss)) (map told_set (verdicts_from d agreed lenient all n ss)))) ≡ map by_verdict (filter (λ place. test place.1.result) (enumerate_from m (verdicts_from d agreed lenient all n ss)))
  sets_kept placed by_verdict d agreed lenient all m n [] same = refl
  sets_kept placed by_verdict d agreed lenient all m n (s ∷ ss) same =
      let v : TransactionSetVerdict = verdict_of_set d (agreed s) lenient (take n all) s in
      one_kept by_verdict (test v.result) (test (result_of_code (code_written v.result))) (ap test (same_code v.result)) (placed (m, s)) (told_set v)
      (filter (λ p. test (result_of_code p.1.code)) (zip (map placed (enumerate_from (m + 1) ss)) (map told_set (verdicts_from d agreed lenient all (n + 1) ss))))
      (m, v)
      (filter (λ place. test place.1.result) (enumerate_from (m + 1) (verdicts_from d agreed lenient all (n + 1) ss)))
      (same m n s) (sets_kept placed by_verdict d agreed lenient all (m + 1) (n + 1) ss same)

  -- where none is accepted, none is kept
  none_kept : (m : ℕ) (vs : List TransactionSetVerdict) → count_by set_is_accepted vs ≡ 0 → filter (λ place. test place.1.result) (enumerate_from m vs) ≡ []
  none_kept m [] none = refl
  none_kept m (v ∷ vs) none =
      let split = split_count (set_is_accepted v) (count_by set_is_accepted vs) (sym (sum_by-cons (λ x. cond (set_is_accepted x) 1 0) v vs) ∙ none) in
      rw (not_passed test none_rejected v.result split.0) (none_kept (m + 1) vs split.1)

-- the sets that are kept, by AK901
by_code : (refused all noted none : Bool) (told held : List AcceptedSet) → (refused ≡ true → held ≡ []) → (refused ≡ false → told ≡ held) → (none ≡ true → held ≡ []) → (if refuses_all (group_code_by refused all noted none) then [] else told) ≡ held
by_code true all noted none told held refusal same nil = sym (refusal refl)
by_code false true true none told held refusal same nil = same refl
by_code false true false none told held refusal same nil = same refl
by_code false false noted true told held refusal same nil = sym (nil refl)
by_code false false noted false told held refusal same nil = same refl

-- a set at its place, as it was sent and as it was judged
same_placed : (h : Header) (agreements : List TradingAgreement) (partner : Party) (d : Delims) (place : ℕ × FunctionalGroup) (agreed lenient : Bool) (before : List TransactionSet) (m : ℕ) (s : TransactionSet) → placed_set h place (m, s) ≡ judged_set h.sender h.icn (verdict_of_group agreements partner d place.0 place.1) (m, verdict_of_set d agreed lenient before s)
unfolding verdict_of_group verdict_of_set
same_placed h agreements partner d place agreed lenient before m s = refl

module _ (test : SetResult → Bool) (none_rejected : test result.Rejected ≡ false) where
  -- what a group's verdict keeps
  abbrev pub held_of : (ℕ × TransactionSetVerdict → AcceptedSet) → List TransactionSetVerdict → List AcceptedSet
  held_of by_verdict vs = map by_verdict (filter (λ place. test place.1.result) (enumerate_from 1 vs))

  abbrev pub told_of : Header → ℕ × FunctionalGroup → List TransactionSetVerdict → List AcceptedSet
  told_of h place vs = map (λ s. s.0) (filter (λ s. test (result_of_code s.1.code)) (zip (placed_sets h place) (map told_set vs)))

  none_held : (by_verdict : ℕ × TransactionSetVerdict → AcceptedSet) (refused : Bool) (vs : List TransactionSetVerdict) → refused ≡ true → held_of by_verdict (if refused then [] else vs) ≡ []
  none_held by_verdict refused vs is = rw is refl

  same_held : (h : Header) (place : ℕ × FunctionalGroup) (by_verdict : ℕ × TransactionSetVerdict → AcceptedSet) (refused : Bool) (vs : List TransactionSetVerdict) → told_of h place vs ≡ held_of by_verdict vs → refused ≡ false → told_of h place (if refused then [] else vs) ≡ held_of by_verdict (if refused then [] else vs)
  same_held h place by_verdict refused vs same is = rw is same

  -- the 997 of a group keeps what its verdict keeps
  group_accepts : (h : Header) (agreements : List TradingAgreement) (partner : Party) (d : Delims) (place : ℕ × FunctionalGroup) → sets_by_answer test h (place, told_group place.1.number (verdict_of_group agreements partner d place.0 place.1)) ≡ sets_in_group test h.sender h.icn (verdict_of_group agreements partner d place.0 place.1)
  unfolding sets_by_answer verdict_of_group verdicts_of_sets
  group_accepts h agreements partner d place =
      let g : FunctionalGroup = place.1 in
      let agreed : TransactionSet → Bool = λ s. set_is_agreed agreements partner g.functional s.set in
      let lenient : Bool = partner_is_lenient agreements partner in
      let refused : Bool = is_some (refusal_of_group agreements partner g) in
      let vs : List TransactionSetVerdict = verdicts_from d agreed lenient g.sets 0 g.sets in
      let sets : List TransactionSetVerdict = if refused then [] else vs in
      let by_verdict : ℕ × TransactionSetVerdict → AcceptedSet = judged_set h.sender h.icn (verdict_of_group agreements partner d place.0 place.1) in
      by_code refused (count_by set_is_accepted sets == length sets) (some_are_noted sets) (count_by set_is_accepted sets == 0) (told_of h place sets) (held_of by_verdict sets)
      (none_held by_verdict refused vs)
      (same_held h place by_verdict refused vs (sets_kept test none_rejected (placed_set h place) by_verdict d agreed lenient g.sets 1 0 g.sets (λ m n s. same_placed h agreements partner d place (agreed s) lenient (take n g.sets) m s)))
      (λ none. ap (map by_verdict) (none_kept test none_rejected 1 sets ((Decides-eqb (count_by set_is_accepted sets) 0).0 none)))

-- the answer to a judged group
abbrev pub answer_to : List TradingAgreement → Party → Delims → ℕ × FunctionalGroup → FunctionalGroupAnswer
answer_to agreements partner d place =
    told_group place.1.number (verdict_of_group agreements partner d place.0 place.1)

abbrev pub verdict_of : List TradingAgreement → Party → Delims → ℕ × FunctionalGroup → FunctionalGroupVerdict
verdict_of agreements partner d place = verdict_of_group agreements partner d place.0 place.1

-- the 997s that are written
answers_told : (agreements : List TradingAgreement) (partner : Party) (d : Delims) (k : ℕ) (ps : List (ℕ × FunctionalGroup)) → AllByRecursion (λ p. IsReadable p.1) ps → map written_set (map (λ p. group_answer p.0 p.1) (enumerate_from k (map (verdict_of agreements partner d) ps))) ≡ map (λ p. of_group (answer_to agreements partner d p)) ps
answers_told agreements partner d k [] read = refl
answers_told agreements partner d k (p ∷ ps) read =
    rw (group_stated k p.1.number (verdict_of agreements partner d p) (group_is_told agreements partner d p.0 p.1 read.0), answers_told agreements partner d (k + 1) ps read.1) refl

groups_told : (at : Moment) (gcn : ℕ) (agreements : List TradingAgreement) (partner : Party) (d : Delims) (ps : List (ℕ × FunctionalGroup)) → AllByRecursion (λ p. IsReadable p.1) ps → flat_map written_group (answer_groups at gcn (map (verdict_of agreements partner d) ps)) ≡ map (λ p. of_group (answer_to agreements partner d p)) ps
unfolding answer_groups
groups_told at gcn agreements partner d [] read = refl
groups_told at gcn agreements partner d (p ∷ ps) read =
    append-nil _ ∙ answers_told agreements partner d 1 (p ∷ ps) read

-- the 997s among answers
functional_answers : {X : Type 0} (f : X → FunctionalGroupAnswer) (xs : List X) → flat_map functional_answer (map (λ x. of_group (f x)) xs) ≡ map f xs
functional_answers f [] = refl
functional_answers f (x ∷ xs) = ap (λ rest. f x ∷ rest) (functional_answers f xs)

pub no_functional : (tas : List Segment) → flat_map functional_answer (map written_ta1 tas) ≡ []
no_functional [] = refl
no_functional (t ∷ tas) = no_functional tas

-- group by group
groups_accept : (test : SetResult → Bool) → test result.Rejected ≡ false → (h : Header) (agreements : List TradingAgreement) (partner : Party) (d : Delims) (ps : List (ℕ × FunctionalGroup)) → flat_map (sets_by_answer test h) (zip ps (map (answer_to agreements partner d) ps)) ≡ flat_map (sets_in_group test h.sender h.icn) (map (verdict_of agreements partner d) ps)
groups_accept test none h agreements partner d [] = refl
groups_accept test none h agreements partner d (p ∷ ps) =
    ap₂ (λ x xs. x ++ xs) (group_accepts test none h agreements partner d p) (groups_accept test none h agreements partner d ps)

nothing_accepted : (test : SetResult → Bool) (h : Header) (ps : List (ℕ × FunctionalGroup)) → flat_map (sets_by_answer test h) (zip ps []) ≡ []
nothing_accepted test h [] = refl
nothing_accepted test h (p ∷ ps) = refl

-- the 997s of a reply, in order
answers_in_place : (h : Header) (agreements : List TradingAgreement) (me : Party) (at : Moment) (icn gcn : ℕ) (ps : List (ℕ × FunctionalGroup)) → AllByRecursion (λ p. IsReadable p.1) ps → flat_map functional_answer (written_answers (reply_to h me at icn (accepted_tas h) (answer_groups at gcn (map (verdict_of agreements h.sender h.delims) ps)))) ≡ map (answer_to agreements h.sender h.delims) ps
unfolding reply_to written_answers
answers_in_place h agreements me at icn gcn ps read =
    let vs : List FunctionalGroupVerdict = map (verdict_of agreements h.sender h.delims) ps in
    flat_map-append functional_answer (map written_ta1 (accepted_tas h)) (flat_map written_group (answer_groups at gcn vs))
    ∙ ap₂ (λ a b. a ++ b) (no_functional (accepted_tas h)) (ap (flat_map functional_answer) (groups_told at gcn agreements h.sender h.delims ps read) ∙ functional_answers (answer_to agreements h.sender h.delims) ps)

-- the reply by the verdict
reply_accepts : (test : SetResult → Bool) → test result.Rejected ≡ false → (h : Header) (agreements : List TradingAgreement) (me : Party) (at : Moment) (icn gcn : ℕ) (note : Option ℕ) (ps : List (ℕ × FunctionalGroup)) → AllByRecursion (λ p. IsReadable p.1) ps → flat_map (sets_by_answer test h) (zip ps (flat_map functional_answer (written_answers (reply_to h me at icn (reply_tas h (verdict_by note (map (verdict_of agreements h.sender h.delims) ps))) (answer_groups at gcn (judged_groups (verdict_by note (map (verdict_of agreements h.sender h.delims) ps)))))))) ≡ sets_by_verdict test h.sender h.icn (verdict_by note (map (verdict_of agreements h.sender h.delims) ps))
unfolding reply_to written_answers sets_by_verdict
reply_accepts test none h agreements me at icn gcn (Some note) ps read =
    rw (no_answers at gcn) (nothing_accepted test h ps)
reply_accepts test none h agreements me at icn gcn None ps read =
    ap (λ said. flat_map (sets_by_answer test h) (zip ps said)) (answers_in_place h agreements me at icn gcn ps read)
    ∙ groups_accept test none h agreements h.sender h.delims ps

-- the answered groups were read
read_by : (b : Bool) (p : ℕ × FunctionalGroup) (ps : List (ℕ × FunctionalGroup)) → IsReadable p.1 → AllByRecursion (λ q. IsReadable q.1) ps → AllByRecursion (λ q. IsReadable q.1) (cond b (p ∷ ps) ps)
read_by true p ps read more = (read, more)
read_by false p ps read more = more

answered_read : (n : ℕ) (gs : List FunctionalGroup) → AllByRecursion IsReadable gs → AllByRecursion (λ p. IsReadable p.1) (filter (λ place. not (group_is_acknowledgment place.1)) (enumerate_from n gs))
answered_read n [] read = tt
answered_read n (g ∷ gs) read =
    read_by (not (group_is_acknowledgment g)) (n, g) (filter (λ place. not (group_is_acknowledgment place.1)) (enumerate_from (n + 1) gs)) read.0 (answered_read (n + 1) gs read.1)

-- what the segments of a reply accept, for an interchange whose numbers can be read
pub segments_accept : ReadIsReadable → (test : SetResult → Bool) → test result.Rejected ≡ false → (me : Party) (terms : JudgingTerms) (h : Header) (bytes : List ℕ) (x : Interchange) (at : Moment) (icn gcn : ℕ) → outline_of h.delims bytes ≡ Ok x → sets_by_reply test h x (written_answers (reply_of h (judgement_of me terms h bytes) me at icn gcn)) ≡ sets_by_verdict test h.sender h.icn (judgement_of me terms h bytes).verdict
unfolding sets_by_reply reply_of judgement_of verdicts_of_groups
segments_accept readable test none me terms h bytes x at icn gcn is =
    rw is
    (reply_accepts test none h terms.agreements me at icn gcn (note_of_interchange terms.controls me h (Ok x)) (answered_groups x)
    (answered_read 1 x.groups (readable h.delims bytes x is)))

-- each 997 names its group
listed_numbers : (d : Delims) (agreed : TransactionSet → Bool) (lenient : Bool) (all : List TransactionSet) (n : ℕ) (ss : List TransactionSet) → map (λ s. s.number) (map told_set (verdicts_from d agreed lenient all n ss)) ≡ map (λ s. s.number) ss
unfolding verdict_of_set
listed_numbers d agreed lenient all n [] = refl
listed_numbers d agreed lenient all n (s ∷ ss) = ap (λ ns. s.number ∷ ns) (listed_numbers d agreed lenient all (n + 1) ss)

lists_by : (refused all noted none : Bool) (vs : List TransactionSetVerdict) (numbers : List (List ℕ)) → map (λ s. s.number) (map told_set vs) ≡ numbers → ((refuses_all (group_code_by refused all noted none) ≡ true) × (map told_set (if refused then [] else vs) ≡ [])) ⊎ (map (λ s. s.number) (map told_set (if refused then [] else vs)) ≡ numbers)
lists_by true all noted none vs numbers same = inl (refl, refl)
lists_by false all noted none vs numbers same = inr same

names_group : (agreements : List TradingAgreement) (partner : Party) (d : Delims) (place : ℕ × FunctionalGroup) → NamesGroup place.1 (answer_to agreements partner d place)
unfolding verdict_of_group verdicts_of_sets
names_group agreements partner d place =
    let g : FunctionalGroup = place.1 in
    let agreed : TransactionSet → Bool = λ s. set_is_agreed agreements partner g.functional s.set in
    let lenient : Bool = partner_is_lenient agreements partner in
    let refused : Bool = is_some (refusal_of_group agreements partner g) in
    let sets : List TransactionSetVerdict = if refused then [] else verdicts_from d agreed lenient g.sets 0 g.sets in
    record {
      functional = refl;
      number = refl;
      sets = lists_by refused (count_by set_is_accepted sets == length sets) (some_are_noted sets) (count_by set_is_accepted sets == 0) (verdicts_from d agreed lenient g.sets 0 g.sets) (map (λ s. s.number) g.sets) (listed_numbers d agreed lenient g.sets 0 g.sets);
    }

each_named : (agreements : List TradingAgreement) (partner : Party) (d : Delims) (ps : List (ℕ × FunctionalGroup)) → AllZip (λ place a. NamesGroup place.1 a) ps (map (answer_to agreements partner d) ps)
each_named agreements partner d [] = tt
each_named agreements partner d (p ∷ ps) = (names_group agreements partner d p, each_named agreements partner d ps)

reply_names : (h : Header) (agreements : List TradingAgreement) (me : Party) (at : Moment) (icn gcn : ℕ) (note : Option ℕ) (ps : List (ℕ × FunctionalGroup)) (groups : List FunctionalGroupVerdict) → AllByRecursion (λ p. IsReadable p.1) ps → verdict_by note (map (verdict_of agreements h.sender h.delims) ps) ≡ judged groups → AllZip (λ place a. NamesGroup place.1 a) ps (flat_map functional_answer (written_answers (reply_to h me at icn (reply_tas h (verdict_by note (map (verdict_of agreements h.sender h.delims) ps))) (answer_groups at gcn (judged_groups (verdict_by note (map (verdict_of agreements h.sender h.delims) ps)))))))
reply_names h agreements me at icn gcn (Some note) ps groups read is = absurd (cc)
reply_names h agreements me at icn gcn None ps groups read is =
    rw (answers_in_place h agreements me at icn gcn ps read) (each_named agreements h.sender h.delims ps)

pub segments_name : ReadIsReadable → (me : Party) (terms : JudgingTerms) (h : Header) (bytes : List ℕ) (x : Interchange) (at : Moment) (icn gcn : ℕ) (groups : List FunctionalGroupVerdict) → outline_of h.delims bytes ≡ Ok x → (judgement_of me terms h bytes).verdict ≡ judged groups → AllZip (λ place a. NamesGroup place.1 a) (answered_groups x) (flat_map functional_answer (written_answers (reply_of h (judgement_of me terms h bytes) me at icn gcn)))
unfolding reply_of judgement_of verdicts_of_groups
segments_name readable me terms h bytes x at icn gcn groups is held =
    rw is
    (reply_names h terms.agreements me at icn gcn (note_of_interchange terms.controls me h (Ok x)) (answered_groups x) groups
    (answered_read 1 x.groups (readable h.delims bytes x is)) (rw is at held))

-- what the bytes of a reply that fits accept
pub bytes_accept : ReadIsReadable → ElementsReadBack → HeaderReadBack → OutlineReadBack → SegmentsFit → (me : Party) (terms : JudgingTerms) (h : Header) (bytes : List ℕ) (x : Interchange) (at : Moment) (icn gcn : ℕ) → outline_of h.delims bytes ≡ Ok x → interchange_fits (reply_of h (judgement_of me terms h bytes) me at icn gcn) ≡ true → AcceptsSets h x (written (reply_of h (judgement_of me terms h bytes) me at icn gcn)) (accepted_by_verdict h.sender h.icn (judgement_of me terms h bytes).verdict)
bytes_accept readable back header outline fit me terms h bytes x at icn gcn is held =
    let reply : WrittenInterchange = reply_of h (judgement_of me terms h bytes) me at icn gcn in
    record {
      header = written_header reply;
      outline = written_outline reply;
      is_header = header reply held;
      is_outline = outline reply held;
      accepted = ap (sets_by_reply takes h x) (answers_back back fit reply held) ∙ segments_accept readable takes refl me terms h bytes x at icn gcn is;
    }
