-- A judgement has a verdict of each submitted group.
use Rattle.std.proofs.Common.{◌≡◌, ◌∷◌, [], List, ℕ, Bool, true, false, not, map, flat_map, if◌then◌else◌, ◌+◌, refl, ap, is_some, take}
use Rattle.std.specs.Prelude.{filter, bytes_eq}
use Rattle.std.specs.List.{AllByRecursion, IsDistinct, enumerate_from}
use Rattle.x12_envelopes.specs.declared.delimiters.Delims.{Delims}
use Rattle.x12_envelopes.specs.declared.party.Party.{Party}
use Rattle.x12_envelopes.specs.Byte.{text_has_length}
use Rattle.x12_envelopes.specs.Shape.{FunctionalGroup, TransactionSet}
use Rattle.x12_judge.specs.Agreement.{TradingAgreement, set_is_agreed, partner_is_lenient}
use Rattle.x12_judge.specs.Segment.{SegmentNote}
use Rattle.x12_judge.specs.Set.{TransactionSetVerdict, verdict_of_set, notes_of_set, reported}
use Rattle.x12_judge.specs.Group.{verdict_of_group, refusal_of_group, verdicts_of_sets}
use Rattle.x12_judge.specs.Verdict.{group_is_acknowledgment}
use Rattle.x12_acks.specs.Submission.{Submission, KeyedSet, keyed_set, keyed_group, submitted_set, submitted_group}
use Rattle.x12_envelopes.specs.Readable.{IsReadable}
use Rattle.x12_acks.specs.Laws.{HasDistinctSets}
use Rattle.x12_acks.proofs.ReplyStatementLemmas.{IsNoted, IsTold, IsToldGroup}
use Rattle.x12_acks.proofs.ReplyEvidenceLemmas.{same_set, IsVerdictOf}
use Rattle.x12_acks.proofs.ReplyGroupLemmas.{AreVerdictsOf}

-- the written notes begin with a segment's
noted : (notes : List SegmentNote) → IsNoted (take 8 (flat_map reported notes))
noted [] = tt
noted (n ∷ notes) = tt

abbrev pub verdicts_from : Delims → (TransactionSet → Bool) → Bool → List TransactionSet → ℕ → List TransactionSet → List TransactionSetVerdict
verdicts_from d agreed lenient all n ss = map (λ place. verdict_of_set d (agreed place.1) lenient (take place.0 all) place.1) (enumerate_from n ss)

abbrev pub keyed_from : Submission → ℕ → ℕ → List TransactionSet → List KeyedSet
keyed_from e group m ss = map (λ s. keyed_set e group s.0 s.1) (enumerate_from m (map submitted_set ss))

sets_told : (d : Delims) (agreed : TransactionSet → Bool) (lenient : Bool) (all : List TransactionSet) (n : ℕ) (ss : List TransactionSet) → AllByRecursion (λ s. text_has_length 4 9 s.number ≡ true) ss → AllByRecursion IsTold (verdicts_from d agreed lenient all n ss)
unfolding verdict_of_set
sets_told d agreed lenient all n [] fit = tt
sets_told d agreed lenient all n (s ∷ ss) fit =
    (record { number = fit.0; notes = noted (notes_of_set d (agreed s) s) }, sets_told d agreed lenient all (n + 1) ss fit.1)

sets_numbered : (d : Delims) (agreed : TransactionSet → Bool) (lenient : Bool) (all : List TransactionSet) (e : Submission) (group n m : ℕ) (ss : List TransactionSet) → map (λ s. s.number) (verdicts_from d agreed lenient all n ss) ≡ map (λ s. s.number) (keyed_from e group m ss)
unfolding verdict_of_set
sets_numbered d agreed lenient all e group n m [] = refl
sets_numbered d agreed lenient all e group n m (s ∷ ss) = ap (λ ns. s.number ∷ ns) (sets_numbered d agreed lenient all e group (n + 1) (m + 1) ss)

keyed_sets_all : (P : List ℕ → Type 0) (e : Submission) (group m : ℕ) (ss : List TransactionSet) → AllByRecursion (λ s. P s.number) ss → AllByRecursion (λ k. P k.number) (keyed_from e group m ss)
keyed_sets_all P e group m [] all = tt
keyed_sets_all P e group m (s ∷ ss) all = (all.0, keyed_sets_all P e group (m + 1) ss all.1)

sets_distinct : (e : Submission) (group m : ℕ) (ss : List TransactionSet) → IsDistinct (λ s t. bytes_eq s.number t.number) ss → IsDistinct same_set (keyed_from e group m ss)
unfolding IsDistinct
sets_distinct e group m [] distinct = tt
sets_distinct e group m (s ∷ ss) distinct =
    (keyed_sets_all (λ n. bytes_eq s.number n ≡ false) e group (m + 1) ss distinct.0, sets_distinct e group (m + 1) ss distinct.1)

unless_refused : (b : Bool) (vs : List TransactionSetVerdict) → AllByRecursion IsTold vs → AllByRecursion IsTold (if b then [] else vs)
unless_refused true vs told = tt
unless_refused false vs told = told

numbered_by : (b : Bool) (vs : List TransactionSetVerdict) (ks : List KeyedSet) → map (λ s. s.number) vs ≡ map (λ s. s.number) ks → b ≡ false → map (λ s. s.number) (if b then [] else vs) ≡ map (λ s. s.number) ks
numbered_by b vs ks numbers is = rw is numbers

-- the answer to a group that was read can be read
pub group_is_told : (agreements : List TradingAgreement) (partner : Party) (d : Delims) (n : ℕ) (g : FunctionalGroup) → IsReadable g → IsToldGroup g.number (verdict_of_group agreements partner d n g)
unfolding verdict_of_group verdicts_of_sets
group_is_told agreements partner d n g read =
    let agreed : TransactionSet → Bool = λ s. set_is_agreed agreements partner g.functional s.set in
    let lenient : Bool = partner_is_lenient agreements partner in
    let refused : Bool = is_some (refusal_of_group agreements partner g) in
    record {
      functional = read.functional;
      number = read.number;
      sets = unless_refused refused (verdicts_from d agreed lenient g.sets 0 g.sets) (sets_told d agreed lenient g.sets 0 g.sets read.sets);
    }

group_judged : (agreements : List TradingAgreement) (partner : Party) (d : Delims) (e : Submission) (n : ℕ) (g : FunctionalGroup) → IsReadable g → HasDistinctSets g → IsVerdictOf (keyed_group e n (submitted_group g)) (verdict_of_group agreements partner d n g)
unfolding verdict_of_group verdicts_of_sets
group_judged agreements partner d e n g read distinct =
    let agreed : TransactionSet → Bool = λ s. set_is_agreed agreements partner g.functional s.set in
    let lenient : Bool = partner_is_lenient agreements partner in
    let refused : Bool = is_some (refusal_of_group agreements partner g) in
    record {
      told = group_is_told agreements partner d n g read;
      functional = refl;
      numbers = numbered_by refused (verdicts_from d agreed lenient g.sets 0 g.sets) (keyed_from e n 1 g.sets) (sets_numbered d agreed lenient g.sets e n 0 1 g.sets);
      accepted = refl;
      distinct = sets_distinct e n 1 g.sets distinct;
    }

not_filtered : {X : Type 0} (p : X → Bool) (x : X) (xs : List X) → p x ≡ false → filter (λ y. not (p y)) (x ∷ xs) ≡ x ∷ filter (λ y. not (p y)) xs
not_filtered p x xs is = rw is refl

pub groups_judged : (agreements : List TradingAgreement) (partner : Party) (d : Delims) (e : Submission) (n : ℕ) (gs : List FunctionalGroup) → AllByRecursion IsReadable gs → AllByRecursion HasDistinctSets gs → AllByRecursion (λ g. group_is_acknowledgment g ≡ false) gs → AreVerdictsOf (map (λ g. keyed_group e g.0 g.1) (enumerate_from n (map submitted_group gs))) (map (λ place. verdict_of_group agreements partner d place.0 place.1) (filter (λ place. not (group_is_acknowledgment place.1)) (enumerate_from n gs)))
groups_judged agreements partner d e n [] read distinct none = tt
groups_judged agreements partner d e n (g ∷ gs) read distinct none =
    rw (not_filtered (λ place. group_is_acknowledgment place.1) (n, g) (enumerate_from (n + 1) gs) none.0)
    (group_judged agreements partner d e n g read.0 distinct.0, groups_judged agreements partner d e (n + 1) gs read.1 distinct.1 none.1)
