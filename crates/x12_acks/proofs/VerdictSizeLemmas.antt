-- The verdict of what was read is short.
use Rattle.std.proofs.Common.{◌≤◌, ℕ, ◌+◌, ◌==◌, Bool, true, false, not, List, [], ◌∷◌, length, take, map, cond, flat_map, if◌then◌else◌, is_none, is_some, unwrap_or, arith, length-take}
use Rattle.std.specs.Prelude.{Option, Some, None, IfSome, bytes_eq, filter, nat_le, option_and_then}
use Rattle.std.specs.List.{AllByRecursion, enumerate_from, sum_by}
use Rattle.std.proofs.lemmas.List.Sums.{sum_by-cons, count_by-le-length}
use Rattle.x12_envelopes.specs.declared.party.Party.{Party}
use Rattle.x12_envelopes.specs.declared.delimiters.Delims.{Delims}
use Rattle.x12_envelopes.specs.Shape.{TransactionSet, FunctionalGroup, FunctionalGroupTrailer}
use Rattle.x12_judge.specs.declared.verdict.SetCode.TheVariants.{NotSupported, TrailerMissing, NumbersDiffer, CountWrong, SegmentsInError, NumberNotUnique}
use Rattle.x12_judge.specs.Agreement.{TradingAgreement, set_is_agreed, partner_is_lenient}
use Rattle.x12_judge.specs.Interchange.{value_is_number}
use Rattle.x12_judge.specs.Set.{TransactionSetVerdict, reported, notes_of_set, trailer_says, is_repeated, codes_by, codes_of_set, verdict_of_set, set_is_accepted}
use Rattle.x12_judge.specs.Group.{FunctionalGroupVerdict, refusal_of_group, verdicts_of_sets, short_count_of, verdict_of_group}
use Rattle.x12_judge.specs.Verdict.{group_is_acknowledgment}
use Rattle.x12_judge.proofs.SmallVerdictLemmas.{held_few, few_in_group}
use Rattle.x12_acks.proofs.SetSizeLemmas.{IsShortSet}
use Rattle.x12_acks.proofs.NoteSizeLemmas.{notes_short}
use Rattle.x12_acks.proofs.GroupSizeLemmas.{IsShortGroup, sets_in}

-- a transaction set that was read
pub record IsShortRead (s : TransactionSet) : Type 0 where
  pub set' : length s.set ≤ 3
  pub number : length s.number ≤ 9
  pub parts : length s.parts ≤ 9999990

-- a functional group that was read
pub record IsShortReadGroup (g : FunctionalGroup) : Type 0 where
  pub functional : length g.functional ≤ 2
  pub sender : length g.sender ≤ 15
  pub receiver : length g.receiver ≤ 15
  pub number : length g.number_text ≤ 9
  pub count : IfSome g.trailer (λ t. IfSome t.count (λ n. n ≤ 999999999))
  pub sets : AllByRecursion IsShortRead g.sets

six_codes : (d : Delims) (agreed : Bool) (earlier : List TransactionSet) (s : TransactionSet) → length (codes_of_set d agreed earlier s) ≤ 6
unfolding codes_of_set codes_by
six_codes d agreed earlier s =
    held_few
    ((not agreed, NotSupported)
    ∷ (is_none s.trailer, TrailerMissing)
    ∷ (trailer_says s.trailer (λ t. not (bytes_eq t.number s.number)), NumbersDiffer)
    ∷ (trailer_says s.trailer (λ t. not (value_is_number s.segments t.count)), CountWrong)
    ∷ (not (length (notes_of_set d agreed s) == 0), SegmentsInError)
    ∷ (is_repeated earlier s, NumberNotUnique)
    ∷ [])

set_short : (d : Delims) (agreed lenient : Bool) (earlier : List TransactionSet) (s : TransactionSet) → IsShortRead s → IsShortSet (verdict_of_set d agreed lenient earlier s)
unfolding verdict_of_set
set_short d agreed lenient earlier s short = record {
  set' = short.set';
  number = short.number;
  codes' = six_codes d agreed earlier s;
  few = omega (arith, length-take 8 (flat_map reported (notes_of_set d agreed s)));
  notes = notes_short d agreed s short.parts;
}

abbrev verdicts_from : Delims → (TransactionSet → Bool) → Bool → List TransactionSet → ℕ → List TransactionSet → List TransactionSetVerdict
verdicts_from d agreed lenient all n ss = map (λ place. verdict_of_set d (agreed place.1) lenient (take place.0 all) place.1) (enumerate_from n ss)

sets_short : (d : Delims) (agreed : TransactionSet → Bool) (lenient : Bool) (all : List TransactionSet) (n : ℕ) (ss : List TransactionSet) → AllByRecursion IsShortRead ss → AllByRecursion IsShortSet (verdicts_from d agreed lenient all n ss)
sets_short d agreed lenient all n [] short = tt
sets_short d agreed lenient all n (s ∷ ss) short =
    (set_short d (agreed s) lenient (take n all) s short.0, sets_short d agreed lenient all (n + 1) ss short.1)

as_many : (d : Delims) (agreed : TransactionSet → Bool) (lenient : Bool) (all : List TransactionSet) (n : ℕ) (ss : List TransactionSet) → length (verdicts_from d agreed lenient all n ss) ≤ length ss
as_many d agreed lenient all n [] = omega arith
as_many d agreed lenient all n (s ∷ ss) = omega (arith, as_many d agreed lenient all (n + 1) ss)

-- no verdict of a set where the group is refused
unless_refused : (b : Bool) (vs : List TransactionSetVerdict) → AllByRecursion IsShortSet vs → AllByRecursion IsShortSet (if b then [] else vs)
unless_refused true vs short = tt
unless_refused false vs short = short

no_more : (b : Bool) (vs : List TransactionSetVerdict) (most : ℕ) → length vs ≤ most → length (if b then [] else vs) ≤ most
no_more true vs most few = omega arith
no_more false vs most few = few

-- AK902
some_count : (o : Option ℕ) (most : ℕ) → most ≤ 999999999 → IfSome o (λ n. n ≤ 999999999) → unwrap_or o most ≤ 999999999
some_count None most few count = few
some_count (Some n) most few count = count

counted : (t : FunctionalGroupTrailer) (b : Bool) (most : ℕ) → most ≤ 999999999 → IfSome t.count (λ n. n ≤ 999999999) → unwrap_or (if b then t.count else None) most ≤ 999999999
counted t false most few count = few
counted t true most few count = some_count t.count most few count

included_short : (o : Option FunctionalGroupTrailer) (most : ℕ) → most ≤ 999999999 → IfSome o (λ t. IfSome t.count (λ n. n ≤ 999999999)) → unwrap_or (option_and_then short_count_of o) most ≤ 999999999
included_short None most few count = few
included_short (Some t) most few count = counted t (nat_le (length t.count_text) 6) most few count

group_short : (agreements : List TradingAgreement) (partner : Party) (d : Delims) (place : ℕ) (g : FunctionalGroup) → length g.sets ≤ 400 → IsShortReadGroup g → IsShortGroup (verdict_of_group agreements partner d place g)
unfolding verdict_of_group verdicts_of_sets
group_short agreements partner d place g few short =
    let agreed : TransactionSet → Bool = λ s. set_is_agreed agreements partner g.functional s.set in
    let lenient : Bool = partner_is_lenient agreements partner in
    let refused : Bool = is_some (refusal_of_group agreements partner g) in
    let sets : List TransactionSetVerdict = if refused then [] else verdicts_from d agreed lenient g.sets 0 g.sets in
    let most = no_more refused (verdicts_from d agreed lenient g.sets 0 g.sets) (length g.sets) (as_many d agreed lenient g.sets 0 g.sets) in
    record {
      functional = short.functional;
      sender = short.sender;
      receiver = short.receiver;
      number = short.number;
      included = included_short g.trailer (length g.sets) (omega (arith, few)) short.count;
      received = omega (arith, few);
      accepted = omega (arith, few, most, count_by-le-length set_is_accepted sets);
      sets = unless_refused refused (verdicts_from d agreed lenient g.sets 0 g.sets) (sets_short d agreed lenient g.sets 0 g.sets short.sets);
    }

-- verdicts of at most so many groups, with at most so many sets in all
pub record AreShort (vs : List FunctionalGroupVerdict) (groups sets : ℕ) : Type 0 where
  pub each : AllByRecursion IsShortGroup vs
  pub few_groups : length vs ≤ groups
  pub few_sets : sets_in vs ≤ sets

kept_by : (f : ℕ × FunctionalGroup → FunctionalGroupVerdict) (b : Bool) (x : ℕ × FunctionalGroup) (xs : List (ℕ × FunctionalGroup)) (groups sets more most all : ℕ) → IsShortGroup (f x) → length (f x).sets ≤ more → groups + 1 ≤ most → more + sets ≤ all → AreShort (map f xs) groups sets → AreShort (map f (cond b (x ∷ xs) xs)) most all
kept_by f true x xs groups sets more most all short few one several rest = record {
  each = (short, rest.each);
  few_groups = omega (arith, rest.few_groups, one);
  few_sets = omega (arith, sum_by-cons (λ (v : FunctionalGroupVerdict). length v.sets) (f x) (map f xs), few, rest.few_sets, several);
}
kept_by f false x xs groups sets more most all short few one several rest = record {
  each = rest.each;
  few_groups = omega (arith, rest.few_groups, one);
  few_sets = omega (arith, rest.few_sets, several);
}

abbrev pub sets_read : List FunctionalGroup → ℕ
sets_read gs = sum_by (λ (g : FunctionalGroup). length g.sets) gs

-- the verdicts of the groups that were read
pub verdicts_short : (agreements : List TradingAgreement) (partner : Party) (d : Delims) (n : ℕ) (gs : List FunctionalGroup) → AllByRecursion IsShortReadGroup gs → sets_read gs ≤ 400 → AreShort (map (λ place. verdict_of_group agreements partner d place.0 place.1) (filter (λ place. not (group_is_acknowledgment place.1)) (enumerate_from n gs))) (length gs) (sets_read gs)
verdicts_short agreements partner d n [] short few =
    record { each = tt; few_groups = omega arith; few_sets = omega arith }
verdicts_short agreements partner d n (g ∷ gs) short few =
    let sum = sum_by-cons (λ (g : FunctionalGroup). length g.sets) g gs in
    kept_by (λ place. verdict_of_group agreements partner d place.0 place.1) (not (group_is_acknowledgment g)) (n, g) (filter (λ place. not (group_is_acknowledgment place.1)) (enumerate_from (n + 1) gs))
    (length gs) (sets_read gs) (length g.sets) (length (g ∷ gs)) (sets_read (g ∷ gs))
    (group_short agreements partner d n g (omega (arith, sum, few)) short.0)
    (few_in_group agreements partner d n g)
    (omega arith)
    (omega (arith, sum))
    (verdicts_short agreements partner d (n + 1) gs short.1 (omega (arith, sum, few)))
