-- The verdict of a functional group (997, AK9).
use Rattle.std.specs.Prelude.{ℕ, not, List, [], ◌∷◌, map, length, take, Option}
use Rattle.std.specs.Prelude.{None, if◌then◌else◌, nat_le, is_none, is_some, codes}
use Rattle.std.specs.Prelude.{count_by, unwrap_or, option_and_then, nat_eq}
use Rattle.std.specs.List.{starts_with, enumerate_from}
use Rattle.x12_envelopes.specs.declared.party.Party.{Party}
use Rattle.x12_envelopes.specs.declared.delimiters.Delims.{Delims}
use Rattle.x12_envelopes.specs.Row.{first_of_rows}
use Rattle.x12_envelopes.specs.Place.{its_place, its_item}
use Rattle.x12_envelopes.specs.Shape.{FunctionalGroup, FunctionalGroupTrailer, TransactionSet}
use Rattle.x12_judge.specs.declared.verdict.GroupRefusal.{GroupRefusal}
use Rattle.x12_judge.specs.declared.verdict.GroupRefusal.TheVariants.{NotSupported}
use Rattle.x12_judge.specs.declared.verdict.GroupRefusal.TheVariants.{VersionNotSupported}
use Rattle.x12_judge.specs.declared.verdict.GroupRefusal.TheVariants.{TrailerMissing, NumbersDiffer}
use Rattle.x12_judge.specs.declared.verdict.GroupRefusal.TheVariants.{CountWrong}
use Rattle.x12_judge.specs.Agreement.{TradingAgreement, set_is_agreed, group_is_agreed}
use Rattle.x12_judge.specs.Agreement.{partner_is_lenient}
use Rattle.x12_judge.specs.Interchange.{value_is_number}
use Rattle.x12_judge.specs.Set.{TransactionSetVerdict, verdict_of_set, set_is_accepted}

-- why a group of this partner is refused: the first row whose condition holds
unfoldable pub refusal_of_group :
    List TradingAgreement → Party → FunctionalGroup → Option GroupRefusal
refusal_of_group agreements partner g = first_of_rows (
    (not (group_is_agreed agreements partner g.functional), NotSupported)
    ∷ (not (starts_with nat_eq g.version (codes "004010")), VersionNotSupported)
    ∷ (is_none g.trailer, TrailerMissing)
    ∷ (not (value_is_number g.number (option_and_then (λ t. t.number) g.trailer)), NumbersDiffer)
    ∷ (not (value_is_number (length g.sets) (option_and_then (λ t. t.count) g.trailer)), CountWrong)
    ∷ [])

-- the verdict of each set, behind the sets before it
unfoldable pub verdicts_of_sets :
    List TradingAgreement → Party → Delims → FunctionalGroup → List TransactionSetVerdict
verdicts_of_sets agreements partner d g =
    let is_agreed = set_is_agreed agreements partner g.functional in
    let lenient = partner_is_lenient agreements partner in
    map (λ (p : ℕ × TransactionSet).
    verdict_of_set d (is_agreed (its_item p).set) lenient (take (its_place p) g.sets) (its_item p))
    (enumerate_from 0 g.sets)

-- GE01 as a number of one to six digits, if it is one
abbrev pub short_count_of : FunctionalGroupTrailer → Option ℕ
short_count_of t = if nat_le (length t.count_text) 6 then t.count else None

-- what a group deserves: its place among the groups, GS01, GS02, GS03, GS06; how many sets it says
-- that it includes, how many were received and how many are accepted; why it is refused, or else
-- the verdict of each set
pub record FunctionalGroupVerdict : Type 0 where
  pub place : ℕ
  pub functional : List ℕ
  pub sender : List ℕ
  pub receiver : List ℕ
  pub number_text : List ℕ
  pub included : ℕ
  pub received : ℕ
  pub accepted : ℕ
  pub refused : Option GroupRefusal
  pub sets : List TransactionSetVerdict

-- the verdict of a group at this place; a refused group rejects all its sets
unfoldable pub verdict_of_group :
    List TradingAgreement → Party → Delims → ℕ → FunctionalGroup → FunctionalGroupVerdict
verdict_of_group agreements partner d place g =
    let refused = refusal_of_group agreements partner g in
    let sets = if is_some refused then [] else verdicts_of_sets agreements partner d g in record {
      place = place;
      functional = g.functional;
      sender = g.sender;
      receiver = g.receiver;
      number_text = g.number_text;
      included = unwrap_or (option_and_then short_count_of g.trailer) (length g.sets);
      received = length g.sets;
      accepted = count_by set_is_accepted sets;
      refused = refused;
      sets = sets;
    }
