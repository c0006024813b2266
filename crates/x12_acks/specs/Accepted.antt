-- The transaction sets of an interchange that its verdict accepts, with or without errors noted (997, AK501
-- and AK901).
use Rattle.std.specs.Prelude.{ℕ, Bool, List, [], map, filter, flat_map}
use Rattle.std.specs.List.{enumerate_from}
use Rattle.x12_envelopes.specs.Place.{its_place, its_item}
use Rattle.x12_envelopes.specs.declared.party.Party.{Party}
use Rattle.x12_judge.specs.declared.verdict.SetResult.{SetResult}
use Rattle.x12_judge.specs.Set.{TransactionSetVerdict, takes, is_noted}
use Rattle.x12_judge.specs.Group.{FunctionalGroupVerdict}
use Rattle.x12_judge.specs.Verdict.{InterchangeVerdict, refused, judged}
use Rattle.x12_acks.specs.Submission.{TransactionSetKey}

-- an accepted transaction set: its key, GS01 of its group, its identifier (ST01), its number
-- (ST02), and its bytes from ST through its last terminator
pub record AcceptedSet : Type 0 where
  pub key : TransactionSetKey
  pub functional : List ℕ
  pub set : List ℕ
  pub number : List ℕ
  pub bytes : List ℕ

-- a transaction set of the interchange from this sender under this number, at a place of a judged
-- group
abbrev pub judged_set :
    Party → ℕ → FunctionalGroupVerdict → ℕ × TransactionSetVerdict → AcceptedSet
judged_set sender icn g s = record {
  key = record { sender = sender; icn = icn; group = g.place; set = its_place s };
  functional = g.functional;
  set = (its_item s).set;
  number = (its_item s).number;
  bytes = (its_item s).bytes;
}

-- the transaction sets of a judged group whose result passes a test, by their places from 1
abbrev pub sets_in_group : (SetResult → Bool) → Party → ℕ → FunctionalGroupVerdict → List AcceptedSet
sets_in_group test sender icn g =
    map (judged_set sender icn g)
    (filter (λ (s : ℕ × TransactionSetVerdict). test (its_item s).result)
    (enumerate_from 1 g.sets))

-- the transaction sets of an interchange whose result by its verdict passes a test: none of one that
-- is refused
unfoldable pub sets_by_verdict :
    (SetResult → Bool) → Party → ℕ → InterchangeVerdict → List AcceptedSet
sets_by_verdict test sender icn (refused note) = []
sets_by_verdict test sender icn (judged groups) = flat_map (sets_in_group test sender icn) groups

-- the transaction sets of a judged group that are accepted, with or without errors noted
abbrev pub accepted_in_group : Party → ℕ → FunctionalGroupVerdict → List AcceptedSet
accepted_in_group sender icn g = sets_in_group takes sender icn g

-- the transaction sets of an interchange that its verdict accepts, with or without errors noted
abbrev pub accepted_by_verdict : Party → ℕ → InterchangeVerdict → List AcceptedSet
accepted_by_verdict sender icn v = sets_by_verdict takes sender icn v

-- of these, those with errors noted
abbrev pub noted_by_verdict : Party → ℕ → InterchangeVerdict → List AcceptedSet
noted_by_verdict sender icn v = sets_by_verdict is_noted sender icn v
