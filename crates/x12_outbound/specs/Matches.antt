-- What answers state of the interchanges and functional groups of a ledger.
use Rattle.std.specs.Prelude.{ℕ, ◌≡◌, ◌<◌, ◌==◌, ◌||◌, Bool, true, List, ◌++◌, map, find, flat_map, length, bytes_eq, slice_get, slice_index_or, Option, Some, None, option_map, is_some}
use Rattle.std.specs.List.{enumerate_from, list_any, AllByRecursion}
use Rattle.std.specs.Option.{option_or}
use Rattle.x12_judge.specs.Agreement.{is_same_party}
use Rattle.x12_acks.specs.Evidence.{Evidence, rejected, tells_each, group_evidence, found_interchange, found_group, or_unmatched}
use Rattle.x12_acks.specs.Submission.{Submission, TransactionSetKey, keyed_sets}
use Rattle.x12_acks.specs.Answer.{FunctionalGroupAnswer, set_answer_view}
use Rattle.x12_envelopes.specs.declared.party.Party.{Party}
use Rattle.x12_acks.specs.Key.{key_view}
use Rattle.x12_outbound.specs.declared.entry.Entry.{Entry}
use Rattle.x12_outbound.specs.declared.entry.EntryGroup.{EntryGroup}
use Rattle.x12_outbound.specs.declared.fate.FinalFate.TheVariants.{Rejected}
use Rattle.x12_outbound.specs.declared.evidence.Statement.{Statement}
use Rattle.x12_outbound.specs.declared.row.Row.{Row}
use Rattle.x12_outbound.specs.declared.statement.NamedBy.{NamedBy}
use Rattle.x12_outbound.specs.declared.statement.NamedBy.TheVariants.{Interchange}
use Rattle.x12_outbound.specs.declared.statement.Origin.{Origin}
use Rattle.x12_outbound.specs.declared.matches.GroupAnswer.{GroupAnswer}
use Rattle.x12_outbound.specs.declared.matches.Parties.{Parties}
use Rattle.x12_outbound.specs.Group.{HasGroup, groups_of_row}
use Rattle.x12_outbound.specs.Hubs.{hubs_of}
use Rattle.x12_outbound.specs.Piece.{set_statement_view}
use Rattle.x12_outbound.specs.Matching.{SetNumbers}
use Rattle.x12_outbound.specs.Ledger.{LedgerRow, row_view, interchange_in, numbers_in_rows}
use Rattle.x12_outbound.specs.Plan.{is_about_set, names_its_set}
use Rattle.x12_outbound.specs.Subject.{Subject, subject_for}
use Rattle.x12_outbound.specs.Statement.{all_told, evidence_told, subject_told}

-- what a 997 says of a functional group, as the code holds it
abbrev pub group_answer_view : GroupAnswer → FunctionalGroupAnswer
group_answer_view a = record {
  functional = a.functional;
  number = a.number;
  code = a.code;
  sets = map set_answer_view a.sets.now;
}

-- the group at a place of an interchange
abbrev pub origin : Parties → Entry → NamedBy → ℕ → Origin
origin p e by place = record { from = p.from; sender = p.me; icn = e.icn; group = place; by = by }

-- that each transaction set of an interchange was rejected
unfoldable pub interchange_told : Parties → Entry → List (Option Statement)
interchange_told p e =
    flat_map (λ g. all_told (origin p e Interchange g.0) Rejected g.1.sets.items)
    (enumerate_from 1 e.groups.items)

-- a statement names the numbers of the set that it is about, and comes from one who may say so
abbrev pub statement_is_named : Parties → List LedgerRow → Option Statement → Bool
statement_is_named p rows None = true
statement_is_named p rows (Some s) =
    is_about_set (hubs_of p.hubs) (set_statement_view s)
    (numbers_in_rows p.me rows (key_view s.key))

abbrev pub AreNamed : Parties → List LedgerRow → List (Option Statement) → Type 0
AreNamed p rows statements = AllByRecursion (λ s. statement_is_named p rows s ≡ true) statements

-- the same by the numbers of the sets of two lists of interchanges
abbrev pub numbers_in_both :
    Party → List LedgerRow → List LedgerRow → TransactionSetKey → Option SetNumbers
numbers_in_both me rows closed =
    λ key. option_or (numbers_in_rows me rows key) (numbers_in_rows me closed key)

abbrev pub AreNamedInBoth :
    Parties → List LedgerRow → List LedgerRow → List (Option Statement) → Type 0
AreNamedInBoth p rows closed statements =
    AllByRecursion
    (λ s.
    names_its_set (hubs_of p.hubs) (numbers_in_both p.me rows closed)
    (option_map set_statement_view s)
    ≡ true)
    statements

-- of two lists of interchanges the second has no number of the first
abbrev pub AreApart : List LedgerRow → List LedgerRow → Type 0
AreApart rows closed =
    (icn : ℕ) → is_some (interchange_in closed icn) ≡ true → interchange_in rows icn ≡ None

-- statements were added that are this evidence; each names its set, and what the answer names
pub record AddsStatements (p : Parties) (rows : List LedgerRow) (name : Option Subject)
    (old new : List (Option Statement)) (evidence : List Evidence) : Type 0 where
  pub more : List (Option Statement)
  pub is : new ≡ old ++ more
  pub told : map evidence_told more ≡ evidence
  pub names : map subject_told more ≡ map (subject_for name) evidence
  pub named : AreNamed p rows more

-- the same by the sets of two lists of interchanges
pub record AddsInBoth (p : Parties) (rows closed : List LedgerRow) (name : Option Subject)
    (old new : List (Option Statement)) (evidence : List Evidence) : Type 0 where
  pub more : List (Option Statement)
  pub is : new ≡ old ++ more
  pub told : map evidence_told more ≡ evidence
  pub names : map subject_told more ≡ map (subject_for name) evidence
  pub named : AreNamedInBoth p rows closed more

-- the row at this place has this number, and the one who answers may reject its interchange
pub record MayReject (p : Parties) (rows : List Row) (icn at : ℕ) : Type 0 where
  pub within : at < length rows
  pub number : (d : Row) → (slice_index_or rows at d).entry.icn ≡ icn
  pub found :
      find (λ r. r.interchange.icn == icn) (map row_view rows)
      ≡ slice_get (map row_view rows) at
  pub may :
      (d : Row) →
      (is_same_party (slice_index_or rows at d).entry.partner p.from
      || list_any (is_same_party p.from) (hubs_of p.hubs))
      ≡ true

-- the row at a place has a group of these numbers at this index, and the one who answers received it
pub record WasReceived (p : Parties) (rows : List Row) (a : FunctionalGroupAnswer) (at index : ℕ) :
    Type 0 where
  pub within : at < length rows
  pub group : (d : Row) → HasGroup a.number index (groups_of_row (slice_index_or rows at d))
  pub receiver : (d : Row) → is_same_party (slice_index_or rows at d).entry.partner p.from ≡ true
  pub functional :
      (d : Row) (e : EntryGroup) →
      bytes_eq (slice_index_or (groups_of_row (slice_index_or rows at d)) index e).functional
      a.functional
      ≡ true

-- the evidence of a TA1 that rejects, for the sender of these interchanges
abbrev pub rejection_evidence : Parties → List Submission → ℕ → List Evidence
rejection_evidence p sent icn =
    or_unmatched (option_map (λ e. tells_each rejected (keyed_sets e))
    (found_interchange (hubs_of p.hubs) sent p.from icn))

-- the evidence of a 997
abbrev pub functional_evidence : Parties → List Submission → FunctionalGroupAnswer → List Evidence
functional_evidence p sent a =
    or_unmatched (option_map (λ g. group_evidence a.code a.sets g.sets)
    (found_group sent p.from a))
