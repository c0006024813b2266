-- What a plan makes of a station's tables.
use Rattle.std.proofs.Common.{◌≡◌, ℕ, List, [], ◌∷◌, length, map, refl, ◌∙◌, arith}
use Rattle.std.proofs.lemmas.List.{length-map}
use Rattle.sqlite.specs.State.{State}
use Rattle.x12_acks.specs.Submission.{TransactionSetKey}
use Rattle.x12_inbound.specs.Arrival.{Filing}
use Rattle.x12_judge.specs.Agreement.{TradingAgreement}
use Rattle.x12_numbers.specs.Book.{Numbers}
use Rattle.x12_outbound.specs.Entry.{InterchangeRow}
use Rattle.x12_outbound.specs.declared.fate.Fate.{Fate}
use Rattle.x12_station.specs.Plan.{Change, Submits, Files, Agrees, TakesNumbers, row_settled, rows_settled}
use Rattle.x12_station.specs.Stored.{StoredSet}
use Rattle.x12_tables.specs.Change.{Always}
use Rattle.x12_station_records.specs.StationChange.{with_last_numbers, Turns}
use Rattle.x12_station_records.specs.StationPart.{AgreesAll, SubmitsAll, FilesAll}
use Rattle.x12_station_records.specs.StationPlan.{Makes, FollowsCommit}
use Rattle.x12_station_records.specs.declared.station_committing.NextRows.{NextRows}

as_long : (ts : List (TransactionSetKey × Fate)) (sets : List StoredSet) → length (rows_settled ts sets) ≡ length sets
unfolding rows_settled
as_long [] sets = refl
as_long (t ∷ ts) sets = as_long ts (map (row_settled t.0 t.1) sets) ∙ length-map sets (row_settled t.0 t.1)

module _ (a b : State) (seq : ℕ) (from : NextRows) (to : ℕ) where
  pub makes_submission : (e : InterchangeRow) → SubmitsAll seq e from.set to a b → Makes seq (Submits e) from (record from { set = to }) a b
  makes_submission e h s fits holds = let it = h from.agreement s holds.sets fits holds.has in record { has = it.0; sets = it.1; postings = holds.postings }

  pub makes_arrival : (k : Filing) (ts : List (TransactionSetKey × Fate)) → FilesAll seq k ts from.posting to a b → Makes seq (Files k ts) from (record from { posting = to }) a b
  makes_arrival k ts h s fits holds = let it = h from.agreement s holds.postings fits.0 fits.1 holds.has in record { has = it.0; sets = omega (arith, holds.sets, as_long ts s.sets); postings = it.1 }

  pub makes_agreement : (x : TradingAgreement) → AgreesAll x from.agreement to a b → Makes seq (Agrees x) from (record from { agreement = to }) a b
  makes_agreement x h s fits holds = record { has = h s holds.has; sets = holds.sets; postings = holds.postings }

-- the numbers, and then the change
pub follows : (a b c : State) (book : Numbers) (seq : ℕ) (change : Change) (from to : NextRows) → Turns (with_last_numbers book seq) Always a b → Makes seq change from to b c → FollowsCommit (record { book = book; seq = seq; change = change }) from to a.now c.now
follows a b c book seq (Submits e) from to first second s fits holds = second (with_last_numbers book seq s) fits (record { has = first from.agreement s tt holds.has; sets = holds.sets; postings = holds.postings })
follows a b c book seq (Files k ts) from to first second s fits holds = second (with_last_numbers book seq s) fits (record { has = first from.agreement s tt holds.has; sets = holds.sets; postings = holds.postings })
follows a b c book seq (Agrees x) from to first second s fits holds = second (with_last_numbers book seq s) fits (record { has = first from.agreement s tt holds.has; sets = holds.sets; postings = holds.postings })
follows a b c book seq TakesNumbers from to first second s fits holds = second (with_last_numbers book seq s) fits (record { has = first from.agreement s tt holds.has; sets = holds.sets; postings = holds.postings })
