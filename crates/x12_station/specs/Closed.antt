-- Closed submissions that are taken into memory for the answers of an arrival.
use Rattle.std.specs.Prelude.{◌≡◌, ℕ, ◌+◌, ◌==◌, ◌&&◌, max, nat_le, false, List, [], ◌∷◌, Option, Some, None, is_some, option_and_then, Contains, if◌then◌else◌, ◌++◌, map, option_to_list}
use Rattle.std.specs.List.{list_all}
use Rattle.x12_envelopes.specs.declared.party.Party.{Party}
use Rattle.x12_judge.specs.Verdict.{InterchangeVerdict}
use Rattle.x12_acks.specs.Answer.{Acknowledgment}
use Rattle.x12_outbound.specs.Entry.{GroupRow, InterchangeRow, row_is_open}
use Rattle.x12_outbound.specs.Ledger.{OutboundLedger, interchange_numbered}
use Rattle.x12_profile.specs.declared.edition.Edition.{Edition}
use Rattle.x12_profile.specs.Interchange.{Bytes}
use Rattle.x12_profile.specs.Reading.{answers_in}
use Rattle.x12_profile.specs.X12.{is_refused}
use Rattle.x12_station.specs.Found.{closed_for}
use Rattle.x12_station.specs.Older.{answers_as_read}
use Rattle.x12_station.specs.Stored.{Stored, entries, closed_entry}

-- what a station hears of bytes that it judged so, by an edition; one that is refused tells nothing
abbrev pub heard : Edition → InterchangeVerdict → Bytes → List Acknowledgment
heard by v b = if is_refused v then [] else answers_as_read by (answers_in b)

-- the numbers of the closed submissions that answers may name are among these
abbrev pub HoldsNumbers : Stored → Party → List Acknowledgment → List ℕ → Type 0
HoldsNumbers s from answers numbers =
    (a : Acknowledgment) (e : InterchangeRow) → Contains answers a → closed_for s from a ≡ Some e →
    Contains numbers e.icn

-- entries of the records, and each closed one that has one of these numbers
pub record HoldsClosed (s : Stored) (numbers : List ℕ) (held : List InterchangeRow) : Type 0 where
  pub stored : (e : InterchangeRow) → Contains held e → Contains (entries s) e
  pub numbered :
      (n : ℕ) (e : InterchangeRow) → Contains numbers n → closed_entry s n ≡ Some e →
      Contains held e

-- the least number that is above those of these groups, and above those of these entries' groups
abbrev pub above_groups : List GroupRow → ℕ
above_groups [] = 0
above_groups (g ∷ gs) = max (g.number + 1) (above_groups gs)

abbrev pub above_entries : List InterchangeRow → ℕ
above_entries [] = 0
above_entries (e ∷ es) = max (above_groups e.groups) (above_entries es)

-- the closed submission of this number, if the ledger doesn't hold the number and the groups'
-- numbers are at least this
abbrev pub closed_from : ℕ → ℕ → Option InterchangeRow → Option InterchangeRow
closed_from icn least found =
    option_and_then
    (λ e. if e.icn == icn && list_all (λ g. nat_le least g.number) e.groups then Some e else None)
    found

abbrev pub next_closed : OutboundLedger → ℕ → ℕ → Option InterchangeRow → Option InterchangeRow
next_closed v icn least found =
    if is_some (interchange_numbered v icn) then None else closed_from icn least found

-- closed, and of no number that the ledger holds
pub record IsBeside (v : OutboundLedger) (e : InterchangeRow) : Type 0 where
  pub ended : row_is_open e ≡ false
  pub apart : interchange_numbered v e.icn ≡ None

-- A ledger of closed submissions once this number was looked at: one more at most, of this number,
-- and the least number above all its groups'.
pub record LooksAt (v old new : OutboundLedger) (icn least : ℕ) : Type 0 where
  pub more : Option InterchangeRow
  pub me : new.me ≡ old.me
  pub rows :
      map (λ r. r.interchange) new.rows
      ≡ map (λ r. r.interchange) old.rows ++ option_to_list more
  pub beside : (e : InterchangeRow) → more ≡ Some e → IsBeside v e × (e.icn ≡ icn)
  pub above : least ≡ above_entries (map (λ r. r.interchange) new.rows)
