-- A station over what it loaded is the one that its records hold, with each open submission due at once.
use Rattle.std.proofs.Common.{ℕ, ◌≡◌, ◌∙◌, ap, refl, List, [], ◌∷◌, map, filter}
use Rattle.std.proofs.lemmas.List.Elements.{All-filter}
use Rattle.x12_envelopes.specs.declared.party.Party.{Party}
use Rattle.x12_outbound.specs.declared.evidence.Counts.{Counts}
use Rattle.x12_outbound.specs.Counts.{only_unclear}
use Rattle.x12_outbound.specs.Entry.{InterchangeRow, row_is_open}
use Rattle.x12_outbound.specs.Ledger.{OutboundLedger, LedgerRow}
use Rattle.x12_outbound.specs.Schedule.{unsent_schedule}
use Rattle.x12_outbound.specs.Hubs.{hubs_of}
use Rattle.x12_outbound.specs.declared.hubs.Hubs.{Hubs}
use Rattle.x12_profile.specs.X12.{x12}
use Rattle.x12_profile.specs.Interchange.{Bytes}
use Rattle.x12_station.specs.declared.cached.Cached.{Cached}
use Rattle.x12_station.specs.Durable.{IsHistoryOf, IsOwnSubmission, items_of, fared_entries}
use Rattle.x12_station.specs.History.{submissions}
use Rattle.x12_station.specs.Keeps.{Caches}
use Rattle.x12_station.specs.working.Loading.{IsTakenIn, unsent_row}
use Rattle.x12_station.specs.Opened.{opened, kept_state}
use Rattle.x12_station.specs.Record.{loaded_of}
use Rattle.x12_station.specs.Schedule.{Sending}
use Rattle.x12_station.specs.Seen.{station_of, sending_of}
use Rattle.x12_station.specs.StationStep.{open_submissions, is_open, restarted}
use Rattle.x12_station.specs.Stored.{Stored, marks_of, open_entries}
use Rattle.x12_station.proofs.OpenLemmas.{entries_open, entry_numbers}

-- what is due at once
abbrev unsent : ℕ → Sending
unsent n = record { number = n; schedule = unsent_schedule }

sent_rows : (es : List InterchangeRow) → map sending_of (map unsent_row es) ≡ map unsent (map (λ (e : InterchangeRow). e.icn) es)
sent_rows [] = refl
sent_rows (e ∷ es) = ap (λ (qs : List Sending). record { number = e.icn; schedule = unsent_schedule } ∷ qs) (sent_rows es)

kept_rows : (es : List InterchangeRow) → map (λ (r : LedgerRow). r.interchange) (map unsent_row es) ≡ es
kept_rows [] = refl
kept_rows (e ∷ es) = ap (λ xs. e ∷ xs) (kept_rows es)

numbers_of : (xs : List Bytes) → map unsent (map x12.number xs) ≡ map (λ (x : Bytes). unsent (x12.number x)) xs
numbers_of [] = refl
numbers_of (x ∷ xs) = ap (λ (qs : List Sending). record { number = x12.number x; schedule = unsent_schedule } ∷ qs) (numbers_of xs)

module _ (me : Party) (its : Hubs) (s : Stored) (m : Cached) (taken : IsTakenIn me its (loaded_of s) m) where
  pub keeps_taken : Caches m s
  keeps_taken = record {
    marks = taken.marks;
    book = taken.book;
    seq = taken.seq;
    agreements = taken.agreements;
    open_ones = ap (map (λ (r : LedgerRow). r.interchange)) taken.ledger.rows ∙ kept_rows (open_entries s);
  }

  module _ (durable : IsHistoryOf me (hubs_of its) s) where
    open_numbers : map (λ (e : InterchangeRow). e.icn) (open_entries s) ≡ map x12.number (open_submissions x12 (kept_state me (hubs_of its) s))
    unfolding fared_entries
    open_numbers =
        let xs = submissions (items_of s) in
        ap (λ es. map (λ (e : InterchangeRow). e.icn) (filter row_is_open es)) durable.fates
        ∙ ap (map (λ (e : InterchangeRow). e.icn)) (entries_open me (hubs_of its) (items_of s) xs durable.own)
        ∙ entry_numbers me (hubs_of its) (items_of s) (open_submissions x12 (kept_state me (hubs_of its) s)) (All-filter (is_open x12 (kept_state me (hubs_of its) s)) (IsOwnSubmission me) xs durable.own)

    pub opened_is : station_of m.ledger.holds m.counts s ≡ opened me (hubs_of its) s
    opened_is =
        let rows = ap (map sending_of) taken.ledger.rows ∙ sent_rows (open_entries s) ∙ ap (map unsent) open_numbers ∙ numbers_of (open_submissions x12 (kept_state me (hubs_of its) s)) in
        same taken.ledger.party taken.ledger.hubs taken.ledger.tick rows taken.counts
      where
        same : {me' : Party} {hubs' : List Party} {tick : ℕ} {qs : List Sending} {c : Counts} → me' ≡ me → hubs' ≡ hubs_of its → tick ≡ 0 → qs ≡ map (λ (x : Bytes). unsent (x12.number x)) (open_submissions x12 (kept_state me (hubs_of its) s)) → c ≡ only_unclear 0
            → record { me = me'; hubs = hubs'; marks = marks_of s.origin; items = items_of s; agreements = s.agreements; book = s.book; tick = tick; sendings = qs; counts = c } ≡ opened me (hubs_of its) s
        same a b t q c = rw (a, b, t, q, c) refl

-- what is loaded again of records that are as they were
pub after_load : (me : Party) (its : Hubs) (old new : Stored) (m : Cached) → new ≡ old → IsTakenIn me its (loaded_of old) m → IsHistoryOf me (hubs_of its) old → Caches m new × IsHistoryOf m.ledger.holds.me m.ledger.holds.hubs new
after_load me its old new m same taken durable = (rw same (keeps_taken me its old m taken), by taken.ledger.party taken.ledger.hubs)
  where
    by : {p : Party} {ps : List Party} → p ≡ me → ps ≡ hubs_of its → IsHistoryOf p ps new
    by a b = rw (a, b, same) durable

pub opened_after : (me : Party) (its : Hubs) (old new : Stored) (m : Cached) → new ≡ old → IsTakenIn me its (loaded_of old) m → IsHistoryOf me (hubs_of its) old → station_of m.ledger.holds m.counts new ≡ opened me (hubs_of its) old
opened_after me its old new m same taken durable = rw same (opened_is me its old m taken durable)

-- and a restart of the station over them is the same
pub restarted_after : (l : OutboundLedger) (c : Counts) (me : Party) (its : Hubs) (old new : Stored) (m : Cached) → l.me ≡ me → l.hubs ≡ hubs_of its → new ≡ old → IsTakenIn me its (loaded_of old) m → IsHistoryOf me (hubs_of its) old → station_of m.ledger.holds m.counts new ≡ restarted x12 (station_of l c old)
restarted_after l c me its old new m a b same taken durable = opened_after me its old new m same taken durable ∙ rw (a, b) refl

-- the party and the hubs that a ledger has
pub durable_of : (p : Party) (ps : List Party) (me : Party) (its : Hubs) (s : Stored) → p ≡ me → ps ≡ hubs_of its → IsHistoryOf p ps s → IsHistoryOf me (hubs_of its) s
durable_of p ps me its s a b durable = rw (← a, ← b) durable
