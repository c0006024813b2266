-- A station once an agreement was made, or wasn't.
use Rattle.std.proofs.Common.{◌≡◌, ◌∙◌, ap, sym, subst, refl, Result, Ok, Err, map, arith}
use Rattle.std.specs.Prelude.{OnOk, OnErr, IsTrue}
use Rattle.x12_envelopes.specs.Party.{is_plain_party}
use Rattle.x12_judge.specs.Agreement.{TradingAgreement, agreement_view}
use Rattle.x12_outbound.specs.Ledger.{LedgerRow}
use Rattle.x12_outbound.specs.Hubs.{hubs_of}
use Rattle.x12_profile.specs.Marking.{marks_view}
use Rattle.x12_station.specs.declared.cached.Cached.{Cached}
use Rattle.x12_station.specs.working.Agreeing.{stored_agreed, IsSameBeside, IsMemoryAgreed, IsSameButRoom}
use Rattle.x12_station.specs.Durable.{IsHistoryOf, items_of}
use Rattle.x12_station.specs.Keeps.{Caches, IsReady, memory_of}
use Rattle.x12_station.specs.Opened.{HoldsState}
use Rattle.x12_station.specs.Plan.{Commit, Agrees, stored_after}
use Rattle.x12_station.specs.Seen.{station_of}
use Rattle.x12_station.specs.Station.{agreed}
use Rattle.x12_station.specs.Stored.{Stored, IsSound, entries}
use Rattle.x12_station.proofs.DurableLemmas.{IsLater, sound_agreed, durable_agreed}
use Rattle.x12_station.proofs.OpenedLemmas.{durable_of}

-- what follows in either case
pub either : {A E P Q Z : Type 0} (r : Result A E) → OnOk r P → OnErr r Q → (P → Z) → (Q → Z) → Z
either (Ok x) ok err f g = f ok
either (Err x) ok err f g = g err

-- the numbers stay, so none is earlier
stays : (s : Stored) → IsLater s.book s.book
stays s = record { interchange = omega arith; group = omega arith }

pub fits_agreed : (m : Cached) (s : Stored) (a : TradingAgreement) (plan : Commit) → Caches m s → IsSound s → plan ≡ record { book = m.book; seq = m.seq; change = Agrees a } → IsSound (stored_after plan s)
fits_agreed m s a plan keeps sound is = rw (is, keeps.book, keeps.seq) (sound_agreed s s.book (stays s) a sound)

module _ (old new : Cached) (same : IsSameBeside old new) where
  pub ready_beside : IsReady old → IsReady new
  ready_beside ready = by same.me same.hubs same.book same.seq same.ledger
    where
      by : new.me ≡ old.me → new.hubs ≡ old.hubs → new.book ≡ old.book → new.seq ≡ old.seq → new.ledger ≡ old.ledger → IsReady new
      by a b c d e = record {
        me = ap (λ l. l.holds.me) e ∙ ready.me ∙ sym a;
        plain = subst (λ p. IsTrue (is_plain_party p)) (sym a) ready.plain;
        hubs = rw (e, b) ready.hubs;
        none_out = rw e ready.none_out;
        used = rw (e, c) ready.used;
        seq = rw d ready.seq;
      }

  pub durable_beside : (s : Stored) → IsHistoryOf old.ledger.holds.me old.ledger.holds.hubs s → IsHistoryOf new.ledger.holds.me new.ledger.holds.hubs s
  durable_beside s durable = rw (same.ledger) durable

  -- memory and records as they were
  pub keeps_same : (s : Stored) → map agreement_view new.agreements.items ≡ map agreement_view old.agreements.items → Caches old s → Caches new s
  keeps_same s agreements keeps = record {
    marks = ap marks_view same.marks ∙ keeps.marks;
    book = same.book ∙ keeps.book;
    seq = same.seq ∙ keeps.seq;
    agreements = agreements ∙ keeps.agreements;
    open_ones = ap (λ l. map (λ (r : LedgerRow). r.interchange) l.holds.rows) same.ledger ∙ keeps.open_ones;
  }

  -- and with the agreement
  pub keeps_agreed : (a : TradingAgreement) (s : Stored) → map agreement_view new.agreements.items ≡ agreed a (map agreement_view old.agreements.items) → Caches old s → Caches new (stored_agreed a s)
  unfolding entries
  keeps_agreed a s agreements keeps = record {
    marks = ap marks_view same.marks ∙ keeps.marks;
    book = same.book ∙ keeps.book;
    seq = same.seq ∙ keeps.seq;
    agreements = agreements ∙ ap (agreed a) keeps.agreements;
    open_ones = ap (λ l. map (λ (r : LedgerRow). r.interchange) l.holds.rows) same.ledger ∙ keeps.open_ones;
  }

pub held_agreed : (a : TradingAgreement) (old new : Cached) (s t : Stored) → IsMemoryAgreed a old new → t ≡ stored_agreed a s → Caches old s → IsHistoryOf old.ledger.holds.me old.ledger.holds.hubs s
    → Caches new t × IsHistoryOf new.ledger.holds.me new.ledger.holds.hubs t
held_agreed a old new s t memory is keeps durable = rw is (
  keeps_agreed old new memory.beside a s memory.agreements keeps,
  durable_beside old new memory.beside (stored_agreed a s) (durable_agreed s s.book (stays s) old.ledger.holds.me old.ledger.holds.hubs a durable),
)

-- what the plan of an agreement makes of durable records is durable
pub durable_planned : (a : TradingAgreement) (m : Cached) (s : Stored) → IsReady m → Caches m s → IsHistoryOf m.ledger.holds.me m.ledger.holds.hubs s
    → IsHistoryOf m.me (hubs_of m.hubs) (stored_after (record { book = m.book; seq = m.seq; change = Agrees a }) s)
durable_planned a m s ready keeps durable =
    durable_of m.ledger.holds.me m.ledger.holds.hubs m.me m.hubs _ ready.me ready.hubs
    (rw (keeps.book, keeps.seq) (durable_agreed s s.book (stays s) m.ledger.holds.me m.ledger.holds.hubs a durable))

-- and holds the station once it is made
pub holds_agreed : (a : TradingAgreement) (m : Cached) (s : Stored) → Caches m s
    → HoldsState (record (station_of m.ledger.holds m.counts s) { agreements = agreed a s.agreements }) (stored_after (record { book = m.book; seq = m.seq; change = Agrees a }) s)
unfolding items_of
holds_agreed a m s keeps = record { marks = refl; items = rw keeps.seq refl; agreements = refl; book = keeps.book }

pub held_same : (old new : Cached) (s t : Stored) → IsSameButRoom old new → t ≡ s → Caches old s → IsHistoryOf old.ledger.holds.me old.ledger.holds.hubs s
    → Caches new t × IsHistoryOf new.ledger.holds.me new.ledger.holds.hubs t
held_same old new s t memory is keeps durable = rw is (
  keeps_same old new memory.beside s (ap (map agreement_view) memory.agreements) keeps,
  durable_beside old new memory.beside s durable,
)

pub state_agreed : (a : TradingAgreement) (old new : Cached) (s t : Stored) → IsMemoryAgreed a old new → t ≡ stored_agreed a s
    → station_of new.ledger.holds new.counts t ≡ record (station_of old.ledger.holds old.counts s) { agreements = agreed a s.agreements }
unfolding items_of
state_agreed a old new s t memory is = rw (is, memory.beside.ledger, memory.beside.counts) refl

-- what follows of a success from two facts of it
pub on_ok : {A E P Q Z : Type 0} (r : Result A E) → OnOk r P → OnOk r Q → (P → Q → Z) → OnOk r Z
on_ok (Ok x) p q f = f p q
on_ok (Err x) p q f = tt

-- and in either case
pub both_ways : {A E P Q S Z : Type 0} (r : Result A E) → OnOk r P → OnOk r Q → OnErr r S → (P → Q → Z) → (S → Z) → Z
both_ways (Ok x) p q s f g = f p q
both_ways (Err x) p q s f g = g s

-- where it is refused
pub on_err : {A E P Z : Type 0} (r : Result A E) → OnErr r P → (P → Z) → OnErr r Z
on_err (Ok x) p f = tt
on_err (Err x) p f = f p

-- more room isn't seen of memory
pub kept_but_room : (old new : Cached) → IsSameButRoom old new → memory_of new ≡ memory_of old
kept_but_room old new kept = λ i. record {
  marks = marks_view (kept.beside.marks i);
  book = kept.beside.book i;
  seq = kept.beside.seq i;
  agreements = map agreement_view (kept.agreements i);
  ledger = (kept.beside.ledger i).holds;
  counts = kept.beside.counts i;
}
