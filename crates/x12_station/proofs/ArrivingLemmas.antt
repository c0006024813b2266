-- An arrival's step, by what is filed: other bytes under a filed number.
use Rattle.std.specs.Prelude.{◌≡◌, ℕ, ◌+◌, All, Bool, true, false, List, Some, None, Err, Ok, IsTrue, if◌then◌else◌, refl, option_to_list}
use mathlib.Core.Path.{sym, ap, ap₂, subst, ◌∙◌}
use native.Mathlib.Omega.{arith}
use Rattle.x12_numbers.specs.Book.{Numbers}
use Rattle.x12_envelopes.specs.declared.header.Header.{Header}
use Rattle.x12_envelopes.specs.declared.moment.Moment.{Moment}
use Rattle.x12_envelopes.specs.declared.party.Party.{Party}
use Rattle.x12_envelopes.specs.declared.shape.OutlineFault.{OutlineFault}
use Rattle.x12_judge.specs.Bound.{IsReadOf}
use Rattle.x12_envelopes.specs.Envelope.{written}
use Rattle.x12_envelopes.specs.Header.{header_of}
use Rattle.x12_acks.specs.Reply.{refusal_of}
use Rattle.x12_outbound.specs.Ledger.{LedgerRow}
use Rattle.x12_outbound.specs.Hubs.{hubs_of}
use Rattle.x12_profile.specs.Interchange.{Bytes, book_for, is_within}
use Rattle.x12_profile.specs.Reading.{header_in, outline_in}
use Rattle.x12_profile.specs.X12.{x12}
use Rattle.x12_profile.proofs.FieldLemmas as field
use Rattle.std.proofs.lemmas.List.Elements.{All-weaker}
use Rattle.x12_station.specs.declared.cached.Cached.{Cached}
use Rattle.x12_station.specs.Arriving.{TakesOther}
use Rattle.x12_station.specs.Durable.{items_of, IsHistoryOf}
use Rattle.x12_station.specs.Entering.{IsHeld}
use Rattle.x12_station.specs.Keeps.{IsReady, Caches}
use Rattle.x12_station.specs.Plan.{TakesNumbers, stored_after}
use Rattle.x12_station.specs.Opened.{HoldsState}
use Rattle.x12_station.specs.Seen.{station_of}
use Rattle.x12_station.specs.Station.{Station}
use Rattle.x12_station.specs.StationStep.{StationStep, arrive_other, noted, writes}
use Rattle.x12_station.specs.Stopped.{HoldsStep}
use Rattle.x12_station.specs.Stored.{Stored, entries, IsNumberedBy}
use Rattle.x12_station.proofs.OpenedLemmas.{durable_of}
use Rattle.x12_station.proofs.DurableLemmas.{IsLater, durable_numbered}
use Rattle.x12_station.proofs.NotingLemmas.{one_later}

-- bytes whose reading ended in a fault aren't silent
pub unread : (b : Bytes) (h : Header) (f : OutlineFault) → header_of b ≡ Ok h → IsReadOf b h (Err f) → false ≡ x12.is_silent b
unfolding x12 header_in outline_in
unread b h f known read = rw (known, sym read.is) refl

pub if_true : {A : Type 0} (t : Bool) (x y : A) → t ≡ true → (if t then x else y) ≡ x
if_true true x y is = refl
if_true false x y is = absurd (let no : ⊥ = cc in no)

pub if_false : {A : Type 0} (t : Bool) (x y : A) → t ≡ false → (if t then x else y) ≡ y
if_false true x y is = absurd (let no : ⊥ = cc in no)
if_false false x y is = refl

-- silent ones change nothing
pub other_silent : (s : Station) (at : Moment) (b : Bytes) → x12.is_silent b ≡ true → TakesOther s s at b None
other_silent s at b silent = if_true (x12.is_silent b) _ _ silent

-- others are refused under the next number
pub other_refused : (s : Station) (at : Moment) (b : Bytes) (h : Header) → header_of b ≡ Ok h → x12.is_silent b ≡ false → (book : Numbers) → book ≡ book_for s.book (record { reply = true; group = false })
    → IsTrue (is_within book) → (r : Bytes) → r ≡ written (refusal_of 25 h s.me at book.interchange) → (t : Station) → t ≡ record s { book = book } → TakesOther s t at b (Some r)
other_refused s at b h known loud book book_is within r r_is t t_is =
    if_false (x12.is_silent b) _ _ loud
    ∙ ap (λ (n : Numbers). writes x12 n (noted x12 s n (x12.refusal 25 s.me at n.interchange b))) (sym book_is)
    ∙ if_true (is_within book) (Some (noted x12 s book (x12.refusal 25 s.me at book.interchange b))) None within
    ∙ ap₂ (λ (z : Station) (x : Bytes). Some (record { station = z; sends = option_to_list (Some x) })) (sym t_is) (field.refusal_is b h known 25 s.me at book.interchange ∙ sym r_is)

-- what was used stays used
pub rows_later : (old new : Numbers) → IsLater old new → (rows : List LedgerRow) → All (λ r. IsNumberedBy old r.interchange) rows → All (λ r. IsNumberedBy new r.interchange) rows
rows_later old new later rows used = All-weaker (λ r. IsNumberedBy old r.interchange) (λ r. IsNumberedBy new r.interchange) (λ r was. record {
  interchange = let a = was.interchange in let b = later.interchange in omega arith;
  groups = λ k d within. let a = was.groups k d within in let b = later.group in omega arith;
}) rows used

-- Memory and records once a number alone was taken.
module _ (m : Cached) where
  abbrev pub after : Cached
  after = record m { book = record m.book { interchange = m.book.interchange + 1 } }

  later : IsLater m.book after.book
  later = one_later m.book

  pub ready_noted : (n : Cached) → n ≡ after → IsReady m → IsReady n
  ready_noted n is was = subst IsReady (sym is) (record {
    me = was.me;
    plain = was.plain;
    hubs = was.hubs;
    none_out = was.none_out;
    used = rows_later m.book after.book later m.ledger.holds.rows was.used;
    seq = was.seq;
  })

  -- what the plan of that number makes of durable records is durable
  pub durable_noted : (s : Stored) → IsReady m → IsHeld m s → IsHistoryOf m.me (hubs_of m.hubs) (stored_after (record { book = book_for m.book (record { reply = true; group = false }); seq = m.seq; change = TakesNumbers }) s)
  durable_noted s ready held =
      durable_of m.ledger.holds.me m.ledger.holds.hubs m.me m.hubs _ ready.me ready.hubs
      (subst (IsHistoryOf m.ledger.holds.me m.ledger.holds.hubs) (ap (λ (k : ℕ). stored_after (record { book = after.book; seq = k; change = TakesNumbers }) s) (sym held.0.seq))
      (durable_numbered s after.book (subst (λ (x : Numbers). IsLater x after.book) held.0.book later) m.ledger.holds.me m.ledger.holds.hubs held.1))

  module _ (s t : Stored) (n : Cached) (n_is : n ≡ after) (is : t ≡ stored_after (record { book = n.book; seq = m.seq; change = TakesNumbers }) s) (held : IsHeld m s) where
    abbrev noted_records : Stored
    noted_records = stored_after (record { book = after.book; seq = s.seq; change = TakesNumbers }) s

    t_is : t ≡ noted_records
    t_is = is ∙ ap₂ (λ (x : Numbers) (k : ℕ). stored_after (record { book = x; seq = k; change = TakesNumbers }) s) (ap (λ (x : Cached). x.book) n_is) held.0.seq

    keeps_here : Caches after noted_records
    unfolding entries
    keeps_here = record { marks = held.0.marks; book = refl; seq = held.0.seq; agreements = held.0.agreements; open_ones = held.0.open_ones }

    durable_here : IsHistoryOf m.ledger.holds.me m.ledger.holds.hubs noted_records
    durable_here = durable_numbered s after.book (subst (λ (x : Numbers). IsLater x after.book) held.0.book later) m.ledger.holds.me m.ledger.holds.hubs held.1

    pub held_noted : IsHeld n t
    held_noted = subst (λ (x : Cached). IsHeld x t) (sym n_is) (subst (IsHeld after) (sym t_is) (keeps_here, durable_here))

    state_here : station_of after.ledger.holds after.counts noted_records ≡ record (station_of m.ledger.holds m.counts s) { book = after.book }
    unfolding items_of
    state_here = refl

    pub state_noted : station_of n.ledger.holds n.counts t ≡ record (station_of m.ledger.holds m.counts s) { book = n.book }
    state_noted = subst (λ (x : Cached). station_of x.ledger.holds x.counts t ≡ record (station_of m.ledger.holds m.counts s) { book = x.book }) (sym n_is)
        (ap (station_of after.ledger.holds after.counts) t_is ∙ state_here)

    -- and the step was taken
    pub took_noted : (at : Moment) (b : Bytes) (h : Header) → header_of b ≡ Ok h → x12.is_silent b ≡ false → IsTrue (is_within n.book) → m.ledger.holds.me ≡ m.me
        → (r : Bytes) → r ≡ written (refusal_of 25 h m.me at n.book.interchange) → TakesOther (station_of m.ledger.holds m.counts s) (station_of n.ledger.holds n.counts t) at b (Some r)
    took_noted at b h known loud within me_is r r_is =
        other_refused (station_of m.ledger.holds m.counts s) at b h known loud n.book
        (ap (λ (x : Cached). x.book) n_is ∙ ap (λ (x : Numbers). book_for x (record { reply = true; group = false })) held.0.book)
        within r (r_is ∙ ap (λ (p : Party). written (refusal_of 25 h p at n.book.interchange)) (sym me_is))
        (station_of n.ledger.holds n.counts t) state_noted

-- What a stop leaves of the refusal: the step's records, where a number is left.
step_written : (book : Numbers) (step : StationStep) (d : Stored) → IsTrue (is_within book) → HoldsState step.station d → HoldsStep (writes x12 book step) d
step_written book step d within holds = subst (λ o. HoldsStep o d) (sym (if_true (is_within book) (Some step) None within)) holds

module _ (m : Cached) (s : Stored) (keeps : Caches m s) (at : Moment) (b : Bytes) where
  abbrev taking : Numbers
  taking = book_for m.book (record { reply = true; group = false })

  stay : (seq : ℕ) → seq ≡ s.seq → items_of (record s { book = taking; seq = seq }) ≡ items_of s
  unfolding items_of
  stay seq is = rw is refl

  pub left_noted : x12.is_silent b ≡ false → IsTrue (is_within taking)
      → HoldsStep (arrive_other x12 (station_of m.ledger.holds m.counts s) at b (book_for s.book (record { reply = true; group = false }))) (stored_after (record { book = taking; seq = m.seq; change = TakesNumbers }) s)
  left_noted loud within =
      let d = stored_after (record { book = taking; seq = m.seq; change = TakesNumbers }) s in
      let was = station_of m.ledger.holds m.counts s in
      subst (λ (k : Numbers). HoldsStep (arrive_other x12 was at b (book_for k (record { reply = true; group = false }))) d) keeps.book
      (subst (λ o. HoldsStep o d) (sym (if_false (x12.is_silent b) _ _ loud))
      (step_written taking (noted x12 was taking (x12.refusal 25 was.me at taking.interchange b)) d within (record { marks = refl; items = stay m.seq keeps.seq; agreements = refl; book = refl })))
