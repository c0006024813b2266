-- An arrival's step and its row of the table, by what it was seen to be.
use Rattle.std.specs.Prelude.{◌≡◌, ℕ, Result, IfOk, option_copied, ◌+◌, ◌-◌, ◌^◌, List, ◌∷◌, [], Bool, true, false, not, ◌&&◌, ◌||◌, nat_le, bytes_eq, map, Option, Some, None, Ok, Err, option_map, option_to_list, if◌then◌else◌, refl}
use Rattle.std.specs.Borrow.{Bor}
use mathlib.Core.Path.{sym, ap, ap₂, ◌∙◌}
use Rattle.x12_numbers.specs.Book.{Numbers}
use Rattle.x12_envelopes.specs.declared.header.Header.{Header}
use Rattle.x12_envelopes.specs.declared.header.HeaderFault.{HeaderFault}
use Rattle.x12_envelopes.specs.declared.moment.Moment.{Moment}
use Rattle.x12_envelopes.specs.declared.party.Party.{Party}
use Rattle.x12_envelopes.specs.Header.{header_of}
use Rattle.x12_envelopes.specs.Row.{first_of_rows}
use Rattle.x12_inbound.specs.Arrival.{Arrival as Arrived, arrival}
use Rattle.x12_inbound.specs.declared.filing.Filed.{Filed as CodeFiled}
use Rattle.x12_inbound.specs.Filing.{FiledInterchange, filed_under, reply_bytes}
use Rattle.x12_inbound.specs.Sighting.{first, again, other, sighting_of}
use Rattle.x12_judge.specs.Agreement.{TradingAgreement, agreement_view}
use Rattle.x12_outbound.specs.Counts.{only_unclear}
use Rattle.x12_profile.specs.Interchange.{Bytes, Needs, book_for}
use Rattle.x12_profile.specs.Edition.{Marks, edition_at}
use Rattle.x12_profile.specs.X12.{needs_of, x12}
use Rattle.x12_profile.proofs.FieldLemmas as field
use Rattle.x12_station.specs.declared.arriving.Arrival.{Arrival}
use Rattle.x12_station.specs.declared.arriving.ArrivalKind.TheVariants.{New, Same, Other}
use Rattle.x12_station.specs.declared.fault.StationFault.{StationFault}
use Rattle.x12_station.specs.declared.fault.StationFault.TheVariants.{Exhausted, Unreadable}
use Rattle.x12_station.specs.declared.cached.Cached.{Cached}
use Rattle.x12_station.specs.Arriving.{IsArrival, TakesNew, TakesOther, counts_told, kind_of_arrival, step_to}
use Rattle.x12_station.specs.working.Drafting.{exhausted}
use Rattle.x12_station.specs.Entering.{IsHeld}
use Rattle.x12_station.specs.Fault.{arrival_fault, arrived_fault, has_no_item_left, numbers_fault}
use Rattle.x12_station.specs.History.{KeptArrival, filed}
use Rattle.x12_station.specs.Keeps.{IsReady, cached_edition}
use Rattle.x12_station.specs.Seen.{station_of}
use Rattle.x12_station.specs.Station.{Station, edition_next}
use Rattle.x12_station.specs.StationRefusal.{is_spent}
use Rattle.x12_station.specs.StationStep.{arrive, arrive_at, arrive_new, arrive_other}
use Rattle.x12_station.specs.Stored.{Stored, filed_in}
use Rattle.x12_station.proofs.ItemLemmas.{filed_is, length_items}

abbrev filed_of : Option FiledInterchange → Option KeptArrival
filed_of o = option_map (λ f. record { body = f.bytes; reply = f.reply }) o

-- what the code looks at
abbrev pub looked_at : Party → ℕ → Option (Bor CodeFiled) → Option FiledInterchange
looked_at partner icn r = option_map (λ (f : Bor CodeFiled). filed_under partner icn f.now) r

pub looked : (partner : Party) (icn : ℕ) (r : Option (Bor CodeFiled)) (found : Option CodeFiled) → option_copied r ≡ found → looked_at partner icn r ≡ option_map (λ f. filed_under partner icn f) found
looked partner icn None found is = rw (sym is) refl
looked partner icn (Some f) found is = rw (sym is) refl

-- The rows of the table.
pub unreadable : (s : Station) (b : Bytes) (f : HeaderFault) → header_of b ≡ Err f → arrival_fault s b ≡ Some (Unreadable f)
unfolding arrival_fault
unreadable s b f is = ap (arrived_fault s b) is

readable : (s : Station) (b : Bytes) (h : Header) → header_of b ≡ Ok h → arrival_fault s b ≡ numbers_fault s b (filed x12 s.items h.sender h.icn)
unfolding arrival_fault
readable s b h is = ap (arrived_fault s b) is

two_rows : (spent last : Bool) → first_of_rows ((spent, Exhausted) ∷ (true && last, Exhausted) ∷ []) ≡ exhausted (spent || last)
two_rows true last = refl
two_rows false true = refl
two_rows false false = refl

one_row : (spent last : Bool) → first_of_rows ((spent, Exhausted) ∷ (false && last, Exhausted) ∷ []) ≡ exhausted spent
one_row true last = refl
one_row false last = refl

-- What was seen, by what is filed.
module _ (b : Bytes) (h : Header) where
  -- nothing is filed under what is new
  pub new_is : (o : Option FiledInterchange) (x : Arrived) → first x ≡ sighting_of o (arrival h.sender h.icn b) → (o ≡ None) × (x ≡ arrival h.sender h.icn b)
  unfolding sighting_of
  new_is None x is = (refl, cc)
  new_is (Some f) x is = absurd (by (bytes_eq f.bytes b) is)
    where
      by : (t : Bool) → first x ≡ (if t then again f.reply else other) → ⊥
      by true e = cc
      by false e = cc

  -- the same bytes are filed
  same_is : (o : Option FiledInterchange) (r : Option Bytes) → again r ≡ sighting_of o (arrival h.sender h.icn b) → (f : FiledInterchange) × (o ≡ Some f) × (bytes_eq f.bytes b ≡ true) × (f.reply ≡ r)
  unfolding sighting_of
  same_is None r is = absurd (let no : ⊥ = cc in no)
  same_is (Some f) r is = by (bytes_eq f.bytes b) refl is
    where
      by : (t : Bool) → bytes_eq f.bytes b ≡ t → again r ≡ (if t then again f.reply else other) → (g : FiledInterchange) × (Some f ≡ Some g) × (bytes_eq g.bytes b ≡ true) × (g.reply ≡ r)
      by true eq e = (f, refl, eq, cc)
      by false eq e = absurd (let no : ⊥ = cc in no)

  -- other bytes are filed
  other_is : (o : Option FiledInterchange) → other ≡ sighting_of o (arrival h.sender h.icn b) → (f : FiledInterchange) × (o ≡ Some f) × (bytes_eq f.bytes b ≡ false)
  unfolding sighting_of
  other_is None is = absurd (let no : ⊥ = cc in no)
  other_is (Some f) is = by (bytes_eq f.bytes b) refl is
    where
      by : (t : Bool) → bytes_eq f.bytes b ≡ t → other ≡ (if t then again f.reply else other) → (g : FiledInterchange) × (Some f ≡ Some g) × (bytes_eq g.bytes b ≡ false)
      by true eq e = absurd (let no : ⊥ = cc in no)
      by false eq e = (f, refl, eq)

-- The step and the row, over what memory and records hold.
module _ (m : Cached) (s : Stored) (held : IsHeld m s) (b : Bytes) (h : Header) (known : header_of b ≡ Ok h) (o : Option FiledInterchange) (found : o ≡ filed_in s h.sender h.icn) where
  abbrev was : Station
  was = station_of m.ledger.holds m.counts s

  filed_here : filed x12 was.items h.sender h.icn ≡ filed_of o
  filed_here = filed_is s held.1.sound.numbered held.1.filed h.sender h.icn ∙ ap filed_of (sym found)

  filed_there : filed x12 was.items (x12.sender b) (x12.number b) ≡ filed_of o
  filed_there = ap₂ (λ p n. filed x12 was.items p n) (field.sender_is b h known) (field.number_is b h known) ∙ filed_here

  arrive_is : (at : Moment) → arrive x12 was at b ≡ arrive_at x12 was at b (filed_of o)
  arrive_is at = rw (field.has_header_is b h known) (ap (arrive_at x12 was at b) filed_there)

  -- the step of what is new, and of other bytes
  pub new_step : (x : Arrived) → first x ≡ sighting_of o (arrival h.sender h.icn b) → (at : Moment) → arrive_new x12 was at b (book_for was.book (x12.needs (edition_next was) was.me was.agreements b)) ≡ arrive x12 was at b
  new_step x is at = sym (arrive_is at ∙ ap (λ z. arrive_at x12 was at b (filed_of z)) (new_is b h o x is).0)

  pub other_step : other ≡ sighting_of o (arrival h.sender h.icn b) → (at : Moment) → arrive_other x12 was at b (book_for was.book (record { reply = true; group = false })) ≡ arrive x12 was at b
  other_step is at =
      let w = other_is b h o is in
      sym (arrive_is at ∙ ap (λ z. arrive_at x12 was at b (filed_of z)) w.1 ∙ rw w.2 refl)

  -- the step, by what is filed
  step_by : (at : Moment) (t : Station) (a : Arrival) → arrive_at x12 was at b (filed_of o) ≡ Some (step_to t a) → a.kind ≡ kind_of_arrival (filed_of o) b → a.counts ≡ counts_told was (filed_of o) b → IsArrival was t at b a
  step_by at t a step kind counts = record {
    step = arrive_is at ∙ step;
    kind = kind ∙ ap (λ f. kind_of_arrival f b) (sym filed_there);
    counts = counts ∙ ap (λ f. counts_told was f b) (sym filed_there);
  }

  -- a new arrival
  pub new_taken : (x : Arrived) → first x ≡ sighting_of o (arrival h.sender h.icn b) → (at : Moment) (t : Station) (a : Arrival) → a.kind ≡ New → a.counts ≡ counts_told was None b
      → TakesNew was t at b (reply_bytes a.reply) → IsArrival was t at b a
  new_taken x is at t a kind counts took =
      let none = (new_is b h o x is).0 in
      step_by at t a (ap (λ z. arrive_at x12 was at b (filed_of z)) none ∙ took) (kind ∙ ap (λ z. kind_of_arrival (filed_of z) b) (sym none)) (counts ∙ ap (λ z. counts_told was (filed_of z) b) (sym none))

  pub each_new_taken : (x : Arrived) → first x ≡ sighting_of o (arrival h.sender h.icn b) → (at : Moment) (t : Station) (r : Result Arrival StationFault)
      → IfOk r (λ a. (a.kind ≡ New) × (a.counts ≡ counts_told was None b) × TakesNew was t at b (reply_bytes a.reply)) → IfOk r (IsArrival was t at b)
  each_new_taken x is at t (Ok a) took = new_taken x is at t a took.0 took.1 took.2
  each_new_taken x is at t (Err f) took = took

  -- the same bytes again
  pub same_taken : (r : Option Bytes) → again r ≡ sighting_of o (arrival h.sender h.icn b) → (at : Moment) (a : Arrival) → a.kind ≡ Same → a.counts ≡ only_unclear 0 → reply_bytes a.reply ≡ r → IsArrival was was at b a
  same_taken r is at a kind counts reply =
      let w = same_is b h o r is in
      let some : filed_of o ≡ filed_of (Some w.0) = ap filed_of w.1 in
      step_by at was a
      (ap (arrive_at x12 was at b) some ∙ rw w.2 (ap (λ z. Some (record { station = was; sends = option_to_list z })) (w.3 ∙ sym reply)))
      (kind ∙ sym (ap (λ z. kind_of_arrival z b) some ∙ rw w.2 refl))
      (counts ∙ ap (λ z. counts_told was z b) (sym some))

  -- other bytes
  pub other_taken : other ≡ sighting_of o (arrival h.sender h.icn b) → (at : Moment) (t : Station) (a : Arrival) → a.kind ≡ Other → a.counts ≡ only_unclear 0 → TakesOther was t at b (reply_bytes a.reply) → IsArrival was t at b a
  other_taken is at t a kind counts took =
      let w = other_is b h o is in
      let some : filed_of o ≡ filed_of (Some w.0) = ap filed_of w.1 in
      step_by at t a
      (ap (arrive_at x12 was at b) some ∙ rw w.2 took)
      (kind ∙ sym (ap (λ z. kind_of_arrival z b) some ∙ rw w.2 refl))
      (counts ∙ ap (λ z. counts_told was z b) (sym some))

  fault_by : arrival_fault was b ≡ numbers_fault was b (filed_of o)
  fault_by = readable was b h known ∙ ap (numbers_fault was b) filed_here

  -- the row of a new arrival
  pub new_fault : IsReady m → (x : Arrived) → first x ≡ sighting_of o (arrival h.sender h.icn b)
      → exhausted (is_spent m.book (needs_of (cached_edition m) m.me (map agreement_view m.agreements.items) b h) || nat_le (2 ^ 63 - 1) m.seq) ≡ arrival_fault was b
  new_fault ready x is =
      let edition_here : cached_edition m ≡ edition_next was = ap₂ (λ (k : Marks) (n : ℕ). edition_at k (n + 1)) held.0.marks (held.0.seq ∙ sym (length_items s held.1.sound.numbered)) in
      let needs_here : needs_of (cached_edition m) m.me (map agreement_view m.agreements.items) b h ≡ x12.needs (edition_next was) was.me was.agreements b =
      ap₂ (λ (p : Party) (a : List TradingAgreement). needs_of (cached_edition m) p a b h) (sym ready.me) held.0.agreements
      ∙ ap (λ ed. needs_of ed was.me was.agreements b h) edition_here ∙ sym (field.needs_is b h known (edition_next was) was.me was.agreements) in
      let last_here : nat_le (2 ^ 63 - 1) m.seq ≡ has_no_item_left was =
      ap (nat_le (2 ^ 63 - 1)) (held.0.seq ∙ sym (length_items s held.1.sound.numbered)) in
      ap₂ (λ u v. exhausted (u || v)) (ap₂ (λ (k : Numbers) (n : Needs). is_spent k n) held.0.book needs_here) last_here
      ∙ sym (fault_by ∙ ap (λ z. numbers_fault was b (filed_of z)) (new_is b h o x is).0 ∙ two_rows (is_spent was.book (x12.needs (edition_next was) was.me was.agreements b)) (has_no_item_left was))

  -- the row of other bytes
  pub other_fault : other ≡ sighting_of o (arrival h.sender h.icn b) → exhausted (is_spent m.book (record { reply = not (x12.is_silent b); group = false })) ≡ arrival_fault was b
  other_fault is =
      let w = other_is b h o is in
      ap (λ (k : Numbers). exhausted (is_spent k (record { reply = not (x12.is_silent b); group = false }))) held.0.book
      ∙ sym (fault_by ∙ ap (λ z. numbers_fault was b (filed_of z)) w.1 ∙ rw w.2 (one_row (is_spent was.book (record { reply = not (x12.is_silent b); group = false })) (has_no_item_left was)))
