-- What was submitted is listed: a station's submissions grow at its submissions alone.
use Rattle.std.specs.Prelude.{◌≡◌, ℕ, zero, suc, List, [], ◌∷◌, ◌++◌, Bool, true, false, if◌then◌else◌, Option, Some, None, All, map, bytes_eq, is_none, option_to_list, refl}
use mathlib.Core.Path.{sym, ap, subst, ◌∙◌}
use native.Mathlib.Omega.{arith}
use Rattle.std.proofs.lemmas.List.{append-nil, map-append}
use Rattle.x12_envelopes.specs.declared.moment.Moment.{Moment}
use Rattle.x12_envelopes.specs.declared.party.Party.{Party}
use Rattle.x12_profile.specs.declared.edition.Edition.{Edition}
use Rattle.x12_profile.specs.Interchange.{Bytes, Book, Order, book_for, is_within}
use Rattle.x12_profile.specs.X12.{x12}
use Rattle.x12_station.specs.Arriving.{IsArrival, step_to}
use Rattle.x12_station.specs.declared.arriving.Arrival.{Arrival}
use Rattle.x12_station.specs.History.{Submitted, Came, KeptArrival, filed, submissions}
use Rattle.x12_station.specs.Station.{Station, edition_next}
use Rattle.x12_station.specs.StationRefusal.{orders_refusal, written_orders}
use Rattle.x12_station.specs.StationStep.{StationStep, arrive, arrive_at, arrive_new, arrive_other, filed_now, may_submit, noted, replied, submit, submit_orders, entered, writes}
use Rattle.x12_station.proofs.ItemLemmas.{submissions-append}
use Rattle.x12_numbers.proofs.Shelf.{if_some_parts, some_inj}
use Rattle.x12_core.specs.declared.submission.Listed.{Listed}
use Rattle.x12_core.specs.Submission.{submitted_numbers, SubmitsMore}

head_same : {x y : Bytes} → x ∷ [] ≡ y ∷ [] → x ≡ y
head_same e = cc

-- A station's submissions, after each step.
-- what was submitted stands behind what was
numbers_pushed : (s new : Station) (x : Bytes) → submit x12 s x ≡ Some (record { station = new; sends = x ∷ [] }) → submitted_numbers new ≡ submitted_numbers s ++ x12.number x ∷ []
numbers_pushed s new x is =
    let step = some_inj (if_some_parts (may_submit x12 s x) (Some (record { station = entered x12 s x; sends = x ∷ [] })) (record { station = new; sends = x ∷ [] }) is).1 in
    ap (λ (t : StationStep). submitted_numbers t.station) (sym step)
    ∙ ap (map x12.number) (submissions-append s.items (Submitted x ∷ []))
    ∙ map-append x12.number (submissions s.items) (x ∷ [])

sends_itself : (s new : Station) (x y : Bytes) → submit x12 s x ≡ Some (record { station = new; sends = y ∷ [] }) → x ≡ y
sends_itself s new x y is =
    let step = some_inj (if_some_parts (may_submit x12 s x) (Some (record { station = entered x12 s x; sends = x ∷ [] })) (record { station = new; sends = y ∷ [] }) is).1 in
    head_same (ap (λ (t : StationStep). t.sends) step)

-- one that is listed by its number
one_listed : (node icn : ℕ) (s new : Station) (x : Bytes) (more : List Listed) → icn ≡ x12.number x → more ≡ record { node = node; icn = icn } ∷ []
    → submitted_numbers new ≡ submitted_numbers s ++ x12.number x ∷ [] → SubmitsMore node s new more
one_listed node icn s new x more number is pushed = subst (SubmitsMore node s new) (sym is) (record {
  theirs = one;
  numbers = pushed ∙ ap (λ n. submitted_numbers s ++ n ∷ []) (sym number);
})
  where
    one : All (λ (y : Listed). y.node ≡ node) (record { node = node; icn = icn } ∷ [])
    one zero d within = refl
    one (suc k) d within = absurd (omega (arith, within))

pub prepared_listed : (node icn : ℕ) (s new : Station) (x y : Bytes) (more : List Listed) → submit x12 s x ≡ Some (record { station = new; sends = y ∷ [] }) → icn ≡ x12.number y
    → more ≡ record { node = node; icn = icn } ∷ [] → SubmitsMore node s new more
prepared_listed node icn s new x y more is number listed =
    let same = sends_itself s new x y is in
    one_listed node icn s new x more (number ∙ ap x12.number (sym same)) listed
    (numbers_pushed s new x (is ∙ ap (λ z. Some (record { station = new; sends = z ∷ [] })) (sym same)))

pub orders_listed : (node icn : ℕ) (s new : Station) (to : Party) (at : Moment) (texts : List Order) (y : Bytes) (more : List Listed) → submit_orders x12 s to at texts ≡ Some (record { station = new; sends = y ∷ [] }) → icn ≡ x12.number y
    → more ≡ record { node = node; icn = icn } ∷ [] → SubmitsMore node s new more
orders_listed node icn s new to at texts y more is number listed =
    prepared_listed node icn s new (written_orders x12 s to at texts) y more
    (if_some_parts (is_none (orders_refusal x12 s to at texts)) (submit x12 s (written_orders x12 s to at texts)) (record { station = new; sends = y ∷ [] }) is).1
    number listed

-- a step after which the submissions are what they were
abbrev Keeps : Station → Option StationStep → Type 0
Keeps s None = Unit {0}
Keeps s (Some step) = submissions step.station.items ≡ submissions s.items

if_keeps : (s : Station) (t : Bool) (x y : Option StationStep) → Keeps s x → Keeps s y → Keeps s (if t then x else y)
if_keeps s true x y a b = a
if_keeps s false x y a b = b

came_keeps : (s : Station) (ed : Edition) (b : Bytes) (r : Option Bytes) → submissions (s.items ++ Came ed b r ∷ []) ≡ submissions s.items
came_keeps s ed b r = submissions-append s.items (Came ed b r ∷ []) ∙ append-nil (submissions s.items)

module _ (s : Station) (at : Moment) (b : Bytes) where
  new_keeps : (book : Book) → Keeps s (arrive_new x12 s at b book)
  new_keeps book =
      if_keeps s (x12.needs (edition_next s) s.me s.agreements b).reply (writes x12 book (replied x12 s b book (x12.reply (edition_next s) s.me s.agreements at book b))) (Some (record { station = filed_now x12 s b None s.book; sends = [] }))
      (if_keeps s (is_within book) (Some (replied x12 s b book (x12.reply (edition_next s) s.me s.agreements at book b))) None (came_keeps s (edition_next s) b (Some (x12.reply (edition_next s) s.me s.agreements at book b))) tt)
      (came_keeps s (edition_next s) b None)

  other_keeps : (book : Book) → Keeps s (arrive_other x12 s at b book)
  other_keeps book =
      if_keeps s (x12.is_silent b) (Some (record { station = s; sends = [] })) (writes x12 book (noted x12 s book (x12.refusal 25 s.me at book.interchange b)))
      refl (if_keeps s (is_within book) (Some (noted x12 s book (x12.refusal 25 s.me at book.interchange b))) None refl tt)

  at_keeps : (f : Option KeptArrival) → Keeps s (arrive_at x12 s at b f)
  at_keeps None = new_keeps (book_for s.book (x12.needs (edition_next s) s.me s.agreements b))
  at_keeps (Some f) =
      if_keeps s (bytes_eq f.body b) (Some (record { station = s; sends = option_to_list f.reply })) (arrive_other x12 s at b (book_for s.book (record { reply = true; group = false })))
      refl (other_keeps (book_for s.book (record { reply = true; group = false })))

  arrive_keeps : Keeps s (arrive x12 s at b)
  arrive_keeps = if_keeps s (x12.has_header b) (arrive_at x12 s at b (filed x12 s.items (x12.sender b) (x12.number b))) None (at_keeps (filed x12 s.items (x12.sender b) (x12.number b))) tt

  -- an arrival submits nothing
  pub arrival_keeps : (step : StationStep) → arrive x12 s at b ≡ Some step → submitted_numbers step.station ≡ submitted_numbers s
  arrival_keeps step is = ap (map x12.number) (subst (Keeps s) is arrive_keeps)

nothing_theirs : (node : ℕ) → All (λ (y : Listed). y.node ≡ node) []
nothing_theirs node k d within = absurd (omega (arith, within))

-- nothing is listed where nothing was submitted
pub nothing_listed : (node : ℕ) (s new : Station) (more : List Listed) → more ≡ [] → submitted_numbers new ≡ submitted_numbers s → SubmitsMore node s new more
nothing_listed node s new more is kept = subst (SubmitsMore node s new) (sym is) (record {
  theirs = nothing_theirs node;
  numbers = kept ∙ sym (append-nil (submitted_numbers s));
})

pub arrival_listed : (node : ℕ) (s new : Station) (at : Moment) (b : Bytes) (a : Arrival) (more : List Listed) → IsArrival s new at b a → more ≡ [] → SubmitsMore node s new more
arrival_listed node s new at b a more came is = nothing_listed node s new more is (arrival_keeps s at b (step_to new a) came.step)
