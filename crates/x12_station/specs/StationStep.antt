-- A station's step for each event: its new state and the interchanges that it sends, or none where
-- it refuses. Its history only ever grows at its end.
use Rattle.x12_numbers.specs.Book.{book_after}
use Rattle.std.specs.Prelude.{ℕ, List, [], ◌∷◌, ◌++◌, Bool, true, false, is_none, if◌then◌else◌, map, filter, ◌==◌, nat_le, Option, Some, None, bytes_eq, option_to_list}
use Rattle.std.specs.List.{list_any}
use Rattle.x12_envelopes.specs.declared.party.Party.{Party}
use Rattle.x12_envelopes.specs.declared.moment.Moment.{Moment}
use Rattle.x12_profile.specs.Interchange.{Bytes, Order, Book, book_for, is_within}
use Rattle.x12_profile.specs.Profile.{Profile}
use Rattle.x12_station.specs.History.{Submitted, Came, KeptArrival, submissions, filed, fate_in}
use Rattle.x12_station.specs.Schedule.{Sending, schedule_of, sent_if_due}
use Rattle.x12_station.specs.Key.{own_fates}
use Rattle.x12_acks.specs.Submission.{TransactionSetKey}
use Rattle.x12_outbound.specs.Schedule.{unsent_schedule, sent_at, tick_seen}
use Rattle.x12_outbound.specs.Counts.{only_unclear}
use Rattle.x12_outbound.specs.Fate.{is_pending}
use Rattle.x12_outbound.specs.declared.fate.Fate.{Fate}
use Rattle.x12_station.specs.Counts.{count_arrival}
use Rattle.x12_station.specs.Station.{Station, edition_next}
use Rattle.x12_station.specs.StationRefusal.{prepared_refusal, orders_refusal, written_orders}

-- what a station does at an event
pub record StationStep : Type 0 where
  pub station : Station
  pub sends : List Bytes

module _ (p : Profile) where
  -- whether the station may submit x: no row of the table refuses it
  abbrev pub may_submit : Station → Bytes → Bool
  may_submit s x = is_none (prepared_refusal p s x)

  -- whether a set of x is pending
  abbrev pub is_open : Station → Bytes → Bool
  is_open s x = list_any (λ t. is_pending (fate_in p s.me s.hubs s.items x t.place)) (p.sets x)

  -- the submissions with a pending set, in their order
  abbrev pub open_submissions : Station → List Bytes
  open_submissions s = filter (is_open s) (submissions s.items)

  -- the schedules of what is open still
  abbrev pub still_open : Station → List Sending
  still_open s =
      filter (λ q. list_any (λ x. p.number x == q.number) (open_submissions s)) s.sendings

  -- a restart keeps the history, the agreements and the numbers; what is open is due at once
  abbrev pub restarted : Station → Station
  restarted s = record s {
    tick = 0;
    sendings = map
        (λ x. record { number = p.number x; schedule = unsent_schedule }) (open_submissions s);
    counts = only_unclear 0;
  }

  -- a submission is entered, raises the numbers to its own, and is sent for the first time
  abbrev pub entered : Station → Bytes → Station
  entered s x = record s {
    items = s.items ++ Submitted x ∷ [];
    book = book_after s.book (p.number x ∷ []) (p.groups x);
    sendings = s.sendings
        ++ record { number = p.number x; schedule = sent_at s.tick unsent_schedule } ∷ [];
  }

  -- what may be submitted is entered and sent
  abbrev pub submit : Station → Bytes → Option StationStep
  submit s x = if may_submit s x then Some (record { station = entered s x; sends = x ∷ [] })
      else None

  -- orders are submitted as the interchange that is written of them, under the next numbers
  abbrev pub submit_orders : Station → Party → Moment → List Order → Option StationStep
  submit_orders s to at texts =
      if is_none (orders_refusal p s to at texts)
      then submit s (written_orders p s to at texts)
      else None

  -- b is filed with its reply, what it tells is counted, and what it closes is sent no more
  abbrev pub filed_now : Station → Bytes → Option Bytes → Book → Station
  filed_now s b reply book =
      let items = s.items ++ Came (edition_next s) b reply ∷ [] in
      record s {
        items = items;
        book = book;
        sendings = still_open (record s { items = items });
        counts = count_arrival p (edition_next s) s.me s.hubs s.items b s.counts;
      }

  -- a step that writes needs numbers that may be written
  abbrev pub writes : Book → StationStep → Option StationStep
  writes book step = if is_within book then Some step else None

  -- b is filed, with the reply that was written for it
  abbrev pub replied : Station → Bytes → Book → Bytes → StationStep
  replied s b book reply = record { station = filed_now s b (Some reply) book; sends = reply ∷ [] }

  -- what is due is written under the next numbers, filed and sent
  abbrev pub arrive_new : Station → Moment → Bytes → Book → Option StationStep
  arrive_new s at b book =
      if (p.needs (edition_next s) s.me s.agreements b).reply
      then writes book (replied s b book (p.reply (edition_next s) s.me s.agreements at book b))
      else Some (record { station = filed_now s b None s.book; sends = [] })

  -- other bytes under a filed number raise it, and change nothing else
  abbrev pub noted : Station → Book → Bytes → StationStep
  noted s book refusal = record { station = record s { book = book }; sends = refusal ∷ [] }

  -- and are refused under the next number (025), unless they are silent
  abbrev pub arrive_other : Station → Moment → Bytes → Book → Option StationStep
  arrive_other s at b book =
      if p.is_silent b
      then Some (record { station = s; sends = [] })
      else writes book (noted s book (p.refusal 25 s.me at book.interchange b))

  -- the same bytes again give the kept reply, and change nothing
  abbrev pub arrive_at : Station → Moment → Bytes → Option KeptArrival → Option StationStep
  arrive_at s at b None =
      arrive_new s at b (book_for s.book (p.needs (edition_next s) s.me s.agreements b))
  arrive_at s at b (Some f) =
      if bytes_eq f.body b
      then Some (record { station = s; sends = option_to_list f.reply })
      else arrive_other s at b (book_for s.book (record { reply = true; group = false }))

  -- an arrival of readable bytes
  abbrev pub arrive : Station → Moment → Bytes → Option StationStep
  arrive s at b =
      if p.has_header b
      then arrive_at s at b (filed p s.items (p.sender b) (p.number b))
      else None

  -- what is sent again at a tick: each open submission that is due
  abbrev pub due_at : Station → ℕ → List Bytes
  due_at s now =
      filter (λ x. nat_le (schedule_of s.sendings (p.number x)).due now) (open_submissions s)

  -- a tick changes the last tick and the schedules alone
  abbrev pub tick_at : Station → ℕ → StationStep
  tick_at s now = record {
    station = record s { tick = now; sendings = map (sent_if_due now) s.sendings };
    sends = due_at s now;
  }

  -- one that went back counts as the greatest seen
  abbrev pub tick : Station → ℕ → StationStep
  tick s now = tick_at s (tick_seen s.tick now)

  -- the fate of the set with this key, if the station submitted one
  abbrev pub fate_by_key : Station → TransactionSetKey → Option Fate
  fate_by_key s k = own_fates p s.me s.hubs s.items k
