-- Memory and records after an interchange was entered.
use Rattle.std.specs.Prelude.{◌≡◌, ◌+◌, ◌-◌, ◌^◌, ◌<◌, ◌≤◌, ◌==◌, List, [], ◌∷◌, ◌++◌, Bool, true, false, cond, length, map, filter, find, All, Option, Some, None, IfSome, option_map, option_and_then, refl, if◌then◌else◌, ◌||◌}
use Rattle.std.specs.List.{list_any}
use mathlib.Core.Path.{sym, ap, ap₂, subst, ◌∙◌}
use native.Mathlib.Omega.{arith}
use Rattle.std.proofs.lemmas.List.{map-append}
use Rattle.std.proofs.lemmas.List.Elements.{All-head, All-push, All-map, filter-append}
use Rattle.std.proofs.lemmas.List.Folds.{find-append}
use Rattle.std.specs.Option.{option_or}
use Rattle.x12_numbers.specs.Book.{Numbers, Uses, book_after}
use Rattle.x12_envelopes.specs.declared.party.Party.{Party}
use Rattle.x12_judge.specs.Agreement.{is_same_party}
use Rattle.x12_acks.specs.Submission.{IsBefore, Submission, SubmittedGroup, SubmittedSet, TransactionSetKey}
use Rattle.x12_outbound.specs.Entry.{InterchangeRow, IsSendable, pending_entry, pending_group, pending_set, row_is_open, set_row_at, submission_of_entry}
use Rattle.x12_outbound.specs.Fate.{is_pending}
use Rattle.x12_outbound.specs.Ledger.{MayBeAdded, LedgerInMemory, LedgerRow, NoneIsOut, OutboundLedger, interchange_in, row_in, submitted_by, with_interchange}
use Rattle.x12_outbound.specs.Schedule.{sent_at, unsent_schedule}
use Rattle.x12_outbound.specs.Hubs.{hubs_of}
use Rattle.x12_profile.specs.X12.{x12}
use Rattle.x12_station.specs.declared.cached.Cached.{Cached}
use Rattle.x12_station.specs.Durable.{IsHistoryOf, items_of}
use Rattle.x12_station.specs.Entering.{IsHeld}
use Rattle.x12_station.specs.History.{Submitted}
use Rattle.x12_station.specs.Keeps.{IsReady, Caches}
use Rattle.x12_station.specs.Opened.{HoldsState}
use Rattle.x12_station.specs.Plan.{Commit, Submits, stored_after}
use Rattle.x12_station.specs.working.Prepared.{MayEnter}
use Rattle.x12_station.specs.Record.{HasNoneOut, IsWholeEntry}
use Rattle.x12_station.specs.Seen.{sending_of, station_of}
use Rattle.x12_station.specs.Station.{Station}
use Rattle.x12_station.specs.StationStep.{entered as station_after}
use Rattle.x12_station.specs.Stored.{Stored, IsNumberedBy, IsSound, entries, marks_of}
use Rattle.x12_station.proofs.OpenedLemmas.{durable_of}
use Rattle.x12_station.proofs.DurableLemmas.{IsNewSubmission, after_submission, durable_submitted, entries_more, is_after, is_later, is_numbered, is_sendable, is_whole, items_more, sound_submitted}
use Rattle.x12_outbound.proofs.SendableLemmas.{groups_filled}
use Rattle.x12_station.proofs.EnterLemmas.{contents_of_orders, numbers_read}
use Rattle.x12_station.proofs.LoadingLemmas.{laid_set}
use Rattle.x12_station.proofs.OwnLemmas.{icn_read, read_of, submission_is, submission_read}
use Rattle.x12_outbound.proofs.Shelf.{entry_back}

-- a submission that may be entered, by its bytes
pub record Known (m : Cached) (book : Numbers) (e : InterchangeRow) : Type 0 where
  pub submission : Submission
  pub entry : pending_entry submission ≡ e
  pub new : IsNewSubmission m.me m.book book e.bytes submission

one_of_one : (a b : InterchangeRow) → a ∷ [] ≡ b ∷ [] → a ≡ b
one_of_one a b e = cc

pub known_of : (m : Cached) (book : Numbers) (e : InterchangeRow) → MayEnter m book e → Known m book e
known_of m book e may =
    let x = e.bytes in
    let r = read_of x may.own.submission in
    let y = submission_read x r in
    let entry : pending_entry y ≡ e = one_of_one (pending_entry y) e (sym (ap (map pending_entry) (submission_is x r)) ∙ may.entry) in
    let sent : IsSendable (record y { sender = m.me }) = subst IsSendable (entry_back m.me y) (subst (λ z. IsSendable (submission_of_entry m.me z)) (sym entry) may.sendable) in
    let none = contents_of_orders x r.header r.outline r.is_header r.is_outline may.own.submission in
    record {
      submission = y;
      entry = entry;
      new = record {
        own = may.own;
        read = submission_is x r;
        number = icn_read x r;
        sendable = record { has_group = sent.has_group; groups_rise = sent.groups_rise; few_groups = sent.few_groups; few_sets = sent.few_sets };
        filled = groups_filled x r.header r.outline none;
        uses = subst (λ n. Uses m.book book (n ∷ []) (map (λ (g : SubmittedGroup). g.number) y.groups)) (icn_read x r)
            (subst (λ ns. Uses m.book book (x12.number x ∷ []) ns) (numbers_read x r.header r.outline r.is_header r.is_outline may.own.submission) may.uses);
      };
    }

-- A ledger with one interchange more.

none_or : (v w : OutboundLedger) (e : InterchangeRow) (rest : List LedgerRow) (r : LedgerRow) → r.interchange ≡ e → HasNoneOut e
    → ((key : TransactionSetKey) → IfSome (row_in v.me rest key) (λ s. s.is_out ≡ false))
    → (key : TransactionSetKey) → IfSome (row_in v.me (rest ++ r ∷ []) key) (λ s. s.is_out ≡ false)
unfolding row_in interchange_in
none_or v w e rest r same laid none key = by (is_same_party key.sender v.me) (none key)
  where
    from : (o : Option LedgerRow) → IfSome (option_and_then (set_row_at key.group key.set) (option_map (λ r. r.interchange) o)) (λ s. s.is_out ≡ false)
        → IfSome (option_and_then (set_row_at key.group key.set) (option_map (λ r. r.interchange) (option_or o (find (λ r. r.interchange.icn == key.icn) (r ∷ []))))) (λ s. s.is_out ≡ false)
    from (Some q) h = h
    from None h = here (r.interchange.icn == key.icn)
      where
        here : (t : Bool) → IfSome (option_and_then (set_row_at key.group key.set) (option_map (λ r. r.interchange) (cond t (Some r) None))) (λ s. s.is_out ≡ false)
        here true = subst (λ i. IfSome (set_row_at key.group key.set i) (λ s. s.is_out ≡ false)) (sym same) (laid_set key.group key.set e laid)
        here false = tt

    by : (t : Bool) → IfSome (if t then option_and_then (set_row_at key.group key.set) (option_map (λ r. r.interchange) (find (λ r. r.interchange.icn == key.icn) rest)) else None) (λ s. s.is_out ≡ false)
        → IfSome (if t then option_and_then (set_row_at key.group key.set) (option_map (λ r. r.interchange) (find (λ r. r.interchange.icn == key.icn) (rest ++ r ∷ []))) else None) (λ s. s.is_out ≡ false)
    by true h = rw (find-append (λ (q : LedgerRow). q.interchange.icn == key.icn) rest (r ∷ [])) (from (find (λ r. r.interchange.icn == key.icn) rest) h)
    by false h = tt

-- What was submitted now is open.

open_groups : (gs : List SubmittedGroup) → 0 < length gs → All (λ g. 0 < length g.sets) gs → list_any (λ g. list_any (λ s. is_pending s.fate) g.sets) (map pending_group gs) ≡ true
open_groups [] some filled = absurd (omega arith)
open_groups (g ∷ gs) some filled = ap (λ b. b || list_any (λ g. list_any (λ s. is_pending s.fate) g.sets) (map pending_group gs)) (by g.sets (All-head (λ g. 0 < length g.sets) g gs filled))
  where
    by : (ss : List SubmittedSet) → 0 < length ss → list_any (λ s. is_pending s.fate) (map pending_set ss) ≡ true
    by [] few = absurd (omega arith)
    by (t ∷ ss) few = refl

open_pending : (y : Submission) → 0 < length y.groups → All (λ g. 0 < length g.sets) y.groups → row_is_open (pending_entry y) ≡ true
unfolding pending_entry
open_pending y some filled = open_groups y.groups some filled

pending_icn : (y : Submission) → y.icn ≡ (pending_entry y).icn
unfolding pending_entry
pending_icn y = refl

-- two stations whose parts are the same
same_station : (a b : Station) → a.me ≡ b.me → a.hubs ≡ b.hubs → a.marks ≡ b.marks → a.items ≡ b.items → a.agreements ≡ b.agreements → a.book ≡ b.book → a.tick ≡ b.tick → a.sendings ≡ b.sendings → a.counts ≡ b.counts → a ≡ b
same_station a b p q k r t u v w z = λ i. record { me = p i; hubs = q i; marks = k i; items = r i; agreements = t i; book = u i; tick = v i; sendings = w i; counts = z i }

-- The plan, and what it asks.

abbrev pub plan_of : Cached → Numbers → InterchangeRow → Commit
plan_of m book e = record { book = book; seq = m.seq + 1; change = Submits e }

pub change_is : (e f : InterchangeRow) → Submits e ≡ Submits f → e ≡ f
change_is e f same = cc

module _ (m : Cached) (ready : IsReady m) (book : Numbers) (e : InterchangeRow) (may : MayEnter m book e) where
  abbrev known : Known m book e
  known = known_of m book e may

  abbrev y : Submission
  y = known.submission

  pub whole : IsWholeEntry e
  whole = subst IsWholeEntry known.entry (is_whole m.me m.book book e.bytes y known.new)

  used_entries : All (IsNumberedBy m.book) (map (λ (r : LedgerRow). r.interchange) m.ledger.holds.rows)
  used_entries = All-map (IsNumberedBy m.book) (λ (r : LedgerRow). r.interchange) m.ledger.holds.rows ready.used

  map_twice : (party : Party) (rows : List LedgerRow) → map (submission_of_entry party) (map (λ (r : LedgerRow). r.interchange) rows) ≡ map (λ r. submission_of_entry party r.interchange) rows
  map_twice party [] = refl
  map_twice party (r ∷ rows) = ap (λ l. submission_of_entry party r.interchange ∷ l) (map_twice party rows)

  pub next : (mid : OutboundLedger) → mid ≡ m.ledger.holds → MayBeAdded mid e
  unfolding submitted_by
  next mid kept =
      subst (λ w. MayBeAdded w e) (sym kept) (subst (λ z. MayBeAdded (m.ledger.holds) z) known.entry (record {
        sendable = is_sendable m.me m.book book e.bytes y known.new m.ledger.holds.me;
        after = subst (λ l. All (λ s. IsBefore s (submission_of_entry m.ledger.holds.me (pending_entry y))) l) (map_twice m.ledger.holds.me m.ledger.holds.rows)
            (is_after m.me m.book book e.bytes y known.new m.ledger.holds.me (map (λ (r : LedgerRow). r.interchange) m.ledger.holds.rows) used_entries);
      }))

  -- what the plan makes of durable records is durable
  module _ (s : Stored) (held : IsHeld m s) where
    new_planned : IsNewSubmission m.ledger.holds.me s.book book e.bytes y
    new_planned = subst (λ p. IsNewSubmission p s.book book e.bytes y) (sym ready.me) (subst (λ b. IsNewSubmission m.me b book e.bytes y) held.0.book known.new)

    room_planned : s.seq + 1 ≤ 2 ^ 63 - 1
    room_planned = let room = may.room in let same = held.0.seq in omega arith

    pub durable_planned : IsHistoryOf m.me (hubs_of m.hubs) (stored_after (plan_of m book e) s)
    durable_planned =
        durable_of m.ledger.holds.me m.ledger.holds.hubs m.me m.hubs _ ready.me ready.hubs
        (subst (IsHistoryOf m.ledger.holds.me m.ledger.holds.hubs) (sym (ap₂ (λ n z. stored_after (record { book = book; seq = n + 1; change = Submits z }) s) held.0.seq (sym known.entry)))
        (durable_submitted m.ledger.holds.me m.ledger.holds.hubs s held.1 book e.bytes y new_planned room_planned))

    -- and it holds the station that the definition has then
    pub holds_planned : HoldsState (station_after x12 (station_of m.ledger.holds m.counts s) e.bytes) (stored_after (plan_of m book e) s)
    holds_planned = record {
      marks = refl;
      items = ap items_of (ap₂ (λ n z. stored_after (record { book = book; seq = n + 1; change = Submits z }) s) held.0.seq (sym known.entry))
          ∙ items_more m.ledger.holds.me m.ledger.holds.hubs s held.1 book e.bytes y new_planned room_planned;
      agreements = refl;
      book = may.uses.book ∙ ap (λ b. book_after b (x12.number e.bytes ∷ []) (x12.groups e.bytes)) held.0.book;
    }

  -- the ledger after it
  module _ (mid : OutboundLedger) (v : LedgerInMemory) (kept : mid ≡ m.ledger.holds) (added : v.holds ≡ with_interchange e (sent_at mid.tick unsent_schedule) mid) where
    abbrev l : OutboundLedger
    l = v.holds

    abbrev row : LedgerRow
    row = record { interchange = e; schedule = sent_at m.ledger.holds.tick unsent_schedule }

    me_is : l.me ≡ m.ledger.holds.me
    unfolding with_interchange
    me_is = ap (λ (v : OutboundLedger). v.me) added ∙ ap (λ (v : OutboundLedger). v.me) kept

    hubs_are : l.hubs ≡ m.ledger.holds.hubs
    unfolding with_interchange
    hubs_are = ap (λ (v : OutboundLedger). v.hubs) added ∙ ap (λ (v : OutboundLedger). v.hubs) kept

    tick_is : l.tick ≡ m.ledger.holds.tick
    unfolding with_interchange
    tick_is = ap (λ (v : OutboundLedger). v.tick) added ∙ ap (λ (v : OutboundLedger). v.tick) kept

    rows_are : l.rows ≡ m.ledger.holds.rows ++ row ∷ []
    unfolding with_interchange
    rows_are =
        ap (λ (v : OutboundLedger). v.rows) added
        ∙ ap (λ (v : OutboundLedger). v.rows ++ record { interchange = e; schedule = sent_at v.tick unsent_schedule } ∷ []) kept

    none_out : NoneIsOut l
    none_out key =
        subst (λ p. IfSome (row_in p l.rows key) (λ s. s.is_out ≡ false)) (sym me_is)
        (subst (λ rs. IfSome (row_in m.ledger.holds.me rs key) (λ s. s.is_out ≡ false)) (sym rows_are)
        (none_or m.ledger.holds m.ledger.holds e m.ledger.holds.rows row refl whole.laid ready.none_out key))

    used_rows : All (λ r. IsNumberedBy book r.interchange) l.rows
    used_rows =
        subst (All (λ r. IsNumberedBy book r.interchange)) (sym rows_are)
        (All-push (λ (r : LedgerRow). IsNumberedBy book r.interchange) m.ledger.holds.rows row
        (λ k d within. (used_one (ready.used k d within)))
        (subst (IsNumberedBy book) known.entry (is_numbered m.me m.book book e.bytes y known.new)))
      where
        used_one : {f : InterchangeRow} → IsNumberedBy m.book f → IsNumberedBy book f
        used_one was = record {
          interchange = let a = was.interchange in let b = (is_later m.me m.book book e.bytes y known.new).interchange in omega arith;
          groups = λ k d within. let a = was.groups k d within in let b = (is_later m.me m.book book e.bytes y known.new).group in omega arith;
        }

    -- memory after it
    abbrev pub entered_memory : Cached
    entered_memory = record {
      alloc = m.alloc;
      me = m.me;
      hubs = m.hubs;
      marks = m.marks;
      book = book;
      seq = m.seq + 1;
      agreements = m.agreements;
      ledger = v;
      counts = m.counts;
    }

    pub ready_entered : IsReady entered_memory
    ready_entered = record {
      me = me_is ∙ ready.me;
      plain = ready.plain;
      hubs = hubs_are ∙ ready.hubs;
      none_out = none_out;
      used = used_rows;
      seq = let room = may.room in omega arith;
    }

    module _ (s t : Stored) (held : IsHeld m s) (is : t ≡ stored_after (plan_of m book e) s) where
      new_here : IsNewSubmission m.ledger.holds.me s.book book e.bytes y
      new_here = subst (λ p. IsNewSubmission p s.book book e.bytes y) (sym ready.me) (subst (λ b. IsNewSubmission m.me b book e.bytes y) held.0.book known.new)

      room_here : s.seq + 1 ≤ 2 ^ 63 - 1
      room_here = let room = may.room in let same = held.0.seq in omega arith

      abbrev after : Stored
      after = after_submission m.ledger.holds.me m.ledger.holds.hubs s held.1 book e.bytes y new_here room_here

      after_is : t ≡ after
      after_is = is ∙ ap₂ (λ n z. stored_after (record { book = book; seq = n + 1; change = Submits z }) s) held.0.seq (sym known.entry)

      pub items_entered : items_of t ≡ items_of s ++ Submitted e.bytes ∷ []
      items_entered = ap items_of after_is ∙ items_more m.ledger.holds.me m.ledger.holds.hubs s held.1 book e.bytes y new_here room_here

      pub durable_entered : IsHistoryOf l.me l.hubs t
      durable_entered =
          subst (λ p. IsHistoryOf p l.hubs t) (sym me_is) (subst (λ hs. IsHistoryOf m.ledger.holds.me hs t) (sym hubs_are)
          (subst (IsHistoryOf m.ledger.holds.me m.ledger.holds.hubs) (sym after_is) (durable_submitted m.ledger.holds.me m.ledger.holds.hubs s held.1 book e.bytes y new_here room_here)))

      entries_are : entries t ≡ entries s ++ e ∷ []
      entries_are = ap entries after_is ∙ entries_more m.ledger.holds.me m.ledger.holds.hubs s held.1 book e.bytes y new_here room_here ∙ ap (λ z. entries s ++ z ∷ []) known.entry

      open_is : row_is_open e ≡ true
      open_is = subst (λ z. row_is_open z ≡ true) known.entry (open_pending y known.new.sendable.has_group known.new.filled)

      kept_open : (b : Bool) → b ≡ true → cond b (e ∷ []) [] ≡ e ∷ []
      kept_open b is_true = rw is_true refl

      pub keeps_entered : Caches entered_memory t
      keeps_entered = record {
        marks = held.0.marks ∙ ap (λ (z : Stored). marks_of z.origin) (sym is);
        book = ap (λ (z : Stored). z.book) (sym is);
        seq = ap (λ (z : Stored). z.seq) (sym is);
        agreements = held.0.agreements ∙ ap (λ (z : Stored). z.agreements) (sym is);
        open_ones =
            ap (map (λ r. r.interchange)) rows_are ∙ map-append (λ (r : LedgerRow). r.interchange) m.ledger.holds.rows (row ∷ [])
            ∙ ap (λ es. es ++ e ∷ []) held.0.open_ones
            ∙ sym (ap (filter row_is_open) entries_are ∙ filter-append row_is_open (entries s) (e ∷ []) ∙ ap (λ es. filter row_is_open (entries s) ++ es) (kept_open (row_is_open e) open_is));
      }

      icn_is : e.icn ≡ x12.number e.bytes
      icn_is = sym (known.new.number ∙ pending_icn y ∙ ap (λ (z : InterchangeRow). z.icn) known.entry)

      -- the station's state is the definition's
      pub state_entered : station_of l m.counts t ≡ station_after x12 (station_of m.ledger.holds m.counts s) e.bytes
      state_entered =
          same_station (station_of l m.counts t) (station_after x12 (station_of m.ledger.holds m.counts s) e.bytes)
          me_is hubs_are (ap (λ (z : Stored). marks_of z.origin) is) items_entered (ap (λ (z : Stored). z.agreements) is)
          (ap (λ (z : Stored). z.book) is ∙ may.uses.book ∙ ap (λ b. book_after b (x12.number e.bytes ∷ []) (x12.groups e.bytes)) held.0.book)
          tick_is
          (ap (map sending_of) rows_are ∙ map-append sending_of m.ledger.holds.rows (row ∷ [])
          ∙ ap (λ n. map sending_of m.ledger.holds.rows ++ record { number = n; schedule = sent_at m.ledger.holds.tick unsent_schedule } ∷ []) icn_is)
          refl

  -- what the plan leaves is sound
  pub sound_entered : (s : Stored) → IsHeld m s → IsSound (stored_after (plan_of m book e) s)
  sound_entered s held =
      let here : IsNewSubmission m.ledger.holds.me s.book book e.bytes y =
      subst (λ p. IsNewSubmission p s.book book e.bytes y) (sym ready.me) (subst (λ b. IsNewSubmission m.me b book e.bytes y) held.0.book known.new) in
      let left : s.seq + 1 ≤ 2 ^ 63 - 1 = let room = may.room in let same = held.0.seq in omega arith in
      let same = ap₂ (λ n z. stored_after (record { book = book; seq = n + 1; change = Submits z }) s) held.0.seq (sym known.entry) in
      subst IsSound (sym same) (sound_submitted m.ledger.holds.me m.ledger.holds.hubs s held.1 book e.bytes y here left)

-- the number of what may be entered is that of its bytes
pub number_entered : (m : Cached) (book : Numbers) (e : InterchangeRow) → MayEnter m book e → e.icn ≡ x12.number e.bytes
number_entered m book e may =
    let known = known_of m book e may in
    sym (known.new.number ∙ pending_icn known.submission ∙ ap (λ (z : InterchangeRow). z.icn) known.entry)
