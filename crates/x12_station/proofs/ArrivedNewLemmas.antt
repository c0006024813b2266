-- The step of a new arrival, from memory and records as they were, what was weighed, and what was taken in.
use Rattle.std.specs.Prelude.{◌≡◌, ℕ, ◌+◌, ◌-◌, ◌^◌, ◌≤◌, ◌<◌, List, map, Option, None, Some, Ok, IsTrue, All, option_to_list}
use mathlib.Core.Path.{sym, ap, ap₂, subst, ◌∙◌}
use native.Mathlib.Omega.{arith}
use Rattle.std.proofs.lemmas.List.Elements.{All-filter, All-map, All-weaker}
use Rattle.x12_numbers.specs.Book.{Numbers}
use Rattle.x12_envelopes.specs.declared.header.Header.{Header}
use Rattle.x12_envelopes.specs.declared.moment.Moment.{Moment}
use Rattle.x12_envelopes.specs.declared.party.Party.{Party}
use Rattle.x12_envelopes.specs.Header.{header_of}
use Rattle.x12_envelopes.specs.Party.{is_plain_party}
use Rattle.x12_judge.specs.Agreement.{agreement_view, TradingAgreement}
use Rattle.x12_acks.specs.Submission.{Submission, SubmittedGroup}
use Rattle.x12_inbound.specs.Accepted.{PostsWhatIsAccepted}
use Rattle.x12_inbound.specs.Arrival.{Filing, ArePostingsOf}
use Rattle.x12_inbound.specs.Filing.{reply_bytes}
use Rattle.x12_outbound.specs.declared.evidence.Counts.{Counts}
use Rattle.x12_outbound.specs.Counts.{AreCounts, counts_of_both}
use Rattle.x12_outbound.specs.Entry.{InterchangeRow, submission_of_entry, submitted_group_of_row}
use Rattle.x12_outbound.specs.Ledger.{LedgerRow, OutboundLedger}
use Rattle.x12_outbound.specs.Plan.{Plan, HoldsWhatIsOpen, is_open_by, scheduled}
use Rattle.x12_outbound.specs.declared.schedule.Schedule.{Schedule}
use Rattle.x12_outbound.specs.Settling.{Fates, targets_of}
use Rattle.x12_outbound.specs.Hubs.{hubs_of}
use Rattle.x12_profile.specs.declared.edition.Edition.{Edition}
use Rattle.x12_profile.specs.Edition.{Marks, edition_at}
use Rattle.x12_profile.specs.Interchange.{Bytes, book_for}
use Rattle.x12_profile.specs.Laws.{Laws}
use Rattle.x12_profile.specs.Marking.{marks_view}
use Rattle.x12_profile.specs.X12.{x12, judged_by}
use Rattle.x12_station.specs.declared.cached.Cached.{Cached}
use Rattle.x12_station.specs.declared.replying.Draft.{Draft}
use Rattle.x12_station.specs.Arriving.{TakesNew, counts_told}
use Rattle.x12_station.specs.Closed.{heard}
use Rattle.x12_station.specs.working.Drafting.{IsDraft}
use Rattle.x12_station.specs.Durable.{IsHistoryOf}
use Rattle.x12_station.specs.Entering.{IsHeld}
use Rattle.x12_station.specs.working.Filing.{TakesFiling}
use Rattle.x12_station.specs.working.Hearing.{IsHeard}
use Rattle.x12_station.specs.Keeps.{IsReady, Caches, cached_edition}
use Rattle.x12_station.specs.Opened.{HoldsState}
use Rattle.x12_station.specs.Plan.{Files, stored_after}
use Rattle.x12_station.specs.Seen.{station_of}
use Rattle.x12_station.specs.StationStep.{arrive_new, filed_now}
use Rattle.x12_station.specs.Stopped.{HoldsStep}
use Rattle.x12_station.specs.Stored.{Stored, IsNumberedBy, IsSound, open_entries, filed_in}
use Rattle.x12_station.proofs.ArrivedLemmas.{edition_is, edition_of}
use Rattle.x12_station.proofs.ArrivingLemmas.{rows_later}
use Rattle.x12_station.proofs.OpenedLemmas.{durable_of}
use Rattle.x12_station.proofs.DurableLemmas.{IsLater}
use Rattle.x12_numbers.proofs.Shelf.{all_from_map}
use Rattle.x12_station.proofs.FilingLemmas.{counts_are, told_are, durable_after, holds_after, open_after, state_after}
use Rattle.x12_station.proofs.FilingLemmas as filing
use Rattle.x12_station.proofs.StepLemmas.{book_later, step_is}

pub plain_is : (p : Party) → IsTrue (is_plain_party p) → IsTrue (x12.is_plain p)
unfolding x12
plain_is p is = is

module _ (m : Cached) (s : Stored) (ready : IsReady m) (was : IsHeld m s) (b : Bytes) (h : Header) (known : header_of b ≡ Ok h) (at : Moment) (d : Draft) (p : Plan)
    (drafted : IsDraft (cached_edition m) m.me (map agreement_view m.agreements.items) at m.book h b d)
    (is_heard : IsHeard m.ledger.holds s h.sender (heard (cached_edition m) (judged_by (cached_edition m) m.me (map agreement_view m.agreements.items) h b).verdict b) p)
    (laws : Laws x12) (posts : PostsWhatIsAccepted) (room : m.seq < 2 ^ 63 - 1) (new : filed_in s h.sender h.icn ≡ None) where
  abbrev v : OutboundLedger
  v = m.ledger.holds

  abbrev r : Option Bytes
  r = reply_bytes d.reply

  -- what was weighed by memory was weighed by the records
  edition_here : cached_edition m ≡ edition_of s
  edition_here = ap₂ (λ (k : Marks) (n : ℕ). edition_at k (n + 1)) was.0.marks was.0.seq ∙ edition_is s was.1.sound.numbered

  heard_here : IsHeard v s h.sender (heard (edition_of s) (judged_by (edition_of s) v.me s.agreements h b).verdict b) p
  heard_here =
      subst (λ (ed : Edition). IsHeard v s h.sender (heard ed (judged_by ed v.me s.agreements h b).verdict b) p) edition_here
      (subst (λ (me : Party). IsHeard v s h.sender (heard (cached_edition m) (judged_by (cached_edition m) me s.agreements h b).verdict b) p) (sym ready.me)
      (subst (λ (a : List TradingAgreement). IsHeard v s h.sender (heard (cached_edition m) (judged_by (cached_edition m) m.me a h b).verdict b) p) was.0.agreements is_heard))

  draft_here : IsDraft (edition_of s) v.me s.agreements at s.book h b d
  draft_here =
      subst (λ (ed : Edition). IsDraft ed v.me s.agreements at s.book h b d) edition_here
      (subst (λ (me : Party). IsDraft (cached_edition m) me s.agreements at s.book h b d) (sym ready.me)
      (subst (λ (a : List TradingAgreement). IsDraft (cached_edition m) m.me a at s.book h b d) was.0.agreements
      (subst (λ (k : Numbers). IsDraft (cached_edition m) m.me (map agreement_view m.agreements.items) at k h b d) was.0.book drafted)))

  plain : IsTrue (x12.is_plain v.me)
  plain = subst (λ (q : Party). IsTrue (x12.is_plain q)) (sym ready.me) (plain_is m.me ready.plain)

  few : s.seq + 1 ≤ 2 ^ 63 - 1
  few = let same = was.0.seq in omega arith

  abbrev filed_records : Stored
  filed_records = filing.after v m.counts s was.1 was.0.open_ones b h known p heard_here d.book draft_here.book draft_here.within at r draft_here.reply laws posts plain few new

  -- what the code commits
  abbrev pub committed : Stored
  committed = stored_after (record { book = d.book; seq = m.seq + 1; change = Files d.kept (targets_of p.pieces) }) s

  committed_is : committed ≡ filed_records
  committed_is = ap₂ (λ (n : ℕ) (k : Filing). stored_after (record { book = d.book; seq = n + 1; change = Files k (targets_of p.pieces) }) s) was.0.seq draft_here.kept

  durable_there : IsHistoryOf v.me v.hubs filed_records
  durable_there =
      durable_after v m.counts s was.1 was.0.open_ones b h known p heard_here d.book draft_here.book draft_here.within at r draft_here.reply laws posts plain few new
      (subst (λ (k : Filing). ArePostingsOf k.filed k.postings) draft_here.kept draft_here.theirs)

  -- the commit fits
  pub fits_filed : IsSound committed
  fits_filed = subst IsSound (sym committed_is) durable_there.sound

  -- and what it leaves is durable
  pub durable_filed : IsHistoryOf m.me (hubs_of m.hubs) committed
  durable_filed = durable_of m.ledger.holds.me m.ledger.holds.hubs m.me m.hubs _ ready.me ready.hubs (subst (IsHistoryOf v.me v.hubs) (sym committed_is) durable_there)

  -- and holds the station after the step
  pub left_filed : HoldsStep (arrive_new x12 (station_of v m.counts s) at b (book_for s.book (x12.needs (edition_of s) v.me s.agreements b))) committed
  left_filed =
      subst (λ step. HoldsStep step committed) (sym (step_is (station_of v m.counts s) b h known d.book draft_here.book at r draft_here.reply draft_here.within))
      (subst (HoldsState (filed_now x12 (station_of v m.counts s) b r d.book)) (sym committed_is)
      (holds_after v m.counts s was.1 was.0.open_ones b h known p heard_here d.book draft_here.book draft_here.within at r draft_here.reply laws posts plain few new))

  -- and memory holds it
  module _ (t : Stored) (t_is : t ≡ committed) (n : Cached) (told : Counts) (taken : TakesFiling m n d.book p told) where
    open_there : map (λ e. e.interchange) n.ledger.holds.rows ≡ open_entries filed_records
    open_there = open_after v m.counts s was.1 was.0.open_ones b h known p heard_here d.book draft_here.book draft_here.within at r draft_here.reply laws posts plain few new n.ledger.holds taken.held taken.none_out

    keeps_there : Caches n filed_records
    keeps_there = record {
      marks = ap marks_view taken.marks ∙ was.0.marks;
      book = taken.book;
      seq = taken.seq ∙ ap (λ (k : ℕ). k + 1) was.0.seq;
      agreements = ap (λ a. map agreement_view a.items) taken.agreements ∙ was.0.agreements;
      open_ones = open_there;
    }

    pub held_filed : IsHeld n t
    held_filed = subst (IsHeld n) (sym (t_is ∙ committed_is)) (
      keeps_there,
      subst (λ (me : Party). IsHistoryOf me n.ledger.holds.hubs filed_records) (sym taken.held.me) (subst (λ (hs : List Party). IsHistoryOf v.me hs filed_records) (sym taken.held.hubs) durable_there),
    )

    -- its evidence did what is told of it
    pub told_filed : told ≡ counts_told (station_of v m.counts s) None b
    told_filed = taken.told_is ∙ told_are v m.counts s was.1 was.0.open_ones b h known p heard_here

    -- by the step of the definition
    pub took_filed : AreCounts m.counts → m.counts.unclear ≤ 2 ^ 64 - 1 → TakesNew (station_of v m.counts s) (station_of n.ledger.holds n.counts t) at b r
    took_filed are few_unclear =
        step_is (station_of v m.counts s) b h known d.book draft_here.book at r draft_here.reply draft_here.within
        ∙ ap (λ z. Some (record { station = z; sends = option_to_list r }))
        (sym (ap (station_of n.ledger.holds n.counts) (t_is ∙ committed_is)
        ∙ state_after v m.counts s was.1 was.0.open_ones b h known p heard_here d.book draft_here.book draft_here.within at r draft_here.reply laws posts plain few new n.ledger.holds taken.held taken.none_out n.counts
        (taken.counts ∙ ap (counts_of_both m.counts) taken.told_is
        ∙ counts_are v m.counts s was.1 was.0.open_ones b h known p heard_here are few_unclear)))

-- What is left by settling keeps its numbers, whatever the records answered.
abbrev used_by : (book : Numbers) → Submission → Type 0
used_by book x = (x.icn ≤ book.interchange) × All (λ g. g.number ≤ book.group) x.groups

module _ (book : Numbers) (me : Party) where
  used_as : (e : InterchangeRow) → IsNumberedBy book e → used_by book (submission_of_entry me e)
  used_as e was = (was.interchange, All-map (λ (g : SubmittedGroup). g.number ≤ book.group) submitted_group_of_row e.groups was.groups)

  used_back : (e : InterchangeRow) → used_by book (submission_of_entry me e) → IsNumberedBy book e
  used_back e was = record { interchange = was.0; groups = all_from_map submitted_group_of_row (λ (g : SubmittedGroup). g.number ≤ book.group) e.groups was.1 }

used_left : (book : Numbers) (v w : OutboundLedger) (fare : Fates) → HoldsWhatIsOpen v w fare → All (λ r. IsNumberedBy book r.interchange) v.rows → All (λ r. IsNumberedBy book r.interchange) w.rows
unfolding scheduled
used_left book v w fare held was =
    let of_v : All (λ (q : Submission × Schedule). used_by book q.0) (scheduled v) =
    All-map (λ (q : Submission × Schedule). used_by book q.0) (λ (r : LedgerRow). (submission_of_entry v.me r.interchange, r.schedule)) v.rows
    (All-weaker (λ r. IsNumberedBy book r.interchange) (λ (r : LedgerRow). used_by book (submission_of_entry v.me r.interchange)) (λ r u. used_as book v.me r.interchange u) v.rows was) in
    let of_w : All (λ (q : Submission × Schedule). used_by book q.0) (scheduled w) =
    subst (All (λ (q : Submission × Schedule). used_by book q.0)) (sym held.scheduled) (All-filter (λ s. is_open_by fare s.0) (λ (q : Submission × Schedule). used_by book q.0) (scheduled v) of_v) in
    All-weaker (λ (r : LedgerRow). used_by book (submission_of_entry w.me r.interchange)) (λ r. IsNumberedBy book r.interchange) (λ r u. used_back book w.me r.interchange u) w.rows
    (all_from_map (λ (r : LedgerRow). (submission_of_entry w.me r.interchange, r.schedule)) (λ (q : Submission × Schedule). used_by book q.0) w.rows of_w)

module _ (m n : Cached) (d : Draft) (p : Plan) (told : Counts) (ready : IsReady m) (b : Bytes) (h : Header) (known : header_of b ≡ Ok h) (at : Moment)
    (drafted : IsDraft (cached_edition m) m.me (map agreement_view m.agreements.items) at m.book h b d) (room : m.seq < 2 ^ 63 - 1) (taken : TakesFiling m n d.book p told) where
  later : IsLater m.book d.book
  later = book_later (cached_edition m) m.me (map agreement_view m.agreements.items) b h known m.book d.book drafted.book at (reply_bytes d.reply) drafted.reply

  pub ready_filed : IsReady n
  ready_filed = record {
    me = taken.held.me ∙ ready.me ∙ sym taken.me;
    plain = subst (λ (q : Party). IsTrue (is_plain_party q)) (sym taken.me) ready.plain;
    hubs = taken.held.hubs ∙ ready.hubs ∙ ap hubs_of (sym taken.hubs);
    none_out = taken.none_out;
    used = subst (λ (k : Numbers). All (λ r. IsNumberedBy k r.interchange) n.ledger.holds.rows) (sym taken.book)
        (used_left d.book m.ledger.holds n.ledger.holds _ taken.held (rows_later m.book d.book later m.ledger.holds.rows ready.used));
    seq = let is = taken.seq in omega arith;
  }
