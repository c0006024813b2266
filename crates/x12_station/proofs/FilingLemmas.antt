-- One commit of a new arrival: with the plan's targets the records stay a station's, memory keeps what is open, and the state is the step's.
use Rattle.std.specs.Prelude.{◌≡◌, ℕ, ◌+◌, ◌-◌, ◌^◌, ◌≤◌, min, List, [], Bool, true, false, if◌then◌else◌, map, Option, None, Ok, IsTrue, refl, filter}
use mathlib.Core.Path.{sym, ap, ap₂, subst, ◌∙◌}
use native.Mathlib.Omega.{arith}
use Rattle.x12_numbers.specs.Book.{Numbers}
use Rattle.x12_envelopes.specs.declared.header.Header.{Header}
use Rattle.x12_envelopes.specs.declared.moment.Moment.{Moment}
use Rattle.x12_envelopes.specs.declared.party.Party.{Party}
use Rattle.x12_envelopes.specs.Header.{header_of}
use Rattle.x12_acks.specs.Reply.{due_reply}
use Rattle.x12_inbound.specs.Accepted.{PostsWhatIsAccepted}
use Rattle.x12_inbound.specs.Arrival.{Filing, ArePostingsOf, filing_of, arrival}
use Rattle.x12_outbound.specs.declared.evidence.Counts.{Counts}
use Rattle.x12_outbound.specs.Counts.{AreCounts, counts_of_both, only_unclear, with_pieces}
use Rattle.x12_outbound.specs.Entry.{row_is_open}
use Rattle.x12_outbound.specs.Ledger.{OutboundLedger, NoneIsOut, fates}
use Rattle.x12_outbound.specs.Plan.{Plan, HoldsWhatIsOpen, evidence_in, findings_in, unclear_answers}
use Rattle.x12_outbound.specs.Settling.{settled_fates, targets_of, findings}
use Rattle.x12_profile.specs.Interchange.{Bytes, book_for, is_within}
use Rattle.x12_profile.specs.Laws.{Laws}
use Rattle.x12_profile.specs.Reading.{answers_in}
use Rattle.x12_profile.specs.X12.{x12, is_refused, judged_by, needs_of}
use Rattle.x12_station.specs.Closed.{heard}
use Rattle.x12_station.specs.Counts.{arrival_counts, count_arrival}
use Rattle.x12_station.specs.Durable.{items_of, IsHistoryOf}
use Rattle.x12_station.specs.working.Hearing.{IsHeard}
use Rattle.x12_station.specs.History.{Item}
use Rattle.x12_station.specs.Key.{own_fates}
use Rattle.x12_station.specs.Opened.{HoldsState}
use Rattle.x12_station.specs.Older.{answers_as_read}
use Rattle.x12_station.specs.Plan.{Files, stored_after}
use Rattle.x12_station.specs.Schedule.{Sending}
use Rattle.x12_station.specs.Station.{Station}
use Rattle.x12_station.specs.Seen.{sending_of, station_of}
use Rattle.x12_station.specs.StationStep.{filed_now}
use Rattle.x12_station.specs.Stored.{Stored, marks_of, open_entries, filed_in}
use Rattle.x12_station.proofs.ArrivedLemmas.{edition_of, history_fates, items_now}
use Rattle.x12_station.proofs.DurableFiledLemmas.{durable_filed, entries_filed_are, filed_with, items_then}
use Rattle.x12_station.proofs.FateLemmas.{brought}
use Rattle.x12_station.proofs.HearingLemmas.{same_unclear}
use Rattle.x12_station.proofs.HeldLemmas.{left_open, sends_still}
use Rattle.x12_station.proofs.OlderLemmas.{unclear_as_read}
use Rattle.x12_station.proofs.PieceLemmas.{pieces_told, targets_told, findings_told}
use Rattle.x12_station.proofs.StepLemmas.{refused_is, brought_is, book_later, filing_posts, filing_rightly, filing_answered}
use Rattle.x12_station.proofs.TargetLemmas.{targets_by}

module _ (v : OutboundLedger) (counts : Counts) (s : Stored) (d : IsHistoryOf v.me v.hubs s) (near_are : map (λ r. r.interchange) v.rows ≡ open_entries s)
    (b : Bytes) (h : Header) (known : header_of b ≡ Ok h) (p : Plan) (is_heard : IsHeard v s h.sender (heard (edition_of s) (judged_by (edition_of s) v.me s.agreements h b).verdict b) p) where
  abbrev items : List Item
  items = items_of s

  -- the plan's evidence is what the arrival brings
  pub evidence_brought : evidence_in p.pieces ≡ brought (edition_of s) v.me v.hubs items b
  evidence_brought =
      pieces_told v is_heard.closed s d near_are is_heard.me h.sender (heard (edition_of s) (judged_by (edition_of s) v.me s.agreements h b).verdict b) is_heard.found p.pieces is_heard.evidence is_heard.pieces
      ∙ sym (brought_is (edition_of s) v.me s.agreements b h known v.hubs items)

  -- and its targets are what the history settles
  pub targets_brought : targets_of p.pieces ≡ targets_by (history_fates v.me v.hubs s d) (brought (edition_of s) v.me v.hubs items b)
  targets_brought =
      targets_told v is_heard.closed s d near_are is_heard.me h.sender (heard (edition_of s) (judged_by (edition_of s) v.me s.agreements h b).verdict b) is_heard.found p.pieces is_heard.evidence is_heard.pieces
      ∙ ap (targets_by (history_fates v.me v.hubs s d)) (sym (brought_is (edition_of s) v.me s.agreements b h known v.hubs items))

  findings_brought : findings_in p.pieces ≡ findings (own_fates x12 v.me v.hubs items) (brought (edition_of s) v.me v.hubs items b)
  findings_brought =
      findings_told v is_heard.closed s d near_are is_heard.me h.sender (heard (edition_of s) (judged_by (edition_of s) v.me s.agreements h b).verdict b) is_heard.found p.pieces is_heard.evidence is_heard.pieces
      ∙ ap (findings (own_fates x12 v.me v.hubs items)) (sym (brought_is (edition_of s) v.me s.agreements b h known v.hubs items))

  unclear_in : unclear_answers (answers_in b) ≡ x12.unclear b
  unfolding unclear_answers x12
  unclear_in = same_unclear (answers_in b)

  unclear_read : unclear_answers (answers_as_read (edition_of s) (answers_in b)) ≡ x12.unclear b
  unclear_read = unclear_as_read (edition_of s) (answers_in b) ∙ unclear_in

  no_unclear : unclear_answers [] ≡ 0
  unfolding unclear_answers
  no_unclear = refl

  unclear_is : p.unclear ≡ (if x12.refuses (edition_of s) v.me b then 0 else x12.unclear b)
  unclear_is = is_heard.unclear ∙ by (x12.refuses (edition_of s) v.me b) refl
    where
      by : (t : Bool) → x12.refuses (edition_of s) v.me b ≡ t → unclear_answers (if is_refused (judged_by (edition_of s) v.me s.agreements h b).verdict then [] else answers_as_read (edition_of s) (answers_in b)) ≡ (if x12.refuses (edition_of s) v.me b then 0 else x12.unclear b)
      by true is = rw (sym (refused_is (edition_of s) v.me s.agreements b h known) ∙ is, is) no_unclear
      by false is = rw (sym (refused_is (edition_of s) v.me s.agreements b h known) ∙ is, is) unclear_read

  at_most : (n : ℕ) → n ≤ 2 ^ 64 - 1 → min (n + 0) (2 ^ 64 - 1) ≡ n
  at_most n le = omega (arith, le)

  counts_by : ℕ → ℕ → ℕ → ℕ → ℕ → Counts
  counts_by a r u c n = record { settled = a; repeated = r; unmatched = u; conflicting = c; unclear = n }

  nothing_more : AreCounts counts → counts.unclear ≤ 2 ^ 64 - 1 → counts_of_both counts (with_pieces (only_unclear 0) []) ≡ counts
  unfolding with_pieces counts_of_both only_unclear counts_by
  nothing_more are few_unclear =
      ap₂ (λ (x y : ℕ). counts_by x y (min (counts.unmatched + 0) (2 ^ 64 - 1)) (min (counts.conflicting + 0) (2 ^ 64 - 1)) (min (counts.unclear + 0) (2 ^ 64 - 1))) (at_most counts.settled are.settled) (at_most counts.repeated are.repeated)
      ∙ ap₂ (λ (x y : ℕ). counts_by counts.settled counts.repeated x y (min (counts.unclear + 0) (2 ^ 64 - 1))) (at_most counts.unmatched are.unmatched) (at_most counts.conflicting are.conflicting)
      ∙ ap (counts_by counts.settled counts.repeated counts.unmatched counts.conflicting) (at_most counts.unclear few_unclear)

  no_findings : findings (own_fates x12 v.me v.hubs items) [] ≡ []
  unfolding findings
  no_findings = refl

  -- what is counted
  pub counts_are : AreCounts counts → counts.unclear ≤ 2 ^ 64 - 1 → counts_of_both counts (with_pieces (only_unclear p.unclear) (findings_in p.pieces)) ≡ count_arrival x12 (edition_of s) v.me v.hubs items b counts
  counts_are are few_unclear = ap₂ (λ u fs. counts_of_both counts (with_pieces (only_unclear u) fs)) unclear_is findings_brought ∙ by (x12.refuses (edition_of s) v.me b) refl
    where
      by : (t : Bool) → x12.refuses (edition_of s) v.me b ≡ t
          → counts_of_both counts (with_pieces (only_unclear (if x12.refuses (edition_of s) v.me b then 0 else x12.unclear b)) (findings (own_fates x12 v.me v.hubs items) (brought (edition_of s) v.me v.hubs items b))) ≡ count_arrival x12 (edition_of s) v.me v.hubs items b counts
      by true is = rw is (ap (λ fs. counts_of_both counts (with_pieces (only_unclear 0) fs)) no_findings ∙ nothing_more are few_unclear)
      by false is = rw is refl

  no_pieces : with_pieces (only_unclear 0) [] ≡ only_unclear 0
  unfolding with_pieces
  no_pieces = refl

  -- and what is told of it
  pub told_are : with_pieces (only_unclear p.unclear) (findings_in p.pieces) ≡ (if x12.refuses (edition_of s) v.me b then only_unclear 0 else arrival_counts x12 (edition_of s) v.me v.hubs items b)
  told_are = ap₂ (λ u fs. with_pieces (only_unclear u) fs) unclear_is findings_brought ∙ by (x12.refuses (edition_of s) v.me b) refl
    where
      by : (t : Bool) → x12.refuses (edition_of s) v.me b ≡ t
          → with_pieces (only_unclear (if x12.refuses (edition_of s) v.me b then 0 else x12.unclear b)) (findings (own_fates x12 v.me v.hubs items) (brought (edition_of s) v.me v.hubs items b)) ≡ (if x12.refuses (edition_of s) v.me b then only_unclear 0 else arrival_counts x12 (edition_of s) v.me v.hubs items b)
      by true is = rw is (ap (λ fs. with_pieces (only_unclear 0) fs) no_findings ∙ no_pieces)
      by false is = rw is refl

  -- The commit, with the reply that is due under the next numbers.
  module _ (book : Numbers) (book_is : book ≡ book_for s.book (needs_of (edition_of s) v.me s.agreements b h)) (within : IsTrue (is_within book)) (at : Moment) (r : Option Bytes)
      (r_is : r ≡ due_reply h (judged_by (edition_of s) v.me s.agreements h b) v.me at book.interchange book.group) (laws : Laws x12) (posts : PostsWhatIsAccepted) (plain : IsTrue (x12.is_plain v.me))
      (few : s.seq + 1 ≤ 2 ^ 63 - 1) (new : filed_in s h.sender h.icn ≡ None) where
    abbrev pub kept : Filing
    kept = filing_of (arrival h.sender h.icn b) (judged_by (edition_of s) v.me s.agreements h b) r

    -- the records once the plan is committed
    abbrev pub after : Stored
    after = stored_after (record { book = book; seq = s.seq + 1; change = Files kept (targets_of p.pieces) }) s

    after_is : after ≡ filed_with v.me v.hubs s d kept book
    after_is = ap (λ ts. stored_after (record { book = book; seq = s.seq + 1; change = Files kept ts }) s) targets_brought

    pub durable_after : ArePostingsOf kept.filed kept.postings → IsHistoryOf v.me v.hubs after
    durable_after theirs = subst (IsHistoryOf v.me v.hubs) (sym after_is)
        (durable_filed v.me v.hubs s d kept book (book_later (edition_of s) v.me s.agreements b h known s.book book book_is at r r_is) few theirs new
        (filing_rightly (edition_of s) v.me s.agreements b h known s.book book book_is at r r_is) (filing_answered (edition_of s) v.me s.agreements b h known s.book book book_is at r r_is)
        (filing_posts (edition_of s) v.me s.agreements b h known s.book book book_is at r r_is laws posts plain within))

    -- they hold the station that the definition has then
    pub holds_after : HoldsState (filed_now x12 (station_of v counts s) b r book) after
    holds_after = record { marks = refl; items = ap items_of after_is ∙ items_then v.me v.hubs s d kept book; agreements = refl; book = refl }

    -- the ledger once it settled
    module _ (w : OutboundLedger) (held : HoldsWhatIsOpen v w (settled_fates (fates v) (evidence_in p.pieces))) (none_out : NoneIsOut w) where
      abbrev holds : HoldsWhatIsOpen v w (settled_fates (fates v) (brought (edition_of s) v.me v.hubs items b))
      holds = subst (λ es. HoldsWhatIsOpen v w (settled_fates (fates v) es)) evidence_brought held

      pub open_after : map (λ r. r.interchange) w.rows ≡ open_entries after
      open_after = left_open v w s d near_are b r holds none_out ∙ sym (ap open_entries after_is ∙ ap (filter row_is_open) (entries_filed_are v.me v.hubs s d kept book))

      pub state_after : (more : Counts) → more ≡ count_arrival x12 (edition_of s) v.me v.hubs items b counts → station_of w more after ≡ filed_now x12 (station_of v counts s) b r book
      state_after more more_is =
          ap (station_of w more) after_is
          ∙ ap₂ (λ (m : Party) (hs : List Party). station_by m hs (items_of (filed_with v.me v.hubs s d kept book)) w.tick (map sending_of w.rows) more) held.me held.hubs
          ∙ ap₂ (λ (is : List Item) (t : ℕ). station_by v.me v.hubs is t (map sending_of w.rows) more) (items_then v.me v.hubs s d kept book) held.tick
          ∙ ap₂ (station_by v.me v.hubs (items_now v.me v.hubs s d b r) v.tick) (sends_still v w s d near_are b r holds none_out counts) more_is
        where
          station_by : Party → List Party → List Item → ℕ → List Sending → Counts → Station
          station_by m hs is t q c = record { me = m; hubs = hs; marks = marks_of s.origin; items = is; agreements = s.agreements; book = book; tick = t; sendings = q; counts = c }
