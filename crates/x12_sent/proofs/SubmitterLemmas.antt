-- Lemmas on entering what was sent into a ledger.
use Rattle.std.proofs.Common.{◌≡◌, ℕ, ◌<◌, ◌≤◌, ◌==◌, false, List, [], ◌∷◌, ◌++◌, map, All, Option, Some, None, IfSome, IsTrue, option_map, option_and_then, find, refl, sym, ap, ◌∙◌, arith, inl, inr}
use Rattle.std.proofs.lemmas.Bool.{cases_Bool, and_parts}
use Rattle.std.proofs.lemmas.List.Elements.{All-nil, All-cons, All-push, All-weaker}
use Rattle.std.specs.List.{AllByRecursion}
use Rattle.x12_numbers.specs.Book.{Numbers, Uses, is_rising, latest_number}
use Rattle.x12_numbers.proofs.RisingLemmas.{rising_parts}
use Rattle.x12_envelopes.specs.declared.header.Header.{Header}
use Rattle.x12_envelopes.specs.declared.party.Party.{Party}
use Rattle.x12_envelopes.specs.Shape.{FunctionalGroup, Interchange}
use Rattle.x12_judge.specs.Agreement.{is_same_party}
use Rattle.x12_acks.specs.Submission.{Submission, SubmittedGroup, SubmittedSet, IsBefore, submission_of, submitted_group as sent_group}
use Rattle.x12_outbound.specs.Entry.{SetRow, GroupRow, InterchangeRow, submission_of_entry, pending_set, pending_group, pending_entry, set_row_at, at_place, IsSendable}
use Rattle.x12_outbound.specs.Schedule.{unsent_schedule}
use Rattle.x12_outbound.specs.Ledger.{OutboundLedger, LedgerRow, ledger_submissions, submitted_by, row_in, interchange_in, with_interchange, empty_ledger, MayBeAdded, NoneIsOut}
use Rattle.x12_outbound.specs.Submitting.{numbers_of_groups}
use Rattle.x12_sent.specs.Submitter.{IsWithin, NoneIsOutIn}
use Rattle.x12_numbers.proofs.Shelf.{all_and_one, found_holds, latest_above, then_holds}
use Rattle.x12_outbound.proofs.Shelf.{entry_back, place_holds}

-- groups whose numbers rise above these
above : (low last : ℕ) (gs : List SubmittedGroup) → low ≤ last → IsTrue (is_rising last (map (λ g. g.number) gs)) → All (λ (h : SubmittedGroup). low < h.number) gs
above low last [] at rising = All-nil (λ (h : SubmittedGroup). low < h.number)
above low last (g ∷ gs) at rising =
    let parts = rising_parts last g.number (map (λ g. g.number) gs) rising in
    All-cons (λ (h : SubmittedGroup). low < h.number) g gs (omega (arith, parts.above)) (above low g.number gs (omega (arith, parts.above)) parts.rest)

none_above : (last : ℕ) (gs : List SubmittedGroup) → IsTrue (is_rising last (map (λ g. g.number) gs)) → All (λ (g : SubmittedGroup). g.number ≤ latest_number last (map (λ g. g.number) gs)) gs
none_above last [] rising = All-nil (λ (g : SubmittedGroup). g.number ≤ last)
none_above last (g ∷ gs) rising =
    let parts = rising_parts last g.number (map (λ g. g.number) gs) rising in
    All-cons (λ (h : SubmittedGroup). h.number ≤ latest_number g.number (map (λ g. g.number) gs)) g gs (latest_above g.number (map (λ g. g.number) gs) parts.rest) (none_above g.number gs parts.rest)

-- the numbers of groups, and how many sets they have
numbers_same : (gs : List FunctionalGroup) → map (λ (g : SubmittedGroup). g.number) (map sent_group gs) ≡ map (λ (g : FunctionalGroup). g.number) gs
numbers_same [] = refl
numbers_same (g ∷ gs) = rw (numbers_same gs) refl

-- numbers that are new, in parts
record AreNew (book : Numbers) (h : Header) (o : Interchange) : Type 0 where
  pub interchange : book.interchange < h.icn
  pub groups : IsTrue (is_rising book.group (map (λ (g : SubmittedGroup). g.number) (map sent_group o.groups)))

new_parts : (book next : Numbers) (h : Header) (o : Interchange) → Uses book next (h.icn ∷ []) (numbers_of_groups o) → AreNew book h o
new_parts book next h o uses =
    let parts = and_parts (is_rising book.interchange (h.icn ∷ [])) (is_rising book.group (map (λ (g : FunctionalGroup). g.number) o.groups)) uses.numbers in
    record {
      interchange = (rising_parts book.interchange h.icn [] parts.0).above;
      groups = rw (numbers_same o.groups) parts.1;
    }

-- it is behind all that the ledger holds
behind : (book : Numbers) (v : OutboundLedger) (h : Header) (bytes : List ℕ) (o : Interchange) → AreNew book h o → IsWithin book v →
    All (λ s. IsBefore s (record (submission_of h bytes o) { sender = v.me })) (ledger_submissions v)
unfolding submission_of
behind book v h bytes o new within = λ k d inside. record {
  interchange = omega (arith, within.interchanges k d inside, new.interchange);
  groups = λ i e in_it. above _ book.group (map sent_group o.groups) (within.groups k d inside i e in_it) new.groups;
}

pub next_submitted : (book next : Numbers) (v : OutboundLedger) (h : Header) (bytes : List ℕ) (o : Interchange) → Uses book next (h.icn ∷ []) (numbers_of_groups o) → IsSendable (submission_of h bytes o) →
    IsWithin book v → MayBeAdded v (pending_entry (submission_of h bytes o))
next_submitted book next v h bytes o uses may within = record {
  sendable = rw (entry_back v.me (submission_of h bytes o)) (record {
    has_group = may.has_group;
    groups_rise = may.groups_rise;
    few_groups = may.few_groups;
    few_sets = may.few_sets;
  });
  after = rw (entry_back v.me (submission_of h bytes o)) (behind book v h bytes o (new_parts book next h o uses) within);
}

-- the ledger then
sets_in : (sets : List SubmittedSet) → AllByRecursion (λ (s : SetRow). s.is_out ≡ false) (map pending_set sets)
sets_in [] = tt
sets_in (s ∷ sets) = (refl, sets_in sets)

groups_in : (gs : List SubmittedGroup) → AllByRecursion (λ (g : GroupRow). AllByRecursion (λ (s : SetRow). s.is_out ≡ false) g.sets) (map pending_group gs)
groups_in [] = tt
groups_in (g ∷ gs) = (sets_in g.sets, groups_in gs)

entry_in : (s : Submission) → NoneIsOutIn (record { interchange = pending_entry s; schedule = unsent_schedule })
unfolding pending_entry
entry_in s = groups_in s.groups

rows_on : (e : InterchangeRow) (v new : OutboundLedger) → new ≡ with_interchange e unsent_schedule v → new.rows ≡ v.rows ++ record { interchange = e; schedule = unsent_schedule } ∷ []
unfolding with_interchange
rows_on e v new is = ap (λ (w : OutboundLedger). w.rows) is

me_on : (e : InterchangeRow) (v new : OutboundLedger) → new ≡ with_interchange e unsent_schedule v → new.me ≡ v.me
unfolding with_interchange
me_on e v new is = ap (λ (w : OutboundLedger). w.me) is

sent_on : (me : Party) (rows : List LedgerRow) (r : LedgerRow) → submitted_by me (rows ++ r ∷ []) ≡ submitted_by me rows ++ submission_of_entry me r.interchange ∷ []
unfolding submitted_by
sent_on me [] r = refl
sent_on me (q ∷ rows) r = rw (sent_on me rows r) refl

submissions_on : (s : Submission) (v new : OutboundLedger) → new ≡ with_interchange (pending_entry s) unsent_schedule v →
    ledger_submissions new ≡ ledger_submissions v ++ record s { sender = v.me } ∷ []
submissions_on s v new is =
    rw (me_on (pending_entry s) v new is, rows_on (pending_entry s) v new is)
    (sent_on v.me v.rows (record { interchange = pending_entry s; schedule = unsent_schedule }) ∙ ap (λ x. ledger_submissions v ++ x ∷ []) (entry_back v.me s))

pub within_after : (book next : Numbers) (v new : OutboundLedger) (h : Header) (bytes : List ℕ) (o : Interchange) → Uses book next (h.icn ∷ []) (numbers_of_groups o) → IsWithin book v →
    new ≡ with_interchange (pending_entry (submission_of h bytes o)) unsent_schedule v → IsWithin next new
unfolding submission_of
within_after book next v new h bytes o uses within is =
    let fresh = new_parts book next h o uses in
    let s = record (submission_of h bytes o) { sender = v.me } in
    let all : ledger_submissions new ≡ ledger_submissions v ++ s ∷ [] = submissions_on (submission_of h bytes o) v new is in
    let icn : next.interchange ≡ h.icn = ap (λ (b : Numbers). b.interchange) uses.book in
    let latest : next.group ≡ latest_number book.group (map (λ (g : SubmittedGroup). g.number) (map sent_group o.groups)) =
    ap (λ (b : Numbers). b.group) uses.book ∙ ap (latest_number book.group) (sym (numbers_same o.groups)) in
    let risen : book.group ≤ next.group = rw latest (latest_above book.group (map (λ (g : SubmittedGroup). g.number) (map sent_group o.groups)) fresh.groups) in
    record {
      interchanges = rw all (All-push (λ (e : Submission). e.icn ≤ next.interchange) (ledger_submissions v) s
          (All-weaker (λ (e : Submission). e.icn ≤ book.interchange) (λ (e : Submission). e.icn ≤ next.interchange) (λ e le. omega (arith, le, icn, fresh.interchange)) (ledger_submissions v) within.interchanges)
          (omega (arith, icn)));
      groups = rw all (All-push (λ (e : Submission). All (λ (g : SubmittedGroup). g.number ≤ next.group) e.groups) (ledger_submissions v) s
          (All-weaker (λ (e : Submission). All (λ (g : SubmittedGroup). g.number ≤ book.group) e.groups) (λ (e : Submission). All (λ (g : SubmittedGroup). g.number ≤ next.group) e.groups)
          (λ e le. All-weaker (λ (g : SubmittedGroup). g.number ≤ book.group) (λ (g : SubmittedGroup). g.number ≤ next.group) (λ g under. omega (arith, under, risen)) e.groups le) (ledger_submissions v) within.groups)
          (rw latest (none_above book.group (map sent_group o.groups) fresh.groups)));
      none_out = rw (rows_on (pending_entry (submission_of h bytes o)) v new is) (all_and_one NoneIsOutIn v.rows (record { interchange = pending_entry (submission_of h bytes o); schedule = unsent_schedule }) within.none_out (entry_in (submission_of h bytes o)));
    }

pub me_submitted : (me : Party) (v new : OutboundLedger) (e : InterchangeRow) → v.me ≡ me → new ≡ with_interchange e unsent_schedule v → new.me ≡ me
me_submitted me v new e mine is = me_on e v new is ∙ mine

pub within_nothing : (book : Numbers) (me : Party) (hubs : List Party) (v : OutboundLedger) → v ≡ empty_ledger me hubs → IsWithin book v
unfolding empty_ledger submitted_by
within_nothing book me hubs v is = record {
  interchanges = rw is (All-nil (λ (e : Submission). e.icn ≤ book.interchange));
  groups = rw is (All-nil (λ (e : Submission). All (λ (g : SubmittedGroup). g.number ≤ book.group) e.groups));
  none_out = rw is tt;
}

none_is_out_in : (v : OutboundLedger) → AllByRecursion NoneIsOutIn v.rows → NoneIsOut v
unfolding row_in interchange_in set_row_at
none_is_out_in v inside key = elim (cases_Bool (is_same_party key.sender v.me)) [
  | inl mine ↦ rw mine (go (find (λ (r : LedgerRow). r.interchange.icn == key.icn) v.rows) (λ r found. found_holds NoneIsOutIn (λ (r : LedgerRow). r.interchange.icn == key.icn) v.rows r inside found))
  | inr other ↦ rw other tt
]
  where
    go : (o : Option LedgerRow) → ((r : LedgerRow) → o ≡ Some r → NoneIsOutIn r)
        → IfSome (option_and_then (set_row_at key.group key.set) (option_map (λ (r : LedgerRow). r.interchange) o)) (λ s. s.is_out ≡ false)
    go None holds = tt
    go (Some r) holds =
        then_holds (λ (g : GroupRow). AllByRecursion (λ (s : SetRow). s.is_out ≡ false) g.sets) (λ (s : SetRow). s.is_out ≡ false) (λ (g : GroupRow). at_place key.set g.sets) (at_place key.group r.interchange.groups)
        (λ g sets. place_holds (λ (s : SetRow). s.is_out ≡ false) g.sets sets key.set) (place_holds (λ (g : GroupRow). AllByRecursion (λ (s : SetRow). s.is_out ≡ false) g.sets) r.interchange.groups (holds r refl) key.group)

pub none_is_out : (book : Numbers) (v : OutboundLedger) → IsWithin book v → NoneIsOut v
none_is_out book v within = none_is_out_in v within.none_out
