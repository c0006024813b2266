-- Records of a station stay so: after numbers that were used, after an agreement, after a submission.
use Rattle.std.specs.Prelude.{◌≡◌, ◌≢◌, ℕ, ◌+◌, ◌-◌, ◌^◌, ◌<◌, ◌≤◌, List, [], ◌∷◌, ◌++◌, length, false, map, flat_map, All, Contains, IsTrue, refl}
use Rattle.std.specs.List.{AllByRecursion}
use mathlib.Core.Path.{sym, ap, subst, ◌∙◌}
use native.Mathlib.Omega.{arith}
use mathlib.Core.Logic.{∥∥₁_map}
use Rattle.std.proofs.lemmas.Grind.{flat_map-append}
use Rattle.std.proofs.lemmas.List.{append-nil, length-map, map-append}
use Rattle.std.proofs.lemmas.List.Elements.{All-contains, All-from_recursion, All-map, All-push, All-weaker}
use Rattle.std.proofs.lemmas.List.Quantifiers.{all_pairs_push}
use Rattle.x12_numbers.specs.Book.{Numbers, Uses, is_rising, latest_number}
use Rattle.x12_numbers.proofs.RisingLemmas.{each_above, new_parts, rising_parts}
use Rattle.x12_envelopes.specs.declared.party.Party.{Party}
use Rattle.x12_judge.specs.Agreement.{TradingAgreement}
use Rattle.x12_acks.specs.Submission.{IsBefore, Submission, SubmittedGroup}
use Rattle.x12_outbound.specs.Entry.{InterchangeRow, GroupRow, SetRow, IsSendable, pending_entry, pending_group, pending_set, submission_of_entry, submitted_group_of_row}
use Rattle.x12_outbound.specs.Ledger.{AreInOrder}
use Rattle.x12_profile.specs.Interchange.{Bytes}
use Rattle.x12_profile.specs.X12.{x12, submission_in_bytes}
use Rattle.x12_profile.specs.Edition.{Marks}
use Rattle.x12_station.specs.Durable.{IsHistoryOf, IsAnsweredRightly, IsOwnSubmission, fared_entry, fared_entries, items_of}
use Rattle.x12_station.specs.History.{Item, Submitted, submissions, posted_by, postings}
use Rattle.x12_station.specs.Plan.{Submits, Agrees, TakesNumbers, stored_after}
use Rattle.x12_station.specs.Record.{IsWholeEntry}
use Rattle.x12_station.specs.Stored.{Stored, StoredArrival, HasSets, IsNumberedBy, IsSound, entries, marks_of}
use Rattle.x12_station.proofs.AgreedLemmas.{agreed_kept, agreed_once}
use Rattle.x12_station.proofs.EntryLemmas.{entries_submitted, rows_submitted}
use Rattle.x12_station.proofs.ItemLemmas.{items_submitted, submissions-append}
use Rattle.x12_station.proofs.ListLemmas.{flat_map_contains}
use Rattle.x12_numbers.proofs.Shelf.{contains_head, contains_mapped, latest_above, all_from_map}
use Rattle.x12_station.proofs.NumberedLemmas.{numbered_submitted}
use Rattle.x12_station.proofs.OwnLemmas.{icn_read, read_of, submission_is, submission_read}
use Rattle.x12_station.proofs.PendingLemmas.{bytes_submitted, fared_submitted}
use Rattle.x12_outbound.proofs.Shelf.{entry_back}

-- Numbers that were used.

-- a book of later numbers
pub record IsLater (old new : Numbers) : Type 0 where
  pub interchange : old.interchange ≤ new.interchange
  pub group : old.group ≤ new.group

pub used_later : (old new : Numbers) → IsLater old new → (es : List InterchangeRow) → All (IsNumberedBy old) es → All (IsNumberedBy new) es
used_later old new later es used = All-weaker (IsNumberedBy old) (IsNumberedBy new) (λ e was. record {
  interchange = let a = was.interchange in let b = later.interchange in omega arith;
  groups = λ k d within. let a = was.groups k d within in let b = later.group in omega arith;
}) es used

-- what was answered was so under later numbers too
pub answered_later : (marks : Marks) (me : Party) (old new : Numbers) → IsLater old new → (rs : List StoredArrival) → All (IsAnsweredRightly marks me old) rs → All (IsAnsweredRightly marks me new) rs
answered_later marks me old new later rs answered = All-weaker (IsAnsweredRightly marks me old) (IsAnsweredRightly marks me new) (λ r it. ∥∥₁_map it (λ was. record {
  agreements = was.agreements;
  at = was.at;
  numbers = was.numbers;
  interchange = let a = was.interchange in let b = later.interchange in omega arith;
  group = let a = was.group in let b = later.group in omega arith;
  reply = was.reply;
})) rs answered

module _ (s : Stored) (book : Numbers) (later : IsLater s.book book) where
  -- used numbers leave all else
  pub sound_numbered : IsSound s → IsSound (stored_after (record { book = book; seq = s.seq; change = TakesNumbers }) s)
  unfolding entries
  sound_numbered sound = record {
    numbered = record { each = sound.numbered.each; submitted = sound.numbered.submitted; arrived = sound.numbered.arrived };
    few = sound.few;
    rows = sound.rows;
    whole = sound.whole;
    in_order = sound.in_order;
    used = used_later s.book book later (entries s) sound.used;
    filed_once = sound.filed_once;
    posted_once = sound.posted_once;
    of_filed = sound.of_filed;
    handed = sound.handed;
    agreed_once = sound.agreed_once;
    agreed = sound.agreed;
  }

  pub durable_numbered : (me : Party) (hubs : List Party) → IsHistoryOf me hubs s → IsHistoryOf me hubs (stored_after (record { book = book; seq = s.seq; change = TakesNumbers }) s)
  unfolding entries items_of
  durable_numbered me hubs was = record {
    sound = sound_numbered was.sound;
    origin = was.origin;
    fates = was.fates;
    own = was.own;
    filed = was.filed;
    answered = answered_later (marks_of s.origin) me s.book book later s.arrived was.answered;
    posted = was.posted;
  }

  -- an agreement takes the place of its partner's
  pub sound_agreed : (a : TradingAgreement) → IsSound s → IsSound (stored_after (record { book = book; seq = s.seq; change = Agrees a }) s)
  unfolding entries
  sound_agreed a sound = record {
    numbered = record { each = sound.numbered.each; submitted = sound.numbered.submitted; arrived = sound.numbered.arrived };
    few = sound.few;
    rows = sound.rows;
    whole = sound.whole;
    in_order = sound.in_order;
    used = used_later s.book book later (entries s) sound.used;
    filed_once = sound.filed_once;
    posted_once = sound.posted_once;
    of_filed = sound.of_filed;
    handed = sound.handed;
    agreed_once = agreed_once a s.agreements sound.agreed_once;
    agreed = agreed_kept a s.agreements sound.agreed;
  }

  pub durable_agreed : (me : Party) (hubs : List Party) (a : TradingAgreement) → IsHistoryOf me hubs s → IsHistoryOf me hubs (stored_after (record { book = book; seq = s.seq; change = Agrees a }) s)
  unfolding entries items_of
  durable_agreed me hubs a was = record {
    sound = sound_agreed a was.sound;
    origin = was.origin;
    fates = was.fates;
    own = was.own;
    filed = was.filed;
    answered = answered_later (marks_of s.origin) me s.book book later s.arrived was.answered;
    posted = was.posted;
  }

-- A submission under new numbers.

-- bytes that this party may submit, whose numbers were new to the old book
pub record IsNewSubmission (me : Party) (old new : Numbers) (x : Bytes) (y : Submission) : Type 0 where
  pub own : IsOwnSubmission me x
  pub read : submission_in_bytes x ≡ y ∷ []
  pub number : x12.number x ≡ y.icn
  pub sendable : IsSendable y
  pub filled : All (λ g. 0 < length g.sets) y.groups
  pub uses : Uses old new (y.icn ∷ []) (map (λ g. g.number) y.groups)

pub all_to_latest : (last : ℕ) (ns : List ℕ) → IsTrue (is_rising last ns) → AllByRecursion (λ n. n ≤ latest_number last ns) ns
all_to_latest last [] rising = tt
all_to_latest last (n ∷ ns) rising =
    let parts = rising_parts last n ns rising in
    (latest_above n ns parts.rest, all_to_latest n ns parts.rest)

module _ (me : Party) (old new : Numbers) (x : Bytes) (y : Submission) (may : IsNewSubmission me old new x y) where
  abbrev numbers : List ℕ
  numbers = map (λ (g : SubmittedGroup). g.number) y.groups

  pub icn_above : old.interchange < y.icn
  icn_above = (rising_parts old.interchange y.icn [] (new_parts may.uses).0).above

  pub groups_above : All (λ g. old.group < g.number) y.groups
  groups_above = all_from_map (λ (g : SubmittedGroup). g.number) (λ n. old.group < n) y.groups (All-from_recursion (λ n. old.group < n) numbers (each_above old.group old.group numbers (omega arith) (new_parts may.uses).1))

  pub is_later : IsLater old new
  is_later = record {
    interchange = let above = icn_above in subst (λ (b : Numbers). old.interchange ≤ b.interchange) (sym may.uses.book) (omega arith);
    group = subst (λ (b : Numbers). old.group ≤ b.group) (sym may.uses.book) (latest_above old.group numbers (new_parts may.uses).1);
  }

  pub is_numbered : IsNumberedBy new (pending_entry y)
  unfolding pending_entry
  is_numbered = subst (λ (b : Numbers). IsNumberedBy b (pending_entry y)) (sym may.uses.book) (record {
    interchange = omega arith;
    groups = All-map (λ (g : GroupRow). g.number ≤ latest_number old.group numbers) pending_group y.groups
        (all_from_map (λ (g : SubmittedGroup). g.number) (λ n. n ≤ latest_number old.group numbers) y.groups
        (All-from_recursion (λ n. n ≤ latest_number old.group numbers) numbers (all_to_latest old.group numbers (new_parts may.uses).1)));
  })

  pub is_whole : IsWholeEntry (pending_entry y)
  unfolding pending_entry
  is_whole = record {
    laid = All-map (λ (g : GroupRow). All (λ t. t.is_out ≡ false) g.sets) pending_group y.groups
        (All-weaker (λ g. 0 < length g.sets) (λ g. All (λ t. t.is_out ≡ false) (pending_group g).sets) (λ g some. All-map (λ (t : SetRow). t.is_out ≡ false) pending_set g.sets (λ m e at. refl)) y.groups may.filled);
    sets = All-map (λ (g : GroupRow). 0 < length g.sets) pending_group y.groups
        (All-weaker (λ g. 0 < length g.sets) (λ g. 0 < length (pending_group g).sets) (λ g some. let same = length-map g.sets pending_set in omega arith) y.groups may.filled);
  }

  -- before it stand those of older numbers
  pub is_after : (party : Party) (es : List InterchangeRow) → All (IsNumberedBy old) es → All (λ e. IsBefore e (submission_of_entry party (pending_entry y))) (map (submission_of_entry party) es)
  is_after party es used =
      subst (λ z. All (λ e. IsBefore e z) (map (submission_of_entry party) es)) (sym (entry_back party y))
      (All-map (λ e. IsBefore e (record y { sender = party })) (submission_of_entry party) es
      (All-weaker (IsNumberedBy old) (λ e. IsBefore (submission_of_entry party e) (record y { sender = party })) (λ e was. record {
        interchange = let a = was.interchange in let b = icn_above in omega arith;
        groups = All-map (λ (g : SubmittedGroup). All (λ h. g.number < h.number) y.groups) submitted_group_of_row e.groups
            (λ k d within. λ m f at. let a = was.groups k d within in let b = groups_above m f at in omega arith);
      }) es used))

  pub is_sendable : (party : Party) → IsSendable (submission_of_entry party (pending_entry y))
  is_sendable party = subst IsSendable (sym (entry_back party y)) (record {
    has_group = may.sendable.has_group;
    groups_rise = may.sendable.groups_rise;
    few_groups = may.sendable.few_groups;
    few_sets = may.sendable.few_sets;
  })

-- the number of what was submitted was used
fared_icn : (me : Party) (hubs : List Party) (items : List Item) (y : Submission) → (fared_entry me hubs items y).icn ≡ y.icn
unfolding fared_entry
fared_icn me hubs items y = refl

pub number_used : (me : Party) (hubs : List Party) (s : Stored) → IsHistoryOf me hubs s → (z : Bytes) → Contains (submissions (items_of s)) z → x12.number z ≤ s.book.interchange
unfolding fared_entries
number_used me hubs s was z at =
    let read = read_of z (All-contains (IsOwnSubmission me) (submissions (items_of s)) z was.own at).submission in
    let y = submission_read z read in
    let among : Contains (flat_map submission_in_bytes (submissions (items_of s))) y =
    flat_map_contains submission_in_bytes (submissions (items_of s)) z y at (subst (λ l. Contains l y) (sym (submission_is z read)) (contains_head y [])) in
    let entry : Contains (entries s) (fared_entry me hubs (items_of s) y) =
    subst (λ l. Contains l (fared_entry me hubs (items_of s) y)) (sym was.fates) (contains_mapped (fared_entry me hubs (items_of s)) (flat_map submission_in_bytes (submissions (items_of s))) y among) in
    let used = (All-contains (IsNumberedBy s.book) (entries s) (fared_entry me hubs (items_of s) y) was.sound.used entry).interchange in
    let same = fared_icn me hubs (items_of s) y in
    let number = icn_read z read in
    omega arith

-- Records after a submission.

module _ (me : Party) (hubs : List Party) (s : Stored) (was : IsHistoryOf me hubs s) (new : Numbers) (x : Bytes) (y : Submission) (may : IsNewSubmission me s.book new x y) (room : s.seq + 1 ≤ 2 ^ 63 - 1) where
  abbrev pub after_submission : Stored
  after_submission = stored_after (record { book = new; seq = s.seq + 1; change = Submits (pending_entry y) }) s

  pending_icn : (pending_entry y).icn ≡ y.icn
  unfolding pending_entry
  pending_icn = refl

  pending_bytes : (pending_entry y).bytes ≡ x
  unfolding pending_entry
  pending_bytes = bytes_submitted x y (subst (λ l. Contains l y) (sym may.read) (contains_head y []))

  below : All (λ e. e.icn < (pending_entry y).icn) (entries s)
  below = All-weaker (IsNumberedBy s.book) (λ e. e.icn < (pending_entry y).icn) (λ e used.
      let a = used.interchange in let b = icn_above me s.book new x y may in let c = pending_icn in omega arith) (entries s) was.sound.used

  pub entries_more : entries after_submission ≡ entries s ++ pending_entry y ∷ []
  entries_more = entries_submitted new (s.seq + 1) (pending_entry y) s (is_whole me s.book new x y may) below was.sound.rows

  pub items_more : items_of after_submission ≡ items_of s ++ Submitted x ∷ []
  items_more = items_submitted s was.sound.numbered new (pending_entry y) ∙ ap (λ b. items_of s ++ Submitted b ∷ []) pending_bytes

  order_more : (party : Party) → AreInOrder (map (submission_of_entry party) (entries s ++ pending_entry y ∷ []))
  order_more party =
      let sent = map (submission_of_entry party) (entries s) in
      let last = submission_of_entry party (pending_entry y) in
      subst AreInOrder (sym (map-append (submission_of_entry party) (entries s) (pending_entry y ∷ []))) (record {
        sendable = All-push IsSendable sent last (was.sound.in_order party).sendable (is_sendable me s.book new x y may party);
        before = all_pairs_push IsBefore sent last (was.sound.in_order party).before (is_after me s.book new x y may party (entries s) was.sound.used);
      })

  pub sound_submitted : IsSound after_submission
  sound_submitted = record {
    numbered = numbered_submitted s was.sound.numbered new (pending_entry y);
    few = room;
    rows = rows_submitted new (s.seq + 1) (pending_entry y) s (is_whole me s.book new x y may) below was.sound.rows;
    whole = subst (All HasSets) (sym entries_more) (All-push HasSets (entries s) (pending_entry y) was.sound.whole (is_whole me s.book new x y may).sets);
    in_order = λ party. subst (λ es. AreInOrder (map (submission_of_entry party) es)) (sym entries_more) (order_more party);
    used = subst (All (IsNumberedBy new)) (sym entries_more)
        (All-push (IsNumberedBy new) (entries s) (pending_entry y) (used_later s.book new (is_later me s.book new x y may) (entries s) was.sound.used) (is_numbered me s.book new x y may));
    filed_once = was.sound.filed_once;
    posted_once = was.sound.posted_once;
    of_filed = was.sound.of_filed;
    handed = was.sound.handed;
    agreed_once = was.sound.agreed_once;
    agreed = was.sound.agreed;
  }

  other_bytes : (z : Bytes) → Contains (submissions (items_of s)) z → z ≢ x
  other_bytes z at same =
      let used = number_used me hubs s was z at in
      let above = icn_above me s.book new x y may in
      let equal = ap (λ b. x12.number b) same in
      let number = may.number in
      absurd (omega arith)

  pub durable_submitted : IsHistoryOf me hubs after_submission
  durable_submitted = record {
    sound = sound_submitted;
    origin = was.origin;
    fates = entries_more ∙ ap (λ es. es ++ pending_entry y ∷ []) was.fates
        ∙ sym (ap (fared_entries me hubs) items_more ∙ fared_submitted me hubs (items_of s) x y may.read other_bytes);
    own = subst (λ items. All (IsOwnSubmission me) (submissions items)) (sym items_more)
        (subst (All (IsOwnSubmission me)) (sym (submissions-append (items_of s) (Submitted x ∷ []))) (All-push (IsOwnSubmission me) (submissions (items_of s)) x was.own may.own));
    filed = was.filed;
    answered = answered_later (marks_of s.origin) me s.book new (is_later me s.book new x y may) s.arrived was.answered;
    posted = was.posted ∙ sym (ap (postings x12) items_more ∙ flat_map-append (posted_by x12) (items_of s) (Submitted x ∷ []) ∙ append-nil (postings x12 (items_of s)));
  }
