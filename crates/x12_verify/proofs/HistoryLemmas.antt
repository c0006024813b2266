-- Records whose items are right, which stand as in records that a station wrote when it was told the same, are what their own station wrote.
use Rattle.std.specs.Prelude.{◌≡◌, ◌<◌, ℕ, List, [], ◌∷◌, ◌++◌, true, map, All, Contains}
use mathlib.Core.Logic.{inl, inr}
use mathlib.Core.Path.{sym, ap, ap₂, subst, ◌∙◌}
use native.Mathlib.Omega.{arith}
use Rattle.std.proofs.lemmas.List.{append-nil}
use Rattle.std.proofs.lemmas.List.Elements.{All-contains}
use Rattle.x12_acks.specs.Accepted.{AcceptedSet}
use Rattle.x12_acks.proofs.FindLemmas.{clash}
use Rattle.x12_envelopes.specs.declared.party.Party.{Party}
use Rattle.x12_inbound.proofs.OrderLemmas.{interchange_itself}
use Rattle.x12_inbound.specs.Filing.{FiledInterchange, filed_key}
use Rattle.x12_inbound.specs.Order.{interchange, is_same_interchange}
use Rattle.x12_inbound.specs.Register.{is_under}
use Rattle.x12_numbers.proofs.Shelf.{all_from_contains, contains_cons, contains_head, contains_mapped, found_passes, map_twice, none_in_nil}
use Rattle.x12_outbound.specs.Entry.{InterchangeRow}
use Rattle.x12_profile.specs.Edition.{edition_at}
use Rattle.x12_profile.specs.X12.{x12}
use Rattle.x12_station.specs.Durable.{IsFiledRightly, IsAnsweredRightly, IsHistoryOf, IsOwnSubmission, WasAnswered, fared_entries, item_of_arrival, items_of}
use Rattle.x12_station.specs.History.{HasCame, Item, Submitted, Came, KeptArrival, postings, submissions}
use Rattle.x12_station.specs.Stored.{AreNumbered, IsSound, Origin, Stored, StoredArrival, entries, entry_of_row, marks_of}
use Rattle.x12_station.proofs.EntryLemmas.{entries_rise}
use Rattle.x12_station.proofs.HistoryLemmas.{came_later, in_submissions}
use Rattle.x12_station.proofs.ItemLemmas.{arrivals_are, came, came_are, filed_of_row, submissions_are}
use Rattle.x12_station.proofs.KnownLemmas.{all_submitted, entry_of, known}
use Rattle.x12_station.proofs.KnownLemmas as listed
use Rattle.x12_station.proofs.ListLemmas.{contains_map}
use Rattle.x12_station.proofs.OwnLemmas.{bytes_read, icn_read}
use Rattle.x12_verify.specs.Arrived.{IsRightArrival, filed_rightly}
use Rattle.x12_verify.specs.Entries.{IsRightSubmission, StandsInBoth}
use Rattle.x12_verify.specs.Told.{HoldsTold, IsRightItem, all_as_told, items_up_to}
use Rattle.x12_verify.proofs.ApartLemmas.{AreApart, apart_by_pairs, apart_if_distinct, one_for_key, same_lists}
use Rattle.x12_verify.proofs.PlacedLemmas.{in_history}
use Rattle.x12_verify.proofs.ToldLemmas.{all_items, same_arrivals, same_fates, same_submissions}

-- the submissions of sound records
bytes_are : (s : Stored) → AreNumbered s → map (λ e. e.bytes) (entries s) ≡ submissions (items_of s)
unfolding entries
bytes_are s numbered = map_twice (λ (e : InterchangeRow). e.bytes) (entry_of_row s.sets) s.submitted ∙ sym (submissions_are s numbered)

-- What a station wrote.
module _ (me : Party) (hubs : List Party) (d : Stored) (wrote : IsHistoryOf me hubs d) where
  number_of_entry : (e : InterchangeRow) → Contains (entries d) e → e.icn ≡ x12.number e.bytes
  number_of_entry e at =
      let there = subst (λ l. Contains l e) (wrote.fates ∙ listed.entries_are me hubs (items_of d) wrote.own) at in
      let from = contains_map (entry_of me hubs (items_of d) wrote.own) (all_submitted (items_of d)) e there in
      let k = known me hubs (items_of d) wrote.own from.0 from.1 in
      let bytes : from.0.bytes ≡ k.bytes = ap (λ q. q.bytes) k.is ∙ bytes_read k.bytes k.read in
      sym (ap (λ (q : InterchangeRow). q.icn) from.2) ∙ ap (λ q. q.icn) k.is ∙ sym (icn_read k.bytes k.read) ∙ ap x12.number (sym bytes)
      ∙ ap x12.number (ap (λ (q : InterchangeRow). q.bytes) from.2)

  entries_apart : AreApart (map (λ (e : InterchangeRow). e.bytes) (entries d))
  entries_apart = apart_by_pairs (λ (e : InterchangeRow). e.bytes) (λ e f. e.icn < f.icn) (entries d)
      (λ e f at there less same.
      let icns : e.icn ≡ f.icn = number_of_entry e at ∙ ap x12.number (sym same) ∙ sym (number_of_entry f there) in
      omega (arith, less, icns)) (entries_rise d wrote.sound)

  arrived_apart : AreApart (map (λ (r : StoredArrival). r.filed.bytes) d.arrived)
  arrived_apart = apart_if_distinct (λ (r : StoredArrival). r.filed.bytes) (λ r q. is_same_interchange (filed_key r.filed) (filed_key q.filed)) d.arrived
      (λ r q at there other same.
      let one = All-contains (λ (r : StoredArrival). IsFiledRightly r.filed) d.arrived r wrote.filed at in
      let two = All-contains (λ (r : StoredArrival). IsFiledRightly r.filed) d.arrived q wrote.filed there in
      let keys : filed_key q.filed ≡ filed_key r.filed =
      ap₂ (λ (p : Party) (n : ℕ). interchange p n) (two.partner ∙ ap x12.sender same ∙ sym one.partner) (two.icn ∙ ap x12.number same ∙ sym one.icn) in
      clash (is_same_interchange (filed_key r.filed) (filed_key q.filed)) (subst (λ k. is_same_interchange (filed_key r.filed) k ≡ true) (sym keys) (interchange_itself (filed_key r.filed))) other) wrote.sound.filed_once

module _ (me : Party) (hubs : List Party) (s d : Stored) (sound : IsSound s) (wrote : IsHistoryOf me hubs d) (same : all_as_told (items_of d) ≡ all_as_told (items_of s)) where
  -- The submissions are those that were told, with the same fates.
  pub entries_are : All (IsRightSubmission (entries s) (entries d)) (items_of d) → entries s ≡ fared_entries me hubs (items_of s)
  entries_are stand =
      same_lists (λ (e : InterchangeRow). e.bytes) (entries s) (entries d)
      (bytes_are s sound.numbered ∙ sym (bytes_are d wrote.sound.numbered ∙ same_submissions (items_of d) (items_of s) same)) (entries_apart me hubs d wrote)
      (λ e at.
      let listed_bytes = subst (λ l. Contains l e.bytes) (bytes_are d wrote.sound.numbered) (contains_mapped (λ (q : InterchangeRow). q.bytes) (entries d) e at) in
      let both : StandsInBoth (entries s) (entries d) e.bytes = All-contains (IsRightSubmission (entries s) (entries d)) (items_of d) (Submitted e.bytes) stand (in_submissions (items_of d) e.bytes listed_bytes) in
      (both.entry, both.bytes, both.in_one, both.in_other))
      ∙ wrote.fates ∙ same_fates (items_of d) (items_of s) same me hubs

  pub own_are : All (IsOwnSubmission me) (submissions (items_of s))
  own_are = subst (All (IsOwnSubmission me)) (same_submissions (items_of d) (items_of s) same) wrote.own

  -- The arrivals are filed and answered rightly.
  module _ (right : All (IsRightItem s me s.book) (items_of s)) where
    arrived_once : AreApart (map (λ (r : StoredArrival). r.filed.bytes) s.arrived)
    arrived_once = subst AreApart (sym (arrivals_are d wrote.sound.numbered) ∙ same_arrivals (items_of d) (items_of s) same ∙ arrivals_are s sound.numbered) (arrived_apart me hubs d wrote)

    right_arrival : (r : StoredArrival) → Contains s.arrived r → IsRightArrival s me s.book (edition_at (marks_of s.origin) r.seq) r.filed.bytes r.filed.reply
    right_arrival r at =
        All-contains (IsRightItem s me s.book) (items_of s) (item_of_arrival (marks_of s.origin) r.seq r) right (in_history s sound.numbered r at)

    filed_is : (r : StoredArrival) → Contains s.arrived r → r.filed ≡ filed_rightly r.filed.bytes r.filed.reply
    filed_is r at =
        let is = right_arrival r at in
        let found = found_passes (is_under (interchange (x12.sender r.filed.bytes) (x12.number r.filed.bytes))) (map (λ (q : StoredArrival). q.filed) s.arrived) (filed_rightly r.filed.bytes r.filed.reply) is.filed in
        let from = contains_map (λ (q : StoredArrival). q.filed) s.arrived (filed_rightly r.filed.bytes r.filed.reply) found.0 in
        let one = one_for_key (λ (q : StoredArrival). q.filed.bytes) s.arrived arrived_once r from.0 at from.1 (sym (ap (λ (f : FiledInterchange). f.bytes) from.2)) in
        ap (λ (q : StoredArrival). q.filed) one ∙ from.2

    pub filed_are : All (λ r. IsFiledRightly r.filed) s.arrived
    filed_are = all_from_contains (λ r. IsFiledRightly r.filed) s.arrived (λ r at. record {
      header = (right_arrival r at).header;
      partner = ap (λ (f : FiledInterchange). f.partner) (filed_is r at);
      icn = ap (λ (f : FiledInterchange). f.icn) (filed_is r at);
    })

    pub answered_are : All (IsAnsweredRightly (marks_of s.origin) me s.book) s.arrived
    answered_are = all_from_contains (IsAnsweredRightly (marks_of s.origin) me s.book) s.arrived (λ r at.
        let by = edition_at (marks_of s.origin) r.seq in
        ∣ subst (WasAnswered by me s.book) (sym (filed_is r at)) (right_arrival r at).answered ∣₁)

    pub history_is : (s.origin.me ≡ me) × (s.origin.hubs ≡ hubs) → All (IsRightSubmission (entries s) (entries d)) (items_of d) → s.postings ≡ postings x12 (items_of s) → IsHistoryOf me hubs s
    history_is origin stand posted = record {
      sound = sound;
      origin = origin;
      fates = entries_are stand;
      own = own_are;
      filed = filed_are;
      answered = answered_are;
      posted = posted;
    }

-- Records that were told whole, of which no posting is left.
pub held_history : (s d : Stored) (o : Origin) (all left : List AcceptedSet) → IsSound s → s.origin ≡ o → HoldsTold s d o s.book s.seq all left → left ≡ []
    → all ≡ s.postings → All (IsRightSubmission (entries s) (entries d)) (items_of d) → IsHistoryOf o.me o.hubs s
held_history s d o all left sound origin told none kept stand =
    history_is o.me o.hubs s d sound told.wrote (told.items ∙ ap all_as_told (all_items s)) (subst (All (IsRightItem s o.me s.book)) (all_items s) told.right)
    (ap (λ (q : Origin). q.me) origin, ap (λ (q : Origin). q.hubs) origin) stand
    (sym kept ∙ told.posted ∙ ap (λ l. postings x12 (items_up_to s s.seq) ++ l) none ∙ append-nil (postings x12 (items_up_to s s.seq)) ∙ ap (postings x12) (all_items s))
