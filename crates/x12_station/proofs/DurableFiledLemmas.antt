-- Records stay a station's after an arrival is filed with what the history posts of it, and with the sets that its evidence settles.
use Rattle.std.specs.Prelude.{◌≡◌, ◌+◌, ◌-◌, ◌^◌, ◌≤◌, List, [], ◌∷◌, ◌++◌, map, None, All}
use mathlib.Core.Path.{sym, ap, ap₂, subst, ◌∙◌}
use Rattle.std.proofs.lemmas.List.{append-nil}
use Rattle.std.proofs.lemmas.List.Elements.{All-push, All-contains}
use Rattle.std.proofs.lemmas.Grind.{flat_map-append}
use Rattle.x12_numbers.specs.Book.{Numbers}
use Rattle.x12_envelopes.specs.declared.party.Party.{Party}
use Rattle.x12_acks.specs.Submission.{Submission}
use Rattle.x12_inbound.specs.Arrival.{Filing, ArePostingsOf}
use Rattle.x12_outbound.specs.Entry.{InterchangeRow, submission_of_entry}
use Rattle.x12_outbound.specs.Ledger.{AreInOrder}
use Rattle.x12_profile.specs.X12.{x12}
use Rattle.x12_station.specs.History.{Item, Came, submissions, posted_by, postings}
use Rattle.x12_station.specs.Plan.{Files, rows_settled, stored_after}
use Rattle.x12_station.specs.Record.{IsWholeEntry}
use Rattle.x12_station.specs.Stored.{Stored, StoredArrival, entries, marks_of, row_of_entry, filed_in}
use Rattle.x12_station.specs.Durable.{items_of, fared_entries, IsOwnSubmission, IsFiledRightly, WasAnswered, IsAnsweredRightly, IsHistoryOf}
use Rattle.x12_station.proofs.ItemLemmas.{items_filed}
use Rattle.x12_station.proofs.EntryLemmas.{entries_back, entries_whole, rise_in_order, same_heads, unnumbered}
use Rattle.x12_station.proofs.CellLemmas.{entry_by}
use Rattle.x12_numbers.proofs.Shelf.{map_twice, all_from_contains, contains_mapped}
use Rattle.x12_station.proofs.DurableLemmas.{IsLater, answered_later}
use Rattle.x12_station.proofs.FateLemmas.{brought}
use Rattle.x12_station.proofs.TargetLemmas.{targets_by}
use Rattle.x12_station.proofs.KnownLemmas.{all_submitted, fate_at, entry_of, entries_are, submitted_are}
use Rattle.x12_station.proofs.ArrivedLemmas.{all_stay, edition_is, edition_of, own_now, items_now, history_fates, rows_now, whole_by}
use Rattle.x12_station.proofs.FiledLemmas.{sound_filed}
use Rattle.x12_station.proofs.ListLemmas.{contains_map}

module _ (me : Party) (hubs : List Party) (s : Stored) (d : IsHistoryOf me hubs s) (k : Filing) where
  abbrev now : List Item
  now = items_now me hubs s d k.filed.bytes k.filed.reply

  -- the entries that the history then has are whole, and in order
  abbrev entry_then : Submission → InterchangeRow
  entry_then e = entry_by (fate_at me hubs now e) e

  entries_then : fared_entries me hubs now ≡ map entry_then (all_submitted (items_of s))
  entries_then = entries_are me hubs now (own_now me hubs s d k.filed.bytes k.filed.reply) ∙ ap (map entry_then) (all_stay me hubs s d k.filed.bytes k.filed.reply)

  entries_was : entries s ≡ map (entry_of me hubs (items_of s) d.own) (all_submitted (items_of s))
  entries_was = d.fates ∙ entries_are me hubs (items_of s) d.own

  whole_then : All IsWholeEntry (fared_entries me hubs now)
  whole_then = subst (All IsWholeEntry) (sym entries_then) (all_from_contains IsWholeEntry (map entry_then (all_submitted (items_of s))) (λ r at.
      let from = contains_map entry_then (all_submitted (items_of s)) r at in
      subst IsWholeEntry from.2 (whole_by (fate_at me hubs (items_of s) from.0) (fate_at me hubs now from.0) from.0
      (All-contains IsWholeEntry (map (entry_of me hubs (items_of s) d.own) (all_submitted (items_of s))) (entry_of me hubs (items_of s) d.own from.0) (subst (All IsWholeEntry) entries_was (entries_whole s d.sound)) (contains_mapped (entry_of me hubs (items_of s) d.own) (all_submitted (items_of s)) from.0 from.1)))))

  same_submitted : map (submission_of_entry me) (fared_entries me hubs now) ≡ map (submission_of_entry me) (entries s)
  same_submitted =
      submitted_are me hubs now (own_now me hubs s d k.filed.bytes k.filed.reply) ∙ all_stay me hubs s d k.filed.bytes k.filed.reply
      ∙ sym (ap (map (submission_of_entry me)) d.fates ∙ submitted_are me hubs (items_of s) d.own)

  in_order_then : AreInOrder (map (submission_of_entry me) (fared_entries me hubs now))
  in_order_then = subst AreInOrder (sym same_submitted) (d.sound.in_order me)

  heads_then : map unnumbered s.submitted ≡ map (row_of_entry 0) (fared_entries me hubs now)
  unfolding entries
  heads_then =
      same_heads s.sets s.submitted ∙ ap (map (row_of_entry 0)) entries_was ∙ map_twice (row_of_entry 0) (entry_of me hubs (items_of s) d.own) (all_submitted (items_of s))
      ∙ sym (ap (map (row_of_entry 0)) entries_then ∙ map_twice (row_of_entry 0) entry_then (all_submitted (items_of s)))

  module _ (book : Numbers) where
    -- the records once the arrival is filed, with the sets that it settles
    abbrev pub filed_with : Stored
    filed_with = stored_after (record { book = book; seq = s.seq + 1; change = Files k (targets_by (history_fates me hubs s d) (brought (edition_of s) me hubs (items_of s) k.filed.bytes)) }) s

    pub items_then : items_of filed_with ≡ now
    items_then =
        items_filed s d.sound.numbered book k (targets_by (history_fates me hubs s d) (brought (edition_of s) me hubs (items_of s) k.filed.bytes))
        ∙ ap (λ ed. items_of s ++ Came ed k.filed.bytes k.filed.reply ∷ []) (edition_is s d.sound.numbered)

    pub entries_filed_are : entries filed_with ≡ fared_entries me hubs now
    unfolding entries
    entries_filed_are =
        entries_back (rows_settled (targets_by (history_fates me hubs s d) (brought (edition_of s) me hubs (items_of s) k.filed.bytes)) s.sets) s.submitted (fared_entries me hubs now) heads_then whole_then
        (rise_in_order me (fared_entries me hubs now) in_order_then) (rows_now me hubs s d k.filed.bytes k.filed.reply)

    pub durable_filed : IsLater s.book book → s.seq + 1 ≤ 2 ^ 63 - 1 → ArePostingsOf k.filed k.postings → filed_in s k.filed.partner k.filed.icn ≡ None
        → IsFiledRightly k.filed → WasAnswered (edition_of s) me book k.filed → k.postings ≡ posted_by x12 (Came (edition_of s) k.filed.bytes k.filed.reply) → IsHistoryOf me hubs filed_with
    durable_filed later few theirs new rightly answered posts = record {
      sound = sound_filed s d.sound book later few k theirs new (targets_by (history_fates me hubs s d) (brought (edition_of s) me hubs (items_of s) k.filed.bytes));
      origin = d.origin;
      fates = entries_filed_are ∙ ap (fared_entries me hubs) (sym items_then);
      own = subst (λ items. All (IsOwnSubmission me) (submissions items)) (sym items_then) (own_now me hubs s d k.filed.bytes k.filed.reply);
      filed = All-push (λ (r : StoredArrival). IsFiledRightly r.filed) s.arrived _ d.filed rightly;
      answered = All-push (IsAnsweredRightly (marks_of s.origin) me book) s.arrived _ (answered_later (marks_of s.origin) me s.book book later s.arrived d.answered)
          ∣ subst (λ ed. WasAnswered ed me book k.filed) (sym (edition_is s d.sound.numbered)) answered ∣₁;
      posted =
          ap₂ (λ (x y : List _). x ++ y) d.posted (posts ∙ sym (append-nil (posted_by x12 (Came (edition_of s) k.filed.bytes k.filed.reply))))
          ∙ sym (flat_map-append (posted_by x12) (items_of s) (Came (edition_of s) k.filed.bytes k.filed.reply ∷ [])) ∙ ap (postings x12) (sym items_then);
    }
