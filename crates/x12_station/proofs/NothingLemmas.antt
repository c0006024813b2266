-- Records that hold nothing: sound, and what a new station of their origin wrote.
use Rattle.std.proofs.Common.{◌≡◌, ◌<◌, List, [], All, refl, arith, subst, sym}
use Rattle.std.specs.List.{IsDistinct}
use Rattle.x12_numbers.specs.Book.{new_book}
use Rattle.std.proofs.lemmas.List.Elements.{All-nil}
use Rattle.std.proofs.lemmas.List.Sorted.{IsPermutation-refl}
use Rattle.x12_envelopes.specs.declared.party.Party.{Party}
use Rattle.x12_acks.specs.Submission.{IsBefore}
use Rattle.x12_outbound.specs.Entry.{IsSendable}
use Rattle.x12_station.specs.Stored.{Origin, Stored, StoredArrival, HasSets, IsNumberedBy, IsKeptAgreement, IsSound, marks_of, origin_of, nothing_stored, entries}
use Rattle.x12_station.specs.Record.{IsWholeEntry}
use Rattle.x12_station.specs.Durable.{IsHistoryOf, IsAnsweredRightly, IsOwnSubmission, IsFiledRightly, fared_entries, items_of}
use Rattle.x12_station.specs.declared.memory.MemoryRecords.{MemoryRecords}
use Rattle.x12_station.specs.Memory.{memory_view, rows_in, entries_in, IsKeptWhole}
use Rattle.x12_numbers.proofs.Shelf.{no_pairs}

pub nothing_is_sound : (o : Origin) → IsSound (nothing_stored o)
unfolding entries IsDistinct
nothing_is_sound o = record {
  numbered = record {
    each = IsPermutation-refl [];
    submitted = no_pairs (λ r q. r.seq < q.seq);
    arrived = no_pairs (λ r q. r.seq < q.seq);
  };
  few = omega arith;
  rows = refl;
  whole = All-nil HasSets;
  in_order = λ me. record { sendable = All-nil IsSendable; before = no_pairs IsBefore };
  used = All-nil (IsNumberedBy new_book);
  filed_once = tt;
  posted_once = tt;
  of_filed = λ k d at. absurd (omega arith);
  handed = omega arith;
  agreed_once = tt;
  agreed = All-nil IsKeptAgreement;
}

pub nothing_is_kept : (o : Origin) (r : MemoryRecords) → memory_view r ≡ nothing_stored o → entries_in (rows_in r) ≡ [] → IsKeptWhole r
nothing_is_kept o r is none = record {
  sound = subst IsSound (sym is) (nothing_is_sound o);
  whole = subst (All IsWholeEntry) (sym none) (All-nil IsWholeEntry);
}

-- a station wrote the records of its origin that hold nothing
pub nothing_is_durable : (o : Origin) → IsHistoryOf o.me o.hubs (nothing_stored o)
unfolding entries fared_entries items_of
nothing_is_durable o = record {
  sound = nothing_is_sound o;
  origin = (refl, refl);
  fates = refl;
  own = All-nil (IsOwnSubmission o.me);
  filed = All-nil (λ (r : StoredArrival). IsFiledRightly r.filed);
  answered = All-nil (IsAnsweredRightly (marks_of o) o.me new_book);
  posted = refl;
}

pub durable_where_nothing : (me : Party) (hubs : List Party) (s : Stored) → s ≡ nothing_stored (origin_of me hubs) → IsHistoryOf me hubs s
durable_where_nothing me hubs s is = subst (IsHistoryOf me hubs) (sym is) (nothing_is_durable (origin_of me hubs))

-- and those of any origin
pub durable_of_origin : (o : Origin) (s : Stored) → s ≡ nothing_stored o → IsHistoryOf o.me o.hubs s
durable_of_origin o s is = subst (IsHistoryOf o.me o.hubs) (sym is) (nothing_is_durable o)
