-- What a station keeps in memory of its records: its marks, its numbers, its agreements, and what is
-- open.
use Rattle.std.specs.Prelude.{◌≡◌, ◌≤◌, ◌+◌, ◌-◌, ◌^◌, [], map, All, IsTrue}
use Rattle.x12_numbers.specs.Book.{new_book}
use Rattle.x12_envelopes.specs.Party.{is_plain_party}
use Rattle.x12_judge.specs.Agreement.{agreement_view}
use Rattle.x12_outbound.specs.Counts.{only_unclear}
use Rattle.x12_outbound.specs.Hubs.{hubs_of}
use Rattle.x12_outbound.specs.Ledger.{NoneIsOut}
use Rattle.x12_profile.specs.declared.edition.Edition.{Edition}
use Rattle.x12_profile.specs.Edition.{edition_at}
use Rattle.x12_profile.specs.Marking.{marks_view}
use Rattle.x12_station.specs.declared.cached.Cached.{Cached}
use Rattle.x12_station.specs.Seen.{StationMemory}
use Rattle.x12_station.specs.Stored.{Stored, IsNumberedBy, marks_of, open_entries}

-- what is in memory, as it is seen
abbrev pub memory_of : Cached → StationMemory
memory_of m = record {
  marks = marks_view m.marks;
  book = m.book;
  seq = m.seq;
  agreements = map agreement_view m.agreements.items;
  ledger = m.ledger.holds;
  counts = m.counts;
}

-- the edition of what comes next, by what is in memory
abbrev pub cached_edition : Cached → Edition
cached_edition m = edition_at (marks_view m.marks) (m.seq + 1)

-- memory is what the records hold
pub record Caches (m : Cached) (s : Stored) : Type 0 where
  pub marks : marks_view m.marks ≡ marks_of s.origin
  pub book : m.book ≡ s.book
  pub seq : m.seq ≡ s.seq
  pub agreements : map agreement_view m.agreements.items ≡ s.agreements
  pub open_ones : map (λ r. r.interchange) m.ledger.holds.rows ≡ open_entries s

-- memory can go on, whatever the records answered: the ledger is of the station's party, which is
-- plain, and of its hubs, no set is out, and all numbers were used
pub record IsReady (m : Cached) : Type 0 where
  pub me : m.ledger.holds.me ≡ m.me
  pub plain : IsTrue (is_plain_party m.me)
  pub hubs : m.ledger.holds.hubs ≡ hubs_of m.hubs
  pub none_out : NoneIsOut m.ledger.holds
  pub used : All (λ r. IsNumberedBy m.book r.interchange) m.ledger.holds.rows
  pub seq : m.seq ≤ 2 ^ 63 - 1

-- memory of a station that was asked to do nothing yet, over records that held nothing and have no
-- marks
pub record IsUntouched (m : Cached) : Type 0 where
  pub noted : m.marks.noted ≡ 0
  pub era : m.marks.era ≡ 0
  pub seq : m.seq ≡ 0
  pub agreements : m.agreements.items ≡ []
  pub book : m.book ≡ new_book
  pub tick : m.ledger.holds.tick ≡ 0
  pub counts : m.counts ≡ only_unclear 0
