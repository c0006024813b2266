-- What a station of a party and its hubs wrote: the history is one list, and all else in the records
-- is what that list and the bytes in it say.
use Rattle.std.specs.Prelude.{◌≡◌, ◌≤◌, ℕ, ◌==◌, List, map, flat_map, find, Option, Some, None, option_map, if◌then◌else◌, All, IsTrue, option_to_list, false}
use Rattle.std.specs.List.{enumerate_from, range_with_len}
use Rattle.std.specs.Option.{option_or}
use Rattle.x12_numbers.specs.Book.{Numbers}
use Rattle.x12_envelopes.specs.declared.party.Party.{Party}
use Rattle.x12_envelopes.specs.declared.moment.Moment.{Moment}
use Rattle.x12_judge.specs.Agreement.{TradingAgreement}
use Rattle.x12_acks.specs.Submission.{Submission, SubmittedGroup, SubmittedSet}
use Rattle.x12_inbound.specs.Filing.{FiledInterchange}
use Rattle.x12_outbound.specs.Entry.{InterchangeRow, GroupRow, SetRow}
use Rattle.x12_profile.specs.declared.edition.Edition.{Edition}
use Rattle.x12_profile.specs.Edition.{Marks, edition_at}
use Rattle.x12_profile.specs.Interchange.{Bytes}
use Rattle.x12_profile.specs.X12.{x12, submission_in_bytes}
use Rattle.x12_station.specs.History.{Item, Submitted, Came, submissions, postings, fate_in}
use Rattle.x12_station.specs.Stored.{Stored, StoredArrival, IsSound, marks_of, entries}

-- an arrival of this number, whose edition the marks and the number give
abbrev pub item_of_arrival : Marks → ℕ → StoredArrival → Item
item_of_arrival marks n r = Came (edition_at marks n) r.filed.bytes r.filed.reply

-- the submission or the first arrival of this number
abbrev pub item_at : Stored → ℕ → Option Item
item_at s n =
    option_or
    (option_map (λ r. Submitted r.bytes) (find (λ r. r.seq == n) s.submitted))
    (option_map (item_of_arrival (marks_of s.origin) n) (find (λ r. r.seq == n) s.arrived))

-- the history: submissions and first arrivals in the order of their numbers
unfoldable pub items_of : Stored → List Item
items_of s = flat_map (λ n. option_to_list (item_at s n)) (range_with_len 1 s.seq)

module _ (me : Party) (hubs : List Party) (items : List Item) where
  -- a transaction set of a submission at its place, with its fate by the history
  abbrev pub fared_set : Bytes → ℕ → ℕ × SubmittedSet → SetRow
  fared_set x group s = record {
    number = s.1.number;
    fate = fate_in x12 me hubs items x (record { group = group; set = s.0 });
    is_out = false;
  }

  -- a group of a submission at its place
  abbrev pub fared_group : Bytes → ℕ × SubmittedGroup → GroupRow
  fared_group x g = record {
    functional = g.1.functional;
    number = g.1.number;
    sets = map (fared_set x g.0) (enumerate_from 1 g.1.sets);
  }

  -- a submission, with the fate of each of its transaction sets
  unfoldable pub fared_entry : Submission → InterchangeRow
  fared_entry x = record {
    icn = x.icn;
    receiver = x.receiver;
    bytes = x.bytes;
    groups = map (fared_group x.bytes) (enumerate_from 1 x.groups);
  }

  -- all that was submitted
  unfoldable pub fared_entries : List InterchangeRow
  fared_entries = map fared_entry (flat_map submission_in_bytes (submissions items))

-- an arrival is filed under its own sender and number
pub record IsFiledRightly (f : FiledInterchange) : Type 0 where
  pub header : IsTrue (x12.has_header f.bytes)
  pub partner : f.partner ≡ x12.sender f.bytes
  pub icn : f.icn ≡ x12.number f.bytes

-- What is kept of an arrival is the reply that was due by this edition, by some agreements and at some
-- moment, under numbers of which none is above these; or none, where none was due.
pub record WasAnswered (by : Edition) (me : Party) (book : Numbers) (f : FiledInterchange)
    : Type 0 where
  pub agreements : List TradingAgreement
  pub at : Moment
  pub numbers : Numbers
  pub interchange : numbers.interchange ≤ book.interchange
  pub group : numbers.group ≤ book.group
  pub reply :
      f.reply
      ≡ (if (x12.needs by me agreements f.bytes).reply
      then Some (x12.reply by me agreements at numbers f.bytes)
      else None)

-- there were such agreements, such a moment and such numbers, by the edition of its number
abbrev pub IsAnsweredRightly : Marks → Party → Numbers → StoredArrival → Type 0
IsAnsweredRightly marks me book r = ∥ WasAnswered (edition_at marks r.seq) me book r.filed ∥₁

-- a station may have submitted these bytes
pub record IsOwnSubmission (me : Party) (x : Bytes) : Type 0 where
  pub submission : IsTrue (x12.is_submission x)
  pub sender : x12.sender x ≡ me

-- Records that a station of this party and these hubs wrote.
pub record IsHistoryOf (me : Party) (hubs : List Party) (s : Stored) : Type 0 where
  pub sound : IsSound s
  -- they say whose they are
  pub origin : (s.origin.me ≡ me) × (s.origin.hubs ≡ hubs)
  -- the fates of the submissions' sets are those that the history tells
  pub fates : entries s ≡ fared_entries me hubs (items_of s)
  pub own : All (IsOwnSubmission me) (submissions (items_of s))
  pub filed : All (λ r. IsFiledRightly r.filed) s.arrived
  -- each reply that is kept was due, under numbers that the book has as used
  pub answered : All (IsAnsweredRightly (marks_of s.origin) me s.book) s.arrived
  -- what is posted is what the kept replies accept
  pub posted : s.postings ≡ postings x12 (items_of s)
