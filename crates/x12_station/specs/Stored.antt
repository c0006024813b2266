-- What the records of a station hold: whose they are, and one list for each table. Of parties and of
-- X12 they know nothing but what is written here.
use Rattle.x12_numbers.specs.Book.{Numbers, new_book}
use Rattle.std.specs.Prelude.{◌≡◌, ◌≢◌, ℕ, ◌<◌, ◌≤◌, ◌-◌, ◌^◌, Bool, false, ◌&&◌, not, ◌==◌, List, [], ◌∷◌, ◌++◌, map, filter, flat_map, find, max, Option, option_map, bytes_eq, All, AllPairs, length}
use Rattle.std.specs.List.{enumerate_from, list_any, range_with_len, IsDistinct}
use Rattle.std.specs.List.Sorted.{IsPermutation}
use Rattle.x12_envelopes.specs.declared.party.Party.{Party}
use Rattle.x12_judge.specs.Agreement.{TradingAgreement, is_same_party}
use Rattle.x12_acks.specs.Accepted.{AcceptedSet}
use Rattle.x12_acks.specs.Key.{is_same_key}
use Rattle.x12_acks.specs.Submission.{TransactionSetKey}
use Rattle.x12_outbound.specs.declared.fate.Fate.{Fate}
use Rattle.x12_outbound.specs.Entry.{InterchangeRow, GroupRow, SetRow, row_is_open, submission_of_entry}
use Rattle.x12_outbound.specs.Ledger.{AreInOrder}
use Rattle.x12_inbound.specs.Filing.{FiledInterchange, filed_key}
use Rattle.x12_inbound.specs.Order.{interchange, is_same_interchange}
use Rattle.x12_inbound.specs.Register.{found_in, AreOfFiled}
use Rattle.x12_profile.specs.Edition.{Marks}

-- a submitted interchange: its number among submissions and first arrivals, its control number
-- (ISA13), its receiver, and its bytes
pub record StoredSubmission : Type 0 where
  pub seq : ℕ
  pub icn : ℕ
  pub receiver : Party
  pub bytes : List ℕ

-- a submitted transaction set: the number of its interchange, the place of its group and its own
-- place from 1, GS01 and GS06 of the group, its number (ST02), and how it fares
pub record StoredSet : Type 0 where
  pub icn : ℕ
  pub group : ℕ
  pub set : ℕ
  pub functional : List ℕ
  pub gcn : ℕ
  pub number : List ℕ
  pub fate : Fate

-- an interchange that came for the first time: its number among submissions and first arrivals, and
-- what is filed of it
pub record StoredArrival : Type 0 where
  pub seq : ℕ
  pub filed : FiledInterchange

-- Whose records are: the station's party and its hubs, one or two; and up to which number of a
-- submission or first arrival an arrival is read as before sets were noted (`noted`), and judged as
-- before the control versions from 00402 on were taken (`era`).
pub record Origin : Type 0 where
  pub me : Party
  pub hubs : List Party
  pub noted : ℕ
  pub era : ℕ

-- the origin of a station's records in which each arrival is judged and read alike
abbrev pub origin_of : Party → List Party → Origin
origin_of me hubs = record { me = me; hubs = hubs; noted = 0; era = 0 }

-- how far records of this origin are judged and read in an older way
abbrev pub marks_of : Origin → Marks
marks_of o = record { noted = o.noted; era = o.era }

-- Whose they are; the last control numbers and the last number of a submission or first arrival; how
-- many postings were handed over; the agreements; the submissions in their order, and their
-- transaction sets by rising key; the first arrivals and the postings in their order.
pub record Stored : Type 0 where
  pub origin : Origin
  pub book : Numbers
  pub seq : ℕ
  pub handed : ℕ
  pub agreements : List TradingAgreement
  pub submitted : List StoredSubmission
  pub sets : List StoredSet
  pub arrived : List StoredArrival
  pub postings : List AcceptedSet

-- records of this origin that hold nothing
abbrev pub nothing_stored : Origin → Stored
nothing_stored o = record {
  origin = o;
  book = new_book;
  seq = 0;
  handed = 0;
  agreements = [];
  submitted = [];
  sets = [];
  arrived = [];
  postings = [];
}

-- A submission and its rows.

-- the rows of a group's transaction sets, by place
abbrev pub rows_of_group : ℕ → ℕ × GroupRow → List StoredSet
rows_of_group icn g = map (λ s. record {
  icn = icn;
  group = g.0;
  set = s.0;
  functional = g.1.functional;
  gcn = g.1.number;
  number = s.1.number;
  fate = s.1.fate;
}) (enumerate_from 1 g.1.sets)

-- the rows of a submission's transaction sets, by the place of the group and the set's own
unfoldable pub rows_of_entry : InterchangeRow → List StoredSet
rows_of_entry e = flat_map (rows_of_group e.icn) (enumerate_from 1 e.groups)

-- the row of the submission itself, under this number
abbrev pub row_of_entry : ℕ → InterchangeRow → StoredSubmission
row_of_entry seq e =
    record { seq = seq; icn = e.icn; receiver = e.receiver; bytes = e.bytes }

-- a transaction set of an entry, from its row
abbrev pub set_of_row : StoredSet → SetRow
set_of_row t = record { number = t.number; fate = t.fate; is_out = false }

-- a group of an entry, from the rows of its transaction sets
abbrev pub group_of_rows : List StoredSet → GroupRow
group_of_rows [] = record { functional = []; number = 0; sets = [] }
group_of_rows (t ∷ ts) =
    record { functional = t.functional; number = t.gcn; sets = map set_of_row (t ∷ ts) }

-- the greatest place of a group
abbrev pub last_group : List StoredSet → ℕ
last_group [] = 0
last_group (t ∷ ts) = max t.group (last_group ts)

-- the groups of an entry, from the rows of its transaction sets
abbrev pub groups_of_rows : List StoredSet → List GroupRow
groups_of_rows ts =
    map (λ g. group_of_rows (filter (λ t. t.group == g) ts)) (range_with_len 1 (last_group ts))

-- the transaction sets of the submission of this number
abbrev pub sets_under : ℕ → List StoredSet → List StoredSet
sets_under icn sets = filter (λ t. t.icn == icn) sets

-- a submission with its transaction sets
abbrev pub entry_of_row : List StoredSet → StoredSubmission → InterchangeRow
entry_of_row sets r = record {
  icn = r.icn;
  receiver = r.receiver;
  bytes = r.bytes;
  groups = groups_of_rows (sets_under r.icn sets);
}

-- the submissions with their transaction sets, in their order
unfoldable pub entries : Stored → List InterchangeRow
entries s = map (entry_of_row s.sets) s.submitted

-- What is found.

-- the submissions with a pending set
abbrev pub open_entries : Stored → List InterchangeRow
open_entries s = filter row_is_open (entries s)

-- the submission of this number, where none of its sets is pending
abbrev pub closed_entry : Stored → ℕ → Option InterchangeRow
closed_entry s icn = find (λ e. e.icn == icn && not (row_is_open e)) (entries s)

-- a group of this code and number
abbrev pub is_group_named : List ℕ → ℕ → GroupRow → Bool
is_group_named functional gcn g = bytes_eq g.functional functional && g.number == gcn

-- the submission to this partner with this group, where none of its sets is pending
abbrev pub closed_entry_with_group : Stored → Party → List ℕ → ℕ → Option InterchangeRow
closed_entry_with_group s partner functional gcn =
    find (λ e. is_same_party e.receiver partner && list_any (is_group_named functional gcn) e.groups
    && not (row_is_open e)) (entries s)

-- the bytes of the submission of this number
abbrev pub submitted_bytes : Stored → ℕ → Option (List ℕ)
submitted_bytes s icn = option_map (λ r. r.bytes) (find (λ r. r.icn == icn) s.submitted)

-- a row is that of the transaction set at this place; records know the station's own sets alone
abbrev pub is_row_of : TransactionSetKey → StoredSet → Bool
is_row_of k t = t.icn == k.icn && t.group == k.group && t.set == k.set

-- how the set at this place fares
abbrev pub stored_fate : List StoredSet → TransactionSetKey → Option Fate
stored_fate sets k = option_map (λ t. t.fate) (find (is_row_of k) sets)

-- what is filed under this partner and number
abbrev pub filed_in : Stored → Party → ℕ → Option FiledInterchange
filed_in s partner icn = found_in (map (λ r. r.filed) s.arrived) (interchange partner icn)

-- What a station wrote.

-- the numbers of submissions and first arrivals
abbrev pub seqs : Stored → List ℕ
seqs s = map (λ r. r.seq) s.submitted ++ map (λ r. r.seq) s.arrived

-- each number from 1 to the last is that of one submission or of one first arrival, and they stand
-- in the order of their numbers
pub record AreNumbered (s : Stored) : Type 0 where
  pub each : IsPermutation (range_with_len 1 s.seq) (seqs s)
  pub submitted : AllPairs (λ r q. r.seq < q.seq) s.submitted
  pub arrived : AllPairs (λ r q. r.seq < q.seq) s.arrived

-- the control numbers of a submission were used
pub record IsNumberedBy (book : Numbers) (e : InterchangeRow) : Type 0 where
  pub interchange : e.icn ≤ book.interchange
  pub groups : All (λ g. g.number ≤ book.group) e.groups

-- each of its groups has a transaction set, so that its rows tell all of them
abbrev pub HasSets : InterchangeRow → Type 0
HasSets e = All (λ g. 0 < length g.sets) e.groups

-- an agreement names a pair, and each pair once
pub record IsKeptAgreement (a : TradingAgreement) : Type 0 where
  pub pairs : a.pairs ≢ []
  pub once : IsDistinct (λ p q. bytes_eq p.0 q.0 && bytes_eq p.1 q.1) a.pairs

-- Tables that fit together.
pub record IsSound (s : Stored) : Type 0 where
  pub numbered : AreNumbered s
  pub few : s.seq ≤ 2 ^ 63 - 1
  -- the rows of the sets are those of the submissions, which can be sent and whose numbers rise
  pub rows : s.sets ≡ flat_map rows_of_entry (entries s)
  pub whole : All HasSets (entries s)
  pub in_order : (me : Party) → AreInOrder (map (submission_of_entry me) (entries s))
  pub used : All (IsNumberedBy s.book) (entries s)
  -- no partner's number is filed twice, no set is posted twice, and none but of what is filed
  pub filed_once :
      IsDistinct (λ r q. is_same_interchange (filed_key r.filed) (filed_key q.filed)) s.arrived
  pub posted_once : IsDistinct (λ p q. is_same_key p.key q.key) s.postings
  pub of_filed : AreOfFiled (map (λ r. r.filed) s.arrived) s.postings
  -- no more postings were handed over than there are
  pub handed : s.handed ≤ length s.postings
  -- one agreement for a partner
  pub agreed_once : IsDistinct (λ a b. is_same_party a.partner b.partner) s.agreements
  pub agreed : All IsKeptAgreement s.agreements
