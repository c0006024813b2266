-- The history of a station: its submissions and first arrivals, in the order of their numbers.
-- Fates and postings are functions of this one list.
use Rattle.std.specs.Prelude.{ℕ, List, [], ◌∷◌, ◌&&◌, ◌==◌, if◌then◌else◌, map, filter, flat_map, find, Option, Some, None, Contains, bytes_eq}
use Rattle.x12_envelopes.specs.declared.party.Party.{Party}
use Rattle.x12_acks.specs.Submission.{TransactionSetKey}
use Rattle.x12_acks.specs.Key.{is_same_key}
use Rattle.x12_acks.specs.Accepted.{AcceptedSet}
use Rattle.x12_judge.specs.Agreement.{is_same_party}
use Rattle.x12_profile.specs.Interchange.{Bytes, PlaceOfSet, PlacedEvidence, is_place, PlacedTransactionSet}
use Rattle.x12_profile.specs.Profile.{Profile}
use Rattle.x12_judge.specs.Set.{takes}
use Rattle.x12_profile.specs.declared.edition.Edition.{Edition}
use Rattle.x12_outbound.specs.Fate.{ended}
use Rattle.x12_outbound.specs.declared.fate.Fate.TheVariants.{Pending}
use Rattle.x12_outbound.specs.declared.fate.Fate.{Fate}

-- what the history numbers
pub data Item : Type 0 where
  -- an interchange that this station submitted
  Submitted : Bytes → Item
  -- an interchange that came for the first time: the edition by which it is judged and read, and the
  -- reply that is kept for it, if one was due
  Came : Edition → Bytes → Option Bytes → Item

-- an arrival as it is filed
pub record KeptArrival : Type 0 where
  pub body : Bytes
  pub reply : Option Bytes

-- what was submitted
abbrev pub submissions : List Item → List Bytes
submissions [] = []
submissions (Submitted x ∷ items) = x ∷ submissions items
submissions (Came by b r ∷ items) = submissions items

-- what came
abbrev pub arrivals : List Item → List Bytes
arrivals [] = []
arrivals (Submitted x ∷ items) = arrivals items
arrivals (Came by b r ∷ items) = b ∷ arrivals items

-- b came, and this is the reply that is kept for it
abbrev pub HasCame : List Item → Bytes → Option Bytes → Type 0
HasCame items b reply = (by : Edition) × Contains items (Came by b reply)

-- what stands behind the submission of x
abbrev pub items_after : Bytes → List Item → List Item
items_after x [] = []
items_after x (Submitted y ∷ items) = if bytes_eq y x then items else items_after x items
items_after x (Came by b r ∷ items) = items_after x items

-- the fate that the first evidence for a place gives
abbrev pub first_told : PlaceOfSet → List PlacedEvidence → Fate
first_told k [] = Pending
first_told k (e ∷ es) =
    if is_place k e.place
    then ended e.fate
    else first_told k es

-- a set that a station took over: its key over the whole network, its group's code (GS01), its
-- identifier (ST01) and its number (ST02), and its bytes
abbrev pub Posting : Type 0
Posting = AcceptedSet

module _ (p : Profile) where
  -- what is filed under a partner's interchange number: the first that came
  abbrev pub filed : List Item → Party → ℕ → Option KeptArrival
  filed [] s n = None
  filed (Submitted x ∷ items) s n = filed items s n
  filed (Came by b r ∷ items) s n =
      if is_same_party (p.sender b) s && (p.number b == n)
      then Some (record { body = b; reply = r })
      else filed items s n

  -- the submission of this number (ISA13)
  abbrev pub submission_under : List Item → ℕ → Option Bytes
  submission_under items n = find (λ x. p.number x == n) (submissions items)

  -- what one arrival tells this station of the sets of x, by its edition; one that it refuses tells
  -- nothing
  abbrev pub told : Party → List Party → Bytes → Item → List PlacedEvidence
  told me hubs x (Submitted y) = []
  told me hubs x (Came by b r) = if p.refuses by me b then [] else p.evidence by hubs b x

  -- all that it was told of the sets of x since it submitted x
  abbrev pub told_in : Party → List Party → List Item → Bytes → List PlacedEvidence
  told_in me hubs items x = flat_map (told me hubs x) (items_after x items)

  -- the fate of the set of x at a place
  abbrev pub fate_in : Party → List Party → List Item → Bytes → PlaceOfSet → Fate
  fate_in me hubs items x k = first_told k (told_in me hubs items x)

  -- the key of the set at a place: ISA05 and ISA06, ISA13, and the place
  abbrev pub key_of : Bytes → PlaceOfSet → TransactionSetKey
  key_of b k = record { sender = p.sender b; icn = p.number b; group = k.group; set = k.set }

  -- a set of these bytes as a posting
  abbrev pub posting_of : Bytes → PlacedTransactionSet → Posting
  posting_of b s = record {
    key = key_of b s.place;
    functional = s.functional;
    set = s.set;
    number = s.number;
    bytes = s.bytes;
  }

  -- the sets of an arrival that its kept reply accepts
  abbrev pub posted_by : Item → List Posting
  posted_by (Submitted x) = []
  posted_by (Came by b None) = []
  posted_by (Came by b (Some r)) =
      map (posting_of b) (filter (λ s. takes (p.result b r s.place)) (p.sets b))

  -- all that was taken over, in the order of arrival
  abbrev pub postings : List Item → List Posting
  postings items = flat_map posted_by items

  -- the bytes of each posting under a key
  abbrev pub posted_under : TransactionSetKey → List Item → List Bytes
  posted_under k items = map (λ q. q.bytes) (filter (λ q. is_same_key k q.key) (postings items))
