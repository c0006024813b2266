-- A history that is told again: the submissions and first arrivals by their numbers, without the
-- replies that are kept. Fates are functions of what is told; postings of the kept replies.
use Rattle.std.specs.Prelude.{◌≡◌, ℕ, ◌+◌, length, List, [], ◌∷◌, ◌++◌, map, flat_map, Some, None, option_to_list, All}
use Rattle.std.specs.List.{range_with_len}
use Rattle.x12_acks.specs.Accepted.{AcceptedSet}
use Rattle.x12_envelopes.specs.declared.party.Party.{Party}
use Rattle.x12_numbers.specs.Book.{Numbers}
use Rattle.x12_profile.specs.X12.{x12}
use Rattle.x12_station.specs.Durable.{IsHistoryOf, item_at, items_of}
use Rattle.x12_station.specs.History.{Item, Submitted, Came, posted_by, postings}
use Rattle.x12_station.specs.Station.{Station}
use Rattle.x12_station.specs.Stored.{Origin, Stored, marks_of}
use Rattle.x12_verify.specs.Arrived.{IsRightArrival}

-- an item, without the reply that is kept for it
abbrev pub as_told : Item → Item
as_told (Submitted x) = Submitted x
as_told (Came by b r) = Came by b None

-- a history, without its replies
abbrev pub all_as_told : List Item → List Item
all_as_told items = map as_told items

-- the submissions and first arrivals of the numbers up to this one
abbrev pub items_up_to : Stored → ℕ → List Item
items_up_to s n = flat_map (λ k. option_to_list (item_at s k)) (range_with_len 1 n)

-- what was submitted is as it is; an arrival is filed rightly, and answered rightly by its edition
abbrev pub IsRightItem : Stored → Party → Numbers → Item → Type 0
IsRightItem s me book (Submitted x) = Unit {0}
IsRightItem s me book (Came by b r) = IsRightArrival s me book by b r

-- of the same party at the same hubs, with the same marks
abbrev pub HasSameOrigin : Station → Station → Type 0
HasSameOrigin old new =
    (new.me ≡ old.me) × (new.hubs ≡ old.hubs) × (new.marks ≡ old.marks)

-- The item of this number is right; a station is told it, without its reply, and the postings begin
-- with its own.
pub record IsTold (s : Stored) (me : Party) (book : Numbers) (n : ℕ) (old new : Station)
    (posted left : List AcceptedSet) : Type 0 where
  pub item : Item
  pub at : item_at s n ≡ Some item
  pub right : IsRightItem s me book item
  pub told : all_as_told new.items ≡ all_as_told old.items ++ as_told item ∷ []
  pub origin : HasSameOrigin old new
  pub posted_is : posted ≡ posted_by x12 item ++ left

-- So are the items of all numbers up to this one: `told` is what the station has, `all` the
-- postings, and `left` those that are left.
pub record AreTold (s : Stored) (me : Party) (book : Numbers) (n : ℕ) (first now : Station)
    (all left : List AcceptedSet) : Type 0 where
  pub right : All (IsRightItem s me book) (items_up_to s n)
  pub told : all_as_told now.items
      ≡ all_as_told first.items ++ all_as_told (items_up_to s n)
  pub origin : HasSameOrigin first now
  pub counted : length now.items ≡ length first.items + n
  pub posted : all ≡ postings x12 (items_up_to s n) ++ left

-- a station of records of this origin, which was told nothing yet
pub record IsOpenAgain (o : Origin) (s : Station) : Type 0 where
  pub empty : s.items ≡ []
  pub me : s.me ≡ o.me
  pub hubs : s.hubs ≡ o.hubs
  pub marks : s.marks ≡ marks_of o

-- Records that a station of this origin wrote, which was told these items and no other.
pub record HoldsTold (s told : Stored) (o : Origin) (book : Numbers) (n : ℕ)
    (all left : List AcceptedSet) : Type 0 where
  pub wrote : IsHistoryOf o.me o.hubs told
  pub right : All (IsRightItem s o.me book) (items_up_to s n)
  pub items : all_as_told (items_of told) ≡ all_as_told (items_up_to s n)
  pub posted : all ≡ postings x12 (items_up_to s n) ++ left
