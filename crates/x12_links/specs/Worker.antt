-- A worker between what it took out of its inboxes, what it asked its node, and what was delivered.
use Rattle.std.specs.Prelude.{◌≡◌, ◌≢◌, ◌<◌, ◌≤◌, ◌++◌, ◌∷◌, [], All, List, Result, Ok, Err, length, map, slice_index_or, ℕ}
use Rattle.std.specs.List.{Contains}
use Rattle.crossbeam_channel.specs.Claims.{view}
use Rattle.x12_links.specs.declared.course.Halt.{Halt}
use Rattle.x12_links.specs.declared.inbox.Inlet.{Inlet}
use Rattle.x12_links.specs.declared.worker.Delivery.{Delivery}
use Rattle.x12_links.specs.declared.worker.Delivery.TheVariants.{Made, Refused}
use Rattle.x12_links.specs.Link.{IsInlet}

-- no number stands in a list twice
abbrev pub AreDistinct : List ℕ → Type 0
AreDistinct xs = (j k d : ℕ) → j < length xs → k < length xs → slice_index_or xs j d ≡ slice_index_or xs k d → j ≡ k

-- how many parcels at most are cut off where a call ended so
abbrev pub cut_by : {X : Type 0} → Result X Halt → ℕ
cut_by (Ok x) = 0
cut_by (Err halt) = 1

-- a parcel that a node was asked to take, and its answer
pub record AskedParcel (P : Type 0) : Type 0 where
  pub parcel : P
  pub answer : Delivery

module _ {P : Type 0} where
  -- a parcel was delivered only where the node says so
  abbrev pub made : Result Delivery Halt → P → List P
  made (Ok Made) x = x ∷ []
  made (Ok Refused) x = []
  made (Err halt) x = []

  -- of this sender's parcels these were delivered more, and of the others' nothing
  pub record GetsOneMore (old new : ℕ → List P) (sender : ℕ) (more : List P) : Type 0 where
    pub this : new sender ≡ old sender ++ more
    pub others : (from : ℕ) → from ≢ sender → new from ≡ old from

  -- those that the node took, in their order
  abbrev pub made_of : List (AskedParcel P) → List P
  made_of [] = []
  made_of (a ∷ more) = made (Ok a.answer) a.parcel ++ made_of more

  -- The node was asked to take each parcel, in this order, and gave these answers; those that it took were delivered. At the
  -- end a halt cut off so many at most.
  pub record IsChosen (answers : P → Delivery → Type 0) (most : ℕ) (delivered took : List P) : Type 0 where
    pub asked : List (AskedParcel P)
    pub each : All (λ a. answers a.parcel a.answer) asked
    pub are : delivered ≡ made_of asked
    pub cut : List P
    pub few : length cut ≤ most
    pub all : took ≡ map (λ a. a.parcel) asked ++ cut

  -- the nodes for whose parcels inboxes are
  abbrev pub senders_of : List (Inlet P) → List ℕ
  senders_of inlets = map (λ i. i.from) inlets

  -- the same inboxes
  abbrev pub AreSameInboxes : List (Inlet P) → List (Inlet P) → Type 0
  AreSameInboxes old new = (map (λ i. i.receiver) new ≡ map (λ i. i.receiver) old) × (senders_of new ≡ senders_of old)

module _ {P : Type 0} (answered : ℕ → P → Delivery → Type 0) where
  -- what was taken out of an inbox, the node was asked, and what it took was delivered
  abbrev pub IsServed : ℕ → (ℕ → List P) → Inlet P → Type 0
  IsServed most delivered i = IsInlet i × IsChosen (answered i.from) most (delivered i.from) (view i.pass).took

  -- and so of each inbox of a worker, which are of different senders; of other nodes' parcels none was delivered
  pub record IsServing (most : ℕ) (delivered : ℕ → List P) (inlets : List (Inlet P)) : Type 0 where
    pub are : All (IsServed most delivered) inlets
    pub apart : AreDistinct (senders_of inlets)
    pub only : (from : ℕ) → ¬ (Contains (senders_of inlets) from) → delivered from ≡ []

  -- so it is of the same inboxes later, where a halt may have cut off the last parcel
  pub record Serves (delivered : ℕ → List P) (old new : List (Inlet P)) : Type 0 where
    pub serving : IsServing 1 delivered new
    pub same : AreSameInboxes old new
