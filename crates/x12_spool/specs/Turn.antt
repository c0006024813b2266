-- What a turn makes a node do, and what it does in the folders.
use Rattle.std.specs.Prelude.{◌≡◌, ◌≢◌, ◌⊎◌, ◌||◌, ◌++◌, ◌∷◌, [], Bool, List, Option, false, map, true, ℕ}
use Rattle.x12_envelopes.specs.Transmission.{AreSlices}
use Rattle.x12_profile.specs.Interchange.{Bytes}
use Rattle.x12_spool.specs.declared.node.Node.{Ghosts}
use Rattle.x12_spool.specs.declared.node.Reason.{Reason}
use Rattle.x12_spool.specs.declared.spool.Word.{Word}
use Rattle.x12_spool.specs.declared.spool.Word.TheVariants.{Plain, Item, Taken}
use Rattle.x12_spool.specs.Deed.{File, Deed, AddsDeeds, Lists, Reads, PassesOver, Sends, Confirms, SetsAside, Removes}

-- some deeds with this property were done, where they are told
abbrev pub Does : Option (List Deed) → Option (List Deed) → (List Deed → Type 0) → Type 0
Does old new P = (deeds : List Deed) × P deeds × AddsDeeds old new deeds

-- the word for the hub, of a file that holds one of its items, where an interchange of the file was taken
abbrev pub word_for_hub : Word → Bool → List Deed
word_for_hub Plain any = []
word_for_hub (Item item) true = Confirms item ∷ []
word_for_hub (Item item) false = []
word_for_hub (Taken item) any = []

-- the name of a file says of no item that it was taken: so the file is to be read
abbrev pub IsToRead : File → Type 0
IsToRead f = (item : ℕ) → f.word ≢ Taken item

module _ {N : Type 0} (node : Ghosts N) where
  -- an interchange is taken, and what the node sends is put where it is taken on
  pub record TakesInterchange (b : Bytes) (old new : N) (deeds : List Deed) : Type 0 where
    pub sends : List Bytes
    pub step : node.takes old new b sends
    pub deeds_are : deeds ≡ map Sends sends

  -- an interchange that the node doesn't take is set aside, with the reason
  pub record IsSetAside (name : List ℕ) (b : Bytes) (old new : N) (deeds : List Deed) : Type 0 where
    pub same : node.stays old new
    pub reason : Reason
    pub why : node.refuses old new b reason
    pub deeds_are : deeds ≡ SetsAside name b reason ∷ []

  -- an interchange is taken, where this is so, and else set aside
  abbrev pub TakesOne : List ℕ → Bytes → N → N → Bool → List Deed → Type 0
  TakesOne name b old new true deeds = TakesInterchange b old new deeds
  TakesOne name b old new false deeds = IsSetAside name b old new deeds

  -- it stopped at an interchange: the node took it, or didn't
  abbrev pub MayTakeOne : Bytes → N → N → Type 0
  MayTakeOne b old new = node.stays old new ⊎ ((sends : List Bytes) × node.takes old new b sends)

  -- interchanges are taken or set aside one after the other; and whether any was taken
  abbrev pub TakesAll : List ℕ → List Bytes → N → N → Bool → List Deed → Type 0
  TakesAll name [] old new any deeds = (new ≡ old) × (any ≡ false) × (deeds ≡ [])
  TakesAll name (b ∷ bs) old new any deeds =
      (mid : N) × (one : Bool) × (more : Bool) × (first : List Deed) × (rest : List Deed)
      × TakesOne name b old mid one first × TakesAll name bs mid new more rest
      × (any ≡ one || more) × (deeds ≡ first ++ rest)

  -- it stopped among them: the first ones were taken, and the next one may have been
  pub record TakesSome (name : List ℕ) (all : List Bytes) (old new : N) (deeds : List Deed) : Type 0 where
    pub taken : List Bytes
    pub next : Bytes
    pub rest : List Bytes
    pub are : all ≡ taken ++ next ∷ rest
    pub mid : N
    pub any : Bool
    pub first : TakesAll name taken old mid any deeds
    pub last : MayTakeOne next mid new

  -- A file that was read: it is cut into interchanges, these are taken or set aside in turn, the item that it holds is
  -- confirmed, where an interchange was taken, and then the file is removed.
  pub record TakesRead (f : File) (bytes : Bytes) (old new : N) (deeds : List Deed) : Type 0 where
    pub interchanges : List Bytes
    pub cut : AreSlices interchanges bytes
    pub any : Bool
    pub does : List Deed
    pub took : TakesAll f.name interchanges old new any does
    pub deeds_are : deeds ≡ does ++ (word_for_hub f.word any ++ Removes f.name ∷ [])

  -- it stopped before the file was to be removed: not all of it was taken, or put on
  pub record StopsEarly (f : File) (bytes : Bytes) (old new : N) (deeds : List Deed) : Type 0 where
    pub interchanges : List Bytes
    pub cut : AreSlices interchanges bytes
    pub took :
        TakesSome f.name interchanges old new deeds ⊎ ((any : Bool) × TakesAll f.name interchanges old new any deeds)

  -- it stopped at the removal: all was done and put, and the file is still there
  pub record StopsLate (f : File) (bytes : Bytes) (old new : N) (deeds : List Deed) : Type 0 where
    pub interchanges : List Bytes
    pub cut : AreSlices interchanges bytes
    pub any : Bool
    pub does : List Deed
    pub took : TakesAll f.name interchanges old new any does
    pub deeds_are : deeds ≡ does ++ word_for_hub f.word any

  -- it stopped in a file that was read: before anything, before its removal, or at it
  abbrev pub StopsRead : File → Bytes → N → N → List Deed → Type 0
  StopsRead f bytes old new deeds =
      ((new ≡ old) × (deeds ≡ [])) ⊎ (StopsEarly f bytes old new deeds ⊎ (StopsLate f bytes old new deeds
      ⊎ TakesRead f bytes old new deeds))

  -- the name of a file says that an item was taken: the node hears it, and then the file is removed
  pub record HearsTaken (f : File) (old new : N) (deeds : List Deed) : Type 0 where
    pub item : ℕ
    pub says : f.word ≡ Taken item
    pub hears : node.frees old new item
    pub deeds_are : deeds ≡ Removes f.name ∷ []

  -- a file is read, and taken so
  pub record TakesContent (f : File) (old new : N) (deeds : List Deed) : Type 0 where
    pub is_to_read : IsToRead f
    pub bytes : Bytes
    pub does : List Deed
    pub took : TakesRead f bytes old new does
    pub deeds_are : deeds ≡ Reads f.name bytes ∷ does

  -- a file can't be read, and stays where it is
  pub record PassesFile (f : File) (old new : N) (deeds : List Deed) : Type 0 where
    pub is_to_read : IsToRead f
    pub same : new ≡ old
    pub deeds_are : deeds ≡ PassesOver f.name ∷ []

  -- a file that came is taken; or it can't be read, and stays where it is; or its name is heard
  abbrev pub TakesFile : File → N → N → List Deed → Type 0
  TakesFile f old new deeds =
      TakesContent f old new deeds ⊎ (PassesFile f old new deeds ⊎ HearsTaken f old new deeds)

  -- it stopped in a file that was read
  pub record StopsContent (f : File) (old new : N) (deeds : List Deed) : Type 0 where
    pub is_to_read : IsToRead f
    pub bytes : Bytes
    pub does : List Deed
    pub stopped : StopsRead f bytes old new does
    pub deeds_are : deeds ≡ Reads f.name bytes ∷ does

  -- it stopped where the name of a file is heard: the node heard it, or didn't
  abbrev pub StopsHearing : File → N → N → List Deed → Type 0
  StopsHearing f old new deeds = (deeds ≡ []) × (node.stays old new ⊎ ((item : ℕ) × (f.word ≡ Taken item) × node.frees old new item))

  -- It stopped in a file. Where the file was to be removed, all of it was done.
  abbrev pub StopsIn : File → N → N → List Deed → Type 0
  StopsIn f old new deeds =
      ((new ≡ old) × (deeds ≡ [])) ⊎ (StopsContent f old new deeds ⊎ (StopsHearing f old new deeds ⊎ HearsTaken f old new deeds))

  -- files are taken one after the other
  abbrev pub TakesFiles : List File → N → N → List Deed → Type 0
  TakesFiles [] old new deeds = (new ≡ old) × (deeds ≡ [])
  TakesFiles (f ∷ fs) old new deeds =
      (mid : N) × (first : List Deed) × (rest : List Deed) × TakesFile f old mid first
      × TakesFiles fs mid new rest × (deeds ≡ first ++ rest)

  -- it stopped among them: the first ones were taken, and then it stopped in the next
  pub record StopsInFiles (all : List File) (old new : N) (deeds : List Deed) : Type 0 where
    pub taken : List File
    pub next : File
    pub rest : List File
    pub are : all ≡ taken ++ next ∷ rest
    pub mid : N
    pub first : List Deed
    pub last : List Deed
    pub whole : TakesFiles taken old mid first
    pub part : StopsIn next mid new last
    pub deeds_are : deeds ≡ first ++ last

  -- the files that came are taken, all of them
  pub record TakesListed (old new : N) (deeds : List Deed) : Type 0 where
    pub files : List File
    pub does : List Deed
    pub took : TakesFiles files old new does
    pub deeds_are : deeds ≡ Lists files ∷ does

  -- a turn stopped: nothing was listed, or it stopped among the files that came
  pub record StopsAmong (old new : N) (deeds : List Deed) : Type 0 where
    pub files : List File
    pub does : List Deed
    pub stopped : StopsInFiles files old new does
    pub deeds_are : deeds ≡ Lists files ∷ does

  abbrev pub StopsInListed : N → N → List Deed → Type 0
  StopsInListed old new deeds = ((new ≡ old) × (deeds ≡ [])) ⊎ StopsAmong old new deeds
