-- What a node does in its folders.
use Rattle.std.specs.Global.{Global}
use Rattle.std.specs.Prelude.{◌≡◌, ◌++◌, List, None, Option, Some, Vec, ℕ, ⊤}
use Rattle.x12_acks.specs.Accepted.{AcceptedSet}
use Rattle.x12_profile.specs.Interchange.{Bytes}
use Rattle.x12_spool.specs.declared.node.Reason.{Reason}
use Rattle.x12_spool.specs.declared.spool.Waiting.{Waiting}
use Rattle.x12_spool.specs.declared.spool.Word.{Word}

-- a file that came: its name, and what the name says
pub record File : Type 0 where
  pub name : List ℕ
  pub word : Word

abbrev pub file_view : Waiting → File
file_view w = record { name = w.name.items; word = w.word }

pub data Deed : Type 0 where
  -- these are the files that came
  Lists : List File → Deed
  -- the file of this name was read: these bytes
  Reads : List ℕ → Bytes → Deed
  -- the file of this name can't be read: that was told, and the file left where it is
  PassesOver : List ℕ → Deed
  -- an interchange was put where it is taken on
  Sends : Bytes → Deed
  -- and an item of a mailbox, under its number
  Puts : ℕ → Bytes → Deed
  -- and the word that an item was taken
  Confirms : ℕ → Deed
  -- bytes of the file of this name were set aside, with the reason
  SetsAside : List ℕ → Bytes → Reason → Deed
  -- the file of this name was to be removed
  Removes : List ℕ → Deed
  -- of the postings that were drafted before, these were named, and the rest dropped
  Settles : List AcceptedSet → Deed
  -- a posting was written where nobody looks yet
  Drafts : AcceptedSet → Deed
  -- the records have it that so many postings are handed over
  Marks : ℕ → Deed
  -- a posting that was drafted has its name
  Names : AcceptedSet → Deed
  -- a file of this name was written, and its bytes are on the disk
  Writes : List ℕ → Bytes → Deed
  -- a file got another name, in place of the file that had it
  Renames : List ℕ → List ℕ → Deed
  -- the folder's names are on the disk
  Syncs : Deed

-- where deeds are told, these were done
abbrev pub AddsDeeds : Option (List Deed) → Option (List Deed) → List Deed → Type 0
AddsDeeds None new deeds = ⊤
AddsDeeds (Some was) new deeds = new ≡ Some (was ++ deeds)

-- a file was read, or can't be
abbrev pub reading : List ℕ → Option (Vec ℕ Global) → Deed
reading name (Some bytes) = Reads name bytes.items
reading name None = PassesOver name
