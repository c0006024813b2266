-- What a loss of power may leave of a folder, by what was done in it. Once a file was written, its bytes are on the disk. A name is on the
-- disk once the folder was synced behind the deed that gave it. Until then each name may be, for itself, as at any moment since.
use Rattle.std.specs.Prelude.{◌≡◌, ◌⊎◌, ◌++◌, ◌∷◌, [], Bool, List, None, Option, Some, false, bytes_eq, if◌then◌else◌, true, ℕ}
use Rattle.std.specs.List.{Contains, list_any}
use Rattle.x12_acks.specs.Accepted.{AcceptedSet}
use Rattle.x12_profile.specs.Interchange.{Bytes}
use Rattle.x12_spool.specs.Deed.{Deed, Writes, Renames, Removes, Syncs, Marks, Drafts}
use Rattle.x12_spool.specs.Handing.{hands_over}
use Rattle.x12_spool.specs.Offering.{AreFront}
use Rattle.x12_spool.specs.Whole.{puts_whole}

-- what stands under each name
abbrev pub Folder : Type 0
Folder = List ℕ → Option Bytes

-- what stands under each name after a deed, by what stood there before
abbrev pub after_deed : Deed → Folder → Folder
after_deed (Writes at bytes) was = λ name. if bytes_eq at name then Some bytes else was name
after_deed (Renames from to) was = λ name. if bytes_eq to name then was from else (if bytes_eq from name then None else was name)
after_deed (Removes at) was = λ name. if bytes_eq at name then None else was name
after_deed other was = was

abbrev pub is_sync : Deed → Bool
is_sync Syncs = true
is_sync other = false

abbrev pub is_mark : Deed → Bool
is_mark (Marks count) = true
is_mark other = false

-- This may stand under a name after these deeds and a loss of power: what stood there before them, if none of them is a sync; or what
-- may stand there after the first of them and the rest.
abbrev pub MayStand : Folder → List Deed → List ℕ → Option Bytes → Type 0
MayStand was [] name found = found ≡ was name
MayStand was (d ∷ ds) name found =
    ((list_any is_sync (d ∷ ds) ≡ false) × (found ≡ was name)) ⊎ MayStand (after_deed d was) ds name found

-- a file that was put stands whole under its name, whatever was done before
abbrev pub PutStands : Type 0
PutStands = (was : Folder) (done : List Deed) (name : List ℕ) (bytes : Bytes) (found : Option Bytes)
    → MayStand was (done ++ puts_whole name bytes) name found → found ≡ Some bytes

-- where its putting stopped, it stands whole, or what might have stood there before
abbrev pub StoppedStands : Type 0
StoppedStands = (was : Folder) (done deeds : List Deed) (name : List ℕ) (bytes : Bytes) (found : Option Bytes)
    → AreFront (puts_whole name bytes) deeds
    → MayStand was (done ++ deeds) name found → MayStand was done name found ⊎ (found ≡ Some bytes)

-- the draft of each of these postings was written, and then their folder was synced
pub record DraftsStand (new : List AcceptedSet) (deeds : List Deed) : Type 0 where
  pub before : List Deed
  pub behind : List Deed
  pub are : deeds ≡ before ++ behind
  pub drafted : (p : AcceptedSet) → Contains new p → Contains before (Drafts p)
  pub synced : list_any is_sync behind ≡ true

-- where the mark may be on the disk, the draft of each posting that it counts anew is
abbrev pub MarkedStand : Type 0
MarkedStand = (marked new : List AcceptedSet) (count : ℕ) (deeds : List Deed)
    → AreFront (hands_over marked new count) deeds → list_any is_mark deeds ≡ true → DraftsStand new deeds
