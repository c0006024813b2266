-- The elements of a segment, taken one after the other.
use Rattle.std.specs.Prelude.{◌≡◌, ℕ, List, [], ◌∷◌, codes, ◌==◌, if◌then◌else◌, unwrap_or}
use Rattle.std.specs.Prelude.{slice_get, length}
use Rattle.std.specs.List.{slice_split}
use Rattle.x12_envelopes.specs.declared.delimiters.Delims.{Delims}
use Rattle.x12_envelopes.specs.declared.remaining.Remaining.{Remaining}
use Rattle.x12_envelopes.specs.declared.remaining.GroupHeader.{GroupHeader}
use Rattle.x12_envelopes.specs.Segment.{element_of}

-- the elements of GS, behind its identifier
abbrev pub elements_of_gs : GroupHeader → List (List ℕ)
elements_of_gs gs =
    codes "GS"
    ∷ gs.functional.now ∷ gs.sender.now ∷ gs.receiver.now ∷ gs.date.now ∷ gs.time.now
    ∷ gs.number.now ∷ gs.agency.now ∷ gs.version.now ∷ []

-- the elements of that GS
pub record AreOfGs (d : Delims) (part : List ℕ) (gs : GroupHeader) : Type 0 where
  pub functional : gs.functional.now ≡ element_of d part 1
  pub sender : gs.sender.now ≡ element_of d part 2
  pub receiver : gs.receiver.now ≡ element_of d part 3
  pub date : gs.date.now ≡ element_of d part 4
  pub time : gs.time.now ≡ element_of d part 5
  pub number : gs.number.now ≡ element_of d part 6
  pub agency : gs.agency.now ≡ element_of d part 7
  pub version : gs.version.now ≡ element_of d part 8

-- the elements of that GS, the first of them two bytes
abbrev pub AreReadOfGs : Delims → List ℕ → GroupHeader → Type 0
AreReadOfGs d part gs = AreOfGs d part gs × (length gs.functional.now ≡ 2)

-- the elements that are still to come
unfoldable pub elements_left : Remaining → List (List ℕ)
elements_left it = if it.ended then [] else slice_split (λ b. b == it.separator) it.bytes.now

-- one of them by its place from 0: empty where it is missing
abbrev pub left_at : Remaining → ℕ → List ℕ
left_at it n = unwrap_or (slice_get (elements_left it) n) []
