-- The main theorem's statement: what holds of every world and of every later one.
use Rattle.std.specs.Prelude.{◌≢◌, ℕ, [], ◌∷◌, IsTrue}
use Rattle.x12_profile.specs.Result.{counts_as_accepted}
use Rattle.x12_profile.specs.Interchange.{Bytes, PlacedTransactionSet}
use Rattle.x12_profile.specs.Profile.{Profile}
use Rattle.x12_world.specs.World.{World}
use Rattle.x12_world.specs.Held.{HoldsAs, PostedAs, IsHandled}
use Rattle.x12_acks.specs.Evidence.{FinalFate}
use Rattle.x12_outbound.specs.Fate.{ended}
use Rattle.x12_outbound.specs.declared.fate.Fate.TheVariants.{Pending, Rejected}
use Rattle.x12_outbound.specs.declared.fate.Fate.{Fate}

module _ (p : Profile) where
  -- of any two worlds; that the second is the first or a later one is said where it is used
  pub record Headline (before after : World) : Type 0 where
    -- what is held as accepted stands exactly once in the receiver's postings, byte for byte
    pub accepted_once : (i : ℕ) (x : Bytes) (t : PlacedTransactionSet) (fate : FinalFate) →
        IsTrue (counts_as_accepted fate) → HoldsAs p before i x t (ended fate)
        → PostedAs p before x t (t.bytes ∷ [])
    -- one held as rejected stands there not at all, then or later
    pub rejected_never : (i : ℕ) (x : Bytes) (t : PlacedTransactionSet) →
        HoldsAs p before i x t Rejected
        → PostedAs p after x t []
    -- a final fate never changes
    pub final_stays : (i : ℕ) (x : Bytes) (t : PlacedTransactionSet) (fate : Fate) → fate ≢ Pending
        → HoldsAs p before i x t fate → HoldsAs p after i x t fate
    -- once the kept acknowledgment is handled, no set is pending
    pub handled_settles : (i : ℕ) (x : Bytes) (t : PlacedTransactionSet) → IsHandled p before i x
        → ¬ (HoldsAs p before i x t Pending)
