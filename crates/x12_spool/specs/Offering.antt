-- What a node has to put by itself, and what is put of it.
use Rattle.std.specs.Prelude.{◌≡◌, ◌⊎◌, ◌++◌, [], List, None, Option, Some, map, ℕ}
use Rattle.x12_profile.specs.Interchange.{Bytes}
use Rattle.x12_spool.specs.declared.node.Node.{Ghosts}
use Rattle.x12_spool.specs.Node.{Offered}
use Rattle.x12_spool.specs.Deed.{Deed, Puts, Sends}

-- an item is put under its number, anything else is sent
abbrev pub deed_of : Option ℕ → Bytes → Deed
deed_of (Some item) bytes = Puts item bytes
deed_of None bytes = Sends bytes

abbrev pub deed_of_offer : Offered → Deed
deed_of_offer o = deed_of o.item o.bytes

-- these deeds, and then some others, are all of them
abbrev pub AreFront : List Deed → List Deed → Type 0
AreFront all deeds = (rest : List Deed) × (deeds ++ rest ≡ all)

module _ {N : Type 0} (node : Ghosts N) where
  -- all that a node has to put is put, in its order
  pub record PutsAll (now : ℕ) (old new : N) (deeds : List Deed) : Type 0 where
    pub offered : List Offered
    pub offers : node.offers old new now offered
    pub deeds_are : deeds ≡ map deed_of_offer offered

  -- a front of what it has to put
  pub record PutsFront (now : ℕ) (old new : N) (deeds : List Deed) : Type 0 where
    pub offered : List Offered
    pub offers : node.offers old new now offered
    pub front : AreFront (map deed_of_offer offered) deeds

  -- It has nothing to tell, and stays; or a front of what it has to put was put.
  abbrev pub PutsSome : ℕ → N → N → List Deed → Type 0
  PutsSome now old new deeds = (node.stays old new × (deeds ≡ [])) ⊎ PutsFront now old new deeds
