-- The rule of an inbox: what was put is what was taken and then what it holds. One pass at most may put, and it has the
-- list of what was put; one at most may take, and it has the list of what was taken.
use Rattle.std.specs.Prelude.{◌≡◌, ◌++◌, ◌∷◌, [], Bool, List, true, ℕ}
use mathlib.Core.Option.{some}
use lib.ListN.{get_elem?}
use Rattle.x12_links.specs.declared.inbox.Log.{Log}

module _ {P : Type 0} where
  -- what a pass knows
  abbrev pub log : Bool → Bool → List P → List P → Log P
  log puts takes put took = record { puts = puts; takes = takes; put = put; took = took }

  -- once it put a parcel
  abbrev pub with_put : Log P → P → Log P
  with_put v x = log v.puts v.takes (v.put ++ x ∷ []) v.took

  -- once it took one
  abbrev pub with_taken : Log P → P → Log P
  with_taken v x = log v.puts v.takes v.put (v.took ++ x ∷ [])

  -- the pass of this place is the one that puts, and the one that takes, if it does
  abbrev pub Fits : ℕ → ℕ → List P → List P → ℕ → Log P → Type 0
  Fits putter taker put took place v =
      (v.puts ≡ true → (place ≡ putter) × (v.put ≡ put)) × (v.takes ≡ true → (place ≡ taker) × (v.took ≡ took))

  abbrev pub Relayed : List P → List (Log P) → Type 0
  Relayed items views =
      (putter : ℕ) × (taker : ℕ) × (put : List P) × (took : List P) × (put ≡ took ++ items)
      × ((place : ℕ) (v : Log P) → get_elem? views place ≡ some v → Fits putter taker put took place v)
