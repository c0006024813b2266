-- How much an outline holds, at most: so that places and counts fit the numbers that hold them.
use Rattle.std.specs.Prelude.{ℕ, ◌≡◌, ◌<◌, ◌≤◌, ◌^◌, List, length, vec_len, Result, IfOk}
use Rattle.std.specs.List.{All}
use Rattle.x12_envelopes.specs.declared.header.Header.{Header}
use Rattle.x12_envelopes.specs.declared.shape.GroupView.{GroupView}
use Rattle.x12_envelopes.specs.declared.shape.Outline.{Outline}
use Rattle.x12_envelopes.specs.declared.shape.OutlineFault.{OutlineFault}
use Rattle.x12_envelopes.specs.Outline.{outline_of}
use Rattle.x12_judge.specs.Interchange.{reading_view}

-- a group with fewer than 2^31 transaction sets, each of fewer than 2^31 bytes
pub record IsSmallGroup (g : GroupView) : Type 0 where
  pub short : All (λ s. length s.bytes.now < 2 ^ 31) g.sets.items
  pub few : vec_len g.sets < 2 ^ 31

-- an outline of at most 32 such groups
pub record IsSmall (o : Outline) : Type 0 where
  pub groups : All IsSmallGroup o.groups.items
  pub few : length o.groups.items ≤ 32

-- read of bytes with this header: their outline, or the fault that ends its reading
pub record IsReadOf (bytes : List ℕ) (h : Header) (reading : Result Outline OutlineFault) : Type 0 where
  pub is : reading_view h.delims reading ≡ outline_of h.delims bytes
  pub small : IfOk reading IsSmall
