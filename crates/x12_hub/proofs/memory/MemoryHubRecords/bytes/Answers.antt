-- The bytes at an item's place are those that it was given for.
use Rattle.std.proofs.Common.{◌∙◌, ◌-◌, ◌≤◌, ap, sym, subst, Some, None}
use Rattle.std.specs.Prelude.{option_map}
use Rattle.std.specs.Option.{SomeIff}
use Rattle.std.specs.Map.Iter.{deref_pair}
use Rattle.x12_hub.proofs.MemoryLemmas.{bytes_is}
use Rattle.x12_hub.proofs.memory.MemoryHubRecords.bytes.Goals as goal

pub returns-in_ok-from_slice-in-Some-get_index : goal.returns-in_ok-from_slice-in-Some-get_index
returns-in_ok-from_slice-in-Some-get_index c =
    let at = subst (λ o. SomeIff o (1 ≤ c.args.item) (c.args.item - 1)) c.in-Some.is c.checked_sub.ensures in
    ap Some (c.in_ok-from_slice-in-Some-get_index.ensures.items ∙ c.deref.ensures.value)
    ∙ bytes_is c.args.self.now.decisions.entries c.args.item c.in-Some.place _ at.0 at.1 (sym c.get_index.ensures.entry ∙ ap (option_map deref_pair) c.in-Some-get_index.is)

pub returns-in-None : goal.returns-in-None
returns-in-None c =
    let at = subst (λ o. SomeIff o (1 ≤ c.args.item) (c.args.item - 1)) c.in-Some.is c.checked_sub.ensures in
    bytes_is c.args.self.now.decisions.entries c.args.item c.in-Some.place None at.0 at.1 (sym c.get_index.ensures.entry ∙ ap (option_map deref_pair) c.in-None.is)
