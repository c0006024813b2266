-- what is left decides
use Rattle.std.proofs.Common.{◌≡◌, drop}
use Rattle.std.specs.List.{list_all}
use Rattle.x12_envelopes.specs.Party.{is_plain_party}
use Rattle.x12_nodes.proofs.founding.are_plain.Given as goal

abbrev pub invariant-loop-party : goal.invariant-loop-party
invariant-loop-party l =
    list_all is_plain_party (drop l.party-index l.parties) ≡ list_all is_plain_party l.parties
