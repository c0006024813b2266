-- The next event's packets stand behind the others.
use Rattle.std.proofs.Common.{◌≡◌, ◌+◌, ◌∷◌, [], map, length, ap, ◌∙◌, arith}
use Rattle.std.specs.Prelude.{vec_len}
use Rattle.std.proofs.lemmas.List.{map-append, length-map}
use Rattle.x12_world.specs.View.{held_view, named_from, packets_view}
use Rattle.x12_world.proofs.PacketLemmas.{one_more}
use Rattle.x12_world.proofs.packets.hold.Goals as goal

pub returns-clause-held : goal.returns-clause-held
returns-clause-held c =
    let held = c.args.held.now in
    let many : vec_len held + 1 ≡ 1 + length (map packets_view held.items) = let e = held.ok.0 in let l = length-map held.items packets_view in omega arith in
    ap held_view c.push_reserved.ensures.items
    ∙ ap (named_from 1) (map-append packets_view held.items (c.args.packets ∷ []))
    ∙ one_more 1 (map packets_view held.items) (packets_view c.args.packets) (vec_len held + 1) many
