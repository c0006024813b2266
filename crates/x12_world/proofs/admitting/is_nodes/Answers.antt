-- The first hub's party, a station's, or the second hub's.
use Rattle.std.proofs.Common.{rules, ◌≡◌, Bool, true, false, ◌∙◌, subst, sym, refl}
use Rattle.std.specs.Prelude.{◌||◌}
use Rattle.x12_judge.specs.Agreement.{is_same_party}
use Rattle.x12_world.specs.Running.{hubs_in}
use Rattle.x12_world.proofs.RunningLemmas.{all_named}
use Rattle.x12_world.proofs.admitting.is_nodes.Goals as goal

or_first : (a b c r : Bool) → a ≡ false → r ≡ b → r ≡ true → r ≡ (a || (b || c))
or_first a b c r e f is = rw (e, sym f, is) refl

or_last : (a b c d r : Bool) → a ≡ false → r ≡ b → r ≡ false → d ≡ c → d ≡ (a || (b || c))
or_last a b c d r e f is g = rw (e, sym f, is) g

pub returns-then-is_stations : goal.returns-then-is_stations
returns-then-is_stations g c =
    let party = c.args.party.now in
    let unlike : is_same_party party c.party.result ≡ false = search rules in
    let other = subst (λ q. is_same_party party q ≡ false) c.party.ensures.party unlike in
    or_first _ _ _ _ other c.is_stations.ensures c.if-is_stations.true ∙ sym (all_named party (hubs_in c.args.hubs.now) c.args.stations.now)

pub returns-else-is_stations : goal.returns-else-is_stations
returns-else-is_stations g c =
    let party = c.args.party.now in
    let unlike : is_same_party party c.party.result ≡ false = search rules in
    let other = subst (λ q. is_same_party party q ≡ false) c.party.ensures.party unlike in
    or_last _ _ _ _ _ other c.is_stations.ensures c.if-is_stations.false c.is_second.ensures ∙ sym (all_named party (hubs_in c.args.hubs.now) c.args.stations.now)
