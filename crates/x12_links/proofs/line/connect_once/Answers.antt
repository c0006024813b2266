use Rattle.std.proofs.Common.{◌≡◌, ◌==◌, ◌∙◌, false, inl, refl, subst, sym, true, arith}
use Rattle.std.proofs.lemmas.Grind.{common_steps}
use Rattle.std.specs.List.{Contains, list_any}
use Rattle.x12_links.specs.Worker.{senders_of}
use Rattle.x12_links.proofs.NetLemmas.{connected_more, is_sender_of, isnt_sender_of, way_of}
use Rattle.x12_links.proofs.line.connect_once.Goals as goal

-- there is one already
pub returns-then-is_open-clause-opened : goal.returns-then-is_open-clause-opened
returns-then-is_open-clause-opened g c =
    inl (is_sender_of c.args.inlets.now.items c.args.way.from (subst (λ xs. list_any (λ i. i.from == c.args.way.from) xs ≡ true) c.deref.ensures.value (sym c.is_open.ensures ∙ c.if-is_open.true)), refl)

-- one more
pub returns-clause-connected : goal.returns-clause-connected
returns-clause-connected g c =
    let did = c.in_ok-link.ensures in
    let none = subst (λ xs. list_any (λ i. i.from == c.args.way.from) xs ≡ false) c.deref.ensures.value (sym c.is_open.ensures ∙ c.if-is_open.false) in
    connected_more (g.W.Wire.follows c.args.wire.now) c.args.plan c.args.way.to c.args.links.now.items c.push.new.self.items c.args.inlets.now.items c.push-2.new.self.items c.in_ok-link.link c.in_ok-link.inlet c.requires
    (record { link = did.link; inlet = did.inlet; one = did.one; way_is = way_of c.in_ok-link.link.way c.args.way c.in_ok-link.inlet.from did.way.0 did.way.2; plan_is = did.way.1 })
    (λ has. isnt_sender_of c.args.inlets.now.items c.args.way.from none (subst (Contains (senders_of c.args.inlets.now.items)) did.way.2 has))
    c.in_ok-push.ensures.items c.in_ok-push-2.ensures.items

pub returns-clause-opened : goal.returns-clause-opened
returns-clause-opened g c = grind (arith, common_steps)
