-- A packet is where its name says.
use Rattle.std.proofs.Common.{◌≡◌, ◌≢◌, ◌<◌, ◌≤◌, ◌+◌, ◌-◌, ℕ, List, length, get_or, Option, Some, None, Vec, Bor, map, sym, ap, ◌∙◌, refl, arith, subst}
use Rattle.std.specs.Prelude.{slice_get, option_map, option_and_then, IfSome, MatchOption}
use Rattle.std.specs.Option.{option_copied}
use Rattle.std.specs.Global.{Global}
use Rattle.std.specs.List.{HoldsAt}
use Rattle.std.proofs.lemmas.Option.{slice_get_past, slice_get_read, slice_get-map}
use Rattle.x12_world.specs.Packet.{packet_of}
use Rattle.x12_core.specs.View.{packet_view}
use Rattle.x12_world.specs.View.{held_view, packets_view}
use Rattle.x12_core.specs.declared.packet.Packet.{Packet}
use Rattle.x12_world.proofs.PacketLemmas.{packet_at, no_event, no_place, name_of}
use Rattle.x12_world.proofs.packets.find.Goals as goal

-- what `get` finds is what stands there
read : {X : Type 0} (r : Option (Bor X)) (xs : List X) (i : ℕ) → IfSome r (λ x. x.now ≡ get_or xs i x.now) → MatchOption r (length xs ≤ i) (λ x. (i < length xs) × HoldsAt (λ y. x.now ≡ y) xs i)
    → option_copied r ≡ slice_get xs i
read None xs i value h = sym (slice_get_past xs i h)
read (Some x) xs i value h = sym (slice_get_read xs (length xs) i x.now refl h.0 value)

below : (n : ℕ) → n ≢ 0 → n ≡ 1 + (n - 1)
below n some = omega arith

-- the packet at these places is that of this name
at_places : (held : List (Vec Packet Global)) (e p : ℕ) → e ≢ 0 → p ≢ 0 → (o : Option (Vec Packet Global)) → slice_get held (e - 1) ≡ o
    → packet_of (held_view held) (name_of e p) ≡ option_and_then (λ qs. slice_get qs (p - 1)) (option_map packets_view o)
at_places held e p event place o is =
    packet_at 1 (map packets_view held) (e - 1) (p - 1) e p (below e event) (below p place)
    ∙ ap (option_and_then (λ qs. slice_get qs (p - 1))) (slice_get-map packets_view held (e - 1) ∙ ap (option_map packets_view) is)

pub returns-then-name-eq0 : goal.returns-then-name-eq0
returns-then-name-eq0 c = sym (no_event 0 (map packets_view c.args.held.now.items) _ _ c.if-name-eq0.true)

pub returns-then-name-eq0-2 : goal.returns-then-name-eq0-2
returns-then-name-eq0-2 c = sym (no_place 1 (map packets_view c.args.held.now.items) _ _ c.if-name-eq0-2.true)

pub returns-in-Some : goal.returns-in-Some
returns-in-Some c =
    let held = c.args.held.now.items in
    let packets = c.in-Some.packets.now in
    let e = c.args.name.now.event in
    let p = c.args.name.now.place in
    let outer = c.in-Some.ensures.lookup in
    let inner = c.get-in-Some.ensures.lookup in
    let found : slice_get held (e - 1) ≡ Some packets = subst (λ xs. slice_get xs (e - 1) ≡ Some packets) c.deref.ensures.value (slice_get_read c.deref.result.now (length c.deref.result.now) (e - 1) packets refl outer.3.0 outer.1) in
    let item : option_copied c.get-in-Some.result ≡ slice_get packets.items (p - 1) = read c.get-in-Some.result c.deref-in-Some.result.now (p - 1) inner.1 inner.3 ∙ ap (λ xs. slice_get xs (p - 1)) c.deref-in-Some.ensures.value in
    ap (option_map packet_view) item
    ∙ sym (slice_get-map packet_view packets.items (p - 1))
    ∙ sym (at_places held e p c.if-name-eq0.false c.if-name-eq0-2.false (Some packets) found)

pub returns-in-None : goal.returns-in-None
returns-in-None c =
    let held = c.args.held.now.items in
    let e = c.args.name.now.event in
    let outer = c.in-None.ensures.lookup in
    let found : slice_get held (e - 1) ≡ None = subst (λ xs. slice_get xs (e - 1) ≡ None) c.deref.ensures.value (slice_get_past c.deref.result.now (e - 1) outer.3) in
    sym (at_places held e c.args.name.now.place c.if-name-eq0.false c.if-name-eq0-2.false None found)
