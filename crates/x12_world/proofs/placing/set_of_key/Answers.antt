-- The set of a key is the one at its places, under its sender and its number.
use Rattle.std.proofs.Common.{rules, true, false, ◌≡◌, Some, None, option_map, sym, ap, ◌∙◌}
use Rattle.std.specs.Prelude.{find}
use Rattle.x12_acks.specs.Key.{key_view}
use Rattle.x12_judge.specs.Agreement.{is_same_party}
use Rattle.x12_profile.specs.Interchange.{PlacedTransactionSet}
use Rattle.x12_world.specs.Placing.{sets_of_groups, stands_at}
use Rattle.x12_world.proofs.PlacingLemmas.{no_header_in, of_other_sender, of_other_number, of_places}
use Rattle.x12_world.proofs.placing.set_of_key.Goals as goal

pub returns-in_default : goal.returns-in_default
returns-in_default c = no_header_in (key_view c.args.key.now) c.args.bytes.now c.read_header.result c.read_header.ensures c.in_default.not-Ok

pub returns-then-ne : goal.returns-then-ne
returns-then-ne c =
    let h = c.in-Ok.header in
    let other : is_same_party c.args.key.now.sender h.sender ≡ false = search rules in
    of_other_sender (key_view c.args.key.now) c.args.bytes.now h (sym c.read_header.ensures ∙ c.in-Ok.is) other

pub returns-then-key-header : goal.returns-then-key-header
returns-then-key-header c =
    let h = c.in-Ok.header in
    of_other_number (key_view c.args.key.now) c.args.bytes.now h (sym c.read_header.ensures ∙ c.in-Ok.is) c.if-key-header.true

pub returns-in-Some : goal.returns-in-Some
returns-in-Some c =
    let h = c.in-Ok.header in
    let k = c.args.key.now in
    let mine : is_same_party k.sender h.sender ≡ true = search rules in
    let gs = c.in_ok-groups.groups.items in
    let set = c.in-Some.set.now in
    let found : Some set ≡ option_map (λ (t : PlacedTransactionSet). t.bytes) (find (stands_at k.group k.set) (sets_of_groups h.delims gs)) =
    c.in-Some.ensures h.delims ∙ ap (λ xs. option_map (λ (t : PlacedTransactionSet). t.bytes) (find (stands_at k.group k.set) (sets_of_groups h.delims xs))) c.deref.ensures.value in
    ap (λ b. Some (record { receiver = h.receiver; bytes = b })) c.in_ok-from_slice-in-Some.ensures.items
    ∙ of_places (key_view k) c.args.bytes.now h (sym c.read_header.ensures ∙ c.in-Ok.is) gs (Some set)
    mine c.if-key-header.false c.in_ok-groups.ensures.sets found

pub returns : goal.returns
returns c =
    let h = c.in-Ok.header in
    let k = c.args.key.now in
    let mine : is_same_party k.sender h.sender ≡ true = search rules in
    let gs = c.in_ok-groups.groups.items in
    let found : None ≡ option_map (λ (t : PlacedTransactionSet). t.bytes) (find (stands_at k.group k.set) (sets_of_groups h.delims gs)) =
    c.in-None.ensures h.delims ∙ ap (λ xs. option_map (λ (t : PlacedTransactionSet). t.bytes) (find (stands_at k.group k.set) (sets_of_groups h.delims xs))) c.deref.ensures.value in
    of_places (key_view k) c.args.bytes.now h (sym c.read_header.ensures ∙ c.in-Ok.is) gs None
    mine c.if-key-header.false c.in_ok-groups.ensures.sets found
