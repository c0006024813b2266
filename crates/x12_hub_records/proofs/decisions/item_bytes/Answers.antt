use Rattle.std.proofs.Common.{pos, [], ◌∷◌, ◌∙◌, ap, w64}
use Rattle.std.proofs.lemmas.Int.{to_z-of_z}
use Rattle.sqlite.specs.declared.types.Value.TheVariants.{Int}
use Rattle.sqlite.specs.Held.{state}
use Rattle.sqlite.specs.State.{Shown}
use Rattle.x12_tables.proofs.FirstLemmas.{first_bytes, bytes_are_first}
use Rattle.x12_tables.proofs.ReadLemmas.{answers_with}
use Rattle.x12_hub_records.proofs.FindLemmas.{bytes_text, bytes_asks, finds_bytes}
use Rattle.x12_hub_records.specs.HubContent.{hub_content_of}
use Rattle.x12_hub_records.proofs.decisions.item_bytes.Goals as goal

pub read-requires : goal.read-requires
read-requires g c = bytes_asks

pub returns : goal.returns
returns g c =
    answers_with _ _ _ c.first_value.result (state g.S.Store c.args.conn.now) (state g.S.Store c.read.new.conn) c.read.ensures.reads c.in_ok-rows.ensures.answered c.first_value.ensures (λ has is_open x told.
    let last = has.0 in
    let valid = has.1 in
    let old = state g.S.Store c.args.conn.now in
    let new = state g.S.Store c.read.new.conn in
    let got : Shown bytes_text (Int (pos c.args.item) ∷ []) old new c.in_ok-rows.rows.items = rw (to_z-of_z w64 c.from.result (record { sfits = c.from.type_inv }), c.from.ensures) at (c.in_ok-rows.ensures.shown is_open) in
    bytes_are_first _ _ told ∙ ap first_bytes c.deref.ensures.value ∙ finds_bytes old new last c.args.item c.in_ok-rows.rows.items (hub_content_of old.now.trees) (valid.holds (c.read.ensures.reads.never_won_back is_open)) got)
