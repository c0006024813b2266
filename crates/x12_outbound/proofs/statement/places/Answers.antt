use Rattle.std.proofs.Common.{ℕ, List, Some, is_some, ap, sym, ◌∙◌, nat_cmp}
use Rattle.std.specs.BTreeMap.{get_by}
use Rattle.std.specs.Cmp.Lexicographic.{slice_cmp}
use Rattle.std.specs.Map.{update}
use Rattle.std.specs.Str.{bytes_eq}
use Rattle.std.proofs.lemmas.Map.Text.{btree_map_updates_str}
use Rattle.x12_outbound.proofs.ToldLemmas.{places_new, places_old}
use Rattle.x12_outbound.proofs.statement.places.Goals as goal
use Rattle.x12_outbound.proofs.statement.places.Goals.{then-not-contains_key+in_ok-insert, else-not-contains_key}

-- the place of the next set is kept if its number is new
pub loop-index-preserved : goal.loop-index-preserved
loop-index-preserved c number =
    let before = λ (number : List ℕ). get_by (λ k. slice_cmp nat_cmp number k.now) c.loop-index.places in
    let here = ap (λ bytes. is_some (before bytes)) (sym c.as_bytes-number.ensures) ∙ sym c.contains_key.ensures in
    elim c.if-not-contains_key.branch [
      | then-not-contains_key+in_ok-insert w ↦
          rw w.places-is (places_new c.args.sets.now c.loop-index.index c.index-sets-index.result c.loop-index-test.true c.index-sets-index.is
          before (λ number. get_by (λ k. slice_cmp nat_cmp number k.now) w.insert.new.self) w.place_of.result c.loop-index.invariant
          (λ number. btree_map_updates_str c.as_bytes-number.result.now c.loop-index.places w.insert.new.self _ w.in_ok-insert.ensures.updates number
          ∙ ap (λ bytes. update bytes_eq before bytes (Some w.place_of.result) number) c.as_bytes-number.ensures)
          w.place_of.ensures (here ∙ w.if-not-contains_key.true) number)
      | else-not-contains_key w ↦
          rw w.places-is (places_old c.args.sets.now c.loop-index.index c.index-sets-index.result c.loop-index-test.true c.index-sets-index.is
          before c.loop-index.invariant (here ∙ w.if-not-contains_key.false) number)
    ]
