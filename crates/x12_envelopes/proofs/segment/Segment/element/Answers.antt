use Rattle.std.proofs.Common.{rules, tests, ℕ, List, Option, ◌==◌, option_map, unwrap_or, [], ap, sym, ◌∙◌}
use Rattle.std.specs.Borrow.{Bor}
use Rattle.std.proofs.lemmas.Iterator.Consumers.{nth_from_yields_List}
use Rattle.std.proofs.lemmas.Iterator.Splits.{YieldsList-from_slice_split}
use Rattle.x12_envelopes.proofs.ElementLemmas.{element_is}
use Rattle.x12_envelopes.proofs.segment.Segment.element.Goals as goal

pub returns-in-Some : goal.returns-in-Some
returns-in-Some c =
    let found = nth_from_yields_List c.nth.result c.nth.new.self c.args.n c.nth.ensures.ran (YieldsList-from_slice_split _ (λ (b : ℕ). b == c.args.self.now.delims.element) c.args.self.now.bytes.now c.split.ensures.rest c.split.ensures.done c.split.ensures.closure (λ x b q k. search (rules, tests))) in
    ap (λ (o : Option (List ℕ)). unwrap_or o []) (ap (option_map (λ (b : Bor (List ℕ)). b.now)) (sym c.in-Some.is) ∙ found) ∙ element_is c.args.self.now.delims c.args.self.now.bytes.now c.args.n

pub returns-in-None : goal.returns-in-None
returns-in-None c =
    let found = nth_from_yields_List c.nth.result c.nth.new.self c.args.n c.nth.ensures.ran (YieldsList-from_slice_split _ (λ (b : ℕ). b == c.args.self.now.delims.element) c.args.self.now.bytes.now c.split.ensures.rest c.split.ensures.done c.split.ensures.closure (λ x b q k. search (rules, tests))) in
    ap (λ (o : Option (List ℕ)). unwrap_or o []) (ap (option_map (λ (b : Bor (List ℕ)). b.now)) (sym c.in-None.is) ∙ found) ∙ element_is c.args.self.now.delims c.args.self.now.bytes.now c.args.n
