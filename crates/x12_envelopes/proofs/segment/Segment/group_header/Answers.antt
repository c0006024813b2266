use Rattle.std.proofs.Common.{◌≤◌, ◌==◌, ℕ, length, ap, ◌∙◌, arith}
use Rattle.std.specs.List.{slice_split}
use Rattle.x12_envelopes.proofs.ElementLemmas.{all_eight}
use Rattle.x12_envelopes.proofs.segment.Segment.group_header.Goals as goal

pub returns-clause-elements : goal.returns-clause-elements
returns-clause-elements c = record {
  functional =
      c.take-functional.ensures.first ∙ c.take-identifier.ensures.rest 0 ∙ c.remaining-elements.ensures.each 1;
  sender =
      c.take-sender.ensures.first ∙ c.take-functional.ensures.rest 0 ∙ c.take-identifier.ensures.rest 1 ∙ c.remaining-elements.ensures.each 2;
  receiver =
      c.take-receiver.ensures.first ∙ c.take-sender.ensures.rest 0 ∙ c.take-functional.ensures.rest 1 ∙ c.take-identifier.ensures.rest 2 ∙ c.remaining-elements.ensures.each 3;
  date =
      c.take-date.ensures.first ∙ c.take-receiver.ensures.rest 0 ∙ c.take-sender.ensures.rest 1 ∙ c.take-functional.ensures.rest 2 ∙ c.take-identifier.ensures.rest 3 ∙ c.remaining-elements.ensures.each 4;
  time =
      c.take-time.ensures.first ∙ c.take-date.ensures.rest 0 ∙ c.take-receiver.ensures.rest 1 ∙ c.take-sender.ensures.rest 2 ∙ c.take-functional.ensures.rest 3 ∙ c.take-identifier.ensures.rest 4 ∙ c.remaining-elements.ensures.each 5;
  number =
      c.take-number.ensures.first ∙ c.take-time.ensures.rest 0 ∙ c.take-date.ensures.rest 1 ∙ c.take-receiver.ensures.rest 2 ∙ c.take-sender.ensures.rest 3 ∙ c.take-functional.ensures.rest 4 ∙ c.take-identifier.ensures.rest 5 ∙ c.remaining-elements.ensures.each 6;
  agency =
      c.take-agency.ensures.first ∙ c.take-number.ensures.rest 0 ∙ c.take-time.ensures.rest 1 ∙ c.take-date.ensures.rest 2 ∙ c.take-receiver.ensures.rest 3 ∙ c.take-sender.ensures.rest 4 ∙ c.take-functional.ensures.rest 5 ∙ c.take-identifier.ensures.rest 6 ∙ c.remaining-elements.ensures.each 7;
  version =
      c.take-version.ensures.first ∙ c.take-agency.ensures.rest 0 ∙ c.take-number.ensures.rest 1 ∙ c.take-time.ensures.rest 2 ∙ c.take-date.ensures.rest 3 ∙ c.take-receiver.ensures.rest 4 ∙ c.take-sender.ensures.rest 5 ∙ c.take-functional.ensures.rest 6 ∙ c.take-identifier.ensures.rest 7 ∙ c.remaining-elements.ensures.each 8;
}

pub returns-clause-all : goal.returns-clause-all
returns-clause-all c = λ are_all.
    let d = c.args.self.now.delims in
    let part = c.args.self.now.bytes.now in
    let eighth = c.take-version.ensures.first ∙ c.take-agency.ensures.rest 0 ∙ c.take-number.ensures.rest 1 ∙ c.take-time.ensures.rest 2 ∙ c.take-date.ensures.rest 3 ∙ c.take-receiver.ensures.rest 4 ∙ c.take-sender.ensures.rest 5 ∙ c.take-functional.ensures.rest 6 ∙ c.take-identifier.ensures.rest 7 ∙ c.remaining-elements.ensures.each 8 in
    let few : length (slice_split (λ (b : ℕ). b == d.element) part) ≤ 9 =
    omega (arith, ap length c.remaining-elements.ensures.all, c.take-identifier.ensures.fewer, c.take-functional.ensures.fewer, c.take-sender.ensures.fewer, c.take-receiver.ensures.fewer, c.take-date.ensures.fewer, c.take-time.ensures.fewer, c.take-number.ensures.fewer, c.take-agency.ensures.fewer, c.take-version.ensures.fewer, c.end_behind-are_all.ensures.over are_all) in
    all_eight d part c.take-version.result.now eighth (c.end_behind-are_all.ensures.some are_all) few
