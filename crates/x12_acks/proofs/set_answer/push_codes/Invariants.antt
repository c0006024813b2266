use Rattle.std.proofs.Common.{◌≡◌, ◌∷◌, ◌++◌, take, flat_map, map}
use Rattle.x12_acks.specs.Reply.{code_of_set}
use Rattle.x12_acks.proofs.set_answer.push_codes.Given as goal

abbrev pub invariant-loop-code : goal.invariant-loop-code
invariant-loop-code l = record {
  written : l.out.items ≡ l.initial.out.items ++ flat_map (λ e. l.delims.element ∷ e) (map code_of_set (take l.code-index l.codes));
}
