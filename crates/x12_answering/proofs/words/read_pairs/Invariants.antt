use Rattle.std.proofs.Common.{◌≡◌, ◌++◌, Some, drop, map, is_none}
use Rattle.std.specs.List.{list_any}
use Rattle.x12_envelopes.specs.Writing.{texts}
use Rattle.x12_answering.specs.Words.{pair_in_word}
use Rattle.x12_answering.proofs.words.read_pairs.Given as goal

abbrev pub invariant-loop-word : goal.invariant-loop-word
invariant-loop-word l = record {
  pairs : map (λ pair. Some pair) l.pairs.items ++ map pair_in_word (texts (drop l.word-index l.words)) ≡ map pair_in_word (texts l.words);
  fault : list_any (λ word. is_none (pair_in_word word)) (texts (drop l.word-index l.words)) ≡ list_any (λ word. is_none (pair_in_word word)) (texts l.words);
}
