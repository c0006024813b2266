use Rattle.std.proofs.Common.{◌≡◌, ℕ, true, false, ◌++◌, List, take, drop, map, bytes_eq, vec_len}
use Rattle.std.specs.List.{list_any, enumerate_from}
use Rattle.x12_envelopes.specs.Shape.{TransactionSet, set_view}
use Rattle.x12_judge.specs.Number.{has_seen, AllDiffer, number_of_set}
use Rattle.x12_judge.specs.Set.{TransactionSetVerdict, verdict_of_set}
use Rattle.x12_judge.specs.Verdict.{set_verdict_view}
use Rattle.x12_judge.proofs.group.set_verdicts.Given as goal

abbrev pub invariant-loop-set : goal.invariant-loop-set
invariant-loop-set l =
    let d = l.delims in
    let received = map (set_view d) l.sets in
    let f : ℕ × TransactionSet → TransactionSetVerdict = λ place. verdict_of_set d (list_any (λ i. bytes_eq i place.1.set) l.agreed) l.lenient (take place.0 received) place.1 in
    record {
      seen : l.numbers.differ ≡ false → (n : List ℕ) → has_seen l.numbers n ≡ list_any (λ e. bytes_eq e.number n) (map (set_view d) (take l.set-index l.sets));
      differ : l.numbers.differ ≡ true → AllDiffer (map number_of_set l.sets);
      verdicts :
          map set_verdict_view l.verdicts.items ++ map f (enumerate_from l.set-index (map (set_view d) (drop l.set-index l.sets)))
          ≡ map f (enumerate_from 0 received);
      count : vec_len l.verdicts ≡ l.set-index;
    }
