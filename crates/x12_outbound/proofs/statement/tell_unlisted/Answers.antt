use Rattle.std.proofs.Common.{Vec, Global, Option, ◌++◌, ◌∷◌, [], Some, is_some, take, ap, sym, ◌∙◌, nat_cmp, arith}
use Rattle.std.proofs.lemmas.Grind.{common_steps}
use Rattle.std.specs.BTreeMap.{get_by}
use Rattle.std.specs.Cmp.Lexicographic.{slice_cmp}
use Rattle.x12_envelopes.specs.Shape.{bytes_of_set_no}
use Rattle.x12_outbound.specs.declared.fate.FinalFate.TheVariants.{Accepted}
use Rattle.x12_outbound.specs.declared.evidence.Statement.{Statement}
use Rattle.x12_outbound.specs.Statement.{told_of_set, unlisted_told}
use Rattle.x12_outbound.proofs.ToldLemmas.{unlisted_more, listed_more}
use Rattle.x12_outbound.proofs.statement.tell_unlisted.Goals as goal
use Rattle.x12_outbound.proofs.statement.tell_unlisted.Goals.{then-not-contains_key+in_ok-push, else-not-contains_key}

-- the next set is told of if it isn't listed
pub loop-index-preserved : goal.loop-index-preserved
loop-index-preserved c =
    let o = c.args.origin.now in
    let listed = c.args.listed.now in
    let before = c.args.out.now.items in
    let sets = c.args.sets.now in
    let at = c.loop-index.index in
    let set = c.index-sets-index.result in
    let items = λ (v : Vec (Option Statement) Global). v.items in
    let here = sym (c.in_ok-numbers.ensures (bytes_of_set_no set.number)) ∙ ap (λ bytes. is_some (get_by (λ k. slice_cmp nat_cmp bytes k.now) c.in_ok-numbers.numbers)) (sym c.as_bytes.ensures) ∙ sym c.contains_key.ensures in
    elim c.if-not-contains_key.branch [
      | then-not-contains_key+in_ok-push w ↦
          ap items w.out-is ∙ w.in_ok-push.ensures.items ∙ ap (λ items. items ++ Some w.tell.result ∷ []) c.loop-index.invariant
          ∙ ap (λ s. (before ++ unlisted_told o (take at sets) listed) ++ Some s ∷ [])
          (w.tell.ensures ∙ ap (λ place. told_of_set o Accepted (place, set)) w.place_of.ensures)
          ∙ unlisted_more o sets at set c.loop-index-test.true c.index-sets-index.is listed before (here ∙ w.if-not-contains_key.true)
      | else-not-contains_key w ↦
          ap items w.out-is ∙ c.loop-index.invariant
          ∙ ap (λ rest. before ++ rest) (listed_more o sets at set c.loop-index-test.true c.index-sets-index.is listed (here ∙ w.if-not-contains_key.false))
    ]

pub returns : goal.returns
returns c = grind (arith, common_steps)
