use Rattle.x12_nodes.proofs.FairLemmas.{fair_among_is_fair}
use Rattle.x12_nodes.proofs.HeadlineLemmas.{headline_of_merge}
use Rattle.x12_nodes.proofs.MergeLemmas.{merged_is_run}
use Rattle.x12_nodes.proofs.law.merge_is_run.Goals as goal

pub returns : goal.returns
returns c = record {
  run = merged_is_run c.x12_meets_the_laws.ensures.laws;
  each = fair_among_is_fair;
  headline = headline_of_merge c.headline.ensures.headline;
}
