use Rattle.std.proofs.Common.{rules, map}
use Rattle.std.proofs.lemmas.Fn.{always_returns_same}
use Rattle.std.specs.Ordering.{is_lt}
use Rattle.std.proofs.lemmas.List.Sorted.{ranks_by, IsPermutation-map}
use Rattle.x12_acks.specs.Key.{is_same_key, key_view}
use Rattle.x12_inbound.specs.declared.filing.FiledRow.{FiledRow}
use Rattle.x12_inbound.specs.declared.posting.Posting.{Posting}
use Rattle.x12_inbound.specs.Order.{is_same_interchange, interchange_order, set_order}
use Rattle.x12_inbound.specs.Filing.{filed_key, filed_row_view}
use Rattle.x12_inbound.specs.Posting.{posting_view}
use Rattle.x12_acks.specs.Accepted.{AcceptedSet}
use Rattle.x12_inbound.proofs.OrderLemmas.{interchange_total, set_total, is_eq-interchange, is_eq-set, interchange_flips, key_flips}
use Rattle.x12_inbound.proofs.RegisterLemmas.{rise_from_sorted, once_permuted, of_filed_permuted}
use Rattle.x12_inbound.specs.Arrival.{RiseByKey}
use Rattle.x12_inbound.specs.Register.{RiseByNumber}
use Rattle.x12_inbound.proofs.FoundLemmas.{found_permuted, posted_permuted}
use Rattle.x12_inbound.proofs.register.Register.from_rows.Goals as goal
use Rattle.x12_inbound.proofs.register.Register.from_rows.Goals.{After-sort_unstable_by-2}

-- the rows by number, and the postings by key
filed_in_order : (c : After-sort_unstable_by-2) → RiseByNumber (map filed_row_view c.sort_unstable_by.new.self.items)
filed_in_order c =
    let rows = c.sort_unstable_by.new.self.items in
    let row_key = λ (r : FiledRow). filed_key (filed_row_view r) in
    let permuted = IsPermutation-map filed_row_view c.args.rows.items rows c.sort_unstable_by.ensures.permutation in
    let by_row = c.sort_unstable_by.ensures.sorted (λ a b. is_lt (interchange_order (row_key a) (row_key b))) (ranks_by interchange_total row_key)
    (always_returns_same _ _ _ (λ a r f called. search rules)) in
    rise_from_sorted filed_row_view filed_key interchange_order interchange_total is_same_interchange is_eq-interchange rows by_row
    (once_permuted filed_key is_same_interchange interchange_flips _ _ permuted c.requires.filed_once)

posted_in_order : (c : After-sort_unstable_by-2) → RiseByKey (map posting_view c.sort_unstable_by-2.new.self.items)
posted_in_order c =
    let postings = c.sort_unstable_by-2.new.self.items in
    let set_key = λ (p : Posting). key_view p.key in
    let permuted = IsPermutation-map posting_view c.args.postings.items postings c.sort_unstable_by-2.ensures.permutation in
    let by_key = c.sort_unstable_by-2.ensures.sorted (λ a b. is_lt (set_order (set_key a) (set_key b))) (ranks_by set_total set_key)
    (always_returns_same _ _ _ (λ a r f called. search rules)) in
    rise_from_sorted posting_view (λ (p : AcceptedSet). p.key) set_order set_total is_same_key is_eq-set postings by_key
    (once_permuted (λ (p : AcceptedSet). p.key) is_same_key key_flips _ _ permuted c.requires.posted_once)

pub invariant_of-result : goal.invariant_of-result
invariant_of-result c =
    let filed = IsPermutation-map filed_row_view c.args.rows.items _ c.sort_unstable_by.ensures.permutation in
    let posted = IsPermutation-map posting_view c.args.postings.items _ c.sort_unstable_by-2.ensures.permutation in
    record {
      filed_rise = filed_in_order c;
      postings_rise = posted_in_order c;
      of_filed = of_filed_permuted _ _ _ _ filed posted c.requires.of_filed;
    }

pub returns : goal.returns
returns c =
    let filed = IsPermutation-map filed_row_view c.args.rows.items _ c.sort_unstable_by.ensures.permutation in
    let posted = IsPermutation-map posting_view c.args.postings.items _ c.sort_unstable_by-2.ensures.permutation in
    record {
      filed = filed;
      postings = posted;
      finds = found_permuted _ _ filed (filed_in_order c);
      shows = posted_permuted _ _ posted (posted_in_order c);
    }
