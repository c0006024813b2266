-- What is gathered is sorted.
use Rattle.std.proofs.Common.{◌≡◌, rules, map, sym, ap, subst, ◌∙◌}
use Rattle.std.specs.List.{IsDistinct}
use Rattle.std.specs.List.Sorted.{IsPermutation}
use Rattle.std.specs.Ordering.{is_lt}
use Rattle.std.proofs.lemmas.Fn.{always_returns_same}
use Rattle.std.proofs.lemmas.List.Sorted.{ranks_by, IsPermutation-map}
use Rattle.x12_acks.specs.Key.{is_same_key, key_view}
use Rattle.x12_acks.specs.Submission.{TransactionSetKey}
use Rattle.x12_inbound.specs.Order.{set_order}
use Rattle.x12_inbound.proofs.OrderLemmas.{is_eq-set, key_flips, set_total}
use Rattle.x12_inbound.proofs.RegisterLemmas.{once_permuted, rise_from_sorted}
use Rattle.x12_numbers.proofs.Shelf.{map_twice}
use Rattle.x12_world.specs.Asking.{states_of}
use Rattle.x12_world.specs.Listing.{keys_of_sets, keys_of_stations, sets_of_stations, KeysRise}
use Rattle.x12_world.specs.Placing.{OutgoingSet, outgoing_view}
use Rattle.x12_world.specs.declared.placing.OutgoingSet.{OutgoingSet as CodeOutgoingSet}
use Rattle.x12_world.proofs.ListingLemmas.{keys_are, keys_differ}
use Rattle.x12_world.proofs.listing.sets_among.Goals as goal

abbrev key_in : CodeOutgoingSet → TransactionSetKey
key_in s = key_view s.key

pub returns-clause-sets : goal.returns-clause-sets
returns-clause-sets g c = λ answers listed rise.
    let before = c.in_ok-sets.sets.items in
    let after = c.sort_unstable_by.new.self.items in
    let ss = states_of c.args.stations.now.items in
    let are : map outgoing_view before ≡ sets_of_stations ss = c.in_ok-sets.ensures.sets answers listed rise in
    let permuted : IsPermutation (map outgoing_view before) (map outgoing_view after) = IsPermutation-map outgoing_view before after c.sort_unstable_by.ensures.permutation in
    let all : IsPermutation (sets_of_stations ss) (map outgoing_view after) = subst (λ xs. IsPermutation xs (map outgoing_view after)) are permuted in
    record {
      all = all;
      keys = record {
        all = subst (λ ks. IsPermutation ks (keys_of_sets (map outgoing_view after))) (keys_are ss) (IsPermutation-map (λ (s : OutgoingSet). s.key) (sets_of_stations ss) (map outgoing_view after) all);
        rise = λ once.
            let keys : map key_in before ≡ keys_of_stations ss = sym (map_twice (λ (s : OutgoingSet). s.key) outgoing_view before) ∙ ap keys_of_sets are ∙ keys_are ss in
            let distinct = subst (IsDistinct (λ j k. is_same_key j k)) (sym keys) (keys_differ (keys_of_stations ss) once) in
            let by_key = c.sort_unstable_by.ensures.sorted (λ a b. is_lt (set_order (key_in a) (key_in b))) (ranks_by set_total key_in)
            (always_returns_same _ _ _ (λ a r f called. search rules)) in
            subst KeysRise (sym (map_twice (λ (s : OutgoingSet). s.key) outgoing_view after))
            (rise_from_sorted key_in (λ k. k) set_order set_total is_same_key is_eq-set after by_key
            (once_permuted (λ k. k) is_same_key key_flips _ _ (IsPermutation-map key_in before after c.sort_unstable_by.ensures.permutation) distinct));
      };
    }
