-- An interchange that can be sent has few functional groups, and each of them few transaction sets.
use Rattle.std.proofs.Common.{ℕ, ◌≡◌, ◌-◌, ◌^◌, ◌<◌, ◌≤◌, List, map, length, get_or, All, arith, ap, ◌∙◌, subst}
use Rattle.std.proofs.lemmas.List.{length-map}
use Rattle.std.proofs.lemmas.List.Sums.{get_or-le-sum_by}
use Rattle.x12_envelopes.specs.declared.party.Party.{Party}
use Rattle.x12_acks.specs.Submission.{SubmittedGroup}
use Rattle.x12_outbound.specs.declared.entry.EntrySet.{EntrySet}
use Rattle.x12_outbound.specs.declared.entry.EntryGroup.{EntryGroup}
use Rattle.x12_outbound.specs.declared.entry.Entry.{Entry}
use Rattle.x12_outbound.specs.Entry.{GroupRow, entry_row, group_row, set_row, submission_of_entry, submitted_group_of_row, submitted_set_of_row, IsSendable}
use Rattle.x12_numbers.proofs.Shelf.{all_from_map}

module _ (me : Party) (e : Entry) (sendable : IsSendable (submission_of_entry me (entry_row e))) where
  few_groups : length e.groups.items ≤ 32
  few_groups = omega (arith, sendable.few_groups, length-map (map group_row e.groups.items) submitted_group_of_row, length-map e.groups.items group_row)

  few_submitted : All (λ (g : SubmittedGroup). length g.sets ≤ 400) (submission_of_entry me (entry_row e)).groups
  few_submitted k d within = omega (arith, sendable.few_sets, get_or-le-sum_by (λ (g : SubmittedGroup). length g.sets) (submission_of_entry me (entry_row e)).groups k d within)

  few_sets : All (λ (g : EntryGroup). length g.sets.items ≤ 400) e.groups.items
  few_sets k d within =
      let group = get_or e.groups.items k d in
      let few = all_from_map group_row (λ (g : GroupRow). length (submitted_group_of_row g).sets ≤ 400) e.groups.items
      (all_from_map submitted_group_of_row (λ (g : SubmittedGroup). length g.sets ≤ 400) (map group_row e.groups.items) few_submitted) k d within in
      omega (arith, few, length-map (map set_row group.sets.items) submitted_set_of_row, length-map group.sets.items set_row)

  -- a group's index, and its sets
  module _ (groups : List EntryGroup) (are : groups ≡ e.groups.items) (i : ℕ) (within : i < length groups) where
    pub group_has_place : i < 2 ^ 16 - 1
    group_has_place = omega (arith, few_groups, within, ap length are)

    pub sets_have_places : (group : EntryGroup) (sets : List EntrySet) → group ≡ get_or groups i group → sets ≡ group.sets.items → length sets ≤ 400
    sets_have_places group sets is sets_are =
        let here = subst (λ gs. i < length gs) are within in
        let same = is ∙ ap (λ gs. get_or gs i group) are in
        omega (arith, few_sets i group here, ap length sets_are, ap (λ (g : EntryGroup). length g.sets.items) same)
