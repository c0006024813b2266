use Rattle.std.proofs.Common.{◌≡◌, true, bytes_eq, map, take}
use Rattle.std.specs.declared.cmp.Ordering.{Ordering}
use Rattle.std.specs.List.{list_any}
use Rattle.std.specs.Ordering.{nat_cmp, ordering_then}
use Rattle.std.specs.BTreeSet.{contains}
use Rattle.std.specs.Cmp.Lexicographic.{slice_cmp}
use Rattle.x12_envelopes.specs.declared.delimiters.Delims.{Delims}
use Rattle.x12_envelopes.specs.declared.shape.SetNo.{SetNo}
use Rattle.x12_envelopes.specs.Shape.{set_view, bytes_of_set_no}
use Rattle.x12_profile.specs.X12.{are_new_numbers}
use Rattle.x12_outbound.proofs.submitting.has_number_twice.Given as goal

-- the order of control numbers
abbrev pub order : SetNo → SetNo → Ordering
order x y = ordering_then (slice_cmp nat_cmp x.bytes y.bytes) (nat_cmp x.len y.len)

abbrev pub invariant-loop-set : goal.invariant-loop-set
invariant-loop-set l = record {
  seen : (n : SetNo) → contains order l.seen n ≡ list_any (λ s. bytes_eq (bytes_of_set_no s.number) (bytes_of_set_no n)) (take l.set-index l.sets);
  once : (d : Delims) → are_new_numbers (map (set_view d) (take l.set-index l.sets)) ≡ true;
}
