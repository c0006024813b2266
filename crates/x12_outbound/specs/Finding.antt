-- How transaction sets fare where some were settled since, each kept by the number of its
-- interchange and its places there.
use Rattle.std.specs.Prelude.{ℕ, option_map, unwrap_or, List, map}
use Rattle.std.specs.declared.cmp.Ordering.{Ordering}
use Rattle.std.specs.Ordering.{nat_cmp, ordering_then}
use Rattle.std.specs.Option.{option_or}
use Rattle.std.specs.BTreeMap.{BTreeMap, get}
use Rattle.x12_envelopes.specs.declared.party.Party.{Party}
use Rattle.x12_acks.specs.Submission.{TransactionSetKey}
use Rattle.x12_outbound.specs.declared.fate.Fate.{Fate}
use Rattle.x12_outbound.specs.declared.fate.FinalFate.{FinalFate}
use Rattle.x12_outbound.specs.Fate.{ended, final_fate}
use Rattle.x12_outbound.specs.declared.evidence.Piece.{Piece}
use Rattle.x12_outbound.specs.Piece.{Finding, finding_view}
use Rattle.x12_outbound.specs.Settling.{Fates}
use Rattle.x12_outbound.specs.Ledger.{LedgerRow, row_in}

-- what the code's pieces were found to be
abbrev pub findings_kept : List Piece → List Finding
findings_kept pieces = map (λ p. finding_view p.finding) pieces

-- an interchange's number, and the places of a group and of a set
abbrev pub Places : Type 0
Places = ℕ × ℕ × ℕ

abbrev pub places_of_key : TransactionSetKey → Places
places_of_key key = (key.icn, key.group, key.set)

-- their order
abbrev pub compare_places : Places → Places → Ordering
compare_places p q =
    ordering_then (ordering_then (nat_cmp p.0 q.0) (nat_cmp p.1 q.1)) (nat_cmp p.2 q.2)

-- how the sets of this sender fare
abbrev pub fates_in : Party → List LedgerRow → Fates
fates_in me rows = λ key. option_map (λ s. s.fate) (row_in me rows key)

-- and how they fare with those of the closed interchanges
abbrev pub fates_in_both : Party → List LedgerRow → List LedgerRow → Fates
fates_in_both me rows closed = λ key. option_or (fates_in me rows key) (fates_in me closed key)

-- a submitted set fares as it was settled since, and else as before
abbrev pub fares_since : BTreeMap Places FinalFate → TransactionSetKey → Fate → Fate
fares_since settled key fate =
    unwrap_or (option_map
    (λ f. ended (final_fate f)) (get compare_places settled (places_of_key key)))
    fate

abbrev pub fates_since : BTreeMap Places FinalFate → Fates → Fates
fates_since settled fates = λ key. option_map (fares_since settled key) (fates key)
