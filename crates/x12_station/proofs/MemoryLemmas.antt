-- What records in memory hold, after a change and when they are asked.
use Rattle.std.proofs.Common.{ℕ, ◌≡◌, ◌∙◌, ap, ap₂, sym, subst, refl, List, [], ◌∷◌, ◌++◌, map, flat_map, get_or, All, Result, Ok, Err, OnOk, OnErr}
use Rattle.std.proofs.lemmas.List.{map-append}
use Rattle.std.proofs.lemmas.List.Elements.{All-push, All-map}
use Rattle.x12_envelopes.specs.declared.party.Party.{Party}
use Rattle.x12_acks.specs.Accepted.{AcceptedSet}
use Rattle.x12_acks.specs.Submission.{TransactionSetKey}
use Rattle.x12_inbound.specs.declared.filing.Filed.{Filed}
use Rattle.x12_inbound.specs.Filing.{FiledInterchange, filed_under}
use Rattle.x12_outbound.specs.declared.fate.Fate.{Fate}
use Rattle.x12_station.specs.Stored.{Stored, StoredSet, StoredSubmission, StoredArrival, rows_of_entry, row_of_entry}
use Rattle.x12_station.specs.Plan.{entry_settled_by, rows_settled}
use Rattle.x12_station.specs.Record.{IsWholeEntry}
use Rattle.x12_station.specs.Memory.{NumberedRow, numbered_settled_by, entries_in, ArrivalKey, arrival_view}
use Rattle.x12_station.proofs.SettledLemmas.{whole_settled, head_settled, rows_settled_are}

-- one submission more
pub entries_push : (ns : List NumberedRow) (n : NumberedRow) → entries_in (ns ++ n ∷ []) ≡ entries_in ns ++ n.entry ∷ []
entries_push ns n = map-append (λ (m : NumberedRow). m.entry) ns (n ∷ [])

pub whole_push : (ns ms : List NumberedRow) (n : NumberedRow) → ms ≡ ns ++ n ∷ [] → All IsWholeEntry (entries_in ns) → IsWholeEntry n.entry → All IsWholeEntry (entries_in ms)
whole_push ns ms n is all one = subst (All IsWholeEntry) (sym (ap entries_in is ∙ entries_push ns n)) (All-push IsWholeEntry (entries_in ns) n.entry all one)

-- sets settled
pub entries_settled : (ts : List (TransactionSetKey × Fate)) (ns : List NumberedRow) → entries_in (map (numbered_settled_by ts) ns) ≡ map (entry_settled_by ts) (entries_in ns)
entries_settled ts [] = refl
entries_settled ts (n ∷ ns) = ap (λ l. entry_settled_by ts n.entry ∷ l) (entries_settled ts ns)

pub whole_all_settled : (ts : List (TransactionSetKey × Fate)) (ns ms : List NumberedRow) → ms ≡ map (numbered_settled_by ts) ns → All IsWholeEntry (entries_in ns) → All IsWholeEntry (entries_in ms)
whole_all_settled ts ns ms is all = subst (All IsWholeEntry) (sym (ap entries_in is ∙ entries_settled ts ns)) (All-map IsWholeEntry (entry_settled_by ts) (entries_in ns) (λ k d at. whole_settled ts (get_or (entries_in ns) k d) (all k d at)))

-- the rows of submissions, as they were
abbrev pub row_in : NumberedRow → StoredSubmission
row_in n = row_of_entry n.seq n.entry

pub heads_settled : (ts : List (TransactionSetKey × Fate)) (ns : List NumberedRow) → map row_in (map (numbered_settled_by ts) ns) ≡ map row_in ns
heads_settled ts [] = refl
heads_settled ts (n ∷ ns) = ap₂ (λ r rs. r ∷ rs) (head_settled n.seq ts n.entry) (heads_settled ts ns)

-- records that are the same part by part
pub stored_same : (s : Stored) (submitted submitted' : List StoredSubmission) (sets sets' : List StoredSet) (arrived arrived' : List StoredArrival) (postings postings' : List AcceptedSet)
    → submitted ≡ submitted' → sets ≡ sets' → arrived ≡ arrived' → postings ≡ postings'
    → record s { submitted = submitted; sets = sets; arrived = arrived; postings = postings } ≡ record s { submitted = submitted'; sets = sets'; arrived = arrived'; postings = postings' }
stored_same s submitted submitted' sets sets' arrived arrived' postings postings' a b c d =
    ap (λ x. record s { submitted = x; sets = sets; arrived = arrived; postings = postings }) a
    ∙ ap (λ x. record s { submitted = submitted'; sets = x; arrived = arrived; postings = postings }) b
    ∙ ap (λ x. record s { submitted = submitted'; sets = sets'; arrived = x; postings = postings }) c
    ∙ ap (λ x. record s { submitted = submitted'; sets = sets'; arrived = arrived'; postings = x }) d

-- the rows of sets and of submissions, where sets were settled
pub sets_settled : (ts : List (TransactionSetKey × Fate)) (ns ms : List NumberedRow) → ms ≡ map (numbered_settled_by ts) ns → flat_map rows_of_entry (entries_in ms) ≡ rows_settled ts (flat_map rows_of_entry (entries_in ns))
sets_settled ts ns ms is = ap (λ l. flat_map rows_of_entry (entries_in l)) is ∙ ap (flat_map rows_of_entry) (entries_settled ts ns) ∙ sym (rows_settled_are ts (entries_in ns))

pub submitted_settled : (ts : List (TransactionSetKey × Fate)) (ns ms : List NumberedRow) → ms ≡ map (numbered_settled_by ts) ns → map row_in ms ≡ map row_in ns
submitted_settled ts ns ms is = ap (map row_in) is ∙ heads_settled ts ns

-- what is filed stands for what is kept
pub arrival_is : (key : ArrivalKey) (seq : ℕ) (f : Filed) (p : Party) (icn : ℕ) (from : Filed) (kept : FiledInterchange) → key ≡ (p.qualifier, p.id, icn) → filed_under p icn f ≡ filed_under p icn from → filed_under p icn from ≡ kept
    → arrival_view (key, record { seq = seq; filed = f }) ≡ record { seq = seq; filed = kept }
arrival_is key seq f p icn from kept named same is =
    ap (λ (k : ArrivalKey). arrival_view (k, record { seq = seq; filed = f })) named
    ∙ ap (λ x. record { seq = seq; filed = x }) (same ∙ is)

-- a result, in either case
pub in_either : {T E : Type 0} (P : Type 0) (r : Result T E) (Q R : Type 0) → OnOk r Q → OnErr r R → (Q → P) → (R → P) → P
in_either P (Ok x) Q R ok err f g = f ok
in_either P (Err x) Q R ok err f g = g err
