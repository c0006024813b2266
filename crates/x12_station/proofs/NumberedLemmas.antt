-- The numbers of submissions and first arrivals after one more of either.
use Rattle.std.specs.Prelude.{◌≡◌, ℕ, suc, ◌+◌, ◌<◌, List, [], ◌∷◌, ◌++◌, map}
use Rattle.std.specs.List.{range_with_len}
use Rattle.std.specs.List.Sorted.{IsPermutation}
use mathlib.Core.Path.{sym, ap, subst, ◌∙◌}
use native.Mathlib.Omega.{arith}
use Rattle.std.proofs.lemmas.List.{map-append, append_assoc}
use Rattle.std.proofs.lemmas.List.Quantifiers.{all_pairs_push}
use Rattle.std.proofs.lemmas.List.Sorted.{IsPermutation-append_left, IsPermutation-append_right, IsPermutation-to_front, IsPermutation-trans}
use Rattle.x12_numbers.specs.Book.{Numbers}
use Rattle.x12_acks.specs.Submission.{TransactionSetKey}
use Rattle.x12_outbound.specs.declared.fate.Fate.{Fate}
use Rattle.x12_outbound.specs.Entry.{InterchangeRow}
use Rattle.x12_inbound.specs.Arrival.{Filing}
use Rattle.x12_station.specs.Plan.{Submits, Files, stored_after}
use Rattle.x12_station.specs.Stored.{Stored, StoredSubmission, StoredArrival, AreNumbered, row_of_entry}
use Rattle.x12_station.proofs.SeqLemmas.{range_more}
use Rattle.x12_station.proofs.ItemLemmas.{arrived_within, submitted_within}

-- one number more, behind the first of two lists or behind the second
module _ (n : ℕ) (xs ys : List ℕ) (each : IsPermutation (range_with_len 1 n) (xs ++ ys)) where
  more_behind : IsPermutation (range_with_len 1 (n + 1)) (xs ++ (ys ++ (n + 1) ∷ []))
  more_behind =
      let up : n + 1 ≡ suc n = omega arith in
      let last : 1 + n ≡ n + 1 = omega arith in
      let range : range_with_len 1 (n + 1) ≡ range_with_len 1 n ++ (n + 1) ∷ [] =
      ap (range_with_len 1) up ∙ range_more 1 n ∙ ap (λ m. range_with_len 1 n ++ m ∷ []) last in
      subst (λ l. IsPermutation l (xs ++ (ys ++ (n + 1) ∷ []))) (sym range)
      (subst (λ l. IsPermutation (range_with_len 1 n ++ (n + 1) ∷ []) l) (append_assoc xs ys ((n + 1) ∷ []))
      (IsPermutation-append_left ((n + 1) ∷ []) (range_with_len 1 n) (xs ++ ys) each))

  more_between : IsPermutation (range_with_len 1 (n + 1)) ((xs ++ (n + 1) ∷ []) ++ ys)
  more_between =
      subst (λ l. IsPermutation (range_with_len 1 (n + 1)) l) (sym (append_assoc xs ((n + 1) ∷ []) ys))
      (IsPermutation-trans (range_with_len 1 (n + 1)) (xs ++ (ys ++ (n + 1) ∷ [])) (xs ++ ((n + 1) ∷ ys)) more_behind
      (IsPermutation-append_right xs (ys ++ (n + 1) ∷ []) ((n + 1) ∷ ys) (IsPermutation-to_front ys (n + 1))))

module _ (s : Stored) (numbered : AreNumbered s) (book : Numbers) where
  pub numbered_submitted : (e : InterchangeRow) → AreNumbered (stored_after (record { book = book; seq = s.seq + 1; change = Submits e }) s)
  numbered_submitted e =
      let row = row_of_entry (s.seq + 1) e in
      record {
        each = subst (λ l. IsPermutation (range_with_len 1 (s.seq + 1)) (l ++ map (λ r. r.seq) s.arrived))
            (sym (map-append (λ (r : StoredSubmission). r.seq) s.submitted (row ∷ [])))
            (more_between s.seq (map (λ r. r.seq) s.submitted) (map (λ r. r.seq) s.arrived) numbered.each);
        submitted = all_pairs_push (λ r q. r.seq < q.seq) s.submitted row numbered.submitted (λ k d within. let top = (submitted_within s numbered k d within).high in omega arith);
        arrived = numbered.arrived;
      }

  pub numbered_filed : (k : Filing) (settled : List (TransactionSetKey × Fate)) → AreNumbered (stored_after (record { book = book; seq = s.seq + 1; change = Files k settled }) s)
  numbered_filed k settled =
      let row : StoredArrival = record { seq = s.seq + 1; filed = k.filed } in
      record {
        each = subst (λ l. IsPermutation (range_with_len 1 (s.seq + 1)) (map (λ r. r.seq) s.submitted ++ l))
            (sym (map-append (λ (r : StoredArrival). r.seq) s.arrived (row ∷ [])))
            (more_behind s.seq (map (λ r. r.seq) s.submitted) (map (λ r. r.seq) s.arrived) numbered.each);
        submitted = numbered.submitted;
        arrived = all_pairs_push (λ r q. r.seq < q.seq) s.arrived row numbered.arrived (λ k d within. let top = (arrived_within s numbered k d within).high in omega arith);
      }
