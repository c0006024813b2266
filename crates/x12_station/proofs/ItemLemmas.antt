-- The history that the records tell: what it holds, and what one commit adds to it.
use Rattle.std.specs.Prelude.{◌≡◌, ℕ, zero, suc, ◌+◌, ◌<◌, ◌≤◌, ◌==◌, ◌&&◌, cond, List, [], ◌∷◌, ◌++◌, length, Bool, true, false, Option, Some, None, All, find, map, flat_map, option_map, option_to_list, if◌then◌else◌, refl}
use Rattle.std.specs.List.{range_with_len, sum_by}
use Rattle.std.specs.Option.{option_or}
use mathlib.Core.Path.{sym, ap, ap₂, ◌∙◌}
use mathlib.Core.Logic.{inl, inr, ◌⊎◌}
use native.Mathlib.Omega.{arith}
use Rattle.std.proofs.lemmas.Grind.{flat_map-append}
use Rattle.std.proofs.lemmas.List.{append-nil, length-append, length-map, map-append}
use Rattle.std.proofs.lemmas.List.Sums.{sum_by-append, sum_by-cons}
use Rattle.std.proofs.lemmas.List.Elements.{All-head, All-tail}
use Rattle.std.proofs.lemmas.List.FromFn.{length-range_with_len}
use Rattle.std.proofs.lemmas.List.Sorted.{All-permutation, length_permutation, sum_by-IsPermutation}
use Rattle.std.proofs.lemmas.Bool.Decides.{eqb_tells}
use Rattle.x12_envelopes.specs.declared.party.Party.{Party}
use Rattle.x12_judge.specs.Agreement.{is_same_party, TradingAgreement}
use Rattle.x12_numbers.specs.Book.{Numbers}
use Rattle.x12_acks.specs.Submission.{TransactionSetKey}
use Rattle.x12_outbound.specs.declared.fate.Fate.{Fate}
use Rattle.x12_outbound.specs.Entry.{InterchangeRow}
use Rattle.x12_inbound.specs.Arrival.{Filing}
use Rattle.x12_inbound.specs.Order.{interchange}
use Rattle.x12_inbound.specs.Register.{found_in}
use Rattle.x12_profile.specs.Edition.{Marks, edition_at}
use Rattle.x12_profile.specs.X12.{x12}
use Rattle.x12_station.specs.Durable.{IsFiledRightly, item_at, item_of_arrival, items_of}
use Rattle.x12_station.specs.History.{Item, Submitted, Came, KeptArrival, submissions, arrivals, filed}
use Rattle.x12_station.specs.Plan.{Submits, Files, Agrees, TakesNumbers, stored_after}
use Rattle.x12_station.specs.Stored.{Stored, StoredSubmission, marks_of, StoredArrival, AreNumbered, seqs, filed_in, row_of_entry}
use Rattle.x12_station.proofs.SeqLemmas.{all_front, all_behind, all_of_range, find_pushed, find_kept, flat_map_range, none_below, picked, range_more, under}
use Rattle.x12_numbers.proofs.Shelf.{all_from_map, differs_from_less, eq_itself}

-- the numbers of rows
abbrev seq_of_submission : StoredSubmission → ℕ
seq_of_submission r = r.seq

abbrev seq_of_arrival : StoredArrival → ℕ
seq_of_arrival r = r.seq

-- What is numbered.

-- within the numbers from 1 to the last
pub record IsWithin (last n : ℕ) : Type 0 where
  pub low : 1 ≤ n
  pub high : n ≤ last

numbers_within : (s : Stored) → AreNumbered s → All (IsWithin s.seq) (seqs s)
numbers_within s numbered =
    All-permutation (IsWithin s.seq) (range_with_len 1 s.seq) (seqs s) numbered.each
    (all_of_range (IsWithin s.seq) 1 s.seq (λ n low high. record { low = low; high = omega arith }))

pub submitted_within : (s : Stored) → AreNumbered s → All (λ r. IsWithin s.seq r.seq) s.submitted
submitted_within s numbered =
    all_from_map seq_of_submission (IsWithin s.seq) s.submitted
    (all_front (IsWithin s.seq) (map (λ r. r.seq) s.submitted) (map (λ r. r.seq) s.arrived) (numbers_within s numbered))

pub arrived_within : (s : Stored) → AreNumbered s → All (λ r. IsWithin s.seq r.seq) s.arrived
arrived_within s numbered =
    all_from_map seq_of_arrival (IsWithin s.seq) s.arrived
    (all_behind (IsWithin s.seq) (map (λ r. r.seq) s.submitted) (map (λ r. r.seq) s.arrived) (numbers_within s numbered))

-- Lists of items.

-- what came, with the replies that are kept
abbrev pub came : List Item → List KeptArrival
came [] = []
came (Submitted x ∷ items) = came items
came (Came ed b r ∷ items) = record { body = b; reply = r } ∷ came items

pub submissions-append : (items more : List Item) → submissions (items ++ more) ≡ submissions items ++ submissions more
submissions-append [] more = refl
submissions-append (Submitted x ∷ items) more = ap (λ l. x ∷ l) (submissions-append items more)
submissions-append (Came ed b r ∷ items) more = submissions-append items more

pub came-append : (items more : List Item) → came (items ++ more) ≡ came items ++ came more
came-append [] more = refl
came-append (Submitted x ∷ items) more = came-append items more
came-append (Came ed b r ∷ items) more = ap (λ l. record { body = b; reply = r } ∷ l) (came-append items more)

pub arrivals_came : (items : List Item) → arrivals items ≡ map (λ f. f.body) (came items)
arrivals_came [] = refl
arrivals_came (Submitted x ∷ items) = arrivals_came items
arrivals_came (Came ed b r ∷ items) = ap (λ l. b ∷ l) (arrivals_came items)

both_parts : (items : List Item) → length items ≡ length (submissions items) + length (came items)
both_parts [] = refl
both_parts (Submitted x ∷ items) = let rest = both_parts items in omega arith
both_parts (Came ed b r ∷ items) = let rest = both_parts items in omega arith

-- what is filed under a partner's number, among what came
pub filed_came : (items : List Item) (partner : Party) (n : ℕ) → filed x12 items partner n ≡ find (λ f. is_same_party (x12.sender f.body) partner && (x12.number f.body == n)) (came items)
filed_came [] partner n = refl
filed_came (Submitted x ∷ items) partner n = filed_came items partner n
filed_came (Came ed b r ∷ items) partner n = by (is_same_party (x12.sender b) partner && (x12.number b == n)) (filed_came items partner n)
  where
    by : (t : Bool) → filed x12 items partner n ≡ find (λ f. is_same_party (x12.sender f.body) partner && (x12.number f.body == n)) (came items)
        → (if t then Some (record { body = b; reply = r }) else filed x12 items partner n)
        ≡ cond t (Some (record { body = b; reply = r })) (find (λ f. is_same_party (x12.sender f.body) partner && (x12.number f.body == n)) (came items))
    by true rest = refl
    by false rest = rest

-- The parts of the history.

-- a filed arrival, as the history has it
abbrev pub filed_of_row : StoredArrival → KeptArrival
filed_of_row r = record { body = r.filed.bytes; reply = r.filed.reply }

abbrev item_of : Marks → ℕ → Option StoredSubmission → Option StoredArrival → Option Item
item_of marks n a b = option_or (option_map (λ r. Submitted r.bytes) a) (option_map (item_of_arrival marks n) b)

submitted_one : (k : Marks) (n : ℕ) (a : Option StoredSubmission) (b : Option StoredArrival) → submissions (option_to_list (item_of k n a b)) ≡ map (λ r. r.bytes) (option_to_list a)
submitted_one k n None None = refl
submitted_one k n None (Some b) = refl
submitted_one k n (Some a) b = refl

came_one : (k : Marks) (n : ℕ) (a : Option StoredSubmission) (b : Option StoredArrival) → (a ≡ None) ⊎ (b ≡ None) → came (option_to_list (item_of k n a b)) ≡ map filed_of_row (option_to_list b)
came_one k n None None one = refl
came_one k n None (Some b) one = refl
came_one k n (Some a) None one = refl
came_one k n (Some a) (Some b) (inl e) = absurd cc
came_one k n (Some a) (Some b) (inr e) = absurd cc

submitted_each : (k : Marks) (f : ℕ → Option StoredSubmission) (g : ℕ → Option StoredArrival) (ns : List ℕ)
    → submissions (flat_map (λ n. option_to_list (item_of k n (f n) (g n))) ns) ≡ map (λ r. r.bytes) (flat_map (λ n. option_to_list (f n)) ns)
submitted_each k f g [] = refl
submitted_each k f g (n ∷ ns) =
    submissions-append (option_to_list (item_of k n (f n) (g n))) (flat_map (λ n. option_to_list (item_of k n (f n) (g n))) ns)
    ∙ ap₂ (λ a b. a ++ b) (submitted_one k n (f n) (g n)) (submitted_each k f g ns)
    ∙ sym (map-append (λ (r : StoredSubmission). r.bytes) (option_to_list (f n)) (flat_map (λ n. option_to_list (f n)) ns))

came_each : (k : Marks) (f : ℕ → Option StoredSubmission) (g : ℕ → Option StoredArrival) (ns : List ℕ) → ((n : ℕ) → (f n ≡ None) ⊎ (g n ≡ None))
    → came (flat_map (λ n. option_to_list (item_of k n (f n) (g n))) ns) ≡ map filed_of_row (flat_map (λ n. option_to_list (g n)) ns)
came_each k f g [] apart = refl
came_each k f g (n ∷ ns) apart =
    came-append (option_to_list (item_of k n (f n) (g n))) (flat_map (λ n. option_to_list (item_of k n (f n) (g n))) ns)
    ∙ ap₂ (λ a b. a ++ b) (came_one k n (f n) (g n) (apart n)) (came_each k f g ns apart)
    ∙ sym (map-append filed_of_row (option_to_list (g n)) (flat_map (λ n. option_to_list (g n)) ns))

-- No number is that of a submission and of an arrival.

-- one, if these are the same number
abbrev tally : ℕ → ℕ → ℕ
tally n m = cond (m == n) 1 0

none_before : (len from n : ℕ) → n < from → sum_by (tally n) (range_with_len from len) ≡ 0
none_before zero from n before = refl
none_before (suc len) from n before =
    let rest = none_before len (from + 1) n (omega arith) in
    elim (eqb_tells from n) [
      | inl is ↦ absurd (omega arith)
      | inr not ↦ rw sum_by-cons (rw not.0 (omega arith))
    ]

once_in_range : (len from n : ℕ) → sum_by (tally n) (range_with_len from len) ≤ 1
once_in_range zero from n = omega arith
once_in_range (suc len) from n = elim (eqb_tells from n) [
  | inl is ↦ let rest = none_before len (from + 1) n (omega arith) in rw sum_by-cons (rw is.0 (omega arith))
  | inr not ↦ let rest = once_in_range len (from + 1) n in rw sum_by-cons (rw not.0 (omega arith))
]

module _ {R : Type 0} (key : R → ℕ) where
  none_or_one : (rs : List R) (n : ℕ) → (under key n rs ≡ None) ⊎ (1 ≤ sum_by (tally n) (map key rs))
  none_or_one [] n = inl refl
  none_or_one (r ∷ rs) n = elim (eqb_tells (key r) n) [
    | inl is ↦ inr (rw sum_by-cons (rw is.0 (omega arith)))
    | inr not ↦ elim (none_or_one rs n) [
      | inl none ↦ inl (rw not.0 none)
      | inr one ↦ inr (rw sum_by-cons (rw not.0 (omega arith)))
    ]
  ]

pub apart : (s : Stored) → AreNumbered s → (n : ℕ) → (under seq_of_submission n s.submitted ≡ None) ⊎ (under seq_of_arrival n s.arrived ≡ None)
apart s numbered n = elim (none_or_one seq_of_submission s.submitted n) [
  | inl none ↦ inl none
  | inr one ↦ elim (none_or_one seq_of_arrival s.arrived n) [
    | inl none ↦ inr none
    | inr other ↦
        let once = once_in_range s.seq 1 n in
        let same = sum_by-IsPermutation (tally n) (range_with_len 1 s.seq) (seqs s) numbered.each in
        let both = sum_by-append (tally n) (map (λ (r : StoredSubmission). r.seq) s.submitted) (map (λ (r : StoredArrival). r.seq) s.arrived) in
        absurd (omega arith)
  ]
]

-- The history has the submissions, and what came, in the order of the rows.

pub submissions_are : (s : Stored) → AreNumbered s → submissions (items_of s) ≡ map (λ r. r.bytes) s.submitted
unfolding items_of
submissions_are s numbered =
    submitted_each (marks_of s.origin) (λ n. under seq_of_submission n s.submitted) (λ n. under seq_of_arrival n s.arrived) (range_with_len 1 s.seq)
    ∙ ap (map (λ r. r.bytes)) (picked seq_of_submission s.seq 1 s.submitted numbered.submitted
    (λ k d within. (submitted_within s numbered k d within).low)
    (λ k d within. let top = (submitted_within s numbered k d within).high in omega arith))

pub came_are : (s : Stored) → AreNumbered s → came (items_of s) ≡ map filed_of_row s.arrived
unfolding items_of
came_are s numbered =
    came_each (marks_of s.origin) (λ n. under seq_of_submission n s.submitted) (λ n. under seq_of_arrival n s.arrived) (range_with_len 1 s.seq) (apart s numbered)
    ∙ ap (map filed_of_row) (picked seq_of_arrival s.seq 1 s.arrived numbered.arrived
    (λ k d within. (arrived_within s numbered k d within).low)
    (λ k d within. let top = (arrived_within s numbered k d within).high in omega arith))

bodies : (rs : List StoredArrival) → map (λ f. f.body) (map filed_of_row rs) ≡ map (λ r. r.filed.bytes) rs
bodies [] = refl
bodies (r ∷ rs) = ap (λ l. r.filed.bytes ∷ l) (bodies rs)

pub arrivals_are : (s : Stored) → AreNumbered s → arrivals (items_of s) ≡ map (λ r. r.filed.bytes) s.arrived
arrivals_are s numbered = arrivals_came (items_of s) ∙ ap (map (λ f. f.body)) (came_are s numbered) ∙ bodies s.arrived

-- each number from 1 to the last is that of one item
pub length_items : (s : Stored) → AreNumbered s → length (items_of s) ≡ s.seq
length_items s numbered =
    let parts = both_parts (items_of s) in
    let sent = ap length (submissions_are s numbered) ∙ length-map s.submitted (λ r. r.bytes) in
    let arrived = ap length (came_are s numbered) ∙ length-map s.arrived filed_of_row in
    let all = length_permutation (range_with_len 1 s.seq) (seqs s) numbered.each in
    let range = length-range_with_len 1 s.seq in
    let rows = length-append (map (λ (r : StoredSubmission). r.seq) s.submitted) (map (λ (r : StoredArrival). r.seq) s.arrived) in
    let first = length-map s.submitted seq_of_submission in
    let second = length-map s.arrived seq_of_arrival in
    omega arith

-- What one commit adds.

-- the items up to a number are told alike by rows that differ above it alone
module _ (s t : Stored) (last : t.seq ≡ s.seq + 1) where
  items_more : ((n : ℕ) → n ≤ s.seq → item_at t n ≡ item_at s n) → items_of t ≡ items_of s ++ option_to_list (item_at t (s.seq + 1))
  unfolding items_of
  items_more same =
      let up : s.seq + 1 ≡ suc s.seq = omega arith in
      let back : 1 + s.seq ≡ s.seq + 1 = omega arith in
      ap (λ n. flat_map (λ n. option_to_list (item_at t n)) (range_with_len 1 n)) (last ∙ up)
      ∙ ap (flat_map (λ n. option_to_list (item_at t n))) (range_more 1 s.seq)
      ∙ flat_map-append (λ n. option_to_list (item_at t n)) (range_with_len 1 s.seq) ((1 + s.seq) ∷ [])
      ∙ ap₂ (λ a b. a ++ b)
      (flat_map_range (λ n. option_to_list (item_at t n)) (λ n. option_to_list (item_at s n)) 1 s.seq (λ n low high. ap option_to_list (same n (omega arith))))
      (append-nil (option_to_list (item_at t (1 + s.seq))) ∙ ap (λ n. option_to_list (item_at t n)) back)

-- a number above all is that of no row
no_submission : (s : Stored) → AreNumbered s → under seq_of_submission (s.seq + 1) s.submitted ≡ None
no_submission s numbered = none_below seq_of_submission s.submitted (s.seq + 1) (λ k d within. let top = (submitted_within s numbered k d within).high in omega arith)

no_arrival : (s : Stored) → AreNumbered s → under seq_of_arrival (s.seq + 1) s.arrived ≡ None
no_arrival s numbered = none_below seq_of_arrival s.arrived (s.seq + 1) (λ k d within. let top = (arrived_within s numbered k d within).high in omega arith)

-- a submission adds its bytes
pub items_submitted : (s : Stored) → AreNumbered s → (book : Numbers) (e : InterchangeRow) → items_of (stored_after (record { book = book; seq = s.seq + 1; change = Submits e }) s) ≡ items_of s ++ Submitted e.bytes ∷ []
items_submitted s numbered book e =
    let row = row_of_entry (s.seq + 1) e in
    let t = stored_after (record { book = book; seq = s.seq + 1; change = Submits e }) s in
    items_more s t refl (λ n low. ap (λ a. item_of (marks_of s.origin) n a (under seq_of_arrival n s.arrived)) (find_kept (λ (r : StoredSubmission). r.seq == n) s.submitted row (differs_from_less (s.seq + 1) n (omega arith))))
    ∙ ap (λ a. items_of s ++ option_to_list (item_of (marks_of s.origin) (s.seq + 1) a (under seq_of_arrival (s.seq + 1) s.arrived)))
    (find_pushed (λ (r : StoredSubmission). r.seq == s.seq + 1) s.submitted row (no_submission s numbered) (eq_itself (s.seq + 1)))

-- an arrival adds its bytes, and the reply that is kept
pub items_filed : (s : Stored) → AreNumbered s → (book : Numbers) (k : Filing) (settled : List (TransactionSetKey × Fate))
    → items_of (stored_after (record { book = book; seq = s.seq + 1; change = Files k settled }) s) ≡ items_of s ++ Came (edition_at (marks_of s.origin) (s.seq + 1)) k.filed.bytes k.filed.reply ∷ []
items_filed s numbered book k settled =
    let row : StoredArrival = record { seq = s.seq + 1; filed = k.filed } in
    let t = stored_after (record { book = book; seq = s.seq + 1; change = Files k settled }) s in
    items_more s t refl (λ n low. ap (λ b. item_of (marks_of s.origin) n (under seq_of_submission n s.submitted) b) (find_kept (λ (r : StoredArrival). r.seq == n) s.arrived row (differs_from_less (s.seq + 1) n (omega arith))))
    ∙ ap₂ (λ a b. items_of s ++ option_to_list (item_of (marks_of s.origin) (s.seq + 1) a b)) (no_submission s numbered)
    (find_pushed (λ (r : StoredArrival). r.seq == s.seq + 1) s.arrived row (no_arrival s numbered) (eq_itself (s.seq + 1)))

-- an agreement and used numbers add nothing
pub items_agreed : (s : Stored) (book : Numbers) (a : TradingAgreement) → items_of (stored_after (record { book = book; seq = s.seq; change = Agrees a }) s) ≡ items_of s
unfolding items_of
items_agreed s book a = refl

pub items_numbered : (s : Stored) (book : Numbers) → items_of (stored_after (record { book = book; seq = s.seq; change = TakesNumbers }) s) ≡ items_of s
unfolding items_of
items_numbered s book = refl

-- What is filed.

filed_found : (rs : List StoredArrival) (partner : Party) (n : ℕ) → All (λ r. IsFiledRightly r.filed) rs
    → find (λ f. is_same_party (x12.sender f.body) partner && (x12.number f.body == n)) (map filed_of_row rs)
    ≡ option_map (λ f. record { body = f.bytes; reply = f.reply }) (found_in (map (λ r. r.filed) rs) (interchange partner n))
filed_found [] partner n rightly = refl
filed_found (r ∷ rs) partner n rightly =
    let first = All-head (λ r. IsFiledRightly r.filed) r rs rightly in
    by (is_same_party (x12.sender r.filed.bytes) partner && (x12.number r.filed.bytes == n)) (is_same_party r.filed.partner partner && r.filed.icn == n)
    (ap₂ (λ p m. is_same_party p partner && (m == n)) (sym first.partner) (sym first.icn))
    (filed_found rs partner n (All-tail (λ r. IsFiledRightly r.filed) r rs rightly))
  where
    by : (t u : Bool) → t ≡ u
        → find (λ f. is_same_party (x12.sender f.body) partner && (x12.number f.body == n)) (map filed_of_row rs)
        ≡ option_map (λ f. record { body = f.bytes; reply = f.reply }) (found_in (map (λ r. r.filed) rs) (interchange partner n))
        → cond t (Some (filed_of_row r)) (find (λ f. is_same_party (x12.sender f.body) partner && (x12.number f.body == n)) (map filed_of_row rs))
        ≡ option_map (λ f. record { body = f.bytes; reply = f.reply }) (cond u (Some r.filed) (found_in (map (λ r. r.filed) rs) (interchange partner n)))
    by true true e rest = refl
    by true false e rest = absurd cc
    by false true e rest = absurd cc
    by false false e rest = rest

-- what the history has under a partner's number is what the records find
pub filed_is : (s : Stored) → AreNumbered s → All (λ r. IsFiledRightly r.filed) s.arrived → (partner : Party) (n : ℕ)
    → filed x12 (items_of s) partner n ≡ option_map (λ f. record { body = f.bytes; reply = f.reply }) (filed_in s partner n)
filed_is s numbered rightly partner n =
    filed_came (items_of s) partner n
    ∙ ap (find (λ f. is_same_party (x12.sender f.body) partner && (x12.number f.body == n))) (came_are s numbered)
    ∙ filed_found s.arrived partner n rightly
