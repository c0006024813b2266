-- The postings of stations by key: what is put under a key stands behind what stood there.
use Rattle.std.proofs.Common.{◌≡◌, ◌<◌, ◌≤◌, ◌+◌, ◌==◌, ◌&&◌, ℕ, suc, not, nat_le, List, [], ◌∷◌, ◌++◌, Bool, true, false, Option, Some, None, map, get_or, length, refl, ap, sym, ◌∙◌, arith, Vec}
use mathlib.Core.Bool.{cond}
use mathlib.Core.Path.{subst}
use Rattle.std.specs.Prelude.{bytes_eq, slice_get, filter}
use Rattle.std.specs.List.{list_all}
use Rattle.std.specs.BTreeMap.{get, is_at}
use Rattle.std.specs.Global.{Global}
use Rattle.std.proofs.Common.{inl, inr}
use Rattle.std.proofs.lemmas.Bool.Decides.{eqb_tells, leb_tells}
use Rattle.std.proofs.lemmas.List.{append_assoc, append-nil, map-append, get_or_append_left, length-append}
use Rattle.std.proofs.Math.Seq.{get_or-append_seam}
use Rattle.x12_acks.specs.Accepted.{AcceptedSet}
use Rattle.x12_acks.specs.Key.{is_same_key, key_view}
use Rattle.x12_acks.specs.Submission.{TransactionSetKey}
use Rattle.x12_acks.specs.declared.key.SetKey.{SetKey}
use Rattle.x12_inbound.specs.Posting.{posting_view}
use Rattle.x12_inbound.specs.Register.{posted_in}
use Rattle.x12_inbound.specs.declared.posting.Posting.{Posting}
use Rattle.x12_inbound.proofs.OrderLemmas.{is_eq-set, key_flips}
use Rattle.x12_inbound.specs.Order.{party_order}
use Rattle.x12_numbers.proofs.Shelf.{some_inj}
use Rattle.std.specs.declared.cmp.Ordering.{Ordering}
use Rattle.std.specs.declared.cmp.Ordering.TheVariants.{Less, Equal, Greater}
use Rattle.std.specs.Ordering.{nat_cmp, ordering_then, is_eq}
use Rattle.x12_outbound.proofs.FirstEvidenceLemmas.{same_key}
use Rattle.x12_outbound.specs.declared.fate.Fate.{Fate}
use Rattle.x12_outbound.specs.declared.fate.Fate.TheVariants.{Pending, Accepted, Noted, Rejected}
use Rattle.x12_profile.specs.Interchange.{Bytes}
use Rattle.x12_profile.specs.X12.{x12}
use Rattle.x12_station.specs.History.{postings}
use Rattle.x12_station.specs.Seen.{StationView}
use Rattle.x12_station.specs.Station.{Station}
use Rattle.x12_world.specs.Asking.{states_of}
use Rattle.x12_report.specs.Audit.{postings_are_bad}
use Rattle.x12_world.specs.Auditing.{bytes_of_posting, first_bytes, first_under, found_under, posted_bytes}
use Rattle.x12_world.specs.Posted.{Posted, set_key_order, bytes_found, bytes_under, ArePosted, IsByKey, IsOneMore}
use Rattle.x12_world.proofs.AskingLemmas.{state_there}

-- the order is the one that the definitions name
nested : (p n g s : Ordering) → ordering_then p (ordering_then n (ordering_then g s)) ≡ ordering_then (ordering_then (ordering_then p n) g) s
nested Less n g s = refl
nested Greater n g s = refl
nested Equal Less g s = refl
nested Equal Greater g s = refl
nested Equal Equal g s = refl

-- keys that neither is above are the same
is_eq-key : (j k : SetKey) → is_eq (set_key_order j k) ≡ is_same_key (key_view j) (key_view k)
is_eq-key j k =
    ap is_eq (nested (party_order j.sender k.sender) (nat_cmp j.icn k.icn) (nat_cmp j.group k.group) (nat_cmp j.set k.set))
    ∙ is_eq-set (key_view j) (key_view k)

-- what changes at one key changes at no other
pub others_stay : (old new : Posted) (key : SetKey) (w : Option (Vec (Vec ℕ Global) Global))
    → ((q : SetKey) → get set_key_order new q ≡ cond (is_at (set_key_order key) q) w (get set_key_order old q))
    → (k : SetKey) → is_same_key (key_view key) (key_view k) ≡ false → bytes_under new k ≡ bytes_under old k
others_stay old new key w updates k other =
    ap bytes_found (updates k ∙ ap (λ b. cond b w (get set_key_order old k)) (is_eq-key key k ∙ other))

abbrev code_key : TransactionSetKey → SetKey
code_key v = record { sender = v.sender; icn = v.icn; group = v.group; set = v.set }

pub pushed : (old mid new : Posted) (key : SetKey) (under after : Vec (Vec ℕ Global) Global) (one : Vec ℕ Global)
    → map (λ b. b.items) under.items ≡ bytes_under old key
    → ((k : SetKey) → is_same_key (key_view key) (key_view k) ≡ false → bytes_under mid k ≡ bytes_under old k)
    → after.items ≡ under.items ++ one ∷ []
    → ((q : SetKey) → get set_key_order new q ≡ cond (is_at (set_key_order key) q) (Some after) (get set_key_order mid q))
    → (k : SetKey) → bytes_under new k ≡ bytes_under old k ++ cond (is_same_key (key_view k) (key_view key)) (one.items ∷ []) []
pushed old mid new key under after one taken others put updates k = by (is_same_key (key_view key) (key_view k)) refl
  where
    by : (t : Bool) → is_same_key (key_view key) (key_view k) ≡ t → bytes_under new k ≡ bytes_under old k ++ cond (is_same_key (key_view k) (key_view key)) (one.items ∷ []) []
    by true same =
        ap bytes_found (updates k ∙ ap (λ b. cond b (Some after) (get set_key_order mid k)) (is_eq-key key k ∙ same))
        ∙ ap (map (λ (b : Vec ℕ Global). b.items)) put ∙ map-append (λ (b : Vec ℕ Global). b.items) under.items (one ∷ [])
        ∙ ap (λ (xs : List Bytes). xs ++ one.items ∷ []) (taken ∙ ap (λ v. bytes_under old (code_key v)) (same_key (key_view key) (key_view k) same))
        ∙ sym (ap (λ b. bytes_under old k ++ cond b (one.items ∷ []) []) (key_flips (key_view k) (key_view key) ∙ same))
    by false other =
        others_stay mid new key (Some after) updates k other ∙ others k other ∙ sym (append-nil (bytes_under old k))
        ∙ sym (ap (λ b. bytes_under old k ++ cond b (one.items ∷ []) []) (key_flips (key_view k) (key_view key) ∙ other))

first_posted : (k : TransactionSetKey) (q : AcceptedSet) (qs : List AcceptedSet) → posted_bytes k (q ∷ qs) ≡ cond (is_same_key k q.key) (q.bytes ∷ []) [] ++ posted_bytes k qs
first_posted k q qs = by (is_same_key k q.key)
  where
    rest : List AcceptedSet
    rest = filter (λ (r : AcceptedSet). is_same_key k r.key) qs

    by : (t : Bool) → map (λ (r : AcceptedSet). r.bytes) (cond t (q ∷ rest) rest) ≡ cond t (q.bytes ∷ []) [] ++ map (λ (r : AcceptedSet). r.bytes) rest
    by true = refl
    by false = refl

-- no fate suits two
not_few : (n : ℕ) → nat_le (suc (suc n)) 1 ≡ false
not_few n = elim (leb_tells (suc (suc n)) 1) [
  | inl few ↦ let low = few.1 in absurd (omega (arith, low))
  | inr many ↦ many.0
]

not_so_few : (n m : ℕ) → m ≤ 1 → (suc (suc n) == m) ≡ false
not_so_few n m low = elim (eqb_tells (suc (suc n)) m) [
  | inl same ↦ let e = same.1 in absurd (omega (arith, low, e))
  | inr other ↦ other.0
]

two_are_bad : (fate : Fate) (intact : Bool) (b c : Bytes) (bs : List Bytes) → postings_are_bad fate intact (Some (length (b ∷ c ∷ bs))) ≡ true
two_are_bad Pending intact b c bs = ap (λ t. not (t && intact)) (not_few (length bs))
two_are_bad Accepted intact b c bs = ap (λ t. not (t && intact)) (not_so_few (length bs) 1 (omega arith))
two_are_bad Noted intact b c bs = ap (λ t. not (t && intact)) (not_so_few (length bs) 1 (omega arith))
two_are_bad Rejected intact b c bs = ap (λ t. not (t && intact)) (not_so_few (length bs) 0 (omega arith))

none_more : (fate : Fate) (intact : Bool) (b : Bytes) (bs : List Bytes) → postings_are_bad fate intact (Some (length (b ∷ bs))) ≡ false → bs ≡ []
none_more fate intact b [] good = refl
none_more fate intact b (c ∷ bs) good = let both : true ≡ false = sym (two_are_bad fate intact b c bs) ∙ good in absurd cc

-- where an audit isn't bad, the first posting under a key is all that stand under it
pub first_is_all : (fate : Fate) (intact : Bool) (k : TransactionSetKey) (qs : List AcceptedSet) → postings_are_bad fate intact (Some (length (posted_bytes k qs))) ≡ false → first_bytes k qs ≡ posted_bytes k qs
first_is_all fate intact k [] good = refl
first_is_all fate intact k (q ∷ qs) good = by (is_same_key k q.key) refl (first_is_all fate intact k qs)
  where
    all : (t : Bool) → is_same_key k q.key ≡ t → posted_bytes k (q ∷ qs) ≡ cond t (q.bytes ∷ []) [] ++ posted_bytes k qs
    all t e = first_posted k q qs ∙ ap (λ b. cond b (q.bytes ∷ []) [] ++ posted_bytes k qs) e

    first : (t : Bool) → is_same_key k q.key ≡ t → first_bytes k (q ∷ qs) ≡ bytes_of_posting (cond t (Some q) (posted_in qs k))
    first t e = ap (λ b. bytes_of_posting (cond b (Some q) (posted_in qs k))) (key_flips q.key k ∙ e)

    good_so : (t : Bool) → is_same_key k q.key ≡ t → postings_are_bad fate intact (Some (length (cond t (q.bytes ∷ []) [] ++ posted_bytes k qs))) ≡ false
    good_so t e = subst (λ bs. postings_are_bad fate intact (Some (length bs)) ≡ false) (all t e) good

    by : (t : Bool) → is_same_key k q.key ≡ t → (postings_are_bad fate intact (Some (length (posted_bytes k qs))) ≡ false → first_bytes k qs ≡ posted_bytes k qs)
        → first_bytes k (q ∷ qs) ≡ posted_bytes k (q ∷ qs)
    by true same later = first true same ∙ ap (λ bs. q.bytes ∷ bs) (sym (none_more fate intact q.bytes (posted_bytes k qs) (good_so true same))) ∙ sym (all true same)
    by false other later = first false other ∙ later (good_so false other) ∙ sym (all false other)

pub first_is_found : (fate : Fate) (intact : Bool) (receiver : Option Station) (k : TransactionSetKey) (bytes : Bytes)
    → postings_are_bad fate intact (found_under receiver k bytes).0 ≡ false → first_under receiver k bytes ≡ found_under receiver k bytes
first_is_found fate intact None k bytes good = refl
first_is_found fate intact (Some s) k bytes good = ap (λ bs. (Some (length bs), list_all (bytes_eq bytes) bs)) (first_is_all fate intact k (postings x12 s.items) good)

-- one posting more
pub one_more : (p : Posting) (ps : List Posting) (k : TransactionSetKey) (before after all : List Bytes)
    → after ≡ before ++ cond (is_same_key k (key_view p.key)) (p.bytes.items ∷ []) []
    → before ++ posted_bytes k (map posting_view (p ∷ ps)) ≡ all
    → after ++ posted_bytes k (map posting_view ps) ≡ all
one_more p ps k before after all put was =
    ap (λ l. l ++ posted_bytes k (map posting_view ps)) put
    ∙ append_assoc before (cond (is_same_key k (key_view p.key)) (p.bytes.items ∷ []) []) (posted_bytes k (map posting_view ps))
    ∙ ap (λ l. before ++ l) (sym (first_posted k (posting_view p) (map posting_view ps)))
    ∙ was

-- one station more
module _ {R : Type 0} (first ss : List (StationView R)) (i : ℕ) (old : StationView R) (within : i < length ss) (is : old ≡ get_or ss i old) (same : states_of ss ≡ states_of first)
    (all new : List Posted) (long : length all ≡ i) (was : ArePosted (states_of first) all) (more : IsOneMore old.state all new) where
  here : slice_get (states_of first) i ≡ Some old.state
  here = subst (λ ts. slice_get ts i ≡ Some old.state) same (state_there ss i old is within)

  last : (j : ℕ) (s : Station) (posted : Posted) → slice_get (states_of first) j ≡ Some s → posted ≡ get_or new j posted → j ≡ length all → IsByKey posted (postings x12 s.items)
  last j s posted at got e =
      let one : posted ≡ more.0 = got ∙ ap (λ l. get_or l j posted) more.1 ∙ ap (λ n. get_or (all ++ more.0 ∷ []) n posted) e ∙ get_or-append_seam all more.0 [] posted in
      let state : old.state ≡ s = some_inj (sym here ∙ ap (λ n. slice_get (states_of first) n) (sym (e ∙ long)) ∙ at) in
      subst (λ m. IsByKey m (postings x12 s.items)) (sym one) (subst (λ (t : Station). IsByKey more.0 (postings x12 t.items)) state more.2)

  before : (j : ℕ) (s : Station) (posted : Posted) → slice_get (states_of first) j ≡ Some s → posted ≡ get_or new j posted → j < length all → IsByKey posted (postings x12 s.items)
  before j s posted at got lt = was j s posted at lt (got ∙ ap (λ l. get_or l j posted) more.1 ∙ get_or_append_left all (more.0 ∷ []) posted j lt)

  pub one_posted : ArePosted (states_of first) new
  one_posted j s posted at below got = elim (eqb_tells j (length all)) [
    | inl e ↦ last j s posted at got e.1
    | inr e ↦ before j s posted at got (let n : length new ≡ length all + 1 = ap length more.1 ∙ length-append all (more.0 ∷ []) in let ne = e.1 in omega (arith, below, n, ne))
  ]
