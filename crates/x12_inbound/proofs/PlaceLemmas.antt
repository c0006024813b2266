-- Where filed interchanges and postings stand, by their orders.
use Rattle.std.proofs.Common.{ℕ, ◌≡◌, ◌∙◌, ◌+◌, ◌<◌, ap, ap₂, sym, List, map, length, get_or, None, Some, Err, All, true, false, slice_get, arith}
use Rattle.std.specs.declared.cmp.Ordering.TheVariants.{Less, Equal}
use Rattle.std.specs.Ordering.{is_eq, is_lt}
use Rattle.std.specs.List.{HoldsAt}
use Rattle.std.specs.List.Sorted.{IsSearchInRange, IsBinarySearchResult}
use Rattle.std.proofs.lemmas.List.{length-map}
use Rattle.x12_envelopes.specs.declared.party.Party.{Party}
use Rattle.x12_acks.specs.Submission.{TransactionSetKey}
use Rattle.x12_acks.specs.Key.{is_same_key}
use Rattle.x12_inbound.specs.declared.filing.FiledRow.{FiledRow}
use Rattle.x12_inbound.specs.declared.posting.Posting.{Posting}
use Rattle.x12_inbound.specs.Order.{InterchangeKey, interchange, interchange_holding, is_same_interchange, interchange_order, set_order}
use Rattle.x12_inbound.specs.Filing.{filed_key, filed_under, filed_row_view}
use Rattle.x12_inbound.specs.Posting.{posting_view}
use Rattle.x12_acks.specs.Accepted.{AcceptedSet}
use Rattle.x12_inbound.specs.Arrival.{RiseByKey}
use Rattle.x12_inbound.specs.Place.{IsPlace}
use Rattle.x12_inbound.specs.Register.{RiseByNumber, found_in, posted_in}
use Rattle.x12_inbound.proofs.OrderLemmas.{interchange_total, set_total, is_eq-interchange, is_eq-set, interchanges_keep_order, equal_interchange}
use Rattle.x12_inbound.proofs.SearchLemmas.{neighbours, missed, none_same, found_same, from_view, someone, get_or-default}
use Rattle.x12_numbers.proofs.Shelf.{pairs_from_map, mapped_at}

-- by number
rows_up : (rows : List FiledRow) → RiseByNumber (map filed_row_view rows) → (k : ℕ) (d : FiledRow) → k + 1 < length rows
    → is_lt (interchange_order (filed_key (filed_row_view (get_or rows (k + 1) d))) (filed_key (filed_row_view (get_or rows k d)))) ≡ false
rows_up rows rise = neighbours filed_row_view filed_key interchange_order interchange_total rows rise

pub row_missed : (rows : List FiledRow) (key : InterchangeKey) → RiseByNumber (map filed_row_view rows) → (i : ℕ)
    → IsSearchInRange (Err i) (length rows)
    → IsBinarySearchResult (λ row. interchange_order (filed_key (filed_row_view row)) key) rows (Err i)
    → IsPlace (λ f. interchange_order (filed_key f) key) (map filed_row_view rows) i
row_missed rows key rise =
    missed filed_row_view filed_key interchange_order interchange_total is_same_interchange is_eq-interchange rows key (rows_up rows rise)

pub no_row : (rows : List FiledRow) (key : InterchangeKey) → RiseByNumber (map filed_row_view rows) → (i : ℕ)
    → IsSearchInRange (Err i) (length rows)
    → IsBinarySearchResult (λ row. interchange_order (filed_key (filed_row_view row)) key) rows (Err i)
    → found_in (map filed_row_view rows) key ≡ None
no_row rows key rise i in_range position =
    none_same filed_row_view filed_key interchange_order interchange_total is_same_interchange is_eq-interchange rows key i
    (row_missed rows key rise i in_range position)

pub row_found : (rows : List FiledRow) (key : InterchangeKey) → RiseByNumber (map filed_row_view rows) → (i : ℕ) → i < length rows
    → HoldsAt (λ row. interchange_order (filed_key (filed_row_view row)) key ≡ Equal) rows i
    → found_in (map filed_row_view rows) key ≡ slice_get (map filed_row_view rows) i
row_found rows key rise =
    found_same filed_row_view filed_key interchange_order interchange_total is_same_interchange is_eq-interchange rows key rise

pub row_is : (rows : List FiledRow) (partner : Party) (icn : ℕ) → RiseByNumber (map filed_row_view rows) → (i : ℕ) → i < length rows
    → HoldsAt (λ row. interchange_order (filed_key (filed_row_view row)) (interchange partner icn) ≡ Equal) rows i
    → (r : FiledRow) → r ≡ get_or rows i r
    → Some (filed_under partner icn (get_or rows i r).filed) ≡ found_in (map filed_row_view rows) (interchange partner icn)
row_is rows partner icn rise i within equal r is =
    let g : FiledRow = get_or rows i r in
    let same = equal_interchange (filed_key (filed_row_view g)) (interchange partner icn) (equal r) in
    let under : filed_row_view g ≡ filed_under partner icn g.filed = ap₂ (λ (p : Party) (n : ℕ). filed_under p n g.filed) same.0 same.1 in
    sym (row_found rows (interchange partner icn) rise i within equal ∙ mapped_at filed_row_view rows i r within is
    ∙ ap Some (ap filed_row_view is ∙ under))

-- by key

pub no_posting : (ps : List Posting) (key : TransactionSetKey) → RiseByKey (map posting_view ps) → (i : ℕ)
    → IsSearchInRange (Err i) (length ps)
    → IsBinarySearchResult (λ p. set_order (posting_view p).key key) ps (Err i)
    → posted_in (map posting_view ps) key ≡ None
no_posting ps key rise i in_range position =
    let at_key : AcceptedSet → TransactionSetKey = λ p. p.key in
    none_same posting_view at_key set_order set_total is_same_key is_eq-set ps key i
    (missed posting_view at_key set_order set_total is_same_key is_eq-set ps key
    (neighbours posting_view at_key set_order set_total ps rise) i in_range position)

pub posting_found : (ps : List Posting) (key : TransactionSetKey) → RiseByKey (map posting_view ps) → (i : ℕ) → i < length ps
    → HoldsAt (λ p. set_order (posting_view p).key key ≡ Equal) ps i
    → posted_in (map posting_view ps) key ≡ slice_get (map posting_view ps) i
posting_found ps key rise =
    let at_key : AcceptedSet → TransactionSetKey = λ p. p.key in
    found_same posting_view at_key set_order set_total is_same_key is_eq-set ps key rise

-- postings by interchange
pub posting_missed : (ps : List Posting) (key : InterchangeKey) → RiseByKey (map posting_view ps) → (i : ℕ)
    → IsSearchInRange (Err i) (length ps)
    → IsBinarySearchResult (λ p. interchange_order (interchange_holding (posting_view p).key) key) ps (Err i)
    → IsPlace (λ p. interchange_order (interchange_holding p.key) key) (map posting_view ps) i
posting_missed ps key rise =
    let at_key : AcceptedSet → InterchangeKey = λ p. interchange_holding p.key in
    missed posting_view at_key interchange_order interchange_total is_same_interchange is_eq-interchange ps key (λ k d within.
    let pair = pairs_from_map posting_view (λ a b. set_order a.key b.key ≡ Less) ps rise k (k + 1) d (omega arith) within in
    interchanges_keep_order (posting_view (get_or ps k d)).key (posting_view (get_or ps (k + 1) d)).key pair)

-- a search can't end at an interchange that isn't there
pub no_such_row : (rows : List FiledRow) (key : InterchangeKey) (i : ℕ) → i < length rows
    → HoldsAt (λ row. interchange_order (filed_key (filed_row_view row)) key ≡ Equal) rows i
    → RiseByNumber (map filed_row_view rows) → found_in (map filed_row_view rows) key ≡ None → ⊥
no_such_row rows key i within equal rise none =
    let d = someone rows i within in
    let there = mapped_at filed_row_view rows i (get_or rows i d) within (get_or-default rows i d within) in
    let clash : Some (filed_row_view (get_or rows i d)) ≡ None = sym there ∙ sym (row_found rows key rise i within equal) ∙ none in
    cc

-- nor at a posting of an interchange that has none
pub no_such_posting : (ps : List Posting) (key : InterchangeKey) (i : ℕ) → i < length ps
    → HoldsAt (λ p. interchange_order (interchange_holding (posting_view p).key) key ≡ Equal) ps i
    → All (λ p. is_same_interchange (interchange_holding p.key) key ≡ false) (map posting_view ps) → ⊥
no_such_posting ps key i within equal none =
    let d = someone ps i within in
    let k : InterchangeKey = interchange_holding (posting_view (get_or ps i d)).key in
    let other : is_same_interchange k key ≡ false =
    from_view posting_view (λ p. is_same_interchange (interchange_holding p.key) key ≡ false) ps i within
    (λ e. none i e (omega (arith, length-map ps posting_view, within))) d in
    let tie : is_eq (interchange_order k key) ≡ true = ap is_eq (equal d) in
    let clash : true ≡ false = sym tie ∙ is_eq-interchange k key ∙ other in
    cc
