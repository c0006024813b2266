-- The order of the interchanges in a ledger, which no change of a set or of a schedule disturbs.
use Rattle.std.proofs.Common.{ℕ, ◌≡◌, ◌-◌, ◌==◌, ◌∙◌, ap, ap₂, sym, inl, inr, Vec, Global, List, [], ◌∷◌, ◌++◌, map, length, set, All, arith, refl}
use Rattle.std.specs.Vec.{with_items}
use Rattle.std.proofs.lemmas.Bool.{cases_Bool}
use Rattle.std.proofs.Math.Seq.{map-set_same}
use Rattle.std.proofs.lemmas.List.{map-append}
use Rattle.std.proofs.lemmas.List.Elements.{All-push}
use Rattle.std.proofs.lemmas.List.Quantifiers.{all_pairs_push}
use Rattle.std.proofs.lemmas.Option.{slice_get_cases}
use Rattle.x12_envelopes.specs.declared.party.Party.{Party}
use Rattle.x12_acks.specs.Submission.{IsBefore, TransactionSetKey}
use Rattle.x12_outbound.specs.declared.row.Row.{Row}
use Rattle.x12_outbound.specs.declared.row.Change.{Change}
use Rattle.x12_outbound.specs.declared.row.Change.TheVariants.{Lift, Lay, Close}
use Rattle.x12_outbound.specs.Entry.{SetRow, GroupRow, InterchangeRow, submitted_set_of_row, submitted_group_of_row, submission_of_entry, with_place, with_set_at, IsSendable}
use Rattle.x12_outbound.specs.Ledger.{LedgerRow, row_view, submitted_by, AreInOrder, IcnsRise, with_set_of, set_row_changed, row_is_due, row_sent_if_due}
use Rattle.x12_numbers.proofs.Shelf.{pairs_from_map}
use Rattle.x12_outbound.proofs.WriteLemmas.{written}

-- the interchanges' numbers rise
pub icns_rise : (me : Party) (rows : List LedgerRow) → AreInOrder (submitted_by me rows) → IcnsRise rows
unfolding submitted_by
icns_rise me rows order = λ i j d before within.
    (pairs_from_map (λ (r : LedgerRow). submission_of_entry me r.interchange) IsBefore rows order.before i j d before within).interchange

pub icns_rise_of : (me : Party) (items before : List Row) → before ≡ items
    → AreInOrder (submitted_by me (map row_view items)) → IcnsRise (map row_view before)
icns_rise_of me items before is order = rw is (icns_rise me (map row_view items) order)

-- what a change at a place doesn't tell
pub map_with_place_same : {X Y : Type 0} (v : X → Y) (f : X → X) → ((x : X) → v (f x) ≡ v x)
    → (place : ℕ) (xs : List X) → map v (with_place f place xs) ≡ map v xs
map_with_place_same v f same place xs = elim (cases_Bool (place == 0)) [
  | inl none ↦ rw none refl
  | inr some ↦ rw some (elim ((slice_get_cases xs (place - 1)).1) [
    | inl found ↦ rw found.2 (map-set_same v xs (place - 1) (f found.0) found.0 (same found.0 ∙ ap v (sym found.3)))
    | inr past ↦ rw past.1 refl
  ])
]

-- a change of a set that keeps its number changes nothing that was submitted
submitted_same : (f : SetRow → SetRow) → ((s : SetRow) → (f s).number ≡ s.number) → (me : Party) (group set : ℕ)
    (e : InterchangeRow) → submission_of_entry me (with_set_at f group set e) ≡ submission_of_entry me e
unfolding with_set_at
submitted_same f keeps me group set e =
    let in_group = λ (g : GroupRow). record g { sets = with_place f set g.sets } in
    let of_set = λ (s : SetRow). ap (λ (number : List ℕ). submitted_set_of_row (record s { number = number })) (keeps s) in
    let of_group = λ (g : GroupRow). ap (λ sets. record (submitted_group_of_row g) { sets = sets }) (map_with_place_same submitted_set_of_row f of_set set g.sets) in
    ap (λ groups. record (submission_of_entry me e) { groups = groups }) (map_with_place_same submitted_group_of_row in_group of_group group e.groups)

-- what a change of each element doesn't tell
pub map_same : {X Y : Type 0} (v : X → Y) (f : X → X) → ((x : X) → v (f x) ≡ v x) → (xs : List X) → map v (map f xs) ≡ map v xs
map_same v f same [] = refl
map_same v f same (x ∷ xs) = ap₂ (λ y ys. y ∷ ys) (same x) (map_same v f same xs)

pub sent_by_changed : (f : SetRow → SetRow) → ((s : SetRow) → (f s).number ≡ s.number) → (me : Party)
    (key : TransactionSetKey) (rows : List LedgerRow) → submitted_by me (map (with_set_of f key) rows) ≡ submitted_by me rows
unfolding submitted_by
sent_by_changed f keeps me key rows =
    let tell = λ (r : LedgerRow). submission_of_entry me r.interchange in
    let one : (r : LedgerRow) → tell (with_set_of f key r) ≡ tell r = λ r. elim (cases_Bool (r.interchange.icn == key.icn)) [
      | inl is ↦ rw is (submitted_same f keeps me key.group key.set r.interchange)
      | inr not ↦ rw not refl
    ] in
    map_same tell (with_set_of f key) one rows

changed_number : (change : Change) (s : SetRow) → (set_row_changed change s).number ≡ s.number
changed_number Lift s = refl
changed_number Lay s = refl
changed_number (Close fate) s = refl

-- a sending tells nothing of what was submitted
pub sent_by_sent : (me : Party) (now : ℕ) (rows : List LedgerRow) → submitted_by me (map (row_sent_if_due now) rows) ≡ submitted_by me rows
unfolding submitted_by
sent_by_sent me now rows =
    let tell = λ (r : LedgerRow). submission_of_entry me r.interchange in
    let one : (r : LedgerRow) → tell (row_sent_if_due now r) ≡ tell r = λ r. elim (cases_Bool (row_is_due now r)) [
      | inl is ↦ rw is refl
      | inr not ↦ rw not refl
    ] in
    map_same tell (row_sent_if_due now) one rows

-- the order after rows were written over
module _ (me : Party) (v : Vec Row Global) (before new : List Row) (is : before ≡ v.items) (long : length new ≡ length before)
    (order : AreInOrder (submitted_by me (map row_view v.items))) where
  pub in_order_changed : (change : Change) (key : TransactionSetKey)
      → map row_view new ≡ map (with_set_of (set_row_changed change) key) (map row_view before)
      → AreInOrder (submitted_by me (map row_view (with_items v new).items))
  in_order_changed change key changes = rw (written v before new is long, changes, is, sent_by_changed (set_row_changed change) (changed_number change) me key (map row_view v.items)) order

  pub in_order_sent : (now : ℕ) → map row_view new ≡ map (row_sent_if_due now) (map row_view before)
      → AreInOrder (submitted_by me (map row_view (with_items v new).items))
  in_order_sent now changes = rw (written v before new is long, changes, is, sent_by_sent me now (map row_view v.items)) order

-- one interchange more, after all that are held
pub in_order_added : (me : Party) (rows : List Row) (row : Row) (after : List Row) → after ≡ rows ++ row ∷ []
    → AreInOrder (submitted_by me (map row_view rows))
    → IsSendable (submission_of_entry me (row_view row).interchange)
    → All (λ s. IsBefore s (submission_of_entry me (row_view row).interchange)) (submitted_by me (map row_view rows))
    → AreInOrder (submitted_by me (map row_view after))
unfolding submitted_by
in_order_added me rows row after is order sendable before =
    rw (is, map-append, map-append) (record {
      sendable = All-push IsSendable (submitted_by me (map row_view rows)) _ order.sendable sendable;
      before = all_pairs_push IsBefore (submitted_by me (map row_view rows)) _ order.before before;
    })

pub in_order_empty : (me : Party) (rows : List Row) → rows ≡ [] → AreInOrder (submitted_by me (map row_view rows))
unfolding submitted_by
in_order_empty me rows none = rw none (record {
  sendable = λ k d within. absurd (omega arith);
  before = λ i j d earlier within. absurd (omega arith);
})
