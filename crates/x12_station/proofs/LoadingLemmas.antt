-- A ledger that is made of a list of submissions, one after the other.
use Rattle.std.proofs.Common.{ℕ, ◌≡◌, ◌∙◌, ◌<◌, ◌-◌, ◌==◌, ap, sym, subst, refl, inl, inr, Bool, true, false, Option, None, Some, find, List, [], ◌∷◌, ◌++◌, length, get_or, map, All, AllPairs, arith}
use Rattle.std.proofs.Math.ListN.{get_or-append}
use Rattle.std.proofs.Math.Seq.{get_or-append_seam}
use Rattle.std.specs.Prelude.{IfSome, if◌then◌else◌, option_map, option_and_then, slice_get}
use Rattle.std.proofs.lemmas.List.{map-append}
use Rattle.std.proofs.lemmas.Option.{slice_get_cases}
use Rattle.std.proofs.lemmas.List.Elements.{All-contains, All-map, Contains-append_right, Contains-append_left, Contains-push}
use Rattle.x12_envelopes.specs.declared.party.Party.{Party}
use Rattle.x12_numbers.specs.Book.{Numbers}
use Rattle.x12_judge.specs.Agreement.{is_same_party}
use Rattle.x12_acks.specs.Submission.{IsBefore, TransactionSetKey}
use Rattle.x12_outbound.specs.Entry.{InterchangeRow, GroupRow, IsSendable, submission_of_entry, at_place, set_row_at}
use Rattle.x12_outbound.specs.Ledger.{OutboundLedger, LedgerRow, AreInOrder, MayBeAdded, NoneIsOut, empty_ledger, submitted_by, with_interchange, interchange_in, row_in}
use Rattle.x12_outbound.specs.Schedule.{unsent_schedule}
use Rattle.x12_outbound.specs.Hubs.{hubs_of}
use Rattle.x12_outbound.specs.declared.hubs.Hubs.{Hubs}
use Rattle.x12_station.specs.working.Loading.{IsLedgerOf, unsent_row}
use Rattle.x12_station.specs.Record.{HasNoneOut}
use Rattle.x12_station.specs.Stored.{IsNumberedBy}
use Rattle.x12_station.proofs.OpenLemmas.{all_head, all_tail}

-- each element before one in the middle is before it
pub pairs_before : {X : Type 0} (L : X → X → Type 0) (xs zs : List X) (y : X) → AllPairs L (xs ++ y ∷ zs) → All (λ x. L x y) xs
pairs_before L xs zs y pairs = λ k d within.
    let long : length xs < length (xs ++ y ∷ zs) = seam xs in
    let met = pairs k (length xs) d within long in
    subst (λ e. L e y) (get_or-append xs (y ∷ zs) d k within) (subst (λ e. L (get_or (xs ++ y ∷ zs) k d) e) (get_or-append_seam xs y zs d) met)
  where
    seam : (ys : List _) → length ys < length (ys ++ y ∷ zs)
    seam [] = omega arith
    seam (x ∷ ys) = omega (arith, seam ys)

-- one more of a list of submissions that are in order is the next
pub next_is : (me : Party) (es rest : List InterchangeRow) (e : InterchangeRow) (l : OutboundLedger) → AreInOrder (map (submission_of_entry me) (es ++ e ∷ rest)) → l.me ≡ me → l.rows ≡ map unsent_row es → MayBeAdded l e
unfolding submitted_by
next_is me es rest e l order party rows = rw party (record {
  sendable = All-contains IsSendable _ (submission_of_entry me e) (subst (λ xs. All IsSendable xs) split order.sendable) (Contains-append_right (map (submission_of_entry me) es) (submission_of_entry me e ∷ map (submission_of_entry me) rest) (submission_of_entry me e) (Contains-append_left (submission_of_entry me e ∷ []) (map (submission_of_entry me) rest) (submission_of_entry me e) (Contains-push [] (submission_of_entry me e))));
  after = rw (rows, sent es) (pairs_before IsBefore (map (submission_of_entry me) es) (map (submission_of_entry me) rest) (submission_of_entry me e) (subst (λ xs. AllPairs IsBefore xs) split order.before));
})
  where
    split : map (submission_of_entry me) (es ++ e ∷ rest) ≡ map (submission_of_entry me) es ++ submission_of_entry me e ∷ map (submission_of_entry me) rest
    split = map-append (submission_of_entry me) es (e ∷ rest)

    sent : (xs : List InterchangeRow) → map (λ (r : LedgerRow). submission_of_entry me r.interchange) (map unsent_row xs) ≡ map (submission_of_entry me) xs
    sent [] = refl
    sent (x ∷ xs) = ap (λ ys. submission_of_entry me x ∷ ys) (sent xs)

pub starts : (me : Party) (its : Hubs) (l : OutboundLedger) → l ≡ empty_ledger me (hubs_of its) → IsLedgerOf me its [] l
unfolding empty_ledger
starts me its l is = record {
  party = ap (λ (v : OutboundLedger). v.me) is;
  hubs = ap (λ (v : OutboundLedger). v.hubs) is;
  tick = ap (λ (v : OutboundLedger). v.tick) is;
  rows = ap (λ (v : OutboundLedger). v.rows) is;
}

pub grows : (me : Party) (its : Hubs) (es : List InterchangeRow) (e : InterchangeRow) (old new : OutboundLedger) → IsLedgerOf me its es old
    → new ≡ with_interchange e unsent_schedule old → IsLedgerOf me its (es ++ e ∷ []) new
unfolding with_interchange
grows me its es e old new was is = record {
  party = ap (λ (v : OutboundLedger). v.me) is ∙ was.party;
  hubs = ap (λ (v : OutboundLedger). v.hubs) is ∙ was.hubs;
  tick = ap (λ (v : OutboundLedger). v.tick) is ∙ was.tick;
  rows = ap (λ (v : OutboundLedger). v.rows) is ∙ ap (λ rows. rows ++ unsent_row e ∷ []) was.rows ∙ sym (map-append unsent_row es (e ∷ []));
}

-- No set is out of a ledger that was made of laid entries.

all_at : {X : Type 0} (P : X → Type 0) (xs : List X) (place : ℕ) → All P xs → IfSome (at_place place xs) P
all_at P xs place all = by (place == 0)
  where
    by : (t : Bool) → IfSome (if t then None else slice_get xs (place - 1)) P
    by true = tt
    by false = elim ((slice_get_cases xs (place - 1)).1) [
      | inl found ↦ rw found.2 (subst P found.3 (all (place - 1) found.0 found.1))
      | inr past ↦ rw past.1 tt
    ]

pub laid_set : (group set : ℕ) (e : InterchangeRow) → HasNoneOut e → IfSome (set_row_at group set e) (λ s. s.is_out ≡ false)
unfolding set_row_at
laid_set group set e laid = by (at_place group e.groups) (all_at (λ g. All (λ t. t.is_out ≡ false) g.sets) e.groups group laid)
  where
    by : (o : Option GroupRow) → IfSome o (λ g. All (λ t. t.is_out ≡ false) g.sets) → IfSome (option_and_then (λ (g : GroupRow). at_place set g.sets) o) (λ s. s.is_out ≡ false)
    by None h = tt
    by (Some g) h = all_at (λ t. t.is_out ≡ false) g.sets set h

laid_entry : (es : List InterchangeRow) (icn : ℕ) → All HasNoneOut es → IfSome (interchange_in (map unsent_row es) icn) HasNoneOut
unfolding interchange_in
laid_entry [] icn all = tt
laid_entry (e ∷ es) icn all = by (e.icn == icn) (laid_entry es icn (all_tail HasNoneOut e es all))
  where
    by : (t : Bool) → IfSome (interchange_in (map unsent_row es) icn) HasNoneOut → IfSome (option_map (λ r. r.interchange) (if t then Some (unsent_row e) else find (λ r. r.interchange.icn == icn) (map unsent_row es))) HasNoneOut
    by true rest = all_head HasNoneOut e es all
    by false rest = rest

pub none_is_out : (es : List InterchangeRow) (l : OutboundLedger) → l.rows ≡ map unsent_row es → All HasNoneOut es → NoneIsOut l
unfolding row_in
none_is_out es l rows all = λ key. rw rows (by key (is_same_party key.sender l.me))
  where
    from : (key : TransactionSetKey) (o : Option InterchangeRow) → IfSome o HasNoneOut → IfSome (option_and_then (set_row_at key.group key.set) o) (λ s. s.is_out ≡ false)
    from key None h = tt
    from key (Some e) h = laid_set key.group key.set e h

    by : (key : TransactionSetKey) (t : Bool) → IfSome (if t then option_and_then (set_row_at key.group key.set) (interchange_in (map unsent_row es) key.icn) else None) (λ s. s.is_out ≡ false)
    by key true = from key (interchange_in (map unsent_row es) key.icn) (laid_entry es key.icn all)
    by key false = tt

pub used_rows : (book : Numbers) (es : List InterchangeRow) → All (IsNumberedBy book) es → All (λ r. IsNumberedBy book r.interchange) (map unsent_row es)
used_rows book es all = All-map (λ (r : LedgerRow). IsNumberedBy book r.interchange) unsent_row es all
