-- How the sets of all submissions fare by the history, by key; and of some of the submissions, as those that a ledger holds.
use Rattle.std.specs.Prelude.{◌≡◌, ℕ, ◌==◌, List, [], ◌∷◌, Bool, true, false, if◌then◌else◌, map, flat_map, Option, Some, None, option_map, option_and_then, Contains, All, refl, ◌⊎◌}
use Rattle.std.specs.Option.{option_or}
use mathlib.Core.Path.{sym, ap, ap₂, subst, ◌∙◌}
use mathlib.Core.Logic.{inl, inr}
use Rattle.std.proofs.lemmas.List.Elements.{All-contains}
use Rattle.x12_envelopes.specs.declared.party.Party.{Party}
use Rattle.x12_judge.specs.Agreement.{is_same_party}
use Rattle.x12_acks.specs.Key.{is_same_key}
use Rattle.x12_acks.specs.Named.{SubmissionsRise}
use Rattle.x12_acks.specs.Submission.{Submission, SubmittedSet, TransactionSetKey}
use Rattle.x12_acks.proofs.CutLemmas.{one_number}
use Rattle.std.proofs.Common.{eqb-true}
use Rattle.x12_acks.proofs.FindLemmas.{none_passes, clash}
use Rattle.x12_numbers.proofs.Shelf.{found_passes, map_twice, none_in_nil, contains_cons, contains_head, contains_mapped, eq_itself}
use Rattle.x12_outbound.specs.declared.fate.Fate.{Fate}
use Rattle.x12_outbound.specs.Entry.{SetRow, InterchangeRow, submission_of_entry, set_row_at}
use Rattle.x12_outbound.proofs.KeyLemmas.{key_itself}
use Rattle.x12_outbound.proofs.FirstEvidenceLemmas.{same_key}
use Rattle.x12_profile.specs.Interchange.{Bytes, PlaceOfSet, PlacedTransactionSet}
use Rattle.x12_profile.specs.X12.{x12, submission_in_bytes}
use Rattle.x12_profile.proofs.PartyLemmas.{is_same_party-Decides}
use Rattle.x12_acks.proofs.ReplyGroupLemmas.{same_party_itself}
use Rattle.x12_station.specs.History.{Item, submissions, fate_in, key_of}
use Rattle.x12_station.specs.Key.{OwnSet, own_sets, own_key, own_set, own_fate, own_fates}
use Rattle.x12_station.specs.Durable.{fared_entry, fared_entries, IsOwnSubmission}
use Rattle.x12_station.proofs.CellLemmas.{Cell, cells_of, entry_by, place_by, fared_is, set_at, cell_at, at_cell, map_same_at}
use Rattle.x12_station.proofs.ListLemmas.{contains_map, contains_flat_map, flat_map_contains}
use Rattle.x12_station.proofs.OwnLemmas.{Read, read_of, submission_read, submission_is, icn_read, sender_read, bytes_read, places_read, submitted_entry, set_of_entry, entry_in, fates_in}

-- all that was submitted
abbrev pub all_submitted : List Item → List Submission
all_submitted items = flat_map submission_in_bytes (submissions items)

-- the fate of a set of a submission, by the history
abbrev pub fate_at : Party → List Party → List Item → Submission → ℕ → ℕ → Fate
fate_at me hubs items e group set = fate_in x12 me hubs items e.bytes (record { group = group; set = set })

-- one of all that was submitted, with its bytes
pub record Known (me : Party) (items : List Item) (e : Submission) : Type 0 where
  pub bytes : Bytes
  pub at : Contains (submissions items) bytes
  pub read : Read bytes
  pub is : e ≡ submission_read bytes read
  pub sender : e.sender ≡ me

module _ (me : Party) (hubs : List Party) (items : List Item) (own : All (IsOwnSubmission me) (submissions items)) where
  pub known_bytes : (x : Bytes) → Contains (submissions items) x → (w : Read x) × (Known me items (submission_read x w))
  known_bytes x at =
      let mine = All-contains (IsOwnSubmission me) (submissions items) x own at in
      let w = read_of x mine.submission in
      (w, record { bytes = x; at = at; read = w; is = refl; sender = sym (sender_read x w) ∙ mine.sender })

  pub known : (e : Submission) → Contains (all_submitted items) e → Known me items e
  known e at =
      let from = contains_flat_map submission_in_bytes (submissions items) e at in
      let x = known_bytes from.0 from.1 in
      elim (contains_cons e (submission_read from.0 x.0) [] (subst (λ l. Contains l e) (submission_is from.0 x.0) from.2)) [
        | inl same ↦ subst (λ d. Known me items d) same x.1
        | inr none ↦ none_in_nil e none
      ]

  -- its entry by the history
  abbrev pub entry_of : Submission → InterchangeRow
  entry_of e = entry_by (fate_at me hubs items e) e

  pub entries_are : fared_entries me hubs items ≡ map entry_of (all_submitted items)
  unfolding fared_entries
  entries_are = map_same_at (fared_entry me hubs items) entry_of (all_submitted items) (λ e at. fared_is me hubs items e)

  pub submitted_are : map (submission_of_entry me) (fared_entries me hubs items) ≡ all_submitted items
  submitted_are =
      ap (map (submission_of_entry me)) entries_are ∙ map_twice (submission_of_entry me) entry_of (all_submitted items)
      ∙ map_same_at (λ e. submission_of_entry me (entry_of e)) (λ e. e) (all_submitted items) (λ e at. submitted_entry (fate_at me hubs items e) me e (known e at).sender) ∙ same (all_submitted items)
    where
      same : (xs : List Submission) → map (λ e. e) xs ≡ xs
      same [] = refl
      same (x ∷ xs) = ap (λ l. x ∷ l) (same xs)

  -- No two have one number.
  module _ (rise : SubmissionsRise (all_submitted items)) where
    pub one_submission : (e d : Submission) → Contains (all_submitted items) e → Contains (all_submitted items) d → e.icn ≡ d.icn → e ≡ d
    one_submission e d at there same = one_number (all_submitted items) rise d.icn e d at there (rw same (eq_itself d.icn)) (eq_itself d.icn)

    -- entries of some of the submissions
    abbrev pub AreOfAll : List InterchangeRow → Type 0
    AreOfAll some = (r : InterchangeRow) → Contains some r → (e : Submission) × Contains (all_submitted items) e × (entry_of e ≡ r)

    pub all_of_all : AreOfAll (fared_entries me hubs items)
    all_of_all r at = contains_map entry_of (all_submitted items) r (subst (λ l. Contains l r) entries_are at)

    pub all_hold : (e : Submission) → Contains (all_submitted items) e → Contains (fared_entries me hubs items) (entry_of e)
    all_hold e at = subst (λ l. Contains l (entry_of e)) (sym entries_are) (contains_mapped entry_of (all_submitted items) e at)

    -- what is found under the number of a submission is its entry
    pub only_entry : (some : List InterchangeRow) → AreOfAll some → (e : Submission) → Contains (all_submitted items) e → (r : InterchangeRow) → Contains some r → r.icn ≡ e.icn → r ≡ entry_of e
    only_entry some of_all e at r there same =
        let d = of_all r there in
        sym d.2 ∙ ap entry_of (one_submission d.0 e d.1 at (ap (λ (q : InterchangeRow). q.icn) d.2 ∙ same))

    pub found_entry : (some : List InterchangeRow) → AreOfAll some → (e : Submission) → Contains (all_submitted items) e → Contains some (entry_of e) → entry_in some e.icn ≡ Some (entry_of e)
    found_entry some of_all e at there = by (entry_in some e.icn) refl
      where
        by : (o : Option InterchangeRow) → entry_in some e.icn ≡ o → entry_in some e.icn ≡ Some (entry_of e)
        by (Some r) is =
            let passes = found_passes (λ (d : InterchangeRow). d.icn == e.icn) some r is in
            is ∙ ap Some (only_entry some of_all e at r passes.0 (eqb-true r.icn e.icn passes.1))
        by None is = clash (e.icn == e.icn) (eq_itself e.icn) (none_passes (λ (d : InterchangeRow). d.icn == e.icn) some (entry_of e) is there)

    -- how a set fares by its entry
    abbrev pub fare_by : Submission → TransactionSetKey → Option Fate
    fare_by e k = option_map (λ s. s.fate) (set_row_at k.group k.set (entry_of e))

    module _ (some : List InterchangeRow) (of_all : AreOfAll some) (e : Submission) (at : Contains (all_submitted items) e) (k : TransactionSetKey) (sender : k.sender ≡ me) (icn : k.icn ≡ e.icn) where
      pub fares_so : Contains some (entry_of e) → fates_in me some k ≡ fare_by e k
      fares_so there = rw (sender, same_party_itself me, icn, found_entry some of_all e at there) refl

      pub fares_so_or_not : (fates_in me some k ≡ fare_by e k) ⊎ (fates_in me some k ≡ None)
      fares_so_or_not = by (entry_in some e.icn) refl
        where
          by : (o : Option InterchangeRow) → entry_in some e.icn ≡ o → (fates_in me some k ≡ fare_by e k) ⊎ (fates_in me some k ≡ None)
          by (Some r) is =
              let passes = found_passes (λ (d : InterchangeRow). d.icn == e.icn) some r is in
              inl (rw (sender, same_party_itself me, icn, is, only_entry some of_all e at r passes.0 (eqb-true r.icn e.icn passes.1)) refl)
          by None is = inr (rw (sender, same_party_itself me, icn, is) refl)

    -- of two lists of entries, one of which holds it
    pub fares_in_both : (near far : List InterchangeRow) → AreOfAll near → AreOfAll far → (e : Submission) → Contains (all_submitted items) e → Contains near (entry_of e) ⊎ Contains far (entry_of e)
        → (k : TransactionSetKey) → k.sender ≡ me → k.icn ≡ e.icn → option_or (fates_in me near k) (fates_in me far k) ≡ fates_in me (fared_entries me hubs items) k
    fares_in_both near far near_of far_of e at held k sender icn = elim held [
      | inl here ↦ rw (fares_so near near_of e at k sender icn here) (elim (fares_so_or_not far far_of e at k sender icn) [ inl same ↦ rw same (twice (fare_by e k)) | inr none ↦ rw none (once (fare_by e k)) ]) ∙ sym (fares_so (fared_entries me hubs items) all_of_all e at k sender icn (all_hold e at))
      | inr there ↦ rw (fares_so far far_of e at k sender icn there) (elim (fares_so_or_not near near_of e at k sender icn) [ inl same ↦ rw same (twice (fare_by e k)) | inr none ↦ rw none refl ]) ∙ sym (fares_so (fared_entries me hubs items) all_of_all e at k sender icn (all_hold e at))
    ]
      where
        twice : (o : Option Fate) → option_or o o ≡ o
        twice None = refl
        twice (Some f) = refl

        once : (o : Option Fate) → option_or o None ≡ o
        once None = refl
        once (Some f) = refl

    -- a set of a submission
    abbrev pub key_in : Submission → Cell → TransactionSetKey
    key_in e c = record { sender = me; icn = e.icn; group = c.group; set = c.set }

    pub cell_fare : (e : Submission) (c : Cell) → Contains (cells_of e.groups) c → fare_by e (key_in e c) ≡ Some (fate_at me hubs items e c.group c.set)
    cell_fare e c at = ap (option_map (λ (s : SetRow). s.fate)) (set_of_entry (fate_at me hubs items e) c.group c.set e) ∙ rw (cell_at e.groups c at) refl

    pub cell_fares_in : (some : List InterchangeRow) → AreOfAll some → (e : Submission) → Contains (all_submitted items) e → Contains some (entry_of e) → (c : Cell) → Contains (cells_of e.groups) c
        → fates_in me some (key_in e c) ≡ Some (fate_at me hubs items e c.group c.set)
    cell_fares_in some of_all e at there c cell = fares_so some of_all e at (key_in e c) refl refl there ∙ cell_fare e c cell

    -- Sets by key, of the history and of its entries.

    abbrev own_of : Bytes → PlacedTransactionSet → OwnSet
    own_of x t = record { interchange = x; set = t }

    -- a set of a submission has a place of it
    cell_of_set : (x : Bytes) (w : Read x) (t : PlacedTransactionSet) → Contains (x12.sets x) t → (c : Cell) × Contains (cells_of (submission_read x w).groups) c × (place_by c ≡ t.place)
    cell_of_set x w t at = contains_map place_by (cells_of (submission_read x w).groups) t.place (subst (λ l. Contains l t.place) (places_read x w) (contains_mapped (λ (u : PlacedTransactionSet). u.place) (x12.sets x) t at))

    set_of_cell : (x : Bytes) (w : Read x) (c : Cell) → Contains (cells_of (submission_read x w).groups) c → (t : PlacedTransactionSet) × Contains (x12.sets x) t × (t.place ≡ place_by c)
    set_of_cell x w c at = contains_map (λ (u : PlacedTransactionSet). u.place) (x12.sets x) (place_by c) (subst (λ l. Contains l (place_by c)) (sym (places_read x w)) (contains_mapped place_by (cells_of (submission_read x w).groups) c at))

    mine : (x : Bytes) → Contains (submissions items) x → x12.sender x ≡ me
    mine x at = (All-contains (IsOwnSubmission me) (submissions items) x own at).sender

    key_at : Party → ℕ → PlaceOfSet → TransactionSetKey
    key_at sender icn place = record { sender = sender; icn = icn; group = place.group; set = place.set }

    key_parts : (x : Bytes) (w : Read x) (t : PlacedTransactionSet) (c : Cell) → place_by c ≡ t.place → x12.sender x ≡ me → key_in (submission_read x w) c ≡ key_of x12 x t.place
    unfolding key_at
    key_parts x w t c place sender = ap₂ (λ (n : ℕ) (p : PlaceOfSet). key_at me n p) (sym (icn_read x w)) place ∙ ap (λ s. key_at s (x12.number x) t.place) (sym sender)

    -- a submission, and a set of it
    module _ (x : Bytes) (at : Contains (submissions items) x) (w : Read x) where
      submitted_at : Contains (all_submitted items) (submission_read x w)
      submitted_at = flat_map_contains submission_in_bytes (submissions items) x (submission_read x w) at (subst (λ l. Contains l (submission_read x w)) (sym (submission_is x w)) (contains_head (submission_read x w) []))

      set_fares : (t : PlacedTransactionSet) → Contains (x12.sets x) t → fates_in me (fared_entries me hubs items) (key_of x12 x t.place) ≡ Some (fate_in x12 me hubs items x t.place)
      set_fares t there =
          let c = cell_of_set x w t there in
          ap (fates_in me (fared_entries me hubs items)) (sym (key_parts x w t c.0 c.2 (mine x at)))
          ∙ cell_fares_in (fared_entries me hubs items) all_of_all (submission_read x w) submitted_at (all_hold (submission_read x w) submitted_at) c.0 c.1
          ∙ ap Some (ap₂ (λ (b : Bytes) (p : PlaceOfSet). fate_in x12 me hubs items b p) (bytes_read x w) c.2)

    own_is_in : (k : TransactionSetKey) (c : OwnSet) → Contains (own_sets x12 items) c → is_same_key k (own_key x12 c) ≡ true → Some (own_fate x12 me hubs items c) ≡ fates_in me (fared_entries me hubs items) k
    own_is_in k c at =
        let from = contains_flat_map (λ (x : Bytes). map (own_of x) (x12.sets x)) (submissions items) c at in
        let in_sets = contains_map (own_of from.0) (x12.sets from.0) c from.2 in
        let x = known_bytes from.0 from.1 in
        subst (λ (d : OwnSet). is_same_key k (own_key x12 d) ≡ true → Some (own_fate x12 me hubs items d) ≡ fates_in me (fared_entries me hubs items) k) in_sets.2
        (λ is. sym (set_fares from.0 from.1 x.0 in_sets.0 in_sets.1) ∙ ap (fates_in me (fared_entries me hubs items)) (sym (same_key k (key_of x12 from.0 in_sets.0.place) is)))

    abbrev fared_row : Submission → TransactionSetKey → SubmittedSet → SetRow
    fared_row e k u = record { number = u.number; fate = fate_at me hubs items e k.group k.set; is_out = false }

    -- where no submitted set has the key, no entry has it
    none_is_in : (k : TransactionSetKey) → own_set x12 items k ≡ None → None ≡ fates_in me (fared_entries me hubs items) k
    none_is_in k none = party (is_same_party k.sender me) refl
      where
        absent : (e : Submission) → Contains (all_submitted items) e → k.sender ≡ me → k.icn ≡ e.icn → (o : Option SubmittedSet) → set_at e.groups k.group k.set ≡ o → None ≡ option_map (λ (s : SetRow). s.fate) (option_map (fared_row e k) o)
        absent e at sender icn None is = refl
        absent e at sender icn (Some u) is =
            let x = known e at in
            let e_is = x.is in
            let c = at_cell e.groups k.group k.set u is in
            let t = set_of_cell x.bytes x.read c.0 (subst (λ (d : Submission). Contains (cells_of d.groups) c.0) e_is c.1) in
            let there = flat_map_contains (λ (y : Bytes). map (own_of y) (x12.sets y)) (submissions items) x.bytes (own_of x.bytes t.0) x.at (contains_mapped (own_of x.bytes) (x12.sets x.bytes) t.0 t.1) in
            let key_is : key_of x12 x.bytes t.0.place ≡ k =
            sym (key_parts x.bytes x.read t.0 c.0 (sym t.2) (mine x.bytes x.at)) ∙ parts (submission_read x.bytes x.read).icn c.0.group c.0.set (icn ∙ ap (λ (d : Submission). d.icn) e_is) c.2 c.3 in
            clash (is_same_key k (key_of x12 x.bytes t.0.place)) (ap (is_same_key k) key_is ∙ key_itself k) (none_passes (λ (c : OwnSet). is_same_key k (own_key x12 c)) (own_sets x12 items) (own_of x.bytes t.0) none there)
          where
            parts : (n g s : ℕ) → k.icn ≡ n → g ≡ k.group → s ≡ k.set → record { sender = me; icn = n; group = g; set = s } ≡ k
            parts n g s a b c = rw (b, c, sym a, sym sender) refl

        found : (o : Option InterchangeRow) → k.sender ≡ me → entry_in (fared_entries me hubs items) k.icn ≡ o → None ≡ option_map (λ (s : SetRow). s.fate) (option_and_then (set_row_at k.group k.set) o)
        found None sender is = refl
        found (Some r) sender is =
            let passes = found_passes (λ (d : InterchangeRow). d.icn == k.icn) (fared_entries me hubs items) r is in
            let e = all_of_all r passes.0 in
            subst (λ (q : InterchangeRow). None ≡ option_map (λ (s : SetRow). s.fate) (set_row_at k.group k.set q)) e.2
            (absent e.0 e.1 sender (sym (eqb-true r.icn k.icn passes.1) ∙ ap (λ (q : InterchangeRow). q.icn) (sym e.2)) (set_at e.0.groups k.group k.set) refl
            ∙ sym (ap (option_map (λ (s : SetRow). s.fate)) (set_of_entry (fate_at me hubs items e.0) k.group k.set e.0)))

        party : (b : Bool) → is_same_party k.sender me ≡ b → None ≡ option_map (λ (s : SetRow). s.fate) (if b then option_and_then (set_row_at k.group k.set) (entry_in (fared_entries me hubs items) k.icn) else None)
        party true is = found (entry_in (fared_entries me hubs items) k.icn) ((is_same_party-Decides k.sender me).0 is) refl
        party false is = refl

    -- the fates of the history are those of its entries
    pub own_fates_are : (k : TransactionSetKey) → own_fates x12 me hubs items k ≡ fates_in me (fared_entries me hubs items) k
    own_fates_are k = by (own_set x12 items k) refl
      where
        by : (o : Option OwnSet) → own_set x12 items k ≡ o → option_map (own_fate x12 me hubs items) o ≡ fates_in me (fared_entries me hubs items) k
        by (Some c) is = let passes = found_passes (λ (c : OwnSet). is_same_key k (own_key x12 c)) (own_sets x12 items) c is in own_is_in k c passes.0 passes.1
        by None is = none_is_in k is
