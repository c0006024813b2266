-- The entries after an arrival is filed: the sets that its evidence settles have the fates of the history then.
use Rattle.std.specs.Prelude.{◌≡◌, ℕ, ◌+◌, ◌<◌, List, [], ◌∷◌, ◌++◌, Bool, true, false, if◌then◌else◌, map, flat_map, length, Option, Some, None, option_map, option_and_then, Contains, All, refl}
use Rattle.std.specs.List.{enumerate_from}
use mathlib.Core.Path.{sym, ap, subst, ◌∙◌}
use Rattle.std.proofs.lemmas.List.{length-map, append-nil}
use Rattle.std.proofs.lemmas.List.Elements.{All-contains}
use Rattle.x12_envelopes.specs.declared.party.Party.{Party}
use Rattle.x12_judge.specs.Agreement.{is_same_party}
use Rattle.x12_acks.specs.Named.{SubmissionsRise}
use Rattle.x12_acks.specs.Submission.{Submission, SubmittedGroup}
use Rattle.x12_outbound.specs.declared.fate.Fate.{Fate}
use Rattle.x12_outbound.specs.declared.fate.Fate.TheVariants.{Pending}
use Rattle.x12_outbound.specs.Entry.{SetRow, GroupRow, submission_of_entry, set_row_at}
use Rattle.x12_outbound.specs.Settling.{Fates, settled_fates}
use Rattle.x12_profile.specs.Interchange.{Bytes}
use Rattle.x12_profile.specs.declared.edition.Edition.{Edition}
use Rattle.x12_profile.specs.Edition.{edition_at}
use Rattle.x12_profile.specs.X12.{x12, submission_in_bytes}
use Rattle.x12_profile.proofs.PartyLemmas.{is_same_party-Decides}
use Rattle.x12_station.specs.History.{Item, Came, submissions, fate_in}
use Rattle.x12_station.specs.Stored.{AreNumbered, Stored, StoredSet, marks_of, rows_of_entry}
use Rattle.x12_station.specs.Plan.{rows_settled}
use Rattle.x12_station.specs.Record.{IsWholeEntry}
use Rattle.x12_station.specs.Durable.{items_of, fared_entries, IsOwnSubmission, IsHistoryOf}
use Rattle.x12_station.proofs.ListLemmas.{contains_map, contains_flat_map}
use Rattle.x12_numbers.proofs.Shelf.{contains_mapped, all_from_contains, map_twice, flat_map_same_at}
use Rattle.x12_station.proofs.ItemLemmas.{length_items, submissions-append}
use Rattle.x12_station.proofs.CellLemmas.{Cell, cells_of, entry_by, group_by, set_by, row_by, rows_by, map_flat_map, flat_map_map, map_same_at}
use Rattle.x12_station.proofs.FateLemmas.{brought, fate_after}
use Rattle.x12_station.proofs.TargetLemmas.{targets_by, IsOurs, FareSo, key_of_row, row_told, rows_told, told_is_settled}
use Rattle.x12_station.proofs.KnownLemmas.{known, all_submitted, fate_at, entry_of, entries_are, submitted_are, all_of_all, all_hold, key_in, cell_fares_in}
use Rattle.x12_station.proofs.OwnLemmas.{submission_is, bytes_read, fates_in, entry_in}

-- an arrival submits nothing
pub submissions_stay : (items : List Item) (ed : Edition) (b : Bytes) (r : Option Bytes) → submissions (items ++ Came ed b r ∷ []) ≡ submissions items
submissions_stay items ed b r = submissions-append items (Came ed b r ∷ []) ∙ append-nil (submissions items)

-- the edition of what comes next to these records
abbrev pub edition_of : Stored → Edition
edition_of s = edition_at (marks_of s.origin) (length (items_of s) + 1)

pub edition_is : (s : Stored) → AreNumbered s → edition_at (marks_of s.origin) (s.seq + 1) ≡ edition_of s
edition_is s numbered = ap (λ n. edition_at (marks_of s.origin) (n + 1)) (sym (length_items s numbered))

-- Whether an entry is whole isn't told by its fates.
module _ (f g : ℕ → ℕ → Fate) (e : Submission) where
  sets_long : (p : ℕ × SubmittedGroup) → 0 < length (group_by f p).sets → 0 < length (group_by g p).sets
  sets_long p long = subst (λ n. 0 < n) (length-map (enumerate_from 1 p.1.sets) (set_by f p.0) ∙ sym (length-map (enumerate_from 1 p.1.sets) (set_by g p.0))) long

  laid_group : (p : ℕ × SubmittedGroup) → All (λ (t : SetRow). t.is_out ≡ false) (group_by g p).sets
  laid_group p = all_from_contains (λ (t : SetRow). t.is_out ≡ false) (group_by g p).sets
      (λ t at. let from = contains_map (set_by g p.0) (enumerate_from 1 p.1.sets) t at in subst (λ (u : SetRow). u.is_out ≡ false) from.2 refl)

  pub whole_by : IsWholeEntry (entry_by f e) → IsWholeEntry (entry_by g e)
  whole_by whole = record {
    laid = all_from_contains (λ (h : GroupRow). All (λ (t : SetRow). t.is_out ≡ false) h.sets) (entry_by g e).groups
        (λ h at. let from = contains_map (group_by g) (enumerate_from 1 e.groups) h at in subst (λ (q : GroupRow). All (λ (t : SetRow). t.is_out ≡ false) q.sets) from.2 (laid_group from.0));
    sets = all_from_contains (λ (h : GroupRow). 0 < length h.sets) (entry_by g e).groups
        (λ h at. let from = contains_map (group_by g) (enumerate_from 1 e.groups) h at in
        subst (λ (q : GroupRow). 0 < length q.sets) from.2
        (sets_long from.0 (All-contains (λ (q : GroupRow). 0 < length q.sets) (entry_by f e).groups (group_by f from.0) whole.sets (contains_mapped (group_by f) (enumerate_from 1 e.groups) from.0 from.1))));
  }

module _ (me : Party) (hubs : List Party) (s : Stored) (d : IsHistoryOf me hubs s) where
  -- the submissions' numbers rise
  pub all_rise : SubmissionsRise (all_submitted (items_of s))
  all_rise = subst SubmissionsRise (ap (map (submission_of_entry me)) d.fates ∙ submitted_are me hubs (items_of s) d.own) (d.sound.in_order me).before

  abbrev pub history_fates : Fates
  history_fates = fates_in me (fared_entries me hubs (items_of s))

  ours : IsOurs me history_fates
  ours k is = by (is_same_party k.sender me) refl is
    where
      by : (b : Bool) → is_same_party k.sender me ≡ b → option_map (λ (t : SetRow). t.fate) (if b then option_and_then (set_row_at k.group k.set) (entry_in (fared_entries me hubs (items_of s)) k.icn) else None) ≡ Some Pending → k.sender ≡ me
      by true same is = (is_same_party-Decides k.sender me).0 same
      by false same is = absurd (let no : ⊥ = cc in no)

  -- how the sets of the rows fare
  rows_fare : FareSo me history_fates s.sets
  rows_fare t at =
      let items = items_of s in
      let in_rows = subst (λ l. Contains l t) (d.sound.rows ∙ ap (flat_map rows_of_entry) (d.fates ∙ entries_are me hubs items d.own) ∙ flat_map_map rows_of_entry (entry_of me hubs items d.own) (all_submitted items)) at in
      let of_one = contains_flat_map (λ (e : Submission). rows_of_entry (entry_of me hubs items d.own e)) (all_submitted items) t in_rows in
      let e = of_one.0 in
      let cell = contains_map (row_by (fate_at me hubs items e) e.icn) (cells_of e.groups) t (subst (λ l. Contains l t) (rows_by (fate_at me hubs items e) e) of_one.2) in
      subst (λ (u : StoredSet). history_fates (key_of_row me u) ≡ Some u.fate) {x = row_by (fate_at me hubs items e) e.icn cell.0} cell.2
      (cell_fares_in me hubs items d.own all_rise (fared_entries me hubs items) (all_of_all me hubs items d.own all_rise) e of_one.1 (all_hold me hubs items d.own all_rise e of_one.1) cell.0 cell.1)

  module _ (b : Bytes) (r : Option Bytes) where
    abbrev pub items_now : List Item
    items_now = items_of s ++ Came (edition_of s) b r ∷ []

    pub own_now : All (IsOwnSubmission me) (submissions items_now)
    own_now = subst (All (IsOwnSubmission me)) (sym (submissions_stay (items_of s) (edition_of s) b r)) d.own

    pub all_stay : all_submitted items_now ≡ all_submitted (items_of s)
    all_stay = ap (flat_map submission_in_bytes) (submissions_stay (items_of s) (edition_of s) b r)

    -- the fate of a submitted set after the arrival
    pub cell_now : (e : Submission) (c : Cell) → Contains (all_submitted (items_of s)) e → (fates : Fates) → fates (key_in me hubs (items_of s) d.own all_rise e c) ≡ Some (fate_at me hubs (items_of s) e c.group c.set)
        → settled_fates fates (brought (edition_of s) me hubs (items_of s) b) (key_in me hubs (items_of s) d.own all_rise e c) ≡ Some (fate_at me hubs items_now e c.group c.set)
    cell_now e c at fates fare =
        let k = known me hubs (items_of s) d.own e at in
        let k_is = k.is in
        let bytes : e.bytes ≡ k.bytes = ap (λ (x : Submission). x.bytes) k_is ∙ bytes_read k.bytes k.read in
        let key = key_in me hubs (items_of s) d.own all_rise e c in
        subst (λ x. settled_fates fates (brought (edition_of s) me hubs (items_of s) b) key ≡ Some (fate_in x12 me hubs items_now x (record { group = c.group; set = c.set }))) (sym bytes)
        (fate_after (edition_of s) me hubs (items_of s) b r fates k.bytes e key all_rise k.at (submission_is k.bytes k.read ∙ ap (λ x. x ∷ []) (sym k_is)) refl (sym k.sender)
        (subst (λ x. fates key ≡ Some (fate_in x12 me hubs (items_of s) x (record { group = c.group; set = c.set }))) bytes fare))

    -- the rows after the evidence settled its sets
    pub rows_now : rows_settled (targets_by history_fates (brought (edition_of s) me hubs (items_of s) b)) s.sets ≡ flat_map rows_of_entry (fared_entries me hubs items_now)
    rows_now =
        let items = items_of s in
        let told = brought (edition_of s) me hubs items b in
        rows_told me history_fates told s.sets ours rows_fare
        ∙ ap (map (row_told me told)) (d.sound.rows ∙ ap (flat_map rows_of_entry) (d.fates ∙ entries_are me hubs items d.own) ∙ flat_map_map rows_of_entry (entry_of me hubs items d.own) (all_submitted items))
        ∙ map_flat_map (row_told me told) (λ (e : Submission). rows_of_entry (entry_of me hubs items d.own e)) (all_submitted items)
        ∙ flat_map_same_at (λ (e : Submission). map (row_told me told) (rows_of_entry (entry_of me hubs items d.own e))) (λ (e : Submission). rows_of_entry (entry_by (fate_at me hubs items_now e) e)) (all_submitted items) one_entry
        ∙ sym (ap (flat_map rows_of_entry) (entries_are me hubs items_now own_now ∙ ap (map (λ (e : Submission). entry_by (fate_at me hubs items_now e) e)) all_stay)
        ∙ flat_map_map rows_of_entry (λ (e : Submission). entry_by (fate_at me hubs items_now e) e) (all_submitted items))
      where
        one_row : (e : Submission) → Contains (all_submitted (items_of s)) e → (c : Cell) → Contains (cells_of e.groups) c
            → row_told me (brought (edition_of s) me hubs (items_of s) b) (row_by (fate_at me hubs (items_of s) e) e.icn c) ≡ row_by (fate_at me hubs items_now e) e.icn c
        one_row e at c cell =
            let items = items_of s in
            let fare = cell_fares_in me hubs items d.own all_rise (fared_entries me hubs items) (all_of_all me hubs items d.own all_rise) e at (all_hold me hubs items d.own all_rise e at) c cell in
            ap (λ (f : Fate). record (row_by (fate_at me hubs items e) e.icn c) { fate = f })
            (told_is_settled history_fates (brought (edition_of s) me hubs items b) (key_in me hubs items d.own all_rise e c) (fate_at me hubs items e c.group c.set) (fate_at me hubs items_now e c.group c.set) fare (cell_now e c at history_fates fare))

        one_entry : (e : Submission) → Contains (all_submitted (items_of s)) e → map (row_told me (brought (edition_of s) me hubs (items_of s) b)) (rows_of_entry (entry_of me hubs (items_of s) d.own e)) ≡ rows_of_entry (entry_by (fate_at me hubs items_now e) e)
        one_entry e at =
            let items = items_of s in
            ap (map (row_told me (brought (edition_of s) me hubs items b))) (rows_by (fate_at me hubs items e) e)
            ∙ map_twice (row_told me (brought (edition_of s) me hubs items b)) (row_by (fate_at me hubs items e) e.icn) (cells_of e.groups)
            ∙ map_same_at (λ (c : Cell). row_told me (brought (edition_of s) me hubs items b) (row_by (fate_at me hubs items e) e.icn c)) (row_by (fate_at me hubs items_now e) e.icn) (cells_of e.groups) (λ c cell. one_row e at c cell)
            ∙ sym (rows_by (fate_at me hubs items_now e) e)
