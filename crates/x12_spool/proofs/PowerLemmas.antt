-- What a loss of power may leave of a folder.
use native.Mathlib.Omega.{arith}
use Rattle.std.proofs.Common.{◌<◌, ◌≡◌, ◌≢◌, ◌∙◌, ◌⊎◌, ◌++◌, ◌∷◌, ◌||◌, [], Bool, List, None, Option, Some, ap, drop, bytes_eq, false, get_or, if◌then◌else◌, inl, inr, length, map, nat_eq, refl, subst, suc, sym, true, ℕ}
use Rattle.std.proofs.lemmas.Bool.{or_right}
use Rattle.std.proofs.lemmas.List.{get_or-map, length-map}
use Rattle.std.proofs.lemmas.List.Elements.{Contains-append_right}
use Rattle.std.proofs.lemmas.List.Folds.{list_any-append}
use Rattle.std.specs.Cmp.Lexicographic.{unequal}
use Rattle.std.specs.List.{Contains, list_any}
use Rattle.x12_acks.specs.Accepted.{AcceptedSet}
use Rattle.x12_numbers.proofs.Shelf.{bytes_eq_itself}
use Rattle.x12_profile.specs.Interchange.{Bytes}
use Rattle.x12_spool.specs.Deed.{Deed, Settles, Drafts, Syncs, Marks, Names, Writes, Renames}
use Rattle.x12_spool.specs.Handing.{hands_new}
use Rattle.x12_spool.specs.Offering.{AreFront}
use Rattle.x12_spool.specs.Power.{Folder, after_deed, is_sync, is_mark, MayStand, PutStands, StoppedStands, DraftsStand, MarkedStand}
use Rattle.x12_spool.specs.Whole.{dotted_name, puts_whole}

longer : (n : ℕ) → suc n ≢ n
longer n e = omega arith

dot_is_another : (name : List ℕ) → bytes_eq (dotted_name name) name ≡ false
dot_is_another name = unequal nat_eq (dotted_name name) name (longer (length name))

module _ (was : Folder) (name : List ℕ) (bytes : Bytes) where
  abbrev written : Folder
  written = after_deed (Writes (dotted_name name) bytes) was

  abbrev renamed : Folder
  renamed = after_deed (Renames (dotted_name name) name) written

  written_is : written name ≡ was name
  written_is = ap (λ c. if c then Some bytes else was name) (dot_is_another name)

  renamed_is : renamed name ≡ Some bytes
  renamed_is =
      ap (λ c. if c then written (dotted_name name) else (if bytes_eq (dotted_name name) name then None else written name)) (bytes_eq_itself name)
      ∙ ap (λ c. if c then Some bytes else was (dotted_name name)) (bytes_eq_itself (dotted_name name))

or_none : (a b : Bool) → (a || b) ≡ false → a ≡ false
or_none true b e = absurd cc
or_none false b e = refl

never : {P : Type 0} {b : Bool} → b ≡ true → b ≡ false → P
never t f = absurd cc

put_syncs : (done : List Deed) (name : List ℕ) (bytes : Bytes) → list_any is_sync (done ++ puts_whole name bytes) ≡ true
put_syncs [] name bytes = refl
put_syncs (d ∷ ds) name bytes = or_right (is_sync d) _ (put_syncs ds name bytes)

pub put_stands : PutStands
put_stands was [] name bytes found (inl never_synced) = never refl never_synced.0
put_stands was [] name bytes found (inr (inl never_synced)) = never refl never_synced.0
put_stands was [] name bytes found (inr (inr (inl never_synced))) = never refl never_synced.0
put_stands was [] name bytes found (inr (inr (inr is))) = is ∙ renamed_is was name bytes
put_stands was (d ∷ ds) name bytes found (inl never_synced) = never (put_syncs (d ∷ ds) name bytes) never_synced.0
put_stands was (d ∷ ds) name bytes found (inr later) = put_stands (after_deed d was) ds name bytes found later

none_in_front : {X : Type 0} (ds rest : List X) → ds ++ rest ≡ [] → ds ≡ []
none_in_front [] rest e = refl
none_in_front (d ∷ ds) rest e = absurd cc

-- what may stand behind a front of deeds: what stood before them, or what may stand behind the first and a front of the rest
step : (was : Folder) (d : Deed) (xs deeds rest : List Deed) (name : List ℕ) (found : Option Bytes) → deeds ++ rest ≡ d ∷ xs → MayStand was deeds name found
    → (found ≡ was name) ⊎ ((more : List Deed) × (more ++ rest ≡ xs) × MayStand (after_deed d was) more name found)
step was d xs [] rest name found e may = inl may
step was d xs (x ∷ ds) rest name found e (inl same) = inl same.1
step was d xs (x ∷ ds) rest name found e (inr later) =
    inr (ds, ap (drop 1) e, subst (λ y. MayStand (after_deed y was) ds name found) (ap (λ l. get_or l 0 d) e) later)

module _ (was : Folder) (name : List ℕ) (bytes : Bytes) (found : Option Bytes) (rest : List Deed) where
  at_sync : (found ≡ renamed was name bytes name) ⊎ ((more : List Deed) × (more ++ rest ≡ []) × MayStand (renamed was name bytes) more name found)
      → (found ≡ was name) ⊎ (found ≡ Some bytes)
  at_sync (inl same) = inr (same ∙ renamed_is was name bytes)
  at_sync (inr (more, e, may)) =
      inr (subst (λ ds. MayStand (renamed was name bytes) ds name found) (none_in_front more rest e) may ∙ renamed_is was name bytes)

  at_rename : (found ≡ written was name bytes name) ⊎ ((more : List Deed) × (more ++ rest ≡ Syncs ∷ []) × MayStand (renamed was name bytes) more name found)
      → (found ≡ was name) ⊎ (found ≡ Some bytes)
  at_rename (inl same) = inl (same ∙ written_is was name bytes)
  at_rename (inr (more, e, may)) = at_sync (step (renamed was name bytes) Syncs [] more rest name found e may)

  at_write : (found ≡ was name) ⊎ ((more : List Deed) × (more ++ rest ≡ Renames (dotted_name name) name ∷ Syncs ∷ []) × MayStand (written was name bytes) more name found)
      → (found ≡ was name) ⊎ (found ≡ Some bytes)
  at_write (inl same) = inl same
  at_write (inr (more, e, may)) = at_rename (step (written was name bytes) (Renames (dotted_name name) name) (Syncs ∷ []) more rest name found e may)

stopped_at : (was : Folder) (deeds : List Deed) (name : List ℕ) (bytes : Bytes) (found : Option Bytes) → AreFront (puts_whole name bytes) deeds
    → MayStand was deeds name found → (found ≡ was name) ⊎ (found ≡ Some bytes)
stopped_at was deeds name bytes found front may =
    at_write was name bytes found front.0
    (step was (Writes (dotted_name name) bytes) (Renames (dotted_name name) name ∷ Syncs ∷ []) deeds front.0 name found front.1 may)

deeper : (was : Folder) (d : Deed) (ds : List Deed) (name : List ℕ) (found : Option Bytes) (b : Bytes)
    → MayStand (after_deed d was) ds name found ⊎ (found ≡ Some b) → MayStand was (d ∷ ds) name found ⊎ (found ≡ Some b)
deeper was d ds name found b (inl may) = inl (inr may)
deeper was d ds name found b (inr is) = inr is

pub stopped_stands : StoppedStands
stopped_stands was [] deeds name bytes found front may = stopped_at was deeds name bytes found front may
stopped_stands was (d ∷ ds) deeds name bytes found front (inl same) =
    inl (inl (or_none (list_any is_sync (d ∷ ds)) (list_any is_sync deeds) (sym (list_any-append is_sync (d ∷ ds) deeds) ∙ same.0), same.1))
stopped_stands was (d ∷ ds) deeds name bytes found front (inr later) =
    deeper was d ds name found bytes (stopped_stands (after_deed d was) ds deeds name bytes found front later)

-- a front of a list that isn't empty is empty, or begins with its first
front_of : {X : Type 0} (x : X) (xs ds rest : List X) → ds ++ rest ≡ x ∷ xs → (ds ≡ []) ⊎ ((more : List X) × (ds ≡ x ∷ more) × (more ++ rest ≡ xs))
front_of x xs [] rest e = inl refl
front_of x xs (d ∷ ds) rest e = inr (ds, ap (λ y. y ∷ ds) (ap (λ l. get_or l 0 x) e), ap (drop 1) e)

abbrev HasMark : List Deed → Type 0
HasMark deeds = list_any is_mark deeds ≡ true

no_mark : {P : Type 0} (deeds : List Deed) → deeds ≡ [] → HasMark deeds → P
no_mark deeds none has = never has (ap (list_any is_mark) none)

module _ (tail : List Deed) where
  abbrev AllDraftedThenSynced : List AcceptedSet → List Deed → Type 0
  AllDraftedThenSynced ps deeds = (behind : List Deed) × (deeds ≡ map Drafts ps ++ Syncs ∷ behind)

  after_sync : (deeds rest : List Deed) → HasMark deeds
      → (deeds ≡ []) ⊎ ((more : List Deed) × (deeds ≡ Syncs ∷ more) × (more ++ rest ≡ tail)) → AllDraftedThenSynced [] deeds
  after_sync deeds rest has (inl none) = no_mark deeds none has
  after_sync deeds rest has (inr (more, is, e)) = (more, is)

  after_draft : (p : AcceptedSet) (ps : List AcceptedSet) (deeds rest : List Deed) → HasMark deeds
      → ((more : List Deed) → more ++ rest ≡ map Drafts ps ++ Syncs ∷ tail → HasMark more → AllDraftedThenSynced ps more)
      → (deeds ≡ []) ⊎ ((more : List Deed) × (deeds ≡ Drafts p ∷ more) × (more ++ rest ≡ map Drafts ps ++ Syncs ∷ tail))
      → AllDraftedThenSynced (p ∷ ps) deeds
  after_draft p ps deeds rest has on (inl none) = no_mark deeds none has
  after_draft p ps deeds rest has on (inr (more, is, e)) =
      let rested = on more e (subst HasMark is has) in
      (rested.0, is ∙ ap (λ ds. Drafts p ∷ ds) rested.1)

  drafts_first : (ps : List AcceptedSet) (deeds rest : List Deed) → deeds ++ rest ≡ map Drafts ps ++ Syncs ∷ tail → HasMark deeds
      → AllDraftedThenSynced ps deeds
  drafts_first [] deeds rest e has = after_sync deeds rest has (front_of Syncs tail deeds rest e)
  drafts_first (p ∷ ps) deeds rest e has =
      after_draft p ps deeds rest has (λ more e' has'. drafts_first ps more rest e' has')
      (front_of (Drafts p) (map Drafts ps ++ Syncs ∷ tail) deeds rest e)

draft_in : (ps : List AcceptedSet) (p : AcceptedSet) → Contains ps p → Contains (map Drafts ps) (Drafts p)
draft_in ps p (k, within, is) =
    (k, subst (λ n. k < n) (sym (length-map ps Drafts)) within, get_or-map Drafts ps k p (Drafts p) within ∙ ap Drafts is)

module _ (marked : List AcceptedSet) (count : ℕ) where
  settled_then : (new : List AcceptedSet) (deeds rest : List Deed) → HasMark deeds
      → (deeds ≡ []) ⊎ ((more : List Deed) × (deeds ≡ Settles marked ∷ more) × (more ++ rest ≡ hands_new new count)) → DraftsStand new deeds
  settled_then new deeds rest has (inl none) = no_mark deeds none has
  settled_then [] deeds rest has (inr (more, is, e)) =
      no_mark more (none_in_front more rest e) (subst HasMark is has)
  settled_then (p ∷ new) deeds rest has (inr (more, is, e)) =
      let found = drafts_first (Marks count ∷ map Names (p ∷ new)) (p ∷ new) more rest e (subst HasMark is has) in
      record {
        before = Settles marked ∷ map Drafts (p ∷ new);
        behind = Syncs ∷ found.0;
        are = is ∙ ap (λ ds. Settles marked ∷ ds) found.1;
        drafted = λ q has. Contains-append_right (Settles marked ∷ []) (map Drafts (p ∷ new)) (Drafts q) (draft_in (p ∷ new) q has);
        synced = refl;
      }

pub marked_stand : MarkedStand
marked_stand marked new count deeds front has =
    settled_then marked count new deeds front.0 has (front_of (Settles marked) (hands_new new count) deeds front.0 front.1)
