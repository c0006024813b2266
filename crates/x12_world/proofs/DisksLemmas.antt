-- What each node's disk keeps: where one changed, beside the others, and from one call to the next.
use Rattle.std.specs.Prelude.{◌≡◌, ℕ, zero, suc, ◌-◌, ◌<◌, ◌≤◌, List, [], ◌∷◌, ◌++◌, Bool, true, Some, Result, Ok, Err, OnOk, get_or, set, map, length, option_to_list, refl}
use mathlib.Core.Path.{ap, subst, sym, ◌∙◌}
use mathlib.Core.Logic.{inl, inr}
use native.Mathlib.Omega.{arith}
use Rattle.std.proofs.lemmas.Bool.Decides.{leb_tells}
use Rattle.std.proofs.lemmas.List.{length-map}
use Rattle.std.specs.Result.{IsErrAnd}
use Rattle.x12_core.specs.Disk.{DiskState, KeepsAnswers, hub_disk, station_disk}
use Rattle.x12_hub.specs.HubView.{HubView}
use Rattle.x12_station.specs.Seen.{StationView}
use Rattle.x12_world.specs.declared.hubs.Hubs.{Hubs as CodeHubs}
use Rattle.x12_world.specs.Disks.{AllClean, Disks, KeepsEach, disk_at, disks_beside, disks_of, station_disks}
use Rattle.x12_world.specs.Running.{AllAnswer, Running, founders_beside, founders_clean_beside}
use Rattle.x12_judge.proofs.ListLemmas.{on_ok}
use Rattle.x12_world.proofs.AnswerLemmas.{all_by, all_get, in_front}

pub keeps_itself : {A E : Type 0} (r : Result A E) (d : DiskState) → KeepsAnswers r d d
keeps_itself (Ok x) d = record { never_won_back = λ e. e; was_clean = λ e. e; answered = λ clean e. e }
keeps_itself (Err f) d = record { never_won_back = λ e. e; was_clean = λ e. e; answered = λ clean. tt }

pub each_itself : {A E : Type 0} (r : Result A E) (d : Disks) → KeepsEach r d d
each_itself r d k = keeps_itself r (disk_at d k)

-- of a result that tells no more than another
pub each_handed : {A B E F : Type 0} (r : Result A E) (q : Result B F) (old new : Disks) → ((P : Type 0) → OnOk q P → OnOk r P) → KeepsEach q old new → KeepsEach r old new
each_handed r q old new hand each k = record {
  never_won_back = (each k).never_won_back;
  was_clean = (each k).was_clean;
  answered = λ clean. hand _ ((each k).answered clean);
}

-- of a refusal, which tells no more than any other result
pub each_refused : {A B E F : Type 0} (r : Result A E) (q : Result B F) (old new : Disks) (Q : E → Type 0) → IsErrAnd r Q → KeepsEach q old new → KeepsEach r old new
each_refused (Ok x) q old new Q is each k = absurd is
each_refused (Err e) q old new Q is each k = record { never_won_back = (each k).never_won_back; was_clean = (each k).was_clean; answered = λ clean. tt }

-- one call, and then another
pub each_then : {A B E F : Type 0} (r : Result A E) (x : B) (a b c : Disks) → KeepsEach {E = F} (Ok x) a b → KeepsEach r b c → KeepsEach r a c
each_then r x a b c first then_each k = record {
  never_won_back = λ e. (first k).never_won_back ((then_each k).never_won_back e);
  was_clean = λ e. (first k).was_clean ((then_each k).was_clean e);
  answered = λ clean. on_ok r (λ later before. later ((first k).answered ((then_each k).was_clean clean) before)) ((then_each k).answered clean);
}

-- the station that changed
pub each_among : {A E R : Type 0} (r : Result A E) (ss : List (StationView R)) (i : ℕ) (old new : StationView R) → i < length ss → old ≡ get_or ss i old → KeepsAnswers r (station_disk old) (station_disk new)
    → KeepsEach r (station_disks ss) (station_disks (set ss i new))
each_among r [] i old new lt is keeps k = absurd (omega arith)
each_among r (s ∷ ss) zero old new lt is keeps zero = subst (λ (z : StationView _). KeepsAnswers r (station_disk z) (station_disk new)) is keeps
each_among r (s ∷ ss) zero old new lt is keeps (suc k) = keeps_itself r (disk_at (station_disks ss) k)
each_among r (s ∷ ss) (suc i) old new lt is keeps zero = keeps_itself r (station_disk s)
each_among r (s ∷ ss) (suc i) old new lt is keeps (suc k) = each_among r ss i old new (omega arith) is keeps k

-- what stands behind a seam
behind_seam : (xs more : List Bool) (k n : ℕ) → length xs ≡ n → n ≤ k → get_or (xs ++ more) k true ≡ get_or more (k - n) true
behind_seam [] more k zero e le = let same : k - 0 ≡ k = omega arith in rw same refl
behind_seam [] more k (suc n) e le = absurd (omega arith)
behind_seam (x ∷ xs) more zero n e le = absurd (omega arith)
behind_seam (x ∷ xs) more (suc k) zero e le = absurd (omega arith)
behind_seam (x ∷ xs) more (suc k) (suc n) e le = let same : suc k - suc n ≡ k - n = omega arith in rw same (behind_seam xs more k n (omega arith) (omega arith))

state : Bool → Bool → DiskState
state answers clean = record { answers = answers; clean = clean }

-- two lists of each, beside these
module _ {A E : Type 0} (r : Result A E) (xs us ys vs am cm bm dm : List Bool) (n : ℕ) (nx : length xs ≡ n) (nu : length us ≡ n) (ny : length ys ≡ n) (nv : length vs ≡ n) where
  pub each_joined : KeepsEach r (record { answers = xs; clean = us }) (record { answers = ys; clean = vs }) → KeepsEach r (record { answers = am; clean = cm }) (record { answers = bm; clean = dm })
      → KeepsEach r (record { answers = xs ++ am; clean = us ++ cm }) (record { answers = ys ++ bm; clean = vs ++ dm })
  each_joined front back k = elim (leb_tells n k) [
    | inl le ↦ rw (behind_seam xs am k n nx le.1, behind_seam us cm k n nu le.1, behind_seam ys bm k n ny le.1, behind_seam vs dm k n nv le.1) (back (k - n))
    | inr gt ↦ let lt = gt.1 in rw (in_front xs am k (omega (arith, lt, nx)), in_front us cm k (omega (arith, lt, nu)), in_front ys bm k (omega (arith, lt, ny)), in_front vs dm k (omega (arith, lt, nv))) (front k)
  ]

-- one alone, and then others that stayed
pub each_first : {A E : Type 0} (r : Result A E) (old new : DiskState) (xs us : List Bool) → KeepsAnswers r old new → KeepsEach r (record { answers = old.answers ∷ xs; clean = old.clean ∷ us }) (record { answers = new.answers ∷ xs; clean = new.clean ∷ us })
each_first r old new xs us keeps zero = keeps
each_first r old new xs us keeps (suc k) = keeps_itself r (record { answers = get_or xs k true; clean = get_or us k true })

-- the stations beside the hubs, which weren't asked
pub each_stations : {A E H R : Type 0} (r : Result A E) (h : CodeHubs H) (old new : List (StationView R)) → length new ≡ length old → KeepsEach r (station_disks old) (station_disks new) → KeepsEach r (disks_beside h (station_disks old)) (disks_beside h (station_disks new))
each_stations r h old new same each =
    let second = option_to_list h.second in
    let am = map (λ (k : HubView _). k.answers) second in
    let cm = map (λ (k : HubView _). k.clean) second in
    let answers = λ (ss : List (StationView _)). length-map ss (λ (s : StationView _). s.answers) in
    let clean = λ (ss : List (StationView _)). length-map ss (λ (s : StationView _). s.clean) in
    each_joined r (h.first.answers ∷ (station_disks old).answers) (h.first.clean ∷ (station_disks old).clean) (h.first.answers ∷ (station_disks new).answers) (h.first.clean ∷ (station_disks new).clean) am cm am cm (suc (length old)) (ap suc (answers old)) (ap suc (clean old)) (ap suc (answers new ∙ same)) (ap suc (clean new ∙ same)) (behind each) (each_itself r (record { answers = am; clean = cm }))
  where
    behind : KeepsEach r (station_disks old) (station_disks new) → KeepsEach r (record { answers = h.first.answers ∷ (station_disks old).answers; clean = h.first.clean ∷ (station_disks old).clean }) (record { answers = h.first.answers ∷ (station_disks new).answers; clean = h.first.clean ∷ (station_disks new).clean })
    behind each zero = keeps_itself r (hub_disk h.first)
    behind each (suc k) = each k

-- the second hub
pub each_second : {A E H : Type 0} (r : Result A E) (first k g : HubView H) (d : Disks) → length d.answers ≡ length d.clean → KeepsAnswers r (hub_disk k) (hub_disk g)
    → KeepsEach r (record { answers = founders_beside first (Some k) d.answers; clean = founders_clean_beside first (Some k) d.clean }) (record { answers = founders_beside first (Some g) d.answers; clean = founders_clean_beside first (Some g) d.clean })
each_second r first k g d same keeps =
    each_joined r (first.answers ∷ d.answers) (first.clean ∷ d.clean) (first.answers ∷ d.answers) (first.clean ∷ d.clean) (k.answers ∷ []) (k.clean ∷ []) (g.answers ∷ []) (g.clean ∷ []) (suc (length d.answers)) refl (ap suc (sym same)) refl (ap suc (sym same))
    (each_itself r (record { answers = first.answers ∷ d.answers; clean = first.clean ∷ d.clean })) (each_first r (hub_disk k) (hub_disk g) [] [] keeps)

-- over clean disks those that answered answer, after an Ok
pub all_still : {A E : Type 0} (r : Result A E) (old new : Running) → KeepsEach r (disks_of old) (disks_of new) → AllAnswer old → AllClean new → OnOk r (AllAnswer new)
all_still (Ok x) old new each before clean = all_by new.answers (λ k. (each k).answered (all_get new.clean clean k) (all_get old.answers before k))
all_still (Err e) old new each before clean = tt

-- of stations as many answers as disks
pub both_counted : {R : Type 0} → (ss : List (StationView R)) → length (station_disks ss).answers ≡ length (station_disks ss).clean
both_counted ss = length-map ss (λ (s : StationView _). s.answers) ∙ sym (length-map ss (λ (s : StationView _). s.clean))
