-- What several crates above prove of this crate's words, once.
use Rattle.std.proofs.Common.{IfSome, List, [], inl, inr, map, refl, ℕ, ◌-◌, ◌==◌, ◌∷◌, ◌≡◌}
use Rattle.std.proofs.lemmas.Bool.{cases_Bool}
use Rattle.std.specs.List.{AllByRecursion}
use Rattle.x12_acks.specs.Submission.{Submission, SubmittedGroup, SubmittedSet}
use Rattle.x12_envelopes.specs.declared.party.Party.{Party}
use Rattle.x12_numbers.proofs.Shelf.{slice_holds}
use Rattle.x12_outbound.specs.Entry.{at_place, pending_entry, pending_group, pending_set, submission_of_entry, submitted_group_of_row, submitted_set_of_row}

-- what is entered as pending is what was submitted
pub sets_back : (sets : List SubmittedSet) → map submitted_set_of_row (map pending_set sets) ≡ sets
sets_back [] = refl
sets_back (s ∷ sets) = rw (sets_back sets) refl

pub groups_back : (gs : List SubmittedGroup) → map submitted_group_of_row (map pending_group gs) ≡ gs
groups_back [] = refl
groups_back (g ∷ gs) = rw (sets_back g.sets, groups_back gs) refl

pub entry_back : (me : Party) (s : Submission) → submission_of_entry me (pending_entry s) ≡ record s { sender = me }
unfolding pending_entry
entry_back me s = rw (groups_back s.groups) refl

pub place_holds : {X : Type 0} (P : X → Type 0) (xs : List X) → AllByRecursion P xs → (place : ℕ) → IfSome (at_place place xs) P
place_holds P xs all place = elim (cases_Bool (place == 0)) [
  | inl none ↦ rw none tt
  | inr some ↦ rw some (slice_holds P xs all (place - 1))
]
