-- An interchange that is judged group by group has an outline: each fault of reading has a note.
use Rattle.std.proofs.Common.{◌≡◌, ℕ, Bool, true, false, List, [], ◌∷◌, Option, Some, None, Ok, Err, refl, ap, zero, suc, if◌then◌else◌}
use Rattle.x12_envelopes.specs.declared.party.Party.{Party}
use Rattle.x12_envelopes.specs.declared.header.Header.{Header}
use Rattle.x12_envelopes.specs.declared.shape.OutlineFault.{OutlineFault}
use Rattle.x12_envelopes.specs.declared.shape.OutlineFault.TheVariants.{Structure, Premature, Content, Memory}
use Rattle.x12_envelopes.specs.Row.{first_of_rows}
use Rattle.x12_envelopes.specs.Outline.{outline_of}
use Rattle.x12_envelopes.specs.Shape.{Interchange}
use Rattle.x12_envelopes.proofs.KnownFaultLemmas.{IsOfBytes, reading_is_of_bytes}
use Rattle.x12_judge.specs.declared.controls.Controls.{Controls}
use Rattle.x12_judge.specs.Group.{FunctionalGroupVerdict}
use Rattle.x12_judge.specs.Interchange.{Reading, note_rows, note_of_interchange}
use Rattle.x12_judge.specs.Verdict.{judged, verdict_by, judgement_of, verdicts_of_groups}
use Rattle.x12_judge.specs.Laws.{JudgedIsRead}

-- some row holds
abbrev HasNote : List (Bool × ℕ) → Type 0
HasNote rows = (note : ℕ) × (first_of_rows rows ≡ Some note)

-- the row at that place holds
abbrev HoldsAt : List (Bool × ℕ) → ℕ → Type 0
HoldsAt [] k = ⊥
HoldsAt (row ∷ rows) zero = row.0 ≡ true
HoldsAt (row ∷ rows) (suc k) = HoldsAt rows k

noted : (rows : List (Bool × ℕ)) (k : ℕ) → HoldsAt rows k → HasNote rows
noted [] k held = absurd held
noted (row ∷ rows) zero held = (row.1, ap (λ b. if b then Some row.1 else first_of_rows rows) held)
noted (row ∷ rows) (suc k) held = one row.0 (noted rows k held)
  where
    one : (b : Bool) → HasNote rows → (note : ℕ) × ((if b then Some row.1 else first_of_rows rows) ≡ Some note)
    one true found = (row.1, refl)
    one false found = found

-- a fault of reading has a note
fault_noted : (controls : Controls) (me : Party) (h : Header) (fault : OutlineFault) → IsOfBytes (Err fault) → (note : ℕ) × (note_of_interchange controls me h (Err fault) ≡ Some note)
unfolding note_of_interchange
fault_noted controls me h (Structure at) known = noted (note_rows controls me h (Err (Structure at))) 7 refl
fault_noted controls me h (Premature at) known = noted (note_rows controls me h (Err (Premature at))) 8 refl
fault_noted controls me h (Content at) known = noted (note_rows controls me h (Err (Content at))) 9 refl
fault_noted controls me h Memory known = absurd known

not_judged : (note : Option ℕ) (n : ℕ) (all groups : List FunctionalGroupVerdict) → note ≡ Some n → verdict_by note all ≡ judged groups → ⊥
not_judged None n all groups e is = cc
not_judged (Some m) n all groups e is = cc

read_by : (controls : Controls) (me : Party) (h : Header) (all groups : List FunctionalGroupVerdict) (read : Reading) → IsOfBytes read
    → verdict_by (note_of_interchange controls me h read) all ≡ judged groups → (x : Interchange) × (read ≡ Ok x)
read_by controls me h all groups (Ok x) known is = (x, refl)
read_by controls me h all groups (Err fault) known is =
    let found = fault_noted controls me h fault known in
    absurd (not_judged (note_of_interchange controls me h (Err fault)) found.0 all groups found.1 is)

pub judged_was_read : JudgedIsRead
unfolding judgement_of
judged_was_read me terms h bytes groups is =
    let read = outline_of h.delims bytes in
    read_by terms.controls me h (verdicts_of_groups terms.agreements h read) groups read (reading_is_of_bytes h.delims bytes) is
