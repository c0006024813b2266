-- Lemmas on going over the interchanges of a transmission.
use Rattle.std.proofs.Common.{◌≡◌, ℕ, Bool, true, false, ◌&&◌, ◌==◌, length, List, [], ◌∷◌, Result, Ok, Err, IfOk, OnOk, ap, refl, sym, ◌∙◌}
use Rattle.std.proofs.lemmas.Bool.Decides.{Decides-eqb}
use Rattle.std.proofs.lemmas.List.{length-map, nil_from_length}
use Rattle.std.specs.Borrow.{Bor}
use Rattle.x12_envelopes.specs.Writing.{texts}
use Rattle.x12_envelopes.specs.Transmission.{AreSlices}
use Rattle.x12_answering.specs.declared.fault.RunFault.{RunFault}
use Rattle.x12_inspect.specs.declared.inspecting.Outcome.{Outcome}
use Rattle.x12_inspect.specs.declared.inspecting.Outcome.TheVariants.{Nothing}
use Rattle.x12_inspect.specs.Inspecting.{outcome_by, EndsAs, WasAsked}

-- going over the slices of a transmission, of which there are some, goes over the transmission
pub transmission_inspected : (all_right : List (List ℕ) → Bool) (input : List ℕ) (interchanges : List (List ℕ))
    (result : Result Outcome RunFault) → AreSlices interchanges input → (length interchanges == 0) ≡ false →
    IfOk result (λ outcome. outcome ≡ outcome_by (all_right interchanges)) →
    IfOk result (λ outcome. EndsAs all_right input outcome)
transmission_inspected all_right input interchanges (Ok outcome) cut some ends = record { interchanges = interchanges; cut = cut; ends = rw some ends }
transmission_inspected all_right input interchanges (Err fault) cut some ends = tt

-- where there is none, nothing is said
pub none_inspected : (all_right : List (List ℕ) → Bool) (input : List ℕ) (interchanges : List (List ℕ)) →
    AreSlices interchanges input → (length interchanges == 0) ≡ true → EndsAs all_right input Nothing
none_inspected all_right input interchanges cut none = record { interchanges = interchanges; cut = cut; ends = rw none refl }

-- one interchange more, which is right or not: what is asked of all that are left, and of those behind it
pub right_so_far : (all right rest behind whole after : Bool) → rest ≡ (right && behind) → (all && rest) ≡ whole → after ≡ (all && right) → (after && behind) ≡ whole
right_so_far true right rest behind whole after is was now = rw (now, ← is) was
right_so_far false right rest behind whole after is was now = rw now was

-- with none left
pub right_at_last : (all whole : Bool) (outcome : Outcome) → outcome ≡ outcome_by all → (all && true) ≡ whole → outcome ≡ outcome_by whole
right_at_last true whole outcome is was = is ∙ ap outcome_by was
right_at_last false whole outcome is was = is ∙ ap outcome_by was

-- and what was asked of its interchanges
pub transmission_asked : (asked : List (List ℕ) → Type 0) (input : List ℕ) (interchanges : List (List ℕ))
    (result : Result Outcome RunFault) → AreSlices interchanges input → OnOk result (asked interchanges) → OnOk result (WasAsked asked input)
transmission_asked asked input interchanges (Ok outcome) cut was = record { interchanges = interchanges; cut = cut; asked = was }
transmission_asked asked input interchanges (Err fault) cut was = tt

pub none_asked : (asked : List (List ℕ) → Type 0) (input : List ℕ) (interchanges : List (List ℕ)) →
    AreSlices interchanges input → (length interchanges == 0) ≡ true → asked [] → WasAsked asked input
none_asked asked input interchanges cut none was = record { interchanges = interchanges; cut = cut; asked = rw (nil_from_length interchanges ((Decides-eqb (length interchanges) 0).0 none)) was }

-- whether there are interchanges
pub emptiness : (items slices : List (Bor (List ℕ))) (told is : Bool) → slices ≡ items → told ≡ (length slices == 0) → told ≡ is →
    (length (texts items) == 0) ≡ is
emptiness items slices told is same so was = ap (λ n. n == 0) (length-map items (λ e. e.now) ∙ ap length (sym same)) ∙ sym so ∙ was
