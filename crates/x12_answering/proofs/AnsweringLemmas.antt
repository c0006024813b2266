-- Lemmas on answering the interchanges of a transmission in turn.
use Rattle.std.proofs.Common.{◌≡◌, ℕ, ◌+◌, ◌<◌, ◌≤◌, Bool, true, false, ◌||◌, List, [], ◌∷◌, ◌++◌, length, drop, get_or, Option, Some, None, Result, Ok, Err, IfSome, IfOk, OnOk, OnErr, sym, ◌∙◌, ap, subst, refl, append_assoc, append-nil, add-one, drop-cons}
use Rattle.std.proofs.lemmas.List.{drop_all}
use Rattle.std.specs.Borrow.{Bor}
use Rattle.std.specs.Io.KnownBytes.{Appends}
use Rattle.x12_answering.specs.declared.fault.RunStatus.{RunStatus}
use Rattle.x12_answering.specs.declared.fault.RunStatus.TheVariants.{Answered, Incomplete}
use Rattle.x12_answering.specs.declared.number.NextNumbers.{NextNumbers}
use Rattle.x12_answering.specs.declared.fault.RunFault.{RunFault}
use Rattle.x12_answering.specs.declared.options.Options.{Options}
use Rattle.x12_envelopes.specs.Transmission.{AreSlices}
use Rattle.x12_answering.specs.Answering.{Terms, answer_at, answers_from, status_by, replies_in, lines_in, is_incomplete, terms_in, first_numbers, IsAnswered}
use Rattle.x12_envelopes.specs.Writing.{texts}
use Rattle.std.proofs.KnownBytes.{Appends-trans, Appends-nil}
use Rattle.x12_answering.specs.Output.{MovesBytes, AppendsFront}

-- what was written, what is gathered and what is left, one behind the other, come to the whole
pub record Leads (old now : Option (List ℕ)) (gathered left all : List ℕ) : Type 0 where
  pub written : List ℕ
  pub appended : Appends old now written
  pub parted : all ≡ written ++ (gathered ++ left)

-- at first all is left
pub leads_at_first : (old : Option (List ℕ)) (gathered all : List ℕ) → gathered ≡ [] → Leads old old gathered all all
leads_at_first old gathered all empty =
    record { written = []; appended = Appends-nil old; parted = ap (λ g. g ++ all) (sym empty) }

-- one part more is gathered
pub leads_more : (old now : Option (List ℕ)) (before reply gathered left all : List ℕ) →
    Leads old now before (reply ++ left) all → gathered ≡ before ++ reply → Leads old now gathered left all
leads_more old now before reply gathered left all leads is = record {
  written = leads.written;
  appended = leads.appended;
  parted =
      leads.parted
      ∙ ap (λ l. leads.written ++ l) (sym (append_assoc before reply left) ∙ ap (λ l. l ++ left) (sym is));
}

-- what is gathered moves
pub leads_moved : (old now new : Option (List ℕ)) (gathered kept left all : List ℕ) →
    Leads old now gathered left all → MovesBytes now new gathered kept → Leads old new kept left all
leads_moved old now new gathered kept left all leads moves = record {
  written = leads.written ++ moves.moved;
  appended = Appends-trans old now new leads.written moves.moved leads.appended moves.appended;
  parted =
      leads.parted
      ∙ ap (λ l. leads.written ++ l) (ap (λ g. g ++ left) moves.parted ∙ append_assoc moves.moved kept left)
      ∙ sym (append_assoc leads.written moves.moved (kept ++ left));
}

-- one part more is gathered, and what is gathered moves
pub leads_on : (old now new : Option (List ℕ)) (before reply gathered kept left all : List ℕ) →
    Leads old now before (reply ++ left) all → gathered ≡ before ++ reply → MovesBytes now new gathered kept →
    Leads old new kept left all
leads_on old now new before reply gathered kept left all leads is moves =
    leads_moved old now new gathered kept left all (leads_more old now before reply gathered left all leads is) moves

-- what was written is a front
pub leads_front : (old now : Option (List ℕ)) (gathered left all : List ℕ) → Leads old now gathered left all → AppendsFront old now all
leads_front old now gathered left all leads =
    record { front = leads.written; rest = gathered ++ left; appended = leads.appended; parted = leads.parted }

-- and so it is with a front of what is gathered
pub leads_front_on : (old now new : Option (List ℕ)) (gathered left all : List ℕ) →
    Leads old now gathered left all → AppendsFront now new gathered → AppendsFront old new all
leads_front_on old now new gathered left all leads more =
    leads_front old new more.rest left all
    (leads_moved old now new gathered more.rest left all leads (record { moved = more.front; appended = more.appended; parted = more.parted }))

-- what holds anyway holds of an error
pub on_err : {T E P : Type 0} (result : Result T E) → P → OnErr result P
on_err (Ok value) holds = tt
on_err (Err fault) holds = holds

-- at last nothing is left
pub leads_to_all : (old now new : Option (List ℕ)) (gathered kept all : List ℕ) →
    Leads old now gathered [] all → MovesBytes now new gathered kept → kept ≡ [] → Appends old new all
leads_to_all old now new gathered kept all leads moves empty =
    let last = leads_moved old now new gathered kept [] all leads moves in
    let whole = last.parted ∙ ap (λ l. last.written ++ l) (append-nil kept ∙ empty) ∙ append-nil last.written in
    subst (Appends old new) (sym whole) last.appended

-- a line makes a run incomplete
abbrev pub status_behind : RunStatus → Bool → RunStatus
status_behind Answered is_line_left = status_by is_line_left
status_behind Incomplete is_line_left = Incomplete

-- behind an interchange that leaves a line
pub incomplete_on : (before after all : RunStatus) (is_line_left rest : Bool) → is_line_left ≡ true →
    status_behind before (is_line_left || rest) ≡ all → after ≡ Incomplete → status_behind after rest ≡ all
incomplete_on Answered after all is_line_left rest is_left was is = rw is (rw is_left at was)
incomplete_on Incomplete after all is_line_left rest is_left was is = rw is was

-- behind an interchange that leaves none
pub status_on : (before after all : RunStatus) (is_line_left rest : Bool) → is_line_left ≡ false →
    status_behind before (is_line_left || rest) ≡ all → after ≡ before → status_behind after rest ≡ all
status_on before after all is_line_left rest is_left was is = rw is (rw is_left at was)

-- with nothing left
pub status_at_last : (status all : RunStatus) → status_behind status false ≡ all → status ≡ all
status_at_last Answered all was = was
status_at_last Incomplete all was = was

-- one interchange is answered, and the rest is answered with the numbers that it leaves
pub answers_on : (t after : Terms) (n next : NextNumbers) (place i : ℕ) (xs : List (Bor (List ℕ))) (d : Bor (List ℕ)) →
    i < length xs → after ≡ t → next ≡ (answer_at t n place (get_or xs i d).now).next →
    answers_from t n place (texts (drop i xs)) ≡
    answer_at t n place (get_or xs i d).now ∷ answers_from after next (place + 1) (texts (drop (i + 1) xs))
unfolding answers_from
answers_on t after n next place i xs d inside terms numbers =
    let first : drop i xs ≡ get_or xs i d ∷ drop (i + 1) xs = rw add-one (drop-cons xs i d inside) in
    rw (first, terms, numbers) refl

-- no interchange is left
pub answers_done : (t : Terms) (n : NextNumbers) (place i : ℕ) (xs : List (Bor (List ℕ))) → length xs ≤ i →
    answers_from t n place (texts (drop i xs)) ≡ []
unfolding answers_from
answers_done t n place i xs past = rw (drop_all i xs past) refl

-- what is written of the answers to an input's interchanges answers the input
pub input_answered : (o : Options) (t : Terms) (n : NextNumbers) (input : List ℕ)
    (interchanges : List (List ℕ)) (out new_out err new_err : Option (List ℕ)) (result : Result RunStatus RunFault) →
    t ≡ terms_in o → n ≡ first_numbers o → AreSlices interchanges input →
    OnOk result (Appends out new_out (replies_in (answers_from t n 1 interchanges))) →
    OnOk result (Appends err new_err (lines_in (answers_from t n 1 interchanges))) →
    IfOk result (λ status. status ≡ status_by (is_incomplete (answers_from t n 1 interchanges))) →
    IfOk result (λ status. IsAnswered o input out new_out err new_err status)
input_answered o t n input interchanges out new_out err new_err (Ok status) terms numbers cut replies lines ends = record {
  interchanges = interchanges;
  cut = cut;
  replies = rw (terms, numbers) at replies;
  lines = rw (terms, numbers) at lines;
  ends = rw (terms, numbers) at ends;
}
input_answered o t n input interchanges out new_out err new_err (Err fault) terms numbers cut replies lines ends = tt

-- answering what was read to its end answers the transmission
pub transmission_answered : (o : Options) (known : Option (List ℕ)) (input : List ℕ)
    (out new_out err new_err : Option (List ℕ)) (result : Result RunStatus RunFault) →
    IfSome known (λ bytes. input ≡ bytes) →
    IfOk result (λ status. IsAnswered o input out new_out err new_err status) →
    IfOk result (λ status. IfSome known (λ bytes. IsAnswered o bytes out new_out err new_err status))
transmission_answered o None input out new_out err new_err (Ok status) is answered = tt
transmission_answered o (Some bytes) input out new_out err new_err (Ok status) is answered =
    subst (λ b. IsAnswered o b out new_out err new_err status) is answered
transmission_answered o known input out new_out err new_err (Err fault) is answered = tt
