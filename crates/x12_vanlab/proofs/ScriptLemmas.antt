-- Lemmas on what a writer holds behind what it held.
use Rattle.std.proofs.Common.{◌≡◌, ℕ, List, [], ◌++◌, Option, ◌∙◌, ap, subst, sym, append-nil, append_assoc}
use Rattle.std.proofs.KnownBytes.{Appends-trans, Appends-nil}
use Rattle.std.specs.Io.KnownBytes.{Appends}
use Rattle.x12_answering.specs.Output.{AppendsFront, MovesBytes}
use Rattle.x12_vanlab.specs.Script.{Grows, Explains, EndsAtBadLine, bad_line}

-- nothing was written
pub grows_none : (held : Option (List ℕ)) → Grows held held
grows_none held = record { bytes = []; appended = Appends-nil held }

-- more was written
pub grows_on : (old now new : Option (List ℕ)) → Grows old now → Grows now new → Grows old new
grows_on old now new first more = record {
  bytes = first.bytes ++ more.bytes;
  appended = Appends-trans old now new first.bytes more.bytes first.appended more.appended;
}

-- what is appended makes it grow
pub grows_by : (old new : Option (List ℕ)) (bytes : List ℕ) → Appends old new bytes → Grows old new
grows_by old new bytes appended = record { bytes = bytes; appended = appended }

-- so does what moves
pub grows_moved : (old new : Option (List ℕ)) (gathered kept : List ℕ) → MovesBytes old new gathered kept → Grows old new
grows_moved old new gathered kept moves = grows_by old new moves.moved moves.appended

-- and a front
pub grows_front : (old new : Option (List ℕ)) (bytes : List ℕ) → AppendsFront old new bytes → Grows old new
grows_front old new bytes front = grows_by old new front.front front.appended

-- all that is gathered moves
pub appends_all : (old new : Option (List ℕ)) (gathered kept : List ℕ) → MovesBytes old new gathered kept → kept ≡ [] →
    Appends old new gathered
appends_all old new gathered kept moves empty =
    subst (Appends old new) (sym (moves.parted ∙ ap (λ l. moves.moved ++ l) empty ∙ append-nil moves.moved)) moves.appended

-- a bad line is told behind what was written and what was gathered
pub ends_at_bad_line : (out now new_out err new_err : Option (List ℕ)) (gathered : List ℕ) (number : ℕ) → Grows out now →
    Appends now new_out (gathered ++ bad_line number) → Explains err new_err number → EndsAtBadLine out new_out err new_err
ends_at_bad_line out now new_out err new_err gathered number written told explained = record {
  number = number;
  printed = written.bytes ++ gathered;
  told =
      subst (Appends out new_out) (sym (append_assoc written.bytes gathered (bad_line number)))
      (Appends-trans out now new_out written.bytes (gathered ++ bad_line number) written.appended told);
  explained = explained;
}
