-- Lemmas on what a writer took of what was gathered.
use Rattle.std.proofs.Common.{◌≡◌, ℕ, List, [], ◌++◌, take, drop, Option, sym, ◌∙◌, ap, refl, append_assoc, append-nil, take-append-drop, subst}
use Rattle.std.proofs.KnownBytes.{Appends-trans, Appends-nil, Appends-kept}
use Rattle.std.specs.Io.KnownBytes.{Appends, Keeps}
use Rattle.x12_answering.specs.Output.{AppendsFront}

-- of bytes a writer took those in front of these
pub record Leaves (old new : Option (List ℕ)) (bytes left : List ℕ) : Type 0 where
  pub taken : List ℕ
  pub appended : Appends old new taken
  pub parted : bytes ≡ taken ++ left

-- at first all is left
pub leaves_all : (old : Option (List ℕ)) (bytes : List ℕ) → Leaves old old bytes bytes
leaves_all old bytes = record { taken = []; appended = Appends-nil old; parted = refl }

-- n bytes more are taken
pub leaves_on : (old now new : Option (List ℕ)) (bytes left : List ℕ) (n : ℕ) → Leaves old now bytes left →
    Appends now new (take n left) → Leaves old new bytes (drop n left)
leaves_on old now new bytes left n held more = record {
  taken = held.taken ++ take n left;
  appended = Appends-trans old now new held.taken (take n left) held.appended more;
  parted =
      held.parted ∙ ap (λ l. held.taken ++ l) (sym (take-append-drop n left))
      ∙ sym (append_assoc held.taken (take n left) (drop n left));
}

-- none is taken
pub leaves_same : (old now new : Option (List ℕ)) (bytes left : List ℕ) → Leaves old now bytes left → Keeps now new →
    Leaves old new bytes left
leaves_same old now new bytes left held kept = record {
  taken = held.taken;
  appended = Appends-kept old now new held.taken held.appended kept;
  parted = held.parted;
}

-- what was taken is a front
pub leaves_front : (old now : Option (List ℕ)) (bytes left : List ℕ) → Leaves old now bytes left → AppendsFront old now bytes
leaves_front old now bytes left held = record { front = held.taken; rest = left; appended = held.appended; parted = held.parted }

-- with nothing left all is taken
pub leaves_none : (old now : Option (List ℕ)) (bytes left : List ℕ) → Leaves old now bytes left → left ≡ [] → Appends old now bytes
leaves_none old now bytes left held empty =
    subst (Appends old now) (sym (held.parted ∙ ap (λ l. held.taken ++ l) empty ∙ append-nil held.taken)) held.appended

-- all is a front
pub front_of_all : (old new : Option (List ℕ)) (bytes : List ℕ) → Appends old new bytes → AppendsFront old new bytes
front_of_all old new bytes appended = record { front = bytes; rest = []; appended = appended; parted = sym (append-nil bytes) }

-- and so is nothing
pub front_of_none : (known : Option (List ℕ)) (bytes : List ℕ) → AppendsFront known known bytes
front_of_none known bytes = record { front = []; rest = bytes; appended = Appends-nil known; parted = refl }
