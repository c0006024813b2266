-- Parts of a transaction that goes on, one behind the other.
use Rattle.std.proofs.Common.{Result, Ok, Err, refl, inl, arith}
use Rattle.sqlite.specs.State.{State, HasCleanDisk}
use Rattle.sqlite.proofs.StateLemmas.{survives_then}
use Rattle.sql_rows.specs.Kept.{IsPart}
use Rattle.sql_rows.proofs.Parts.{keeps_both}
use Rattle.x12_station_records.specs.StationPart.{PartGoesOn}
use Rattle.x12_station_records.specs.StationPlan.{IsPartWith}

-- nothing is done
pub stands : {A E : Type 0} (Change : A → State → State → Type 0) (s : State) (x : A) → Change x s s → PartGoesOn {E = E} Change (Ok x) s s
stands Change s x h = record {
  wrote = λ clean inside open_. record { change = h; inside = inside; was_open = open_; is_open = open_ };
  keeps = λ clean. record { was_open = λ o. o; committed = λ o. refl };
  survives = record { clean = omega arith; shield = λ h. h; counts = omega arith; limit = refl; closes = λ clean o. inl o; crash = λ clean db may. inl may };
}

module _ {A B F : Type 0} (C : A → State → State → Type 0) (x : A) (a b c : State) where
  -- one that goes on, and then another
  pub goes_then : {E : Type 0} (D G : B → State → State → Type 0) (r : Result B E) → ((y : B) → C x a b → D y b c → G y a c) → PartGoesOn {E = F} C (Ok x) a b → PartGoesOn D r b c → PartGoesOn G r a c
  goes_then D G (Ok y) join first second = record {
    wrote = λ clean inside o. let mid : HasCleanDisk b = omega (arith, second.survives.clean, clean) in let one = first.wrote mid inside o in let two = second.wrote clean one.inside one.is_open in
        record { change = join y one.change two.change; inside = two.inside; was_open = o; is_open = two.is_open };
    keeps = λ clean. keeps_both a b c (first.keeps (omega (arith, second.survives.clean, clean))) (second.keeps clean);
    survives = survives_then a b c _ _ (λ _. ⊥) (λ _ db none. none) (λ _ db none. none) first.survives second.survives;
  }
  goes_then D G (Err e) join first second = record {
    wrote = λ clean inside o. tt;
    keeps = λ clean. keeps_both a b c (first.keeps (omega (arith, second.survives.clean, clean))) (second.keeps clean);
    survives = survives_then a b c _ _ (λ _. ⊥) (λ _ db none. none) (λ _ db none. none) first.survives second.survives;
  }

  -- one that goes on, and then a part
  pub goes_part : {E : Type 0} (D : State → State → Type 0) (G : B → State → State → Type 0) (r : Result B E) → ((y : B) → C x a b → D b c → G y a c) → PartGoesOn {E = F} C (Ok x) a b → IsPart D r b c → PartGoesOn G r a c
  goes_part D G (Ok y) join first second = record {
    wrote = λ clean inside o. let mid : HasCleanDisk b = omega (arith, second.survives.clean, clean) in let one = first.wrote mid inside o in let two = second.wrote clean in
        record { change = join y one.change two.change; inside = two.inside; was_open = o; is_open = two.is_open };
    keeps = λ clean. keeps_both a b c (first.keeps (omega (arith, second.survives.clean, clean))) (second.keeps clean);
    survives = survives_then a b c _ _ (λ _. ⊥) (λ _ db none. none) (λ _ db none. none) first.survives second.survives;
  }
  goes_part D G (Err e) join first second = record {
    wrote = λ clean inside o. tt;
    keeps = λ clean. keeps_both a b c (first.keeps (omega (arith, second.survives.clean, clean))) (second.keeps clean);
    survives = survives_then a b c _ _ (λ _. ⊥) (λ _ db none. none) (λ _ db none. none) first.survives second.survives;
  }

-- one that goes on, and then a part that was done
pub goes_step : {A B U E F G : Type 0} (C : A → State → State → Type 0) (x : A) (D : State → State → Type 0) (u : U) (H : B → State → State → Type 0) (z : B) (a b c : State) → (C x a b → D b c → H z a c)
    → PartGoesOn {E = E} C (Ok x) a b → IsPart {E = F} D (Ok u) b c → PartGoesOn {E = G} H (Ok z) a c
goes_step C x D u H z a b c join first second = record {
  wrote = λ clean inside o. let mid : HasCleanDisk b = omega (arith, second.survives.clean, clean) in let one = first.wrote mid inside o in let two = second.wrote clean in
      record { change = join one.change two.change; inside = two.inside; was_open = o; is_open = two.is_open };
  keeps = λ clean. keeps_both a b c (first.keeps (omega (arith, second.survives.clean, clean))) (second.keeps clean);
  survives = survives_then a b c _ _ (λ _. ⊥) (λ _ db none. none) (λ _ db none. none) first.survives second.survives;
}

-- one that goes on, and then another that was done
pub goes_both : {A B U E F G : Type 0} (C : A → State → State → Type 0) (x : A) (D : U → State → State → Type 0) (u : U) (H : B → State → State → Type 0) (z : B) (a b c : State) → (C x a b → D u b c → H z a c)
    → PartGoesOn {E = E} C (Ok x) a b → PartGoesOn {E = F} D (Ok u) b c → PartGoesOn {E = G} H (Ok z) a c
goes_both C x D u H z a b c join first second = record {
  wrote = λ clean inside o. let mid : HasCleanDisk b = omega (arith, second.survives.clean, clean) in let one = first.wrote mid inside o in let two = second.wrote clean one.inside one.is_open in
      record { change = join one.change two.change; inside = two.inside; was_open = o; is_open = two.is_open };
  keeps = λ clean. keeps_both a b c (first.keeps (omega (arith, second.survives.clean, clean))) (second.keeps clean);
  survives = survives_then a b c _ _ (λ _. ⊥) (λ _ db none. none) (λ _ db none. none) first.survives second.survives;
}

-- a part, as one that goes on
pub goes : {A E F : Type 0} (C : State → State → Type 0) (x : A) (a b : State) → IsPart {E = E} C (Ok x) a b → PartGoesOn {E = F} (λ (u : A). C) (Ok x) a b
goes C x a b h = record { wrote = λ clean inside o. h.wrote clean; keeps = h.keeps; survives = h.survives }

-- a part that was done, as one that goes on and tells another value
pub goes_as : {A B E F : Type 0} (C : State → State → Type 0) (x : A) (D : B → State → State → Type 0) (z : B) (a b : State) → (C a b → D z a b) → IsPart {E = E} C (Ok x) a b → PartGoesOn {E = F} D (Ok z) a b
goes_as C x D z a b turn h = record {
  wrote = λ clean inside o. let it = h.wrote clean in record { change = turn it.change; inside = it.inside; was_open = it.was_open; is_open = it.is_open };
  keeps = h.keeps;
  survives = h.survives;
}

-- what was done tells another value
pub tells : {A B E F : Type 0} (C : A → State → State → Type 0) (x : A) (D : B → State → State → Type 0) (z : B) (a b : State) → (C x a b → D z a b) → PartGoesOn {E = E} C (Ok x) a b → PartGoesOn {E = F} D (Ok z) a b
tells C x D z a b turn h = record {
  wrote = λ clean inside o. let it = h.wrote clean inside o in record { change = turn it.change; inside = it.inside; was_open = it.was_open; is_open = it.is_open };
  keeps = h.keeps;
  survives = h.survives;
}

-- a part, and then what goes on and tells a value
pub part_with : {A B E F : Type 0} (C : State → State → Type 0) (D G : B → State → State → Type 0) (x : A) (r : Result B E) (a b c : State) → ((y : B) → C a b → D y b c → G y a c) → IsPart {E = F} C (Ok x) a b → PartGoesOn D r b c → IsPartWith G r a c
part_with C D G x (Ok y) a b c join first second = record {
  wrote = λ clean. let mid : HasCleanDisk b = omega (arith, second.survives.clean, clean) in let one = first.wrote mid in let two = second.wrote clean one.inside one.is_open in
      record { change = join y one.change two.change; inside = two.inside; was_open = one.was_open; is_open = two.is_open };
  keeps = λ clean. keeps_both a b c (first.keeps (omega (arith, second.survives.clean, clean))) (second.keeps clean);
  survives = survives_then a b c _ _ (λ _. ⊥) (λ _ db none. none) (λ _ db none. none) first.survives second.survives;
}
part_with C D G x (Err e) a b c join first second = record {
  wrote = λ clean. tt;
  keeps = λ clean. keeps_both a b c (first.keeps (omega (arith, second.survives.clean, clean))) (second.keeps clean);
  survives = survives_then a b c _ _ (λ _. ⊥) (λ _ db none. none) (λ _ db none. none) first.survives second.survives;
}
