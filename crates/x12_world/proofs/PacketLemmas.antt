-- A packet is found by the number of its event, and then by its place.
use Rattle.std.specs.Prelude.{◌≡◌, ℕ, zero, suc, ◌+◌, ◌<◌, List, [], ◌∷◌, ◌++◌, false, ◌==◌, None, refl, length, slice_get, option_and_then}
use mathlib.Core.Path.{sym, ap, subst, ◌∙◌}
use mathlib.Core.Logic.{inl, inr}
use native.Mathlib.Omega.{arith}
use Rattle.std.proofs.lemmas.Bool.Decides.{eqb_tells}
use Rattle.std.proofs.lemmas.Bool.{eq-eqb}
use Rattle.std.proofs.Common.{append_assoc, ne_eqb}
use Rattle.x12_core.specs.Packet.{Packet, PacketName}
use Rattle.x12_world.specs.Packet.{SentPacket, packet_of, named}
use Rattle.x12_world.specs.View.{named_from}

abbrev pub name_of : ℕ → ℕ → PacketName
name_of event place = record { event = event; place = place }

-- the packets of another event are passed over
past : (event place : ℕ) (qs : List Packet) (more : List SentPacket) (e p : ℕ) → (event == e) ≡ false → packet_of (named event place qs ++ more) (name_of e p) ≡ packet_of more (name_of e p)
past event place [] more e p other = refl
past event place (q ∷ qs) more e p other = rw other (past event (suc place) qs more e p other)

-- later events have no packet of an earlier one
none_later : (event : ℕ) (pss : List (List Packet)) (e p : ℕ) → e < event → packet_of (named_from event pss) (name_of e p) ≡ None
none_later event [] e p lt = refl
none_later event (qs ∷ pss) e p lt = past event 1 qs (named_from (suc event) pss) e p (ne_eqb event e (λ same. omega arith)) ∙ none_later (suc event) pss e p (omega arith)

-- the packets of the event itself, by their places
here : (event place : ℕ) (qs : List Packet) (more : List SentPacket) (j p : ℕ) → p ≡ place + j → packet_of more (name_of event p) ≡ None → packet_of (named event place qs ++ more) (name_of event p) ≡ slice_get qs j
here event place [] more j p at none = none
here event place (q ∷ qs) more zero p at none = rw (eq-eqb event event refl, eq-eqb place p (omega arith)) refl
here event place (q ∷ qs) more (suc j) p at none = rw (eq-eqb event event refl, ne_eqb place p (λ same. omega arith)) (here event (suc place) qs more j p (omega arith) none)

-- event k of those from this one on, place j of what it sent
pub packet_at : (event : ℕ) (pss : List (List Packet)) (k j e p : ℕ) → e ≡ event + k → p ≡ 1 + j → packet_of (named_from event pss) (name_of e p) ≡ option_and_then (λ qs. slice_get qs j) (slice_get pss k)
packet_at event [] k j e p at place = refl
packet_at event (qs ∷ pss) zero j e p at place =
    let same : e ≡ event = omega arith in
    subst (λ n. packet_of (named event 1 qs ++ named_from (suc event) pss) (name_of n p) ≡ slice_get qs j) (sym same)
    (here event 1 qs (named_from (suc event) pss) j p place (none_later (suc event) pss event p (omega arith)))
packet_at event (qs ∷ pss) (suc k) j e p at place =
    past event 1 qs (named_from (suc event) pss) e p (ne_eqb event e (λ same. omega arith))
    ∙ packet_at (suc event) pss k j e p (omega arith) place

-- no event has the number 0, and no place
pub no_event : (event : ℕ) (pss : List (List Packet)) (e p : ℕ) → e ≡ 0 → packet_of (named_from (suc event) pss) (name_of e p) ≡ None
no_event event pss e p is = none_later (suc event) pss e p (omega arith)

no_place_of : (event place : ℕ) (qs : List Packet) (more : List SentPacket) (e p : ℕ) → p < place → packet_of (named event place qs ++ more) (name_of e p) ≡ packet_of more (name_of e p)
no_place_of event place [] more e p lt = refl
no_place_of event place (q ∷ qs) more e p lt = elim (eqb_tells event e) [
  | inl same ↦ rw (same.0, ne_eqb place p (λ is. omega arith)) (no_place_of event (suc place) qs more e p (omega arith))
  | inr other ↦ rw other.0 (no_place_of event (suc place) qs more e p (omega arith))
]

pub no_place : (event : ℕ) (pss : List (List Packet)) (e p : ℕ) → p ≡ 0 → packet_of (named_from event pss) (name_of e p) ≡ None
no_place event [] e p is = refl
no_place event (qs ∷ pss) e p is = no_place_of event 1 qs (named_from (suc event) pss) e p (omega arith) ∙ no_place (suc event) pss e p is

-- one event more
pub one_more : (event : ℕ) (pss : List (List Packet)) (qs : List Packet) (e : ℕ) → e ≡ event + length pss → named_from event (pss ++ qs ∷ []) ≡ named_from event pss ++ named e 1 qs
one_more event [] qs e at =
    let same : event ≡ e = omega arith in
    subst (λ n. named event 1 qs ++ [] ≡ named n 1 qs) same (append_nil (named event 1 qs))
  where
    append_nil : {A : Type 0} (xs : List A) → xs ++ [] ≡ xs
    append_nil [] = refl
    append_nil (x ∷ xs) = ap (λ ys. x ∷ ys) (append_nil xs)
one_more event (ps ∷ pss) qs e at =
    ap (λ rest. named event 1 ps ++ rest) (one_more (suc event) pss qs e (omega arith))
    ∙ sym (append_assoc (named event 1 ps) (named_from (suc event) pss) (named e 1 qs))
