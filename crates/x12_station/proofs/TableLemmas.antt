-- Each table of S-numbers names the row of the definition's.
use Rattle.std.specs.Prelude.{◌≡◌, ◌↔◌, List, [], ◌∷◌, Bool, true, false, not, ◌&&◌, ◌||◌, ◌==◌, length, Option, Some, None, Result, Ok, Err, option_map, refl, if◌then◌else◌}
use Rattle.std.specs.List.{list_any, list_all}
use Rattle.std.specs.Option.{option_or}
use mathlib.Core.Path.{sym, ap, ◌∙◌}
use Rattle.std.proofs.lemmas.Bool.{or_parts}
use Rattle.x12_numbers.specs.Book.{are_new}
use Rattle.x12_envelopes.specs.declared.header.Header.{Header}
use Rattle.x12_envelopes.specs.declared.header.HeaderFault.{HeaderFault}
use Rattle.x12_envelopes.specs.declared.shape.OutlineFault.{OutlineFault}
use Rattle.x12_envelopes.specs.Header.{header_of}
use Rattle.x12_envelopes.specs.Outline.{outline_of}
use Rattle.x12_envelopes.specs.Row.{first_of_rows}
use Rattle.x12_envelopes.specs.Shape.{Interchange, FunctionalGroup}
use Rattle.x12_judge.specs.Verdict.{group_is_acknowledgment}
use Rattle.x12_judge.specs.Agreement.{is_same_party}
use Rattle.x12_profile.specs.Interchange.{Bytes}
use Rattle.x12_profile.specs.X12.{x12, are_new_numbers, group_numbers, is_order_group, is_order_outline}
use Rattle.x12_profile.proofs.FieldLemmas as field
use Rattle.x12_station.specs.declared.fault.StationFault.{StationFault}
use Rattle.x12_outbound.specs.declared.submitting.SubmitFault.{SubmitFault}
use Rattle.x12_outbound.specs.declared.submitting.SubmitFault.TheVariants as submit
use Rattle.x12_outbound.specs.Submitting.{has_acknowledgments, has_set_twice, isa_fault, lacks_sets, numbers_of_groups, outline_fault, submit_fault}
use Rattle.x12_station.specs.Fault.{prepared_fault, fault_of_submitting, has_no_item_left, item_fault}
use Rattle.x12_station.specs.Station.{Station}
use Rattle.x12_station.specs.StationRefusal.{StationRefusal, prepared_refusal}
use Rattle.x12_station.specs.StationRefusal as refusal
use Rattle.x12_station.specs.TableLaw.{PreparedTable, row_of_fault, row_or_spent}
use Rattle.x12_station.proofs.PreparedLemmas.{all_numbers}

pub neither : {A B : Type 0} → (A → ⊥) → (B → ⊥) → (A ↔ B)
neither f g = (λ a. absurd (f a), λ b. absurd (g b))

pub some_row : {X : Type 0} (x : X) → (Some x ≡ None) → ⊥
some_row x e = cc

-- Tables of tests.

-- each of the groups is one of orders where none has a fault
split : (a b c p q r : Bool) → (not a && not b && c && (not p && not q && not r)) ≡ (not (a || p) && not (b || q) && not (not c || r))
split true b c p q r = refl
split false true c p q r = by (not p) (not p && not q)
  where
    by : (s t : Bool) → false ≡ (s && false && not (not c || r))
    by true t = refl
    by false t = refl
split false false true p q r = refl
split false false false p q r = by (not p) (not q)
  where
    by : (s t : Bool) → false ≡ (s && t && false)
    by true true = refl
    by true false = refl
    by false t = refl

groups_of_orders : (gs : List FunctionalGroup) → list_all is_order_group gs
    ≡ (not (list_any group_is_acknowledgment gs) && not (list_any (λ g. length g.sets == 0) gs) && not (list_any (λ g. not (are_new_numbers g.sets)) gs))
groups_of_orders [] = refl
groups_of_orders (g ∷ gs) =
    ap (λ b. (not (group_is_acknowledgment g) && not (length g.sets == 0) && are_new_numbers g.sets) && b) (groups_of_orders gs)
    ∙ split (group_is_acknowledgment g) (length g.sets == 0) (are_new_numbers g.sets) (list_any group_is_acknowledgment gs) (list_any (λ g. length g.sets == 0) gs) (list_any (λ g. not (are_new_numbers g.sets)) gs)

-- an outline may be submitted where no row on it holds
joined : (t e a l r : Bool) → (t && not e && (not a && not l && not r)) ≡ (not (not t || a) && not (e || l) && not r)
joined true true a l r = by (not a)
  where
    by : (s : Bool) → false ≡ (s && false && not r)
    by true = refl
    by false = refl
joined true false a l r = refl
joined false e a l r = refl

pub outline_of_orders : (x : Interchange) → is_order_outline x ≡ (not (has_acknowledgments x) && not (lacks_sets x) && not (has_set_twice x))
outline_of_orders x =
    ap (λ b. length x.tas == 0 && not (length x.groups == 0) && b) (groups_of_orders x.groups)
    ∙ joined (length x.tas == 0) (length x.groups == 0) (list_any group_is_acknowledgment x.groups) (list_any (λ g. length g.sets == 0) x.groups) (list_any (λ g. not (are_new_numbers g.sets)) x.groups)

-- Prepared bytes.

-- two tables whose rows have the same names are empty together
pub empty_together : (name : StationFault → Option StationRefusal) (fault : Option StationFault) (row : Option StationRefusal) (last : Bool)
    → option_map name fault ≡ option_map Some (row_or_spent row last) → (fault ≡ None) ↔ ((row ≡ None) × (last ≡ false))
empty_together name None None false e = (λ is. (refl, refl), λ is. refl)
empty_together name None None true e = absurd cc
empty_together name None (Some r) last e = absurd cc
empty_together name (Some f) None false e = absurd cc
empty_together name (Some f) None true e = neither (some_row f) (λ p. let no : true ≡ false = p.1 in cc)
empty_together name (Some f) (Some r) last e = neither (some_row f) (λ p. some_row r p.0)

-- by what is said of ISA and of the outline
abbrev names : Option SubmitFault → Bool → Option StationRefusal → Type 0
names fault last row = option_map row_of_fault (option_or (option_map fault_of_submitting fault) (item_fault last)) ≡ option_map Some (row_or_spent row last)

outline_rows : (a l t n new last q : Bool) → q ≡ (not a && not l && not t) → (a ≡ false → n ≡ new)
    → names (option_or (first_of_rows ((a, submit.Acknowledgments) ∷ (l, submit.Empty) ∷ (t, submit.SetTwice) ∷ [])) (first_of_rows ((not n, submit.NotNew) ∷ []))) last
    (first_of_rows ((not q, refusal.NotSubmission) ∷ (not new, refusal.NotNew) ∷ []))
outline_rows true l t n new last q is alike = rw is (by (not l) (not t))
  where
    by : (x y : Bool) → names (Some submit.Acknowledgments) last (first_of_rows ((not (false && x && y), refusal.NotSubmission) ∷ (not new, refusal.NotNew) ∷ []))
    by true y = refl
    by false y = refl
outline_rows false true t n new last q is alike = rw is refl
outline_rows false false true n new last q is alike = rw is refl
outline_rows false false false n new last q is alike = rw (is, alike refl) (by new last)
  where
    by : (new last : Bool) → names (first_of_rows ((not new, submit.NotNew) ∷ [])) last (first_of_rows ((not new, refusal.NotNew) ∷ []))
    by false last = refl
    by true true = refl
    by true false = refl

parties_rows : (m o : Bool) (rest : Option SubmitFault) (more : Option StationRefusal) (last : Bool) → names rest last more
    → names (option_or (first_of_rows ((not m, submit.NotMine) ∷ (o, submit.OwnAddress) ∷ [])) rest) last (if not m then Some refusal.NotMine else (if o then Some refusal.OwnAddress else more))
parties_rows false o rest more last same = refl
parties_rows true true rest more last same = refl
parties_rows true false rest more last same = same

module _ (s : Station) (x : Bytes) where
  abbrev behind : Option StationRefusal
  behind = first_of_rows ((not (x12.is_submission x), refusal.NotSubmission) ∷ (not (are_new s.book (x12.number x ∷ []) (x12.groups x)), refusal.NotNew) ∷ [])

  unread : (h : Header) → header_of x ≡ Ok h → (f : OutlineFault) → outline_of h.delims x ≡ Err f → names (outline_fault s.book h (Err f)) (has_no_item_left s) behind
  unread h is f there = rw (field.never_submitted x h is f there) refl

  -- where none of its groups is one of acknowledgments, all have numbers
  numbers_alike : (h : Header) (o : Interchange) → has_acknowledgments o ≡ false → are_new s.book (h.icn ∷ []) (numbers_of_groups o) ≡ are_new s.book (h.icn ∷ []) (group_numbers o)
  numbers_alike h o none = ap (are_new s.book (h.icn ∷ [])) (sym (all_numbers o.groups (or_parts (not (length o.tas == 0)) (list_any group_is_acknowledgment o.groups) none).1))

  read : (h : Header) → header_of x ≡ Ok h → (o : Interchange) → outline_of h.delims x ≡ Ok o → names (outline_fault s.book h (Ok o)) (has_no_item_left s) behind
  read h is o there =
      rw (field.groups_are x h is o there, field.number_is x h is)
      (outline_rows (has_acknowledgments o) (lacks_sets o) (has_set_twice o) (are_new s.book (h.icn ∷ []) (numbers_of_groups o)) (are_new s.book (h.icn ∷ []) (group_numbers o)) (has_no_item_left s) (x12.is_submission x)
      (field.is_submission_is x h is o there ∙ outline_of_orders o) (numbers_alike h o))

  outlined : (h : Header) → header_of x ≡ Ok h → (r : Result Interchange OutlineFault) → outline_of h.delims x ≡ r → names (outline_fault s.book h r) (has_no_item_left s) behind
  outlined h is (Ok o) there = read h is o there
  outlined h is (Err f) there = unread h is f there

  by_header : (r : Result Header HeaderFault) → header_of x ≡ r → names (isa_fault s.me s.book x r) (has_no_item_left s) (prepared_refusal x12 s x)
  by_header (Ok h) is =
      rw (field.has_header_is x h is, field.sender_is x h is, field.receiver_is x h is)
      (parties_rows (is_same_party h.sender s.me) (is_same_party h.receiver s.me) (outline_fault s.book h (outline_of h.delims x)) behind (has_no_item_left s) (outlined h is (outline_of h.delims x) refl))
  by_header (Err f) is = unheard (x12.has_header x) refl
    where
      unheard : (t : Bool) → x12.has_header x ≡ t → names (Some (submit.BadHeader f)) (has_no_item_left s) (prepared_refusal x12 s x)
      unheard true e = let found = field.header_known x e in absurd (let no : Ok found.0 ≡ Err f = sym found.1 ∙ is in cc)
      unheard false e = rw e refl

pub prepared_table : PreparedTable
unfolding prepared_fault submit_fault
prepared_table s x = by_header s x (header_of x) refl

pub prepared_empty : (s : Station) (x : Bytes) → (prepared_fault s x ≡ None) ↔ ((prepared_refusal x12 s x ≡ None) × (has_no_item_left s ≡ false))
prepared_empty s x = empty_together row_of_fault (prepared_fault s x) (prepared_refusal x12 s x) (has_no_item_left s) (prepared_table s x)
