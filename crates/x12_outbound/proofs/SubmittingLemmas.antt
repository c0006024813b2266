-- What is submitted is read, and refused by the first row that holds.
use Rattle.std.specs.Prelude.{◌≡◌, List, [], ◌∷◌, Bool, true, false, not, ◌||◌, map, Option, Some, None, Result, Ok, Err, IfErr, refl}
use Rattle.std.specs.List.{list_any}
use Rattle.std.specs.Option.{option_or}
use Rattle.std.specs.Result.{IsErrAnd}
use mathlib.Core.Path.{sym, ap, ap₂, ◌∙◌}
use Rattle.x12_numbers.specs.Book.{Numbers, are_new}
use Rattle.x12_envelopes.specs.declared.delimiters.Delims.{Delims}
use Rattle.x12_envelopes.specs.declared.header.Header.{Header}
use Rattle.x12_envelopes.specs.declared.header.HeaderFault.{HeaderFault}
use Rattle.x12_envelopes.specs.declared.party.Party.{Party}
use Rattle.x12_envelopes.specs.declared.shape.GroupView.{GroupView}
use Rattle.x12_envelopes.specs.Header.{header_of}
use Rattle.x12_envelopes.specs.Outline.{outline_of}
use Rattle.x12_envelopes.specs.Row.{first_of_rows}
use Rattle.x12_envelopes.specs.Shape.{Interchange, FunctionalGroup, group_view}
use Rattle.x12_judge.specs.Agreement.{is_same_party}
use Rattle.x12_profile.specs.Interchange.{Bytes}
use Rattle.x12_outbound.specs.declared.submitting.SubmitFault.{SubmitFault}
use Rattle.x12_outbound.specs.declared.submitting.SubmitFault.TheVariants.{OwnAddress, Empty, BadHeader, NotMine, Acknowledgments, SetTwice, NotNew, Memory}
use Rattle.x12_outbound.specs.Submitting.{IsSubmitRefusal, contents_fault, has_acknowledgments, has_set_twice, isa_fault, lacks_sets, book_fault, numbers_of_groups, outline_fault, parties_fault, submit_fault}

pub any_same : {X : Type 0} (f g : X → Bool) (xs : List X) → ((x : X) → f x ≡ g x) → list_any f xs ≡ list_any g xs
any_same f g [] same = refl
any_same f g (x ∷ xs) same = ap₂ (λ a b. a || b) (same x) (any_same f g xs same)

-- an error that is handed on
pub handed : {A E F : Type 0} (r : Result A F) (e : E) (P : F → Type 0) (Gives : E → F → Type 0) → ((f : F) → Gives e f → P f) → IsErrAnd r (Gives e) → IfErr r P
handed (Ok x) e P Gives same is = tt
handed (Err f) e P Gives same is = same f is

-- a table whose rows stand in another
pub along : (one other : Option SubmitFault) → ((g : SubmitFault) → one ≡ Some g → other ≡ Some g) → (f : SubmitFault) → IsSubmitRefusal one f → IsSubmitRefusal other f
along one other rows Memory h = tt
along one other rows f h = rows f h

or_first : (one rest : Option SubmitFault) (g : SubmitFault) → one ≡ Some g → option_or one rest ≡ Some g
or_first one rest g is = rw is refl

or_second : (one rest : Option SubmitFault) → one ≡ None → option_or one rest ≡ rest
or_second one rest is = rw is refl

-- no row on what the interchange holds
pub contents_none : (x : Interchange) → contents_fault x ≡ None → (has_acknowledgments x ≡ false) × (lacks_sets x ≡ false) × (has_set_twice x ≡ false)
contents_none x none = by (has_acknowledgments x) (lacks_sets x) (has_set_twice x) none
  where
    by : (a l t : Bool) → first_of_rows ((a, Acknowledgments) ∷ (l, Empty) ∷ (t, SetTwice) ∷ []) ≡ None → (a ≡ false) × (l ≡ false) × (t ≡ false)
    by true l t e = absurd cc
    by false true t e = absurd cc
    by false false true e = absurd cc
    by false false false e = (refl, refl, refl)

-- the numbers of groups, by what they stand for
pub viewed_numbers : (d : Delims) (gs : List GroupView) → map (λ (g : FunctionalGroup). g.number) (map (group_view d) gs) ≡ map (λ g. g.number) gs
viewed_numbers d [] = refl
viewed_numbers d (g ∷ gs) = ap (λ l. g.number ∷ l) (viewed_numbers d gs)

-- numbers that are new have no row
numbers_none : (new : Bool) → new ≡ true → first_of_rows ((not new, NotNew) ∷ []) ≡ None
numbers_none new is = rw is refl

module _ (me : Party) (book : Numbers) (x : Bytes) where
  pub by_header : (f : HeaderFault) → header_of x ≡ Err f → submit_fault me book x ≡ Some (BadHeader f)
  unfolding submit_fault
  by_header f is = rw is refl

  module _ (h : Header) (is : header_of x ≡ Ok h) where
    pub by_parties : (g : SubmitFault) → parties_fault me h ≡ Some g → submit_fault me book x ≡ Some g
    unfolding submit_fault
    by_parties g row = rw is (or_first (parties_fault me h) (outline_fault book h (outline_of h.delims x)) g row)

    module _ (apart : parties_fault me h ≡ None) where
      pub behind : submit_fault me book x ≡ outline_fault book h (outline_of h.delims x)
      unfolding submit_fault
      behind = rw is (or_second (parties_fault me h) (outline_fault book h (outline_of h.delims x)) apart)

      module _ (o : Interchange) (there : outline_of h.delims x ≡ Ok o) where
        inside : submit_fault me book x ≡ option_or (contents_fault o) (book_fault book h o)
        inside = behind ∙ ap (outline_fault book h) there

        pub by_contents : (g : SubmitFault) → contents_fault o ≡ Some g → submit_fault me book x ≡ Some g
        by_contents g row = inside ∙ or_first (contents_fault o) (book_fault book h o) g row

        module _ (full : contents_fault o ≡ None) where
          pub by_numbers : (g : SubmitFault) → book_fault book h o ≡ Some g → submit_fault me book x ≡ Some g
          by_numbers g row = inside ∙ or_second (contents_fault o) (book_fault book h o) full ∙ row

          pub allowed : are_new book (h.icn ∷ []) (numbers_of_groups o) ≡ true → submit_fault me book x ≡ None
          allowed new = inside ∙ or_second (contents_fault o) (book_fault book h o) full ∙ numbers_none (are_new book (h.icn ∷ []) (numbers_of_groups o)) new

-- What may be submitted has none of these rows.
none_of : (one rest : Option SubmitFault) → option_or one rest ≡ None → (one ≡ None) × (rest ≡ None)
none_of None rest e = (refl, e)
none_of (Some g) rest e = absurd cc

parties_apart : (m o : Bool) → first_of_rows ((not m, NotMine) ∷ (o, OwnAddress) ∷ []) ≡ None → (m ≡ true) × (o ≡ false)
parties_apart true true e = absurd cc
parties_apart true false e = (refl, refl)
parties_apart false o e = absurd cc

pub apart_parties : (me : Party) (h : Header) → parties_fault me h ≡ None → (is_same_party h.sender me ≡ true) × (is_same_party h.receiver me ≡ false)
apart_parties me h none = parties_apart (is_same_party h.sender me) (is_same_party h.receiver me) none

pub inside_none : (me : Party) (book : Numbers) (x : Bytes) (h : Header) (o : Interchange) → header_of x ≡ Ok h → outline_of h.delims x ≡ Ok o → submit_fault me book x ≡ None
    → (parties_fault me h ≡ None) × (contents_fault o ≡ None)
unfolding submit_fault
inside_none me book x h o is there none =
    let outer = none_of (parties_fault me h) (outline_fault book h (outline_of h.delims x)) (sym (ap (isa_fault me book x) is) ∙ none) in
    (outer.0, (none_of (contents_fault o) (book_fault book h o) (sym (ap (outline_fault book h) there) ∙ outer.1)).0)
