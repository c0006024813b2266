-- What is posted of an arrival, the sets that its verdict accepts, is what the history posts of it: the sets that its kept reply accepts, in their order.
use Rattle.std.specs.Prelude.{◌≡◌, ℕ, ◌+◌, ◌≤◌, ◌<◌, List, [], ◌∷◌, ◌++◌, Bool, true, false, ◌&&◌, ◌==◌, not, cond, if◌then◌else◌, map, filter, flat_map, Option, Some, None, Result, Ok, Err, is_some, refl}
use Rattle.std.specs.List.{enumerate_from}
use native.Mathlib.Omega.{arith}
use mathlib.Core.Path.{sym, ap, ap₂, ◌∙◌}
use Rattle.std.proofs.lemmas.List.Folds.{list_any-append}
use Rattle.std.proofs.lemmas.List.Elements.{filter-append}
use Rattle.std.proofs.lemmas.List.{map-append}
use Rattle.std.proofs.Common.{le_refl}
use Rattle.x12_envelopes.specs.declared.header.Header.{Header}
use Rattle.x12_envelopes.specs.declared.party.Party.{Party}
use Rattle.x12_envelopes.specs.declared.shape.OutlineFault.{OutlineFault}
use Rattle.x12_envelopes.specs.Header.{header_of}
use Rattle.x12_envelopes.specs.Outline.{outline_of}
use Rattle.x12_envelopes.specs.Shape.{Interchange, FunctionalGroup, TransactionSet as ReadSet}
use Rattle.x12_judge.specs.Agreement.{TradingAgreement}
use Rattle.x12_judge.specs.Group.{FunctionalGroupVerdict, verdict_of_group, verdicts_of_sets, refusal_of_group}
use Rattle.x12_judge.specs.Interchange.{note_of_interchange}
use Rattle.x12_judge.specs.Set.{TransactionSetVerdict, set_is_accepted, verdict_of_set}
use Rattle.x12_judge.specs.Verdict.{InterchangeVerdict, verdict_by, verdicts_of_groups, judgement_of, group_is_acknowledgment}
use Rattle.x12_acks.specs.Accepted.{AcceptedSet, judged_set, accepted_in_group, accepted_by_verdict, noted_by_verdict, sets_by_verdict}
use Rattle.x12_acks.specs.Told.{is_among, result_if}
use Rattle.x12_profile.specs.Interchange.{Bytes, PlacedTransactionSet}
use Rattle.x12_profile.specs.Laws.{IsReply, Laws}
use Rattle.x12_profile.specs.declared.edition.Edition.{Edition}
use Rattle.x12_profile.specs.Edition.{controls_of}
use Rattle.x12_judge.specs.Set.{takes}
use Rattle.x12_profile.specs.X12.{x12, judged_by, result_at, sets_of_group}
use Rattle.x12_profile.proofs.FieldLemmas as field
use Rattle.x12_station.specs.History.{Came, posted_by, posting_of}
use Rattle.std.proofs.lemmas.Bool.{and_right}
use Rattle.x12_numbers.proofs.Shelf.{eq_itself, greater_differs, less_differs, or_false_left, or_false_right}

-- the sets at places that pass
abbrev passing : (ℕ → ℕ → Bool) → List PlacedTransactionSet → List PlacedTransactionSet
passing f sets = filter (λ s. f s.place.group s.place.set) sets

none_passing : (f : ℕ → ℕ → Bool) (group m : ℕ) (functional : List ℕ) (ss : List ReadSet) → ((j : ℕ) → f group j ≡ false)
    → passing f (map (λ s. record { place = record { group = group; set = s.0 }; functional = functional; set = s.1.set; number = s.1.number; bytes = s.1.bytes }) (enumerate_from m ss)) ≡ []
none_passing f group m functional [] none = refl
none_passing f group m functional (s ∷ ss) none = rw (none m) (none_passing f group (m + 1) functional ss none)

-- Within a group.

abbrev kept_from : ℕ → List TransactionSetVerdict → List (ℕ × TransactionSetVerdict)
kept_from m vs = filter (λ p. set_is_accepted p.1) (enumerate_from m vs)

-- a set of the group at this place, with its own place
abbrev placed_at : ℕ → List ℕ → ℕ × ReadSet → PlacedTransactionSet
placed_at group functional s = record { place = record { group = group; set = s.0 }; functional = functional; set = s.1.set; number = s.1.number; bytes = s.1.bytes }

module _ (sender : Party) (icn : ℕ) (b : Bytes) (sender_is : x12.sender b ≡ sender) (icn_is : x12.number b ≡ icn) where
  module _ (g : FunctionalGroupVerdict) where
    abbrev placed : List (ℕ × TransactionSetVerdict) → List AcceptedSet
    placed ps = map (judged_set sender icn g) ps

    one_past : (j m : ℕ) (t : Bool) (v : TransactionSetVerdict) (ps : List (ℕ × TransactionSetVerdict)) → m < j → is_among (placed (cond t ((m, v) ∷ ps) ps)) g.place j ≡ is_among (placed ps) g.place j
    one_past j m true v ps lt = or_false_left _ _ (and_right (g.place == g.place) (m == j) (less_differs m j lt))
    one_past j m false v ps lt = refl

    sets_later : (j m : ℕ) (vs : List TransactionSetVerdict) → j < m → is_among (placed (kept_from m vs)) g.place j ≡ false
    sets_later j m [] lt = refl
    sets_later j m (v ∷ vs) lt = by (set_is_accepted v) (sets_later j (m + 1) vs (omega arith))
      where
        by : (t : Bool) → is_among (placed (kept_from (m + 1) vs)) g.place j ≡ false → is_among (placed (cond t ((m, v) ∷ kept_from (m + 1) vs) (kept_from (m + 1) vs))) g.place j ≡ false
        by true rest = rw (and_right (g.place == g.place) (m == j) (greater_differs j m lt)) rest
        by false rest = rest

    one_here : (m : ℕ) (t : Bool) (v : TransactionSetVerdict) (ps : List (ℕ × TransactionSetVerdict)) → is_among (placed ps) g.place m ≡ false → is_among (placed (cond t ((m, v) ∷ ps) ps)) g.place m ≡ t
    one_here m true v ps rest = rw (eq_itself g.place, eq_itself m) refl
    one_here m false v ps rest = rest

    of_other : (i j : ℕ) (ps : List (ℕ × TransactionSetVerdict)) → (g.place == i) ≡ false → is_among (placed ps) i j ≡ false
    of_other i j [] apart = refl
    of_other i j (p ∷ ps) apart = rw apart (of_other i j ps apart)

    other_group : (i j : ℕ) → (g.place == i) ≡ false → is_among (accepted_in_group sender icn g) i j ≡ false
    other_group i j apart = of_other i j (kept_from 1 g.sets) apart

    -- a set as it is posted, and as its verdict has it
    posted_as : (V : ℕ × ReadSet → TransactionSetVerdict) (m n : ℕ) (s : ReadSet) → (V (n, s)).set ≡ s.set → (V (n, s)).number ≡ s.number → (V (n, s)).bytes ≡ s.bytes
        → posting_of x12 b (placed_at g.place g.functional (m, s)) ≡ judged_set sender icn g (m, V (n, s))
    posted_as V m n s set number bytes = rw (sender_is, icn_is, set, number, bytes) refl

    -- the verdicts are of the sets
    abbrev AreOf : (ℕ × ReadSet → TransactionSetVerdict) → Type 0
    AreOf V = (n : ℕ) (s : ReadSet) → ((V (n, s)).set ≡ s.set) × ((V (n, s)).number ≡ s.number) × ((V (n, s)).bytes ≡ s.bytes)

    sets_posted : (f : ℕ → ℕ → Bool) (V : ℕ × ReadSet → TransactionSetVerdict) → AreOf V → (m n : ℕ) (ss : List ReadSet)
        → ((j : ℕ) → m ≤ j → f g.place j ≡ is_among (placed (kept_from m (map V (enumerate_from n ss)))) g.place j)
        → map (posting_of x12 b) (passing f (map (placed_at g.place g.functional) (enumerate_from m ss))) ≡ placed (kept_from m (map V (enumerate_from n ss)))
    sets_posted f V of m n [] is = refl
    sets_posted f V of m n (s ∷ ss) is =
        let v = V (n, s) in
        let vs = map V (enumerate_from (n + 1) ss) in
        let first : f g.place m ≡ set_is_accepted v = is m (le_refl m) ∙ one_here m (set_is_accepted v) v (kept_from (m + 1) vs) (sets_later m (m + 1) vs (omega arith)) in
        let rest = sets_posted f V of (m + 1) (n + 1) ss (λ j le. is j (omega (arith, le)) ∙ one_past j m (set_is_accepted v) v (kept_from (m + 1) vs) (omega (arith, le))) in
        let its = of n s in
        rw first (by (set_is_accepted v) (posted_as V m n s its.0 its.1 its.2) rest)
      where
        by : (t : Bool) → posting_of x12 b (placed_at g.place g.functional (m, s)) ≡ judged_set sender icn g (m, V (n, s))
            → map (posting_of x12 b) (passing f (map (placed_at g.place g.functional) (enumerate_from (m + 1) ss))) ≡ placed (kept_from (m + 1) (map V (enumerate_from (n + 1) ss)))
            → map (posting_of x12 b) (cond t (placed_at g.place g.functional (m, s) ∷ passing f (map (placed_at g.place g.functional) (enumerate_from (m + 1) ss))) (passing f (map (placed_at g.place g.functional) (enumerate_from (m + 1) ss))))
            ≡ placed (cond t ((m, V (n, s)) ∷ kept_from (m + 1) (map V (enumerate_from (n + 1) ss))) (kept_from (m + 1) (map V (enumerate_from (n + 1) ss))))
        by true one rest = ap₂ (λ (p : AcceptedSet) (ps : List AcceptedSet). p ∷ ps) one rest
        by false one rest = rest

    sets_by : (f : ℕ → ℕ → Bool) (V : ℕ × ReadSet → TransactionSetVerdict) → AreOf V → (ss : List ReadSet) (refused : Bool)
        → ((j : ℕ) → f g.place j ≡ is_among (placed (kept_from 1 (if refused then [] else map V (enumerate_from 0 ss)))) g.place j)
        → map (posting_of x12 b) (passing f (map (placed_at g.place g.functional) (enumerate_from 1 ss))) ≡ placed (kept_from 1 (if refused then [] else map V (enumerate_from 0 ss)))
    sets_by f V of ss true is = ap (map (posting_of x12 b)) (none_passing f g.place 1 g.functional ss is)
    sets_by f V of ss false is = sets_posted f V of 1 0 ss (λ j le. is j)

  -- Between groups.

  module _ (h : Header) (a : List TradingAgreement) where
    abbrev judged_at : ℕ × FunctionalGroup → FunctionalGroupVerdict
    judged_at place = verdict_of_group a h.sender h.delims place.0 place.1

    abbrev accepted_at : ℕ × FunctionalGroup → List AcceptedSet
    accepted_at place = accepted_in_group sender icn (judged_at place)

    place_is : (n : ℕ) (g : FunctionalGroup) → (judged_at (n, g)).place ≡ n
    unfolding verdict_of_group
    place_is n g = refl

    one_group : (f : ℕ → ℕ → Bool) (n : ℕ) (g : FunctionalGroup) → ((j : ℕ) → f n j ≡ is_among (accepted_at (n, g)) n j)
        → map (posting_of x12 b) (passing f (sets_of_group (n, g))) ≡ accepted_at (n, g)
    unfolding verdict_of_group verdicts_of_sets verdict_of_set
    one_group f n g is = sets_by (judged_at (n, g)) f _ (λ m s. (refl, refl, refl)) g.sets (is_some (refusal_of_group a h.sender g)) is

    abbrev is_judged : ℕ × FunctionalGroup → Bool
    is_judged place = not (group_is_acknowledgment place.1)

    abbrev accepted_from : ℕ → List FunctionalGroup → List AcceptedSet
    accepted_from n gs = flat_map (accepted_in_group sender icn) (map judged_at (filter is_judged (enumerate_from n gs)))

    own_none : (n i j : ℕ) (g : FunctionalGroup) → (n == i) ≡ false → is_among (accepted_at (n, g)) i j ≡ false
    own_none n i j g apart = other_group (judged_at (n, g)) i j (ap (λ m. m == i) (place_is n g) ∙ apart)

    -- what one group more adds
    abbrev with_group : ℕ → FunctionalGroup → Bool → List (ℕ × FunctionalGroup) → List AcceptedSet
    with_group n g t rest = flat_map (accepted_in_group sender icn) (map judged_at (cond t ((n, g) ∷ rest) rest))

    groups_later : (n i j : ℕ) (gs : List FunctionalGroup) → i < n → is_among (accepted_from n gs) i j ≡ false
    groups_later n i j [] lt = refl
    groups_later n i j (g ∷ gs) lt = by (is_judged (n, g)) (groups_later (n + 1) i j gs (omega arith))
      where
        by : (t : Bool) → is_among (accepted_from (n + 1) gs) i j ≡ false → is_among (with_group n g t (filter is_judged (enumerate_from (n + 1) gs))) i j ≡ false
        by true rest = list_any-append (λ s. (s.key.group == i) && (s.key.set == j)) (accepted_at (n, g)) (accepted_from (n + 1) gs) ∙ or_false_left _ _ (own_none n i j g (greater_differs i n lt)) ∙ rest
        by false rest = rest

    groups_posted : (f : ℕ → ℕ → Bool) (n : ℕ) (gs : List FunctionalGroup) → ((i j : ℕ) → n ≤ i → f i j ≡ is_among (accepted_from n gs) i j)
        → map (posting_of x12 b) (passing f (flat_map sets_of_group (enumerate_from n gs))) ≡ accepted_from n gs
    groups_posted f n [] is = refl
    groups_posted f n (g ∷ gs) is =
        ap (map (posting_of x12 b)) (filter-append (λ (s : PlacedTransactionSet). f s.place.group s.place.set) (sets_of_group (n, g)) (flat_map sets_of_group (enumerate_from (n + 1) gs)))
        ∙ map-append (posting_of x12 b) (passing f (sets_of_group (n, g))) (passing f (flat_map sets_of_group (enumerate_from (n + 1) gs)))
        ∙ by (is_judged (n, g)) is (λ more. groups_posted f (n + 1) gs more)
      where
        by : (t : Bool) → ((i j : ℕ) → n ≤ i → f i j ≡ is_among (with_group n g t (filter is_judged (enumerate_from (n + 1) gs))) i j)
            → (((i j : ℕ) → n + 1 ≤ i → f i j ≡ is_among (accepted_from (n + 1) gs) i j) → map (posting_of x12 b) (passing f (flat_map sets_of_group (enumerate_from (n + 1) gs))) ≡ accepted_from (n + 1) gs)
            → map (posting_of x12 b) (passing f (sets_of_group (n, g))) ++ map (posting_of x12 b) (passing f (flat_map sets_of_group (enumerate_from (n + 1) gs))) ≡ with_group n g t (filter is_judged (enumerate_from (n + 1) gs))
        by true is more =
            ap₂ (λ (x y : List AcceptedSet). x ++ y)
            (one_group f n g (λ j. is n j (le_refl n) ∙ list_any-append (λ s. (s.key.group == n) && (s.key.set == j)) (accepted_at (n, g)) (accepted_from (n + 1) gs) ∙ or_false_right _ _ (groups_later (n + 1) n j gs (omega arith))))
            (more (λ i j le. is i j (omega (arith, le)) ∙ list_any-append (λ s. (s.key.group == i) && (s.key.set == j)) (accepted_at (n, g)) (accepted_from (n + 1) gs) ∙ or_false_left _ _ (own_none n i j g (less_differs n i (omega (arith, le))))))
        by false is more =
            ap₂ (λ (x y : List AcceptedSet). x ++ y)
            (ap (map (posting_of x12 b)) (none_passing f n 1 g.functional g.sets (λ j. is n j (le_refl n) ∙ groups_later (n + 1) n j gs (omega arith))))
            (more (λ i j le. is i j (omega (arith, le))))

-- nothing passes where nothing is accepted
none_at_all : (post : PlacedTransactionSet → AcceptedSet) (sets : List PlacedTransactionSet) → map post (filter (λ s. false) sets) ≡ []
none_at_all post [] = refl
none_at_all post (s ∷ sets) = none_at_all post sets

same_filter : (f g : PlacedTransactionSet → Bool) → ((s : PlacedTransactionSet) → f s ≡ g s) → (sets : List PlacedTransactionSet) → filter f sets ≡ filter g sets
same_filter f g alike [] = refl
same_filter f g alike (s ∷ sets) = ap₂ (λ (t : Bool) (l : List PlacedTransactionSet). cond t (s ∷ l) l) (alike s) (same_filter f g alike sets)

-- what is accepted is taken
takes_if : (n t : Bool) → takes (result_if n t) ≡ t
takes_if true true = refl
takes_if false true = refl
takes_if n false = refl

module _ (me : Party) (a : List TradingAgreement) (b : Bytes) (h : Header) (known : header_of b ≡ Ok h) where
  abbrev verdict_by_edition : Edition → InterchangeVerdict
  verdict_by_edition ed = (judged_by ed me a h b).verdict

  -- the sets that stand among the accepted are the accepted
  abbrev AreAccepted : List PlacedTransactionSet → InterchangeVerdict → Type 0
  AreAccepted sets v = map (posting_of x12 b) (passing (is_among (accepted_by_verdict h.sender h.icn v)) sets) ≡ accepted_by_verdict h.sender h.icn v

  of_groups : (note : Option ℕ) (gs : List FunctionalGroup) → AreAccepted (flat_map sets_of_group (enumerate_from 1 gs)) (verdict_by note (map (judged_at h.sender h.icn b (field.sender_is b h known) (field.number_is b h known) h a) (filter (λ place. not (group_is_acknowledgment place.1)) (enumerate_from 1 gs))))
  unfolding sets_by_verdict
  of_groups (Some note) gs = none_at_all (posting_of x12 b) (flat_map sets_of_group (enumerate_from 1 gs))
  of_groups None gs =
      groups_posted h.sender h.icn b (field.sender_is b h known) (field.number_is b h known) h a
      (is_among (accepted_from h.sender h.icn b (field.sender_is b h known) (field.number_is b h known) h a 1 gs)) 1 gs (λ i j le. refl)

  no_groups : (note : Option ℕ) → AreAccepted [] (verdict_by note [])
  unfolding sets_by_verdict
  no_groups (Some note) = refl
  no_groups None = refl

  module _ (ed : Edition) where
    verdict_posts : AreAccepted (x12.sets b) (verdict_by_edition ed)
    unfolding judgement_of verdicts_of_groups
    verdict_posts = by (outline_of h.delims b) refl
      where
        by : (r : Result Interchange OutlineFault) → outline_of h.delims b ≡ r → AreAccepted (x12.sets b) (verdict_by_edition ed)
        by (Ok o) there = rw (field.sets_are b h known o there, there) (of_groups (note_of_interchange (controls_of ed) me h (Ok o)) o.groups)
        by (Err f) there = rw (field.no_sets b h known f there, there) (no_groups (note_of_interchange (controls_of ed) me h (Err f)))

    -- the sets that stand among those
    abbrev noted_here : PlacedTransactionSet → Bool
    noted_here s = is_among (noted_by_verdict h.sender h.icn (verdict_by_edition ed)) s.place.group s.place.set

    abbrev accepted_here : PlacedTransactionSet → Bool
    accepted_here s = is_among (accepted_by_verdict h.sender h.icn (verdict_by_edition ed)) s.place.group s.place.set

  -- what the history posts of an arrival with its reply is what the verdict of that reply's edition accepts
  pub reply_posts : (ed : Edition) → Laws x12 → (r : Bytes) (reply : IsReply x12 me a b r) → posted_by x12 (Came ed b (Some r)) ≡ accepted_by_verdict h.sender h.icn (verdict_by_edition reply.edition)
  reply_posts ed laws r reply =
      ap (map (posting_of x12 b)) (same_filter (λ s. takes (x12.result b r s.place)) (accepted_here reply.edition) (λ s. ap takes (laws.reply.result me a b r reply s.place ∙ field.verdict_is b h known reply.edition me a s.place)
      ∙ takes_if (noted_here reply.edition s) (accepted_here reply.edition s)) (x12.sets b))
      ∙ verdict_posts reply.edition
