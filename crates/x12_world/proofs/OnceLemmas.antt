-- Each submitted set has a key of its own.
use Rattle.std.specs.Prelude.{◌≡◌, ◌≢◌, zero, suc, ◌<◌, List, [], ◌∷◌, ◌++◌, Bool, true, false, Some, Contains, AllPairs, refl, filter, map, flat_map}
use mathlib.Core.Path.{sym, ap, subst, ◌∙◌}
use mathlib.Core.Logic.{inl, inr}
use native.Mathlib.Omega.{arith}
use lib.ListN.{get_or}
use Rattle.std.proofs.lemmas.Option.{slice_get-get_or}
use Rattle.std.proofs.lemmas.List.Kept.{AllPairs-cons}
use Rattle.std.proofs.lemmas.List.Elements.{All-append, All-contains, All-contains_itself}
use Rattle.x12_acks.specs.Submission.{TransactionSetKey}
use Rattle.x12_profile.specs.Interchange.{Bytes, PlacedTransactionSet, is_place}
use Rattle.x12_profile.specs.Profile.{Profile}
use Rattle.x12_profile.specs.Laws.{Laws}
use Rattle.x12_station.specs.History.{Item, submissions}
use Rattle.x12_station.specs.Key.{OwnSet, own_sets, own_key, own_keys}
use Rattle.x12_station.specs.Station.{Station}
use Rattle.x12_core.specs.Node.{Node, IsHub, IsStation}
use Rattle.x12_world.specs.Network.{Network}
use Rattle.x12_world.specs.World.{World, StationAt}
use Rattle.x12_world.proofs.NodesLemmas.{listed_at}
use Rattle.x12_world.specs.Audit.{station_in, stations_of, keys_of}
use Rattle.x12_station.proofs.ListLemmas.{contains_map, contains_flat_map}
use Rattle.x12_numbers.proofs.Shelf.{none_in_nil, contains_cons, contains_head, contains_tail, all_from_contains, some_inj, contains_in_filter}
use Rattle.x12_world.proofs.WorldLemmas.{Sound, trace_of}
use Rattle.x12_world.proofs.LearntLemmas.{name_at, items_at}
use Rattle.x12_world.proofs.KeyLemmas.{false_true, own, own_from, same_place, sent_ok, station_node}
use Rattle.x12_station.proofs.HistoryLemmas.{is_place_itself}
use Rattle.x12_world.proofs.RiseLemmas.{NumbersRise, AllRise}

module _ {X : Type 0} (R : X → X → Type 0) where
  pairs_append : (xs ys : List X) → AllPairs R xs → AllPairs R ys → ((x y : X) → Contains xs x → Contains ys y → R x y) → AllPairs R (xs ++ ys)
  pairs_append [] ys first second cross = second
  pairs_append (x ∷ xs) ys first second cross = AllPairs-cons R x (xs ++ ys)
      (All-append (R x) xs ys (λ k d within. first zero (suc k) d (omega arith) (omega arith)) (all_from_contains (R x) ys (λ y h. cross x y (contains_head x xs) h)))
      (pairs_append xs ys (λ i j d below within. first (suc i) (suc j) d (omega arith) (omega arith)) second (λ a b ha hb. cross a b (contains_tail a x xs ha) hb))

  pairs_map : {Y : Type 0} (f : Y → X) (ys : List Y) → AllPairs (λ a b. R (f a) (f b)) ys → AllPairs R (map f ys)
  pairs_map f [] pairs = λ i j d below within. absurd (omega arith)
  pairs_map f (y ∷ ys) pairs = AllPairs-cons R (f y) (map f ys)
      (all_from_contains (R (f y)) (map f ys) (λ x h. let from = contains_map f ys x h in subst (R (f y)) from.2 (All-contains (λ z. R (f y) (f z)) ys from.0 (λ k d within. pairs zero (suc k) d (omega arith) (omega arith)) from.1)))
      (pairs_map f ys (λ i j d below within. pairs (suc i) (suc j) d (omega arith) (omega arith)))

  pairs_flat : {Y : Type 0} (f : Y → List X) (ys : List Y) → ((y : Y) → Contains ys y → AllPairs R (f y)) → AllPairs (λ a b. (x z : X) → Contains (f a) x → Contains (f b) z → R x z) ys → AllPairs R (flat_map f ys)
  pairs_flat f [] each cross = λ i j d below within. absurd (omega arith)
  pairs_flat {Y} f (y ∷ ys) each cross = pairs_append (f y) (flat_map f ys) (each y (contains_head y ys))
      (pairs_flat f ys (λ z h. each z (contains_tail z y ys h)) (λ i j d below within. cross (suc i) (suc j) d (omega arith) (omega arith)))
      (λ x z hx hz. let from = contains_flat_map f ys z hz in
      All-contains (λ (b : Y). (x z : X) → Contains (f y) x → Contains (f b) z → R x z) ys from.0 (λ k d within. cross zero (suc k) d (omega arith) (omega arith)) from.1 x z hx from.2)

  -- where each element stands
  pairs_with : (S : X → X → Type 0) (xs : List X) → ((a b : X) → Contains xs a → Contains xs b → S a b → R a b) → AllPairs S xs → AllPairs R xs
  pairs_with S xs f pairs i j d below within =
      f (get_or xs i d) (get_or xs j d) (All-contains_itself xs i d (omega arith)) (All-contains_itself xs j d within) (pairs i j d below within)

-- sets of which each is alone at its place
abbrev AreAlone : List PlacedTransactionSet → Type 0
AreAlone xs = (s : PlacedTransactionSet) → Contains xs s → filter (λ t. is_place s.place t.place) xs ≡ s ∷ []

-- the first is alone, so no other stands at its place
first_apart : (x : PlacedTransactionSet) (xs : List PlacedTransactionSet) → AreAlone (x ∷ xs) → (s : PlacedTransactionSet) → Contains xs s → is_place s.place x.place ≡ false
first_apart x xs alone s h = by (is_place s.place x.place) refl (alone s (contains_tail s x xs h))
  where
    two : (t : PlacedTransactionSet) (ts : List PlacedTransactionSet) → Contains ts t → x ∷ ts ≡ t ∷ [] → ⊥
    two t ts has e = none_in_nil t (subst (λ l. Contains l t) (ap tail_of e) has)
      where
        tail_of : List PlacedTransactionSet → List PlacedTransactionSet
        tail_of [] = []
        tail_of (y ∷ ys) = ys

    by : (b : Bool) → is_place s.place x.place ≡ b → filter (λ t. is_place s.place t.place) (x ∷ xs) ≡ s ∷ [] → is_place s.place x.place ≡ false
    by false is e = is
    by true is e = absurd (two s (filter (λ t. is_place s.place t.place) xs) (passes xs h) (rw is at e))
      where
        passes : (ys : List PlacedTransactionSet) → Contains ys s → Contains (filter (λ t. is_place s.place t.place) ys) s
        passes ys has = contains_in_filter (λ t. is_place s.place t.place) ys s has (is_place_itself s.place)

rest_alone : (x : PlacedTransactionSet) (xs : List PlacedTransactionSet) → AreAlone (x ∷ xs) → AreAlone xs
rest_alone x xs alone s h = let here = alone s (contains_tail s x xs h) in rw (first_apart x xs alone s h) at here

places_apart : (xs : List PlacedTransactionSet) → AreAlone xs → AllPairs (λ s t. s.place ≢ t.place) xs
places_apart [] alone = λ i j d below within. absurd (omega arith)
places_apart (x ∷ xs) alone = AllPairs-cons (λ (s t : PlacedTransactionSet). s.place ≢ t.place) x xs
    (all_from_contains (λ (t : PlacedTransactionSet). x.place ≢ t.place) xs (λ t h e. false_true (sym (first_apart x xs alone t h) ∙ (ap (is_place t.place) e ∙ is_place_itself t.place))))
    (places_apart xs (rest_alone x xs alone))

module _ (p : Profile) (laws : Laws p) where
  -- the keys of one history
  own_apart : (items : List Item) → NumbersRise p items → AllPairs (λ (j k : TransactionSetKey). j ≢ k) (own_keys p items)
  own_apart items rise = pairs_map (λ (j k : TransactionSetKey). j ≢ k) (own_key p) (own_sets p items)
      (pairs_flat (λ (c d : OwnSet). own_key p c ≢ own_key p d) (λ x. map (own x) (p.sets x)) (submissions items) (λ x h. in_one x)
      (λ i j d below within c e hc he. in_two (get_or (submissions items) i d) (get_or (submissions items) j d) c e hc he (rise i j d below within)))
    where
      in_one : (x : Bytes) → AllPairs (λ (c d : OwnSet). own_key p c ≢ own_key p d) (map (own x) (p.sets x))
      in_one x = pairs_map (λ (c d : OwnSet). own_key p c ≢ own_key p d) (own x) (p.sets x)
          (pairs_with (λ (s t : PlacedTransactionSet). own_key p (own x s) ≢ own_key p (own x t)) (λ (s t : PlacedTransactionSet). s.place ≢ t.place) (p.sets x)
          (λ s t hs ht apart same. apart (same_place s.place t.place (ap (λ k. k.group) same) (ap (λ k. k.set) same))) (places_apart (p.sets x) (λ s h. laws.submission.one_at_a_place x s h)))

      in_two : (x y : Bytes) (c d : OwnSet) → Contains (map (own x) (p.sets x)) c → Contains (map (own y) (p.sets y)) d → p.number x < p.number y → own_key p c ≢ own_key p d
      in_two x y c d hc hd below same =
          let c_is = contains_map (own x) (p.sets x) c hc in
          let d_is = contains_map (own y) (p.sets y) d hd in
          let number : p.number x ≡ p.number y = ap (λ z. p.number z.interchange) c_is.2 ∙ (ap (λ k. k.icn) same ∙ ap (λ z. p.number z.interchange) (sym d_is.2)) in
          absurd (omega arith)

station_is : (n : Node) (s : Station) → Contains (station_in n) s → n ≡ IsStation s
station_is (IsHub h) s has = none_in_nil s has
station_is (IsStation r) s has = elim (contains_cons s r [] has) [ inl same ↦ ap IsStation same | inr past ↦ none_in_nil s past ]

module _ (p : Profile) (laws : Laws p) (net : Network) (w : World) (was : Sound p net w) (rise : AllRise p (trace_of w)) where
  -- no two stations have one party
  names_differ : AllPairs (λ (r s : Station). r.me ≢ s.me) (stations_of w)
  names_differ = pairs_flat (λ (r s : Station). r.me ≢ s.me) station_in w.nodes.listed (λ n h. alone n) cross
    where
      alone : (n : Node) → AllPairs (λ (r s : Station). r.me ≢ s.me) (station_in n)
      alone (IsHub h) = λ i j d below within. absurd (omega arith)
      alone (IsStation s) = λ i j d below within. absurd (omega arith)

      cross : AllPairs (λ (n m : Node). (r s : Station) → Contains (station_in n) r → Contains (station_in m) s → r.me ≢ s.me) w.nodes.listed
      cross i j d below within r s hr hs same =
          let at_i : StationAt w i r = listed_at w.nodes was.few i (IsStation r) (slice_get-get_or w.nodes.listed i d (omega arith) ∙ ap Some (station_is (get_or w.nodes.listed i d) r hr)) in
          let at_j : StationAt w j s = listed_at w.nodes was.few j (IsStation s) (slice_get-get_or w.nodes.listed j d within ∙ ap Some (station_is (get_or w.nodes.listed j d) s hs)) in
          let one = was.holds.names_apart i j r.me (name_at p laws net w was i r at_i) (name_at p laws net w was j s at_j ∙ ap Some (sym same)) in
          absurd (omega arith)

  -- a key of a station's set has its party
  of_party : (s : Station) → Contains (stations_of w) s → (k : TransactionSetKey) → Contains (own_keys p s.items) k → k.sender ≡ s.me
  of_party s has k h =
      let node = station_node p laws net w was s has in
      let own_one = contains_map (own_key p) (own_sets p s.items) k h in
      let from = own_from p s.items own_one.0 own_one.1 in
      let ok = sent_ok p laws net w was node.0 s node.1 own_one.0.interchange from.0 in
      ap (λ z. z.sender) (sym own_one.2) ∙ some_inj (sym ok.by ∙ name_at p laws net w was node.0 s node.1)

  pub keys_once : AllPairs (λ (j k : TransactionSetKey). j ≢ k) (keys_of p w)
  keys_once = pairs_flat (λ (j k : TransactionSetKey). j ≢ k) (λ s. own_keys p s.items) (stations_of w)
      (λ s h. let node = station_node p laws net w was s h in own_apart p laws s.items (subst (NumbersRise p) (items_at p laws net w was node.0 s node.1) (rise node.0)))
      (pairs_with (λ (r s : Station). (j k : TransactionSetKey) → Contains (own_keys p r.items) j → Contains (own_keys p s.items) k → j ≢ k) (λ (r s : Station). r.me ≢ s.me) (stations_of w)
      (λ r s hr hs apart j k hj hk same. apart (sym (of_party r hr j hj) ∙ (ap (λ z. z.sender) same ∙ of_party s hs k hk))) names_differ)
