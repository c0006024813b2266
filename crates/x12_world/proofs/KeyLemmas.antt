-- Keys name one set each: what is asked by key is what is held.
use Rattle.std.specs.Prelude.{◌≡◌, ◌≢◌, AllPairs, ℕ, zero, suc, List, [], ◌∷◌, Bool, true, false, cond, find, Option, Some, None, Contains, refl, map, flat_map, is_some, option_map, option_and_then, slice_get, IsTrue}
use mathlib.Core.Path.{sym, ap, subst, ◌∙◌}
use mathlib.Core.Logic.{inl, inr}
use Rattle.x12_judge.specs.Agreement.{is_same_party}
use Rattle.x12_profile.proofs.PartyLemmas.{is_same_party-Decides}
use Rattle.x12_acks.proofs.ReplyGroupLemmas.{same_party_itself}
use Rattle.x12_profile.specs.Interchange.{Bytes, PlaceOfSet, PlacedTransactionSet, is_place}
use Rattle.x12_profile.specs.Profile.{Profile}
use Rattle.x12_profile.specs.Laws.{Laws}
use Rattle.x12_station.specs.History.{Item, submissions, fate_in, key_of}
use Rattle.x12_station.specs.Station.{Station}
use Rattle.x12_core.specs.Node.{Node, IsHub, IsStation}
use Rattle.x12_world.specs.Network.{Network}
use Rattle.x12_world.specs.Nodes.{node_at}
use Rattle.x12_world.proofs.NodesLemmas.{listed_at, at_listed, option_mapped}
use Rattle.x12_world.specs.World.{World, StationAt}
use Rattle.x12_world.specs.Held.{HoldsAs}
use Rattle.x12_station.specs.Key.{OwnSet, own_sets, own_key, own_set, own_fate, own_keys}
use Rattle.x12_world.specs.Audit.{station_in, stations_of, station_named, audit_of, audit, keys_of, KeysTell}
use Rattle.x12_station.proofs.ListLemmas.{contains_map, contains_flat_map, flat_map_contains, get_contains}
use Rattle.x12_numbers.proofs.Shelf.{none_in_nil, contains_cons, contains_head, contains_tail, contains_mapped, contains_in_filter, found_passes, some_inj}
use Rattle.x12_station.proofs.HistoryLemmas.{in_submissions, is_place_itself}
use Rattle.x12_world.proofs.Traces.{Trace, SentOk}
use Rattle.x12_world.proofs.WorldLemmas.{trace_of, Sound}
use Rattle.x12_world.proofs.LearntLemmas.{name_at, items_at}
use Rattle.x12_station.specs.StationStep.{fate_by_key}
use Rattle.x12_acks.specs.Key.{is_same_key}
use Rattle.x12_acks.specs.Submission.{TransactionSetKey}
use Rattle.x12_outbound.specs.declared.fate.Fate.{Fate}
use Rattle.x12_outbound.proofs.KeyLemmas.{key_itself}
use Rattle.x12_outbound.proofs.FirstEvidenceLemmas.{same_key}

pub false_true : false ≡ true → ⊥
false_true e = cc

module _ {X : Type 0} (test : X → Bool) where
  -- what alone passes is found
  pub find_only : (xs : List X) (x : X) → Contains xs x → test x ≡ true → ((y : X) → Contains xs y → test y ≡ true → y ≡ x) → find test xs ≡ Some x
  find_only [] x h is only = none_in_nil x h
  find_only (y ∷ xs) x h is only = by (test y) refl (λ later. find_only xs x later is (λ z more passes. only z (contains_tail z y xs more) passes))
    where
      by : (t : Bool) → test y ≡ t → (Contains xs x → find test xs ≡ Some x) → cond t (Some y) (find test xs) ≡ Some x
      by true passes rest = ap Some (only y (contains_head y xs) passes)
      by false fails rest = elim (contains_cons x y xs h) [
        | inl same ↦ absurd (false_true (sym fails ∙ (ap test same ∙ is)))
        | inr later ↦ rest later
      ]

pub same_place : (a b : PlaceOfSet) → a.group ≡ b.group → a.set ≡ b.set → a ≡ b
same_place a b g s = rw (g, s) refl

station_inj : {a b : Station} → IsStation a ≡ IsStation b → a ≡ b
station_inj e = cc

-- each station of a list of nodes is one of them
pub station_in_list : (ns : List Node) (s : Station) → Contains (flat_map station_in ns) s → (i : ℕ) × (slice_get ns i ≡ Some (IsStation s))
station_in_list [] s h = none_in_nil s h
station_in_list (IsHub k ∷ ns) s h = let rest = station_in_list ns s h in (suc rest.0, rest.1)
station_in_list (IsStation r ∷ ns) s h = elim (contains_cons s r (flat_map station_in ns) h) [
  | inl same ↦ (zero, ap (λ z. Some (IsStation z)) same)
  | inr later ↦ let rest = station_in_list ns s later in (suc rest.0, rest.1)
]

abbrev pub own : Bytes → PlacedTransactionSet → OwnSet
own x t = record { interchange = x; set = t }

module _ (p : Profile) where
  own_in : (items : List Item) (x : Bytes) (t : PlacedTransactionSet) → Contains (submissions items) x → Contains (p.sets x) t → Contains (own_sets p items) (record { interchange = x; set = t })
  own_in items x t h has = flat_map_contains (λ x. map (λ t. own x t) (p.sets x)) (submissions items) x (own x t) h (contains_mapped (own x) (p.sets x) t has)

  pub own_from : (items : List Item) (c : OwnSet) → Contains (own_sets p items) c → Contains (submissions items) c.interchange × Contains (p.sets c.interchange) c.set
  own_from items c h =
      let from = contains_flat_map (λ x. map (λ t. own x t) (p.sets x)) (submissions items) c h in
      let set = contains_map (own from.0) (p.sets from.0) c from.2 in
      subst (λ z. Contains (submissions items) z.interchange × Contains (p.sets z.interchange) z.set) set.2 (from.1, set.1)

module _ (p : Profile) (laws : Laws p) (net : Network) (w : World) (was : Sound p net w) where
  abbrev t : Trace
  t = trace_of w

  -- each station has a number
  pub station_node : (s : Station) → Contains (stations_of w) s → (i : ℕ) × StationAt w i s
  station_node s h = let place = station_in_list w.nodes.listed s h in (place.0, listed_at w.nodes was.few place.0 (IsStation s) place.1)

  -- and no second hub is one
  no_second : (s : Station) → ¬ (w.nodes.second ≡ Some (IsStation s))
  no_second s e = false_true (was.second (IsStation s) e)

  pub sent_ok : (i : ℕ) (s : Station) → StationAt w i s → (x : Bytes) → Contains (submissions s.items) x → SentOk p t i x
  sent_ok i s at x h = was.holds.sent i x (rw (items_at p laws net w was i s at) (in_submissions s.items x h))

  -- a key names one submitted set
  one_set : (i : ℕ) (s : Station) → StationAt w i s → (c d : OwnSet) → Contains (own_sets p s.items) c → Contains (own_sets p s.items) d → own_key p c ≡ own_key p d → c ≡ d
  one_set i s at c d hc hd same =
      let from_c = own_from p s.items c hc in
      let from_d = own_from p s.items d hd in
      let ok_c = sent_ok i s at c.interchange from_c.0 in
      let ok_d = sent_ok i s at d.interchange from_d.0 in
      let bytes : c.interchange ≡ d.interchange = was.holds.unique i c.interchange d.interchange (inl ok_c.carried) (inl ok_d.carried) ok_c.by ok_d.by (ap (λ k. k.icn) same) in
      both bytes (one_place d.interchange ok_d.submission c.set d.set (subst (λ z. Contains (p.sets z) c.set) bytes from_c.1) from_d.1 (same_place c.set.place d.set.place (ap (λ k. k.group) same) (ap (λ k. k.set) same)))
    where
      both : c.interchange ≡ d.interchange → c.set ≡ d.set → c ≡ d
      both a b = rw (a, b) refl

      one_place : (x : Bytes) → IsTrue (p.is_submission x) → (a b : PlacedTransactionSet) → Contains (p.sets x) a → Contains (p.sets x) b → a.place ≡ b.place → a ≡ b
      one_place x ok a b ha hb place =
          let found = contains_in_filter (λ z. is_place b.place z.place) (p.sets x) a ha (rw place (is_place_itself b.place)) in
          elim (contains_cons a b [] (subst (λ l. Contains l a) (laws.submission.one_at_a_place x b hb) found)) [ inl e ↦ sym e | inr past ↦ none_in_nil a past ]

  found : (i : ℕ) (s : Station) → StationAt w i s → (c : OwnSet) → Contains (own_sets p s.items) c → own_set p s.items (own_key p c) ≡ Some c
  found i s at c h = find_only (λ d. is_same_key (own_key p c) (own_key p d)) (own_sets p s.items) c h (key_itself (own_key p c)) (λ d hd passes. one_set i s at d c hd h (sym (same_key (own_key p c) (own_key p d) passes)))

  held : (i : ℕ) (s : Station) (x : Bytes) (ts : PlacedTransactionSet) → StationAt w i s → Contains (submissions s.items) x → Contains (p.sets x) ts → fate_by_key p s (key_of p x ts.place) ≡ Some (fate_in p s.me s.hubs s.items x ts.place)
  held i s x ts at h has = ap (option_map (own_fate p s.me s.hubs s.items)) (found i s at (record { interchange = x; set = ts }) (own_in p s.items x ts h has))

  known : (i : ℕ) (s : Station) (k : TransactionSetKey) (fate : Fate) → StationAt w i s → fate_by_key p s k ≡ Some fate → (x : Bytes) × (ts : PlacedTransactionSet) × HoldsAs p w i x ts fate × (key_of p x ts.place ≡ k)
  known i s k fate at e =
      let own = option_mapped (own_fate p s.me s.hubs s.items) (own_set p s.items k) fate e in
      let is = found_passes (λ d. is_same_key k (own_key p d)) (own_sets p s.items) own.0 own.1 in
      let from = own_from p s.items own.0 is.0 in
      (own.0.interchange, own.0.set, (s, at, from.0, from.1, own.2), sym (same_key k (own_key p own.0) is.1))

  -- a party's station is the one that bears its name
  in_stations : (ns : List Node) (i : ℕ) (s : Station) → slice_get ns i ≡ Some (IsStation s) → Contains (flat_map station_in ns) s
  in_stations ns i s at = flat_map_contains station_in ns (IsStation s) s (get_contains ns i (IsStation s) at) (contains_head s [])

  station_found : (i : ℕ) (s : Station) → StationAt w i s → station_named w s.me ≡ Some s
  station_found i s at = find_only (λ r. is_same_party r.me s.me) (stations_of w) s (in_stations w.nodes.listed i s (at_listed w.nodes i (IsStation s) at (no_second s))) (same_party_itself s.me) (λ r h passes. same r h ((is_same_party-Decides r.me s.me).0 passes))
    where
      same : (r : Station) → Contains (stations_of w) r → r.me ≡ s.me → r ≡ s
      same r h me =
          let from = station_node r h in
          let z = was.holds.names_apart from.0 i s.me (name_at p laws net w was from.0 r from.1 ∙ ap Some me) (name_at p laws net w was i s at) in
          station_inj (some_inj (sym from.1 ∙ (ap (node_at w.nodes) z ∙ at)))

  audited : (i : ℕ) (s : Station) (x : Bytes) (ts : PlacedTransactionSet) → StationAt w i s → Contains (submissions s.items) x → Contains (p.sets x) ts → audit p w (key_of p x ts.place) ≡ Some (audit_of p w s (record { interchange = x; set = ts }))
  audited i s x ts at h has =
      let ok = sent_ok i s at x h in
      let me : s.me ≡ p.sender x = some_inj (sym (name_at p laws net w was i s at) ∙ ok.by) in
      let own = found i s at (record { interchange = x; set = ts }) (own_in p s.items x ts h has) in
      ap (option_and_then (λ r. option_map (audit_of p w r) (own_set p r.items (key_of p x ts.place)))) (ap (station_named w) (sym me) ∙ station_found i s at) ∙ ap (option_map (audit_of p w s)) own

  keys_audited : (k : TransactionSetKey) → Contains (keys_of p w) k → is_some (audit p w k) ≡ true
  keys_audited k h =
      let from = contains_flat_map (λ s. own_keys p s.items) (stations_of w) k h in
      let node = station_node from.0 from.1 in
      let own = contains_map (own_key p) (own_sets p from.0.items) k from.2 in
      let set = own_from p from.0.items own.0 own.1 in
      ap is_some (ap (audit p w) (sym own.2) ∙ audited node.0 from.0 own.0.interchange own.0.set node.1 set.0 set.1)

  audited_keys : (k : TransactionSetKey) → is_some (audit p w k) ≡ true → Contains (keys_of p w) k
  audited_keys k e = by (station_named w k.sender) refl e
    where
      own_there : (s : Station) → Contains (stations_of w) s → (o : Option OwnSet) → own_set p s.items k ≡ o → is_some (option_map (audit_of p w s) o) ≡ true → Contains (keys_of p w) k
      own_there s there None is e = absurd cc
      own_there s there (Some c) is e =
          let found = found_passes (λ d. is_same_key k (own_key p d)) (own_sets p s.items) c is in
          subst (Contains (keys_of p w)) (sym (same_key k (own_key p c) found.1))
          (flat_map_contains (λ s. own_keys p s.items) (stations_of w) s (own_key p c) there (contains_mapped (own_key p) (own_sets p s.items) c found.0))

      by : (o : Option Station) → station_named w k.sender ≡ o → is_some (option_and_then (λ s. option_map (audit_of p w s) (own_set p s.items k)) o) ≡ true → Contains (keys_of p w) k
      by None is e = absurd cc
      by (Some s) is e = own_there s (found_passes (λ r. is_same_party r.me k.sender) (stations_of w) s is).0 (own_set p s.items k) refl e

  pub keys_tell : AllPairs (λ (j k : TransactionSetKey). j ≢ k) (keys_of p w) → KeysTell p w
  keys_tell once = record { once = once; held = held; known = known; audited = audited; exactly = λ k. (keys_audited k, audited_keys k) }
