-- Logs that replay, merged, are one run of the network: by one entry after the other.
use Rattle.std.proofs.Common.{◌≡◌, ℕ, zero, suc, ◌+◌, ◌-◌, ◌^◌, ◌<◌, ◌≤◌, List, [], ◌∷◌, ◌++◌, Bool, true, false, if◌then◌else◌, ◌==◌, Option, Some, None, IsSome, is_some, Contains, map, length, refl, set, slice_get, sym, ap, subst, ◌∙◌, inl, inr, arith, length-append, length-set}
use Rattle.std.proofs.lemmas.Bool.Decides.{eqb_tells, nat_tests}
use Rattle.std.proofs.lemmas.List.{append-nil, map-append, length-map}
use Rattle.std.proofs.lemmas.List.Elements.{Contains-push_cases, filter-append}
use Rattle.x12_core.specs.Ask.{Ask, Do, Comes, Outside, Fate, does_at, fate_told}
use Rattle.x12_core.specs.Node.{Node, second_hub_node}
use Rattle.x12_core.specs.Packet.{Packet, PacketName}
use Rattle.x12_nodes.specs.Law.{IsSentBy, IsFair, AllFair, EachReplays, MergeIsRun}
use Rattle.x12_nodes.specs.Log.{NodeAnswer, Sent, FateIs, AnswersSo, Replays, StampsRise, answer_to_sends}
use Rattle.x12_nodes.specs.Merge.{Logged, is_event, entries_of, events_in, number_at, name_in, event_at, event_behind, HappensSo, RunsAs, with_event, events_behind}
use Rattle.x12_nodes.proofs.NumberLemmas.{Numbered, numbered_push}
use Rattle.x12_nodes.proofs.TakingLemmas as taking
use Rattle.x12_numbers.proofs.Shelf.{contains_head, contains_tail, contains_cons, none_in_nil, some_inj, eq_itself}
use Rattle.x12_outbound.specs.declared.fate.Fate.{Fate as SetFate}
use Rattle.x12_profile.specs.Laws.{Laws}
use Rattle.x12_profile.specs.X12.{x12}
use Rattle.x12_station.proofs.ListLemmas.{get_map}
use Rattle.x12_world.specs.Effect.{asked_by, after_asked}
use Rattle.x12_world.specs.EventRefusal.{EventRefusal, is_at_end}
use Rattle.x12_world.specs.Packet.{packet_of, named}
use Rattle.x12_world.specs.Run.{happens, run, new_world}
use Rattle.x12_world.specs.Network.{Network, IsNetwork}
use Rattle.x12_world.specs.Nodes.{Nodes, by_number, node_at, site_of, with_node}
use Rattle.x12_world.proofs.NodesLemmas.{contains_get, home_same, listed_at, node_other, node_same}
use Rattle.x12_world.specs.Taking.{IsTaken}
use Rattle.x12_world.specs.View.{named_from}
use Rattle.x12_world.specs.World.{World, Event}
use Rattle.x12_world.proofs.PacketLemmas.{packet_at, one_more}
use Rattle.x12_world.proofs.RunLemmas.{new_sound, happens_onward}
use Rattle.x12_world.proofs.WorldLemmas.{Sound}

-- lists that agree at each index
all_agree : (xs ys : List Node) → length xs ≡ length ys → ((i : ℕ) (a b : Node) → slice_get xs i ≡ Some a → slice_get ys i ≡ Some b → b ≡ a) → xs ≡ ys
all_agree [] [] n each = refl
all_agree [] (y ∷ ys) n each = absurd (omega arith)
all_agree (x ∷ xs) [] n each = absurd (omega arith)
all_agree (x ∷ xs) (y ∷ ys) n each =
    ap (λ z. z ∷ xs) (sym (each 0 x y refl refl)) ∙ ap (λ l. y ∷ l) (all_agree xs ys (omega arith) (λ i a b p q. each (suc i) a b p q))

set_same : {A : Type 0} (xs : List A) (k : ℕ) (x : A) → slice_get xs k ≡ Some x → set xs k x ≡ xs
set_same [] k x e = refl
set_same (y ∷ xs) zero x e = ap (λ z. z ∷ xs) (some_inj (sym e))
set_same (y ∷ xs) (suc k) x e = ap (λ l. y ∷ l) (set_same xs k x e)

some_of : {A : Type 0} (o : Option A) → IsSome o → (x : A) × (o ≡ Some x)
some_of None e = absurd cc
some_of (Some x) e = (x, refl)

-- nodes of one shape: as many are listed, at the same hubs, and both have a second hub or none
pub record HaveOneShape (a b : Nodes) : Type 0 where
  pub same : length a.listed ≡ length b.listed
  pub homes : a.homes ≡ b.homes
  pub second : is_some a.second ≡ is_some b.second

-- a node of a number more keeps the shape
module _ (listed : List Node) (homes : List ℕ) (i : ℕ) (n : Node) where
  abbrev those : Option Node → Nodes
  those second = record { listed = listed; homes = homes; second = second }

  shape_by : (second : Option Node) → HaveOneShape (with_node (those second) i n) (those second)
  shape_by None = record { same = length-set listed i n; homes = refl; second = refl }
  shape_by (Some h) = elim (eqb_tells i second_hub_node) [
    | inl e ↦ rw (e.0) (record { same = refl; homes = refl; second = refl })
    | inr e ↦ rw (e.0) (record { same = length-set listed i n; homes = refl; second = refl })
  ]

  still_by : (second : Option Node) → node_at (those second) i ≡ Some n → with_node (those second) i n ≡ those second
  still_by None at = ap (λ l. record { listed = l; homes = homes; second = None }) (set_same listed i n at)
  still_by (Some h) at = elim (eqb_tells i second_hub_node) [
    | inl e ↦ rw (e.0) (let there : Some h ≡ Some n = rw (e.0) at at in ap (λ o. record { listed = listed; homes = homes; second = o }) (sym there))
    | inr e ↦ rw (e.0) (ap (λ l. record { listed = l; homes = homes; second = Some h }) (set_same listed i n (rw (e.0) at at)))
  ]

shape_kept : (ns : Nodes) (i : ℕ) (n : Node) → HaveOneShape (with_node ns i n) ns
shape_kept ns i n = shape_by ns.listed ns.homes i n ns.second

node_still : (ns : Nodes) (i : ℕ) (n : Node) → node_at ns i ≡ Some n → with_node ns i n ≡ ns
node_still ns i n at = still_by ns.listed ns.homes i n ns.second at

get_there : (xs ys : List Node) (i : ℕ) → length xs ≡ length ys → IsSome (slice_get xs i) → IsSome (slice_get ys i)
get_there [] ys i n some = absurd cc
get_there (x ∷ xs) [] i n some = absurd (omega (arith, n))
get_there (x ∷ xs) (y ∷ ys) zero n some = refl
get_there (x ∷ xs) (y ∷ ys) (suc i) n some = get_there xs ys i (omega (arith, n)) some

-- what is in the one under a number is in the other
module _ (xs ys : List Node) (n : length xs ≡ length ys) (i : ℕ) where
  there_by : (p q : Option Node) → is_some p ≡ is_some q → IsSome (by_number i (slice_get xs i) p p) → IsSome (by_number i (slice_get ys i) q q)
  there_by None None same some = get_there xs ys i n some
  there_by None (Some k) same some = absurd cc
  there_by (Some h) None same some = absurd cc
  there_by (Some h) (Some k) same some = elim (eqb_tells i second_hub_node) [
    | inl e ↦ rw (e.0) refl
    | inr e ↦ rw (e.0) (get_there xs ys i n (rw (e.0) at some))
  ]

there_too : (a b : Nodes) (i : ℕ) → HaveOneShape a b → IsSome (node_at a i) → IsSome (node_at b i)
there_too a b i shape some = there_by a.listed b.listed shape.same i a.second b.second shape.second some

-- nodes that agree under each number
second_agree : (p q : Option Node) → is_some p ≡ is_some q → ((x y : Node) → p ≡ Some x → q ≡ Some y → y ≡ x) → p ≡ q
second_agree None None same each = refl
second_agree None (Some y) same each = absurd cc
second_agree (Some x) None same each = absurd cc
second_agree (Some x) (Some y) same each = ap Some (sym (each x y refl refl))

nodes_agree : (a b : Nodes) → (IsSome a.second → length a.listed ≤ 17) → HaveOneShape a b → ((i : ℕ) (x y : Node) → node_at a i ≡ Some x → node_at b i ≡ Some y → y ≡ x) → a ≡ b
nodes_agree a b few shape each =
    let few_b : IsSome b.second → length b.listed ≤ 17 = λ some. let n = few (shape.second ∙ some) in let e = shape.same in omega (arith, n, e) in
    let listed = all_agree a.listed b.listed shape.same (λ i x y at_a at_b. each i x y (listed_at a few i x at_a) (listed_at b few_b i y at_b)) in
    let second = second_agree a.second b.second shape.second (λ x y is_x is_y. each second_hub_node x y (rw is_x refl) (rw is_y refl)) in
    λ j. record { listed = listed j; homes = shape.homes j; second = second j }

-- what is known of the entries behind: their stamps are up to this one, and fates sent nothing
record Behind (before : List Logged) (stamp : ℕ) : Type 0 where
  below : (x : Logged) → Contains before x → x.entry.stamp ≤ stamp
  quiet : (x : Logged) → Contains before x → is_event x.entry.answer ≡ false → x.entry.packets ≡ []
  count : length (events_in before) ≤ stamp
  numbered : Numbered (events_in before)

-- the world that these entries made
record Stood (before : List Logged) (w : World) : Type 0 where
  packets : w.packets ≡ named_from 1 (map (λ (x : Logged). x.entry.packets) (events_in before))
  events : w.events ≡ length (events_in before)

event_kept : (before : List Logged) (x : Logged) → Contains before x → is_event x.entry.answer ≡ true → Contains (events_in before) x
event_kept [] x h e = none_in_nil x h
event_kept (y ∷ before) x h e = elim (contains_cons x y before h) [
  | inl is ↦ let f : is_event y.entry.answer ≡ true = ap (λ (z : Logged). is_event z.entry.answer) is ∙ e in rw f (subst (λ z. Contains (y ∷ events_in before) z) is (contains_head y (events_in before)))
  | inr past ↦ by (is_event y.entry.answer) refl (event_kept before x past e)
]
  where
    by : (t : Bool) → is_event y.entry.answer ≡ t → Contains (events_in before) x → Contains (if t then y ∷ events_in before else events_in before) x
    by true is h = contains_tail x y (events_in before) h
    by false is h = h

event_was : (before : List Logged) (x : Logged) → Contains (events_in before) x → Contains before x
event_was [] x h = none_in_nil x h
event_was (y ∷ before) x h = by (event_was before x) (is_event y.entry.answer) h
  where
    by : (Contains (events_in before) x → Contains before x) → (t : Bool) → Contains (if t then y ∷ events_in before else events_in before) x → Contains (y ∷ before) x
    by on true h = elim (contains_cons x y (events_in before) h) [
      | inl is ↦ subst (λ z. Contains (y ∷ before) z) is (contains_head y before)
      | inr past ↦ contains_tail x y before (on past)
    ]
    by on false h = contains_tail x y before (on h)

events_push : (before : List Logged) (x : Logged) (t : Bool) → is_event x.entry.answer ≡ t → events_in (before ++ x ∷ []) ≡ events_in before ++ (if t then x ∷ [] else [])
events_push before x t is = filter-append (λ (y : Logged). is_event y.entry.answer) before (x ∷ []) ∙ rw is refl

same_events : (before : List Logged) (x : Logged) → is_event x.entry.answer ≡ false → events_in (before ++ x ∷ []) ≡ events_in before
same_events before x kind = events_push before x false kind ∙ append-nil (events_in before)

-- the packet of the name is the one that was sent
found : (before : List Logged) (stamp : ℕ) (w : World) (name : PacketName) (q : Packet) → Behind before stamp → Stood before w → IsSentBy before name q → packet_of w.packets (name_in (events_in before) name) ≡ Some q
found before stamp w name q behind stood sent =
    ap (λ qs. packet_of qs (name_in events name)) stood.packets
    ∙ packet_at 1 sends at.0 sent.index (number_at events name.event) name.place numbered place
    ∙ rw there sent.packet
  where
    events : List Logged
    events = events_in before

    sends : List (List Packet)
    sends = map (λ (x : Logged). x.entry.packets) events

    an_event : (t : Bool) → is_event sent.sender.entry.answer ≡ t → t ≡ true
    an_event true e = refl
    an_event false e = absurd (nothing (subst (λ qs. slice_get qs sent.index ≡ Some q) (behind.quiet sent.sender sent.there e) sent.packet))
      where
        nothing : slice_get [] sent.index ≡ Some q → ⊥
        nothing e = cc

    at : (k : ℕ) × (slice_get events k ≡ Some sent.sender)
    at = contains_get events sent.sender (event_kept before sent.sender sent.there (an_event (is_event sent.sender.entry.answer) refl))

    numbered : number_at events name.event ≡ 1 + at.0
    numbered = let e : number_at events name.event ≡ suc at.0 = ap (number_at events) (sym sent.stamp) ∙ behind.numbered at.0 sent.sender at.1 in omega arith

    place : name.place ≡ 1 + sent.index
    place = let e = sent.place in omega arith

    there : slice_get sends at.0 ≡ Some sent.sender.entry.packets
    there = get_map (λ (x : Logged). x.entry.packets) events at.0 sent.sender at.1

-- a fate that is told was asked for, and that is no event
fate_is_none : (i : ℕ) (name_of : PacketName → PacketName) (k : Ask) (n : Node) (fate : Option SetFate) → fate_told x12 k n ≡ Some fate → event_at i name_of k ≡ None
fate_is_none i name_of (Fate key) n fate e = refl
fate_is_none i name_of (Do a) n fate e = absurd cc
fate_is_none i name_of (Comes name from load at) n fate e = absurd cc
fate_is_none i name_of (Outside b at) n fate e = absurd cc

module _ (laws : Laws x12) (net : Network) (net_is : IsNetwork x12 net) where
  -- what one entry makes of a world
  record Went (w : World) (o : Option Event) (i : ℕ) (mid : Node) (sends : List Packet) : Type 0 where
    event : Event
    is : o ≡ Some event
    taken : IsTaken w event (with_node w.nodes i mid) sends

  module _ (w : World) (sound : Sound x12 net w) (before : List Logged) (stamp i : ℕ) (a mid : Node) (behind : Behind before stamp) (stood : Stood before w) (at : node_at w.nodes i ≡ Some a) where
    room : (s : ℕ) → stamp < s → s < 2 ^ 64 - 1 → is_at_end w ≡ false
    room s low high = let e = stood.events in let c = behind.count in let n : suc w.events < 2 ^ 64 - 1 = omega arith in grind (arith, nat_tests)

    went : (s : ℕ) (sends : List Packet) (k : Ask) → stamp < s → s < 2 ^ 64 - 1 → IsFair net before i k → does_at x12 (site_of w.nodes i) k a ≡ Some (record { node = mid; sends = sends })
        → Went w (event_at i (name_in (events_in before)) k) i mid sends
    went s sends (Do x) low high fair does = record { event = _; is = refl; taken = taking.acts net w sound (room s low high) i a mid sends at x fair does }
    went s sends (Comes name from load m) low high fair does = record {
      event = _;
      is = refl;
      taken = taking.comes net w sound (room s low high) i a mid sends at (name_in (events_in before) name) from load m name (found before stamp w name _ behind stood fair) does;
    }
    went s sends (Outside b m) low high fair does = record { event = _; is = refl; taken = taking.comes_outside net w sound (room s low high) i a mid sends at b m fair does }
    went s sends (Fate key) low high fair does = absurd cc

  -- the entry of node i is the first of its own list
  own_first : (i : ℕ) (x : Logged) (xs : List Logged) → x.node ≡ i → entries_of i (x ∷ xs) ≡ x.entry ∷ entries_of i xs
  own_first i x xs is = rw (is, eq_itself i) refl

  of_other : (i : ℕ) (x : Logged) (xs : List Logged) → (x.node == i) ≡ false → entries_of i (x ∷ xs) ≡ entries_of i xs
  of_other i x xs other = rw other refl

  -- after a step of node i
  replays_on : (nodes last : Nodes) (x : Logged) (xs : List Logged) (a mid b : Node) → node_at nodes x.node ≡ Some a → node_at last x.node ≡ Some b → Replays (site_of nodes x.node) mid (entries_of x.node xs) b
      → EachReplays nodes last (x ∷ xs) → EachReplays (with_node nodes x.node mid) last xs
  replays_on nodes last x xs a mid b at end rest all =
      let shape = shape_kept nodes x.node mid in
      let new = with_node nodes x.node mid in
      record {
        same = shape.same ∙ all.same;
        homes = shape.homes ∙ all.homes;
        second = shape.second ∙ all.second;
        within = λ y h. elim (eqb_tells y.node x.node) [
          | inl here ↦ subst (λ k. IsSome (node_at new k)) (sym here.1) (ap is_some (node_same nodes x.node a mid at))
          | inr apart ↦ ap is_some (node_other nodes x.node a mid y.node apart.1) ∙ all.within y (contains_tail y x xs h)
        ];
        each = λ j u v au av. subst (λ home. Replays (record { node = j; hub = home }) u (entries_of j xs) v) (sym (home_same nodes x.node a mid j)) (elim (eqb_tells x.node j) [
          | inl here ↦
              let e = here.1 in
              let au' : node_at new x.node ≡ Some u = subst (λ k. node_at new k ≡ Some u) (sym e) au in
              let av' : node_at last x.node ≡ Some v = subst (λ k. node_at last k ≡ Some v) (sym e) av in
              let is_mid : mid ≡ u = some_inj (sym (node_same nodes x.node a mid at) ∙ au') in
              let is_end : b ≡ v = some_inj (sym end ∙ av') in
              subst (λ k. Replays (site_of nodes k) u (entries_of k xs) v) e (subst (λ z. Replays (site_of nodes x.node) z (entries_of x.node xs) v) is_mid (subst (λ z. Replays (site_of nodes x.node) mid (entries_of x.node xs) z) is_end rest))
          | inr apart ↦
              let au' : node_at nodes j ≡ Some u = sym (node_other nodes x.node a mid j (λ is. apart.1 (sym is))) ∙ au in
              subst (λ es. Replays (site_of nodes j) u es v) (of_other j x xs apart.0) (all.each j u v au' av)
        ]);
      }

  -- what is behind, once an entry is
  behind_event : (before : List Logged) (stamp : ℕ) (x : Logged) → is_event x.entry.answer ≡ true → stamp < x.entry.stamp → Behind before stamp → Behind (before ++ x ∷ []) x.entry.stamp
  behind_event before stamp x kind low behind = record {
    below = λ y h. elim (Contains-push_cases before x y h) [
      | inl there ↦ let le = behind.below y there in omega arith
      | inr is ↦ let e : x.entry.stamp ≡ y.entry.stamp = ap (λ (z : Logged). z.entry.stamp) is in omega arith
    ];
    quiet = λ y h no_event. elim (Contains-push_cases before x y h) [
      | inl there ↦ behind.quiet y there no_event
      | inr is ↦ absurd (clash (sym kind ∙ (ap (λ (z : Logged). is_event z.entry.answer) is ∙ no_event)))
    ];
    count = let c = behind.count in let n = ap length (events_push before x true kind) ∙ length-append (events_in before) (x ∷ []) in omega arith;
    numbered = subst Numbered (sym (events_push before x true kind)) (numbered_push (events_in before) x (λ y h. let le = behind.below y (event_was before y h) in omega arith) behind.numbered);
  }
    where
      clash : true ≡ false → ⊥
      clash e = cc

  behind_fate : (before : List Logged) (stamp : ℕ) (x : Logged) → is_event x.entry.answer ≡ false → x.entry.packets ≡ [] → stamp < x.entry.stamp → Behind before stamp → Behind (before ++ x ∷ []) x.entry.stamp
  behind_fate before stamp x kind none low behind = record {
    below = λ y h. elim (Contains-push_cases before x y h) [
      | inl there ↦ let le = behind.below y there in omega arith
      | inr is ↦ let e : x.entry.stamp ≡ y.entry.stamp = ap (λ (z : Logged). z.entry.stamp) is in omega arith
    ];
    quiet = λ y h no_event. elim (Contains-push_cases before x y h) [
      | inl there ↦ behind.quiet y there no_event
      | inr is ↦ subst (λ (z : Logged). z.entry.packets ≡ []) is none
    ];
    count = let c = behind.count in let n = ap length (same_events before x kind) in omega arith;
    numbered = subst Numbered (sym (same_events before x kind)) behind.numbered;
  }

  -- the world that an event made
  stood_event : (before : List Logged) (x : Logged) (w : World) (mid : Node) → is_event x.entry.answer ≡ true → Stood before w → Stood (before ++ x ∷ []) (taking.world_after w x.node mid x.entry.packets)
  stood_event before x w mid kind stood = record {
    packets =
        ap (λ qs. qs ++ named (suc w.events) 1 x.entry.packets) stood.packets
        ∙ sym (one_more 1 sends x.entry.packets (suc w.events) number)
        ∙ ap (named_from 1) (sym (map-append (λ (y : Logged). y.entry.packets) (events_in before) (x ∷ [])))
        ∙ ap (λ es. named_from 1 (map (λ (y : Logged). y.entry.packets) es)) (sym (events_push before x true kind));
    events = let e = stood.events in let n = ap length (events_push before x true kind) ∙ length-append (events_in before) (x ∷ []) in omega arith;
  }
    where
      sends : List (List Packet)
      sends = map (λ (y : Logged). y.entry.packets) (events_in before)

      number : suc w.events ≡ 1 + length sends
      number = let e = stood.events in let n = length-map (events_in before) (λ (y : Logged). y.entry.packets) in omega arith

  stood_fate : (before : List Logged) (x : Logged) (w : World) → is_event x.entry.answer ≡ false → Stood before w → Stood (before ++ x ∷ []) w
  stood_fate before x w kind stood = record {
    packets = stood.packets ∙ ap (λ es. named_from 1 (map (λ (y : Logged). y.entry.packets) es)) (sym (same_events before x kind));
    events = stood.events ∙ ap length (sym (same_events before x kind));
  }

  -- an event that is taken makes the next world
  happened : (w : World) (e : Event) (nodes : Nodes) (sends : List Packet) → IsTaken w e nodes sends → happens x12 w e ≡ record { nodes = nodes; packets = w.packets ++ named (suc w.events) 1 sends; events = suc w.events }
  happened w e nodes sends t = ap (λ (r : Option EventRefusal). if is_some r then w else after_asked x12 w (asked_by w.packets e)) t.table ∙ t.after

  record Ends (w : World) (before xs : List Logged) (last : Nodes) : Type 0 where
    world : World
    runs : RunsAs w before xs world
    is : world ≡ run x12 (events_behind before xs) w
    nodes : world.nodes ≡ last

  module _ (x : Logged) (xs : List Logged) (last : Nodes) (w : World) (before : List Logged) (stamp : ℕ) (sound : Sound x12 net w) (behind : Behind before stamp) (stood : Stood before w)
      (low : stamp < x.entry.stamp) (high : x.entry.stamp < 2 ^ 64 - 1) (fair : IsFair net before x.node x.entry.ask) (all : EachReplays w.nodes last (x ∷ xs))
      (on : (w' : World) → Sound x12 net w' → Behind (before ++ x ∷ []) x.entry.stamp → Stood (before ++ x ∷ []) w' → EachReplays w'.nodes last xs → Ends w' (before ++ x ∷ []) xs last) where
    a : (n : Node) × (node_at w.nodes x.node ≡ Some n)
    a = some_of (node_at w.nodes x.node) (all.within x (contains_head x xs))

    b : (n : Node) × (node_at last x.node ≡ Some n)
    b = some_of (node_at last x.node) (there_too w.nodes last x.node (record { same = all.same; homes = all.homes; second = all.second }) (all.within x (contains_head x xs)))

    own : Replays (site_of w.nodes x.node) a.0 (x.entry ∷ entries_of x.node xs) b.0
    own = subst (λ es. Replays (site_of w.nodes x.node) a.0 es b.0) (own_first x.node x xs refl) (all.each x.node a.0 b.0 a.1 b.1)

    after : EachReplays (with_node w.nodes x.node own.0) last xs
    after = replays_on w.nodes last x xs a.0 own.0 b.0 a.1 b.1 own.2 all

    by_event : is_event x.entry.answer ≡ true → does_at x12 (site_of w.nodes x.node) x.entry.ask a.0 ≡ Some (record { node = own.0; sends = x.entry.packets })
        → x.entry.answer ≡ answer_to_sends x.entry.ask x.entry.packets → Ends w before (x ∷ xs) last
    by_event kind does answer =
        let step : Went w (event_behind before x) x.node own.0 x.entry.packets = went w sound before stamp x.node a.0 own.0 behind stood a.1 x.entry.stamp x.entry.packets x.entry.ask low high fair does in
        let w' : World = happens x12 w step.event in
        let is : w' ≡ taking.world_after w x.node own.0 x.entry.packets = happened w step.event (with_node w.nodes x.node own.0) x.entry.packets step.taken in
        let rest : Ends w' (before ++ x ∷ []) xs last = on w' (happens_onward x12 laws net net_is.plain w sound step.event).0 (behind_event before stamp x kind low behind)
        (subst (Stood (before ++ x ∷ [])) (sym is) (stood_event before x w own.0 kind stood)) (subst (λ (v : World). EachReplays v.nodes last xs) (sym is) after) in
        record {
          world = rest.world;
          runs = (w', subst (λ o. HappensSo w o x w') (sym step.is) (record { table = step.taken.table; world = refl; sent = ap (λ (v : World). v.packets) is; answer = answer }), rest.runs);
          is = rest.is ∙ ap (λ o. run x12 (with_event o (events_behind (before ++ x ∷ []) xs)) w) (sym step.is);
          nodes = rest.nodes;
        }

    by_fate : is_event x.entry.answer ≡ false → (fate : Option SetFate) → x.entry.answer ≡ FateIs fate → fate_told x12 x.entry.ask a.0 ≡ Some fate → x.entry.packets ≡ [] → own.0 ≡ a.0 → Ends w before (x ∷ xs) last
    by_fate kind fate answer told quiet stays =
        let none : event_behind before x ≡ None = fate_is_none x.node (name_in (events_in before)) x.entry.ask a.0 fate told in
        let same : with_node w.nodes x.node own.0 ≡ w.nodes = node_still w.nodes x.node own.0 (a.1 ∙ ap Some (sym stays)) in
        let rest : Ends w (before ++ x ∷ []) xs last = on w sound (behind_fate before stamp x kind quiet low behind) (stood_fate before x w kind stood) (subst (λ ns. EachReplays ns last xs) same after) in
        record {
          world = rest.world;
          runs = (w, subst (λ o. HappensSo w o x w) (sym none) (record { node = a.0; there = a.1; fate = fate; told = told; answer = answer; same = refl }), rest.runs);
          is = rest.is ∙ ap (λ o. run x12 (with_event o (events_behind (before ++ x ∷ []) xs)) w) (sym none);
          nodes = rest.nodes;
        }

    by_answer : (answer : NodeAnswer) → x.entry.answer ≡ answer → AnswersSo (site_of w.nodes x.node) x.entry.ask x.entry.packets answer a.0 own.0 → Ends w before (x ∷ xs) last
    by_answer (Sent number told) is step = by_event (ap is_event is) step.0 (is ∙ step.1)
    by_answer (FateIs fate) is step = by_fate (ap is_event is) fate is step.0 step.1 step.2

    one : Ends w before (x ∷ xs) last
    one = by_answer x.entry.answer refl own.1

  go : (xs : List Logged) (last : Nodes) (w : World) (before : List Logged) (stamp : ℕ) → Sound x12 net w → Behind before stamp → Stood before w → StampsRise stamp (map (λ (x : Logged). x.entry) xs) → AllFair net before xs → EachReplays w.nodes last xs
      → Ends w before xs last
  go [] last w before stamp sound behind stood rises fair all = record {
    world = w;
    runs = refl;
    is = refl;
    nodes = nodes_agree w.nodes last sound.few (record { same = all.same; homes = all.homes; second = all.second }) (λ i u v au av. all.each i u v au av);
  }
  go (x ∷ xs) last w before stamp sound behind stood rises fair all =
      one x xs last w before stamp sound behind stood rises.0 rises.1 fair.0 all
      (λ w' sound' behind' stood' all'. go xs last w' (before ++ x ∷ []) x.entry.stamp sound' behind' stood' rises.2 fair.1 all')

nothing_behind : Behind [] 0
nothing_behind = record { below = λ x h. none_in_nil x h; quiet = λ x h e. none_in_nil x h; count = omega arith; numbered = λ k x e. absurd cc }

pub merged_is_run : Laws x12 → MergeIsRun
merged_is_run laws net net_is xs last rises fair all =
    let e = go laws net net_is xs last (new_world net) [] 0 (new_sound x12 net net_is) nothing_behind (record { packets = refl; events = refl }) rises fair all in
    record { world = e.world; runs = e.runs; is = e.is; nodes = e.nodes }
