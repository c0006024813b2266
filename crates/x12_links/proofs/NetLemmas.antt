-- The links and inboxes of a node.
use native.Mathlib.Omega.{arith}
use Rattle.std.proofs.Common.{◌≡◌, ◌∙◌, ◌++◌, ◌∷◌, ◌<◌, ◌+◌, ◌==◌, ◌≢◌, ◌||◌, ⊎_elim, inl, inr, [], All, List, None, Option, get_or, map, ℕ, zero, suc, ap, drop, false, length, refl, subst, sym, take, true, true≢false}
use Rattle.std.proofs.Math.ListN.{get_or-append}
use Rattle.std.proofs.Math.Seq.{get_or-append_seam, take-append_seam}
use Rattle.std.proofs.lemmas.Bool.{cases_eq, eq-eqb}
use Rattle.std.proofs.lemmas.Bool.Decides.{eqb_tells}
use Rattle.std.proofs.lemmas.List.Folds.{list_any_at}
use Rattle.std.proofs.lemmas.List.{get_or-map, length-append, length-map, map-append, take_more}
use Rattle.std.proofs.lemmas.List.Elements.{All-contains, All-more, All-push, All-weaker, Contains-append_left, Contains-get_or, Contains-push}
use Rattle.std.specs.List.{Contains, list_any}
use Rattle.crossbeam_channel.specs.Claims.{view}
use Rattle.crossbeam_channel.specs.Ends.{sends_on, receives_on}
use Rattle.x12_links.specs.declared.inbox.Inlet.{Inlet}
use Rattle.x12_links.specs.declared.link.Link.{Link}
use Rattle.x12_links.specs.declared.link.Way.{Way}
use Rattle.x12_links.specs.declared.plan.FaultPlan.{FaultPlan}
use Rattle.x12_links.specs.declared.worker.Delivery.{Delivery}
use Rattle.x12_links.specs.Link.{IsInlet, IsLane, IsLink}
use Rattle.x12_links.specs.Net.{AreConnected, AreDoneLinks, AreLanes, AreLinks, ArePaired, AreSameNumbers, IsConnected, IsInboxHeard, IsNodeHeard, IsAdded}
use Rattle.x12_links.specs.Worker.{senders_of, AreDistinct, IsChosen, IsServing, Serves}
use Rattle.x12_links.proofs.WorkerLemmas.{served_none}

-- what stands at a place
at : {X : Type 0} → (xs : List X) (k : ℕ) → k < length xs → X
at [] k within = absurd (omega arith)
at (x ∷ xs) zero within = x
at (x ∷ xs) (suc k) within = at xs k (omega (arith, within))

-- behind a list comes one more
pushed : {X : Type 0} → (xs : List X) (x : X) (n k : ℕ) (d : X) → length xs ≡ n → k < n → get_or (xs ++ x ∷ []) k d ≡ get_or xs k d
pushed xs x n k d long within = get_or-append xs (x ∷ []) d k (omega (arith, long, within))

last_is : {X : Type 0} → (xs : List X) (x : X) (n : ℕ) (d : X) → length xs ≡ n → get_or (xs ++ x ∷ []) n d ≡ x
last_is xs x n d long = subst (λ m. get_or (xs ++ x ∷ []) m d ≡ x) long (get_or-append_seam xs x [] d)

-- two lists of one map
mapped : {X Y : Type 0} (f : X → Y) (xs ys : List X) (k : ℕ) (d : X) → map f xs ≡ map f ys → k < length xs → k < length ys → f (get_or xs k d) ≡ f (get_or ys k d)
mapped f xs ys k d same here there = sym (get_or-map f xs k d (f d) here) ∙ ap (λ l. get_or l k (f d)) same ∙ get_or-map f ys k d (f d) there

as_long : {X Y : Type 0} (f : X → Y) (xs ys : List X) → map f xs ≡ map f ys → length xs ≡ length ys
as_long f xs ys same = sym (length-map xs f) ∙ ap length same ∙ length-map ys f

-- what a slice of all of a vector leaves in it
pub written : {X : Type 0} → (old new : List X) (n : ℕ) → n ≡ length old → length new ≡ length old → take n (new ++ drop (length new) old) ≡ new
written old new n is same = subst (λ m. take m (new ++ drop (length new) old) ≡ new) (sym (is ∙ sym same)) (take-append_seam new (drop (length new) old))

pub as_many : {X : Type 0} → (old lent new : List X) (n : ℕ) → lent ≡ old → n ≡ length old → length new ≡ length lent → length (take n (new ++ drop (length new) old)) ≡ length old
as_many old lent new n is all same = ap length (written old new n all (same ∙ ap length is)) ∙ same ∙ ap length is

found : (xs : List ℕ) (x k d : ℕ) → k < length xs → get_or xs k d ≡ x → Contains xs x
found xs x k d within is = subst (Contains xs) is (Contains-get_or xs k d within)

-- a number that is no other
differ_push : (xs : List ℕ) (x : ℕ) → AreDistinct xs → ¬ (Contains xs x) → AreDistinct (xs ++ x ∷ [])
differ_push xs x apart isnt j k d here there same =
    let long = length-append xs (x ∷ []) in
    let n = length xs in
    ⊎_elim
    (λ (j_is : j ≡ n). ⊎_elim
    (λ (k_is : k ≡ n). j_is ∙ sym k_is)
    (λ (k_isnt : k ≢ n).
    let within : k < n = omega (arith, there, long, k_isnt) in
    absurd (isnt (found xs x k d within (sym (pushed xs x n k d refl within) ∙ sym same ∙ ap (λ m. get_or (xs ++ x ∷ []) m d) j_is ∙ last_is xs x n d refl))))
    (cases_eq k n))
    (λ (j_isnt : j ≢ n).
    let within : j < n = omega (arith, here, long, j_isnt) in
    ⊎_elim
    (λ (k_is : k ≡ n). absurd (isnt (found xs x j d within (sym (pushed xs x n j d refl within) ∙ same ∙ ap (λ m. get_or (xs ++ x ∷ []) m d) k_is ∙ last_is xs x n d refl))))
    (λ (k_isnt : k ≢ n).
    let within' : k < n = omega (arith, there, long, k_isnt) in
    apart j k d within within' (sym (pushed xs x n j d refl within) ∙ same ∙ pushed xs x n k d refl within'))
    (cases_eq k n))
    (cases_eq j n)

-- one number more
pub same_numbers_more : (xs ys ys' : List ℕ) (k d : ℕ) → k < length xs → AreSameNumbers (take k xs) ys → IsAdded ys (get_or xs k d) ys' → AreSameNumbers (take (k + 1) xs) ys'
same_numbers_more xs ys ys' k d within was (inl (has, same)) = record {
  each = All-more (Contains ys') xs k d within (subst (λ l. All (Contains l) (take k xs)) (sym same) was.each) (subst (λ l. Contains l (get_or xs k d)) (sym same) has);
  only = subst (λ l. All (Contains (take (k + 1) xs)) l) (sym same) (All-weaker (Contains (take k xs)) (Contains (take (k + 1) xs)) (λ y is. subst (λ l. Contains l y) (sym (take_more xs k d within)) (Contains-append_left (take k xs) (get_or xs k d ∷ []) y is)) ys was.only);
}
same_numbers_more xs ys ys' k d within was (inr more) =
    let x = get_or xs k d in record {
      each = All-more (Contains ys') xs k d within
          (All-weaker (Contains ys) (Contains ys') (λ y is. subst (λ l. Contains l y) (sym more) (Contains-append_left ys (x ∷ []) y is)) (take k xs) was.each)
          (subst (λ l. Contains l x) (sym more) (Contains-push ys x));
      only = subst (All (Contains (take (k + 1) xs))) (sym more) (subst (λ l. All (Contains l) (ys ++ x ∷ [])) (sym (take_more xs k d within))
          (All-push (Contains (take k xs ++ x ∷ [])) ys x
          (All-weaker (Contains (take k xs)) (Contains (take k xs ++ x ∷ [])) (λ y is. Contains-append_left (take k xs) (x ∷ []) y is) ys was.only)
          (Contains-push (take k xs) x)));
    }

pub way_of : (w v : Way) (from : ℕ) → w ≡ v → from ≡ v.from → w ≡ record { from = from; to = v.to }
way_of w v from is same = subst (λ x. w ≡ record { from = x; to = v.to }) (sym same) is

module _ {P : Type 0} where
  contains_more : (i : Inlet P) (inlets : List (Inlet P)) (from : ℕ) → Contains (senders_of inlets) from → Contains (senders_of (i ∷ inlets)) from
  contains_more i inlets from has = (suc has.0, omega (arith, has.1), has.2)

  -- an inbox for this node's parcels was found
  pub is_sender_of : (inlets : List (Inlet P)) (from : ℕ) → list_any (λ i. i.from == from) inlets ≡ true → Contains (senders_of inlets) from
  is_sender_of [] from found = absurd cc
  is_sender_of (i ∷ inlets) from found = elim (eqb_tells i.from from) [
    | inl same ↦ (0, omega arith, same.1)
    | inr apart ↦ contains_more i inlets from (is_sender_of inlets from (ap (λ b. b || list_any (λ x. x.from == from) inlets) (sym apart.0) ∙ found))
  ]

  -- or none
  pub isnt_sender_of : (inlets : List (Inlet P)) (from : ℕ) → list_any (λ i. i.from == from) inlets ≡ false → ¬ (Contains (senders_of inlets) from)
  isnt_sender_of inlets from none has = let within : has.0 < length inlets = omega (arith, has.1, length-map inlets (λ (i : Inlet P). i.from)) in
      let i : Inlet P = at inlets has.0 within in
      let is : (get_or inlets has.0 i).from ≡ from = sym (get_or-map (λ (i : Inlet P). i.from) inlets has.0 i from within) ∙ has.2 in
      absurd (true≢false (sym (list_any_at (λ (i : Inlet P). i.from == from) inlets has.0 i within (eq-eqb (get_or inlets has.0 i).from from is)) ∙ none))

module _ {P : Type 0} (follows : Way → Option P → P → Type 0) where
  earlier : (plan : FaultPlan) (node : ℕ) (links : List (Link P)) (inlets : List (Inlet P)) (l : Link P) (i : Inlet P) → AreConnected follows plan node links inlets → (k : ℕ) (d : Link P) (e : Inlet P) → k < length links
      → IsConnected follows plan node (get_or (links ++ l ∷ []) k d) (get_or (inlets ++ i ∷ []) k e)
  earlier plan node links inlets l i was k d e within =
      subst (λ x. IsConnected follows plan node x (get_or (inlets ++ i ∷ []) k e)) (sym (pushed links l (length links) k d refl within))
      (subst (λ y. IsConnected follows plan node (get_or links k d) y) (sym (pushed inlets i (length links) k e was.long within)) (was.each k d e within))

  connected_push : (plan : FaultPlan) (node : ℕ) (links : List (Link P)) (inlets : List (Inlet P)) (l : Link P) (i : Inlet P) → AreConnected follows plan node links inlets → IsConnected follows plan node l i → ¬ (Contains (senders_of inlets) i.from)
      → AreConnected follows plan node (links ++ l ∷ []) (inlets ++ i ∷ [])
  connected_push plan node links inlets l i was new isnt = record {
    long = omega (arith, length-append links (l ∷ []), length-append inlets (i ∷ []), was.long);
    each = λ k d e within.
        ⊎_elim
        (λ (is : k ≡ length links). subst (λ x. IsConnected follows plan node x (get_or (inlets ++ i ∷ []) k e)) (sym (ap (λ m. get_or (links ++ l ∷ []) m d) is ∙ last_is links l (length links) d refl))
        (subst (λ y. IsConnected follows plan node l y) (sym (ap (λ m. get_or (inlets ++ i ∷ []) m e) is ∙ last_is inlets i (length links) e was.long)) new))
        (λ (apart : k ≢ length links). earlier plan node links inlets l i was k d e (omega (arith, apart, within, length-append links (l ∷ []))))
        (cases_eq k (length links));
    apart = subst AreDistinct (sym (map-append (λ (x : Inlet P). x.from) inlets (i ∷ []))) (differ_push (senders_of inlets) i.from was.apart isnt);
  }

  -- one link more, and the inlet of its inbox
  pub connected_more : (plan : FaultPlan) (node : ℕ) (links links' : List (Link P)) (inlets inlets' : List (Inlet P)) (l : Link P) (i : Inlet P) → AreConnected follows plan node links inlets → IsConnected follows plan node l i → ¬ (Contains (senders_of inlets) i.from)
      → links' ≡ links ++ l ∷ [] → inlets' ≡ inlets ++ i ∷ [] → AreConnected follows plan node links' inlets'
  connected_more plan node links links' inlets inlets' l i was new isnt puts puts' =
      subst (λ x. AreConnected follows plan node x inlets') (sym puts) (subst (λ y. AreConnected follows plan node (links ++ l ∷ []) y) (sym puts') (connected_push plan node links inlets l i was new isnt))

  -- new links may begin
  pub links_begin : (plan : FaultPlan) (node : ℕ) (links : List (Link P)) (inlets : List (Inlet P)) → AreConnected follows plan node links inlets → AreLinks follows links
  links_begin plan node links inlets is = record {
    each = λ k d within. (is.each k d (at inlets k (omega (arith, within, is.long))) within).link;
  }

  -- and a worker out of new inlets
  pub worker_begins : (answered : ℕ → P → Delivery → Type 0) (delivered : ℕ → List P) (plan : FaultPlan) (node : ℕ) (links : List (Link P)) (inlets : List (Inlet P)) → AreConnected follows plan node links inlets → ((from : ℕ) → delivered from ≡ []) → IsServing answered 0 delivered inlets
  worker_begins answered delivered plan node links inlets is none = record {
    are = λ k d within. served_none answered 0 delivered (get_or inlets k d) (none (get_or inlets k d).from)
        (is.each k (at links k (omega (arith, within, is.long))) d (omega (arith, within, is.long))).inlet;
    apart = is.apart;
    only = λ from isnt. none from;
  }

  abbrev Pair : Link P → Inlet P → Type 0
  Pair l i = IsLink follows l × (IsInlet i × (receives_on i.receiver ≡ sends_on l.sender))

  pair_all : (links : List (Link P)) (inlets : List (Inlet P)) → length links ≡ length inlets → ((k : ℕ) (d : Link P) (e : Inlet P) → k < length links → Pair (get_or links k d) (get_or inlets k e)) → ArePaired follows links inlets
  pair_all [] [] same each = tt
  pair_all [] (i ∷ inlets) same each = absurd (omega (arith, same))
  pair_all (l ∷ links) [] same each = absurd (omega (arith, same))
  pair_all (l ∷ links) (i ∷ inlets) same each =
      (each 0 l i (omega arith), pair_all links inlets (omega (arith, same)) (λ k d e within. each (suc k) d e (omega (arith, within))))

  -- once they ended, each link and the inlet at its place are of one inbox
  pub still_paired : (answered : ℕ → P → Delivery → Type 0) (delivered : ℕ → List P) (plan : FaultPlan) (node : ℕ) (links links' : List (Link P)) (inlets inlets' : List (Inlet P)) → AreConnected follows plan node links inlets → AreDoneLinks follows links links' → Serves answered delivered inlets inlets'
      → ArePaired follows links' inlets'
  still_paired answered delivered plan node links links' inlets inlets' was done serves =
      let long : length inlets' ≡ length inlets = as_long (λ (i : Inlet P). i.receiver) inlets' inlets serves.same.0 in
      pair_all links' inlets' (omega (arith, long, done.all, was.long)) (λ k d e within.
      let here : k < length links = omega (arith, within, done.all) in
      let there : k < length inlets' = omega (arith, here, long, was.long) in
      let one = was.each k d e here in
      let did = done.each k d here in (
        did.link,
        (
          (serves.serving.are k e there).0,
          ap receives_on (mapped (λ (i : Inlet P). i.receiver) inlets' inlets k e serves.same.0 there (omega (arith, there, long))) ∙ one.one ∙ ap sends_on (sym did.same.0),
        ),
      ))

  -- one pair of many is closed
  pub lane_at : (links : List (Link P)) (inlets : List (Inlet P)) (k : ℕ) (d : Link P) (e : Inlet P) → AreLanes follows links inlets → k < length links → k < length inlets
      → IsLane (follows (get_or links k d).way) (get_or links k d).plan (view (get_or inlets k e).pass).took
  lane_at [] inlets k d e are here there = absurd (omega (arith, here))
  lane_at (l ∷ links) [] k d e are here there = absurd (omega (arith, there))
  lane_at (l ∷ links) (i ∷ inlets) zero d e are here there = are.0
  lane_at (l ∷ links) (i ∷ inlets) (suc k) d e are here there = lane_at links inlets k d e are.1 (omega (arith, here)) (omega (arith, there))

  lane_as : (w w' : Way) (p p' : FaultPlan) (took : List P) → w ≡ w' → p ≡ p' → IsLane (follows w) p took → IsLane (follows w') p' took
  lane_as w w' p p' took ways plans is = subst (λ x. IsLane (follows x) p' took) ways (subst (λ y. IsLane (follows w) y took) plans is)

module _ {P : Type 0} (follows : Way → Option P → P → Type 0) (answered : ℕ → P → Delivery → Type 0) where
  -- a node to which nothing was delivered
  pub none_heard : (delivered : ℕ → List P) (plan : FaultPlan) (node : ℕ) (senders : List ℕ) → ((from : ℕ) → delivered from ≡ []) → IsNodeHeard follows answered plan node senders delivered
  none_heard delivered plan node senders none = record {
    each = λ k d within. record {
      took = [];
      lane = record { sent = []; last = None; in_turn = refl; rest = []; front = refl };
      chosen = record { asked = []; each = λ j a none. absurd (omega (arith, none)); are = none (get_or senders k d); cut = []; few = omega arith; all = refl };
    };
    only = λ from isnt. none from;
  }

  -- what was delivered out of an inbox of a node that ended
  inbox_heard : (delivered : ℕ → List P) (plan : FaultPlan) (node : ℕ) (links links' : List (Link P)) (inlets inlets' : List (Inlet P)) → AreConnected follows plan node links inlets → AreDoneLinks follows links links' → Serves answered delivered inlets inlets'
      → AreLanes follows links' inlets' → (k : ℕ) (e : Inlet P) → k < length inlets → IsInboxHeard (follows (record { from = (get_or inlets k e).from; to = node })) (answered (get_or inlets k e).from) plan (delivered (get_or inlets k e).from)
  inbox_heard delivered plan node links links' inlets inlets' was done serves lanes k e within =
      let long : length inlets' ≡ length inlets = as_long (λ (i : Inlet P). i.receiver) inlets' inlets serves.same.0 in
      let here : k < length links = omega (arith, within, was.long) in
      let there : k < length inlets' = omega (arith, within, long) in
      let d : Link P = at links k here in
      let one = was.each k d e here in
      let did = done.each k d here in
      record {
        took = (view (get_or inlets' k e).pass).took;
        lane = lane_as follows _ _ _ _ _ (did.same.1 ∙ one.way_is) (did.same.2 ∙ one.plan_is) (lane_at follows links' inlets' k d e lanes (omega (arith, here, done.all)) there);
        chosen = subst (λ from. IsChosen (answered from) 1 (delivered from) (view (get_or inlets' k e).pass).took) (mapped (λ (i : Inlet P). i.from) inlets' inlets k e serves.same.1 there within) (serves.serving.are k e there).1;
      }

  heard_from : (delivered : ℕ → List P) (plan : FaultPlan) (node : ℕ) (inlets : List (Inlet P)) → ((k : ℕ) (e : Inlet P) → k < length inlets → IsInboxHeard (follows (record { from = (get_or inlets k e).from; to = node })) (answered (get_or inlets k e).from) plan (delivered (get_or inlets k e).from))
      → (from : ℕ) → Contains (senders_of inlets) from → IsInboxHeard (follows (record { from = from; to = node })) (answered from) plan (delivered from)
  heard_from delivered plan node inlets each from has =
      let within : has.0 < length inlets = omega (arith, has.1, length-map inlets (λ (i : Inlet P). i.from)) in
      let e : Inlet P = at inlets has.0 within in
      subst (λ x. IsInboxHeard (follows (record { from = x; to = node })) (answered x) plan (delivered x)) (sym (get_or-map (λ (i : Inlet P). i.from) inlets has.0 e from within) ∙ has.2) (each has.0 e within)

  -- of each inbox of a node that ended
  pub node_heard : (delivered : ℕ → List P) (plan : FaultPlan) (node : ℕ) (senders : List ℕ) (links links' : List (Link P)) (inlets inlets' : List (Inlet P)) → AreConnected follows plan node links inlets → AreSameNumbers senders (senders_of inlets)
      → AreDoneLinks follows links links' → Serves answered delivered inlets inlets' → AreLanes follows links' inlets' → IsNodeHeard follows answered plan node senders delivered
  node_heard delivered plan node senders links links' inlets inlets' was same done serves lanes = record {
    each = λ k d within. heard_from delivered plan node inlets (inbox_heard delivered plan node links links' inlets inlets' was done serves lanes) (get_or senders k d) (same.each k d within);
    only = λ from isnt. serves.serving.only from (λ has. isnt (All-contains (Contains senders) (senders_of inlets) from same.only (subst (λ xs. Contains xs from) serves.same.1 has)));
  }

  -- what nodes heard, where they are a slice of all of a vector
  pub all_heard : {E : Type 0} → (node : E → ℕ) (senders : E → List ℕ) (delivered : E → ℕ → List P) (plan : FaultPlan) (old lent new : List E) (n : ℕ) → lent ≡ old → n ≡ length old → length new ≡ length lent
      → ((i : ℕ) (e : E) → i < length lent → IsNodeHeard follows answered plan (node (get_or lent i e)) (senders (get_or lent i e)) (delivered (get_or new i e)))
      → (i : ℕ) (e : E) → i < length old → IsNodeHeard follows answered plan (node (get_or old i e)) (senders (get_or old i e)) (delivered (get_or (take n (new ++ drop (length new) old)) i e))
  all_heard node senders delivered plan old lent new n is all same each i e within =
      subst (λ xs. IsNodeHeard follows answered plan (node (get_or old i e)) (senders (get_or old i e)) (delivered (get_or xs i e))) (sym (written old new n all (same ∙ ap length is)))
      (subst (λ xs. IsNodeHeard follows answered plan (node (get_or xs i e)) (senders (get_or xs i e)) (delivered (get_or new i e))) is (each i e (subst (λ m. i < m) (sym (ap length is)) within)))
