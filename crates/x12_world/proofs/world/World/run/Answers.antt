-- Each event was taken where those before it left the network, which stays one that was reached.
use Rattle.std.proofs.Common.{◌≡◌, ◌≤◌, ◌<◌, ◌+◌, ◌++◌, ◌∷◌, [], ℕ, List, Ok, length, map, take, get_or, sym, subst, ap, ◌∙◌, arith}
use Rattle.std.proofs.lemmas.List.{get_or-map, length-map, map-append, take_all, take_more}
use Rattle.x12_profile.specs.X12.{x12}
use Rattle.x12_world.specs.EventView.{event_view}
use Rattle.x12_world.specs.Outcome.{EventOutcome}
use Rattle.x12_world.specs.Ran.{EachRan, outcome_view}
use Rattle.x12_world.specs.Reach.{IsReachable}
use Rattle.x12_world.specs.Refusing.{IsNetworkRefusal}
use Rattle.x12_world.specs.Effect.{asked_by}
use Rattle.x12_world.specs.Running.{AllAnswer, Running}
use Rattle.x12_world.proofs.AnswerLemmas.{all_back, asked_of_all}
use Rattle.x12_world.specs.World.{Event}
use Rattle.x12_world.specs.Disks.{disks_of}
use Rattle.x12_world.proofs.DisksLemmas.{all_still, each_handed, each_then}
use Rattle.x12_world.proofs.RanLemmas.{by_run, each_more, headline_both, onward_of, reached_run, stopped}
use Rattle.x12_world.proofs.world.World.run.Goals as goal
use Rattle.x12_numbers.proofs.Shelf.{mapped_at}

-- the view of an element
item_at : {A B : Type 0} (f : A → B) (xs : List A) (i : ℕ) (x : A) → i < length xs → x ≡ get_or xs i x → get_or (map f xs) i (f x) ≡ f x
item_at f xs i x lt is = get_or-map f xs i x (f x) lt ∙ ap f (sym is)

one_taken : {A B : Type 0} (f : A → B) (xs : List A) (i : ℕ) (x : A) → i < length xs → x ≡ get_or xs i x → take (i + 1) (map f xs) ≡ take i (map f xs) ++ f x ∷ []
one_taken f xs i x lt is = take_more (map f xs) i (f x) (let e = length-map xs f in omega arith) ∙ ap (λ y. take i (map f xs) ++ y ∷ []) (item_at f xs i x lt is)

pub returns-in_default-clause-headline : goal.returns-in_default-clause-headline
returns-in_default-clause-headline g c = λ answers.
    let w = c.args.self.now.world in
    let reach = subst (λ (v : Running). AllAnswer v → IsReachable x12 v.world) c.self.view_is c.self.invariant.reached answers in
    (c.reached.ensures.reached.headline w reach [], c.reached.ensures.reached.headline w reach)

pub returns-in-Err-clause-stopped : goal.returns-in-Err-clause-stopped
returns-in-Err-clause-stopped g c = λ answers.
    let at = c.loop-event in
    let events = c.args.events.now in
    let es = map event_view events in
    let os = map outcome_view at.outcomes.items in
    let w = c.args.self.now.world in
    let new = c.apply.new.self.world in
    let place = at.place in
    let item = c.event-item.result in
    let asked = asked_of_all c.apply.new.self answers (asked_by at.self.world.packets (event_view item)) in
    let same = sym (c.in-Err.ensures.unchanged asked) in
    let lt : place < length events = let a = at.invariant.place in let b = c.loop-event-test.true in omega arith in
    let is : item ≡ get_or events place item = subst (λ k. item ≡ get_or events k item) (sym at.invariant.place) c.event-item.is in
    let within : place ≤ length es = let e = length-map events event_view in omega arith in
    stopped w new es os place c.in-Err.refused (event_view item) within
    (subst (EachRan w (take place es) os) same (at.invariant.each (all_back at.self.answers c.apply.new.self.answers c.in-Err.ensures.never_won_back answers)))
    (mapped_at event_view events place item lt is)
    (subst (λ v. IsNetworkRefusal v (event_view item) c.in-Err.refused) same (c.in-Err.ensures.refused asked))

pub returns-in-Err-clause-headline : goal.returns-in-Err-clause-headline
returns-in-Err-clause-headline g c = λ answers.
    let at = c.loop-event in
    let es = map event_view c.args.events.now in
    let os = map outcome_view at.outcomes.items in
    let w = c.args.self.now.world in
    let new = c.apply.new.self.world in
    let before = all_back at.self.answers c.apply.new.self.answers c.in-Err.ensures.never_won_back answers in
    let reach = subst (λ (v : Running). AllAnswer v → IsReachable x12 v.world) c.self.view_is c.self.invariant.reached (all_back c.args.self.now.answers at.self.answers (λ k. (at.invariant.disks k).never_won_back) before) in
    headline_both c.reached.ensures.reached w new (take at.place es) os reach
    (subst (EachRan w (take at.place es) os) (sym (c.in-Err.ensures.unchanged (asked_of_all c.apply.new.self answers (asked_by at.self.world.packets (event_view c.event-item.result))))) (at.invariant.each before))

pub loop-event-preserved : goal.loop-event-preserved
loop-event-preserved g c =
    let at = c.loop-event in
    let events = c.args.events.now in
    let es = map event_view events in
    let os = at.outcomes.items in
    let w = c.args.self.now.world in
    let mid = at.self.world in
    let new = c.apply.new.self.world in
    let place = at.place in
    let item = c.event-item.result in
    let outcome = c.in-Ok-apply.outcome in
    let lt : place < length events = let a = at.invariant.place in let b = c.loop-event-test.true in omega arith in
    let is : item ≡ get_or events place item = subst (λ k. item ≡ get_or events k item) (sym at.invariant.place) c.event-item.is in
    let told : map outcome_view c.push_reserved.new.self.items ≡ map outcome_view os ++ outcome_view outcome ∷ [] = ap (map outcome_view) c.push_reserved.ensures.items ∙ map-append outcome_view os (outcome ∷ []) in
    record {
      disks = each_then (Ok tt) tt (disks_of c.args.self.now) (disks_of c.loop-event.self) (disks_of c.apply.new.self) at.invariant.disks (each_handed (Ok tt) _ (disks_of c.loop-event.self) (disks_of c.apply.new.self) (λ P p. p) c.in-Ok-apply.ensures.disks);
      each = λ answers.
          subst (λ (xs : List EventOutcome). EachRan w (take (place + 1) es) xs new) (sym told)
          (subst (λ (xs : List Event). EachRan w xs (map outcome_view os ++ outcome_view outcome ∷ []) new) (sym (one_taken event_view events place item lt is))
          (each_more w mid new (take place es) (map outcome_view os) (event_view item) (outcome_view outcome) (at.invariant.each (all_back at.self.answers c.apply.new.self.answers c.in-Ok-apply.ensures.never_won_back answers)) (c.in-Ok-apply.ensures.ran (asked_of_all c.apply.new.self answers (asked_by mid.packets (event_view item))))));
      counts = c.in-Ok-apply.ensures.store.ok ∙ at.invariant.counts;
      place = ap (λ n. n + 1) at.invariant.place;
      count = let a = at.invariant.count in let b = c.push_reserved.ensures.len in omega arith;
      room = let a = at.invariant.room in let b = c.push_reserved.ensures.capacity in omega arith;
    }

pub returns-clause-ran : goal.returns-clause-ran
returns-clause-ran g c = λ answers.
    let at = c.loop-event in
    let events = c.args.events.now in
    let es = map event_view events in
    let os = map outcome_view at.outcomes.items in
    let w = c.args.self.now.world in
    let whole : length es ≤ at.place = let a = at.invariant.place in let b = c.loop-event-test.false in let e = length-map events event_view in omega arith in
    let each = subst (λ (xs : List Event). EachRan w xs os at.self.world) (take_all at.place es whole) (at.invariant.each answers) in
    record { each = each; world = by_run w at.self.world es os each }

pub returns-clause-headline : goal.returns-clause-headline
returns-clause-headline g c = λ answers.
    let at = c.loop-event in
    let es = map event_view c.args.events.now in
    let w = c.args.self.now.world in
    let reach = subst (λ (v : Running). AllAnswer v → IsReachable x12 v.world) c.self.view_is c.self.invariant.reached (all_back c.args.self.now.answers at.self.answers (λ k. (at.invariant.disks k).never_won_back) answers) in
    headline_both c.reached.ensures.reached w at.self.world (take at.place es) (map outcome_view at.outcomes.items) reach (at.invariant.each answers)

pub returns-in_default-clause-onward : goal.returns-in_default-clause-onward
returns-in_default-clause-onward g c = λ answers.
    let w = c.args.self.now.world in
    let reach = subst (λ (v : Running). AllAnswer v → IsReachable x12 v.world) c.self.view_is c.self.invariant.reached answers in
    (onward_of c.reached.ensures.reached w reach, onward_of c.reached.ensures.reached w reach)

pub returns-in-Err-clause-onward : goal.returns-in-Err-clause-onward
returns-in-Err-clause-onward g c = λ answers.
    let at = c.loop-event in
    let laws = c.reached.ensures.reached in
    let before = all_back at.self.answers c.apply.new.self.answers c.in-Err.ensures.never_won_back answers in
    let reach = subst (λ (v : Running). AllAnswer v → IsReachable x12 v.world) c.self.view_is c.self.invariant.reached (all_back c.args.self.now.answers at.self.answers (λ k. (at.invariant.disks k).never_won_back) before) in
    (onward_of laws c.args.self.now.world reach, onward_of laws c.apply.new.self.world (c.in-Err.ensures.reached answers))

pub returns-clause-onward : goal.returns-clause-onward
returns-clause-onward g c = λ answers.
    let at = c.loop-event in
    let es = map event_view c.args.events.now in
    let w = c.args.self.now.world in
    let laws = c.reached.ensures.reached in
    let reach = subst (λ (v : Running). AllAnswer v → IsReachable x12 v.world) c.self.view_is c.self.invariant.reached (all_back c.args.self.now.answers at.self.answers (λ k. (at.invariant.disks k).never_won_back) answers) in
    (onward_of laws w reach, onward_of laws at.self.world (reached_run laws w at.self.world (take at.place es) (map outcome_view at.outcomes.items) reach (at.invariant.each answers)))

-- The world before was reached.
pub returns-in_default-clause-before : goal.returns-in_default-clause-before
returns-in_default-clause-before g c = λ answers. onward_of c.reached.ensures.reached c.args.self.now.world (subst (λ (v : Running). AllAnswer v → IsReachable x12 v.world) c.self.view_is c.self.invariant.reached answers)

pub returns-in-Err-clause-before : goal.returns-in-Err-clause-before
returns-in-Err-clause-before g c = λ answers. onward_of c.reached.ensures.reached c.args.self.now.world (subst (λ (v : Running). AllAnswer v → IsReachable x12 v.world) c.self.view_is c.self.invariant.reached answers)

pub returns-clause-before : goal.returns-clause-before
returns-clause-before g c = λ answers. onward_of c.reached.ensures.reached c.args.self.now.world (subst (λ (v : Running). AllAnswer v → IsReachable x12 v.world) c.self.view_is c.self.invariant.reached answers)

-- What each event kept, all keep.
pub returns-in-Err-clause-disks : goal.returns-in-Err-clause-disks
returns-in-Err-clause-disks g c = each_then _ tt (disks_of c.args.self.now) (disks_of c.loop-event.self) (disks_of c.apply.new.self) c.loop-event.invariant.disks (each_handed _ _ (disks_of c.loop-event.self) (disks_of c.apply.new.self) (λ P p. tt) c.in-Err.ensures.disks)

pub returns-clause-disks : goal.returns-clause-disks
returns-clause-disks g c = each_handed _ (Ok tt) (disks_of c.args.self.now) (disks_of c.loop-event.self) (λ P p. p) c.loop-event.invariant.disks

pub returns-clause-whole : goal.returns-clause-whole
returns-clause-whole g c = all_still {A = Unit {0}} {E = Unit {0}} (Ok tt) c.args.self.now c.loop-event.self c.loop-event.invariant.disks
