-- The parts of a commit, put together.
use Rattle.std.proofs.Common.{◌≡◌, ◌+◌, ◌++◌, ◌∷◌, [], ℕ, List, length, length-append, subst, arith}
use Rattle.sqlite.specs.State.{State}
use Rattle.x12_envelopes.specs.declared.party.Party.{Party}
use Rattle.x12_hub.specs.Hub.{Decision, HubOutcome, Boxed, Refused}
use Rattle.x12_hub.specs.Plan.{HubAct, Decides, PutsBack, TakesOut, Enrols, Dismisses, HubCommit, hub_changed}
use Rattle.x12_tables.specs.Change.{Always}
use Rattle.x12_hub_records.specs.HubChange.{put_in, taken_out, decision_of, FitsAfter, EntersHub, enrolled_too, without_party, HasNext, RisesWith, TurnsHub, MakesHubAct, decided_too, last_after, with_last_hub_numbers, FollowsHubCommit}

next_of : (item : ℕ) (ds : List Decision) (d : Decision) → item ≡ length (ds ++ d ∷ []) → item ≡ 1 + length ds
next_of item ds d is = omega (arith, is, length-append ds (d ∷ []))

module _ (a b : State) where
  pub made_refusal : (item : ℕ) (body reply : List ℕ) → TurnsHub (decided_too (decision_of body (Refused reply))) (HasNext item) a b
      → TurnsHub (hub_changed (Decides body (Refused reply))) (FitsAfter item (Decides body (Refused reply))) a b
  made_refusal item body reply turns last s fits has = turns last s (next_of item s.decisions (decision_of body (Refused reply)) fits.count) has

  pub made_decision : (at item : ℕ) (body : List ℕ) (o : HubOutcome) → TurnsHub (hub_changed (Decides body o)) (FitsAfter item (Decides body o)) a b → MakesHubAct at item (Decides body o) a b
  made_decision at item body o turns last s above fits has = turns last s fits has

  pub made_put : (at item node n : ℕ) → TurnsHub (put_in node n) (RisesWith node n) a b → MakesHubAct at item (PutsBack node n) a b
  made_put at item node n turns last s above fits has = turns last s fits.rising has

  pub made_take : (at item n : ℕ) → TurnsHub (taken_out n) Always a b → MakesHubAct at item (TakesOut n) a b
  made_take at item n turns last s above fits has = turns last s tt has

  pub made_enrol : (at item : ℕ) (party : Party) (node : ℕ) → EntersHub at (enrolled_too party node) a b → MakesHubAct at item (Enrols party node) a b
  made_enrol at item party node enters last s above fits has = enters last s above has

  pub made_dismiss : (at item : ℕ) (party : Party) → TurnsHub (without_party party) Always a b → MakesHubAct at item (Dismisses party) a b
  made_dismiss at item party turns last s above fits has = turns last s tt has

module _ (a b c : State) where
  pub made_box : (item node boxed : ℕ) (body : List ℕ) → TurnsHub (decided_too (decision_of body (Boxed node boxed))) (HasNext item) a b → TurnsHub (put_in node boxed) (RisesWith node boxed) b c
      → TurnsHub (hub_changed (Decides body (Boxed node boxed))) (FitsAfter item (Decides body (Boxed node boxed))) a c
  made_box item node boxed body first second last s fits has =
      second last (decided_too (decision_of body (Boxed node boxed)) s) fits.rising (first last s (next_of item s.decisions (decision_of body (Boxed node boxed)) fits.count) has)

  pub planned : (at icn item : ℕ) (ch : HubAct) (plan : HubCommit) → icn ≡ plan.icn → item ≡ plan.item → ch ≡ plan.change → MakesHubAct at item ch a b → TurnsHub (with_last_hub_numbers icn item) Always b c → FollowsHubCommit at plan a.now c.now
  planned at icn item ch plan p q r first second last s above sound has =
      let change : MakesHubAct at plan.item plan.change a b = subst (λ i. MakesHubAct at i plan.change a b) q (subst (λ k. MakesHubAct at item k a b) r first) in
      let count : TurnsHub (with_last_hub_numbers plan.icn plan.item) Always b c = subst (λ i. TurnsHub (with_last_hub_numbers i plan.item) Always b c) p (subst (λ k. TurnsHub (with_last_hub_numbers icn k) Always b c) q second) in
      count (last_after plan.change at last) (hub_changed plan.change s) tt (change last s above (record { rising = sound.rising; count = sound.count }) has)
