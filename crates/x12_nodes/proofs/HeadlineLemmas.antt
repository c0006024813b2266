-- The world that a merge ends with is one of a run.
use Rattle.std.proofs.Common.{◌≡◌, ◌∙◌, ◌++◌, ◌∷◌, [], List, None, Option, Some, ap, refl, sym, subst}
use Rattle.x12_acks.specs.Submission.{TransactionSetKey}
use Rattle.x12_core.specs.Ask.{Ask, Fate, fate_told}
use Rattle.x12_core.specs.Node.{Node, IsStation}
use Rattle.x12_nodes.specs.Law.{HeadlineOfMerge, SubmittedFateIsTold}
use Rattle.x12_nodes.specs.Log.{FateIs}
use Rattle.x12_nodes.specs.Merge.{Logged, event_behind, events_behind, with_event, HappensSo, RunsAs}
use Rattle.x12_numbers.proofs.Shelf.{some_inj}
use Rattle.x12_outbound.specs.declared.fate.Fate.{Fate as SetFate}
use Rattle.x12_profile.specs.X12.{x12}
use Rattle.x12_world.specs.Headline.{Headline}
use Rattle.x12_station.specs.Station.{Station}
use Rattle.x12_station.specs.StationStep.{fate_by_key}
use Rattle.x12_world.specs.Audit.{KeysTell}
use Rattle.x12_world.specs.Run.{new_world, run, InEveryRun, InEveryWorld}
use Rattle.x12_world.specs.World.{Event, World}
use Rattle.x12_world.proofs.RunLemmas.{run-append}

pub headline_of_merge : InEveryRun x12 (Headline x12) → HeadlineOfMerge
headline_of_merge always net is xs last one more =
    subst (λ w. Headline x12 w (run x12 more w)) (sym one.is)
    (subst (Headline x12 (run x12 (events_behind [] xs) (new_world net))) (run-append x12 (events_behind [] xs) more (new_world net))
    (always net is (events_behind [] xs) more))

-- the world behind some entries is that of their events
runs_are : (before xs : List Logged) (w last : World) → RunsAs w before xs last → last ≡ run x12 (events_behind before xs) w
runs_are before [] w last is = is
runs_are before (x ∷ xs) w last is = by (event_behind before x) refl is.1 (runs_are (before ++ x ∷ []) xs is.0 last is.2)
  where
    by : (o : Option Event) → event_behind before x ≡ o → HappensSo w o x is.0 → last ≡ run x12 (events_behind (before ++ x ∷ []) xs) is.0 → last ≡ run x12 (events_behind before (x ∷ xs)) w
    by (Some e) at step rest =
        rest ∙ ap (run x12 (events_behind (before ++ x ∷ []) xs)) step.world ∙ ap (λ o. run x12 (with_event o (events_behind (before ++ x ∷ []) xs)) w) (sym at)
    by None at step rest =
        rest ∙ ap (run x12 (events_behind (before ++ x ∷ []) xs)) step.same ∙ ap (λ o. run x12 (with_event o (events_behind (before ++ x ∷ []) xs)) w) (sym at)

-- what a station tells of a key
told_of : (s : Station) (k : TransactionSetKey) (ask : Ask) (fate : Option SetFate) → ask ≡ Fate k → fate_told x12 ask (IsStation s) ≡ Some fate → fate_by_key x12 s k ≡ fate
told_of s k ask fate is told = some_inj (subst (λ a. fate_told x12 a (IsStation s) ≡ Some fate) is told)

-- and so a station tells some fate of what it submitted
pub submitted_fate : InEveryWorld x12 (KeysTell x12) → SubmittedFateIsTold
submitted_fate keys net is before w runs x new told s b t at submitted set ask =
    let reached : KeysTell x12 w = subst (KeysTell x12) (sym (runs_are [] before (new_world net) w runs)) (keys net is (events_behind [] before)) in
    let node : told.node ≡ IsStation s = some_inj (sym told.there ∙ at) in
    let known = told_of s _ x.entry.ask told.fate ask (subst (λ (n : Node). fate_told x12 x.entry.ask n ≡ Some told.fate) node told.told) in
    (_, told.answer ∙ ap FateIs (sym known ∙ reached.held x.node s b t at submitted set))
