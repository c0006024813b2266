-- Numbers at 0 and nobody enrolled: such records are new.
use Rattle.std.proofs.Common.{◌≡◌, ◌∙◌, sym}
use Rattle.std.proofs.lemmas.Bool.Decides.{Decides-eqb}
use Rattle.x12_hub.proofs.StepLemmas.{new_tells}
use Rattle.x12_hub.proofs.hub.Hub.is_new.Goals.{then-self-eq0, else-self-eq0}
use Rattle.x12_hub.proofs.hub.Hub.is_new.Goals as goal

pub returns-then-self-eq0-2 : goal.returns-then-self-eq0-2
returns-then-self-eq0-2 g c =
    rw (← c.self.view_is)
    (λ answers.
    let keeps = c.self.invariant.2 answers in
    let s = g.H.HubRecords.content c.self.inside.records in
    let sound = g.met.H.HubRecords.sound c.self.inside.records c.self.invariant.0 answers in
    let tells = λ (icn : c.self.inside.cached.icn ≡ 0) (item : c.self.inside.cached.item ≡ 0). new_tells c.self.inside.cached.me s c.self.inside.cached sound keeps icn item c.is_empty.result c.is_empty.ensures in
    elim c.if-self-eq0.branch [
      | then-self-eq0 w ↦ tells w.if-self-eq0.true ((Decides-eqb c.self.inside.cached.item 0).0 (sym w.value-is ∙ c.if-self-eq0-2.true))
      | else-self-eq0 w ↦ absurd (w.if-self-eq0.false ((Decides-eqb c.self.inside.cached.icn 0).0 (sym w.value-is ∙ c.if-self-eq0-2.true)))
    ])
