use Rattle.std.proofs.Common.{◌≡◌, ap, subst, sym, refl, All, OnOk, ℕ, List}
use Rattle.x12_station.specs.History.{Item}
use Rattle.x12_station.specs.Memory.{memory_view}
use Rattle.x12_station.specs.Record.{Loaded, loaded_of, loaded_view}
use Rattle.x12_station.specs.Stored.{Stored, entries}
use Rattle.x12_verify.specs.Entries.{IsRightSubmission}
use Rattle.x12_verify.specs.Told.{items_up_to}
use Rattle.x12_verify.proofs.EntryLemmas.{are_open}
use Rattle.x12_verify.proofs.ToldLemmas.{all_items}
use Rattle.x12_verify.proofs.verifying.test_told.Goals as goal

pub test_submissions-requires-clause-open : goal.test_submissions-requires-clause-open
test_submissions-requires-clause-open g c = λ answers.
    are_open (g.R.Records.content c.args.records.now) (loaded_view c.args.holder.now.loaded.now) (c.requires.loaded answers) c.requires.sound.laid

pub test_submissions-requires-clause-told_open : goal.test_submissions-requires-clause-told_open
test_submissions-requires-clause-told_open g c = λ answers.
    are_open (memory_view c.load.new.self) (loaded_view c.in_ok-due.due)
    (subst (λ (d : Stored). loaded_view c.in_ok-due.due ≡ loaded_of d) (sym (c.load.ensures.same answers)) (c.in_ok-due.ensures.loaded answers)) c.in_ok-due.ensures.sound.laid

pub returns-clause-right : goal.returns-clause-right
returns-clause-right g c = λ answers.
    let es = entries (g.R.Records.content c.args.records.now) in
    let d = memory_view c.args.told in
    let r = c.test_submissions.result in
    let whole = subst (λ (q : Stored). OnOk r (All (IsRightSubmission es (entries q)) (items_up_to q c.in_ok-due.due.seq))) (c.load.ensures.same refl) (c.test_submissions.ensures.right answers refl) in
    let all = subst (λ (n : ℕ). OnOk r (All (IsRightSubmission es (entries d)) (items_up_to d n))) (ap (λ (l : Loaded). l.seq) (c.in_ok-due.ensures.loaded refl)) whole in
    subst (λ (l : List Item). OnOk r (All (IsRightSubmission es (entries d)) l)) (all_items d) all
