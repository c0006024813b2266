use Rattle.std.proofs.Common.{◌∙◌, ap, map, subst, All, ℕ}
use Rattle.x12_inbound.specs.Posting.{posting_view}
use Rattle.x12_numbers.specs.Book.{Numbers}
use Rattle.x12_station.specs.Durable.{items_of}
use Rattle.x12_station.specs.Memory.{memory_view}
use Rattle.x12_station.specs.Record.{Loaded, owner_view}
use Rattle.x12_station.specs.Stored.{Stored, entries}
use Rattle.x12_verify.specs.Entries.{IsRightSubmission}
use Rattle.x12_verify.specs.Told.{HoldsTold}
use Rattle.x12_verify.proofs.HistoryLemmas.{held_history}
use Rattle.x12_verify.proofs.verifying.hold.Goals as goal

pub returns-clause-sound : goal.returns-clause-sound
returns-clause-sound g c = λ answers.
    let told_answers = c.in_ok-test_told.ensures.asked.never_won_back answers in
    let kept_answers = c.in_ok-telling.ensures.asked.never_won_back told_answers in
    let first_answers = c.in_ok-kept.ensures.never_won_back kept_answers in
    let s = g.R.Records.content c.args.records.now in
    let d = memory_view c.in_ok-telling.told in
    let o = owner_view c.args.holder.now.owner in
    let all = map posting_view c.deref.result.now in
    let left = map posting_view c.in_ok-telling.telling.postings.left.now in
    let same = c.in_ok-kept.ensures.same kept_answers in
    let loaded = c.requires.loaded first_answers in
    let told = subst (λ (q : Stored). HoldsTold q d o c.args.holder.now.loaded.now.book c.args.holder.now.loaded.now.seq all left) same (c.in_ok-telling.ensures.told told_answers) in
    let numbered = subst (λ (n : ℕ). HoldsTold s d o c.args.holder.now.loaded.now.book n all left) (ap (λ (l : Loaded). l.seq) loaded) told in
    let holds = subst (λ (b : Numbers). HoldsTold s d o b s.seq all left) (ap (λ (l : Loaded). l.book) loaded) numbered in
    held_history s d o all left (g.met.R.Records.sound c.args.records.now c.requires.valid first_answers) (c.requires.origin first_answers) holds c.in_ok-sound.ensures.none
    (ap (map posting_view) c.deref.ensures.value ∙ c.in_ok-kept.ensures.found kept_answers)
    (subst (λ (q : Stored). All (IsRightSubmission (entries q) (entries d)) (items_of d)) (c.in_ok-telling.ensures.asked.same told_answers ∙ same) (c.in_ok-test_told.ensures.right answers))
