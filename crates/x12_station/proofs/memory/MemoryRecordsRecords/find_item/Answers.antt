-- What is found in memory under a number is what the tables have under it.
use Rattle.std.proofs.Common.{◌∙◌, ap, sym, subst, refl, map, find, Option, option_map}
use Rattle.std.specs.Prelude.{◌==◌, List}
use Rattle.std.specs.Option.{option_or}
use Rattle.x12_station.specs.declared.submissions.NumberedEntry.{NumberedEntry}
use Rattle.x12_station.specs.Durable.{item_of_arrival}
use Rattle.x12_station.specs.History.{Item, Submitted}
use Rattle.x12_station.specs.Record.{owner_view}
use Rattle.x12_station.specs.Stored.{marks_of}
use Rattle.x12_station.specs.Memory.{SeqsRise, NumberedRow, arrival_view, memory_view, numbered_row, rows_in}
use Rattle.x12_station.proofs.FindingLemmas.{submissions_rise, submitted_alike}
use Rattle.x12_station.proofs.memory.MemoryRecordsRecords.find_item.Goals as goal

pub find_numbered-requires-clause-submitted : goal.find_numbered-requires-clause-submitted
find_numbered-requires-clause-submitted c =
    let r = c.args.self.now in
    subst (λ (l : List NumberedEntry). SeqsRise (map numbered_row l)) (sym c.deref.ensures.value)
    (submissions_rise (memory_view r) (rows_in r) refl c.requires.sound.numbered)

pub returns-clause-found : goal.returns-clause-found
returns-clause-found c = λ answers.
    let r = c.args.self.now in
    let marks = marks_of (owner_view r.owner) in
    let came = option_map (item_of_arrival marks c.args.seq) (find (λ q. q.seq == c.args.seq) (map arrival_view r.arrivals.entries)) in
    c.in_ok-find_numbered.ensures marks
    ∙ ap (λ (l : List NumberedEntry). option_or (option_map (λ (n : NumberedRow). Submitted n.entry.bytes) (find (λ n. n.seq == c.args.seq) (map numbered_row l))) came) c.deref.ensures.value
    ∙ ap (λ (o : Option Item). option_or o came) (submitted_alike c.args.seq (rows_in r))
