use Rattle.std.proofs.Common.{◌==◌, ap, ◌∙◌, slice_range}
use Rattle.std.specs.List.{count_by}
use Rattle.x12_envelopes.specs.declared.delimiters.Delims.{Delims}
use Rattle.x12_envelopes.specs.Header.{is_barred, elements_are_plain, delimiters_of}
use Rattle.x12_envelopes.proofs.HeaderCountLemmas.{free_by_count, separators_are_barred}
use Rattle.x12_envelopes.proofs.header.are_plain.Goals as goal

pub returns : goal.returns
unfolding elements_are_plain
returns c =
    let bytes = c.args.bytes.now in
    ap (λ n. n == 15) (c.from.ensures ∙ c.barred_count.ensures)
    ∙ ap (λ (d : Delims). count_by (is_barred d) (slice_range bytes 3 103) == 15) c.requires.delims
    ∙ free_by_count (is_barred (delimiters_of bytes)) bytes c.requires.header (separators_are_barred bytes c.requires.isa)
