use Rattle.std.proofs.Common.{◌==◌, ◌&&◌, ap₂, ◌∙◌, List, ℕ, length}
use Rattle.x12_envelopes.specs.Byte.{text_has_length}
use Rattle.x12_envelopes.proofs.ElementLemmas.{st_is_by_two}
use Rattle.x12_envelopes.proofs.segment.Segment.is_st.Goals as goal

pub returns : goal.returns
returns c =
    c.have_st_form.ensures
    ∙ ap₂ (λ (set number : List ℕ). length set == 3 && text_has_length 4 9 number) c.first_two.ensures.first c.first_two.ensures.second
    ∙ st_is_by_two c.args.self.now.delims c.args.self.now.bytes.now
