-- What a header that can be read says, and what is said where none can be.
use Rattle.std.proofs.Common.{◌≡◌, ◌∙◌, sym, refl, Err}
use Rattle.x12_envelopes.specs.declared.header.HeaderFault.{HeaderFault}
use Rattle.x12_envelopes.specs.Header.{header_of}
use Rattle.x12_profile.proofs.FieldLemmas.{number_is}
use Rattle.x12_profile.specs.Interchange.{Bytes}
use Rattle.x12_profile.specs.Reading.{header_in}
use Rattle.x12_profile.specs.X12.{x12}
use Rattle.x12_nodes.proofs.telling.number_of.Goals as goal

no_number : (b : Bytes) (f : HeaderFault) → header_of b ≡ Err f → x12.number b ≡ 0
unfolding x12 header_in
no_number b f is = rw is refl

pub returns-in-Ok : goal.returns-in-Ok
returns-in-Ok c = sym (number_is c.args.bytes.now c.in-Ok.header (sym c.read_header.ensures ∙ c.in-Ok.is))

pub returns-in-Err : goal.returns-in-Err
returns-in-Err c = sym (no_number c.args.bytes.now c.in-Err.field-0 (sym c.read_header.ensures ∙ c.in-Err.is))
