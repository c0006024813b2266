-- The groups of what was read, and none of what wasn't.
use Rattle.std.proofs.Common.{◌≤◌, length, sym, subst, ◌∙◌, ap, arith}
use Rattle.std.specs.Prelude.{All, vec_len}
use Rattle.x12_envelopes.specs.declared.shape.GroupView.{GroupView}
use Rattle.x12_envelopes.specs.Shape.{outline_view}
use Rattle.x12_world.specs.Placing.{sets_of_groups}
use Rattle.x12_profile.proofs.FieldLemmas as field
use Rattle.x12_world.proofs.PlacingLemmas.{no_outline, none_few}
use Rattle.x12_world.proofs.placing.groups_of.Goals as goal

pub returns-in-Ok-clause-sets : goal.returns-in-Ok-clause-sets
returns-in-Ok-clause-sets c =
    let h = c.args.header.now in
    field.sets_are c.args.bytes.now h c.requires.read (outline_view h.delims c.in-Ok.outline) c.in-Ok.ensures.outline

pub returns-in_default : goal.returns-in_default
returns-in_default c =
    let h = c.args.header.now in
    let none = sym c.new.ensures.items in
    record {
      sets = no_outline c.args.bytes.now h c.in-Err.fault c.requires.read c.in_default.not-Memory c.in-Err.ensures.outline ∙ ap (sets_of_groups h.delims) none;
      few = subst (λ gs. length gs ≤ 32) none (omega arith);
      short = subst (All (λ (g : GroupView). vec_len g.sets ≤ 400)) none none_few;
    }
