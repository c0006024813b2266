use Rattle.std.proofs.Common.{refl}
use Rattle.x12_envelopes.proofs.OtherSegmentLemmas.{no_name_no_way, skips_none, skips_to}
use Rattle.x12_envelopes.proofs.transmission.behind_others.Goals as goal

pub returns-in_err-first-clause-none : goal.returns-in_err-first-clause-none
returns-in_err-first-clause-none c = λ none. no_name_no_way c.args.delims.now c.args.bytes.now (c.in_err-first.ensures.none refl)

pub returns-in-Some-clause-some : goal.returns-in-Some-clause-some
returns-in-Some-clause-some c =
    skips_to c.args.delims.now c.args.bytes.now c.split_at.result.0.now c.split_at-in-Some.result.1.now c.in_ok-first.first c.in-Some.end
    c.in_ok-first.ensures.some c.in_ok-first.ensures.within c.split_at.ensures.front c.in-Some.ensures.0.high c.in-Some.ensures.1 c.split_at-in-Some.ensures.back

pub returns-in-None-clause-some : goal.returns-in-None-clause-some
returns-in-None-clause-some c = skips_none c.args.delims.now c.args.bytes.now
