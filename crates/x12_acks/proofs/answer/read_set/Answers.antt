use Rattle.std.proofs.Common.{◌≡◌, ◌∙◌, ◌∷◌, [], List, ℕ, Result, Ok, Err, IfOk, map, ap, refl}
use Rattle.x12_envelopes.specs.declared.delimiters.Delims.{Delims}
use Rattle.x12_envelopes.specs.Cutting.{delimited}
use Rattle.x12_envelopes.specs.Segment.{elements_of, parts_of}
use Rattle.x12_acks.specs.Answer.{answer_of, set_answer_of}
use Rattle.x12_acks.specs.Statement.{statement_of}
use Rattle.x12_acks.proofs.answer.read_set.Goals as goal

if_ok : {A E : Type 0} (P Q : A → Type 0) (r : Result A E) → ((a : A) → P a → Q a) → IfOk r P → IfOk r Q
if_ok P Q (Ok a) step held = step a held
if_ok P Q (Err e) step held = held

-- segments under their delimiters state what their elements do
stated : (d : Delims) (parts : List (List ℕ)) → map (λ s. statement_of (elements_of s.delims s.bytes)) (map (delimited d) parts) ≡ map (λ part. statement_of (elements_of d part)) parts
stated d [] = refl
stated d (part ∷ parts) = ap (λ l. statement_of (elements_of d part) ∷ l) (stated d parts)

pub returns : goal.returns
unfolding set_answer_of
returns c =
    let d = c.args.delims.now in
    let parts = parts_of d c.args.set.now.bytes.now in
    let is = ap (map (λ s. statement_of (elements_of s.delims s.bytes))) c.segments.ensures.segments ∙ stated d parts in
    if_ok _ _ c.read_statements.result (λ a e. e ∙ ap answer_of is) c.read_statements.ensures
