-- The text of the functional group of acknowledgments, put together from its segments.
use Rattle.std.proofs.Common.{◌≡◌, ℕ, List, [], ◌∷◌, ◌++◌, length, map, flat_map, codes, decimal, ap, sym, ◌∙◌, append_assoc, append-nil}
use Rattle.std.specs.List.{enumerate_from}
use Rattle.std.proofs.lemmas.List.{length-map}
use Rattle.std.proofs.lemmas.List.FromFn.{length-enumerate_from}
use Rattle.std.proofs.lemmas.Grind.{flat_map-append}
use Rattle.x12_envelopes.specs.declared.delimiters.Delims.{Delims}
use Rattle.x12_envelopes.specs.declared.moment.Moment.{Moment}
use Rattle.x12_envelopes.specs.Segment.{segment_text, text_of}
use Rattle.x12_envelopes.specs.Envelope.{WrittenGroup, set_segments, ge_segment, group_segments}
use Rattle.x12_judge.specs.declared.verdict.GroupVerdict.{GroupVerdict}
use Rattle.x12_judge.specs.Group.{FunctionalGroupVerdict}
use Rattle.x12_judge.specs.Verdict.{group_verdict_view}
use Rattle.x12_acks.specs.Reply.{group_answer, numbered_answers, answer_header, answer_groups}

group_text : (d : Delims) (g : WrittenGroup)
    → text_of d (flat_map group_segments (g ∷ []))
    ≡ segment_text d g.header ++ text_of d (flat_map set_segments g.sets) ++ segment_text d (ge_segment g)
group_text d g =
    ap (text_of d) (append-nil (group_segments g))
    ∙ flat_map-append (segment_text d) (g.header ∷ flat_map set_segments g.sets) (ge_segment g ∷ [])
    ∙ ap (λ t. segment_text d g.header ++ text_of d (flat_map set_segments g.sets) ++ t) (append-nil (segment_text d (ge_segment g)))

pub numbered : (gs : List FunctionalGroupVerdict) → length (numbered_answers gs) ≡ length gs
numbered gs = length-map (enumerate_from 1 gs) (λ place. group_answer place.0 place.1) ∙ length-enumerate_from 1 gs

-- GS, the answers and GE, where there is a first group
answered : (d : Delims) (at : Moment) (gcn n : ℕ) (first : FunctionalGroupVerdict) (more : List FunctionalGroupVerdict) (old gs sets ge : List ℕ)
    → gs ≡ old ++ segment_text d (answer_header at gcn first)
    → sets ≡ gs ++ text_of d (flat_map set_segments (numbered_answers (first ∷ more)))
    → n ≡ length (first ∷ more)
    → ge ≡ sets ++ segment_text d (codes "GE" ∷ decimal n ∷ decimal gcn ∷ [])
    → ge ≡ old ++ text_of d (flat_map group_segments (answer_groups at gcn (first ∷ more)))
unfolding answer_groups
answered d at gcn n first more old gs sets ge header answers count trailer =
    let h = segment_text d (answer_header at gcn first) in
    let a = text_of d (flat_map set_segments (numbered_answers (first ∷ more))) in
    let t = segment_text d (codes "GE" ∷ decimal n ∷ decimal gcn ∷ []) in
    let group : WrittenGroup = record { header = answer_header at gcn first; sets = numbered_answers (first ∷ more) } in
    let counted : n ≡ length (numbered_answers (first ∷ more)) = count ∙ sym (numbered (first ∷ more)) in
    trailer ∙ ap (λ x. x ++ t) (answers ∙ ap (λ x. x ++ a) header)
    ∙ ap (λ x. x ++ t) (append_assoc old h a) ∙ append_assoc old (h ++ a) t
    ∙ ap (λ k. old ++ (h ++ a ++ segment_text d (codes "GE" ∷ decimal k ∷ decimal gcn ∷ []))) counted
    ∙ ap (λ x. old ++ x) (sym (group_text d group))

pub answered_view : (d : Delims) (at : Moment) (gcn n : ℕ) (groups : List GroupVerdict) (first : GroupVerdict) (more : List GroupVerdict) (old gs sets ge : List ℕ)
    → groups ≡ first ∷ more
    → gs ≡ old ++ segment_text d (answer_header at gcn (group_verdict_view first))
    → sets ≡ gs ++ text_of d (flat_map set_segments (numbered_answers (map group_verdict_view groups)))
    → n ≡ length groups
    → ge ≡ sets ++ segment_text d (codes "GE" ∷ decimal n ∷ decimal gcn ∷ [])
    → ge ≡ old ++ text_of d (flat_map group_segments (answer_groups at gcn (map group_verdict_view groups)))
answered_view d at gcn n groups first more old gs sets ge is header answers count trailer =
    let views = ap (map group_verdict_view) is in
    answered d at gcn n (group_verdict_view first) (map group_verdict_view more) old gs sets ge header
    (answers ∙ ap (λ vs. gs ++ text_of d (flat_map set_segments (numbered_answers vs))) views)
    (count ∙ sym (length-map groups group_verdict_view) ∙ ap length views)
    trailer
    ∙ ap (λ vs. old ++ text_of d (flat_map group_segments (answer_groups at gcn vs))) (sym views)
