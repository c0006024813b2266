-- The answers of functional groups are numbered in their order.
use Rattle.std.proofs.Common.{◌≡◌, ℕ, ◌+◌, ◌<◌, List, [], ◌∷◌, ◌++◌, length, map, take, flat_map, get_or, ap, sym, ◌∙◌, arith, append_assoc, append-nil}
use Rattle.std.specs.List.{enumerate_from}
use Rattle.std.proofs.lemmas.List.{take_more, map-append, length-map, length-take-le}
use Rattle.std.proofs.lemmas.Grind.{flat_map-append}
use Rattle.x12_envelopes.specs.declared.delimiters.Delims.{Delims}
use Rattle.x12_envelopes.specs.Segment.{segment_text, text_of}
use Rattle.x12_envelopes.specs.Envelope.{WrittenSet, set_segments}
use Rattle.x12_judge.specs.declared.verdict.GroupVerdict.{GroupVerdict}
use Rattle.x12_judge.specs.Group.{FunctionalGroupVerdict}
use Rattle.x12_judge.specs.Verdict.{group_verdict_view}
use Rattle.x12_acks.specs.Reply.{group_answer, numbered_answers}
use Rattle.x12_numbers.proofs.Shelf.{enumerate_push}

one_more : (gs : List FunctionalGroupVerdict) (g : FunctionalGroupVerdict) (n : ℕ) → n ≡ length gs + 1
    → numbered_answers (gs ++ g ∷ []) ≡ numbered_answers gs ++ group_answer n g ∷ []
one_more gs g n e =
    let answer : ℕ × FunctionalGroupVerdict → WrittenSet = λ place. group_answer place.0 place.1 in
    let k : 1 + length gs ≡ n = omega (arith, e) in
    ap (map answer) (enumerate_push 1 gs g)
    ∙ map-append answer (enumerate_from 1 gs) ((1 + length gs, g) ∷ [])
    ∙ ap (λ m. numbered_answers gs ++ group_answer m g ∷ []) k

text_more : (d : Delims) (ws : List WrittenSet) (w : WrittenSet)
    → text_of d (flat_map set_segments (ws ++ w ∷ [])) ≡ text_of d (flat_map set_segments ws) ++ text_of d (set_segments w)
text_more d ws w =
    ap (text_of d) (flat_map-append set_segments ws (w ∷ []) ∙ ap (λ t. flat_map set_segments ws ++ t) (append-nil (set_segments w)))
    ∙ flat_map-append (segment_text d) (flat_map set_segments ws) (set_segments w)

pub one_answer_more :
    (d : Delims) (groups : List GroupVerdict) (i n : ℕ) (item : GroupVerdict) (old out new : List ℕ)
    → i < length groups
    → item ≡ get_or groups i item
    → n ≡ i + 1
    → out ≡ old ++ text_of d (flat_map set_segments (numbered_answers (map group_verdict_view (take i groups))))
    → new ≡ out ++ text_of d (set_segments (group_answer n (group_verdict_view item)))
    → new ≡ old ++ text_of d (flat_map set_segments (numbered_answers (map group_verdict_view (take (i + 1) groups))))
one_answer_more d groups i n item old out new below is number before after =
    let front = map group_verdict_view (take i groups) in
    let place : n ≡ length front + 1 = omega (arith, number, length-map (take i groups) group_verdict_view, length-take-le i groups (omega arith)) in
    let taken : map group_verdict_view (take (i + 1) groups) ≡ front ++ group_verdict_view item ∷ [] =
    ap (map group_verdict_view) (take_more groups i item below ∙ ap (λ x. take i groups ++ x ∷ []) (sym is))
    ∙ map-append group_verdict_view (take i groups) (item ∷ []) in
    let answers : numbered_answers (map group_verdict_view (take (i + 1) groups)) ≡ numbered_answers front ++ group_answer n (group_verdict_view item) ∷ [] =
    ap numbered_answers taken ∙ one_more front (group_verdict_view item) n place in
    after ∙ ap (λ t. t ++ text_of d (set_segments (group_answer n (group_verdict_view item)))) before
    ∙ append_assoc old (text_of d (flat_map set_segments (numbered_answers front))) (text_of d (set_segments (group_answer n (group_verdict_view item))))
    ∙ ap (λ t. old ++ t) (sym (ap (λ ws. text_of d (flat_map set_segments ws)) answers ∙ text_more d (numbered_answers front) (group_answer n (group_verdict_view item))))
