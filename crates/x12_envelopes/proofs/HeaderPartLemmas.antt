-- The parts of ISA, as they are put together.
use Rattle.std.proofs.Common.{◌≡◌, ℕ, ◌+◌, List, [], ◌∷◌, ◌++◌, length, replicate, take, drop, flat_map, slice_set, codes, refl, sym, ap, ◌∙◌, append_assoc}
use Rattle.std.proofs.lemmas.Grind.{flat_map-append}
use Rattle.x12_envelopes.specs.declared.header.Header.{Header}
use Rattle.x12_envelopes.specs.Byte.{zero_padded_number}
use Rattle.x12_envelopes.specs.Letter.{space}
use Rattle.x12_envelopes.specs.Envelope.{segment_of_header}
use Rattle.x12_envelopes.specs.Segment.{segment_text}
use Rattle.x12_envelopes.proofs.HeaderTextLemmas.{cells, cells_are}

-- a text with a part put into it, from a place on
abbrev put_at : ℕ → List ℕ → List ℕ → List ℕ
put_at at part text = take at text ++ (part ++ drop (at + length part) text)

-- elements, each behind its separator
abbrev elements : ℕ → List (List ℕ) → List ℕ
elements e texts = flat_map (λ x. e ∷ x) texts

-- what holds of a list by its places holds of the list
by_cells : (n : ℕ) (f g : List ℕ → List ℕ) → ((xs : List ℕ) → f (cells n xs) ≡ g (cells n xs)) → (xs : List ℕ) → length xs ≡ n → f xs ≡ g xs
by_cells n f g same xs is = ap f (cells_are n xs is) ∙ same xs ∙ sym (ap g (cells_are n xs is))

pub party_text : (e : ℕ) (q id one two : List ℕ) → length q ≡ 2 → length id ≡ 15
    → one ≡ put_at 1 q (replicate 19 e) → two ≡ put_at 4 id one
    → two ≡ elements e (q ∷ id ∷ [])
party_text e q id one two q_size id_size first second =
    second ∙ ap (put_at 4 id) first
    ∙ by_cells 2 (λ q. put_at 4 id (put_at 1 q (replicate 19 e))) (λ q. elements e (q ∷ id ∷ [])) (λ q.
    by_cells 15 (λ id. put_at 4 id (put_at 1 (cells 2 q) (replicate 19 e))) (λ id. elements e (cells 2 q ∷ id ∷ [])) (λ id. refl) id id_size) q q_size

-- the texts of a making, put together
abbrev making_of : ℕ → ℕ → List ℕ → List ℕ → List ℕ → List ℕ
making_of e standard date time version =
    put_at 15 version (slice_set (put_at 8 time (put_at 1 date (replicate 20 e))) 13 standard)

abbrev making_elements : ℕ → ℕ → List ℕ → List ℕ → List ℕ → List ℕ
making_elements e standard date time version =
    elements e (date ∷ time ∷ (standard ∷ []) ∷ version ∷ [])

pub making_text : (e standard : ℕ) (date time version one two three : List ℕ) → length date ≡ 6 → length time ≡ 4 → length version ≡ 5
    → one ≡ put_at 1 date (replicate 20 e) → two ≡ put_at 8 time one → three ≡ put_at 15 version (slice_set two 13 standard)
    → three ≡ making_elements e standard date time version
making_text e standard date time version one two three date_size time_size version_size first second third =
    third ∙ ap (λ text. put_at 15 version (slice_set text 13 standard)) (second ∙ ap (put_at 8 time) first)
    ∙ by_cells 6 (λ date. making_of e standard date time version) (λ date. making_elements e standard date time version) (λ date.
    by_cells 4 (λ time. making_of e standard (cells 6 date) time version) (λ time. making_elements e standard (cells 6 date) time version) (λ time.
    by_cells 5 (making_of e standard (cells 6 date) (cells 4 time)) (making_elements e standard (cells 6 date) (cells 4 time)) (λ version. refl) version version_size) time time_size) date date_size

pub end_text : (e ack usage component terminator : ℕ) (number one : List ℕ) → length number ≡ 9
    → one ≡ put_at 1 number (replicate 17 e)
    → slice_set (slice_set (slice_set (slice_set one 11 ack) 13 usage) 15 component) 16 terminator
    ≡ elements e (number ∷ (ack ∷ []) ∷ (usage ∷ []) ∷ (component ∷ []) ∷ []) ++ terminator ∷ []
end_text e ack usage component terminator number one size first =
    ap (λ text. slice_set (slice_set (slice_set (slice_set text 11 ack) 13 usage) 15 component) 16 terminator) first
    ∙ by_cells 9 (λ number. slice_set (slice_set (slice_set (slice_set (put_at 1 number (replicate 17 e)) 11 ack) 13 usage) 15 component) 16 terminator)
    (λ number. elements e (number ∷ (ack ∷ []) ∷ (usage ∷ []) ∷ (component ∷ []) ∷ []) ++ terminator ∷ []) (λ number. refl) number size

-- five texts, put into one of 106 bytes
abbrev five_of : List ℕ → List ℕ → List ℕ → List ℕ → List ℕ → List ℕ
five_of a b c d e = put_at 89 e (put_at 69 d (put_at 50 c (put_at 31 b (put_at 0 a (replicate 106 0)))))

abbrev joined_of : List ℕ → List ℕ → List ℕ → List ℕ → List ℕ → List ℕ
joined_of a b c d e = a ++ (b ++ (c ++ (d ++ e)))

five_joined : (a b c d e : List ℕ) → length a ≡ 31 → length b ≡ 19 → length c ≡ 19 → length d ≡ 20 → length e ≡ 17 → five_of a b c d e ≡ joined_of a b c d e
five_joined a b c d e a_size b_size c_size d_size e_size =
    by_cells 31 (λ a. five_of a b c d e) (λ a. joined_of a b c d e) (λ a.
    by_cells 19 (λ b. five_of (cells 31 a) b c d e) (λ b. joined_of (cells 31 a) b c d e) (λ b.
    by_cells 19 (λ c. five_of (cells 31 a) (cells 19 b) c d e) (λ c. joined_of (cells 31 a) (cells 19 b) c d e) (λ c.
    by_cells 20 (λ d. five_of (cells 31 a) (cells 19 b) (cells 19 c) d e) (λ d. joined_of (cells 31 a) (cells 19 b) (cells 19 c) d e) (λ d.
    by_cells 17 (five_of (cells 31 a) (cells 19 b) (cells 19 c) (cells 20 d)) (joined_of (cells 31 a) (cells 19 b) (cells 19 c) (cells 20 d)) (λ e. refl) e e_size) d d_size) c c_size) b b_size) a a_size

-- elements in five parts are those of one segment
parts_joined : (e : ℕ) (name end : List ℕ) (a b c d f : List (List ℕ))
    → joined_of (name ++ elements e a) (elements e b) (elements e c) (elements e d) (elements e f ++ end)
    ≡ name ++ (elements e (a ++ (b ++ (c ++ (d ++ f)))) ++ end)
parts_joined e name end a b c d f = simp (flat_map-append (λ (x : List ℕ). e ∷ x), append_assoc)

pub whole_text : (h : Header) (a b c d e one two three four five : List ℕ)
    → a ≡ codes "ISA" ++ elements h.delims.element (codes "00" ∷ replicate 10 space ∷ codes "00" ∷ replicate 10 space ∷ [])
    → b ≡ elements h.delims.element (h.sender.qualifier ∷ h.sender.id ∷ [])
    → c ≡ elements h.delims.element (h.receiver.qualifier ∷ h.receiver.id ∷ [])
    → d ≡ making_elements h.delims.element h.standard h.date h.time h.version
    → e ≡ elements h.delims.element (zero_padded_number 9 h.icn ∷ (h.ack ∷ []) ∷ (h.usage ∷ []) ∷ (h.delims.component ∷ []) ∷ []) ++ h.delims.terminator ∷ []
    → length a ≡ 31 → length b ≡ 19 → length c ≡ 19 → length d ≡ 20 → length e ≡ 17
    → one ≡ put_at 0 a (replicate 106 0) → two ≡ put_at 31 b one → three ≡ put_at 50 c two → four ≡ put_at 69 d three → five ≡ put_at 89 e four
    → five ≡ segment_text h.delims (segment_of_header h)
unfolding segment_text
whole_text h a b c d e one two three four five a_is b_is c_is d_is e_is a_size b_size c_size d_size e_size first second third fourth fifth =
    fifth ∙ ap (put_at 89 e) (fourth ∙ ap (put_at 69 d) (third ∙ ap (put_at 50 c) (second ∙ ap (put_at 31 b) first)))
    ∙ five_joined a b c d e a_size b_size c_size d_size e_size
    ∙ rw (a_is, b_is, c_is, d_is, e_is) (parts_joined h.delims.element (codes "ISA") (h.delims.terminator ∷ [])
    (codes "00" ∷ replicate 10 space ∷ codes "00" ∷ replicate 10 space ∷ [])
    (h.sender.qualifier ∷ h.sender.id ∷ [])
    (h.receiver.qualifier ∷ h.receiver.id ∷ [])
    (h.date ∷ h.time ∷ (h.standard ∷ []) ∷ h.version ∷ [])
    (zero_padded_number 9 h.icn ∷ (h.ack ∷ []) ∷ (h.usage ∷ []) ∷ (h.delims.component ∷ []) ∷ []))
