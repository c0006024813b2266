-- A history with one item more: what is filed, what came after a submission, what was told and posted.
use Rattle.std.specs.Prelude.{◌≡◌, ◌≢◌, ℕ, List, [], ◌∷◌, ◌++◌, Bool, true, false, ◌&&◌, ◌==◌, if◌then◌else◌, Option, Some, None, Contains, refl, ◌⊎◌, filter, map, flat_map, bytes_eq, option_to_list}
use mathlib.Core.Path.{sym, ap, subst, ◌∙◌}
use mathlib.Core.Logic.{inl, inr}
use Rattle.std.proofs.lemmas.List.Elements.{filter-append}
use Rattle.std.proofs.lemmas.Grind.{flat_map-append}
use Rattle.std.proofs.lemmas.List.{map-append, append-nil}
use Rattle.std.proofs.lemmas.Bool.Decides.{eqb_tells}
use Rattle.x12_envelopes.specs.declared.party.Party.{Party}
use Rattle.x12_profile.specs.Interchange.{Bytes, PlaceOfSet, PlacedTransactionSet, PlacedEvidence, is_place}
use Rattle.x12_profile.specs.Profile.{Profile}
use Rattle.x12_judge.specs.Set.{takes}
use Rattle.x12_profile.specs.declared.edition.Edition.{Edition}
use Rattle.x12_profile.specs.declared.edition.Edition.TheVariants.{First}
use Rattle.x12_acks.specs.Evidence.{FinalFate, accepted, noted, rejected}
use Rattle.x12_outbound.specs.Fate.{ended}
use Rattle.x12_station.specs.History.{posting_of, Item, Submitted, Came, KeptArrival, Posting, filed, HasCame, submissions, arrivals, items_after, first_told, told, told_in, posted_by, postings, posted_under}
use Rattle.x12_station.proofs.ListLemmas.{same_way, none_way, in_either, contains_flat_map, flat_map_contains}
use Rattle.x12_numbers.proofs.Shelf.{none_in_nil, contains_cons, contains_head, contains_tail, bytes_eq_tells, eq_itself}
use Rattle.std.proofs.lemmas.Bool.{and_parts, eqb-true}
use Rattle.x12_judge.specs.Agreement.{is_same_party}
use Rattle.x12_profile.proofs.PartyLemmas.{is_same_party-Decides, party_tells}
use Rattle.x12_acks.proofs.ReplyGroupLemmas.{same_party_itself}
use Rattle.x12_acks.specs.Key.{is_same_key}
use Rattle.x12_acks.specs.Submission.{TransactionSetKey}
use Rattle.x12_outbound.specs.declared.fate.Fate.TheVariants.{Pending}
use Rattle.x12_outbound.specs.declared.fate.Fate.{Fate}

-- behind one item more, too
pub came_later : (c : Item) (items : List Item) (b : Bytes) (r : Option Bytes) → HasCame items b r → HasCame (c ∷ items) b r
came_later c items b r h = (h.0, contains_tail (Came h.0 b r) c items h.1)

module _ (p : Profile) where
  pub filed_stays : (items more : List Item) (s : Party) (n : ℕ) (f : KeptArrival) → filed p items s n ≡ Some f → filed p (items ++ more) s n ≡ Some f
  filed_stays [] more s n f e = absurd (cc)
  filed_stays (Submitted x ∷ items) more s n f e = filed_stays items more s n f e
  filed_stays (Came ed b r ∷ items) more s n f e =
      same_way (is_same_party (p.sender b) s && (p.number b == n)) (Some (record { body = b; reply = r })) (filed p items s n) (filed p (items ++ more) s n) (Some f) (filed_stays items more s n f) e

  pub filed_last : (items : List Item) (by : Edition) (b : Bytes) (r : Option Bytes) → filed p items (p.sender b) (p.number b) ≡ None → filed p (items ++ Came by b r ∷ []) (p.sender b) (p.number b) ≡ Some (record { body = b; reply = r })
  filed_last [] by b r e = rw (same_party_itself (p.sender b), eq_itself (p.number b))
  filed_last (Submitted x ∷ items) by b r e = filed_last items by b r e
  filed_last (Came ed c q ∷ items) by b r e =
      none_way (is_same_party (p.sender c) (p.sender b) && (p.number c == p.number b)) (record { body = c; reply = q }) (filed p items (p.sender b) (p.number b)) (filed p (items ++ Came by b r ∷ []) (p.sender b) (p.number b))
      (Some (record { body = b; reply = r })) (filed_last items by b r) e

  -- what is filed came, under that number
  pub filed_found : (items : List Item) (s : Party) (n : ℕ) (f : KeptArrival) → filed p items s n ≡ Some f → HasCame items f.body f.reply × (p.sender f.body ≡ s) × (p.number f.body ≡ n)
  filed_found [] s n f e = absurd (cc)
  filed_found (Submitted x ∷ items) s n f e = let rest = filed_found items s n f e in (came_later (Submitted x) items f.body f.reply rest.0, rest.1, rest.2)
  filed_found (Came ed b r ∷ items) s n f e = by (is_same_party (p.sender b) s && (p.number b == n)) refl e (filed_found items s n f)
    where
      by : (t : Bool) → (is_same_party (p.sender b) s && (p.number b == n)) ≡ t → (if t then Some (record { body = b; reply = r }) else filed p items s n) ≡ Some f
          → (filed p items s n ≡ Some f → HasCame items f.body f.reply × (p.sender f.body ≡ s) × (p.number f.body ≡ n))
          → HasCame (Came ed b r ∷ items) f.body f.reply × (p.sender f.body ≡ s) × (p.number f.body ≡ n)
      by true test is later =
          let parts = and_parts (is_same_party (p.sender b) s) (p.number b == n) test in
          let same : record { body = b; reply = r } ≡ f = cc in
          subst (λ g. HasCame (Came ed b r ∷ items) g.body g.reply × (p.sender g.body ≡ s) × (p.number g.body ≡ n)) same ((ed, contains_head (Came ed b r) items), (is_same_party-Decides (p.sender b) s).0 parts.0, eqb-true (p.number b) n parts.1)
      by false test is later = let rest = later is in (came_later (Came ed b r) items f.body f.reply rest.0, rest.1, rest.2)

-- a submission stands among the submissions, an arrival among the arrivals
pub submitted_in : (items : List Item) (x : Bytes) → Contains items (Submitted x) → Contains (submissions items) x
submitted_in [] x h = none_in_nil (Submitted x) h
submitted_in (Submitted y ∷ items) x h = elim (contains_cons (Submitted x) (Submitted y) items h) [
  | inl e ↦ let same : y ≡ x = cc in subst (λ z. Contains (y ∷ submissions items) z) same (contains_head y (submissions items))
  | inr rest ↦ contains_tail x y (submissions items) (submitted_in items x rest)
]
submitted_in (Came ed b r ∷ items) x h = elim (contains_cons (Submitted x) (Came ed b r) items h) [ inl e ↦ absurd cc | inr rest ↦ submitted_in items x rest ]

pub in_submissions : (items : List Item) (x : Bytes) → Contains (submissions items) x → Contains items (Submitted x)
in_submissions [] x h = none_in_nil x h
in_submissions (Submitted y ∷ items) x h = elim (contains_cons x y (submissions items) h) [
  | inl e ↦ rw e (contains_head (Submitted x) items)
  | inr rest ↦ contains_tail (Submitted x) (Submitted y) items (in_submissions items x rest)
]
in_submissions (Came ed b r ∷ items) x h = contains_tail (Submitted x) (Came ed b r) items (in_submissions items x h)

pub in_arrivals : (items : List Item) (b : Bytes) → Contains (arrivals items) b → (r : Option Bytes) × HasCame items b r
in_arrivals [] b h = none_in_nil b h
in_arrivals (Submitted y ∷ items) b h = let rest = in_arrivals items b h in (rest.0, came_later (Submitted y) items b rest.0 rest.1)
in_arrivals (Came ed c r ∷ items) b h = elim (contains_cons b c (arrivals items) h) [
  | inl e ↦ (r, (ed, rw e (contains_head (Came ed b r) items)))
  | inr later ↦ let rest = in_arrivals items b later in (rest.0, came_later (Came ed c r) items b rest.0 rest.1)
]

came_among : (items : List Item) (by : Edition) (b : Bytes) (r : Option Bytes) → Contains items (Came by b r) → Contains (arrivals items) b
came_among [] by b r h = none_in_nil (Came by b r) h
came_among (Submitted y ∷ items) by b r h = elim (contains_cons (Came by b r) (Submitted y) items h) [ inl e ↦ absurd cc | inr rest ↦ came_among items by b r rest ]
came_among (Came ed c q ∷ items) by b r h = elim (contains_cons (Came by b r) (Came ed c q) items h) [
  | inl e ↦ let same : c ≡ b = cc in subst (λ z. Contains (c ∷ arrivals items) z) same (contains_head c (arrivals items))
  | inr rest ↦ contains_tail b c (arrivals items) (came_among items by b r rest)
]

pub came_in_arrivals : (items : List Item) (b : Bytes) (r : Option Bytes) → HasCame items b r → Contains (arrivals items) b
came_in_arrivals items b r h = came_among items h.0 b r h.1

pub arrivals-append : (items more : List Item) → arrivals (items ++ more) ≡ arrivals items ++ arrivals more
arrivals-append [] more = refl
arrivals-append (Submitted x ∷ items) more = arrivals-append items more
arrivals-append (Came ed b r ∷ items) more = ap (λ l. b ∷ l) (arrivals-append items more)

-- what stands behind x stands in the history
pub after_in_items : (items : List Item) (x : Bytes) (c : Item) → Contains (items_after x items) c → Contains items c
after_in_items [] x c h = none_in_nil c h
after_in_items (Submitted y ∷ items) x c h = contains_tail c (Submitted y) items (in_either (bytes_eq y x) items (items_after x items) items c (λ is. is) (after_in_items items x c) h)
after_in_items (Came ed b r ∷ items) x c h = contains_tail c (Came ed b r) items (after_in_items items x c h)

-- once x was submitted, what comes stands behind it
pub after_append : (items more : List Item) (x : Bytes) → Contains items (Submitted x) → items_after x (items ++ more) ≡ items_after x items ++ more
after_append [] more x h = none_in_nil (Submitted x) h
after_append (Submitted y ∷ items) more x h = elim (bytes_eq_tells y x) [
  | inl same ↦ rw (same.0) refl
  | inr apart ↦ rw (apart.0) (after_append items more x (elim (contains_cons (Submitted x) (Submitted y) items h) [ inl e ↦ absurd (apart.1 cc) | inr rest ↦ rest ]))
]
after_append (Came ed b r ∷ items) more x h = after_append items more x (elim (contains_cons (Submitted x) (Came ed b r) items h) [ inl e ↦ absurd cc | inr rest ↦ rest ])

-- a place, and the test on it
pub is_place_itself : (k : PlaceOfSet) → is_place k k ≡ true
is_place_itself k = rw (eq_itself k.group, eq_itself k.set)

pub place_is : (a b : PlaceOfSet) → is_place a b ≡ true → a ≡ b
place_is a b e =
    let parts = and_parts (a.group == b.group) (a.set == b.set) e in
    let g = eqb-true a.group b.group parts.0 in
    let s = eqb-true a.set b.set parts.1 in
    both a b g s
  where
    both : (a b : PlaceOfSet) → a.group ≡ b.group → a.set ≡ b.set → a ≡ b
    both a b g s = rw (g, s)

-- final fates differ as they end
pub ended_apart : (a b : FinalFate) → ended a ≡ ended b → a ≡ b
ended_apart accepted accepted e = refl
ended_apart accepted noted e = absurd cc
ended_apart accepted rejected e = absurd cc
ended_apart noted accepted e = absurd cc
ended_apart noted noted e = refl
ended_apart noted rejected e = absurd cc
ended_apart rejected accepted e = absurd cc
ended_apart rejected noted e = absurd cc
ended_apart rejected rejected e = refl

-- the fate that a list of evidence gives, where it is final: of some piece for this place
pub told_final_by : (k : PlaceOfSet) (es : List PlacedEvidence) (final : FinalFate) → first_told k es ≡ ended final → (e : PlacedEvidence) × Contains es e × (e.place ≡ k) × (e.fate ≡ final)
told_final_by k [] accepted h = absurd (cc)
told_final_by k [] noted h = absurd (cc)
told_final_by k [] rejected h = absurd (cc)
told_final_by k (e ∷ es) final h = by (is_place k e.place) refl h (told_final_by k es final)
  where
    by : (t : Bool) → is_place k e.place ≡ t → (if t then ended e.fate else first_told k es) ≡ ended final
        → (first_told k es ≡ ended final → (f : PlacedEvidence) × Contains es f × (f.place ≡ k) × (f.fate ≡ final)) → (f : PlacedEvidence) × Contains (e ∷ es) f × (f.place ≡ k) × (f.fate ≡ final)
    by true place is later = (e, contains_head e es, sym (place_is k e.place place), ended_apart e.fate final is)
    by false place is later = let rest = later is in (rest.0, contains_tail rest.0 e es rest.1, rest.2, rest.3)

-- a place that evidence is for isn't pending
pub told_final : (k : PlaceOfSet) (es : List PlacedEvidence) (e : PlacedEvidence) → Contains es e → e.place ≡ k → first_told k es ≢ Pending
told_final k [] e h place = none_in_nil e h
told_final k (f ∷ es) e h place = by (is_place k f.place) refl f.fate (contains_cons e f es h) (λ more. told_final k es e more place)
  where
    by : (t : Bool) → is_place k f.place ≡ t → (a : FinalFate) → ((f ≡ e) ⊎ Contains es e) → (Contains es e → first_told k es ≢ Pending) → (if t then ended a else first_told k es) ≢ Pending
    by true is accepted at later = λ z. cc
    by true is noted at later = λ z. cc
    by true is rejected at later = λ z. cc
    by false is a (inl same) later = let yes' : is_place k f.place ≡ true = rw (same, place) (is_place_itself k) in absurd (differ (is_place k f.place) yes' is)
      where
        differ : (t : Bool) → t ≡ true → t ≡ false → ⊥
        differ true a b = cc
        differ false a b = cc
    by false is a (inr more) later = later more

-- more evidence changes no final fate
pub told_stays : (k : PlaceOfSet) (es more : List PlacedEvidence) (f : Fate) → f ≢ Pending → first_told k es ≡ f → first_told k (es ++ more) ≡ f
told_stays k [] more f final e = absurd (final (sym e))
told_stays k (e ∷ es) more f final is = same_way (is_place k e.place) (ended e.fate) (first_told k es) (first_told k (es ++ more)) f (told_stays k es more f final) is

module _ (p : Profile) where
  -- what an item tells: it came, and isn't refused
  pub told_by_item : (me : Party) (hubs : List Party) (x : Bytes) (c : Item) (e : PlacedEvidence) → Contains (told p me hubs x c) e
      → (by : Edition) × (b : Bytes) × (r : Option Bytes) × (c ≡ Came by b r) × (p.refuses by me b ≡ false) × Contains (p.evidence by hubs b x) e
  told_by_item me hubs x (Submitted y) e h = none_in_nil e h
  told_by_item me hubs x (Came ed b r) e h = by (p.refuses ed me b) refl h
    where
      by : (t : Bool) → p.refuses ed me b ≡ t → Contains (if t then [] else p.evidence ed hubs b x) e
          → (z : Edition) × (c : Bytes) × (q : Option Bytes) × (Came ed b r ≡ Came z c q) × (p.refuses z me c ≡ false) × Contains (p.evidence z hubs c x) e
      by true is k = none_in_nil e k
      by false is k = (ed, b, r, refl, is, k)

  pub told_found : (me : Party) (hubs : List Party) (items : List Item) (x : Bytes) (e : PlacedEvidence) → Contains (told_in p me hubs items x) e
      → (by : Edition) × (b : Bytes) × (r : Option Bytes) × Contains (items_after x items) (Came by b r) × (p.refuses by me b ≡ false) × Contains (p.evidence by hubs b x) e
  told_found me hubs items x e h =
      let from = contains_flat_map (told p me hubs x) (items_after x items) e h in
      let is = told_by_item me hubs x from.0 e from.2 in
      (is.0, is.1, is.2, subst (Contains (items_after x items)) is.3 from.1, is.4, is.5)

  pub told_contains : (me : Party) (hubs : List Party) (items : List Item) (x : Bytes) (by : Edition) (b : Bytes) (r : Option Bytes) (e : PlacedEvidence) → Contains (items_after x items) (Came by b r) → p.refuses by me b ≡ false → Contains (p.evidence by hubs b x) e → Contains (told_in p me hubs items x) e
  told_contains me hubs items x by b r e at taken h = flat_map_contains (told p me hubs x) (items_after x items) (Came by b r) e at (rw taken h)

  pub told_append : (me : Party) (hubs : List Party) (items more : List Item) (x : Bytes) → Contains items (Submitted x) → told_in p me hubs (items ++ more) x ≡ told_in p me hubs items x ++ flat_map (told p me hubs x) more
  told_append me hubs items more x h = ap (flat_map (told p me hubs x)) (after_append items more x h) ∙ flat_map-append (told p me hubs x) (items_after x items) more

  -- what is filed, with more behind
  abbrev pub filed_or : Option KeptArrival → Option KeptArrival → Option KeptArrival
  filed_or None g = g
  filed_or (Some f) g = Some f

  pub filed-append : (items more : List Item) (s : Party) (n : ℕ) → filed p (items ++ more) s n ≡ filed_or (filed p items s n) (filed p more s n)
  filed-append [] more s n = refl
  filed-append (Submitted x ∷ items) more s n = filed-append items more s n
  filed-append (Came ed b r ∷ items) more s n = by (is_same_party (p.sender b) s && (p.number b == n)) (filed-append items more s n)
    where
      by : (t : Bool) → filed p (items ++ more) s n ≡ filed_or (filed p items s n) (filed p more s n)
          → (if t then Some (record { body = b; reply = r }) else filed p (items ++ more) s n) ≡ filed_or (if t then Some (record { body = b; reply = r }) else filed p items s n) (filed p more s n)
      by true e = refl
      by false e = e

  pub posted-append : (k : TransactionSetKey) (items more : List Item) → posted_under p k (items ++ more) ≡ posted_under p k items ++ posted_under p k more
  posted-append k items more =
      ap (λ l. map (λ q. q.bytes) (filter (λ q. is_same_key k q.key) l)) (flat_map-append (posted_by p) items more)
      ∙ ap (map (λ q. q.bytes)) (filter-append (λ q. is_same_key k q.key) (postings p items) (postings p more))
      ∙ map-append (λ q. q.bytes) (filter (λ q. is_same_key k q.key) (postings p items)) (filter (λ q. is_same_key k q.key) (postings p more))

  -- the postings under a key are those of the arrival that is filed under its number
  abbrev pub posted_from : TransactionSetKey → Option KeptArrival → List Bytes
  posted_from k None = []
  posted_from k (Some f) = posted_under p k (Came First f.body f.reply ∷ [])

  abbrev pub PostedByFiled : List Item → Type 0
  PostedByFiled items = (k : TransactionSetKey) → posted_under p k items ≡ posted_from k (filed p items k.sender k.icn)

  -- an arrival under another number posts nothing under a key
  under_other : (k : TransactionSetKey) (b r : Bytes) (ss : List PlacedTransactionSet) → (is_same_party k.sender (p.sender b) && (k.icn == p.number b)) ≡ false
      → map (λ (q : Posting). q.bytes) (filter (λ (q : Posting). is_same_key k q.key) (map (posting_of p b) ss)) ≡ []
  under_other k b r [] e = refl
  under_other k b r (s ∷ ss) e = rw e (under_other k b r ss e)

  pub other_posts_nothing : (k : TransactionSetKey) (by : Edition) (b : Bytes) (r : Option Bytes) → (is_same_party k.sender (p.sender b) && (k.icn == p.number b)) ≡ false → posted_under p k (Came by b r ∷ []) ≡ []
  other_posts_nothing k by b None e = refl
  other_posts_nothing k by b (Some r) e = ap (λ l. map (λ (q : Posting). q.bytes) (filter (λ (q : Posting). is_same_key k q.key) l)) (append-nil (posted_by p (Came by b (Some r)))) ∙ under_other k b r (filter (λ s. takes (p.result b r s.place)) (p.sets b)) e

  or_none : (f : Option KeptArrival) → filed_or f None ≡ f
  or_none None = refl
  or_none (Some f) = refl

  -- an arrival that is the first under its number
  -- under whatever edition
  posted_alike : (k : TransactionSetKey) (ed : Edition) (b : Bytes) (r : Option Bytes) → posted_under p k (Came ed b r ∷ []) ≡ posted_under p k (Came First b r ∷ [])
  posted_alike k ed b None = refl
  posted_alike k ed b (Some r) = refl

  posted_came : (items : List Item) (ed : Edition) (b : Bytes) (r : Option Bytes) → PostedByFiled items → filed p items (p.sender b) (p.number b) ≡ None → PostedByFiled (items ++ Came ed b r ∷ [])
  posted_came items ed b r was new k =
      posted-append k items (Came ed b r ∷ []) ∙ by (is_same_party (p.sender b) k.sender && (p.number b == k.icn)) refl ∙ ap (posted_from k) (sym (filed-append items (Came ed b r ∷ []) k.sender k.icn))
    where
      by : (t : Bool) → (is_same_party (p.sender b) k.sender && (p.number b == k.icn)) ≡ t
          → posted_under p k items ++ posted_under p k (Came ed b r ∷ []) ≡ posted_from k (filed_or (filed p items k.sender k.icn) (if t then Some (record { body = b; reply = r }) else None))
      by true is =
          let parts = and_parts (is_same_party (p.sender b) k.sender) (p.number b == k.icn) is in
          let s = (is_same_party-Decides (p.sender b) k.sender).0 parts.0 in
          let n = eqb-true (p.number b) k.icn parts.1 in
          let none : filed p items k.sender k.icn ≡ None = subst (λ z. filed p items z k.icn ≡ None) s (subst (λ z. filed p items (p.sender b) z ≡ None) n new) in
          let empty : posted_under p k items ≡ [] = was k ∙ ap (posted_from k) none in
          rw (empty, none) (posted_alike k ed b r)
      by false is = ap (λ l. posted_under p k items ++ l) (other_posts_nothing k ed b r (turn is)) ∙ append-nil (posted_under p k items) ∙ was k ∙ ap (posted_from k) (sym (or_none (filed p items k.sender k.icn)))
        where
          turn : (is_same_party (p.sender b) k.sender && (p.number b == k.icn)) ≡ false → (is_same_party k.sender (p.sender b) && (k.icn == p.number b)) ≡ false
          turn e = elim (party_tells (p.sender b) k.sender) [
            | inl same ↦ elim (eqb_tells (p.number b) k.icn) [
              | inl equal ↦ let both : (is_same_party (p.sender b) k.sender && (p.number b == k.icn)) ≡ true = rw (same.0, equal.0) refl in absurd (clash (is_same_party (p.sender b) k.sender && (p.number b == k.icn)) both e)
              | inr differ ↦ elim (eqb_tells k.icn (p.number b)) [ inl equal ↦ absurd (differ.1 (sym equal.1)) | inr d ↦ second (is_same_party k.sender (p.sender b)) (k.icn == p.number b) d.0 ]
            ]
            | inr apart ↦ elim (party_tells k.sender (p.sender b)) [ inl same ↦ absurd (apart.1 (sym same.1)) | inr d ↦ first (is_same_party k.sender (p.sender b)) (k.icn == p.number b) d.0 ]
          ]
            where
              clash : (t : Bool) → t ≡ true → t ≡ false → ⊥
              clash true a c = cc
              clash false a c = cc

              second : (x y : Bool) → y ≡ false → (x && y) ≡ false
              second true y d = d
              second false y d = refl

              first : (x y : Bool) → x ≡ false → (x && y) ≡ false
              first true y d = absurd cc
              first false y d = refl

  posted_sent : (items : List Item) (x : Bytes) → PostedByFiled items → PostedByFiled (items ++ Submitted x ∷ [])
  posted_sent items x was k = posted-append k items (Submitted x ∷ []) ∙ append-nil (posted_under p k items) ∙ was k ∙ ap (posted_from k) (sym (filed-append items (Submitted x ∷ []) k.sender k.icn ∙ or_none (filed p items k.sender k.icn)))

  pub posted_next : (items : List Item) (new : Option Item) → PostedByFiled items → ((by : Edition) (b : Bytes) (r : Option Bytes) → new ≡ Some (Came by b r) → filed p items (p.sender b) (p.number b) ≡ None) → PostedByFiled (items ++ option_to_list new)
  posted_next items None was first = subst PostedByFiled (sym (append-nil items)) was
  posted_next items (Some (Submitted x)) was first = posted_sent items x was
  posted_next items (Some (Came by b r)) was first = posted_came items by b r was (first by b r refl)
