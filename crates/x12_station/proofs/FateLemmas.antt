-- The fate of a submitted set once one arrival more is in the history: a pending set has the fate that
-- the arrival tells first, and any other is as it was.
use Rattle.std.specs.Prelude.{◌≡◌, ℕ, List, [], ◌∷◌, ◌++◌, Bool, true, false, ◌&&◌, ◌==◌, if◌then◌else◌, flat_map, Option, Some, None, Contains, refl}
use Rattle.std.specs.List.{AllByRecursion}
use mathlib.Core.Path.{sym, ap, ap₂, subst, ◌∙◌}
use Rattle.std.proofs.lemmas.Bool.Decides.{eqb_tells}
use mathlib.Core.Logic.{inl, inr}
use Rattle.std.proofs.lemmas.List.{append-nil}
use Rattle.x12_envelopes.specs.declared.party.Party.{Party}
use Rattle.x12_acks.specs.Answer.{Acknowledgment}
use Rattle.x12_acks.specs.Evidence.{Evidence as Piece, tells, unmatched, FinalFate, accepted, noted, rejected, evidence_of}
use Rattle.x12_acks.specs.Key.{is_same_key}
use Rattle.x12_acks.specs.Named.{SubmissionsRise, IsOwn}
use Rattle.x12_acks.specs.Submission.{Submission, TransactionSetKey}
use Rattle.x12_acks.proofs.EachLemmas.{evidence_of_each}
use Rattle.x12_outbound.specs.declared.fate.Fate.{Fate}
use Rattle.x12_outbound.specs.declared.fate.Fate.TheVariants.{Pending, Accepted, Noted, Rejected}
use Rattle.x12_outbound.specs.Fate.{ended}
use Rattle.x12_outbound.specs.FirstEvidence.{first_about, fate_by_first}
use Rattle.x12_outbound.specs.Settling.{Fates, settled_fates}
use Rattle.x12_outbound.proofs.FirstEvidenceLemmas.{fate_of_each}
use Rattle.x12_profile.specs.declared.edition.Edition.{Edition}
use Rattle.x12_profile.specs.Interchange.{Bytes, PlaceOfSet, PlacedEvidence, is_place}
use Rattle.x12_profile.specs.Reading.{answers_in}
use Rattle.x12_profile.specs.X12.{x12, submission_in_bytes, told_by_piece as told_by_piece, pieces_read}
use Rattle.x12_profile.proofs.FieldLemmas as field
use Rattle.x12_acks.proofs.ReplyGroupLemmas.{same_party_itself}
use Rattle.x12_station.specs.History.{Item, Came, submissions, first_told, told, told_in, fate_in}
use Rattle.x12_station.specs.Older.{answers_as_read}
use Rattle.x12_station.proofs.HistoryLemmas.{told_append, in_submissions}
use Rattle.x12_station.proofs.ListLemmas.{flat_map_contains}
use Rattle.x12_station.proofs.OlderLemmas.{evidence_as_read}
use Rattle.x12_numbers.proofs.Shelf.{eq_itself, contains_head}

-- Evidence by place.

-- the fate of a set that was told so, and then more
abbrev pub fate_then : Fate → Fate → Fate
fate_then Pending later = later
fate_then Accepted later = Accepted
fate_then Noted later = Noted
fate_then Rejected later = Rejected

pub told_more : (k : PlaceOfSet) (es more : List PlacedEvidence) → first_told k (es ++ more) ≡ fate_then (first_told k es) (first_told k more)
told_more k [] more = refl
told_more k (e ∷ es) more = by (is_place k e.place) e.fate (told_more k es more)
  where
    by : (t : Bool) (a : FinalFate) → first_told k (es ++ more) ≡ fate_then (first_told k es) (first_told k more)
        → (if t then ended a else first_told k (es ++ more)) ≡ fate_then (if t then ended a else first_told k es) (first_told k more)
    by true accepted is = refl
    by true noted is = refl
    by true rejected is = refl
    by false a is = is

-- the fate that is told first, if one is
abbrev pub as_told : Option FinalFate → Fate
as_told None = Pending
as_told (Some fate) = ended fate

pub settled_then : (o : Option FinalFate) (f : Fate) → fate_by_first o (Some f) ≡ Some (fate_then f (as_told o))
settled_then (Some fate) Pending = refl
settled_then (Some fate) Accepted = refl
settled_then (Some fate) Noted = refl
settled_then (Some fate) Rejected = refl
settled_then None Pending = refl
settled_then None Accepted = refl
settled_then None Noted = refl
settled_then None Rejected = refl

abbrev pub place_of_key : TransactionSetKey → PlaceOfSet
place_of_key k = record { group = k.group; set = k.set }

pub flipped : (m n : ℕ) → (m == n) ≡ (n == m)
flipped m n = elim (eqb_tells m n) [
  | inl same ↦ elim (eqb_tells n m) [ inl other ↦ same.0 ∙ sym other.0 | inr apart ↦ absurd (apart.1 (sym same.1)) ]
  | inr apart ↦ elim (eqb_tells n m) [ inl same ↦ absurd (apart.1 (sym same.1)) | inr other ↦ apart.0 ∙ sym other.0 ]
]

-- a key of x stands for its place
at_its_place : (x : Submission) (key k : TransactionSetKey) → (key.icn ≡ x.icn) × (key.sender ≡ x.sender) → k.icn ≡ x.icn → k.sender ≡ x.sender → is_same_key key k ≡ ((key.group == k.group) && (key.set == k.set))
at_its_place x key k own icn sender = rw (own.0, own.1, icn, sender, same_party_itself x.sender, eq_itself x.icn) refl

-- what is told of a place first is the first piece about the key
pub first_told_is : (x : Submission) (k : TransactionSetKey) (es : List Piece) → AllByRecursion (IsOwn x) es → k.icn ≡ x.icn → k.sender ≡ x.sender
    → first_told (place_of_key k) (flat_map told_by_piece es) ≡ as_told (first_about k es)
first_told_is x k [] own icn sender = refl
first_told_is x k (tells key fate ∷ es) own icn sender =
    ap (λ b. if b then ended fate else first_told (place_of_key k) (flat_map told_by_piece es))
    (ap₂ (λ a b. a && b) (flipped k.group key.group) (flipped k.set key.set) ∙ sym (at_its_place x key k own.0 icn sender))
    ∙ by (is_same_key key k) fate (first_told_is x k es own.1 icn sender)
  where
    by : (b : Bool) (fate : FinalFate) → first_told (place_of_key k) (flat_map told_by_piece es) ≡ as_told (first_about k es)
        → (if b then ended fate else first_told (place_of_key k) (flat_map told_by_piece es)) ≡ as_told (if b then Some fate else first_about k es)
    by true accepted more = refl
    by true noted more = refl
    by true rejected more = refl
    by false fate more = more
first_told_is x k (unmatched ∷ es) own icn sender = first_told_is x k es own.1 icn sender

-- The history with one arrival more.

-- the evidence that an arrival brings for all that was submitted; none where it is refused
abbrev pub brought : Edition → Party → List Party → List Item → Bytes → List Piece
brought ed me hubs items b = if x12.refuses ed me b then [] else x12.pieces ed hubs (submissions items) b

pub pieces_are : (ed : Edition) (hubs : List Party) (xs : List Bytes) (b : Bytes) → x12.pieces ed hubs xs b ≡ evidence_of hubs (flat_map submission_in_bytes xs) (x12.sender b) (answers_as_read ed (answers_in b))
unfolding x12
pieces_are ed hubs xs b = evidence_as_read hubs (flat_map submission_in_bytes xs) (x12.sender b) ed (answers_in b)

module _ (ed : Edition) (me : Party) (hubs : List Party) (items : List Item) (b : Bytes) (r : Option Bytes) where
  abbrev now : List Item
  now = items ++ Came ed b r ∷ []

  abbrev answers : List Acknowledgment
  answers = answers_as_read ed (answers_in b)

  -- the fate after the arrival, by what it tells
  fate_now : (x : Bytes) (k : PlaceOfSet) → Contains (submissions items) x → fate_in x12 me hubs now x k ≡ fate_then (fate_in x12 me hubs items x k) (first_told k (told x12 me hubs x (Came ed b r)))
  fate_now x k at =
      ap (first_told k) (told_append x12 me hubs items (Came ed b r ∷ []) x (in_submissions items x at) ∙ ap (λ l. told_in x12 me hubs items x ++ l) (append-nil (told x12 me hubs x (Came ed b r))))
      ∙ told_more k (told_in x12 me hubs items x) (told x12 me hubs x (Came ed b r))

  told_nothing : (f : Fate) → fate_then f Pending ≡ f
  told_nothing Pending = refl
  told_nothing Accepted = refl
  told_nothing Noted = refl
  told_nothing Rejected = refl

  -- of a set of x, where sets fare by the history: the evidence for all settles it as the arrival tells
  pub fate_after : (fates : Fates) (x : Bytes) (e : Submission) (k : TransactionSetKey)
      → SubmissionsRise (flat_map submission_in_bytes (submissions items)) → Contains (submissions items) x → submission_in_bytes x ≡ e ∷ []
      → k.icn ≡ e.icn → k.sender ≡ e.sender → fates k ≡ Some (fate_in x12 me hubs items x (place_of_key k))
      → settled_fates fates (brought ed me hubs items b) k ≡ Some (fate_in x12 me hubs now x (place_of_key k))
  unfolding settled_fates
  fate_after fates x e k rise at is icn sender fare = by (x12.refuses ed me b) refl
    where
      among : Contains (flat_map submission_in_bytes (submissions items)) e
      among = flat_map_contains submission_in_bytes (submissions items) x e at (subst (λ l. Contains l e) (sym is) (contains_head e []))

      tells_it : first_told (place_of_key k) (x12.evidence ed hubs b x) ≡ as_told (first_about k (evidence_of hubs (e ∷ []) (x12.sender b) answers))
      tells_it =
          ap (first_told (place_of_key k)) (field.evidence_is ed hubs b x
          ∙ ap (λ (l : List Submission). flat_map told_by_piece (pieces_read ed (evidence_of hubs (l ++ []) (x12.sender b) (answers_in b)))) is
          ∙ ap (flat_map told_by_piece) (evidence_as_read hubs (e ∷ []) (x12.sender b) ed (answers_in b)))
          ∙ first_told_is e k (evidence_of hubs (e ∷ []) (x12.sender b) answers) (evidence_of_each.alone hubs (x12.sender b) e answers) icn sender

      by : (t : Bool) → x12.refuses ed me b ≡ t → settled_fates fates (if x12.refuses ed me b then [] else x12.pieces ed hubs (submissions items) b) k ≡ Some (fate_in x12 me hubs now x (place_of_key k))
      by true no_one = rw no_one (fare ∙ ap Some (sym (fate_now x (place_of_key k) at ∙ rw no_one (told_nothing (fate_in x12 me hubs items x (place_of_key k))))))
      by false taken =
          rw taken (ap (λ es. settled_fates fates es k) (pieces_are ed hubs (submissions items) b)
          ∙ fate_of_each evidence_of_each fates hubs (x12.sender b) (flat_map submission_in_bytes (submissions items)) e answers k rise among icn
          ∙ ap (fate_by_first (first_about k (evidence_of hubs (e ∷ []) (x12.sender b) answers))) fare
          ∙ settled_then (first_about k (evidence_of hubs (e ∷ []) (x12.sender b) answers)) (fate_in x12 me hubs items x (place_of_key k))
          ∙ ap Some (ap (fate_then (fate_in x12 me hubs items x (place_of_key k))) (sym tells_it) ∙ sym (fate_now x (place_of_key k) at ∙ rw taken refl)))
