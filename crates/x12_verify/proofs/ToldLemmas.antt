-- What is told of a history doesn't depend on the replies that are kept: the same was submitted and came, and every set has the same fate.
use Rattle.std.specs.Prelude.{◌≡◌, ℕ, List, [], ◌∷◌, ◌++◌, Bool, true, map, flat_map, if◌then◌else◌, bytes_eq, refl, false}
use Rattle.std.specs.List.{enumerate_from}
use mathlib.Core.Path.{sym, ap, ap₂, ◌∙◌}
use Rattle.x12_acks.specs.Submission.{Submission, SubmittedGroup, SubmittedSet}
use Rattle.x12_envelopes.specs.declared.party.Party.{Party}
use Rattle.x12_outbound.specs.Entry.{InterchangeRow, GroupRow, SetRow}
use Rattle.x12_profile.specs.Interchange.{Bytes, PlacedEvidence}
use Rattle.x12_profile.specs.X12.{x12, submission_in_bytes}
use Rattle.x12_station.specs.Durable.{fared_entries, fared_entry, items_of}
use Rattle.x12_station.specs.History.{Item, Submitted, Came, submissions, arrivals, items_after, first_told, told, told_in}
use Rattle.x12_station.specs.Stored.{Stored}
use Rattle.x12_verify.specs.Told.{all_as_told, as_told, items_up_to}

submissions_told : (items : List Item) → submissions (all_as_told items) ≡ submissions items
submissions_told [] = refl
submissions_told (Submitted x ∷ items) = ap (λ l. x ∷ l) (submissions_told items)
submissions_told (Came ed b r ∷ items) = submissions_told items

arrivals_told : (items : List Item) → arrivals (all_as_told items) ≡ arrivals items
arrivals_told [] = refl
arrivals_told (Submitted x ∷ items) = arrivals_told items
arrivals_told (Came ed b r ∷ items) = ap (λ l. b ∷ l) (arrivals_told items)

after_told : (items : List Item) (x : Bytes) → items_after x (all_as_told items) ≡ all_as_told (items_after x items)
after_told [] x = refl
after_told (Submitted y ∷ items) x = by (bytes_eq y x) (after_told items x)
  where
    by : (t : Bool) → items_after x (all_as_told items) ≡ all_as_told (items_after x items) → (if t then all_as_told items else items_after x (all_as_told items)) ≡ all_as_told (if t then items else items_after x items)
    by true rest = refl
    by false rest = rest
after_told (Came ed b r ∷ items) x = after_told items x

-- an item tells as much
one_told : (me : Party) (hubs : List Party) (x : Bytes) (c : Item) → told x12 me hubs x (as_told c) ≡ told x12 me hubs x c
one_told me hubs x (Submitted y) = refl
one_told me hubs x (Came by b r) = refl

each_told : (me : Party) (hubs : List Party) (x : Bytes) (items : List Item) → flat_map (told x12 me hubs x) (all_as_told items) ≡ flat_map (told x12 me hubs x) items
each_told me hubs x [] = refl
each_told me hubs x (c ∷ items) = ap₂ (λ a b. a ++ b) (one_told me hubs x c) (each_told me hubs x items)

all_told : (me : Party) (hubs : List Party) (items : List Item) (x : Bytes) → told_in x12 me hubs (all_as_told items) x ≡ told_in x12 me hubs items x
all_told me hubs items x = ap (flat_map (told x12 me hubs x)) (after_told items x) ∙ each_told me hubs x (items_after x items)

-- the submissions with the fates that this evidence for each tells
module _ (evidence : Bytes → List PlacedEvidence) where
  abbrev set_by : Bytes → ℕ → ℕ × SubmittedSet → SetRow
  set_by x group s = record {
    number = s.1.number;
    fate = first_told (record { group = group; set = s.0 }) (evidence x);
    is_out = false;
  }

  abbrev group_by : Bytes → ℕ × SubmittedGroup → GroupRow
  group_by x g = record {
    functional = g.1.functional;
    number = g.1.number;
    sets = map (set_by x g.0) (enumerate_from 1 g.1.sets);
  }

  abbrev entry_by : Submission → InterchangeRow
  entry_by x = record {
    icn = x.icn;
    receiver = x.receiver;
    bytes = x.bytes;
    groups = map (group_by x.bytes) (enumerate_from 1 x.groups);
  }

  abbrev entries_by : List Bytes → List InterchangeRow
  entries_by xs = map entry_by (flat_map submission_in_bytes xs)

entries_are : (me : Party) (hubs : List Party) (items : List Item) → fared_entries me hubs items ≡ entries_by (told_in x12 me hubs items) (submissions items)
unfolding fared_entries fared_entry
entries_are me hubs items = refl

fared_told : (me : Party) (hubs : List Party) (items : List Item) → fared_entries me hubs (all_as_told items) ≡ fared_entries me hubs items
fared_told me hubs items =
    entries_are me hubs (all_as_told items)
    ∙ ap₂ entries_by (λ i x. all_told me hubs items x i) (submissions_told items)
    ∙ sym (entries_are me hubs items)

module _ (old new : List Item) (same : all_as_told old ≡ all_as_told new) where
  pub same_submissions : submissions old ≡ submissions new
  same_submissions = sym (submissions_told old) ∙ ap submissions same ∙ submissions_told new

  pub same_arrivals : arrivals old ≡ arrivals new
  same_arrivals = sym (arrivals_told old) ∙ ap arrivals same ∙ arrivals_told new

  pub same_fates : (me : Party) (hubs : List Party) → fared_entries me hubs old ≡ fared_entries me hubs new
  same_fates me hubs = sym (fared_told me hubs old) ∙ ap (fared_entries me hubs) same ∙ fared_told me hubs new

-- all numbers
pub all_items : (s : Stored) → items_up_to s s.seq ≡ items_of s
unfolding items_of
all_items s = refl
