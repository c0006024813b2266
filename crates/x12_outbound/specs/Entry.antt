-- The entries of the outbound ledger: submitted interchanges, with the fate of each of their
-- transaction sets.
use Rattle.std.specs.Prelude.{ℕ, ◌<◌, ◌≤◌, ◌-◌, Bool, false, List, map, length, AllPairs, Option, None, if◌then◌else◌, ◌==◌, slice_get, slice_set, option_map, option_and_then, unwrap_or}
use Rattle.std.specs.List.{list_any, sum_by}
use Rattle.std.specs.Arc.{arc_slice_items}
use Rattle.x12_envelopes.specs.declared.party.Party.{Party}
use Rattle.x12_envelopes.specs.Shape.{bytes_of_set_no}
use Rattle.x12_acks.specs.Submission.{Submission, SubmittedGroup, SubmittedSet}
use Rattle.x12_outbound.specs.declared.fate.Fate.{Fate}
use Rattle.x12_outbound.specs.declared.fate.Fate.TheVariants.{Pending}
use Rattle.x12_outbound.specs.declared.entry.EntrySet.{EntrySet}
use Rattle.x12_outbound.specs.declared.entry.EntryGroup.{EntryGroup}
use Rattle.x12_outbound.specs.declared.entry.Entry.{Entry}
use Rattle.x12_outbound.specs.Fate.{is_pending}

-- a transaction set: its number (ST02), how it fares, and whether it is out, lifted to be settled
pub record SetRow : Type 0 where
  pub number : List ℕ
  pub fate : Fate
  pub is_out : Bool

-- a functional group: GS01, its number (GS06), and its transaction sets
pub record GroupRow : Type 0 where
  pub functional : List ℕ
  pub number : ℕ
  pub sets : List SetRow

-- an interchange: its number (ISA13), its receiver, its bytes, and its functional groups
pub record InterchangeRow : Type 0 where
  pub icn : ℕ
  pub receiver : Party
  pub bytes : List ℕ
  pub groups : List GroupRow

-- what the code's entries stand for
abbrev pub set_row : EntrySet → SetRow
set_row s = record { number = bytes_of_set_no s.number; fate = s.fate; is_out = s.out }

abbrev pub group_row : EntryGroup → GroupRow
group_row g = record { functional = g.functional; number = g.gcn; sets = map set_row g.sets.items }

abbrev pub entry_row : Entry → InterchangeRow
entry_row e = record {
  icn = e.icn;
  receiver = e.partner;
  bytes = arc_slice_items e.bytes;
  groups = map group_row e.groups.items;
}

-- what was submitted
abbrev pub submitted_set_of_row : SetRow → SubmittedSet
submitted_set_of_row s = record { number = s.number }

abbrev pub submitted_group_of_row : GroupRow → SubmittedGroup
submitted_group_of_row g =
    record { functional = g.functional; number = g.number; sets = map submitted_set_of_row g.sets }

abbrev pub submission_of_entry : Party → InterchangeRow → Submission
submission_of_entry sender e = record {
  sender = sender;
  receiver = e.receiver;
  icn = e.icn;
  bytes = e.bytes;
  groups = map submitted_group_of_row e.groups;
}

-- a submitted interchange before any evidence: each of its transaction sets is pending
abbrev pub pending_set : SubmittedSet → SetRow
pending_set s = record { number = s.number; fate = Pending; is_out = false }

abbrev pub pending_group : SubmittedGroup → GroupRow
pending_group g =
    record { functional = g.functional; number = g.number; sets = map pending_set g.sets }

unfoldable pub pending_entry : Submission → InterchangeRow
pending_entry e = record {
  icn = e.icn;
  receiver = e.receiver;
  bytes = e.bytes;
  groups = map pending_group e.groups;
}

-- an interchange is open while a transaction set of it is pending
abbrev pub row_is_open : InterchangeRow → Bool
row_is_open e = list_any (λ g. list_any (λ s. is_pending s.fate) g.sets) e.groups

-- what stands at a place, from 1
abbrev pub at_place : {X : Type 0} → ℕ → List X → Option X
at_place place xs = if place == 0 then None else slice_get xs (place - 1)

-- the list with what stands at a place changed
abbrev pub with_place : {X : Type 0} → (X → X) → ℕ → List X → List X
with_place f place xs =
    unwrap_or (option_map (λ x. slice_set xs (place - 1) (f x)) (at_place place xs)) xs

-- the transaction set at a place of the group at a place
unfoldable pub set_row_at : ℕ → ℕ → InterchangeRow → Option SetRow
set_row_at group set e = option_and_then (λ g. at_place set g.sets) (at_place group e.groups)

-- the interchange with that transaction set changed
unfoldable pub with_set_at : (SetRow → SetRow) → ℕ → ℕ → InterchangeRow → InterchangeRow
with_set_at f group set e = record e {
  groups = with_place (λ g. record g { sets = with_place f set g.sets }) group e.groups;
}

-- An interchange that can be sent has a functional group, its groups' numbers rise, and it is
-- within the limits of what is read: at most 32 functional groups, and at most 400 transaction sets
-- in all.
pub record IsSendable (e : Submission) : Type 0 where
  pub has_group : 0 < length e.groups
  pub groups_rise : AllPairs (λ g h. g.number < h.number) e.groups
  pub few_groups : length e.groups ≤ 32
  pub few_sets : sum_by (λ g. length g.sets) e.groups ≤ 400

-- the number of a submission's last group (GS06), which is its greatest; 0 where it has none
abbrev pub last_number_of : List GroupRow → ℕ
last_number_of groups =
    unwrap_or (option_map (λ g. g.number) (slice_get groups (length groups - 1))) 0
