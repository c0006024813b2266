-- The outline of an interchange (X12.5, X12.6): its TA1s, functional groups and transaction sets.
use Rattle.std.specs.Prelude.{◌≡◌, ℕ, List, take, map, Option, option_map, Result, Ok, Err, vec_len}
use Rattle.std.specs.List.{sum_by}
use Rattle.x12_envelopes.specs.declared.delimiters.Delims.{Delims}
use Rattle.x12_envelopes.specs.declared.shape.Ta1.{Ta1}
use Rattle.x12_envelopes.specs.declared.shape.SetNo.{SetNo}
use Rattle.x12_envelopes.specs.declared.shape.SetTrailer.{SetTrailer}
use Rattle.x12_envelopes.specs.declared.shape.GroupTrailer.{GroupTrailer}
use Rattle.x12_envelopes.specs.declared.shape.SetView.{SetView}
use Rattle.x12_envelopes.specs.declared.shape.GroupView.{GroupView}
use Rattle.x12_envelopes.specs.declared.shape.Outline.{Outline}
use Rattle.x12_envelopes.specs.declared.shape.OutlineFault.{OutlineFault}
use Rattle.x12_envelopes.specs.declared.shape.OutlineFault.TheVariants.{Memory}
use Rattle.x12_envelopes.specs.Segment.{parts_of}

-- SE: the number of segments, where it is one, and the control number as it is spelled
pub record TransactionSetTrailer : Type 0 where
  pub count : Option ℕ
  pub number : List ℕ

-- a transaction set: its identifier (ST01), its control number (ST02), its bytes from ST through
-- its last terminator, its segments from ST on and how many they are, and SE where it was sent
pub record TransactionSet : Type 0 where
  pub set : List ℕ
  pub number : List ℕ
  pub bytes : List ℕ
  pub parts : List (List ℕ)
  pub segments : ℕ
  pub trailer : Option TransactionSetTrailer

-- GE: the number of transaction sets, as spelled and where it is a number, and the control number
pub record FunctionalGroupTrailer : Type 0 where
  pub count_text : List ℕ
  pub count : Option ℕ
  pub number : Option ℕ

-- a functional group: GS01, GS02, GS03, GS06 as it is spelled and as a number, GS08, its
-- transaction sets, and GE where it was sent
pub record FunctionalGroup : Type 0 where
  pub functional : List ℕ
  pub sender : List ℕ
  pub receiver : List ℕ
  pub number_text : List ℕ
  pub number : ℕ
  pub version : List ℕ
  pub sets : List TransactionSet
  pub trailer : Option FunctionalGroupTrailer

-- what an interchange holds after ISA: TA1s, functional groups, and what IEA says
pub record Interchange : Type 0 where
  pub tas : List Ta1
  pub groups : List FunctionalGroup
  pub count : Option ℕ
  pub trailer : Option ℕ

-- the control number that a SetNo spells
abbrev pub bytes_of_set_no : SetNo → List ℕ
bytes_of_set_no n = take n.len n.bytes

-- What the code's views stand for.

-- SE
abbrev pub set_trailer_view : SetTrailer → TransactionSetTrailer
set_trailer_view t = record { count = t.count; number = t.number.now }

-- a transaction set
abbrev pub set_view : Delims → SetView → TransactionSet
set_view d s = record {
  set = s.set;
  number = bytes_of_set_no s.number;
  bytes = s.bytes.now;
  parts = parts_of d s.bytes.now;
  segments = s.segments;
  trailer = option_map set_trailer_view s.trailer;
}

-- GE
abbrev pub group_trailer_view : GroupTrailer → FunctionalGroupTrailer
group_trailer_view t = record { count_text = t.count_text.now; count = t.count; number = t.number }

-- a functional group
abbrev pub group_view : Delims → GroupView → FunctionalGroup
group_view d g = record {
  functional = g.functional;
  sender = g.sender.now;
  receiver = g.receiver.now;
  number_text = g.number_text.now;
  number = g.number;
  version = g.version.now;
  sets = map (set_view d) g.sets.items;
  trailer = option_map group_trailer_view g.trailer;
}

-- what an interchange holds after ISA
abbrev pub outline_view : Delims → Outline → Interchange
outline_view d o = record {
  tas = o.tas.items;
  groups = map (group_view d) o.groups.items;
  count = o.count;
  trailer = o.trailer;
}

-- how many transaction sets the functional groups of an outline have in all
abbrev pub sets_of_outline : Outline → ℕ
sets_of_outline o = sum_by (λ (g : GroupView). vec_len g.sets) o.groups.items

-- the answer is the one that reading gives, unless memory ran out
abbrev pub GivesUnlessMemory :
    {X Y : Type 0} → (X → Y) → Result X OutlineFault → Result Y OutlineFault → Type 0
GivesUnlessMemory view (Ok x) read = read ≡ Ok (view x)
GivesUnlessMemory view (Err Memory) read = Unit {0}
GivesUnlessMemory view (Err fault) read = read ≡ Err fault
