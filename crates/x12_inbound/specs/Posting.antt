-- The postings of an interchange: its accepted transaction sets.
use Rattle.std.specs.Prelude.{◌<◌, ◌^◌, ◌-◌, length, All}
use Rattle.x12_envelopes.specs.Shape.{bytes_of_set_no}
use Rattle.x12_judge.specs.Verdict.{InterchangeVerdict, refused, judged}
use Rattle.x12_acks.specs.Key.{key_view}
use Rattle.x12_acks.specs.Accepted.{AcceptedSet}
use Rattle.x12_inbound.specs.declared.posting.Posting.{Posting}

-- what the code's posting stands for
abbrev pub posting_view : Posting → AcceptedSet
posting_view p = record {
  key = key_view p.key;
  functional = p.functional;
  set = p.set;
  number = bytes_of_set_no p.number;
  bytes = p.bytes.items;
}

-- each judged group has fewer transaction sets than a place can tell, as each verdict of an
-- interchange has
abbrev pub HasFewSets : InterchangeVerdict → Type 0
HasFewSets (refused note) = Unit {0}
HasFewSets (judged groups) = All (λ g. length g.sets < 2 ^ 16 - 1) groups
