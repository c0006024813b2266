-- What was written is read back (X12.5, X12.6).
use Rattle.std.specs.Prelude.{◌≡◌, ◌+◌, true, length, map, Ok, Some, decimal}
use Rattle.x12_envelopes.specs.declared.delimiters.Delims.{Delims}
use Rattle.x12_envelopes.specs.Segment.{Segment, text_of, elements_of}
use Rattle.x12_envelopes.specs.Byte.{number_of_digits}
use Rattle.x12_envelopes.specs.Header.{header_of}
use Rattle.x12_envelopes.specs.Content.{ta1_of, group_of_gs}
use Rattle.x12_envelopes.specs.Shape.{TransactionSet, FunctionalGroup, Interchange}
use Rattle.x12_envelopes.specs.Outline.{outline_of}
use Rattle.x12_envelopes.specs.Envelope.{WrittenSet, WrittenGroup, WrittenInterchange, element_at}
use Rattle.x12_envelopes.specs.Envelope.{set_segments, written_header, written}
use Rattle.x12_envelopes.specs.Fitting.{segment_is_writable, joined, interchange_fits}

-- the elements of a written segment are the segment's
abbrev pub ElementsReadBack : Type 0
ElementsReadBack =
    (d : Delims) (s : Segment) → segment_is_writable d s ≡ true → elements_of d (joined d s) ≡ s

-- the header of a written interchange is read back
abbrev pub HeaderReadBack : Type 0
HeaderReadBack =
    (x : WrittenInterchange) → interchange_fits x ≡ true → header_of (written x)
    ≡ Ok (written_header x)

-- the outline of a written transaction set
abbrev pub written_set_outline : Delims → WrittenSet → TransactionSet
written_set_outline d s = record {
  set = element_at s.header 1;
  number = element_at s.header 2;
  bytes = text_of d (set_segments s);
  parts = map (joined d) (set_segments s);
  segments = length s.segments + 2;
  trailer = Some (record { count = Some (length s.segments + 2); number = element_at s.header 2 });
}

-- the outline of a written functional group
abbrev pub written_group_outline : Delims → WrittenGroup → FunctionalGroup
written_group_outline d g =
    group_of_gs (element_at g.header) (map (written_set_outline d) g.sets) (Some (record {
      count_text = decimal (length g.sets);
      count = Some (length g.sets);
      number = number_of_digits (element_at g.header 6);
    }))

-- the outline of a written interchange
abbrev pub written_outline : WrittenInterchange → Interchange
written_outline x = record {
  tas = map (λ s. ta1_of x.delims (joined x.delims s)) x.tas;
  groups = map (written_group_outline x.delims) x.groups;
  count = Some (length x.groups);
  trailer = Some x.icn;
}

-- the outline of a written interchange is read back
abbrev pub OutlineReadBack : Type 0
OutlineReadBack =
    (x : WrittenInterchange) → interchange_fits x ≡ true
    → outline_of x.delims (written x) ≡ Ok (written_outline x)
