-- The header of a written interchange is read back.
use Rattle.std.proofs.Common.{◌≡◌, ◌≤◌, true, [], ◌∷◌, ◌++◌, length, drop, Ok, ap, arith, length-append, length-drop, flat_map}
use Rattle.std.proofs.lemmas.Bool.{leb-true, and_parts}
use Rattle.x12_envelopes.specs.Header.{header_of}
use Rattle.x12_envelopes.specs.Byte.{zero_padded_number}
use Rattle.x12_envelopes.specs.Delimiters.{bytes_are_delimiters}
use Rattle.x12_envelopes.specs.Segment.{segment_text, text_of}
use Rattle.x12_envelopes.specs.Envelope.{WrittenInterchange, group_segments, isa_segment, iea_segment, written_header, written}
use Rattle.x12_envelopes.specs.Fitting.{field_is_writable, header_is_writable, interchange_is_within_limits, ta1_is_writable, group_is_writable, interchange_fits}
use Rattle.std.specs.List.{list_all}
use Rattle.x12_envelopes.proofs.NumberLemmas.{padded_digits, padded_value}
use Rattle.x12_envelopes.proofs.WrittenLengthLemmas.{Sizes, sizes_of, length_padded, header_length, written_is}
use Rattle.x12_envelopes.proofs.HeaderTextLemmas.{header_reads}

-- the conditions of an interchange that fits, one by one
pub record Fitting (x : WrittenInterchange) : Type 0 where
  pub sizes : Sizes x
  pub number : x.icn ≤ 999999999
  pub good : bytes_are_delimiters x.delims ≡ true
  pub sender_qualifier : field_is_writable x.delims x.sender.qualifier ≡ true
  pub sender_id : field_is_writable x.delims x.sender.id ≡ true
  pub receiver_qualifier : field_is_writable x.delims x.receiver.qualifier ≡ true
  pub receiver_id : field_is_writable x.delims x.receiver.id ≡ true
  pub date : field_is_writable x.delims (drop 2 x.date) ≡ true
  pub time : field_is_writable x.delims x.time ≡ true
  pub ack : field_is_writable x.delims (x.ack ∷ []) ≡ true
  pub usage : field_is_writable x.delims (x.usage ∷ []) ≡ true
  pub tas : list_all (ta1_is_writable x.delims) x.tas ≡ true
  pub groups : list_all (group_is_writable x.delims) x.groups ≡ true
  pub limits : interchange_is_within_limits x ≡ true
  pub short : length (written x) ≤ 1048576

limit_of : (x : WrittenInterchange) → interchange_is_within_limits x ≡ true → length (written x) ≤ 1048576
unfolding interchange_is_within_limits
limit_of x held = leb-true (length (written x)) 1048576 (and_parts _ _ held).1

pub fitting : (x : WrittenInterchange) → interchange_fits x ≡ true → Fitting x
unfolding interchange_fits header_is_writable
fitting x held =
    let a = and_parts _ _ held in
    let b = and_parts _ _ a.0 in
    let c = and_parts _ _ b.0 in
    let e = and_parts _ _ c.0 in
    let usage = and_parts _ _ e.1 in
    let ack = and_parts _ _ usage.0 in
    let time = and_parts _ _ ack.0 in
    let date = and_parts _ _ time.0 in
    let rid = and_parts _ _ date.0 in
    let rq = and_parts _ _ rid.0 in
    let sid = and_parts _ _ rq.0 in
    let sq = and_parts _ _ sid.0 in
    let number = and_parts _ _ sq.0 in
    record {
      sizes = sizes_of x e.0;
      number = leb-true x.icn 999999999 number.1;
      good = number.0;
      sender_qualifier = sq.1;
      sender_id = sid.1;
      receiver_qualifier = rq.1;
      receiver_id = rid.1;
      date = date.1;
      time = time.1;
      ack = ack.1;
      usage = usage.1;
      tas = c.1;
      groups = b.1;
      limits = a.1;
      short = limit_of x a.1;
    }

pub header_back : (x : WrittenInterchange) → interchange_fits x ≡ true → header_of (written x) ≡ Ok (written_header x)
header_back x held =
    let f = fitting x held in
    let d = x.delims in
    let rest = text_of d x.tas ++ (text_of d (flat_map group_segments x.groups) ++ segment_text d (iea_segment x)) in
    let least : 106 ≤ length (written x) =
    omega (arith, ap length (written_is x), length-append (segment_text d (isa_segment x)) rest, header_length x f.sizes f.number) in
    header_reads d x.sender.qualifier x.sender.id x.receiver.qualifier x.receiver.id (drop 2 x.date) x.time (zero_padded_number 9 x.icn) x.ack x.usage x.icn rest (written x) (record {
      sq_size = f.sizes.sender_qualifier;
      sid_size = f.sizes.sender_id;
      rq_size = f.sizes.receiver_qualifier;
      rid_size = f.sizes.receiver_id;
      date_size = omega (arith, length-drop 2 x.date, f.sizes.date);
      time_size = f.sizes.time;
      number_size = length_padded 9 x.icn (omega arith) (omega (arith, f.number)) (omega (arith, f.number));
      good = f.good;
      sq_field = f.sender_qualifier;
      sid_field = f.sender_id;
      rq_field = f.receiver_qualifier;
      rid_field = f.receiver_id;
      date_field = f.date;
      time_field = f.time;
      digits = padded_digits 9 x.icn f.number;
      ack_field = f.ack;
      usage_field = f.usage;
    }) (written_is x) least f.short (padded_value 9 x.icn f.number)
