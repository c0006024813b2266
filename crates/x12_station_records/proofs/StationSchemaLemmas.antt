-- The tables of a station's records are those of their texts.
use Rattle.std.proofs.Common.{◌≡◌, Ok, refl}
use Rattle.sqlite.specs.Listing.{understood}
use Rattle.sqlite_resolve.specs.Compile.{table_defined_by, index_defined_by}
use Rattle.sqlite_tied.specs.Compute.{everything}
use Rattle.x12_station_records.specs.StationSchema.{outset_text, agreement_text, agreement, inbound, outbound, posting_text, numbers_text, outset, inbound_text, posting, outbound_text, numbers, outset_fate_text, outbound_seq_text, outbound_seq, outset_fate, outset_group, outset_group_text}

pub tables_are : (table_defined_by numbers_text ≡ Ok (numbers 0)) × (table_defined_by agreement_text ≡ Ok (agreement 0)) × (table_defined_by outbound_text ≡ Ok (outbound 0))
    × (table_defined_by outset_text ≡ Ok (outset 0)) × (table_defined_by inbound_text ≡ Ok (inbound 0)) × (table_defined_by posting_text ≡ Ok (posting 0))
unfolding understood everything
tables_are = (refl, refl, refl, refl, refl, refl)

pub made_indexes_are : (index_defined_by (outset 4) outset_group_text ≡ Ok (outset_group 0 4)) × (index_defined_by (outset 4) outset_fate_text ≡ Ok (outset_fate 0 4))
    × (index_defined_by (outbound 3) outbound_seq_text ≡ Ok (outbound_seq 0 3))
unfolding understood everything
made_indexes_are = (refl, refl, refl)
