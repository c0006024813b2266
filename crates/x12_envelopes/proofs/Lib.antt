pub mod KindLemmas
pub mod FrontLemmas
pub mod DigitLemmas
pub mod CuttingLemmas
pub mod ElementLemmas
pub mod LineEndLemmas
pub mod TakenLemmas
pub mod ShortCutLemmas
pub mod HeaderElementLemmas
pub mod HeaderCountLemmas
pub mod JoinedLemmas
pub mod TrailerLemmas
pub mod OtherSegmentLemmas
pub mod PlainLemmas
pub mod SegmentLemmas
pub mod FirstFaultLemmas
pub mod PlainDataLemmas
pub mod SetNumberLemmas
pub mod SetLemmas
pub mod GroupLemmas
pub mod OutlineLemmas
pub mod HeaderLemmas
pub mod PaddingLemmas
pub mod LastElementLemmas
pub mod ContentLemmas
pub mod TextLengthLemmas
pub mod ReadSegmentLemmas
pub mod ReadHeaderLemmas
pub mod WrittenGroupLemmas
pub mod WrittenLengthLemmas
pub mod NumberLemmas
pub mod HeaderTextLemmas
mod HeaderPartLemmas
pub mod HeaderBackLemmas
pub mod PlacedLemmas
pub mod WrittenKindLemmas
pub mod WrittenFaultLemmas
pub mod WrittenOutlineLemmas
pub mod OutlineBackLemmas
pub mod TextLemmas
pub mod TreeLemmas
pub mod FoundTreeLemmas
pub mod WritableElementLemmas
pub mod WritableHeaderLemmas
pub mod KnownFaultLemmas
mod OpenLemmas
mod StandLemmas
mod ReasonLemmas
