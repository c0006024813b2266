-- What is told where postings are handed over in memory.
use Rattle.std.specs.Prelude.{map}
use Rattle.x12_inbound.specs.Posting.{posting_view}
use Rattle.x12_spool.specs.declared.handed.Handed.{Handed}
use Rattle.x12_spool.specs.declared.handed.Handed.TheVariants as handed
use Rattle.x12_spool.specs.Deed.{Deed, Settles, Drafts, Syncs, Marks, Names}

abbrev pub deed_of_handed : Handed → Deed
deed_of_handed (handed.Settled postings) = Settles (map posting_view postings.items)
deed_of_handed (handed.Drafted posting) = Drafts (posting_view posting)
deed_of_handed handed.Synced = Syncs
deed_of_handed (handed.Marked count) = Marks count
deed_of_handed (handed.Named posting) = Names (posting_view posting)
