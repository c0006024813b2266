-- The posting at the index before is the one at the place.
use Rattle.std.proofs.Common.{rules, ◌∙◌, ap, sym, Some}
use Rattle.x12_inbound.specs.Posting.{posting_view}
use Rattle.x12_outbound.proofs.PlaceLemmas.{at_place_map, at_place_map_past}
use Rattle.x12_station.proofs.finding.posting_at.Goals as goal

pub returns-in_ok-copy_posting-in-Some-get : goal.returns-in_ok-copy_posting-in-Some-get
returns-in_ok-copy_posting-in-Some-get c =
    ap Some c.in_ok-copy_posting-in-Some-get.ensures
    ∙ sym (at_place_map posting_view c.args.postings.now c.args.at c.in-Some.index c.in-Some-get.posting.now (search rules) (search rules) (search rules))

pub returns-in-None : goal.returns-in-None
returns-in-None c = sym (at_place_map_past posting_view c.args.postings.now c.args.at (search rules))
