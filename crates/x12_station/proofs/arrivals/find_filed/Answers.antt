-- What the map finds under a partner and a number was filed under them.
use Rattle.std.proofs.Common.{◌∙◌, ap, sym}
use Rattle.std.specs.Option.{option_copied}
use Rattle.x12_station.proofs.ArrivalMapLemmas.{some_found, none_found}
use Rattle.x12_station.proofs.arrivals.find_filed.Goals as goal

pub returns-in_ok-copy_filed-in-Some : goal.returns-in_ok-copy_filed-in-Some
returns-in_ok-copy_filed-in-Some c =
    some_found c.args.arrivals.now.entries c.args.partner.now c.args.icn c.key_of.result c.in-Some.arrival.now _ c.key_of.ensures
    (sym c.get.ensures.value ∙ ap option_copied c.in-Some.is) (c.in_ok-copy_filed-in-Some.ensures c.args.partner.now c.args.icn)

pub returns-in-None : goal.returns-in-None
returns-in-None c =
    none_found c.args.arrivals.now.entries c.args.partner.now c.args.icn c.key_of.result c.key_of.ensures
    (sym c.get.ensures.value ∙ ap option_copied c.in-None.is)
