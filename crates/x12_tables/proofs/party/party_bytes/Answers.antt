use Rattle.std.proofs.Common.{◌≡◌, length, rules}
use Rattle.x12_tables.proofs.PartyLemmas.{joined}
use Rattle.x12_tables.proofs.party.party_bytes.Goals as goal

pub returns-clause-bytes : goal.returns-clause-bytes
returns-clause-bytes c =
    let party = c.args.party.now in
    let two : length party.qualifier ≡ 2 = search rules in
    joined c.copy_from_slice.new.self c.copy_from_slice-2.new.self party.qualifier party.id c.copy_from_slice.ensures.after c.copy_from_slice-2.ensures.after two
