use Rattle.std.proofs.Common.{◌≡◌, length, arith}
use Rattle.x12_envelopes.proofs.HeaderPartLemmas.{party_text}
use Rattle.x12_envelopes.proofs.writing.text_of_party.Goals as goal

pub returns : goal.returns
returns c =
    let party = c.args.party.now in
    let two : length party.qualifier ≡ 2 = omega arith in
    let fifteen : length party.id ≡ 15 = omega arith in
    party_text c.args.element party.qualifier party.id _ _ two fifteen c.put.ensures.put c.put-2.ensures.put
