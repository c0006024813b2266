use Rattle.std.proofs.Common.{◌≡◌, length, arith}
use Rattle.x12_envelopes.proofs.HeaderPartLemmas.{whole_text}
use Rattle.x12_envelopes.proofs.writing.header_text.Goals as goal

pub returns : goal.returns
returns c =
    let no_security : length c.text_of_no_security.result ≡ 31 = omega arith in
    let sender : length c.text_of_party.result ≡ 19 = omega arith in
    let receiver : length c.text_of_party-2.result ≡ 19 = omega arith in
    let making : length c.text_of_making.result ≡ 20 = omega arith in
    let end : length c.text_of_end.result ≡ 17 = omega arith in
    whole_text c.args.header.now _ _ _ _ _ _ _ _ _ _
    c.text_of_no_security.ensures c.text_of_party.ensures c.text_of_party-2.ensures c.text_of_making.ensures c.text_of_end.ensures
    no_security sender receiver making end
    c.put.ensures.put c.put-2.ensures.put c.put-3.ensures.put c.put-4.ensures.put c.put-5.ensures.put
