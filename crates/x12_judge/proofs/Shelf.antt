-- What several crates above prove of this crate's words, once.
use Rattle.std.proofs.Common.{List, ap₂, true, ℕ, ◌≡◌}
use Rattle.std.proofs.lemmas.Bool.{and_parts}
use Rattle.std.proofs.lemmas.Slice.Eq.{bytes_eq-Decides}
use Rattle.std.specs.Str.{bytes_eq}
use Rattle.x12_envelopes.specs.declared.party.Party.{Party}
use Rattle.x12_judge.specs.Agreement.{is_same_party}

pub same_party : (p q : Party) → is_same_party p q ≡ true → p ≡ q
same_party p q same =
    let parts = and_parts (bytes_eq p.qualifier q.qualifier) (bytes_eq p.id q.id) same in
    let qualifier : p.qualifier ≡ q.qualifier = (bytes_eq-Decides p.qualifier q.qualifier).0 parts.0 in
    let id : p.id ≡ q.id = (bytes_eq-Decides p.id q.id).0 parts.1 in
    let party : List ℕ → List ℕ → Party = λ qualifier id. record { qualifier = qualifier; id = id } in
    ap₂ party qualifier id
