-- A trading partner agreement: which transaction sets a partner may send, and in which functional
-- groups.
use Rattle.std.specs.Prelude.{ℕ, Bool, ◌&&◌, List, [], ◌∷◌, flat_map, bytes_eq, if◌then◌else◌}
use Rattle.std.specs.List.{list_any}
use Rattle.x12_envelopes.specs.declared.party.Party.{Party}
use Rattle.x12_judge.specs.declared.agreement.Agreement.{Agreement}

-- the same qualifier and the same identifier
abbrev pub is_same_party : Party → Party → Bool
is_same_party p q = bytes_eq p.qualifier q.qualifier && bytes_eq p.id q.id

-- GS01 of a pair of GS01 and ST01
abbrev pub pair_functional : List ℕ × List ℕ → List ℕ
pair_functional pair = pair.0

-- ST01 of such a pair
abbrev pub pair_set : List ℕ × List ℕ → List ℕ
pair_set pair = pair.1

-- an agreement: the partner; whether sets are accepted whose only errors are in elements, with these noted; and
-- the pairs of GS01 and ST01 that are taken
pub record TradingAgreement : Type 0 where
  pub partner : Party
  pub lenient : Bool
  pub pairs : List (List ℕ × List ℕ)

-- what the code's agreement stands for
abbrev pub agreement_view : Agreement → TradingAgreement
agreement_view a = record { partner = a.partner; lenient = a.lenient; pairs = a.pairs.items }

-- transaction sets of this identifier are taken from the partner in functional groups of this code
unfoldable pub set_is_agreed : List TradingAgreement → Party → List ℕ → List ℕ → Bool
set_is_agreed agreements partner functional set =
    list_any (λ a. is_same_party a.partner partner
    && list_any (λ pair. bytes_eq (pair_functional pair) functional && bytes_eq (pair_set pair) set) a.pairs) agreements

-- sets of the partner are accepted whose only errors are in elements, with these noted
unfoldable pub partner_is_lenient : List TradingAgreement → Party → Bool
partner_is_lenient agreements partner =
    list_any (λ a. is_same_party a.partner partner && a.lenient) agreements

-- some transaction set is taken from the partner in functional groups of this code
unfoldable pub group_is_agreed : List TradingAgreement → Party → List ℕ → Bool
group_is_agreed agreements partner functional =
    list_any (λ a. is_same_party a.partner partner
    && list_any (λ pair. bytes_eq (pair_functional pair) functional) a.pairs) agreements

-- the identifiers of the transaction sets that an agreement takes from the partner in functional
-- groups of this code
unfoldable pub sets_taken : Party → List ℕ → TradingAgreement → List (List ℕ)
sets_taken partner functional a =
    if is_same_party a.partner partner then
    flat_map (λ pair. if bytes_eq (pair_functional pair) functional then pair_set pair ∷ [] else []) a.pairs
    else []
