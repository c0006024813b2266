-- The postings of stations, by their keys.
use Rattle.std.specs.Prelude.{◌≡◌, ◌<◌, ◌∷◌, ◌++◌, ℕ, List, [], Option, Some, None, get_or, length, map, slice_get, Vec}
use Rattle.std.specs.BTreeMap.{BTreeMap, get}
use Rattle.std.specs.declared.cmp.Ordering.{Ordering}
use Rattle.std.specs.Ordering.{nat_cmp, ordering_then}
use Rattle.std.specs.Global.{Global}
use Rattle.x12_acks.specs.Accepted.{AcceptedSet}
use Rattle.x12_acks.specs.Key.{key_view}
use Rattle.x12_acks.specs.declared.key.SetKey.{SetKey}
use Rattle.x12_inbound.specs.Order.{party_order}
use Rattle.x12_profile.specs.Interchange.{Bytes}
use Rattle.x12_profile.specs.X12.{x12}
use Rattle.x12_station.specs.History.{postings}
use Rattle.x12_station.specs.Station.{Station}
use Rattle.x12_world.specs.Auditing.{posted_bytes}

-- the order of keys: by sender, then by number, then by place, as their fields stand in the code
abbrev pub set_key_order : SetKey → SetKey → Ordering
set_key_order j k = ordering_then (party_order j.sender k.sender) (ordering_then (nat_cmp j.icn k.icn)
    (ordering_then (nat_cmp j.group k.group) (nat_cmp j.set k.set)))

-- the bytes of the postings under each key
abbrev pub Posted : Type 0
Posted = BTreeMap SetKey (Vec (Vec ℕ Global) Global)

-- what a look-up found, as bytes: none where it found nothing
abbrev pub bytes_found : Option (Vec (Vec ℕ Global) Global) → List Bytes
bytes_found None = []
bytes_found (Some under) = map (λ b. b.items) under.items

-- the bytes under a key
abbrev pub bytes_under : Posted → SetKey → List Bytes
bytes_under posted k = bytes_found (get set_key_order posted k)

-- under each key stand the bytes of the postings that have it, in their order
abbrev pub IsByKey : Posted → List AcceptedSet → Type 0
IsByKey posted sets = (k : SetKey) → bytes_under posted k ≡ posted_bytes (key_view k) sets

-- of the stations, as far as there are any, their postings by key
abbrev pub ArePosted : List Station → List Posted → Type 0
ArePosted ss all = (i : ℕ) (s : Station) (posted : Posted) → slice_get ss i ≡ Some s
    → i < length all → posted ≡ get_or all i posted → IsByKey posted (postings x12 s.items)

-- behind others stand the postings of a station, by key
abbrev pub IsOneMore : Station → List Posted → List Posted → Type 0
IsOneMore s old new =
    (posted : Posted) × (new ≡ old ++ posted ∷ []) × IsByKey posted (postings x12 s.items)
