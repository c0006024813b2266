-- An audit by parts: a submitted set by its key, and what is posted under a key.
use Rattle.std.specs.Prelude.{◌≡◌, ℕ, List, [], Bool, map, filter, find, length, bytes_eq, Option, option_map, option_to_list, unwrap_or}
use Rattle.std.specs.List.{list_all}
use Rattle.x12_acks.specs.Accepted.{AcceptedSet}
use Rattle.x12_acks.specs.Key.{is_same_key, key_view}
use Rattle.x12_acks.specs.Submission.{TransactionSetKey}
use Rattle.x12_envelopes.specs.declared.party.Party.{Party}
use Rattle.x12_inbound.specs.Register.{posted_in}
use Rattle.x12_judge.specs.Agreement.{is_same_party}
use Rattle.x12_outbound.specs.declared.fate.Fate.{Fate}
use Rattle.x12_profile.specs.Interchange.{Bytes}
use Rattle.x12_profile.specs.X12.{x12}
use Rattle.x12_station.specs.History.{posted_under, postings}
use Rattle.x12_station.specs.Key.{OwnSet, own_fate, own_key, own_set}
use Rattle.x12_station.specs.Station.{Station}
use Rattle.x12_world.specs.Audit.{Audit, audit, stations_of}
use Rattle.x12_report.specs.declared.audit.Audit.{Audit as CodeAudit}
use Rattle.x12_world.specs.declared.placing.Addressed.{Addressed}
use Rattle.x12_world.specs.Reach.{ReachedFacts}
use Rattle.x12_world.specs.Placing.{AddressedSet, addressed, addressed_view}
use Rattle.x12_world.specs.World.{World}

-- what the code's audit stands for
abbrev pub audit_view : CodeAudit → Audit
audit_view a = record {
  key = key_view a.key;
  receiver = a.receiver;
  fate = a.fate;
  posted = a.posted;
  intact = a.intact;
}

-- the bytes of each posting under a key
abbrev pub posted_bytes : TransactionSetKey → List AcceptedSet → List Bytes
posted_bytes k sets = map (λ q. q.bytes) (filter (λ q. is_same_key k q.key) sets)

-- the set of an interchange that has this key
abbrev pub set_under : TransactionSetKey → Bytes → Option OwnSet
set_under k x = find (λ c. is_same_key k (own_key x12 c))
    (map (λ t. record { interchange = x; set = t }) (x12.sets x))

-- the station of this party among stations
abbrev pub station_among : List Station → Party → Option Station
station_among ss party = find (λ s. is_same_party s.me party) ss

-- what a station has of the set of a key: as it submitted it, and how it fares
abbrev pub held_under : Station → TransactionSetKey → Option (AddressedSet × Fate)
held_under s k =
    option_map (λ c. (addressed c, own_fate x12 s.me s.hubs s.items c)) (own_set x12 s.items k)

abbrev pub held_set_view : Addressed × Fate → AddressedSet × Fate
held_set_view h = (addressed_view h.0, h.1)

-- how many postings a receiver has under a key, if it is a station, and whether each has these bytes
abbrev pub found_under : Option Station → TransactionSetKey → Bytes → Option ℕ × Bool
found_under receiver k bytes =
    let posted = option_map (λ s. posted_under x12 k s.items) receiver in
    (option_map length posted, list_all (bytes_eq bytes) (unwrap_or posted []))

-- the bytes of a posting, if there is one
abbrev pub bytes_of_posting : Option AcceptedSet → List Bytes
bytes_of_posting posting = map (λ q. q.bytes) (option_to_list posting)

-- the bytes of the first posting under a key, if there is one
abbrev pub first_bytes : TransactionSetKey → List AcceptedSet → List Bytes
first_bytes k sets = bytes_of_posting (posted_in sets k)

-- the same of the first one alone: of all, where no two have the key
abbrev pub first_under : Option Station → TransactionSetKey → Bytes → Option ℕ × Bool
first_under receiver k bytes =
    let posted = option_map (λ s. first_bytes k (postings x12 s.items)) receiver in
    (option_map length posted, list_all (bytes_eq bytes) (unwrap_or posted []))

-- it is the audit of each network with these stations
abbrev pub IsAuditAmong : List Station → TransactionSetKey → Option Audit → Type 0
IsAuditAmong ss k found = (w : World) → stations_of w ≡ ss → found ≡ audit x12 w k

-- it is the audit of each such network that was reached
abbrev pub IsReachedAudit : List Station → TransactionSetKey → Option Audit → Type 0
IsReachedAudit ss k found =
    (w : World) → ReachedFacts x12 w → stations_of w ≡ ss → found ≡ audit x12 w k
