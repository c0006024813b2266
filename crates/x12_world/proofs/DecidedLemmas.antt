-- The decision on bytes, with more decisions behind.
use Rattle.std.specs.Prelude.{◌≡◌, List, [], ◌∷◌, ◌++◌, Some, None, bytes_eq}
use Rattle.x12_profile.specs.Interchange.{Bytes}
use Rattle.x12_hub.specs.Hub.{Decision, HubOutcome, decided}
use Rattle.x12_station.proofs.ListLemmas.{same_way, none_way}
use Rattle.x12_numbers.proofs.Shelf.{bytes_eq_itself}

pub decided_stays : (ds es : List Decision) (b : Bytes) (o : HubOutcome) → decided ds b ≡ Some o → decided (ds ++ es) b ≡ Some o
decided_stays [] es b o e = absurd (cc)
decided_stays (d ∷ ds) es b o e = same_way (bytes_eq d.body b) (Some d.outcome) (decided ds b) (decided (ds ++ es) b) (Some o) (decided_stays ds es b o) e

pub decided_last : (ds : List Decision) (d : Decision) → decided ds d.body ≡ None → decided (ds ++ d ∷ []) d.body ≡ Some d.outcome
decided_last [] d e = rw (bytes_eq_itself d.body)
decided_last (c ∷ ds) d e = none_way (bytes_eq c.body d.body) c.outcome (decided ds d.body) (decided (ds ++ d ∷ []) d.body) (Some d.outcome) (decided_last ds d) e
