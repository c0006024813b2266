-- Records of a hub that hold nothing.
use Rattle.std.proofs.Common.{◌≡◌, ap}
use Rattle.x12_envelopes.specs.declared.party.Party.{Party}
use Rattle.x12_hub.specs.Stored.{HubStored, hub_nothing_stored}

-- they are of the party that they were made for
pub party_of_nothing : (me : Party) (s : HubStored) → s ≡ hub_nothing_stored me → s.party ≡ me
party_of_nothing me s is = ap (λ (t : HubStored). t.party) is
