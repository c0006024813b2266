-- The hubs whose TA1s a sender believes.
use Rattle.std.specs.Prelude.{List, ◌∷◌, option_to_list}
use Rattle.x12_envelopes.specs.declared.party.Party.{Party}
use Rattle.x12_outbound.specs.declared.hubs.Hubs.{Hubs}

-- the sender's hub, and the one that this is connected to, if there is one
abbrev pub hubs_of : Hubs → List Party
hubs_of h = h.hub ∷ option_to_list h.other
