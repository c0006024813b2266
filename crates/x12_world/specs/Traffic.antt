-- Facts about all that was ever sent. They make the headline inductive: each speaks of what
-- stands in the packets and in the nodes' lists, which only grow, so an event has to be looked at
-- only for what it adds.
use Rattle.std.specs.Prelude.{◌≡◌, ◌⊎◌, ℕ, Some, Contains, IsTrue, false}
use Rattle.x12_envelopes.specs.declared.party.Party.{Party}
use Rattle.x12_profile.specs.declared.edition.Edition.{Edition}
use Rattle.x12_profile.specs.Interchange.{Bytes, PlacedEvidence}
use Rattle.x12_profile.specs.Profile.{Profile}
use Rattle.x12_station.specs.History.{HasCame, submissions, arrivals, told_in}
use Rattle.x12_station.specs.Station.{Station}
use Rattle.x12_hub.specs.Hub.{Hub, Decision, Boxed, refused_with}
use Rattle.x12_core.specs.Packet.{Item, carried}
use Rattle.x12_world.specs.Packet.{SentPacket}
use Rattle.x12_world.specs.Nodes.{home_of, party_at}
use Rattle.x12_world.specs.World.{World, StationAt, HubAt}
use Rattle.x12_world.specs.Held.{IsKept}

-- some node of the world has this party
abbrev pub IsNode : World → Party → Type 0
IsNode w party = (i : ℕ) × (party_at w.nodes i ≡ Some party)

-- some packet that was ever sent carries b
abbrev pub WasSent : World → Bytes → Type 0
WasSent w b = (q : SentPacket) × Contains w.packets q × (carried q.packet.load ≡ Some b)

-- station s, at some node, submitted x
abbrev pub HasSubmitted : World → Station → Bytes → Type 0
HasSubmitted w s x = (i : ℕ) × StationAt w i s × Contains (submissions s.items) x

-- a hub put b into the mailbox of node k
abbrev pub IsBoxedFor : World → ℕ → Bytes → Type 0
IsBoxedFor w k b = (j : ℕ) × (h : Hub) × (item : ℕ) × HubAt w j h
    × Contains h.decisions (record { body = b; outcome = Boxed k item })

module _ (p : Profile) where
  -- the facts, of a world
  pub record TrafficFacts (w : World) : Type 0 where
    -- Under a node's name one number has one bytes. Else an acknowledgment, which names a number,
    -- could be taken for that of other bytes, and other bytes could come under a filed number.
    pub one_number : (b c : Bytes) → WasSent w b → WasSent w c → IsNode w (p.sender b)
        → p.sender b ≡ p.sender c → p.number b ≡ p.number c → b ≡ c
    -- Whatever a packet from a submission's receiver tells of it stands in the reply that the
    -- receiver keeps. Else a repeat could be judged anew, and tell another fate than was posted.
    pub kept_reply : (s : Station) (x : Bytes) → HasSubmitted w s x → (j : ℕ) (a : Station)
        → StationAt w j a → a.me ≡ p.receiver x
        → (b : Bytes) → WasSent w b → p.sender b ≡ a.me → IsTrue (p.has_header b)
        → (by : Edition) → p.refuses by s.me b ≡ false
        → (e : PlacedEvidence) → Contains (p.evidence by s.hubs b x) e
        → HasCame a.items x (Some b)
    -- A hub's refusal of bytes and its forwarding of them exclude each other for good, and an item
    -- is what its hub put into the mailbox of the node that it goes to. Else a set could be rejected
    -- by a hub first, and accepted and posted by its receiver later.
    pub refused_or_boxed : (k : ℕ) (h : Hub) (x r : Bytes) → HubAt w k h
        → Contains h.decisions (refused_with x r) → (node item : ℕ)
        → ¬ (Contains h.decisions (record { body = x; outcome = Boxed node item }))
    pub forwarded_as_boxed : (q : SentPacket) (item : ℕ) (b : Bytes)
        → Contains w.packets q → q.packet.load ≡ Item item b
        → (h : Hub) × HubAt w q.packet.from h
        × Contains h.decisions (record { body = b; outcome = Boxed q.packet.to item })
    -- What a hub decided under a station's name is of a station of its own, or some hub put it into
    -- the mailbox of this one. Else a set that one hub refused could be posted by way of the other.
    pub decided_from : (k : ℕ) (h : Hub) (d : Decision) → HubAt w k h → Contains h.decisions d
        → (i : ℕ) (s : Station) → StationAt w i s → s.me ≡ p.sender d.body
        → (home_of w.nodes i ≡ k) ⊎ IsBoxedFor w k d.body
    -- Each fate of a set addressed to a node was learnt from one of these: the receiver's kept
    -- reply, or a hub's kept refusal. Else a fate could come from elsewhere, and say anything.
    pub learnt_from : (s : Station) (x : Bytes) → HasSubmitted w s x → IsNode w (p.receiver x)
        → (e : PlacedEvidence) → Contains (told_in p s.me s.hubs s.items x) e
        → (by : Edition) × (r : Bytes) × Contains (arrivals s.items) r × IsKept p w x r
        × Contains (p.evidence by s.hubs r x) e
