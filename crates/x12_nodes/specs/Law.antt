-- The law of the merge: what has to hold of logs, entry by entry, so that they are one run.
use Rattle.std.specs.Prelude.{◌≡◌, ◌≢◌, ◌<◌, ◌&&◌, ◌++◌, ℕ, suc, List, [], ◌∷◌, false, Option, Some, None, IsSome, Contains, is_some, length, map, slice_get}
use Rattle.std.specs.List.{list_any}
use Rattle.x12_core.specs.Action.{node_served}
use Rattle.x12_core.specs.Ask.{Ask, Do, Comes, Outside, Fate}
use Rattle.x12_core.specs.Node.{Node}
use Rattle.x12_core.specs.Packet.{Packet, PacketName}
use Rattle.x12_envelopes.specs.declared.party.Party.{Party}
use Rattle.x12_judge.specs.Agreement.{is_same_party}
use Rattle.x12_nodes.specs.Log.{FateIs, Replays, StampsRise}
use Rattle.x12_nodes.specs.Merge.{Logged, entries_of, IsFateOf, IsOneRun, RunsAs}
use Rattle.x12_outbound.specs.declared.fate.Fate.{Fate as SetFate}
use Rattle.x12_profile.specs.Interchange.{Bytes, PlacedTransactionSet}
use Rattle.x12_profile.specs.X12.{x12}
use Rattle.x12_world.specs.Headline.{Headline}
use Rattle.x12_world.specs.Network.{Network, IsNetwork, new_nodes, parties_in}
use Rattle.x12_world.specs.Nodes.{Nodes, node_at, site_of}
use Rattle.x12_station.specs.History.{key_of, submissions}
use Rattle.x12_station.specs.Station.{Station}
use Rattle.x12_world.specs.Run.{new_world, run}
use Rattle.x12_world.specs.World.{Event, StationAt, World}

-- the entry with this name's stamp is among these, and sent this packet at this name's place
pub record IsSentBy (xs : List Logged) (name : PacketName) (q : Packet) : Type 0 where
  pub sender : Logged
  pub there : Contains xs sender
  pub stamp : sender.entry.stamp ≡ name.event
  pub index : ℕ
  pub place : name.place ≡ suc index
  pub packet : slice_get sender.entry.packets index ≡ Some q

-- j is the number of a node of this network, and another than i
abbrev pub IsAnother : Network → ℕ → ℕ → Type 0
IsAnother net i j = IsSome (node_at (new_nodes net) j) × (i ≢ j)

-- a mailbox that is served is another node's, if one is
abbrev pub ServesAnother : Network → ℕ → Option ℕ → Type 0
ServesAnother net i None = Unit {0}
ServesAnother net i (Some j) = IsAnother net i j

-- bytes that name none of these parties as their sender
abbrev pub NamesNone : List Party → List ℕ → Type 0
NamesNone parties b =
    (x12.has_header b && list_any (is_same_party (x12.sender b)) parties) ≡ false

-- what is asked of an entry besides its node's own word: a packet that comes was sent to this node by
-- one of those before, bytes from outside name no node, and a hub's mailboxes are those of others
abbrev pub IsFair : Network → (before : List Logged) → ℕ → Ask → Type 0
IsFair net before i (Comes name from load at) =
    IsSentBy before name (record { from = from; to = i; load = load })
IsFair net before i (Outside b at) = NamesNone (parties_in net) b
IsFair net before i (Do a) = ServesAnother net i (node_served a)
IsFair net before i (Fate k) = Unit {0}

-- each entry is fair, behind those before
abbrev pub AllFair : Network → (before xs : List Logged) → Type 0
AllFair net before [] = Unit {0}
AllFair net before (x ∷ xs) =
    IsFair net before x.node x.entry.ask × AllFair net (before ++ x ∷ []) xs

-- the entries of each node, in their order, make its first state its last one
pub record EachReplays (first last : Nodes) (xs : List Logged) : Type 0 where
  pub same : length first.listed ≡ length last.listed
  pub homes : first.homes ≡ last.homes
  pub second : is_some first.second ≡ is_some last.second
  pub within : (x : Logged) → Contains xs x → IsSome (node_at first x.node)
  pub each : (i : ℕ) (a b : Node) → node_at first i ≡ Some a → node_at last i ≡ Some b
      → Replays (site_of first i) a (entries_of i xs) b

-- logs that replay, merged by rising stamps, whose entries are fair, are one run of the network, which
-- ends with the last states
abbrev pub MergeIsRun : Type 0
MergeIsRun = (net : Network) → IsNetwork x12 net → (xs : List Logged) (last : Nodes)
    → StampsRise 0 (map (λ (x : Logged). x.entry) xs)
    → AllFair net [] xs
    → EachReplays (new_nodes net) last xs
    → IsOneRun net xs last

-- what can be checked of an entry by itself, in any order: it is fair, where all entries are looked
-- through for the packet and the stamp of its sending is below that of its coming
abbrev pub IsFairAmong : Network → (all : List Logged) → (stamp i : ℕ) → Ask → Type 0
IsFairAmong net all stamp i (Comes name from load at) =
    IsSentBy all name (record { from = from; to = i; load = load }) × (name.event < stamp)
IsFairAmong net all stamp i (Outside b at) = NamesNone (parties_in net) b
IsFairAmong net all stamp i (Do a) = ServesAnother net i (node_served a)
IsFairAmong net all stamp i (Fate k) = Unit {0}

-- where stamps rise, that is enough
abbrev pub FairAmongIsFair : Type 0
FairAmongIsFair = (net : Network) (xs : List Logged)
    → StampsRise 0 (map (λ (x : Logged). x.entry) xs)
    → ((x : Logged) → Contains xs x
    → IsFairAmong net xs x.entry.stamp x.node x.entry.ask)
    → AllFair net [] xs

-- the headline holds of the world that a merge ends with, and of each later one
abbrev pub HeadlineOfMerge : Type 0
HeadlineOfMerge = (net : Network) → IsNetwork x12 net
    → (xs : List Logged) (last : Nodes) (one : IsOneRun net xs last)
    → (more : List Event) → Headline x12 one.world (run x12 more one.world)

-- Whoever asks a station for the fate of a set that it submitted before is told some fate: the answer is never that there is no
-- such set.
abbrev pub SubmittedFateIsTold : Type 0
SubmittedFateIsTold = (net : Network) → IsNetwork x12 net
    → (before : List Logged) (w : World) → RunsAs (new_world net) [] before w
    → (x : Logged) (new : World) → IsFateOf w x new
    → (s : Station) (b : Bytes) (t : PlacedTransactionSet) → StationAt w x.node s
    → Contains (submissions s.items) b → Contains (x12.sets b) t → x.entry.ask ≡ Fate (key_of x12 b t.place)
    → (fate : SetFate) × (x.entry.answer ≡ FateIs (Some fate))
