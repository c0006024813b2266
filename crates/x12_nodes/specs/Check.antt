-- What is checked of the cells of a network, in the order of their numbers, and of the passes of
-- their callers.
use Rattle.std.specs.Prelude.{◌+◌, ◌==◌, ◌&&◌, not, nat_le, nat_lt, ℕ, List, [], ◌∷◌, Bool, true, false, Option, Some, None, bytes_eq, length, map, option_and_then, if◌then◌else◌, is_none, is_some}
use Rattle.std.specs.List.{list_all, list_any}
use Rattle.x12_core.specs.Ask.{Ask, Comes, Outside, node_meant}
use Rattle.x12_core.specs.Packet.{Load, Deposit, Item, Refusal, Taken, Packet, PacketName}
use Rattle.x12_envelopes.specs.declared.party.Party.{Party}
use Rattle.x12_envelopes.specs.Party.{is_plain_party}
use Rattle.x12_judge.specs.Agreement.{is_same_party}
use Rattle.x12_core.specs.Node.{hub_node, second_hub_node}
use Rattle.x12_nodes.specs.Cell.{CellView}
use Rattle.x12_nodes.specs.Cells.{cell_at, split}
use Rattle.x12_nodes.specs.declared.opening.Opening.{Opening}
use Rattle.x12_nodes.specs.declared.opening.Opening.TheVariants as opened
use Rattle.x12_nodes.specs.Finding.{packet_sent}
use Rattle.x12_nodes.specs.Log.{LogEntry}
use Rattle.x12_nodes.specs.Merging.{all_merged, stamp_itself, stamps_rise_from}
use Rattle.x12_profile.specs.X12.{x12}
use Rattle.x12_world.specs.Founding.{all_differ}

-- the stamps of a log
abbrev pub stamps_of : List LogEntry → List ℕ
stamps_of log = map (λ (e : LogEntry). e.stamp) log

-- the stamps of all logs, merged
abbrev pub stamps_logged : List CellView → List ℕ
stamps_logged cells = all_merged stamp_itself (map (λ (c : CellView). stamps_of c.log) cells)

-- no stamp stands twice: merged, they rise
abbrev pub no_stamp_twice : List CellView → Bool
no_stamp_twice cells = stamps_rise_from 0 (stamps_logged cells)

-- the same kind, item and bytes
abbrev pub load_is : Load → Load → Bool
load_is (Deposit a) (Deposit b) = bytes_eq a b
load_is (Item i a) (Item j b) = i == j && bytes_eq a b
load_is (Refusal a) (Refusal b) = bytes_eq a b
load_is (Taken i) (Taken j) = i == j
load_is a b = false

-- there is a packet, and it is this one
abbrev pub packet_is : Packet → Option Packet → Bool
packet_is q None = false
packet_is q (Some r) = r.from == q.from && r.to == q.to && load_is r.load q.load

-- the party of a node
abbrev pub party_opened : Opening → Party
party_opened (opened.Hub me) = me
party_opened (opened.Station me hub other) = me

-- the parties of the nodes
abbrev pub parties_opened : List CellView → List Party
parties_opened cells = map (λ (c : CellView). party_opened c.opening) cells

-- the packet of this name that a node sent, if there is such a node and it did
abbrev pub packet_from : List CellView → ℕ → PacketName → Option Packet
packet_from cells from name =
    option_and_then (λ (c : CellView). packet_sent c.log name) (cell_at cells from)

-- bytes name one of these parties as their sender
abbrev pub names_one : List Party → List ℕ → Bool
names_one parties b = x12.has_header b && list_any (is_same_party (x12.sender b)) parties

-- what came to node i under this stamp was sent to it before, by the log of the node that sent it; or
-- it came from outside, and names no node
abbrev pub came_rightly : List CellView → (i stamp : ℕ) → Ask → Bool
came_rightly cells i stamp (Comes name from load at) = nat_lt name.event stamp
    && packet_is (record { from = from; to = i; load = load }) (packet_from cells from name)
came_rightly cells i stamp (Outside b at) = not (names_one (parties_opened cells) b)
came_rightly cells i stamp ask = true

-- whatever came to a node came so
abbrev pub all_came_rightly : List CellView → List CellView → Bool
all_came_rightly all cells =
    list_all (λ (c : CellView). list_all (λ (e : LogEntry). came_rightly all c.site.node e.stamp e.ask) c.log) cells

-- whether it is a hub, which is its own
abbrev pub is_hub_opened : Opening → Bool
is_hub_opened (opened.Hub me) = true
is_hub_opened (opened.Station me hub other) = false

abbrev pub is_hub_cell : CellView → Bool
is_hub_cell c = is_hub_opened c.opening && c.site.hub == c.site.node

-- whether there is a party, and it is this one
abbrev pub is_this : Party → Option Party → Bool
is_this p None = false
is_this p (Some q) = is_same_party q p

-- whether these are the hubs that a station believes whose hub has this number: its own, and the
-- other one, if there are two
abbrev pub are_believed : Party → Option Party → (home : ℕ) → (its : Party) → Option Party → Bool
are_believed hub None home its other = home == hub_node && (is_same_party its hub && is_none other)
are_believed hub (Some second) home its other = if home == second_hub_node
    then is_same_party its second && is_this hub other
    else home == hub_node && (is_same_party its hub && is_this second other)

-- whether it is a station of these hubs
abbrev pub is_station_opened : Party → Option Party → ℕ → Opening → Bool
is_station_opened hub second home (opened.Hub me) = false
is_station_opened hub second home (opened.Station me its other) =
    are_believed hub second home its other

-- 1 to 16 stations of these hubs, in a network of these parties, which are plain and differ
abbrev pub are_stations : Party → Option Party → List CellView → List Party → Bool
are_stations hub second stations parties =
    nat_le 1 (length stations) && nat_le (length stations) 16
    && list_all (λ (c : CellView). is_station_opened hub second c.site.hub c.opening) stations
    && all_differ parties && list_all is_plain_party parties

-- the first is a hub, and so is the second hub, if there is one; the others are their stations
abbrev pub begins_with : List CellView → Option CellView → List Party → Bool
begins_with [] second parties = false
begins_with (c ∷ stations) None parties =
    is_hub_cell c && are_stations (party_opened c.opening) None stations parties
begins_with (c ∷ stations) (Some d) parties = is_hub_cell c && is_hub_cell d
    && are_stations (party_opened c.opening) (Some (party_opened d.opening)) stations parties

-- the nodes were opened as a network
abbrev pub are_network : List CellView → Bool
are_network cells = begins_with (split cells).0 (split cells).1 (parties_opened cells)

-- the nodes have the numbers from this one on
abbrev pub are_numbered : ℕ → List CellView → Bool
are_numbered n [] = true
are_numbered n (c ∷ cells) = c.site.node == n && are_numbered (n + 1) cells

-- there is a cell of this number, and it is another than that of node i; or no number is given
abbrev pub is_another : List CellView → ℕ → Option ℕ → Bool
is_another cells i None = true
is_another cells i (Some j) = is_some (cell_at cells j) && not (i == j)

-- a mailbox that hub i is asked for is that of another node
abbrev pub asks_for_node : List CellView → ℕ → Ask → Bool
asks_for_node cells i ask = is_another cells i (node_meant ask)

-- each node is asked so
abbrev pub all_ask_for_nodes : List CellView → List CellView → Bool
all_ask_for_nodes all cells =
    list_all (λ (c : CellView). list_all (λ (e : LogEntry). asks_for_node all c.site.node e.ask)
    c.log) cells

-- the openings under their numbers are a new world, and no event of a hub names itself or a
-- node that isn't there
abbrev pub is_replay : List CellView → Bool
is_replay cells = are_network cells && are_numbered 0 (split cells).0 && all_ask_for_nodes cells cells
