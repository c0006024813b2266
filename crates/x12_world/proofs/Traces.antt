-- What the induction speaks of: each node's list, each hub's decisions and every packet ever sent. Each of
-- them only grows at its end.
use Rattle.x12_numbers.specs.Book.{is_rising}
use Rattle.std.specs.Prelude.{◌≡◌, ◌≢◌, ℕ, ◌<◌, ◌≤◌, List, ◌++◌, Bool, true, false, Option, Some, None, Contains, ◌⊎◌, option_to_list, IsTrue}
use Rattle.x12_envelopes.specs.declared.party.Party.{Party}
use Rattle.x12_judge.specs.Agreement.{TradingAgreement}
use Rattle.x12_profile.specs.declared.edition.Edition.{Edition}
use Rattle.x12_profile.specs.declared.edition.Edition.TheVariants.{Third}
use Rattle.x12_profile.specs.Interchange.{Bytes}
use Rattle.x12_profile.specs.Profile.{Profile}
use Rattle.x12_profile.specs.Laws.{IsReply, IsTa1Refusal, SharesGroup}
use Rattle.x12_station.specs.History.{Item, Submitted, Came, filed, HasCame, items_after}
use Rattle.x12_hub.specs.Hub.{Decision, HubOutcome, Boxed, Refused, decided}
use Rattle.x12_core.specs.Packet.{carried as body_of, Packet, Load, Deposit, Refusal, Taken}
use Rattle.x12_core.specs.Packet as packet
use Rattle.x12_station.proofs.HistoryLemmas.{PostedByFiled}

pub record Trace : Type 0 where
  pub names : ℕ → Option Party
  -- which nodes are hubs, and which one is a node's
  pub hub : ℕ → Bool
  pub home : ℕ → ℕ
  pub items : ℕ → List Item
  pub last : ℕ → ℕ
  pub group : ℕ → ℕ
  pub decisions : ℕ → List Decision
  pub packets : List Packet

-- the edition by which every arrival of a network is judged and read
abbrev pub newest : Edition
newest = Third

-- some packet ever sent carries b
pub record IsCarried (t : Trace) (b : Bytes) : Type 0 where
  pub packet : Packet
  pub sent : Contains t.packets packet
  pub holds : body_of packet.load ≡ Some b

-- hub k refused x with r
abbrev pub IsRefusedWith : Trace → ℕ → Bytes → Bytes → Type 0
IsRefusedWith t k x r = Contains (t.decisions k) (record { body = x; outcome = Refused r })

-- hub k put b into the mailbox of a node, as this item
abbrev pub IsBoxedAt : Trace → (k node item : ℕ) → Bytes → Type 0
IsBoxedAt t k node item b = Contains (t.decisions k) (record { body = b; outcome = Boxed node item })

-- a hub put b into the mailbox of a node
abbrev pub IsBoxedFor : Trace → (node : ℕ) → Bytes → Type 0
IsBoxedFor t node b = (k : ℕ) × (item : ℕ) × IsBoxedAt t k node item b

-- b comes now, with what is kept for it
abbrev pub IsCame : Option Item → Bytes → Option Bytes → Type 0
IsCame new b k = (ed : Edition) × (new ≡ Some (Came ed b k))

-- r acknowledges x: it is kept as the reply to it, or a hub refused x with it
abbrev pub Answers : Trace → Bytes → Bytes → Type 0
Answers t x r = ((j : ℕ) × HasCame (t.items j) x (Some r)) ⊎ ((k : ℕ) × IsRefusedWith t k x r)

-- b was sent, or a hub keeps it as a refusal, which perhaps nobody waited for
abbrev pub IsWritten : Trace → Bytes → Type 0
IsWritten t b = IsCarried t b ⊎ ((k : ℕ) × (y : Bytes) × IsRefusedWith t k y b)

-- one of these packets carries b
abbrev pub IsSentIn : List Packet → Bytes → Type 0
IsSentIn packets b = (q : Packet) × Contains packets q × (body_of q.load ≡ Some b)

module _ (p : Profile) where
  -- b names node i as its sender
  abbrev pub IsBy : Trace → ℕ → Bytes → Type 0
  IsBy t i b = t.names i ≡ Some (p.sender b)

  pub record SentOk (t : Trace) (i : ℕ) (x : Bytes) : Type 0 where
    pub by : IsBy t i x
    pub carried : IsCarried t x
    pub submission : IsTrue (p.is_submission x)
    pub from : ℕ
    pub rises : IsTrue (is_rising from (p.groups x))

  pub record ReplyOk (t : Trace) (j : ℕ) (y r : Bytes) : Type 0 where
    pub me : Party
    pub at : t.names j ≡ Some me
    pub carried : IsCarried t r
    pub agreements : List TradingAgreement
    pub reply : IsReply p me agreements y r

  pub record CameOk (t : Trace) (j : ℕ) (b : Bytes) : Type 0 where
    pub header : IsTrue (p.has_header b)
    pub carried : (i : ℕ) → IsBy t i b → IsCarried t b
    pub routed : (i : ℕ) → IsBy t i b → t.hub i ≡ false → IsBoxedFor t j b

  pub record RefusalOk (t : Trace) (k : ℕ) (b r : Bytes) : Type 0 where
    pub me : Party
    pub at : t.names k ≡ Some me
    pub refusal : IsTa1Refusal p me b r

  -- how hub k came to decide on b: under a node's name it was sent, and under a station's name by a station
  -- of its own, or the other hub put it into its mailbox
  pub record DecidedOk (t : Trace) (k : ℕ) (b : Bytes) : Type 0 where
    pub carried : (i : ℕ) → IsBy t i b → IsCarried t b
    pub brought : (i : ℕ) → IsBy t i b → t.hub i ≡ false → (t.home i ≡ k) ⊎ IsBoxedFor t k b

  -- how node i came to write b
  pub data Origin (t : Trace) (i : ℕ) (b : Bytes) : Type 0 where
    submitted : Contains (t.items i) (Submitted b) → Origin t i b
    replied : (y : Bytes) → HasCame (t.items i) y (Some b) → Origin t i b
    noted : (y : Bytes) (me : Party) → ((k : ℕ) → ¬ (IsBy t k y)) → IsTa1Refusal p me y b → Origin t i b
    refused : (y : Bytes) → IsRefusedWith t i y b → Origin t i b

  -- a deposit bears the name of the station that sends it to its hub, an item is what its hub boxed for the
  -- node that gets it, and a refusal bears the name of the hub that sends it
  abbrev pub LoadOk : Trace → (from to : ℕ) → Load → Type 0
  LoadOk t from to (Deposit b) = IsBy t from b × (t.home from ≡ to)
  LoadOk t from to (packet.Item n b) = IsBoxedAt t from to n b
  LoadOk t from to (Refusal b) = IsBy t from b × (t.hub from ≡ true)
  LoadOk t from to (Taken n) = Unit {0}

  abbrev pub PacketOk : Trace → Packet → Type 0
  PacketOk t q = LoadOk t q.from q.to q.load

  pub record Holds (t : Trace) : Type 0 where
    pub names_apart : (i j : ℕ) (party : Party) → t.names i ≡ Some party → t.names j ≡ Some party → i ≡ j
    pub named_or_not : (party : Party) → ((i : ℕ) × (t.names i ≡ Some party)) ⊎ ((i : ℕ) → t.names i ≢ Some party)
    pub two_hubs : (i j k : ℕ) → t.hub i ≡ true → t.hub j ≡ true → t.hub k ≡ true → i ≢ j → (k ≡ i) ⊎ (k ≡ j)
    pub at_hub : (k : ℕ) (d : Decision) → Contains (t.decisions k) d → t.hub k ≡ true
    pub sent : (i : ℕ) (x : Bytes) → Contains (t.items i) (Submitted x) → SentOk t i x
    pub came : (i : ℕ) (b : Bytes) (r : Option Bytes) → HasCame (t.items i) b r → CameOk t i b
    pub by_newest : (i : ℕ) (ed : Edition) (b : Bytes) (r : Option Bytes) → Contains (t.items i) (Came ed b r) → ed ≡ newest
    pub reply : (i : ℕ) (b r : Bytes) → HasCame (t.items i) b (Some r) → ReplyOk t i b r
    pub decision : (k : ℕ) (d : Decision) → Contains (t.decisions k) d → DecidedOk t k d.body
    pub refusal : (k : ℕ) (b r : Bytes) → IsRefusedWith t k b r → RefusalOk t k b r
    pub origin : (i : ℕ) (b : Bytes) → IsWritten t b → IsBy t i b → Origin t i b
    pub unique : (i : ℕ) (b c : Bytes) → IsWritten t b → IsWritten t c → IsBy t i b → IsBy t i c → p.number b ≡ p.number c → b ≡ c
    pub below : (i : ℕ) (b : Bytes) → IsWritten t b → IsBy t i b → p.number b ≤ t.last i
    pub packet : (q : Packet) → Contains t.packets q → PacketOk t q
    pub filed_first : (i : ℕ) (b : Bytes) (r : Option Bytes) → HasCame (t.items i) b r → filed p (t.items i) (p.sender b) (p.number b) ≡ Some (record { body = b; reply = r })
    pub posted : (i : ℕ) → PostedByFiled p (t.items i)
    pub decided_first : (k : ℕ) (d : Decision) → Contains (t.decisions k) d → decided (t.decisions k) d.body ≡ Some d.outcome
    pub groups_apart : (i : ℕ) (x y : Bytes) → Contains (t.items i) (Submitted x) → Contains (t.items i) (Submitted y) → SharesGroup p x y → x ≡ y
    pub groups_below : (i : ℕ) (x : Bytes) (g : ℕ) → Contains (t.items i) (Submitted x) → Contains (p.groups x) g → g ≤ t.group i
    pub answers_once : (i j : ℕ) (x y r : Bytes) → IsBy t i x → IsBy t j y → Answers t x r → Answers t y r → x ≡ y
    pub order : (i : ℕ) (x r : Bytes) (k : Option Bytes) → Contains (t.items i) (Submitted x) → HasCame (t.items i) r k → Answers t x r → HasCame (items_after x (t.items i)) r k

  -- What one event may add. A submission is one, its groups' numbers rise above all that were used, and it is sent now.
  pub record SentNews (t : Trace) (node : ℕ) (x : Bytes) (group : ℕ) : Type 0 where
    pub submission : IsTrue (p.is_submission x)
    pub from : ℕ
    pub rises : IsTrue (is_rising from (p.groups x))
    pub groups : (g : ℕ) → Contains (p.groups x) g → (t.group node < g) × (g ≤ group)

  -- an arrival is the first under its number, and read by the newest edition
  pub record CameNews (t : Trace) (node : ℕ) (ed : Edition) (b : Bytes) : Type 0 where
    pub by_newest : ed ≡ newest
    pub ok : CameOk t node b
    pub first : filed p (t.items node) (p.sender b) (p.number b) ≡ None

  pub record ReplyNews (t : Trace) (node : ℕ) (b r : Bytes) : Type 0 where
    pub me : Party
    pub at : t.names node ≡ Some me
    pub agreements : List TradingAgreement
    pub reply : IsReply p me agreements b r

  abbrev pub ItemNews : Trace → ℕ → ℕ → Option Bytes → List Packet → Option Item → Type 0
  ItemNews t node group fresh packets None = Unit {0}
  ItemNews t node group fresh packets (Some (Submitted x)) = SentNews t node x group × (fresh ≡ Some x) × IsSentIn packets x
  ItemNews t node group fresh packets (Some (Came ed b None)) = CameNews t node ed b
  ItemNews t node group fresh packets (Some (Came ed b (Some r))) = CameNews t node ed b × ReplyNews t node b r × (fresh ≡ Some r) × IsSentIn packets r

  abbrev pub OutcomeNews : Trace → ℕ → Option Bytes → Bytes → HubOutcome → Type 0
  OutcomeNews t node fresh b (Boxed to item) = Unit {0}
  OutcomeNews t node fresh b (Refused r) = (fresh ≡ Some r) × RefusalOk t node b r

  -- a decision is the first on its bytes
  abbrev pub DecisionNews : Trace → ℕ → Option Bytes → Option Decision → Type 0
  DecisionNews t node fresh None = Unit {0}
  DecisionNews t node fresh (Some d) = (decided (t.decisions node) d.body ≡ None) × DecidedOk t node d.body × OutcomeNews t node fresh d.body d.outcome

  -- what is written is under the node's name and a new number
  abbrev pub FreshNews : Trace → ℕ → ℕ → Option Bytes → Type 0
  FreshNews t node last None = Unit {0}
  FreshNews t node last (Some f) = IsBy t node f × (t.last node < p.number f) × (p.number f ≤ last)

  pub data Reason (t : Trace) (node : ℕ) (new : Option Item) (decision : Option Decision) (f : Bytes) : Type 0 where
    submits : new ≡ Some (Submitted f) → Reason t node new decision f
    replies : (y : Bytes) → IsCame new y (Some f) → Reason t node new decision f
    notes : (y : Bytes) (me : Party) → ((k : ℕ) → ¬ (IsBy t k y)) → IsTa1Refusal p me y f → Reason t node new decision f
    refuses : (y : Bytes) → decision ≡ Some (record { body = y; outcome = Refused f }) → Reason t node new decision f

  pub record News (t : Trace) (node : ℕ) (new : Option Item) (decision : Option Decision) (packets : List Packet) (fresh : Option Bytes) (last group : ℕ) : Type 0 where
    pub item : ItemNews t node group fresh packets new
    pub made : DecisionNews t node fresh decision
    pub written : FreshNews t node last fresh
    pub reason : (f : Bytes) → fresh ≡ Some f → Reason t node new decision f
    -- all else under a node's name that is sent was written before
    pub sends : (q : Packet) (b : Bytes) (i : ℕ) → Contains packets q → body_of q.load ≡ Some b → IsBy t i b → IsWritten t b ⊎ (fresh ≡ Some b)
    pub packet_ok : (q : Packet) → Contains packets q → PacketOk t q

  -- One event: a node's list, its numbers, its decisions and the packets grow by what it adds.
  pub record Grows (t t' : Trace) : Type 0 where
    pub node : ℕ
    pub new : Option Item
    pub decision : Option Decision
    pub packets : List Packet
    pub fresh : Option Bytes
    pub names : (i : ℕ) → t'.names i ≡ t.names i
    pub hubs : (i : ℕ) → t'.hub i ≡ t.hub i
    pub homes : (i : ℕ) → t'.home i ≡ t.home i
    pub items_here : t'.items node ≡ t.items node ++ option_to_list new
    pub items_else : (i : ℕ) → i ≢ node → t'.items i ≡ t.items i
    pub last_up : (i : ℕ) → t.last i ≤ t'.last i
    pub group_up : (i : ℕ) → t.group i ≤ t'.group i
    pub decisions_here : t'.decisions node ≡ t.decisions node ++ option_to_list decision
    pub decisions_else : (i : ℕ) → i ≢ node → t'.decisions i ≡ t.decisions i
    pub all_packets : t'.packets ≡ t.packets ++ packets
    -- a station's event adds no decision, a hub's no item
    pub one : (new ≡ None) ⊎ (decision ≡ None)
    -- and only hubs decide
    pub at_hub : t.hub node ≡ false → decision ≡ None
    pub news : News t node new decision packets fresh (t'.last node) (t'.group node)
