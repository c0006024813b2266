-- What was found to be the same is the same.
use Rattle.std.proofs.Common.{◌≡◌, ℕ, List, [], ◌∷◌, Bool, true, ◌==◌, ◌&&◌, Option, Some, None, bytes_eq, map, length, refl, ap, ap₂, subst, ◌∙◌}
use Rattle.std.proofs.lemmas.Bool.{and_parts}
use Rattle.std.proofs.lemmas.Bool.Decides.{Decides-and, Decides-eqb, Decides-like}
use Rattle.std.proofs.lemmas.Slice.Eq.{bytes_eq-Decides}
use Rattle.std.specs.Bool.{Decides, beq}
use Rattle.std.specs.Cmp.{booleans_Decides}
use Rattle.std.specs.Cmp.Lexicographic.{pointwise, pointwise_decides}
use Rattle.std.specs.Coded.{Coded-set, coded_ℕ, coded_bool}
use Rattle.std.specs.Option.{option_eq}
use Rattle.x12_core.specs.Action.{Action, Orders, Prepared, Tick, Collect, Agree, Enrol, Dismiss, Restart}
use Rattle.x12_core.specs.Ask.{Ask, Do, Comes, Outside, Fate}
use Rattle.x12_core.specs.Packet.{PacketName, Kind, IsDeposit, IsItem, IsRefusal, IsTaken}
use Rattle.x12_envelopes.specs.declared.moment.Moment.{Moment}
use Rattle.x12_envelopes.specs.Moment.{text_is_date, text_is_time}
use Rattle.x12_judge.specs.Agreement.{TradingAgreement, is_same_party}
use Rattle.x12_judge.proofs.Shelf.{same_party}
use Rattle.x12_nodes.specs.Check.{load_is}
use Rattle.x12_nodes.specs.Comparing.{moment_is, order_is, agreement_is, name_is, action_is, ask_is, kind_is, told_is, fate_is, answer_is}
use Rattle.x12_nodes.specs.Log.{LogEntry, NodeAnswer, Sent, FateIs}
use Rattle.x12_nodes.specs.Receiving.{receipt_is}
use Rattle.x12_nodes.specs.View.{Receipt, receipt_of}
use Rattle.x12_nodes.proofs.CellsLemmas.{same_number}
use Rattle.x12_nodes.proofs.SettlingLemmas.{bytes_known, load_known}
use Rattle.x12_outbound.proofs.FirstEvidenceLemmas.{same_key}
use Rattle.x12_outbound.specs.declared.fate.Fate.{Fate as SetFate}
use Rattle.x12_outbound.specs.declared.fate.Fate.TheVariants as fate
use Rattle.x12_profile.specs.Interchange.{Order}

-- a list of views is compared as its views are
pub pointwise_viewed : {X Y : Type 0} (v : X → Y) (E : Y → Y → Bool) (xs ys : List X) → pointwise (λ a b. E (v a) (v b)) xs ys ≡ pointwise E (map v xs) (map v ys)
pointwise_viewed v E [] [] = refl
pointwise_viewed v E [] (y ∷ ys) = refl
pointwise_viewed v E (x ∷ xs) [] = refl
pointwise_viewed v E (x ∷ xs) (y ∷ ys) = ap (λ t. E (v x) (v y) && t) (pointwise_viewed v E xs ys)

-- a date and a time are one moment
abbrev moment_of : (d t : List ℕ) → length d ≡ 8 → text_is_date d ≡ true → text_is_time t ≡ true → Moment
moment_of d t w y z = record { date = d; time = t; with_century = w; on_a_day = y; in_a_day = z }

one_moment : (d t : List ℕ) (w w' : length d ≡ 8) (y y' : text_is_date d ≡ true) (z z' : text_is_time t ≡ true) → moment_of d t w y z ≡ moment_of d t w' y' z'
one_moment d t w w' y y' z z' =
    ap (λ v. moment_of d t v y z) (Coded-set coded_ℕ _ _ w w')
    ∙ ap (λ v. moment_of d t w' v z) (Coded-set coded_bool _ _ y y')
    ∙ ap (λ v. moment_of d t w' y' v) (Coded-set coded_bool _ _ z z')

moment_by : (d t : List ℕ) (w : length d ≡ 8) (y : text_is_date d ≡ true) (z : text_is_time t ≡ true) (e u : List ℕ) → d ≡ e → t ≡ u
    → (w' : length e ≡ 8) (y' : text_is_date e ≡ true) (z' : text_is_time u ≡ true) → moment_of d t w y z ≡ moment_of e u w' y' z'
moment_by d t w y z e u p q =
    subst (λ x. (w' : length x ≡ 8) (y' : text_is_date x ≡ true) (z' : text_is_time u ≡ true) → moment_of d t w y z ≡ moment_of x u w' y' z') p
    (subst (λ x. (w' : length d ≡ 8) (y' : text_is_date d ≡ true) (z' : text_is_time x ≡ true) → moment_of d t w y z ≡ moment_of d x w' y' z') q
    (λ w' y' z'. one_moment d t w w' y y' z z'))

moment_known : (m n : Moment) → moment_is m n ≡ true → m ≡ n
moment_known m n e =
    let parts = and_parts (bytes_eq m.date n.date) (bytes_eq m.time n.time) e in
    moment_by m.date m.time m.with_century m.on_a_day m.in_a_day n.date n.time (bytes_known m.date n.date parts.0) (bytes_known m.time n.time parts.1) n.with_century n.on_a_day n.in_a_day

orders_known : (xs ys : List Order) → pointwise order_is xs ys ≡ true → xs ≡ ys
orders_known xs ys e = (pointwise_decides (pointwise_decides (pointwise_decides bytes_eq-Decides)) xs ys).0 e

pair_decides : (p q : List ℕ × List ℕ) → Decides (bytes_eq p.0 q.0 && bytes_eq p.1 q.1) (p ≡ q)
pair_decides p q = Decides-like (bytes_eq p.0 q.0 && bytes_eq p.1 q.1) (λ h. ap₂ (λ a b. (a, b)) h.0 h.1) (λ e. (ap (λ r. r.0) e, ap (λ r. r.1) e)) (Decides-and (bytes_eq p.0 q.0) (bytes_eq p.1 q.1) (bytes_eq-Decides p.0 q.0) (bytes_eq-Decides p.1 q.1))

agreement_known : (a b : TradingAgreement) → agreement_is a b ≡ true → a ≡ b
agreement_known a b e =
    let parts = and_parts (is_same_party a.partner b.partner && beq a.lenient b.lenient) (pointwise (λ p q. bytes_eq p.0 q.0 && bytes_eq p.1 q.1) a.pairs b.pairs) e in
    let terms = and_parts (is_same_party a.partner b.partner) (beq a.lenient b.lenient) parts.0 in
    ap₂ (λ p l. record { partner = p; lenient = a.lenient; pairs = l }) (same_party a.partner b.partner terms.0) ((pointwise_decides pair_decides a.pairs b.pairs).0 parts.1)
    ∙ ap (λ lenient. record { partner = b.partner; lenient = lenient; pairs = b.pairs }) ((booleans_Decides a.lenient b.lenient).0 terms.1)

name_known : (m n : PacketName) → name_is m n ≡ true → m ≡ n
name_known m n e =
    let parts = and_parts (m.event == n.event) (m.place == n.place) e in
    ap₂ (λ i k. record { event = i; place = k }) (same_number m.event n.event parts.0) (same_number m.place n.place parts.1)

action_known : (a b : Action) → action_is a b ≡ true → a ≡ b
action_known (Orders to at orders) (Orders its when others) e =
    let last = and_parts (is_same_party to its && moment_is at when) (pointwise order_is orders others) e in
    let first = and_parts (is_same_party to its) (moment_is at when) last.0 in
    ap₂ (λ p m. Orders p m orders) (same_party to its first.0) (moment_known at when first.1) ∙ ap (Orders its when) (orders_known orders others last.1)
action_known (Prepared x) (Prepared y) e = ap Prepared (bytes_known x y e)
action_known (Tick now) (Tick when) e = ap Tick (same_number now when e)
action_known (Collect i) (Collect j) e = ap Collect (same_number i j e)
action_known (Agree a) (Agree b) e = ap Agree (agreement_known a b e)
action_known (Enrol party i) (Enrol other j) e =
    let parts = and_parts (is_same_party party other) (i == j) e in
    ap₂ (λ p n. Enrol p n) (same_party party other parts.0) (same_number i j parts.1)
action_known (Dismiss party) (Dismiss other) e = ap Dismiss (same_party party other e)
action_known Restart Restart e = refl
action_known (Orders to at orders) (Prepared y) e = absurd cc
action_known (Orders to at orders) (Tick when) e = absurd cc
action_known (Orders to at orders) (Collect j) e = absurd cc
action_known (Orders to at orders) (Agree b) e = absurd cc
action_known (Orders to at orders) (Enrol other j) e = absurd cc
action_known (Orders to at orders) (Dismiss other) e = absurd cc
action_known (Orders to at orders) Restart e = absurd cc
action_known (Prepared x) (Orders its when others) e = absurd cc
action_known (Prepared x) (Tick when) e = absurd cc
action_known (Prepared x) (Collect j) e = absurd cc
action_known (Prepared x) (Agree b) e = absurd cc
action_known (Prepared x) (Enrol other j) e = absurd cc
action_known (Prepared x) (Dismiss other) e = absurd cc
action_known (Prepared x) Restart e = absurd cc
action_known (Tick now) (Orders its when others) e = absurd cc
action_known (Tick now) (Prepared y) e = absurd cc
action_known (Tick now) (Collect j) e = absurd cc
action_known (Tick now) (Agree b) e = absurd cc
action_known (Tick now) (Enrol other j) e = absurd cc
action_known (Tick now) (Dismiss other) e = absurd cc
action_known (Tick now) Restart e = absurd cc
action_known (Collect i) (Orders its when others) e = absurd cc
action_known (Collect i) (Prepared y) e = absurd cc
action_known (Collect i) (Tick when) e = absurd cc
action_known (Collect i) (Agree b) e = absurd cc
action_known (Collect i) (Enrol other j) e = absurd cc
action_known (Collect i) (Dismiss other) e = absurd cc
action_known (Collect i) Restart e = absurd cc
action_known (Agree a) (Orders its when others) e = absurd cc
action_known (Agree a) (Prepared y) e = absurd cc
action_known (Agree a) (Tick when) e = absurd cc
action_known (Agree a) (Collect j) e = absurd cc
action_known (Agree a) (Enrol other j) e = absurd cc
action_known (Agree a) (Dismiss other) e = absurd cc
action_known (Agree a) Restart e = absurd cc
action_known (Enrol party i) (Orders its when others) e = absurd cc
action_known (Enrol party i) (Prepared y) e = absurd cc
action_known (Enrol party i) (Tick when) e = absurd cc
action_known (Enrol party i) (Collect j) e = absurd cc
action_known (Enrol party i) (Agree b) e = absurd cc
action_known (Enrol party i) (Dismiss other) e = absurd cc
action_known (Enrol party i) Restart e = absurd cc
action_known (Dismiss party) (Orders its when others) e = absurd cc
action_known (Dismiss party) (Prepared y) e = absurd cc
action_known (Dismiss party) (Tick when) e = absurd cc
action_known (Dismiss party) (Collect j) e = absurd cc
action_known (Dismiss party) (Agree b) e = absurd cc
action_known (Dismiss party) (Enrol other j) e = absurd cc
action_known (Dismiss party) Restart e = absurd cc
action_known Restart (Orders its when others) e = absurd cc
action_known Restart (Prepared y) e = absurd cc
action_known Restart (Tick when) e = absurd cc
action_known Restart (Collect j) e = absurd cc
action_known Restart (Agree b) e = absurd cc
action_known Restart (Enrol other j) e = absurd cc
action_known Restart (Dismiss other) e = absurd cc

pub ask_known : (a b : Ask) → ask_is a b ≡ true → a ≡ b
ask_known (Do a) (Do b) e = ap Do (action_known a b e)
ask_known (Comes name from load at) (Comes its sender other when) e =
    let last = and_parts (name_is name its && from == sender && load_is load other) (moment_is at when) e in
    let mid = and_parts (name_is name its && from == sender) (load_is load other) last.0 in
    let first = and_parts (name_is name its) (from == sender) mid.0 in
    ap₂ (λ n i. Comes n i load at) (name_known name its first.0) (same_number from sender first.1)
    ∙ ap₂ (λ l m. Comes its sender l m) (load_known load other mid.1) (moment_known at when last.1)
ask_known (Outside b at) (Outside c when) e =
    let parts = and_parts (bytes_eq b c) (moment_is at when) e in
    ap₂ (λ x m. Outside x m) (bytes_known b c parts.0) (moment_known at when parts.1)
ask_known (Fate k) (Fate j) e = ap Fate (same_key k j e)
ask_known (Do a) (Comes its sender other when) e = absurd cc
ask_known (Do a) (Outside c when) e = absurd cc
ask_known (Do a) (Fate j) e = absurd cc
ask_known (Comes name from load at) (Do x) e = absurd cc
ask_known (Comes name from load at) (Outside c when) e = absurd cc
ask_known (Comes name from load at) (Fate j) e = absurd cc
ask_known (Outside b at) (Do x) e = absurd cc
ask_known (Outside b at) (Comes its sender other when) e = absurd cc
ask_known (Outside b at) (Fate j) e = absurd cc
ask_known (Fate k) (Do x) e = absurd cc
ask_known (Fate k) (Comes its sender other when) e = absurd cc
ask_known (Fate k) (Outside c when) e = absurd cc

kind_decides : (k l : Kind) → Decides (kind_is k l) (k ≡ l)
kind_decides IsDeposit IsDeposit = (λ e. refl, λ e. refl)
kind_decides (IsItem i) (IsItem j) = Decides-like (i == j) (ap IsItem) (λ e. let f = e in let same : i ≡ j = cc in same) (Decides-eqb i j)
kind_decides IsRefusal IsRefusal = (λ e. refl, λ e. refl)
kind_decides (IsTaken i) (IsTaken j) = Decides-like (i == j) (ap IsTaken) (λ e. let f = e in let same : i ≡ j = cc in same) (Decides-eqb i j)
kind_decides IsDeposit (IsItem j) = (λ e. absurd (let f = e in cc), λ e. absurd (let f = e in cc))
kind_decides IsDeposit IsRefusal = (λ e. absurd (let f = e in cc), λ e. absurd (let f = e in cc))
kind_decides IsDeposit (IsTaken j) = (λ e. absurd (let f = e in cc), λ e. absurd (let f = e in cc))
kind_decides (IsItem i) IsDeposit = (λ e. absurd (let f = e in cc), λ e. absurd (let f = e in cc))
kind_decides (IsItem i) IsRefusal = (λ e. absurd (let f = e in cc), λ e. absurd (let f = e in cc))
kind_decides (IsItem i) (IsTaken j) = (λ e. absurd (let f = e in cc), λ e. absurd (let f = e in cc))
kind_decides IsRefusal IsDeposit = (λ e. absurd (let f = e in cc), λ e. absurd (let f = e in cc))
kind_decides IsRefusal (IsItem j) = (λ e. absurd (let f = e in cc), λ e. absurd (let f = e in cc))
kind_decides IsRefusal (IsTaken j) = (λ e. absurd (let f = e in cc), λ e. absurd (let f = e in cc))
kind_decides (IsTaken i) IsDeposit = (λ e. absurd (let f = e in cc), λ e. absurd (let f = e in cc))
kind_decides (IsTaken i) (IsItem j) = (λ e. absurd (let f = e in cc), λ e. absurd (let f = e in cc))
kind_decides (IsTaken i) IsRefusal = (λ e. absurd (let f = e in cc), λ e. absurd (let f = e in cc))

told_decides : (t u : ℕ × Kind) → Decides (told_is t u) (t ≡ u)
told_decides t u = Decides-like (told_is t u) (λ h. ap₂ (λ i k. (i, k)) h.0 h.1) (λ e. (ap (λ r. r.0) e, ap (λ r. r.1) e)) (Decides-and (t.0 == u.0) (kind_is t.1 u.1) (Decides-eqb t.0 u.0) (kind_decides t.1 u.1))

option_known : {X : Type 0} (E : X → X → Bool) → ((x y : X) → E x y ≡ true → x ≡ y) → (o p : Option X) → option_eq E o p ≡ true → o ≡ p
option_known E known None None e = refl
option_known E known (Some x) (Some y) e = ap Some (known x y e)
option_known E known None (Some y) e = absurd cc
option_known E known (Some x) None e = absurd cc

fate_known : (f g : SetFate) → fate_is f g ≡ true → f ≡ g
fate_known fate.Pending fate.Pending e = refl
fate_known fate.Accepted fate.Accepted e = refl
fate_known fate.Noted fate.Noted e = refl
fate_known fate.Rejected fate.Rejected e = refl
fate_known fate.Pending fate.Accepted e = absurd cc
fate_known fate.Pending fate.Noted e = absurd cc
fate_known fate.Pending fate.Rejected e = absurd cc
fate_known fate.Accepted fate.Pending e = absurd cc
fate_known fate.Accepted fate.Noted e = absurd cc
fate_known fate.Accepted fate.Rejected e = absurd cc
fate_known fate.Noted fate.Pending e = absurd cc
fate_known fate.Noted fate.Accepted e = absurd cc
fate_known fate.Noted fate.Rejected e = absurd cc
fate_known fate.Rejected fate.Pending e = absurd cc
fate_known fate.Rejected fate.Accepted e = absurd cc
fate_known fate.Rejected fate.Noted e = absurd cc

answer_known : (a b : NodeAnswer) → answer_is a b ≡ true → a ≡ b
answer_known (Sent number told) (Sent other its) e =
    let parts = and_parts (option_eq (λ i j. i == j) number other) (pointwise told_is told its) e in
    ap₂ (λ n t. Sent n t) (option_known (λ i j. i == j) same_number number other parts.0) ((pointwise_decides told_decides told its).0 parts.1)
answer_known (FateIs f) (FateIs g) e = ap FateIs (option_known fate_is fate_known f g e)
answer_known (Sent number told) (FateIs g) e = absurd cc
answer_known (FateIs f) (Sent other its) e = absurd cc

-- a receipt of an entry with its stamp is that entry's
pub receipt_of_entry : (r : Receipt) (e : LogEntry) → e.stamp ≡ r.stamp → receipt_is r (Some e) ≡ true → receipt_of r.node e ≡ r
receipt_of_entry r e stamp is =
    let parts = and_parts (ask_is e.ask r.ask) (answer_is e.answer r.answer) is in
    ap (λ s. record { node = r.node; stamp = s; ask = e.ask; answer = e.answer }) stamp
    ∙ ap₂ (λ k a. record { node = r.node; stamp = r.stamp; ask = k; answer = a }) (ask_known e.ask r.ask parts.0) (answer_known e.answer r.answer parts.1)
