-- What was checked of each entry by itself holds of the merge.
use Rattle.std.proofs.Common.{◌≡◌, ℕ, ◌<◌, List, [], ◌∷◌, ◌++◌, Contains, map, sym, ap, subst, inl, inr, arith, append_assoc}
use Rattle.std.proofs.lemmas.List.Elements.{Contains-append_cases, Contains-append_right}
use Rattle.x12_core.specs.Ask.{Ask, Do, Comes, Outside, Fate}
use Rattle.x12_core.specs.Packet.{Packet, PacketName}
use Rattle.x12_world.specs.Network.{Network}
use Rattle.x12_nodes.specs.Law.{IsSentBy, IsFair, AllFair, IsFairAmong, FairAmongIsFair}
use Rattle.x12_nodes.specs.Log.{StampsRise}
use Rattle.x12_nodes.specs.Merge.{Logged}
use Rattle.x12_numbers.proofs.Shelf.{contains_head, contains_cons, none_in_nil}

abbrev pub Rises : ℕ → List Logged → Type 0
Rises s xs = StampsRise s (map (λ (x : Logged). x.entry) xs)

-- what comes later in a rising merge has a greater stamp
pub later_above : (s : ℕ) (xs : List Logged) (y : Logged) → Rises s xs → Contains xs y → s < y.entry.stamp
later_above s [] y rises h = none_in_nil y h
later_above s (x ∷ xs) y rises h = elim (contains_cons y x xs h) [
  | inl is ↦ subst (λ (z : Logged). s < z.entry.stamp) is rises.0
  | inr past ↦ let lt = later_above x.entry.stamp xs y rises.2 past in let low = rises.0 in omega arith
]

earlier : (before : List Logged) (s : ℕ) (x : Logged) (xs : List Logged) (y : Logged) → Rises s (x ∷ xs) → Contains (before ++ x ∷ xs) y → y.entry.stamp < x.entry.stamp → Contains before y
earlier before s x xs y rises h lt = elim (Contains-append_cases before (x ∷ xs) y h) [
  | inl there ↦ there
  | inr here ↦ elim (contains_cons y x xs here) [
    | inl is ↦ let e : x.entry.stamp ≡ y.entry.stamp = ap (λ (z : Logged). z.entry.stamp) is in absurd (omega arith)
    | inr past ↦ let up = later_above x.entry.stamp xs y rises.2 past in absurd (omega arith)
  ]
]

module _ (net : Network) where
  sent_before : (before : List Logged) (s : ℕ) (x : Logged) (xs : List Logged) (name : PacketName) (q : Packet) → Rises s (x ∷ xs) → name.event < x.entry.stamp → IsSentBy (before ++ x ∷ xs) name q → IsSentBy before name q
  sent_before before s x xs name q rises below sent = record {
    sender = sent.sender;
    there = earlier before s x xs sent.sender rises sent.there (subst (λ n. n < x.entry.stamp) (sym sent.stamp) below);
    stamp = sent.stamp;
    index = sent.index;
    place = sent.place;
    packet = sent.packet;
  }

  fair_one : (before : List Logged) (s : ℕ) (x : Logged) (xs : List Logged) → Rises s (x ∷ xs) → (k : Ask) → IsFairAmong net (before ++ x ∷ xs) x.entry.stamp x.node k → IsFair net before x.node k
  fair_one before s x xs rises (Comes name from load at) c = sent_before before s x xs name _ rises c.1 c.0
  fair_one before s x xs rises (Outside b at) c = c
  fair_one before s x xs rises (Do a) c = c
  fair_one before s x xs rises (Fate key) c = tt

  all_fair : (before xs : List Logged) (s : ℕ) → Rises s xs → ((x : Logged) → Contains xs x → IsFairAmong net (before ++ xs) x.entry.stamp x.node x.entry.ask) → AllFair net before xs
  all_fair before [] s rises checks = tt
  all_fair before (x ∷ xs) s rises checks = (
    fair_one before s x xs rises x.entry.ask (checks x (contains_head x xs)),
    all_fair (before ++ x ∷ []) xs x.entry.stamp rises.2
        (λ y h. subst (λ all. IsFairAmong net all y.entry.stamp y.node y.entry.ask) (sym (append_assoc before (x ∷ []) xs)) (checks y (Contains-append_right (x ∷ []) xs y h))),
  )

pub fair_among_is_fair : FairAmongIsFair
fair_among_is_fair net xs rises checks = all_fair net [] xs 0 rises checks
