-- What one hub refused, no hub forwards to a station, and no other hub refuses: a hub has a station's
-- interchange from that station, which deposits at one hub alone, or from the other hub's mailbox.
use Rattle.std.specs.Prelude.{◌≡◌, ◌≢◌, ℕ, true, false, Option, Some, None}
use mathlib.Core.Path.{sym, ap, subst, ◌∙◌}
use mathlib.Core.Logic.{inl, inr}
use Rattle.std.proofs.lemmas.Bool.Decides.{eqb_tells}
use Rattle.x12_profile.specs.Interchange.{Bytes}
use Rattle.x12_profile.specs.Profile.{Profile}
use Rattle.x12_hub.specs.Hub.{HubOutcome, Boxed, Refused}
use Rattle.x12_world.proofs.Traces.{Trace, Holds, IsBoxedAt, IsBoxedFor, IsBy, IsRefusedWith}

module _ (p : Profile) (t : Trace) (was : Holds p t) (x : Bytes) where
  -- a hub decides bytes once: it doesn't both refuse them and put them into a mailbox, nor into two
  pub refused_or_boxed : {A : Type 0} (k : ℕ) (r : Bytes) → IsRefusedWith t k x r → (node item : ℕ) → IsBoxedAt t k node item x → A
  refused_or_boxed k r refused node item boxed = absurd (differ (sym (was.decided_first k _ boxed) ∙ was.decided_first k _ refused))
    where
      differ : Some (Boxed node item) ≡ Some (Refused r) → ⊥
      differ e = cc

  boxed_once : (k node item node' item' : ℕ) → IsBoxedAt t k node item x → IsBoxedAt t k node' item' x → node ≡ node'
  boxed_once k node item node' item' a b = ap node_or (sym (was.decided_first k _ a) ∙ was.decided_first k _ b)
    where
      node_or : Option HubOutcome → ℕ
      node_or (Some (Boxed n m)) = n
      node_or (Some (Refused r)) = 0
      node_or None = 0

  -- nor with two refusals
  pub refused_once : (k : ℕ) (r q : Bytes) → IsRefusedWith t k x r → IsRefusedWith t k x q → r ≡ q
  refused_once k r q a b = ap reply_or (sym (was.decided_first k _ a) ∙ was.decided_first k _ b)
    where
      reply_or : Option HubOutcome → Bytes
      reply_or (Some (Boxed n m)) = r
      reply_or (Some (Refused z)) = z
      reply_or None = r

  module _ (i : ℕ) (by : IsBy p t i x) (station : t.hub i ≡ false) (k : ℕ) (r : Bytes) (refused : IsRefusedWith t k x r) where
    k_is : t.hub k ≡ true
    k_is = was.at_hub k _ refused

    -- two hubs have it by way of a mailbox only where one of them forwarded it
    forwarded : {A : Type 0} (l m : ℕ) → t.hub l ≡ true → k ≢ l → IsBoxedFor t m x → ((item : ℕ) → IsBoxedAt t l m item x → A) → A
    forwarded l m l_is apart from other = elim (was.two_hubs k l from.0 k_is l_is (was.at_hub from.0 _ from.2) apart) [
      | inl is_k ↦ refused_or_boxed k r refused m from.1 (subst (λ z. IsBoxedAt t z m from.1 x) is_k from.2)
      | inr is_l ↦ other from.1 (subst (λ z. IsBoxedAt t z m from.1 x) is_l from.2)
    ]

    -- no hub forwarded it to a station
    pub not_forwarded : {A : Type 0} (j : ℕ) → t.hub j ≡ false → (l item : ℕ) → IsBoxedAt t l j item x → A
    not_forwarded {A} j at_station l item boxed = elim ((was.decision k _ refused).brought i by station) [
      | inr from ↦ forwarded l k l_is apart from (λ n there. two_nodes k k_is n there)
      | inl home_k ↦ elim ((was.decision l _ boxed).brought i by station) [
        | inr from ↦ forwarded l l l_is apart from (λ n there. two_nodes l l_is n there)
        | inl home_l ↦ absurd (apart (sym home_k ∙ home_l))
      ]
    ]
      where
        l_is : t.hub l ≡ true
        l_is = was.at_hub l _ boxed

        apart : k ≢ l
        apart same = refused_or_boxed k r refused j item (subst (λ z. IsBoxedAt t z j item x) (sym same) boxed)

        two_nodes : (m : ℕ) → t.hub m ≡ true → (n : ℕ) → IsBoxedAt t l m n x → A
        two_nodes m m_is n there = let no : true ≡ false = sym m_is ∙ subst (λ z. t.hub z ≡ false) (boxed_once l j item m n boxed there) at_station in absurd cc

    -- and no other hub refused it
    pub refused_at_one : (l : ℕ) (q : Bytes) → IsRefusedWith t l x q → k ≡ l
    refused_at_one l q other = elim (eqb_tells k l) [
      | inl same ↦ same.1
      | inr apart ↦ elim ((was.decision k _ refused).brought i by station) [
        | inr from ↦ forwarded l k (was.at_hub l _ other) apart.1 from (λ n there. refused_or_boxed l q other k n there)
        | inl home_k ↦ elim ((was.decision l _ other).brought i by station) [
          | inr from ↦ forwarded l l (was.at_hub l _ other) apart.1 from (λ n there. refused_or_boxed l q other l n there)
          | inl home_l ↦ sym home_k ∙ home_l
        ]
      ]
    ]
