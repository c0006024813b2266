-- One event moves at most one interchange of the exchange, by one step.
use Rattle.std.specs.Prelude.{◌≡◌, ◌≢◌, ◌⊎◌, ℕ, Bool, true, false, Option, Some, None, Contains, refl}
use mathlib.Core.Path.{sym, ap, subst, ◌∙◌}
use mathlib.Core.Logic.{inl, inr}
use native.Mathlib.Omega.{arith}
use Rattle.std.proofs.lemmas.Bool.Decides.{eqb_tells}
use Rattle.x12_envelopes.specs.declared.party.Party.{Party}
use Rattle.x12_profile.specs.Interchange.{Bytes}
use Rattle.x12_profile.specs.Profile.{Profile}
use Rattle.x12_profile.specs.Laws.{Laws}
use Rattle.x12_station.specs.History.{HasCame, Item, Submitted, Came, KeptArrival}
use Rattle.x12_hub.specs.Hub.{Decision, HubOutcome, Boxed, Refused}
use Rattle.x12_world.specs.Exchange.{ExchangeVerdict, ByReceiver, ByHub, Standing, Unknown, Waiting, Judged, Learnt, Exchange, submits, writes, learns}
use Rattle.x12_numbers.proofs.Shelf.{bytes_eq_tells}
use Rattle.x12_profile.proofs.PartyLemmas.{party_tells}
use Rattle.x12_world.proofs.Traces.{Trace, IsCame, IsRefusedWith, Origin, submitted, replied, noted, refused, Answers, Grows, Holds}
use Rattle.x12_world.proofs.TraceLemmas.{new_came, item_later, fresh_new, sent_fresh, fresh_by, reply_fresh, came_ok, new_fresh, new_item, new_decision, answered_carried, not_both, fresh_news}
use Rattle.x12_world.proofs.RoutedLemmas.{not_forwarded, refused_at_one, refused_once}
use Rattle.x12_world.proofs.StandingLemmas.{IsExchanged, IsAcked, StandsAs, Stands, same, stays, moves_one, exchanged_of, answer_to, answer_no_group, answer_by, only_one, fresh_came_nowhere, not_new, body_is, came_is, sent_is, not_sent_and_came, waiting_judged, exchanged_later, acked_later, named_now, named_later, answers_of, by_of, carried_of, Next}

module _ (p : Profile) (laws : Laws p) (t t' : Trace) (g : Grows p t t') (was : Holds p t) (now : Holds p t') where
  module _ (e : Exchange) (stands : Stands p t e) where
    -- a hub refuses x now
    refuses_now : (x r : Bytes) → g.new ≡ None → g.decision ≡ Some (record { body = x; outcome = Refused r }) → (Next p laws t t' g was now) e
    refuses_now x r none d = by (e x) refl (stands x)
      where
        rest : (y : Bytes) → (e y ≡ Waiting → y ≢ x) → StandsAs p t' y (e y)
        rest y apart = (stays p laws t t' g was now) y (e y) (λ n. (not_new p laws t t' g was now) none n) (λ w q j at n. (not_new p laws t t' g was now) none n.0.1) (λ w q n. apart w (sym ((body_is p laws t t' g was now) (record { body = x; outcome = Refused r }) y q d n))) (λ v w q k a s n. (not_new p laws t t' g was now) none n.1) (stands y)

        none_stands : e x ≢ Waiting → (Next p laws t t' g was now) e
        none_stands not_waiting = same p laws t t' g was now e (λ y. rest y (λ w is. not_waiting (subst (λ z. e z ≡ Waiting) is w)))

        by : (st : Standing) → e x ≡ st → StandsAs p t x st → (Next p laws t t' g was now) e
        by Unknown is h = none_stands (λ w. clash (sym is ∙ w))
          where
            clash : Unknown ≡ Waiting → ⊥
            clash e = cc
        by (Judged v) is h = none_stands (λ w. (waiting_judged p laws t t' g was now) w is)
        by (Learnt v) is h = none_stands (λ w. clash (sym is ∙ w))
          where
            clash : Learnt v ≡ Waiting → ⊥
            clash e = cc
        by Waiting is h = (moves_one p laws t t' g was now) e x (Judged ByHub) (writes ByHub is refl)
            ((exchanged_later p laws t t' g was now) x h.0, r, inr (g.node, new_decision p t t' g was (record { body = x; outcome = Refused r }) d, refl), λ a. (fresh_came_nowhere p laws t t' g was now) r a.0 a.1 (new_fresh p t t' g was x r (inr d)) a.3)
            (λ y apart. rest y (λ w. apart)) (λ unknown. absurd (clash (sym unknown ∙ is)))
          where
            clash : Unknown ≡ Waiting → ⊥
            clash e = cc

    -- a hub boxes, or nothing is added
    nothing_now : g.new ≡ None → ((x r : Bytes) → g.decision ≢ Some (record { body = x; outcome = Refused r })) → (Next p laws t t' g was now) e
    nothing_now none no_refusal = same p laws t t' g was now e (λ y. (stays p laws t t' g was now) y (e y) (λ n. (not_new p laws t t' g was now) none n) (λ w q j at n. (not_new p laws t t' g was now) none n.0.1) (λ w q n. no_refusal y q n) (λ v w q k a s n. (not_new p laws t t' g was now) none n.1) (stands y))

    -- x is submitted now
    sends_now : (x : Bytes) → g.new ≡ Some (Submitted x) → (Next p laws t t' g was now) e
    sends_now x new = by (e x) refl (stands x)
      where
        fresh : g.fresh ≡ Some x
        fresh = sent_fresh p t t' g was x new

        no_decision : {A : Type 0} (d : Decision) → g.decision ≡ Some d → A
        no_decision d n = not_both p t t' g was (Submitted x) d new n

        unknown : {A : Type 0} → IsExchanged p t x → A
        unknown h = fresh_new p t t' g was x fresh (inl ((carried_of p laws t t' g was now) x h))

        rest : (y : Bytes) → (y ≡ x → ¬ (IsExchanged p t' x)) → StandsAs p t' y (e y)
        rest y not_x = (stays p laws t t' g was now) y (e y) (λ n ex. let is = (sent_is p laws t t' g was now) x y new n in not_x (sym is) (subst (IsExchanged p t') (sym is) ex)) (λ w q j at n. (not_sent_and_came p laws t t' g was now) x y (Some q) new n.0) (λ w q n. no_decision (record { body = y; outcome = Refused q }) n) (λ v w q k a s n. (not_sent_and_came p laws t t' g was now) x q k new n) (stands y)

        -- a station has this party, or none
        to_station : (party : Party) → ((j : ℕ) × (t.names j ≡ Some party) × (t.hub j ≡ false)) ⊎ ((j : ℕ) → t.names j ≡ Some party → ¬ (t.hub j ≡ false))
        to_station party = elim (was.named_or_not party) [
          | inl found ↦ kind found.0 found.1 (t.hub found.0) refl
          | inr none ↦ inr (λ j name. absurd (none j name))
        ]
          where
            kind : (j : ℕ) → t.names j ≡ Some party → (b : Bool) → t.hub j ≡ b → ((j : ℕ) × (t.names j ≡ Some party) × (t.hub j ≡ false)) ⊎ ((j : ℕ) → t.names j ≡ Some party → ¬ (t.hub j ≡ false))
            kind j name false is = inl (j, name, is)
            kind j name true is = inr (λ i other not_hub. let no : true ≡ false = sym is ∙ subst (λ z. t.hub z ≡ false) (was.names_apart i j party other name) not_hub in absurd cc)

        number : (y : Bytes) → e y ≢ Unknown → p.sender y ≡ p.sender x → p.number y ≢ p.number x
        number y known same_sender equal =
            let ex = (exchanged_of p laws t t' g was now) y (e y) known (stands y) in
            let byx = fresh_by p t t' g was x fresh in
            let low = was.below g.node y (inl ((carried_of p laws t t' g was now) y ex)) (byx ∙ ap Some (sym same_sender)) in
            let high = (fresh_news p t t' g was x fresh).1 in
            omega arith

        by : (st : Standing) → e x ≡ st → StandsAs p t x st → (Next p laws t t' g was now) e
        by Waiting is h = unknown h.0
        by (Judged v) is h = unknown h.0
        by (Learnt v) is h = unknown h.0
        by Unknown is h = elim (to_station (p.receiver x)) [
          | inl to ↦ (moves_one p laws t t' g was now) e x Waiting (submits is refl)
              ((g.node, new_item p t t' g was (Submitted x) new, to.0, (named_later p laws t t' g was now) to.0 (p.receiver x) to.1, g.hubs to.0 ∙ to.2), λ v r a. fresh_new p t t' g was x fresh (inl (answered_carried p t t' g was g.node x r (now_answers v r a) (fresh_by p t t' g was x fresh))))
              (λ y apart. rest y (λ is_x. absurd (apart is_x))) (λ z. number)
          | inr no_one ↦ same p laws t t' g was now e (λ y. rest y (λ is_x ex. no_one ex.2 ((named_now p laws t t' g was now) ex.2 (p.receiver x) ex.3) (sym (g.hubs ex.2) ∙ ex.4)))
        ]
          where
            now_answers : (v : ExchangeVerdict) (r : Bytes) → IsAcked p t' x v r → Answers t' x r
            now_answers v r (inl a) = inl (a.0, a.2)
            now_answers v r (inr a) = inr (a.0, a.1)

    -- b comes now, with what is kept for it
    module _ (b : Bytes) (k : Option Bytes) (new : IsCame g.new b k) (at_station : (i : ℕ) (c : Item) → Contains (t.items i) c → t.hub i ≡ false) where
      no_decision : {A : Type 0} (d : Decision) → g.decision ≡ Some d → A
      no_decision d n = not_both p t t' g was (Came new.0 b k) d new.1 n

      rest : (y : Bytes) → (e y ≡ Waiting → y ≡ b → (r : Bytes) → k ≡ Some r → t.names g.node ≢ Some (p.receiver y)) → ((v : ExchangeVerdict) → e y ≡ Judged v → IsAcked p t y v b → ¬ (Contains (t.items g.node) (Submitted y))) → StandsAs p t' y (e y)
      rest y not_acked not_come = (stays p laws t t' g was now) y (e y) (λ n. (not_sent_and_came p laws t t' g was now) y b k n new)
          (λ w r j at n. let is = (came_is p laws t t' g was now) b y k (Some r) new n.0 in not_acked w (sym is.0) r is.1 (subst (λ z. t.names z ≡ Some (p.receiver y)) n.1 at))
          (λ w r n. no_decision (record { body = y; outcome = Refused r }) n)
          (λ v w r l a s n. let is = (came_is p laws t t' g was now) b r k l new n in not_come v w (subst (IsAcked p t y v) (sym is.0) a) s)
          (stands y)

      not_submitted : (y : Bytes) (v : ExchangeVerdict) → IsExchanged p t b → ¬ (IsAcked p t y v b)
      not_submitted y v h a = laws.submission.has_group b (was.sent h.0 b h.1).submission ((answer_no_group p laws t t' g was now) y b ((answers_of p laws t t' g was now) y v b a))

      -- it is a submission whose verdict isn't written
      waits : e b ≡ Waiting → IsExchanged p t b → (Next p laws t t' g was now) e
      waits is ex = by k refl
        where
          here : (r : Bytes) → k ≡ Some r → (me : Party) → t.names g.node ≡ Some me → (Next p laws t t' g was now) e
          here r kept me name = elim (party_tells me (p.receiver b)) [
            | inl own ↦
                let at : t.names g.node ≡ Some (p.receiver b) = name ∙ ap Some own.1 in
                let came : IsCame g.new b (Some r) = (new.0, new.1 ∙ ap (λ z. Some (Came new.0 b z)) kept) in
                (moves_one p laws t t' g was now) e b (Judged (ByReceiver (p.result b r))) (writes (ByReceiver (p.result b r)) is refl)
                ((exchanged_later p laws t t' g was now) b ex, r, inl (g.node, (named_later p laws t t' g was now) g.node (p.receiver b) at, new_came p t t' g was b (Some r) came, refl), λ a. (fresh_came_nowhere p laws t t' g was now) r a.0 a.1 (reply_fresh p t t' g was b r came) a.3)
                (λ y apart. rest y (λ w y_is. absurd (apart y_is)) (λ v w a s. not_submitted y v ex a)) (λ unknown. absurd (clash (sym unknown ∙ is)))
            | inr other ↦ same p laws t t' g was now e (λ y. rest y (λ w y_is q kq at. other.1 (some_is (sym name ∙ at ∙ ap (λ z. Some (p.receiver z)) y_is))) (λ v w a s. not_submitted y v ex a))
          ]
            where
              clash : Unknown ≡ Waiting → ⊥
              clash z = cc

              some_is : {x y : Party} → Some x ≡ Some y → x ≡ y
              some_is z = cc

          by : (o : Option Bytes) → k ≡ o → (Next p laws t t' g was now) e
          by None none = same p laws t t' g was now e (λ y. rest y (λ w y_is r kr. absurd (clash (sym none ∙ kr))) (λ v w a s. not_submitted y v ex a))
            where
              clash : {r : Bytes} → None ≡ Some r → ⊥
              clash z = cc
          by (Some r) kept = let at = fresh_by p t t' g was r (reply_fresh p t t' g was b r (new.0, new.1 ∙ ap (λ z. Some (Came new.0 b z)) kept)) in here r kept (p.sender r) at

      -- it is none that waits for its verdict; does it acknowledge one?
      module _ (not_waiting : e b ≢ Waiting) where
        quietly : ((y : Bytes) (v : ExchangeVerdict) → e y ≡ Judged v → IsAcked p t y v b → ¬ (Contains (t.items g.node) (Submitted y))) → (Next p laws t t' g was now) e
        quietly not_come = same p laws t t' g was now e (λ y. rest y (λ w y_is. absurd (not_waiting (subst (λ z. e z ≡ Waiting) y_is w))) (λ v w a s. not_come y v w a s))

        -- what a hub refused came nowhere
        boxed_refused : {A : Type 0} (y r q : Bytes) (j l : ℕ) → IsExchanged p t y → HasCame (t.items j) y (Some r) → IsRefusedWith t l y q → A
        boxed_refused y r q j l ex came d =
            let by = (by_of p laws t t' g was now) y ex in
            let own = at_station ex.0 (Submitted y) ex.1 in
            let boxed = (was.came j y (Some r) came).routed ex.0 by own in
            not_forwarded p t was y ex.0 by own l q d j (at_station j (Came came.0 y (Some r)) came.1) boxed.0 boxed.1 boxed.2

        -- one acknowledgment of an interchange with a verdict
        one_ack : (y : Bytes) (v u : ExchangeVerdict) (r q : Bytes) → IsExchanged p t y → IsAcked p t y v r → IsAcked p t y u q → r ≡ q
        one_ack y v u r q ex (inl a) (inl c) =
            let same_node = was.names_apart a.0 c.0 (p.receiver y) a.1 c.1 in
            let one = was.filed_first a.0 y (Some r) a.2 in
            let two = was.filed_first a.0 y (Some q) (subst (λ z. HasCame (t.items z) y (Some q)) (sym same_node) c.2) in
            ap reply_or (sym one ∙ two)
          where
            reply_or : Option KeptArrival → Bytes
            reply_or None = r
            reply_or (Some f) = or f.reply
              where
                or : Option Bytes → Bytes
                or None = r
                or (Some z) = z
        one_ack y v u r q ex (inl a) (inr c) = boxed_refused y r q a.0 c.0 ex a.2 c.1
        one_ack y v u r q ex (inr a) (inl c) = boxed_refused y q r c.0 a.0 ex c.2 a.1
        one_ack y v u r q ex (inr a) (inr c) =
            let same = refused_at_one p t was y ex.0 ((by_of p laws t t' g was now) y ex) (at_station ex.0 (Submitted y) ex.1) a.0 r a.1 c.0 q c.1 in
            refused_once p t was y c.0 r q (subst (λ z. IsRefusedWith t z y r) same a.1) c.1

        -- it acknowledges y0
        candidate : (y0 : Bytes) → Answers t y0 b → (Next p laws t t' g was now) e
        candidate y0 answers = by (e y0) refl (stands y0)
          where
            is_y0 : (y : Bytes) (v : ExchangeVerdict) → e y ≡ Judged v → IsAcked p t y v b → y ≡ y0
            is_y0 y v is a = (only_one p laws t t' g was now) y y0 b ((exchanged_of p laws t t' g was now) y (e y) (λ u. clash (sym is ∙ u)) (stands y)) ((answers_of p laws t t' g was now) y v b a) answers
              where
                clash : Judged v ≡ Unknown → ⊥
                clash z = cc

            not_judged : ((v : ExchangeVerdict) → e y0 ≢ Judged v) → (Next p laws t t' g was now) e
            not_judged n = quietly (λ y v is a s. n v (subst (λ z. e z ≡ Judged v) (is_y0 y v is a) is))

            judged : (v : ExchangeVerdict) → e y0 ≡ Judged v → (ex : IsExchanged p t y0) (r : Bytes) → IsAcked p t y0 v r → (Next p laws t t' g was now) e
            judged v is ex r a = elim (eqb_tells ex.0 g.node) [
              | inl here ↦ elim (bytes_eq_tells b r) [
                | inl this ↦ (moves_one p laws t t' g was now) e y0 (Learnt v) (learns v is refl)
                    ((exchanged_later p laws t t' g was now) y0 ex, r, (acked_later p laws t t' g was now) y0 v r a, (g.node, k, item_later p t t' g was g.node (Submitted y0) (subst (λ z. Contains (t.items z) (Submitted y0)) here.1 ex.1), subst (λ z. HasCame (t'.items g.node) z k) this.1 (new_came p t t' g was b k new)))
                    (λ y apart. rest y (λ w y_is. absurd (not_waiting (subst (λ z. e z ≡ Waiting) y_is w))) (λ u w c s. apart (is_y0 y u w c))) (λ unknown. absurd (clash (sym unknown ∙ is)))
                | inr other ↦ quietly (λ y u w c s. other.1 (one_ack y0 u v b r ex (subst (λ z. IsAcked p t z u b) (is_y0 y u w c) c) a))
              ]
              | inr elsewhere ↦ quietly (λ y u w c s. elsewhere.1 (was.names_apart ex.0 g.node (p.sender y0) ((by_of p laws t t' g was now) y0 ex) (was.sent g.node y0 (subst (λ z. Contains (t.items g.node) (Submitted z)) (is_y0 y u w c) s)).by))
            ]
              where
                clash : Unknown ≡ Judged v → ⊥
                clash z = cc

            by : (st : Standing) → e y0 ≡ st → StandsAs p t y0 st → (Next p laws t t' g was now) e
            by Unknown is h = not_judged (λ v w. clash (sym is ∙ w))
              where
                clash : {v : ExchangeVerdict} → Unknown ≡ Judged v → ⊥
                clash z = cc
            by Waiting is h = not_judged (λ v w. (waiting_judged p laws t t' g was now) is w)
            by (Learnt u) is h = not_judged (λ v w. clash (sym is ∙ w))
              where
                clash : {v : ExchangeVerdict} → Learnt u ≡ Judged v → ⊥
                clash z = cc
            by (Judged v) is h = judged v is h.0 h.1 h.2

        acknowledges : (Next p laws t t' g was now) e
        acknowledges = elim (was.named_or_not (p.sender b)) [
          | inl node ↦ from node.0 (was.origin node.0 b (inl ((came_ok p t t' g was b k new).carried node.0 node.1)) node.1)
          | inr no_one ↦ quietly (λ y v is a s. let by = (answer_by p laws t t' g was now) y b ((answers_of p laws t t' g was now) y v b a) in no_one by.0 by.1)
        ]
          where
            from : (i : ℕ) → Origin p t i b → (Next p laws t t' g was now) e
            from i (submitted h) = quietly (λ y v is a s. laws.submission.has_group b (was.sent i b h).submission ((answer_no_group p laws t t' g was now) y b ((answers_of p laws t t' g was now) y v b a)))
            from i (replied y h) = candidate y (inl (i, h))
            from i (refused y h) = candidate y (inr (i, h))
            from i (noted z me n h) = quietly (λ y v is a s. n g.node ((was.sent g.node y s).by ∙ ap Some (sym ((answer_to p laws t t' g was now) y b ((answers_of p laws t t' g was now) y v b a)) ∙ laws.refusal.to me z b h)))

      comes_now : (Next p laws t t' g was now) e
      comes_now = by (e b) refl (stands b)
        where
          by : (st : Standing) → e b ≡ st → StandsAs p t b st → (Next p laws t t' g was now) e
          by Waiting is h = waits is h.0
          by Unknown is h = acknowledges (λ w. clash (sym is ∙ w))
            where
              clash : Unknown ≡ Waiting → ⊥
              clash z = cc
          by (Judged v) is h = acknowledges (λ w. (waiting_judged p laws t t' g was now) w is)
          by (Learnt v) is h = acknowledges (λ w. clash (sym is ∙ w))
            where
              clash : Learnt v ≡ Waiting → ⊥
              clash z = cc

    -- One event moves the exchange by one step, or not at all.
    pub next : ((i : ℕ) (c : Item) → Contains (t.items i) c → t.hub i ≡ false) → (Next p laws t t' g was now) e
    next at_station = by g.new refl g.decision refl
      where
        by : (o : Option Item) → g.new ≡ o → (d : Option Decision) → g.decision ≡ d → (Next p laws t t' g was now) e
        by None new None d = nothing_now new (λ x r is. (not_new p laws t t' g was now) d is)
        by None new (Some c) d = decides c.outcome refl
          where
            clash : {n m : ℕ} {r : Bytes} → Boxed n m ≡ Refused r → ⊥
            clash z = cc

            outcome_is : (x r : Bytes) → g.decision ≡ Some (record { body = x; outcome = Refused r }) → c.outcome ≡ Refused r
            outcome_is x r is = ap outcome_or (sym d ∙ is)
              where
                outcome_or : Option Decision → HubOutcome
                outcome_or None = Refused r
                outcome_or (Some z) = z.outcome

            decides : (o : HubOutcome) → c.outcome ≡ o → (Next p laws t t' g was now) e
            decides (Boxed node item) is = nothing_now new (λ x r at. clash (sym is ∙ outcome_is x r at))
            decides (Refused r) is = refuses_now c.body r new (d ∙ ap (λ z. Some (record { body = c.body; outcome = z })) is)
        by (Some (Submitted x)) new d is = sends_now x new
        by (Some (Came ed b k)) new d is = comes_now b k (ed, new) at_station
