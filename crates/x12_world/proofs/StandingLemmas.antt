-- How far each interchange is, over the trace; and how one event moves one of them by one step, or none.
use Rattle.std.specs.Prelude.{◌≡◌, ◌≢◌, ◌⊎◌, ℕ, [], false, if◌then◌else◌, Option, Some, None, Contains, refl, bytes_eq}
use mathlib.Core.Path.{sym, ap, subst, ◌∙◌}
use mathlib.Core.Logic.{inl, inr}
use Rattle.x12_envelopes.specs.declared.party.Party.{Party}
use Rattle.x12_profile.specs.Interchange.{Bytes}
use Rattle.x12_profile.specs.Profile.{Profile}
use Rattle.x12_profile.specs.Laws.{Laws}
use Rattle.x12_station.specs.History.{HasCame, Submitted, Came}
use Rattle.x12_hub.specs.Hub.{Decision, Refused}
use Rattle.x12_world.specs.Exchange.{ExchangeVerdict, ByReceiver, ByHub, Standing, Unknown, Waiting, Judged, Learnt, Exchange, Moves, IsStepOrNone}
use Rattle.x12_numbers.proofs.Shelf.{bytes_eq_tells, bytes_eq_itself}
use Rattle.x12_world.proofs.Traces.{Trace, IsCame, IsCarried, IsRefusedWith, IsBy, Answers, Grows, Holds}
use Rattle.x12_world.proofs.TraceLemmas.{came_cases, came_stays, item_later, item_cases, decision_later, decision_cases, fresh_new, came_before, sent_fresh, fresh_by}

module _ (p : Profile) where
  -- a station submitted x to a station
  abbrev pub IsExchanged : Trace → Bytes → Type 0
  IsExchanged t x = (i : ℕ) × Contains (t.items i) (Submitted x) × (j : ℕ) × (t.names j ≡ Some (p.receiver x)) × (t.hub j ≡ false)

  -- r acknowledges x with this verdict
  abbrev pub IsAcked : Trace → Bytes → ExchangeVerdict → Bytes → Type 0
  IsAcked t x v r = ((j : ℕ) × (t.names j ≡ Some (p.receiver x)) × HasCame (t.items j) x (Some r) × (v ≡ ByReceiver (p.result x r))) ⊎ ((k : ℕ) × IsRefusedWith t k x r × (v ≡ ByHub))

  -- r came to the station that submitted x
  abbrev pub IsHandledBy : Trace → Bytes → Bytes → Type 0
  IsHandledBy t x r = (i : ℕ) × (k : Option Bytes) × Contains (t.items i) (Submitted x) × HasCame (t.items i) r k

  abbrev pub StandsAs : Trace → Bytes → Standing → Type 0
  StandsAs t x Unknown = ¬ (IsExchanged t x)
  StandsAs t x Waiting = IsExchanged t x × ((v : ExchangeVerdict) (r : Bytes) → ¬ (IsAcked t x v r))
  StandsAs t x (Judged v) = IsExchanged t x × (r : Bytes) × IsAcked t x v r × ¬ (IsHandledBy t x r)
  StandsAs t x (Learnt v) = IsExchanged t x × (r : Bytes) × IsAcked t x v r × IsHandledBy t x r

  abbrev pub Stands : Trace → Exchange → Type 0
  Stands t e = (x : Bytes) → StandsAs t x (e x)

-- an exchange with another standing of one interchange
pub updated : Exchange → Bytes → Standing → Exchange
updated e x st y = if bytes_eq y x then st else e y

pub updated_here : (e : Exchange) (x : Bytes) (st : Standing) → updated e x st x ≡ st
unfolding updated
updated_here e x st = rw (bytes_eq_itself x) refl

pub updated_else : (e : Exchange) (x : Bytes) (st : Standing) (y : Bytes) → y ≢ x → updated e x st y ≡ e y
unfolding updated
updated_else e x st y apart = elim (bytes_eq_tells y x) [ inl same ↦ absurd (apart same.1) | inr differ ↦ rw (differ.0) refl ]

module _ (p : Profile) (laws : Laws p) (t t' : Trace) (g : Grows p t t') (was : Holds p t) (now : Holds p t') where
  pub named_now : (i : ℕ) (party : Party) → t'.names i ≡ Some party → t.names i ≡ Some party
  named_now i party e = rw (g.names i) at e

  pub named_later : (i : ℕ) (party : Party) → t.names i ≡ Some party → t'.names i ≡ Some party
  named_later i party e = rw (g.names i) e

  pub exchanged_later : (x : Bytes) → IsExchanged p t x → IsExchanged p t' x
  exchanged_later x h = (h.0, item_later p t t' g was h.0 (Submitted x) h.1, h.2, named_later h.2 (p.receiver x) h.3, g.hubs h.2 ∙ h.4)

  pub acked_later : (x : Bytes) (v : ExchangeVerdict) (r : Bytes) → IsAcked p t x v r → IsAcked p t' x v r
  acked_later x v r (inl h) = inl (h.0, named_later h.0 (p.receiver x) h.1, came_stays p t t' g was h.0 x (Some r) h.2, h.3)
  acked_later x v r (inr h) = inr (h.0, decision_later p t t' g was h.0 (record { body = x; outcome = Refused r }) h.1, h.2)

  pub handled_later : (x r : Bytes) → IsHandledBy p t x r → IsHandledBy p t' x r
  handled_later x r h = (h.0, h.1, item_later p t t' g was h.0 (Submitted x) h.2, came_stays p t t' g was h.0 r h.1 h.3)

  pub answers_of : (x : Bytes) (v : ExchangeVerdict) (r : Bytes) → IsAcked p t x v r → Answers t x r
  answers_of x v r (inl h) = inl (h.0, h.2)
  answers_of x v r (inr h) = inr (h.0, h.1)

  -- a node's submission: its name, and that it was sent before
  pub by_of : (x : Bytes) (h : IsExchanged p t x) → IsBy p t h.0 x
  by_of x h = (was.sent h.0 x h.1).by

  pub carried_of : (x : Bytes) → IsExchanged p t x → IsCarried t x
  carried_of x h = (was.sent h.0 x h.1).carried

  -- What is not touched stays: x is not submitted now, not acknowledged now, and no acknowledgment of it comes now.
  pub stays : (x : Bytes) (st : Standing) → (g.new ≡ Some (Submitted x) → ¬ (IsExchanged p t' x)) → (st ≡ Waiting → (r : Bytes) (j : ℕ) → t.names j ≡ Some (p.receiver x) → ¬ ((IsCame g.new x (Some r)) × (j ≡ g.node)))
      → (st ≡ Waiting → (r : Bytes) → ¬ (g.decision ≡ Some (record { body = x; outcome = Refused r })))
      → ((v : ExchangeVerdict) → st ≡ Judged v → (r : Bytes) (k : Option Bytes) → IsAcked p t x v r → Contains (t.items g.node) (Submitted x) → ¬ (IsCame g.new r k))
      → StandsAs p t x st → StandsAs p t' x st
  stays x Unknown not_sent not_acked not_refused not_come h = λ ex. h (back ex)
    where
      back : IsExchanged p t' x → IsExchanged p t x
      back ex = elim (item_cases p t t' g was ex.0 (Submitted x) ex.1) [
        | inl old ↦ (ex.0, old, ex.2, named_now ex.2 (p.receiver x) ex.3, sym (g.hubs ex.2) ∙ ex.4)
        | inr new ↦ absurd (not_sent new.1 ex)
      ]
  stays x Waiting not_sent not_acked not_refused not_come h = (exchanged_later x h.0, none)
    where
      none : (v : ExchangeVerdict) (r : Bytes) → ¬ (IsAcked p t' x v r)
      none v r (inl a) = elim (came_cases p t t' g was a.0 x (Some r) a.2) [
        | inl old ↦ h.1 v r (inl (a.0, named_now a.0 (p.receiver x) a.1, old, a.3))
        | inr new ↦ not_acked refl r a.0 (named_now a.0 (p.receiver x) a.1) (new.1, new.0)
      ]
      none v r (inr a) = elim (decision_cases p t t' g was a.0 (record { body = x; outcome = Refused r }) a.1) [
        | inl old ↦ h.1 v r (inr (a.0, old, a.2))
        | inr new ↦ not_refused refl r new.1
      ]
  stays x (Judged v) not_sent not_acked not_refused not_come h = (exchanged_later x h.0, h.1, acked_later x v h.1 h.2, λ a. h.3 (back a))
    where
      fresh_x : {A : Type 0} → g.new ≡ Some (Submitted x) → A
      fresh_x e = fresh_new p t t' g was x (sent_fresh p t t' g was x e) (inl (carried_of x h.0))

      back : IsHandledBy p t' x h.1 → IsHandledBy p t x h.1
      back a = elim (item_cases p t t' g was a.0 (Submitted x) a.2) [
        | inl old ↦ elim (came_cases p t t' g was a.0 h.1 a.1 a.3) [
          | inl before ↦ (a.0, a.1, old, before)
          | inr new ↦ absurd (not_come v refl h.1 a.1 h.2 (subst (λ k. Contains (t.items k) (Submitted x)) new.0 old) new.1)
        ]
        | inr new ↦ fresh_x new.1
      ]
  stays x (Learnt v) not_sent not_acked not_refused not_come h = (exchanged_later x h.0, h.1, acked_later x v h.1 h.2, handled_later x h.1 h.3)

  -- the exchange after the event
  abbrev pub Next : Exchange → Type 0
  Next e = (f : Exchange) × Stands p t' f × IsStepOrNone p e f

  pub same : (e : Exchange) → Stands p t' e → Next e
  same e h = (e, h, inl (λ x. refl))

  -- one interchange moves, all else stays
  pub moves_one : (e : Exchange) (x : Bytes) (st : Standing) → Moves (e x) st → StandsAs p t' x st → ((y : Bytes) → y ≢ x → StandsAs p t' y (e y)) → (e x ≡ Unknown → (y : Bytes) → e y ≢ Unknown → p.sender y ≡ p.sender x → p.number y ≢ p.number x) → Next e
  moves_one e x st moves here else' number = (updated e x st, all, inr (record { interchange = x; moves = rw (updated_here e x st) moves; others = updated_else e x st; new_number = number }))
    where
      all : Stands p t' (updated e x st)
      all y = elim (bytes_eq_tells y x) [
        | inl is ↦ subst (λ z. StandsAs p t' z (updated e x st z)) (sym is.1) (rw (updated_here e x st) here)
        | inr apart ↦ rw (updated_else e x st y apart.1) (else' y apart.1)
      ]

  pub exchanged_of : (x : Bytes) (st : Standing) → st ≢ Unknown → StandsAs p t x st → IsExchanged p t x
  exchanged_of x Unknown n h = absurd (n refl)
  exchanged_of x Waiting n h = h.0
  exchanged_of x (Judged v) n h = h.0
  exchanged_of x (Learnt v) n h = h.0

  pub answer_to : (x r : Bytes) → Answers t x r → p.receiver r ≡ p.sender x
  answer_to x r (inl h) = let ok = was.reply h.0 x r h.1 in laws.reply.to ok.me ok.agreements x r ok.reply
  answer_to x r (inr h) = let ok = was.refusal h.0 x r h.1 in laws.refusal.to ok.me x r ok.refusal

  pub answer_no_group : (x r : Bytes) → Answers t x r → p.groups r ≡ []
  answer_no_group x r (inl h) = let ok = was.reply h.0 x r h.1 in laws.reply.no_groups ok.me ok.agreements x r ok.reply
  answer_no_group x r (inr h) = let ok = was.refusal h.0 x r h.1 in laws.refusal.no_groups ok.me x r ok.refusal

  pub answer_by : (x r : Bytes) → Answers t x r → (i : ℕ) × IsBy p t i r
  answer_by x r (inl h) = let ok = was.reply h.0 x r h.1 in (h.0, ok.at ∙ ap Some (sym (laws.reply.from ok.me ok.agreements x r ok.reply)))
  answer_by x r (inr h) = let ok = was.refusal h.0 x r h.1 in (h.0, ok.at ∙ ap Some (sym (laws.refusal.from ok.me x r ok.refusal)))

  -- an acknowledgment acknowledges one
  pub only_one : (x y r : Bytes) → IsExchanged p t x → Answers t x r → Answers t y r → x ≡ y
  only_one x y r h ax ay = was.answers_once h.0 h.0 x y r (by_of x h) (by_of x h ∙ ap Some (sym (answer_to x r ax) ∙ answer_to y r ay)) ax ay

  -- what is written now came nowhere
  pub fresh_came_nowhere : {A : Type 0} (r : Bytes) (i : ℕ) (k : Option Bytes) → g.fresh ≡ Some r → HasCame (t'.items i) r k → A
  fresh_came_nowhere r i k e h = fresh_new p t t' g was r e (inl (came_before p t t' g was i g.node r k h (fresh_by p t t' g was r e)))

  pub not_new : {A B : Type 0} {o : Option A} {x : A} → o ≡ None → o ≡ Some x → B
  not_new a b = let clash = sym a ∙ b in absurd (none_some clash)
    where
      none_some : {A : Type 0} {x : A} → None ≡ Some x → ⊥
      none_some e = cc

  pub body_is : (d : Decision) (x r : Bytes) → g.decision ≡ Some d → g.decision ≡ Some (record { body = x; outcome = Refused r }) → d.body ≡ x
  body_is d x r a b = ap body_or (sym a ∙ b)
    where
      body_or : Option Decision → Bytes
      body_or None = x
      body_or (Some c) = c.body

  pub came_is : (b c : Bytes) (k l : Option Bytes) → IsCame g.new b k → IsCame g.new c l → (b ≡ c) × (k ≡ l)
  came_is b c k l a e = let both : Some (Came a.0 b k) ≡ Some (Came e.0 c l) = sym a.1 ∙ e.1 in let body : b ≡ c = cc in let reply : k ≡ l = cc in (body, reply)

  pub sent_is : (x y : Bytes) → g.new ≡ Some (Submitted x) → g.new ≡ Some (Submitted y) → x ≡ y
  sent_is x y a e = let both : Some (Submitted x) ≡ Some (Submitted y) = sym a ∙ e in let body : x ≡ y = cc in body

  pub not_sent_and_came : {A : Type 0} (x b : Bytes) (k : Option Bytes) → g.new ≡ Some (Submitted x) → IsCame g.new b k → A
  not_sent_and_came x b k a e = let both : Some (Submitted x) ≡ Some (Came e.0 b k) = sym a ∙ e.1 in absurd cc

  pub waiting_judged : {A : Type 0} {st : Standing} {v : ExchangeVerdict} → st ≡ Waiting → st ≡ Judged v → A
  waiting_judged a b = absurd (clash (sym a ∙ b))
    where
      clash : {v : ExchangeVerdict} → Waiting ≡ Judged v → ⊥
      clash e = cc
