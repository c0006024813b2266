-- One event keeps all that is kept of the trace.
use Rattle.std.specs.Prelude.{◌≡◌, ℕ, ◌≤◌, [], ◌∷◌, Bool, true, false, Option, Some, None, Contains, refl, ◌⊎◌, option_to_list}
use mathlib.Core.Path.{sym, subst, ◌∙◌, ap}
use mathlib.Core.Logic.{inl, inr}
use native.Mathlib.Omega.{arith}
use Rattle.std.proofs.lemmas.List.Elements.{Contains-append_left, Contains-append_right, Contains-append_cases}
use Rattle.std.proofs.lemmas.Bool.Decides.{eqb_tells}
use Rattle.x12_envelopes.specs.declared.party.Party.{Party}
use Rattle.x12_profile.specs.declared.edition.Edition.{Edition}
use Rattle.x12_profile.specs.Interchange.{Bytes}
use Rattle.x12_profile.specs.Profile.{Profile}
use Rattle.x12_profile.specs.Laws.{SharesGroup}
use Rattle.x12_station.specs.History.{Item, Submitted, Came, KeptArrival, filed, HasCame, items_after}
use Rattle.x12_hub.specs.Hub.{Decision, Boxed, Refused, decided}
use Rattle.x12_core.specs.Packet.{Load, Deposit, Refusal, Taken}
use Rattle.x12_core.specs.Packet as packet
use Rattle.x12_station.proofs.ListLemmas.{contains_option, contains_some}
use Rattle.x12_numbers.proofs.Shelf.{contains_head}
use Rattle.x12_world.proofs.DecidedLemmas.{decided_stays, decided_last}
use Rattle.x12_station.proofs.HistoryLemmas.{filed_stays, filed_last, after_append, PostedByFiled, posted_next}
use Rattle.x12_world.proofs.Traces.{IsCame, Answers, CameNews, CameOk, DecidedOk, DecisionNews, FreshNews, Grows, Holds, IsBoxedFor, IsBy, IsCarried, IsSentIn, IsWritten, ItemNews, LoadOk, newest, Origin, Reason, RefusalOk, ReplyOk, SentOk, Trace, noted, notes, refused, refuses, replied, replies, submits, submitted}

module _ (p : Profile) (t t' : Trace) (g : Grows p t t') (was : Holds p t) where
  pub fresh_news : (f : Bytes) → g.fresh ≡ Some f → FreshNews p t g.node (t'.last g.node) (Some f)
  fresh_news f e = subst (FreshNews p t g.node (t'.last g.node)) e g.news.written

  item_news : (c : Item) → g.new ≡ Some c → ItemNews p t g.node (t'.group g.node) g.fresh g.packets (Some c)
  item_news c e = subst (ItemNews p t g.node (t'.group g.node) g.fresh g.packets) e g.news.item

  decision_news : (d : Decision) → g.decision ≡ Some d → DecisionNews p t g.node g.fresh (Some d)
  decision_news d e = subst (DecisionNews p t g.node g.fresh) e g.news.made

  pub fresh_by : (f : Bytes) → g.fresh ≡ Some f → IsBy p t g.node f
  fresh_by f e = (fresh_news f e).0

  pub sent_fresh : (x : Bytes) → g.new ≡ Some (Submitted x) → g.fresh ≡ Some x
  sent_fresh x e = (item_news (Submitted x) e).1

  sent_now : (b : Bytes) → IsSentIn g.packets b → IsCarried t' b
  sent_now b h = record { packet = h.0; sent = rw g.all_packets (Contains-append_right t.packets g.packets h.0 h.1); holds = h.2 }

  named_later : (i : ℕ) (party : Party) → t.names i ≡ Some party → t'.names i ≡ Some party
  named_later i party h = rw (g.names i) h

  named_now : (i : ℕ) (party : Party) → t'.names i ≡ Some party → t.names i ≡ Some party
  named_now i party h = rw (g.names i) at h

  hub_now : (i : ℕ) (b : Bool) → t'.hub i ≡ b → t.hub i ≡ b
  hub_now i b h = rw (g.hubs i) at h

  hub_later : (i : ℕ) (b : Bool) → t.hub i ≡ b → t'.hub i ≡ b
  hub_later i b h = rw (g.hubs i) h

  pub sent_ok : (x : Bytes) → g.new ≡ Some (Submitted x) → SentOk p t' g.node x
  sent_ok x e = let ok = item_news (Submitted x) e in record {
    by = named_later g.node (p.sender x) (fresh_by x ok.1);
    carried = sent_now x ok.2;
    submission = ok.0.submission;
    from = ok.0.from;
    rises = ok.0.rises;
  }

  came_news : (ed : Edition) (b : Bytes) (k r : Option Bytes) → k ≡ r → ItemNews p t g.node (t'.group g.node) g.fresh g.packets (Some (Came ed b k)) → CameNews p t g.node ed b
  came_news ed b None r e ok = ok
  came_news ed b (Some q) r e ok = ok.0

  pub came_ok : (b : Bytes) (r : Option Bytes) → IsCame g.new b r → CameOk p t g.node b
  came_ok b r e = (came_news e.0 b r r refl (item_news (Came e.0 b r) e.1)).ok

  new_by_newest : (ed : Edition) (b : Bytes) (r : Option Bytes) → g.new ≡ Some (Came ed b r) → ed ≡ newest
  new_by_newest ed b r e = (came_news ed b r r refl (item_news (Came ed b r) e)).by_newest

  pub came_new : (b : Bytes) (r : Option Bytes) → IsCame g.new b r → filed p (t.items g.node) (p.sender b) (p.number b) ≡ None
  came_new b r e = (came_news e.0 b r r refl (item_news (Came e.0 b r) e.1)).first

  pub reply_fresh : (b r : Bytes) → IsCame g.new b (Some r) → g.fresh ≡ Some r
  reply_fresh b r e = (item_news (Came e.0 b (Some r)) e.1).2

  reply_ok : (b r : Bytes) → IsCame g.new b (Some r) → ReplyOk p t' g.node b r
  reply_ok b r e = let ok = item_news (Came e.0 b (Some r)) e.1 in record {
    me = ok.1.me;
    at = named_later g.node ok.1.me ok.1.at;
    carried = sent_now r ok.3;
    agreements = ok.1.agreements;
    reply = ok.1.reply;
  }

  pub new_item : (c : Item) → g.new ≡ Some c → Contains (t'.items g.node) c
  new_item c e = rw g.items_here (Contains-append_right (t.items g.node) (option_to_list g.new) c (contains_some g.new c e))

  pub new_came : (b : Bytes) (k : Option Bytes) → IsCame g.new b k → HasCame (t'.items g.node) b k
  new_came b k e = (e.0, new_item (Came e.0 b k) e.1)

  pub new_decision : (d : Decision) → g.decision ≡ Some d → Contains (t'.decisions g.node) d
  new_decision d e = rw g.decisions_here (Contains-append_right (t.decisions g.node) (option_to_list g.decision) d (contains_some g.decision d e))

  fresh_origin : (f : Bytes) → g.fresh ≡ Some f → Origin p t' g.node f
  fresh_origin f e = by (g.news.reason f e)
    where
      by : Reason p t g.node g.new g.decision f → Origin p t' g.node f
      by (submits n) = submitted (new_item (Submitted f) n)
      by (replies y n) = replied y (new_came y (Some f) n)
      by (notes y me n r) = noted y me (λ k by. n k (named_now k (p.sender y) by)) r
      by (refuses y d) = refused y (new_decision (record { body = y; outcome = Refused f }) d)

  pub item_later : (i : ℕ) (c : Item) → Contains (t.items i) c → Contains (t'.items i) c
  item_later i c h = elim (eqb_tells i g.node) [
    | inl e ↦ subst (λ k. Contains (t'.items k) c) (sym e.1) (rw g.items_here (Contains-append_left (t.items g.node) (option_to_list g.new) c (subst (λ k. Contains (t.items k) c) e.1 h)))
    | inr e ↦ rw (g.items_else i e.1) h
  ]

  pub item_cases : (i : ℕ) (c : Item) → Contains (t'.items i) c → Contains (t.items i) c ⊎ ((i ≡ g.node) × (g.new ≡ Some c))
  item_cases i c h = elim (eqb_tells i g.node) [
    | inl e ↦ elim (Contains-append_cases (t.items g.node) (option_to_list g.new) c (rw g.items_here at (subst (λ k. Contains (t'.items k) c) e.1 h))) [
      | inl old ↦ inl (subst (λ k. Contains (t.items k) c) (sym e.1) old)
      | inr new ↦ inr (e.1, contains_option g.new c new)
    ]
    | inr e ↦ inl (rw (g.items_else i e.1) at h)
  ]

  pub came_stays : (i : ℕ) (b : Bytes) (k : Option Bytes) → HasCame (t.items i) b k → HasCame (t'.items i) b k
  came_stays i b k h = (h.0, item_later i (Came h.0 b k) h.1)

  pub came_cases : (i : ℕ) (b : Bytes) (k : Option Bytes) → HasCame (t'.items i) b k → HasCame (t.items i) b k ⊎ ((i ≡ g.node) × IsCame g.new b k)
  came_cases i b k h = elim (item_cases i (Came h.0 b k) h.1) [ inl old ↦ inl (h.0, old) | inr new ↦ inr (new.0, (h.0, new.1)) ]

  pub decision_later : (k : ℕ) (d : Decision) → Contains (t.decisions k) d → Contains (t'.decisions k) d
  decision_later k d h = elim (eqb_tells k g.node) [
    | inl e ↦ subst (λ i. Contains (t'.decisions i) d) (sym e.1) (rw g.decisions_here (Contains-append_left (t.decisions g.node) (option_to_list g.decision) d (subst (λ i. Contains (t.decisions i) d) e.1 h)))
    | inr e ↦ rw (g.decisions_else k e.1) h
  ]

  pub decision_cases : (k : ℕ) (d : Decision) → Contains (t'.decisions k) d → Contains (t.decisions k) d ⊎ ((k ≡ g.node) × (g.decision ≡ Some d))
  decision_cases k d h = elim (eqb_tells k g.node) [
    | inl e ↦ elim (Contains-append_cases (t.decisions g.node) (option_to_list g.decision) d (rw g.decisions_here at (subst (λ i. Contains (t'.decisions i) d) e.1 h))) [
      | inl old ↦ inl (subst (λ i. Contains (t.decisions i) d) (sym e.1) old)
      | inr new ↦ inr (e.1, contains_option g.decision d new)
    ]
    | inr e ↦ inl (rw (g.decisions_else k e.1) at h)
  ]

  pub carried_later : (b : Bytes) → IsCarried t b → IsCarried t' b
  carried_later b h = record { packet = h.packet; sent = rw g.all_packets (Contains-append_left t.packets g.packets h.packet h.sent); holds = h.holds }

  by_now : (i : ℕ) (b : Bytes) → IsBy p t' i b → IsBy p t i b
  by_now i b h = named_now i (p.sender b) h

  by_later : (i : ℕ) (b : Bytes) → IsBy p t i b → IsBy p t' i b
  by_later i b h = named_later i (p.sender b) h

  pub written_later : (b : Bytes) → IsWritten t b → IsWritten t' b
  written_later b (inl h) = inl (carried_later b h)
  written_later b (inr h) = inr (h.0, h.1, decision_later h.0 (record { body = h.1; outcome = Refused b }) h.2)

  -- what is written under a node's name was written before, or is new
  pub written_cases : (i : ℕ) (b : Bytes) → IsWritten t' b → IsBy p t i b → IsWritten t b ⊎ (g.fresh ≡ Some b)
  written_cases i b (inl h) by = elim (Contains-append_cases t.packets g.packets h.packet (rw g.all_packets at h.sent)) [
    | inl old ↦ inl (inl (record { packet = h.packet; sent = old; holds = h.holds }))
    | inr new ↦ g.news.sends h.packet b i new h.holds by
  ]
  written_cases i b (inr h) by = elim (decision_cases h.0 (record { body = h.1; outcome = Refused b }) h.2) [
    | inl old ↦ inl (inr (h.0, h.1, old))
    | inr new ↦ inr ((decision_news (record { body = h.1; outcome = Refused b }) new.1).2.0)
  ]

  -- what is written now was never written before
  pub fresh_new : {A : Type 0} (f : Bytes) → g.fresh ≡ Some f → IsWritten t f → A
  fresh_new f e h = let above = (fresh_news f e).1 in let under = was.below g.node f h (fresh_by f e) in absurd (omega arith)

  sent_later : (i : ℕ) (x : Bytes) → SentOk p t i x → SentOk p t' i x
  sent_later i x h = record { by = by_later i x h.by; carried = carried_later x h.carried; submission = h.submission; from = h.from; rises = h.rises }

  reply_later : (i : ℕ) (b r : Bytes) → ReplyOk p t i b r → ReplyOk p t' i b r
  reply_later i b r h = record { me = h.me; at = named_later i h.me h.at; carried = carried_later r h.carried; agreements = h.agreements; reply = h.reply }

  routed_later : (node : ℕ) (b : Bytes) → IsBoxedFor t node b → IsBoxedFor t' node b
  routed_later node b h = (h.0, h.1, decision_later h.0 (record { body = b; outcome = Boxed node h.1 }) h.2)

  came_later : (i : ℕ) (b : Bytes) → CameOk p t i b → CameOk p t' i b
  came_later i b h = record { header = h.header; carried = λ k by. carried_later b (h.carried k (by_now k b by)); routed = λ k by n. routed_later i b (h.routed k (by_now k b by) (hub_now k false n)) }

  refusal_later : (k : ℕ) (b r : Bytes) → RefusalOk p t k b r → RefusalOk p t' k b r
  refusal_later k b r h = record { me = h.me; at = named_later k h.me h.at; refusal = h.refusal }

  decided_later : (k : ℕ) (b : Bytes) → DecidedOk p t k b → DecidedOk p t' k b
  decided_later k b h = record {
    carried = λ i by. carried_later b (h.carried i (by_now i b by));
    brought = λ i by n. elim (h.brought i (by_now i b by) (hub_now i false n)) [ inl own ↦ inl (g.homes i ∙ own) | inr other ↦ inr (routed_later k b other) ];
  }

  origin_later : (i : ℕ) (b : Bytes) → Origin p t i b → Origin p t' i b
  origin_later i b (submitted h) = submitted (item_later i (Submitted b) h)
  origin_later i b (replied y h) = replied y (came_stays i y (Some b) h)
  origin_later i b (noted y me n h) = noted y me (λ k by. n k (by_now k y by)) h
  origin_later i b (refused y h) = refused y (decision_later i (record { body = y; outcome = Refused b }) h)

  packet_later : (from to : ℕ) (l : Load) → LoadOk p t from to l → LoadOk p t' from to l
  packet_later from to (Deposit b) h = (by_later from b h.0, g.homes from ∙ h.1)
  packet_later from to (packet.Item n b) h = decision_later from (record { body = b; outcome = Boxed to n }) h
  packet_later from to (Refusal b) h = (by_later from b h.0, hub_later from true h.1)
  packet_later from to (Taken n) h = tt

  filed_later : (i : ℕ) (b : Bytes) (f : KeptArrival) → filed p (t.items i) (p.sender b) (p.number b) ≡ Some f → filed p (t'.items i) (p.sender b) (p.number b) ≡ Some f
  filed_later i b f h = elim (eqb_tells i g.node) [
    | inl e ↦ subst (λ k. filed p (t'.items k) (p.sender b) (p.number b) ≡ Some f) (sym e.1)
        (rw g.items_here (filed_stays p (t.items g.node) (option_to_list g.new) (p.sender b) (p.number b) f (subst (λ k. filed p (t.items k) (p.sender b) (p.number b) ≡ Some f) e.1 h)))
    | inr e ↦ rw (g.items_else i e.1) h
  ]

  filed_here : (b : Bytes) (r : Option Bytes) → IsCame g.new b r → filed p (t'.items g.node) (p.sender b) (p.number b) ≡ Some (record { body = b; reply = r })
  filed_here b r e = rw (g.items_here, e.1) (filed_last p (t.items g.node) e.0 b r (came_new b r e))

  posted_now : (i : ℕ) → PostedByFiled p (t'.items i)
  posted_now i = elim (eqb_tells i g.node) [
    | inl e ↦ subst (λ k. PostedByFiled p (t'.items k)) (sym e.1) (subst (PostedByFiled p) (sym g.items_here) (posted_next p (t.items g.node) g.new (was.posted g.node) (λ ed b r e. came_new b r (ed, e))))
    | inr e ↦ subst (PostedByFiled p) (sym (g.items_else i e.1)) (was.posted i)
  ]

  decided_here : (d : Decision) → g.decision ≡ Some d → decided (t'.decisions g.node) d.body ≡ Some d.outcome
  decided_here d e = rw (g.decisions_here, e) (decided_last (t.decisions g.node) d ((decision_news d e).0))

  decided_before : (k : ℕ) (d : Decision) → Contains (t.decisions k) d → decided (t'.decisions k) d.body ≡ Some d.outcome
  decided_before k d h = elim (eqb_tells k g.node) [
    | inl e ↦ subst (λ i. decided (t'.decisions i) d.body ≡ Some d.outcome) (sym e.1)
        (rw g.decisions_here (decided_stays (t.decisions g.node) (option_to_list g.decision) d.body d.outcome (subst (λ i. decided (t.decisions i) d.body ≡ Some d.outcome) e.1 (was.decided_first k d h))))
    | inr e ↦ rw (g.decisions_else k e.1) (was.decided_first k d h)
  ]

  after_later : (i : ℕ) (x : Bytes) (c : Item) → Contains (t.items i) (Submitted x) → Contains (items_after x (t.items i)) c → Contains (items_after x (t'.items i)) c
  after_later i x c sent h = elim (eqb_tells i g.node) [
    | inl e ↦ subst (λ k. Contains (items_after x (t'.items k)) c) (sym e.1)
        (rw (g.items_here, after_append (t.items g.node) (option_to_list g.new) x (subst (λ k. Contains (t.items k) (Submitted x)) e.1 sent))
        (Contains-append_left (items_after x (t.items g.node)) (option_to_list g.new) c (subst (λ k. Contains (items_after x (t.items k)) c) e.1 h)))
    | inr e ↦ rw (g.items_else i e.1) h
  ]

  -- what comes now comes after all that was submitted
  after_here : (x b : Bytes) (k : Option Bytes) → Contains (t.items g.node) (Submitted x) → IsCame g.new b k → HasCame (items_after x (t'.items g.node)) b k
  after_here x b k sent e = (e.0, rw (g.items_here, after_append (t.items g.node) (option_to_list g.new) x sent, e.1) (Contains-append_right (items_after x (t.items g.node)) (Came e.0 b k ∷ []) (Came e.0 b k) (contains_head (Came e.0 b k) [])))

  -- what acknowledges x now, and was not there before, is written now; or x itself came before
  answers_cases : (x r : Bytes) → Answers t' x r → Answers t x r ⊎ (g.fresh ≡ Some r)
  answers_cases x r (inl h) = elim (came_cases h.0 x (Some r) h.1) [ inl old ↦ inl (inl (h.0, old)) | inr new ↦ inr (reply_fresh x r new.1) ]
  answers_cases x r (inr h) = elim (decision_cases h.0 (record { body = x; outcome = Refused r }) h.1) [ inl old ↦ inl (inr (h.0, old)) | inr new ↦ inr ((decision_news (record { body = x; outcome = Refused r }) new.1).2.0) ]

  -- what acknowledged before was written
  pub answer_written : (x r : Bytes) → Answers t x r → IsWritten t r
  answer_written x r (inl h) = inl (was.reply h.0 x r h.1).carried
  answer_written x r (inr h) = inr (h.0, x, h.1)

  -- what acknowledges now
  abbrev pub AnswersNow : Bytes → Bytes → Type 0
  AnswersNow x r = (IsCame g.new x (Some r)) ⊎ (g.decision ≡ Some (record { body = x; outcome = Refused r }))

  pub new_answers : (x r : Bytes) → Answers t' x r → Answers t x r ⊎ AnswersNow x r
  new_answers x r (inl h) = elim (came_cases h.0 x (Some r) h.1) [ inl old ↦ inl (inl (h.0, old)) | inr new ↦ inr (inl new.1) ]
  new_answers x r (inr h) = elim (decision_cases h.0 (record { body = x; outcome = Refused r }) h.1) [ inl old ↦ inl (inr (h.0, old)) | inr new ↦ inr (inr new.1) ]

  pub new_fresh : (x r : Bytes) → AnswersNow x r → g.fresh ≡ Some r
  new_fresh x r (inl e) = reply_fresh x r e
  new_fresh x r (inr e) = (decision_news (record { body = x; outcome = Refused r }) e).2.0

  pub not_both : {A : Type 0} (c : Item) (d : Decision) → g.new ≡ Some c → g.decision ≡ Some d → A
  not_both c d a b = elim g.one [ inl none ↦ let no_way : None ≡ Some c = sym none ∙ a in absurd cc | inr none ↦ let no_way : None ≡ Some d = sym none ∙ b in absurd cc ]

  both_new : (x y r : Bytes) → AnswersNow x r → AnswersNow y r → x ≡ y
  both_new x y r (inl a) (inl b) = let same : Some (Came a.0 x (Some r)) ≡ Some (Came b.0 y (Some r)) = sym a.1 ∙ b.1 in let is : x ≡ y = cc in is
  both_new x y r (inl a) (inr b) = not_both (Came a.0 x (Some r)) (record { body = y; outcome = Refused r }) a.1 b
  both_new x y r (inr a) (inl b) = not_both (Came b.0 y (Some r)) (record { body = x; outcome = Refused r }) b.1 a
  both_new x y r (inr a) (inr b) = ap body_or (sym a ∙ b)
    where
      body_or : Option Decision → Bytes
      body_or None = x
      body_or (Some d) = d.body

  once : (i j : ℕ) (x y r : Bytes) → IsBy p t i x → IsBy p t j y → Answers t' x r → Answers t' y r → x ≡ y
  once i j x y r byx byy ax ay = elim (new_answers x r ax) [
    | inl oldx ↦ elim (new_answers y r ay) [
      | inl oldy ↦ was.answers_once i j x y r byx byy oldx oldy
      | inr newy ↦ fresh_new r (new_fresh y r newy) (answer_written x r oldx)
    ]
    | inr newx ↦ elim (new_answers y r ay) [
      | inl oldy ↦ fresh_new r (new_fresh x r newx) (answer_written y r oldy)
      | inr newy ↦ both_new x y r newx newy
    ]
  ]

  -- what was acknowledged was sent before
  pub answered_carried : (i : ℕ) (x r : Bytes) → Answers t' x r → IsBy p t i x → IsCarried t x
  answered_carried i x r (inl h) by = elim (came_cases h.0 x (Some r) h.1) [
    | inl old ↦ (was.came h.0 x (Some r) old).carried i by
    | inr new ↦ (came_ok x (Some r) new.1).carried i by
  ]
  answered_carried i x r (inr h) by = elim (decision_cases h.0 (record { body = x; outcome = Refused r }) h.1) [
    | inl old ↦ (was.decision h.0 (record { body = x; outcome = Refused r }) old).carried i by
    | inr new ↦ (decision_news (record { body = x; outcome = Refused r }) new.1).1.carried i by
  ]

  -- what came was sent before, or is under no node's name
  pub came_before : (i j : ℕ) (b : Bytes) (k : Option Bytes) → HasCame (t'.items i) b k → IsBy p t j b → IsCarried t b
  came_before i j b k h by = elim (came_cases i b k h) [ inl old ↦ (was.came i b k old).carried j by | inr new ↦ (came_ok b k new.1).carried j by ]

  order_of : (i : ℕ) (x r : Bytes) (k : Option Bytes) → Contains (t'.items i) (Submitted x) → HasCame (t'.items i) r k → Answers t' x r → HasCame (items_after x (t'.items i)) r k
  order_of i x r k sent came answers = elim (item_cases i (Submitted x) sent) [
    | inl old ↦ elim (came_cases i r k came) [
      | inl before ↦ elim (answers_cases x r answers) [
        | inl known ↦ let stood = was.order i x r k old before known in (stood.0, after_later i x (Came stood.0 r k) old stood.1)
        | inr now ↦ fresh_new r now (inl (came_before i g.node r k came (fresh_by r now)))
      ]
      | inr now ↦ subst (λ j. HasCame (items_after x (t'.items j)) r k) (sym now.0) (after_here x r k (subst (λ j. Contains (t.items j) (Submitted x)) now.0 old) now.1)
    ]
    | inr new ↦ fresh_new x (sent_fresh x new.1) (inl (answered_carried g.node x r answers (fresh_by x (sent_fresh x new.1))))
  ]

  groups_of : (i : ℕ) (x y : Bytes) → Contains (t'.items i) (Submitted x) → Contains (t'.items i) (Submitted y) → SharesGroup p x y → x ≡ y
  groups_of i x y hx hy shares = elim (item_cases i (Submitted x) hx) [
    | inl oldx ↦ elim (item_cases i (Submitted y) hy) [
      | inl oldy ↦ was.groups_apart i x y oldx oldy shares
      | inr newy ↦
          let low = was.groups_below i x shares.0 oldx shares.1 in
          let low' : shares.0 ≤ t.group g.node = subst (λ k. shares.0 ≤ t.group k) newy.0 low in
          let high = ((item_news (Submitted y) newy.1).0.groups shares.0 shares.2).0 in
          absurd (omega arith)
    ]
    | inr newx ↦ elim (item_cases i (Submitted y) hy) [
      | inl oldy ↦
          let low = was.groups_below i y shares.0 oldy shares.2 in
          let low' : shares.0 ≤ t.group g.node = subst (λ k. shares.0 ≤ t.group k) newx.0 low in
          let high = ((item_news (Submitted x) newx.1).0.groups shares.0 shares.1).0 in
          absurd (omega arith)
      | inr newy ↦ let same : Some (Submitted x) ≡ Some (Submitted y) = sym newx.1 ∙ newy.1 in let is : x ≡ y = cc in is
    ]
  ]

  unique_of : (i : ℕ) (b c : Bytes) → IsWritten t' b → IsWritten t' c → IsBy p t i b → IsBy p t i c → p.number b ≡ p.number c → b ≡ c
  unique_of i b c hb hc byb byc e = elim (written_cases i b hb byb) [
    | inl oldb ↦ elim (written_cases i c hc byc) [
      | inl oldc ↦ was.unique i b c oldb oldc byb byc e
      | inr newc ↦
          let here = was.names_apart i g.node (p.sender c) byc (fresh_by c newc) in
          let low = was.below i b oldb byb in
          let low' : p.number b ≤ t.last g.node = subst (λ k. p.number b ≤ t.last k) here low in
          let high = (fresh_news c newc).1 in
          absurd (omega arith)
    ]
    | inr newb ↦ elim (written_cases i c hc byc) [
      | inl oldc ↦
          let here = was.names_apart i g.node (p.sender b) byb (fresh_by b newb) in
          let low = was.below i c oldc byc in
          let low' : p.number c ≤ t.last g.node = subst (λ k. p.number c ≤ t.last k) here low in
          let high = (fresh_news b newb).1 in
          absurd (omega arith)
      | inr newc ↦ let same : Some b ≡ Some c = sym newb ∙ newc in let is : b ≡ c = cc in is
    ]
  ]

  below_of : (i : ℕ) (b : Bytes) → IsWritten t' b → IsBy p t i b → p.number b ≤ t'.last i
  below_of i b h by = elim (written_cases i b h by) [
    | inl old ↦ let low = was.below i b old by in let up = g.last_up i in omega arith
    | inr new ↦ subst (λ k. p.number b ≤ t'.last k) (was.names_apart g.node i (p.sender b) (fresh_by b new) by) ((fresh_news b new).2)
  ]

  -- a hub decides
  decides_here : (d : Decision) → g.decision ≡ Some d → t.hub g.node ≡ true
  decides_here d e = by (t.hub g.node) refl
    where
      by : (b : Bool) → t.hub g.node ≡ b → t.hub g.node ≡ true
      by true is = is
      by false is = let no_way : None ≡ Some d = sym (g.at_hub is) ∙ e in absurd cc

  -- One event keeps all of it.
  pub holds_after : Holds p t'
  holds_after = record {
    names_apart = λ i j party a b. was.names_apart i j party (named_now i party a) (named_now j party b);
    named_or_not = λ party. elim (was.named_or_not party) [ inl found ↦ inl (found.0, named_later found.0 party found.1) | inr none ↦ inr (λ i h. none i (named_now i party h)) ];
    two_hubs = λ i j k a b c. was.two_hubs i j k (hub_now i true a) (hub_now j true b) (hub_now k true c);
    at_hub = λ k d h. hub_later k true (elim (decision_cases k d h) [ inl old ↦ was.at_hub k d old | inr new ↦ subst (λ i. t.hub i ≡ true) (sym new.0) (decides_here d new.1) ]);
    sent = λ i x h. elim (item_cases i (Submitted x) h) [ inl old ↦ sent_later i x (was.sent i x old) | inr new ↦ subst (λ k. SentOk p t' k x) (sym new.0) (sent_ok x new.1) ];
    came = λ i b r h. elim (came_cases i b r h) [ inl old ↦ came_later i b (was.came i b r old) | inr new ↦ subst (λ k. CameOk p t' k b) (sym new.0) (came_later g.node b (came_ok b r new.1)) ];
    by_newest = λ i ed b r h. elim (item_cases i (Came ed b r) h) [ inl old ↦ was.by_newest i ed b r old | inr new ↦ new_by_newest ed b r new.1 ];
    reply = λ i b r h. elim (came_cases i b (Some r) h) [ inl old ↦ reply_later i b r (was.reply i b r old) | inr new ↦ subst (λ k. ReplyOk p t' k b r) (sym new.0) (reply_ok b r new.1) ];
    decision = λ k d h. decided_later k d.body (elim (decision_cases k d h) [ inl old ↦ was.decision k d old | inr new ↦ subst (λ i. DecidedOk p t i d.body) (sym new.0) (decision_news d new.1).1 ]);
    refusal = λ k b r h. refusal_later k b r (elim (decision_cases k (record { body = b; outcome = Refused r }) h) [
      | inl old ↦ was.refusal k b r old
      | inr new ↦ subst (λ i. RefusalOk p t i b r) (sym new.0) (decision_news (record { body = b; outcome = Refused r }) new.1).2.1
    ]);
    origin = λ i b h by. elim (written_cases i b h (by_now i b by)) [
      | inl old ↦ origin_later i b (was.origin i b old (by_now i b by))
      | inr new ↦ subst (λ k. Origin p t' k b) (was.names_apart g.node i (p.sender b) (fresh_by b new) (by_now i b by)) (fresh_origin b new)
    ];
    unique = λ i b c hb hc byb byc e. unique_of i b c hb hc (by_now i b byb) (by_now i c byc) e;
    below = λ i b h by. below_of i b h (by_now i b by);
    packet = λ q h. elim (Contains-append_cases t.packets g.packets q (rw g.all_packets at h)) [ inl old ↦ packet_later q.from q.to q.load (was.packet q old) | inr new ↦ packet_later q.from q.to q.load (g.news.packet_ok q new) ];
    filed_first = λ i b r h. elim (came_cases i b r h) [
      | inl old ↦ filed_later i b (record { body = b; reply = r }) (was.filed_first i b r old)
      | inr new ↦ subst (λ k. filed p (t'.items k) (p.sender b) (p.number b) ≡ Some (record { body = b; reply = r })) (sym new.0) (filed_here b r new.1)
    ];
    posted = λ i. posted_now i;
    decided_first = λ k d h. elim (decision_cases k d h) [
      | inl old ↦ decided_before k d old
      | inr new ↦ subst (λ i. decided (t'.decisions i) d.body ≡ Some d.outcome) (sym new.0) (decided_here d new.1)
    ];
    groups_apart = groups_of;
    groups_below = λ i x n h at. elim (item_cases i (Submitted x) h) [
      | inl old ↦ let low = was.groups_below i x n old at in let up = g.group_up i in omega arith
      | inr new ↦ subst (λ k. n ≤ t'.group k) (sym new.0) ((item_news (Submitted x) new.1).0.groups n at).1
    ];
    answers_once = λ i j x y r byx byy ax ay. once i j x y r (by_now i x byx) (by_now j y byy) ax ay;
    order = order_of;
  }
