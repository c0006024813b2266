-- Each step of a station is what one event may add.
use Rattle.x12_numbers.specs.declared.book.TheConstants.{MAX_CONTROL_NUMBER}
use Rattle.x12_numbers.specs.Book.{is_rising, latest_number}
use Rattle.std.specs.Prelude.{◌≡◌, ◌≢◌, ℕ, ◌+◌, ◌<◌, ◌≤◌, List, [], ◌∷◌, ◌++◌, Bool, true, false, ◌&&◌, if◌then◌else◌, Option, Some, None, Contains, refl, ◌⊎◌, option_map, option_to_list, IsTrue, All, nat_lt, nat_le, length}
use mathlib.Core.Path.{sym, ap, subst, ◌∙◌}
use mathlib.Core.Logic.{inl, inr}
use native.Mathlib.Omega.{arith}
use Rattle.std.proofs.lemmas.List.{append-nil}
use Rattle.std.proofs.lemmas.List.Elements.{Contains-append_cases, Contains-append_right, All-contains}
use Rattle.std.proofs.lemmas.Bool.Decides.{Decides-ltb, nat_tests}
use Rattle.std.proofs.lemmas.Bool.{leb-true, and_parts}
use Rattle.x12_envelopes.specs.declared.moment.Moment.{Moment}
use Rattle.x12_profile.specs.declared.edition.Edition.TheVariants.{First, Second, Third}
use Rattle.x12_profile.specs.Edition.{Marks, edition_at, no_marks}
use Rattle.x12_profile.specs.Interchange.{Bytes, Book, Needs, book_for, is_within}
use Rattle.x12_profile.specs.Profile.{Profile}
use Rattle.x12_profile.specs.Laws.{Laws, IsReply, IsTa1Refusal}
use Rattle.x12_station.specs.History.{HasCame, Item, Submitted, Came, KeptArrival, filed, submissions}
use Rattle.x12_station.specs.Station.{Station, edition_next}
use Rattle.x12_station.specs.Schedule.{schedule_of}
use Rattle.x12_outbound.specs.Schedule.{tick_seen}
use Rattle.x12_core.specs.Packet.{carried as body_of, Packet, Deposit, Taken}
use Rattle.x12_core.specs.declared.packet.Site.{Site}
use Rattle.x12_core.specs.Node.{IsStation, party_of_node}
use Rattle.x12_world.specs.Network.{Network, parties_in}
use Rattle.x12_world.specs.Nodes.{site_of}
use Rattle.x12_world.specs.World.{World, StationAt}
use Rattle.x12_station.proofs.ListLemmas.{contains_option, if_cases, contains_filter, contains_map}
use Rattle.x12_numbers.proofs.Shelf.{none_in_nil, contains_cons, contains_head, bytes_eq_tells, if_some_parts, some_inj}
use Rattle.x12_station.specs.StationRefusal.{prepared_refusal}
use Rattle.x12_world.proofs.RefusalLemmas.{may_submit_known, is_none_known}
use Rattle.x12_station.proofs.HistoryLemmas.{in_submissions, filed_found}
use Rattle.x12_world.proofs.Traces.{Trace, IsBoxedFor, IsCarried, IsBy, IsSentIn, IsWritten, CameNews, ItemNews, FreshNews, LoadOk, Reason, submits, replies, notes, newest, PacketOk}
use Rattle.x12_world.proofs.WorldLemmas.{trace_of, Does, Sound, read, items_in, last_in, group_in, named_party}
use Rattle.x12_core.specs.Effect.{deposits}
use Rattle.x12_station.specs.StationStep.{open_submissions, StationStep, may_submit, entered, filed_now, arrive_new, arrive_other, arrive_at, arrive, is_open, tick}

-- the numbers that a reply takes
pub icn_taken : (book : Book) (needs : Needs) → needs.reply ≡ true → (book_for book needs).interchange ≡ book.interchange + 1
icn_taken book needs e = rw e

pub gcn_taken : (book : Book) (needs : Needs) → needs.group ≡ true → 1 ≤ (book_for book needs).group
gcn_taken book needs e = rw e (omega arith)

pub gcn_up : (book : Book) (needs : Needs) → book.group ≤ (book_for book needs).group
gcn_up book needs = by needs.group
  where
    by : (t : Bool) → book.group ≤ (if t then book.group + 1 else book.group)
    by true = omega arith
    by false = omega arith

-- what comes next to a station without marks is read by the newest edition
is_newest : (n : ℕ) → edition_at no_marks (n + 1) ≡ newest
unfolding edition_at
is_newest n = ap (λ b. if b then First else (if b then Second else Third)) (behind n)
  where
    behind : (n : ℕ) → nat_le (n + 1) 0 ≡ false
    behind n = grind (arith, nat_tests)

-- rising numbers are above the first and up to the last
pub rising : (n : ℕ) (gs : List ℕ) → IsTrue (is_rising n gs) → (n ≤ latest_number n gs) × ((g : ℕ) → Contains gs g → (n < g) × (g ≤ latest_number n gs))
rising n [] h = (omega arith, λ g at. none_in_nil g at)
rising n (k ∷ gs) h =
    let parts = and_parts (nat_lt n k && nat_le k MAX_CONTROL_NUMBER) (is_rising k gs) h in
    let up : n < k = (Decides-ltb n k).0 (and_parts (nat_lt n k) (nat_le k MAX_CONTROL_NUMBER) parts.0).0 in
    let later = rising k gs parts.1 in
    let most = later.0 in (
      omega arith,
      λ g at. elim (contains_cons g k gs at) [
        | inl e ↦ subst (λ z. (n < z) × (z ≤ latest_number k gs)) e (up, most)
        | inr more ↦ let rest = later.1 g more in let above = rest.0 in (omega arith, rest.1)
      ],
    )

-- packets that report items carry nothing, and those of a station are what it deposits
pub record OnlyTaken (first : List Packet) : Type 0 where
  pub each : (q : Packet) → Contains first q → (n : ℕ) × (q.load ≡ Taken n)

module _ (p : Profile) (t : Trace) (i : Site) (home : t.home i.node ≡ i.hub) (first : List Packet) (only : OnlyTaken first) (bs : List Bytes) (fresh : Option Bytes)
    (named : (b : Bytes) → Contains bs b → IsBy p t i.node b) (known : (b : Bytes) → Contains bs b → IsCarried t b ⊎ (fresh ≡ Some b)) where
  deposited : (q : Packet) → Contains (first ++ deposits i bs) q → ((n : ℕ) × (q.load ≡ Taken n)) ⊎ ((b : Bytes) × Contains bs b × (q ≡ record { from = i.node; to = i.hub; load = Deposit b }))
  deposited q h = elim (Contains-append_cases first (deposits i bs) q h) [
    | inl a ↦ inl (only.each q a)
    | inr d ↦ let from = contains_map (λ b. record { from = i.node; to = i.hub; load = Deposit b }) bs q d in inr (from.0, from.1, sym from.2)
  ]

  pub station_sends : (q : Packet) (b : Bytes) (j : ℕ) → Contains (first ++ deposits i bs) q → body_of q.load ≡ Some b → IsBy p t j b → IsWritten t b ⊎ (fresh ≡ Some b)
  station_sends q b j h holds by = elim (deposited q h) [
    | inl a ↦ let no : body_of (Taken a.0) ≡ Some b = rw a.1 at holds in absurd cc
    | inr d ↦ let is : Some d.0 ≡ Some b = ap (λ z. body_of z.load) (sym d.2) ∙ holds in subst (λ z. IsWritten t z ⊎ (fresh ≡ Some z)) (some_inj is) (elim (known d.0 d.1) [ inl old ↦ inl (inl old) | inr new ↦ inr new ])
  ]

  pub station_packets : (q : Packet) → Contains (first ++ deposits i bs) q → PacketOk p t q
  station_packets q h = elim (deposited q h) [
    | inl a ↦ subst (LoadOk p t q.from q.to) (sym a.1) tt
    | inr d ↦ subst (PacketOk p t) (sym d.2) (named d.0 d.1, home)
  ]

pub sent_in_deposits : (i : Site) (first : List Packet) (b : Bytes) → IsSentIn (first ++ deposits i (b ∷ [])) b
sent_in_deposits i first b = (record { from = i.node; to = i.hub; load = Deposit b }, Contains-append_right first (deposits i (b ∷ [])) _ (contains_head _ []), refl)

-- an arrival under a node's name was sent before, and under a station's name a hub boxed it for the node where it comes
pub record Brought (p : Profile) (t : Trace) (j : ℕ) (b : Bytes) : Type 0 where
  pub carried : (k : ℕ) → IsBy p t k b → IsCarried t b
  pub routed : (k : ℕ) → IsBy p t k b → t.hub k ≡ false → IsBoxedFor t j b

module _ (p : Profile) (laws : Laws p) (net : Network) (plain : All (λ party. IsTrue (p.is_plain party)) (parties_in net)) (w : World) (was : Sound p net w)
    (i : ℕ) (s : Station) (at : StationAt w i s) where
  abbrev t : Trace
  t = trace_of w

  abbrev site : Site
  site = site_of w.nodes i

  items_is : t.items i ≡ s.items
  items_is = ap (read items_in []) at

  last_is : t.last i ≡ s.book.interchange
  last_is = ap (read last_in 0) at

  group_is : t.group i ≡ s.book.group
  group_is = ap (read group_in 0) at

  name_is : t.names i ≡ Some s.me
  name_is = ap (option_map party_of_node) at

  plain_me : IsTrue (p.is_plain s.me)
  plain_me = All-contains (λ party. IsTrue (p.is_plain party)) (parties_in net) s.me plain (named_party p net w was i s.me name_is)

  in_items : (c : Item) → Contains s.items c → Contains (t.items i) c
  in_items c h = rw items_is h

  in_came : (b : Bytes) (k : Option Bytes) → HasCame s.items b k → HasCame (t.items i) b k
  in_came b k h = (h.0, in_items (Came h.0 b k) h.1)

  -- what the station has sent before
  abbrev Known : List Bytes → Option Bytes → Type 0
  Known bs fresh = (b : Bytes) → Contains bs b → IsBy p t i b × (IsCarried t b ⊎ (fresh ≡ Some b))

  station_does : (s' : Station) (new : Option Item) (fresh : Option Bytes) (first : List Packet) (bs : List Bytes) → OnlyTaken first
      → s'.me ≡ s.me → s'.hubs ≡ s.hubs → s'.marks ≡ s.marks → s'.items ≡ s.items ++ option_to_list new → s.book.interchange ≤ s'.book.interchange → s.book.group ≤ s'.book.group
      → ItemNews p t i s'.book.group fresh (first ++ deposits site bs) new → FreshNews p t i s'.book.interchange fresh → ((f : Bytes) → fresh ≡ Some f → Reason p t i new None f) → Known bs fresh
      → Does p t i (IsStation s) (IsStation s') (first ++ deposits site bs)
  station_does s' new fresh first bs only me hubs marks items icn gcn item written reason known = record {
    new = new;
    decision = None;
    fresh = fresh;
    party = me;
    kind = (hubs, marks);
    items = items;
    last = icn;
    group = gcn;
    decisions = refl;
    at_hub = λ z. refl;
    one = inr refl;
    news = record {
      item = item;
      made = tt;
      written = written;
      reason = reason;
      sends = station_sends p t site refl first only bs fresh (λ b h. (known b h).0) (λ b h. (known b h).1);
      packet_ok = station_packets p t site refl first only bs fresh (λ b h. (known b h).0) (λ b h. (known b h).1);
    };
  }

  -- a step that writes nothing and files nothing
  pub quiet : (s' : Station) (first : List Packet) (bs : List Bytes) → OnlyTaken first → s'.me ≡ s.me → s'.hubs ≡ s.hubs → s'.marks ≡ s.marks → s'.items ≡ s.items → s'.book ≡ s.book → ((b : Bytes) → Contains bs b → IsBy p t i b × IsCarried t b)
      → Does p t i (IsStation s) (IsStation s') (first ++ deposits site bs)
  quiet s' first bs only me hubs marks items book known =
      station_does s' None None first bs only me hubs marks (items ∙ sym (append-nil s.items)) (rw book (omega arith)) (rw book (omega arith)) tt tt (λ f e. absurd cc) (λ b h. let k = known b h in (k.0, inl k.1))

  fresh_alone : (r : Bytes) → IsBy p t i r → Known (r ∷ []) (Some r)
  fresh_alone r by b h = elim (contains_cons b r [] h) [ inl e ↦ (subst (IsBy p t i) e by, inr (ap Some e)) | inr past ↦ none_in_nil b past ]

  -- a submission
  pub submit_does : (x : Bytes) → may_submit p s x ≡ true → Does p t i (IsStation s) (IsStation (entered p s x)) ([] ++ deposits site (x ∷ []))
  submit_does x test =
      let may = may_submit_known p s x (is_none_known (prepared_refusal p s x) test) in
      let a = and_parts (is_rising s.book.interchange (p.number x ∷ [])) (is_rising s.book.group (p.groups x)) may.numbers in
      let number = rising s.book.interchange (p.number x ∷ []) a.0 in
      let above : s.book.interchange < p.number x = (number.1 (p.number x) (contains_head (p.number x) [])).0 in
      let rise = rising s.book.group (p.groups x) a.1 in
      let up = rise.0 in
      let by : IsBy p t i x = name_is ∙ ap Some (sym may.from) in
      station_does (entered p s x) (Some (Submitted x)) (Some x) [] (x ∷ []) (record { each = λ q h. none_in_nil q h }) refl refl refl refl (omega arith) up
      (record { submission = may.submission; from = s.book.group; rises = a.1; groups = λ g h. let r = rise.1 g h in (rw group_is r.0, r.1) }, refl, sent_in_deposits site [] x)
      (by, rw last_is above, omega arith)
      (λ f e. let same : x ≡ f = cc in submits (ap (λ z. Some (Submitted z)) same))
      (fresh_alone x by)

  module _ (m : Moment) (b : Bytes) (brought : Brought p t i b) (header : IsTrue (p.has_header b)) (first : List Packet) (only : OnlyTaken first) where
    came : filed p s.items (p.sender b) (p.number b) ≡ None → CameNews p t i (edition_next s) b
    came none = record { by_newest = ap (λ (k : Marks). edition_at k (length s.items + 1)) (was.marks i s at) ∙ is_newest (length s.items); ok = record { header = header; carried = brought.carried; routed = brought.routed }; first = rw items_is none }

    abbrev DoesStep : StationStep → Type 0
    DoesStep step = Does p t i (IsStation s) (IsStation step.station) (first ++ deposits site step.sends)

    -- a first arrival that gets no reply
    silent_does : filed p s.items (p.sender b) (p.number b) ≡ None → DoesStep (record { station = filed_now p s b None s.book; sends = [] })
    silent_does none = station_does (filed_now p s b None s.book) (Some (Came (edition_next s) b None)) None first [] only refl refl refl refl (omega arith) (omega arith) (came none) tt (λ f e. absurd cc) (λ c h. none_in_nil c h)

    -- a first arrival, and its reply
    reply_does : filed p s.items (p.sender b) (p.number b) ≡ None → (book : Book) → book.interchange ≡ s.book.interchange + 1 → s.book.group ≤ book.group → (IsTrue (p.needs (edition_next s) s.me s.agreements b).group → 1 ≤ book.group) → IsTrue (p.needs (edition_next s) s.me s.agreements b).reply → IsTrue (is_within book)
        → DoesStep (record { station = filed_now p s b (Some (p.reply (edition_next s) s.me s.agreements m book b)) book; sends = p.reply (edition_next s) s.me s.agreements m book b ∷ [] })
    reply_does none book icn gcn group due within =
        let r : Bytes = p.reply (edition_next s) s.me s.agreements m book b in
        let reply : IsReply p s.me s.agreements b r = record { edition = edition_next s; at = m; book = book; header = header; plain = plain_me; due = due; icn_taken = omega arith; gcn_taken = group; within = within; bytes = refl } in
        let number = laws.reply.number s.me s.agreements b r reply in
        let last = last_is in
        let by : IsBy p t i r = name_is ∙ ap Some (sym (laws.reply.from s.me s.agreements b r reply)) in
        station_does (filed_now p s b (Some r) book) (Some (Came (edition_next s) b (Some r))) (Some r) first (r ∷ []) only refl refl refl refl (omega arith) gcn
        (came none, record { me = s.me; at = name_is; agreements = s.agreements; reply = reply }, refl, sent_in_deposits site first r)
        (by, omega arith, omega arith)
        (λ f e. let same : r ≡ f = cc in replies b (edition_next s, ap (λ z. Some (Came (edition_next s) b (Some z))) same))
        (fresh_alone r by)

    -- other bytes under a filed number are no node's
    no_node : (f : KeptArrival) → filed p s.items (p.sender b) (p.number b) ≡ Some f → f.body ≢ b → (k : ℕ) → ¬ (IsBy p t k b)
    no_node f found other k by =
        let is = filed_found p s.items (p.sender b) (p.number b) f found in
        let byf : IsBy p t k f.body = by ∙ ap Some (sym is.1) in
        let came_f = was.holds.came i f.body f.reply (in_came f.body f.reply is.0) in
        other (was.holds.unique k f.body b (inl (came_f.carried k byf)) (inl (brought.carried k by)) byf by is.2)

    note_does : (f : KeptArrival) → filed p s.items (p.sender b) (p.number b) ≡ Some f → f.body ≢ b → (book : Book) → book.interchange ≡ s.book.interchange + 1 → s.book.group ≤ book.group → IsTrue (is_within book)
        → DoesStep (record { station = record s { book = book }; sends = p.refusal 25 s.me m book.interchange b ∷ [] })
    note_does f found other book icn gcn within =
        let r : Bytes = p.refusal 25 s.me m book.interchange b in
        let low : book.interchange ≤ MAX_CONTROL_NUMBER = leb-true book.interchange MAX_CONTROL_NUMBER (and_parts (nat_le book.interchange MAX_CONTROL_NUMBER) (nat_le book.group MAX_CONTROL_NUMBER) within).0 in
        let refusal : IsTa1Refusal p s.me b r = record { note = 25; known = inr refl; at = m; icn = book.interchange; header = header; plain = plain_me; taken = omega arith; within = low; bytes = refl } in
        let number = laws.refusal.number s.me b r refusal in
        let last = last_is in
        let by : IsBy p t i r = name_is ∙ ap Some (sym (laws.refusal.from s.me b r refusal)) in
        station_does (record s { book = book }) None (Some r) first (r ∷ []) only refl refl refl (sym (append-nil s.items)) (omega arith) gcn tt
        (by, omega arith, omega arith)
        (λ g e. let same : r ≡ g = cc in notes b s.me (no_node f found other) (subst (IsTa1Refusal p s.me b) same refusal))
        (fresh_alone r by)

    -- the kept reply was sent before
    same_does : (f : KeptArrival) → filed p s.items (p.sender b) (p.number b) ≡ Some f → DoesStep (record { station = s; sends = option_to_list f.reply })
    same_does f found = quiet s first (option_to_list f.reply) only refl refl refl refl refl (λ r h.
        let kept : f.reply ≡ Some r = contains_option f.reply r h in
        let is = filed_found p s.items (p.sender b) (p.number b) f found in
        let ok = was.holds.reply i f.body r (in_came f.body (Some r) (subst (λ k. HasCame s.items f.body k) kept is.0)) in
        (ok.at ∙ ap Some (sym (laws.reply.from ok.me ok.agreements f.body r ok.reply)), ok.carried))

    arrive_new_does : filed p s.items (p.sender b) (p.number b) ≡ None → (step : StationStep) → arrive_new p s m b (book_for s.book (p.needs (edition_next s) s.me s.agreements b)) ≡ Some step → DoesStep step
    arrive_new_does none step e =
        let book : Book = book_for s.book (p.needs (edition_next s) s.me s.agreements b) in
        let r : Bytes = p.reply (edition_next s) s.me s.agreements m book b in
        elim (if_cases (p.needs (edition_next s) s.me s.agreements b).reply (if is_within book then Some (record { station = filed_now p s b (Some r) book; sends = r ∷ [] }) else None)
        (Some (record { station = filed_now p s b None s.book; sends = [] })) (Some step) e) [
          | inl due ↦
              let ok = if_some_parts (is_within book) (Some (record { station = filed_now p s b (Some r) book; sends = r ∷ [] })) step due.1 in
              subst DoesStep (some_inj ok.1) (reply_does none book (icn_taken s.book (p.needs (edition_next s) s.me s.agreements b) due.0) (gcn_up s.book (p.needs (edition_next s) s.me s.agreements b)) (gcn_taken s.book (p.needs (edition_next s) s.me s.agreements b)) due.0 ok.0)
          | inr none_due ↦ subst DoesStep (some_inj none_due.1) (silent_does none)
        ]

    arrive_other_does : (f : KeptArrival) → filed p s.items (p.sender b) (p.number b) ≡ Some f → f.body ≢ b → (step : StationStep) → arrive_other p s m b (book_for s.book (record { reply = true; group = false })) ≡ Some step → DoesStep step
    arrive_other_does f found other step e =
        let book : Book = book_for s.book (record { reply = true; group = false }) in
        let r : Bytes = p.refusal 25 s.me m book.interchange b in
        elim (if_cases (p.is_silent b) (Some (record { station = s; sends = [] })) (if is_within book then Some (record { station = record s { book = book }; sends = r ∷ [] }) else None) (Some step) e) [
          | inl quiet_one ↦ subst DoesStep (some_inj quiet_one.1) (quiet s first [] only refl refl refl refl refl (λ c h. none_in_nil c h))
          | inr loud ↦
              let ok = if_some_parts (is_within book) (Some (record { station = record s { book = book }; sends = r ∷ [] })) step loud.1 in
              subst DoesStep (some_inj ok.1) (note_does f found other book refl (omega arith) ok.0)
        ]

    arrive_at_does : (found : Option KeptArrival) → filed p s.items (p.sender b) (p.number b) ≡ found → (step : StationStep) → arrive_at p s m b found ≡ Some step → DoesStep step
    arrive_at_does None is step e = arrive_new_does is step e
    arrive_at_does (Some f) is step e =
        elim (bytes_eq_tells f.body b) [
          | inl same ↦ subst DoesStep (some_inj (rw (same.0) at e)) (same_does f is)
          | inr apart ↦ arrive_other_does f is apart.1 step (rw (apart.0) at e)
        ]

  -- an arrival
  pub arrive_does : (m : Moment) (b : Bytes) → Brought p t i b → (first : List Packet) → OnlyTaken first → (step : StationStep) → arrive p s m b ≡ Some step
      → Does p t i (IsStation s) (IsStation step.station) (first ++ deposits site step.sends)
  arrive_does m b brought first only step e =
      let ok = if_some_parts (p.has_header b) (arrive_at p s m b (filed p s.items (p.sender b) (p.number b))) step e in
      arrive_at_does m b brought ok.0 first only (filed p s.items (p.sender b) (p.number b)) refl step ok.1

  -- a tick sends submissions alone
  pub tick_does : (now : ℕ) → Does p t i (IsStation s) (IsStation (tick p s now).station) ([] ++ deposits site (tick p s now).sends)
  tick_does now = quiet (tick p s now).station [] (tick p s now).sends (record { each = λ q h. none_in_nil q h }) refl refl refl refl refl (λ x h.
      let due = contains_filter (λ y. nat_le (schedule_of s.sendings (p.number y)).due (tick_seen s.tick now)) (open_submissions p s) x h in
      let open_one = contains_filter (is_open p s) (submissions s.items) x due in
      let ok = was.holds.sent i x (in_items (Submitted x) (in_submissions s.items x open_one)) in
      (ok.by, ok.carried))
