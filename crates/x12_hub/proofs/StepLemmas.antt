-- What a commit makes of the hub, and of what it keeps in memory.
use Rattle.std.specs.Prelude.{◌≡◌, ℕ, zero, suc, ◌+◌, length, List, [], ◌∷◌, ◌++◌, Bool, true, false, ◌&&◌, ◌||◌, not, ◌==◌, nat_lt, cond, map, option_map, Some, None, refl, filter, if◌then◌else◌, ◌≤◌, Ok, Vec}
use Rattle.std.specs.Ordering.{is_eq}
use Rattle.std.specs.BTreeSet.{BTreeSet, contains}
use mathlib.Core.Path.{sym, ap, subst, ◌∙◌}
use Rattle.std.proofs.lemmas.Bool.{le-leb}
use native.Mathlib.Omega.{arith}
use Rattle.x12_numbers.specs.declared.book.TheConstants.{MAX_CONTROL_NUMBER}
use Rattle.x12_envelopes.specs.declared.party.Party.{Party}
use Rattle.x12_envelopes.specs.declared.moment.Moment.{Moment}
use Rattle.x12_envelopes.specs.declared.header.Header.{Header}
use Rattle.x12_envelopes.specs.Header.{header_of}
use Rattle.x12_envelopes.specs.Envelope.{written}
use Rattle.x12_acks.specs.Reply.{refusal_of}
use Rattle.x12_profile.specs.X12.{x12}
use Rattle.x12_profile.proofs.FieldLemmas.{refusal_is}
use Rattle.x12_profile.specs.Interchange.{Bytes}
use Rattle.x12_hub.specs.declared.cached.Cached.{Cached}
use Rattle.x12_hub.specs.Hub.{Hub, Decision, Boxed, Refused, Mailbox, put_among, waits, decides, deposit_new, new_hub, taken, decided, dismissed, entries_of_others, mailbox_of}
use Rattle.x12_judge.specs.Agreement.{is_same_party}
use Rattle.x12_hub.specs.Stopped.{HoldsHub}
use Rattle.x12_hub.specs.Stored.{HubStored, WaitingItem, IsSoundHub, AllWaitRightly, decision_at, hub_of}
use Rattle.x12_hub.specs.Plan.{Decides, PutsBack, TakesOut, hub_stored_after, put_waiting}
use Rattle.std.specs.Vec.{vec_len}
use Rattle.std.specs.Global.{Global}
use Rattle.std.proofs.lemmas.Bool.Decides.{Decides-eqb}
use Rattle.x12_hub.specs.Record.{hub_start_of, mailbox_view}
use Rattle.x12_hub.specs.Mailbox.{is_waiting, key_order}
use Rattle.x12_hub.specs.Keeps.{HubCaches}
use Rattle.x12_hub.proofs.SoundLemmas.{boxed_waits, at_within}
use Rattle.x12_hub.proofs.MailboxLemmas.{Only, only_there, waits_there, holds_put, holds_take}
use Rattle.x12_hub.proofs.CollectLemmas.{was_there}
use Rattle.x12_numbers.proofs.Shelf.{nil_if_no_length}

-- the numbers of what waits, when some of it is left out
items_filter : (p : ℕ → Bool) (ws : List WaitingItem) → map (λ (w : WaitingItem). w.item) (filter (λ w. p w.item) ws) ≡ filter p (map (λ w. w.item) ws)
items_filter p [] = refl
items_filter p (w ∷ ws) = by (p w.item) (items_filter p ws)
  where
    by : (t : Bool) → map (λ (v : WaitingItem). v.item) (filter (λ v. p v.item) ws) ≡ filter p (map (λ v. v.item) ws) → map (λ (v : WaitingItem). v.item) (cond t (w ∷ filter (λ v. p v.item) ws) (filter (λ v. p v.item) ws)) ≡ cond t (w.item ∷ filter p (map (λ v. v.item) ws)) (filter p (map (λ v. v.item) ws))
    by true e = ap (λ is. w.item ∷ is) e
    by false e = e

items_append : (xs ys : List WaitingItem) → map (λ (w : WaitingItem). w.item) (xs ++ ys) ≡ map (λ w. w.item) xs ++ map (λ w. w.item) ys
items_append [] ys = refl
items_append (x ∷ xs) ys = ap (λ is. x.item ∷ is) (items_append xs ys)

pub items_put : (node item : ℕ) (ws : List WaitingItem) → map (λ (w : WaitingItem). w.item) (put_waiting node item ws) ≡ put_among item (map (λ w. w.item) ws)
items_put node item ws =
    items_append (filter (λ w. nat_lt w.item item) ws) (record { node = node; item = item } ∷ filter (λ w. nat_lt item w.item) ws)
    ∙ ap (λ is. is ++ item ∷ map (λ (w : WaitingItem). w.item) (filter (λ w. nat_lt item w.item) ws)) (items_filter (λ i. nat_lt i item) ws)
    ∙ ap (λ is. filter (λ i. nat_lt i item) (map (λ (w : WaitingItem). w.item) ws) ++ item ∷ is) (items_filter (λ i. nat_lt item i) ws)

-- an item is taken
module _ (me : Party) (s : HubStored) (node item : ℕ) (sound : IsSoundHub s) where
  pub taken_is : is_waiting s.waiting node item ≡ true → hub_of me (hub_stored_after (record { icn = s.icn; item = s.item; change = TakesOut item }) s) ≡ taken (hub_of me s) node item
  taken_is there =
      rw (was_there me s node item sound, there)
      (ap (λ (is : List ℕ). record { me = me; directory = s.directory; decisions = s.decisions; waiting = is; icn = s.icn; item = s.item }) (items_filter (λ i. not (i == item)) s.waiting))

  pub taken_held : is_waiting s.waiting node item ≡ true → HoldsHub (Some (taken (hub_of me s) node item)) (hub_stored_after (record { icn = s.icn; item = s.item; change = TakesOut item }) s)
  taken_held waits = let d = hub_stored_after (record { icn = s.icn; item = s.item; change = TakesOut item }) s in subst (λ (h : Hub). hub_of h.me d ≡ h) (taken_is waits) refl

  pub not_taken_is : is_waiting s.waiting node item ≡ false → hub_of me s ≡ taken (hub_of me s) node item
  not_taken_is absent = rw (was_there me s node item sound, absent) refl

pub keeps_taken : (k : Cached) (s : HubStored) (m : BTreeSet (ℕ × ℕ)) (node item : ℕ) → HubCaches k (hub_start_of s) → IsSoundHub s → contains key_order k.mailboxes (node, item) ≡ true → ((q : ℕ × ℕ) → contains key_order m q ≡ cond (is_eq (key_order (node, item) q)) false (contains key_order k.mailboxes q)) → HubCaches (record k { mailboxes = m }) (hub_start_of (hub_stored_after (record { icn = k.icn; item = k.item; change = TakesOut item }) s))
keeps_taken k s m node item keeps sound there taken =
    let right = waits_there s.decisions node item s.waiting sound.waits (sym (keeps.waiting node item) ∙ there) in
    record {
      icn = refl;
      item = refl;
      directory = keeps.directory;
      waiting = holds_take k.mailboxes m node item s.waiting keeps.waiting (only_there s.decisions node item s.waiting sound.waits right) taken;
    }

-- an item is put back
module _ (k : Cached) (s : HubStored) (m : BTreeSet (ℕ × ℕ)) (node item : ℕ) (keeps : HubCaches k (hub_start_of s)) (sound : IsSoundHub s) (b : Bytes) (was : decided s.decisions b ≡ Some (Boxed node item)) where
  pub put_back_is : (me : Party) → hub_of me (hub_stored_after (record { icn = s.icn; item = s.item; change = PutsBack node item }) s) ≡ waits (hub_of me s) item
  put_back_is me = ap (λ (is : List ℕ). record { me = me; directory = s.directory; decisions = s.decisions; waiting = is; icn = s.icn; item = s.item }) (items_put node item s.waiting)

  pub keeps_put_back : ((n i : ℕ) → contains key_order m (n, i) ≡ (((node == n) && (item == i)) || contains key_order k.mailboxes (n, i))) → HubCaches (record k { mailboxes = m }) (hub_start_of (hub_stored_after (record { icn = k.icn; item = k.item; change = PutsBack node item }) s))
  keeps_put_back put =
      let right = boxed_waits s b node item sound was in
      record {
        icn = refl;
        item = refl;
        directory = keeps.directory;
        waiting = holds_put k.mailboxes m node item s.waiting keeps.waiting (only_there s.decisions node item s.waiting sound.waits right.1) put;
      }

-- new bytes get the next item number
module _ (k : Cached) (s : HubStored) (keeps : HubCaches k (hub_start_of s)) (sound : IsSoundHub s) (b : Bytes) (new : decided s.decisions b ≡ None) where
  pub put_new_is : (me : Party) (node : ℕ) → hub_of me (hub_stored_after (record { icn = s.icn; item = s.item + 1; change = Decides b (Boxed node (s.item + 1)) }) s) ≡ waits (decides (hub_of me s) b (Boxed node (s.item + 1))) (s.item + 1)
  put_new_is me node = ap (λ (is : List ℕ). record { me = me; directory = s.directory; decisions = s.decisions ++ record { body = b; outcome = Boxed node (s.item + 1) } ∷ []; waiting = is; icn = s.icn; item = s.item + 1 }) (items_put node (s.item + 1) s.waiting)

  pub keeps_put_new : (m : BTreeSet (ℕ × ℕ)) (icn node item : ℕ) → item ≡ s.item + 1 → ((n i : ℕ) → contains key_order m (n, i) ≡ (((node == n) && (item == i)) || contains key_order k.mailboxes (n, i))) → HubCaches (record k { icn = icn; item = item; mailboxes = m }) (hub_start_of (hub_stored_after (record { icn = icn; item = item; change = Decides b (Boxed node item) }) s))
  keeps_put_new m icn node item next put = record {
    icn = refl;
    item = refl;
    directory = keeps.directory;
    waiting = holds_put k.mailboxes m node item s.waiting keeps.waiting (none_yet item next s.waiting sound.waits) put;
  }
    where
      none_yet : (item : ℕ) → item ≡ s.item + 1 → (ws : List WaitingItem) → AllWaitRightly s.decisions ws → Only node item ws
      none_yet item next [] all = tt
      none_yet item next (w ∷ ws) all = (λ same. absurd (beyond item next w.item (record { body = all.0.0; outcome = Boxed w.node w.item }) all.0.1 same), none_yet item next ws all.1)
        where
          beyond : (item : ℕ) → item ≡ s.item + 1 → (i : ℕ) (d : Decision) → decision_at s.decisions i ≡ Some d → i ≡ item → ⊥
          beyond item next i d at same = let within = at_within s.decisions i d at in let count = sound.count in absurd (omega arith)

-- new bytes for an unknown receiver are refused
pub refused_is : (me : Party) (at : Moment) (s : HubStored) (b : Bytes) (h : Header) (reply : Bytes) → header_of b ≡ Ok h → s.icn + 1 ≤ MAX_CONTROL_NUMBER → reply ≡ written (refusal_of 9 h me at (s.icn + 1)) → deposit_new x12 (hub_of me s) at b None ≡ Some (record { hub = hub_of me (hub_stored_after (record { icn = s.icn + 1; item = s.item + 1; change = Decides b (Refused reply) }) s); outcome = Refused reply })
refused_is me at s b h reply is left reply_is =
    rw (le-leb (s.icn + 1) MAX_CONTROL_NUMBER left, refusal_is b h is 9 me at (s.icn + 1), ← reply_is) refl

-- and records to which the refusal was written hold what the step leaves
pub refused_held : (me : Party) (at : Moment) (s : HubStored) (b : Bytes) (h : Header) (reply : Bytes) → header_of b ≡ Ok h → s.icn + 1 ≤ MAX_CONTROL_NUMBER → reply ≡ written (refusal_of 9 h me at (s.icn + 1))
    → HoldsHub (option_map (λ t. t.hub) (deposit_new x12 (hub_of me s) at b None)) (hub_stored_after (record { icn = s.icn + 1; item = s.item + 1; change = Decides b (Refused reply) }) s)
refused_held me at s b h reply is few r_is = rw (refused_is me at s b h reply is few r_is) refl

-- nobody is dismissed where nobody is enrolled
others_same : (party : Party) (ms : List Mailbox) → mailbox_of ms party ≡ None → entries_of_others party ms ≡ ms
others_same party [] none = refl
others_same party (m ∷ ms) none = by (is_same_party m.party party) none (others_same party ms)
  where
    by : (t : Bool) → (if t then Some m.node else mailbox_of ms party) ≡ None → (mailbox_of ms party ≡ None → entries_of_others party ms ≡ ms) → cond (not t) (m ∷ entries_of_others party ms) (entries_of_others party ms) ≡ m ∷ ms
    by true none rest = absurd cc
    by false none rest = ap (λ es. m ∷ es) (rest none)

pub dismissed_same : (h : Hub) (party : Party) → mailbox_of h.directory party ≡ None → h ≡ dismissed h party
dismissed_same h party none = ap (λ (es : List Mailbox). record { me = h.me; directory = es; decisions = h.decisions; waiting = h.waiting; icn = h.icn; item = h.item }) (sym (others_same party h.directory none))

-- a hub of records in which nothing was decided and nobody is enrolled is a new one
pub new_is : (me : Party) (s : HubStored) → IsSoundHub s → s.icn ≡ 0 → s.item ≡ 0 → s.directory ≡ [] → hub_of me s ≡ new_hub me
new_is me s sound icn item directory = by s.decisions s.waiting (sym sound.count ∙ item) sound.waits
  where
    by : (ds : List Decision) (ws : List WaitingItem) → length ds ≡ 0 → AllWaitRightly ds ws → record { me = me; directory = s.directory; decisions = ds; waiting = map (λ (w : WaitingItem). w.item) ws; icn = s.icn; item = s.item } ≡ new_hub me
    by (d ∷ ds) ws none all = absurd (omega arith)
    by [] (w ∷ ws) none all = (let within = at_within [] w.item (record { body = all.0.0; outcome = Boxed w.node w.item }) all.0.1 in absurd (nothing w.item (record { body = all.0.0; outcome = Boxed w.node w.item }) all.0.1))
      where
        nothing : (i : ℕ) (d : Decision) → decision_at [] i ≡ Some d → ⊥
        nothing zero d e = absurd cc
        nothing (suc i) d e = absurd cc
    by [] [] none all = rw (icn, item, directory) refl

map_nil : (xs : List (Party × ℕ)) → map mailbox_view xs ≡ [] → length xs ≡ 0
map_nil [] e = refl
map_nil (x ∷ xs) e = absurd cc

-- what a hub keeps in memory tells whether it is new
length_of : (v : Vec (Party × ℕ) Global) → length v.items ≡ vec_len v
length_of v = sym v.ok.0

pub new_tells : (me : Party) (s : HubStored) (k : Cached) → IsSoundHub s → HubCaches k (hub_start_of s) → k.icn ≡ 0 → k.item ≡ 0 → (t : Bool) → t ≡ (vec_len k.directory == 0) → (t ≡ true → hub_of me s ≡ new_hub me) × (hub_of me s ≡ new_hub me → t ≡ true)
new_tells me s k sound keeps icn item t is = (there, back)
  where
    there : t ≡ true → hub_of me s ≡ new_hub me
    there e =
        let none : vec_len k.directory ≡ 0 = (Decides-eqb (vec_len k.directory) 0).0 (sym is ∙ e) in
        let empty : k.directory.items ≡ [] = nil_if_no_length k.directory.items (length_of k.directory ∙ none) in
        new_is me s sound (sym keeps.icn ∙ icn) (sym keeps.item ∙ item) (sym keeps.directory ∙ ap (map mailbox_view) empty)

    back : hub_of me s ≡ new_hub me → t ≡ true
    back e =
        let none = map_nil k.directory.items (keeps.directory ∙ ap (λ (h : Hub). h.directory) e) in
        is ∙ (Decides-eqb (vec_len k.directory) 0).1 (sym (length_of k.directory) ∙ none)
