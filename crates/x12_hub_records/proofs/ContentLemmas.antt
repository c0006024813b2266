-- The tables of some records stand for these records.
use Rattle.std.proofs.Common.{◌≡◌, ◌+◌, ℕ, List, [], ◌∷◌, map, refl, sym, ap, subst, ◌∙◌}
use Rattle.std.specs.List.{AllByRecursion, enumerate_from}
use Rattle.std.proofs.lemmas.List.Sorted.{IsPermutation-sym}
use Rattle.sqlite.specs.Effect.{Database}
use Rattle.sqlite.specs.Order.{Row}
use Rattle.sqlite.proofs.Callers.{one_permutation}
use Rattle.sql_rows.specs.Keyed.{with_id, by_key}
use Rattle.sql_rows.proofs.Sorted.{by_key_is}
use Rattle.x12_hub.specs.Hub.{Mailbox, Decision, HubOutcome, Boxed, Refused}
use Rattle.x12_hub.specs.Stored.{HubStored, WaitingItem, HaveItemNumbers, IsNumbered}
use Rattle.x12_tables.proofs.PartyLemmas.{party_back}
use Rattle.x12_tables.specs.First.{first_row}
use Rattle.x12_tables.specs.OneRow.{whole}
use Rattle.x12_tables.specs.Party.{IsWideParty}
use Rattle.x12_hub_records.specs.HubContent.{mailbox_in, decision_in, waiting_in, hub_numbers_shown, hub_numbers_in, hub_content_of}
use Rattle.x12_hub_records.specs.HubTables.{directory_row, IsWideEntry, decision_row, waiting_row, waiting_pair, hubnumber_row, HoldsHubNumbers, hub_numbers_of, HasHubTables}
use Rattle.x12_hub_records.specs.declared.hub_numbers.HubNumbers.{HubNumbers}

pub directory_back : (at : List (ℕ × Mailbox)) → AllByRecursion IsWideEntry (map (λ (x : ℕ × Mailbox). x.1) at) → map mailbox_in (map (with_id directory_row) at) ≡ map (λ (x : ℕ × Mailbox). x.1) at
directory_back [] h = refl
directory_back (x ∷ at) h = rw (party_back x.1.party h.0.0, directory_back at h.1) refl

decision_back : (n : ℕ) (b : List ℕ) (o : HubOutcome) → IsNumbered n o → decision_in (with_id decision_row (n, record { body = b; outcome = o })) ≡ record { body = b; outcome = o }
decision_back n b (Boxed node item) is = rw is refl
decision_back n b (Refused reply) is = refl

pub decisions_back : (n : ℕ) (ds : List Decision) → HaveItemNumbers n ds → map decision_in (map (with_id decision_row) (enumerate_from n ds)) ≡ ds
decisions_back n [] h = refl
decisions_back n (d ∷ ds) h = rw (decision_back n d.body d.outcome h.0, decisions_back (n + 1) ds h.1) refl

pub waiting_back : (ws : List WaitingItem) → map waiting_in (map (with_id waiting_row) (map waiting_pair ws)) ≡ ws
waiting_back [] = refl
waiting_back (w ∷ ws) = ap (λ more. w ∷ more) (waiting_back ws)

pub hub_numbers_back : (n : HubNumbers) → IsWideParty n.party → hub_numbers_shown (whole (with_id hubnumber_row (1, n))) ≡ n
hub_numbers_back n h = rw (party_back n.party h) refl

pub numbers_are : (n : HubNumbers) (rows : List Row) → HoldsHubNumbers n rows → hub_numbers_in (first_row rows) ≡ n
numbers_are n rows h =
    let one = one_permutation (with_id hubnumber_row (1, n)) rows (IsPermutation-sym _ _ h.are.same) in
    ap (λ rs. hub_numbers_in (first_row rs)) one ∙ hub_numbers_back n h.party

pub content_is : (last : ℕ) (db : Database) (s : HubStored) → HasHubTables last db s → HaveItemNumbers 1 s.decisions → hub_content_of db.trees ≡ s
content_is last db s has numbered =
    let holds = has.directory in
    let directory : map mailbox_in (by_key (db.trees 0)) ≡ s.directory =
    ap (map mailbox_in) (by_key_is directory_row holds.at (db.trees 0) holds.are)
    ∙ directory_back holds.at (subst (AllByRecursion IsWideEntry) (sym holds.entries_are) holds.wide) ∙ holds.entries_are in
    let decisions : map decision_in (by_key (db.trees 2)) ≡ s.decisions =
    ap (map decision_in) (by_key_is decision_row (enumerate_from 1 s.decisions) (db.trees 2) has.decisions) ∙ decisions_back 1 s.decisions numbered in
    let waiting : map waiting_in (by_key (db.trees 4)) ≡ s.waiting =
    ap (map waiting_in) (by_key_is waiting_row (map waiting_pair s.waiting) (db.trees 4) has.waiting) ∙ waiting_back s.waiting in
    let numbers = numbers_are (hub_numbers_of s) (db.trees 5) has.numbers in
    joined s (map mailbox_in (by_key (db.trees 0))) (map decision_in (by_key (db.trees 2))) (map waiting_in (by_key (db.trees 4))) (hub_numbers_in (first_row (db.trees 5))) directory decisions waiting numbers
  where
    joined : (s : HubStored) (ms : List Mailbox) (ds : List Decision) (ws : List WaitingItem) (n : HubNumbers) → ms ≡ s.directory → ds ≡ s.decisions → ws ≡ s.waiting → n ≡ hub_numbers_of s
        → ◌≡◌ {A = HubStored} (record { party = n.party; directory = ms; decisions = ds; waiting = ws; icn = n.icn; item = n.item }) s
    joined s ms ds ws n a b c d = rw (a, b, c, d) refl
