-- The tables of sound records of a station stand for these records.
use Rattle.std.proofs.Common.{◌≡◌, ◌<◌, ◌++◌, ◌+◌, ◌&&◌, ℕ, List, [], ◌∷◌, map, Bool, true, false, All, AllPairs, Option, Some, None, option_to_list, IsPermutation, refl, sym, ap, subst, ◌∙◌, arith}
use Rattle.std.specs.Bool.{beq}
use Rattle.std.specs.List.{AllByRecursion, IsDistinct, enumerate_from}
use Rattle.std.proofs.lemmas.Bool.{and_parts}
use Rattle.std.proofs.lemmas.List.Sorted.{IsPermutation-sym}
use Rattle.sqlite.specs.Effect.{Database}
use Rattle.sqlite.specs.Order.{Row}
use Rattle.sqlite.proofs.Callers.{one_permutation}
use Rattle.sql_rows.specs.Keyed.{with_id, by_key, RisesFrom}
use Rattle.sql_rows.proofs.Sorted.{by_key_is, by_key_from}
use Rattle.x12_acks.specs.Accepted.{AcceptedSet}
use Rattle.x12_envelopes.specs.declared.party.Party.{Party}
use Rattle.x12_judge.specs.Agreement.{TradingAgreement, is_same_party}
use Rattle.x12_judge.proofs.Shelf.{same_party}
use Rattle.x12_outbound.specs.declared.fate.Fate.{Fate}
use Rattle.x12_acks.proofs.ReplyGroupLemmas.{same_party_itself}
use Rattle.x12_station.proofs.SeqLemmas.{all_behind, pairs_head, pairs_tail}
use Rattle.x12_station.specs.Stored.{Stored, StoredSubmission, StoredSet, StoredArrival, IsSound, IsKeptAgreement}
use Rattle.x12_tables.proofs.PartyLemmas.{party_back}
use Rattle.x12_tables.specs.First.{first_row}
use Rattle.x12_tables.specs.Party.{IsWideParty}
use Rattle.x12_station_records.specs.StationContent.{pair_joined, agreements_of, pair_in, submission_in, fate_numbered, lenient_numbered, set_in, reply_in, arrival_in, posting_in, kept_numbers_in, content_of}
use Rattle.x12_station_records.specs.StationNumbers.{other_in, numbers_view, KeptNumbers, numbers_kept_of}
use Rattle.x12_station_records.specs.StationTables.{pair_of, AgreedPair, agreed_pairs, pair_row, by_icn, submission_row, fate_number, lenient_number, row_of_set, reply_value, arrival_row, by_seq, posting_row, other_value, numbers_row, AreWideParties, HoldsNumbersRow, HasTablesOf}
use Rattle.x12_station_records.specs.declared.station_numbers.NumbersRow.{NumbersRow}
use Rattle.x12_outbound.specs.declared.fate.Fate.TheVariants.{Pending, Accepted, Noted, Rejected}

-- Agreements.
-- the same partner, as leniently
pub both_same : (q p : Party) (l m : Bool) → is_same_party q p && beq l m ≡ true → (q ≡ p) × (l ≡ m)
both_same q p l m h = let parts = and_parts (is_same_party q p) (beq l m) h in (same_party q p parts.0, alike l m parts.1)
  where
    alike : (l m : Bool) → beq l m ≡ true → l ≡ m
    alike true true h = refl
    alike true false h = absurd cc
    alike false true h = absurd cc
    alike false false h = refl

-- no agreement here is with the partner
abbrev AreOthers : Party → List TradingAgreement → Type 0
AreOthers partner others = AllByRecursion (λ b. is_same_party partner b.partner ≡ false) others

-- a first pair is an agreement of its own
alone : (partner : Party) (lenient : Bool) (q : List ℕ × List ℕ) (others : List TradingAgreement) → AreOthers partner others → pair_joined (pair_of partner lenient q) others ≡ record { partner = partner; lenient = lenient; pairs = q ∷ [] } ∷ others
alone partner lenient q [] h = refl
alone partner lenient q (b ∷ others) h = rw h.0 refl

as_itself : (lenient : Bool) → beq lenient lenient ≡ true
as_itself true = refl
as_itself false = refl

-- the pairs of an agreement in front of what stands for others
in_front : (partner : Party) (lenient : Bool) (q : List ℕ × List ℕ) (pairs : List (List ℕ × List ℕ)) (more : List AgreedPair) (others : List TradingAgreement) → agreements_of more ≡ others → AreOthers partner others
    → agreements_of (map (pair_of partner lenient) (q ∷ pairs) ++ more) ≡ record { partner = partner; lenient = lenient; pairs = q ∷ pairs } ∷ others
in_front partner lenient q [] more others is h = rw is (alone partner lenient q others h)
in_front partner lenient q (r ∷ pairs) more others is h = rw (in_front partner lenient r pairs more others is h, same_party_itself partner, as_itself lenient) refl

pub agreements_back : (agreements : List TradingAgreement) → IsDistinct (λ (a b : TradingAgreement). is_same_party a.partner b.partner) agreements → All IsKeptAgreement agreements → agreements_of (agreed_pairs agreements) ≡ agreements
unfolding IsDistinct
agreements_back [] once kept = refl
agreements_back (a ∷ more) once kept = by (agreements_back more once.1 (all_behind IsKeptAgreement (a ∷ []) more kept)) a.pairs refl
  where
    by : agreements_of (agreed_pairs more) ≡ more → (pairs : List (List ℕ × List ℕ)) → a.pairs ≡ pairs → agreements_of (map (pair_of a.partner a.lenient) a.pairs ++ agreed_pairs more) ≡ a ∷ more
    by rest [] is = absurd ((kept 0 a (omega arith)).pairs is)
    by rest (q ∷ pairs) is = rw is (in_front a.partner a.lenient q pairs (agreed_pairs more) more rest once.0)

pub lenient_back : (lenient : Bool) → lenient_numbered (lenient_number lenient) ≡ lenient
lenient_back true = refl
lenient_back false = refl

pairs_back : (at : List (ℕ × AgreedPair)) → AllByRecursion (λ (p : AgreedPair). IsWideParty p.partner) (map (λ (x : ℕ × AgreedPair). x.1) at) → map pair_in (map (with_id pair_row) at) ≡ map (λ (x : ℕ × AgreedPair). x.1) at
pairs_back [] h = refl
pairs_back (x ∷ at) h = rw (party_back x.1.partner h.0, lenient_back x.1.lenient, pairs_back at h.1) refl

pairs_of_one : (partner : Party) (lenient : Bool) (pairs : List (List ℕ × List ℕ)) (more : List AgreedPair) → IsWideParty partner → AllByRecursion (λ (p : AgreedPair). IsWideParty p.partner) more → AllByRecursion (λ (p : AgreedPair). IsWideParty p.partner) (map (pair_of partner lenient) pairs ++ more)
pairs_of_one partner lenient [] more h all = all
pairs_of_one partner lenient (q ∷ pairs) more h all = (h, pairs_of_one partner lenient pairs more h all)

pub pairs_of_all : (agreements : List TradingAgreement) → AllByRecursion (λ (a : TradingAgreement). IsWideParty a.partner) agreements → AllByRecursion (λ (p : AgreedPair). IsWideParty p.partner) (agreed_pairs agreements)
pairs_of_all [] h = tt
pairs_of_all (a ∷ more) h = pairs_of_one a.partner a.lenient a.pairs (agreed_pairs more) h.0 (pairs_of_all more h.1)

-- Submissions.
icns_from : (n : ℕ) (rs : List StoredSubmission) → AllPairs (λ (r : StoredSubmission) q. r.icn < q.icn) rs → All (λ (r : StoredSubmission). n < r.icn) rs → RisesFrom n (map by_icn rs)
icns_from n [] pairs all = tt
icns_from n (r ∷ rs) pairs all = (all 0 r (omega arith), icns_from r.icn rs (pairs_tail (λ (r : StoredSubmission) q. r.icn < q.icn) r rs pairs) (pairs_head (λ (r : StoredSubmission) q. r.icn < q.icn) r rs pairs))

by_number : (rs : List StoredSubmission) (rows : List Row) → IsPermutation rows (map (with_id submission_row) (map by_icn rs)) → AllPairs (λ (r : StoredSubmission) q. r.icn < q.icn) rs → by_key rows ≡ map (with_id submission_row) (map by_icn rs)
by_number [] rows same rise = by_key_is submission_row [] rows (record { same = same; rise = tt })
by_number (r ∷ rs) rows same rise =
    by_key_from submission_row (by_icn r) (map by_icn rs) rows same (icns_from r.icn rs (pairs_tail (λ (r : StoredSubmission) q. r.icn < q.icn) r rs rise) (pairs_head (λ (r : StoredSubmission) q. r.icn < q.icn) r rs rise))

submissions_back : (rs : List StoredSubmission) → AllByRecursion (λ (r : StoredSubmission). IsWideParty r.receiver) rs → map submission_in (map (with_id submission_row) (map by_icn rs)) ≡ rs
submissions_back [] h = refl
submissions_back (r ∷ rs) h = rw (party_back r.receiver h.0, submissions_back rs h.1) refl

-- Transaction sets.
pub fate_back : (f : Fate) → fate_numbered (fate_number f) ≡ f
fate_back Pending = refl
fate_back Accepted = refl
fate_back Rejected = refl
fate_back Noted = refl

sets_back : (n : ℕ) (ts : List StoredSet) → map set_in (map (with_id row_of_set) (enumerate_from n ts)) ≡ ts
sets_back n [] = refl
sets_back n (t ∷ ts) = rw (fate_back t.fate, sets_back (n + 1) ts) refl

-- First arrivals and postings.
reply_back : (reply : Option (List ℕ)) → reply_in (reply_value reply) ≡ reply
reply_back None = refl
reply_back (Some reply) = refl

arrivals_back : (rs : List StoredArrival) → AllByRecursion (λ (r : StoredArrival). IsWideParty r.filed.partner) rs → map arrival_in (map (with_id arrival_row) (map by_seq rs)) ≡ rs
arrivals_back [] h = refl
arrivals_back (r ∷ rs) h = rw (party_back r.filed.partner h.0, reply_back r.filed.reply, arrivals_back rs h.1) refl

postings_back : (n : ℕ) (ps : List AcceptedSet) → AllByRecursion (λ (p : AcceptedSet). IsWideParty p.key.sender) ps → map posting_in (map (with_id posting_row) (enumerate_from n ps)) ≡ ps
postings_back n [] h = refl
postings_back n (p ∷ ps) h = rw (party_back p.key.sender h.0, postings_back (n + 1) ps h.1) refl

-- The row of numbers.
other_back : (other : Option Party) → AllByRecursion IsWideParty (option_to_list other) → other_in (other_value other) ≡ option_to_list other
other_back None h = refl
other_back (Some party) h = ap (λ p. p ∷ []) (party_back party h.0)

pub numbers_back : (n : NumbersRow) → AreWideParties n.owner → kept_numbers_in (with_id numbers_row (1, n)) ≡ numbers_view n
numbers_back n h = rw (party_back n.owner.party h.0, party_back n.owner.hub h.1.0, other_back n.owner.other h.1.1) refl

pub numbers_are : {version : ℕ} (n : KeptNumbers) (rows : List Row) → HoldsNumbersRow version n rows → kept_numbers_in (first_row rows) ≡ n
numbers_are n rows h =
    let one = one_permutation (with_id numbers_row (1, h.row)) rows (IsPermutation-sym _ _ h.are.same) in
    ap (λ rs. kept_numbers_in (first_row rs)) one ∙ numbers_back h.row h.parties ∙ h.said

pub content_is : {version : ℕ} (next : ℕ) (db : Database) (s : Stored) → HasTablesOf version next db s → IsSound s → content_of db.trees ≡ s
content_is next db s has sound =
    let holds = has.agreements in
    let qualifiers : AllByRecursion (λ (p : AgreedPair). IsWideParty p.partner) (map (λ (x : ℕ × AgreedPair). x.1) holds.at) = subst (AllByRecursion (λ (p : AgreedPair). IsWideParty p.partner)) (sym holds.pairs_are) (pairs_of_all s.agreements holds.parties) in
    let pairs : map pair_in (by_key (db.trees 1)) ≡ agreed_pairs s.agreements =
    ap (map pair_in) (by_key_is pair_row holds.at (db.trees 1) holds.are) ∙ pairs_back holds.at qualifiers ∙ holds.pairs_are in
    let agreements : agreements_of (map pair_in (by_key (db.trees 1))) ≡ s.agreements = ap agreements_of pairs ∙ agreements_back s.agreements sound.agreed_once sound.agreed in
    let submitted : map submission_in (by_key (db.trees 3)) ≡ s.submitted =
    ap (map submission_in) (by_number s.submitted (db.trees 3) has.submitted.same has.submitted.rise) ∙ submissions_back s.submitted has.submitted.parties in
    let sets : map set_in (by_key (db.trees 4)) ≡ s.sets = ap (map set_in) (by_key_is row_of_set (enumerate_from 1 s.sets) (db.trees 4) has.sets) ∙ sets_back 1 s.sets in
    let arrived : map arrival_in (by_key (db.trees 6)) ≡ s.arrived =
    ap (map arrival_in) (by_key_is arrival_row (map by_seq s.arrived) (db.trees 6) has.arrived.are) ∙ arrivals_back s.arrived has.arrived.parties in
    let postings : map posting_in (by_key (db.trees 8)) ≡ s.postings =
    ap (map posting_in) (by_key_is posting_row (enumerate_from 1 s.postings) (db.trees 8) has.postings.are) ∙ postings_back 1 s.postings has.postings.parties in
    let numbers = numbers_are (numbers_kept_of s) (db.trees 0) has.numbers in
    joined s (kept_numbers_in (first_row (db.trees 0))) (agreements_of (map pair_in (by_key (db.trees 1)))) (map submission_in (by_key (db.trees 3)))
    (map set_in (by_key (db.trees 4))) (map arrival_in (by_key (db.trees 6))) (map posting_in (by_key (db.trees 8)))
    numbers agreements submitted sets arrived postings
  where
    joined : (s : Stored) (n : KeptNumbers) (as1 : List TradingAgreement) (rs : List StoredSubmission) (ts : List StoredSet) (qs : List StoredArrival) (ps : List AcceptedSet)
        → n ≡ numbers_kept_of s → as1 ≡ s.agreements → rs ≡ s.submitted → ts ≡ s.sets → qs ≡ s.arrived → ps ≡ s.postings
        → ◌≡◌ {A = Stored} (record { origin = n.origin; book = n.book; seq = n.seq; handed = n.handed; agreements = as1; submitted = rs; sets = ts; arrived = qs; postings = ps }) s
    joined s n as1 rs ts qs ps a b c d e f = rw (a, b, c, d, e, f) refl
