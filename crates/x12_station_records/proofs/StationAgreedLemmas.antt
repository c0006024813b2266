-- Agreements put together from their pairs, from the first pair on.
use Rattle.std.proofs.Common.{if◌then◌else◌, ◌≡◌, ◌∙◌, ◌++◌, ◌&&◌, ℕ, pos, true, false, Bool, List, [], ◌∷◌, codes, length, map, All, Result, Ok, Err, OnOk, refl, sym, ap, subst, inl, inr, arith, append-nil}
use Rattle.std.specs.List.{AllByRecursion, IsDistinct, list_any}
use Rattle.std.proofs.lemmas.Bool.{cases_Bool, or_parts}
use Rattle.std.specs.Bool.{beq}
use Rattle.std.proofs.lemmas.List.{map-append}
use Rattle.std.proofs.lemmas.List.Elements.{All-nil, All-push}
use Rattle.sqlite.specs.Command.TheVariants.{Select}
use Rattle.sqlite.specs.Listing.{understood, reads_listing}
use Rattle.sqlite.specs.declared.types.Value.TheVariants.{Int, Blob}
use Rattle.sqlite.specs.Order.{Row}
use Rattle.sqlite.specs.State.{State, Shown}
use Rattle.sqlite.specs.Term.{Term, col}
use Rattle.sqlite.proofs.Callers.{IsPlain, command_of}
use Rattle.sqlite_tied.specs.Compute.{everything}
use Rattle.sql_rows.proofs.Selects.{one_table}
use Rattle.sql_rows.specs.Query.{IsQuery}
use Rattle.sql_rows.proofs.Queries.{select_asks}
use Rattle.x12_envelopes.specs.declared.party.Party.{Party}
use Rattle.x12_judge.specs.Agreement.{TradingAgreement, agreement_view, is_same_party}
use Rattle.x12_judge.specs.declared.agreement.Agreement.{Agreement}
use Rattle.x12_station.proofs.SeqLemmas.{all_front, all_behind}
use Rattle.x12_station.specs.Stored.{Stored, IsSound, IsKeptAgreement}
use Rattle.x12_numbers.proofs.Shelf.{all_and_one}
use Rattle.x12_tables.proofs.PartyLemmas.{party_back}
use Rattle.x12_tables.specs.Party.{bytes_of_party, IsWideParty}
use Rattle.x12_station_records.proofs.StationContentLemmas.{agreements_back, pairs_of_all, lenient_back, both_same}
use Rattle.x12_station_records.proofs.StationListLemmas.{but_last}
use Rattle.x12_station_records.proofs.StationListings.{by_at, lists_all}
use Rattle.x12_station_records.proofs.StationOnceLemmas.{turned}
use Rattle.x12_station_records.specs.StationAgreed.{of_one_pair, with_pair, AreKept, pair_shown}
use Rattle.x12_station_records.specs.StationContent.{pair_joined, agreements_of}
use Rattle.x12_station_records.specs.StationPart.{is_same_pair}
use Rattle.x12_station_records.specs.StationSchema.{station_schema}
use Rattle.x12_station_records.specs.StationTables.{AgreedPair, pair_of, HasTables, pair_row, lenient_number}

-- One pair behind the others.
-- an agreement is with this partner, and as lenient
abbrev pub is_like : TradingAgreement → Party → Bool → Bool
is_like a partner lenient = is_same_party a.partner partner && beq a.lenient lenient

-- a pair is the last one of the last agreement, if that is with its partner and as lenient; if not, it
-- is behind it as an agreement of its own
abbrev pub pair_behind : AgreedPair → List TradingAgreement → List TradingAgreement
pair_behind p [] = of_one_pair p.partner p.lenient (p.functional, p.set) ∷ []
pair_behind p (a ∷ []) = if is_like a p.partner p.lenient then with_pair a (p.functional, p.set) ∷ [] else a ∷ of_one_pair p.partner p.lenient (p.functional, p.set) ∷ []
pair_behind p (a ∷ b ∷ more) = a ∷ pair_behind p (b ∷ more)

-- one in front and one behind
both_ends : (q p : AgreedPair) (agreements : List TradingAgreement) → pair_joined q (pair_behind p agreements) ≡ pair_behind p (pair_joined q agreements)
both_ends q p [] = elim (cases_Bool (is_same_party q.partner p.partner && beq q.lenient p.lenient)) [
  | inl yes1 ↦ (let same = both_same q.partner p.partner q.lenient p.lenient yes1 in rw yes1 (rw (same.0, same.1) refl))
  | inr no1 ↦ rw no1 refl
]
both_ends q p (a ∷ []) = elim (cases_Bool (is_same_party q.partner a.partner && beq q.lenient a.lenient)) [
  | inl yes1 ↦ elim (cases_Bool (is_like a p.partner p.lenient)) [ inl yes2 ↦ rw (yes1, yes2) (rw yes1 refl) | inr no2 ↦ rw (yes1, no2) (rw yes1 refl) ]
  | inr no1 ↦ elim (cases_Bool (is_like a p.partner p.lenient)) [ inl yes2 ↦ rw (no1, yes2) (rw no1 refl) | inr no2 ↦ rw (no1, no2) (rw no1 refl) ]
]
both_ends q p (a ∷ b ∷ more) = elim (cases_Bool (is_same_party q.partner a.partner && beq q.lenient a.lenient)) [
  | inl yes1 ↦ rw yes1 refl
  | inr no1 ↦ rw no1 refl
]

pub behind_of : (ps : List AgreedPair) (p : AgreedPair) → agreements_of (ps ++ p ∷ []) ≡ pair_behind p (agreements_of ps)
behind_of [] p = refl
behind_of (q ∷ ps) p = ap (pair_joined q) (behind_of ps p) ∙ both_ends q p (agreements_of ps)

joins : (front : List TradingAgreement) (a : TradingAgreement) (partner : Party) (lenient : Bool) (pair : List ℕ × List ℕ) → is_like a partner lenient ≡ true → pair_behind (pair_of partner lenient pair) (front ++ a ∷ []) ≡ front ++ with_pair a pair ∷ []
joins [] a partner lenient pair h = rw h refl
joins (x ∷ []) a partner lenient pair h = rw h refl
joins (x ∷ y ∷ front) a partner lenient pair h = ap (λ more. x ∷ more) (joins (y ∷ front) a partner lenient pair h)

starts : (front : List TradingAgreement) (a : TradingAgreement) (partner : Party) (lenient : Bool) (pair : List ℕ × List ℕ) → is_like a partner lenient ≡ false → pair_behind (pair_of partner lenient pair) (front ++ a ∷ []) ≡ (front ++ a ∷ []) ++ of_one_pair partner lenient pair ∷ []
starts [] a partner lenient pair h = rw h refl
starts (x ∷ []) a partner lenient pair h = rw h refl
starts (x ∷ y ∷ front) a partner lenient pair h = ap (λ more. x ∷ more) (starts (y ∷ front) a partner lenient pair h)

module _ (old front new : List TradingAgreement) (a : TradingAgreement) (partner : Party) (lenient : Bool) (pair : List ℕ × List ℕ) (ps : List AgreedPair) (stood : old ≡ agreements_of ps) (split : old ≡ front ++ a ∷ []) where
  pub pair_joins : is_like a partner lenient ≡ true → new ≡ front ++ with_pair a pair ∷ [] → new ≡ agreements_of (ps ++ pair_of partner lenient pair ∷ [])
  pair_joins h is = is ∙ sym (behind_of ps (pair_of partner lenient pair) ∙ ap (pair_behind (pair_of partner lenient pair)) (sym stood ∙ split) ∙ joins front a partner lenient pair h)

  pub pair_starts : is_like a partner lenient ≡ false → new ≡ (front ++ a ∷ []) ++ of_one_pair partner lenient pair ∷ [] → new ≡ agreements_of (ps ++ pair_of partner lenient pair ∷ [])
  pair_starts h is = is ∙ sym (behind_of ps (pair_of partner lenient pair) ∙ ap (pair_behind (pair_of partner lenient pair)) (sym stood ∙ split) ∙ starts front a partner lenient pair h)

pub pair_begins : (old new : List TradingAgreement) (partner : Party) (lenient : Bool) (pair : List ℕ × List ℕ) (ps : List AgreedPair) → old ≡ agreements_of ps → old ≡ [] → new ≡ of_one_pair partner lenient pair ∷ [] → new ≡ agreements_of (ps ++ pair_of partner lenient pair ∷ [])
pair_begins old new partner lenient pair ps stood none is = is ∙ sym (behind_of ps (pair_of partner lenient pair) ∙ ap (pair_behind (pair_of partner lenient pair)) (sym stood ∙ none))

-- One agreement for a partner, and each pair once.
module _ {X : Type 0} (same : X → X → Bool) where
  distinct_push : (xs : List X) (x : X) → IsDistinct same xs → AllByRecursion (λ y. same y x ≡ false) xs → IsDistinct same (xs ++ x ∷ [])
  unfolding IsDistinct
  distinct_push [] x once none = (tt, tt)
  distinct_push (y ∷ ys) x once none = (all_and_one (λ z. same y z ≡ false) ys x once.0 none.0, distinct_push ys x once.1 none.1)

  pub distinct_front : (xs : List X) (x : X) → IsDistinct same (xs ++ x ∷ []) → IsDistinct same xs × AllByRecursion (λ y. same y x ≡ false) xs
  unfolding IsDistinct
  distinct_front [] x once = (tt, tt)
  distinct_front (y ∷ ys) x once = let parts = but_last (λ z. same y z ≡ false) ys x once.0 in let rest = distinct_front ys x once.1 in ((parts.0, rest.0), (parts.1, rest.1))

no_partner : (partner : Party) (agreements : List TradingAgreement) → list_any (λ a. is_same_party a.partner partner) agreements ≡ false → AllByRecursion (λ a. is_same_party a.partner partner ≡ false) agreements
no_partner partner [] h = tt
no_partner partner (a ∷ more) h = let parts = or_parts (is_same_party a.partner partner) (list_any (λ a. is_same_party a.partner partner) more) h in (parts.0, no_partner partner more parts.1)

no_pair : (pair : List ℕ × List ℕ) (pairs : List (List ℕ × List ℕ)) → list_any (is_same_pair pair) pairs ≡ false → AllByRecursion (λ q. is_same_pair q pair ≡ false) pairs
no_pair pair [] h = tt
no_pair pair (q ∷ pairs) h = let parts = or_parts (is_same_pair pair q) (list_any (is_same_pair pair) pairs) h in (turned pair q ∙ parts.0, no_pair pair pairs parts.1)

not_none : {X : Type 0} (xs : List X) (x : X) → xs ++ x ∷ [] ≡ [] → ⊥
not_none [] x h = absurd cc
not_none (y ∷ ys) x h = absurd cc

abbrev pub Same : TradingAgreement → TradingAgreement → Bool
Same a b = is_same_party a.partner b.partner

pub kept_started : (old new : List TradingAgreement) (partner : Party) (lenient : Bool) (pair : List ℕ × List ℕ) → AreKept old → list_any (λ a. is_same_party a.partner partner) old ≡ false → new ≡ old ++ of_one_pair partner lenient pair ∷ [] → AreKept new
unfolding IsDistinct
kept_started old new partner lenient pair kept none is = subst AreKept (sym is) (record {
  agreed_once = distinct_push Same old (of_one_pair partner lenient pair) kept.agreed_once (no_partner partner old none);
  agreed = All-push IsKeptAgreement old (of_one_pair partner lenient pair) kept.agreed (record { pairs = λ h. absurd cc; once = (tt, tt) });
})

pub kept_joined : (front new : List TradingAgreement) (a : TradingAgreement) (pair : List ℕ × List ℕ) → AreKept (front ++ a ∷ []) → list_any (is_same_pair pair) a.pairs ≡ false → new ≡ front ++ with_pair a pair ∷ [] → AreKept new
kept_joined front new a pair kept none is =
    let parts = distinct_front Same front a kept.agreed_once in
    let last : IsKeptAgreement a = last_of front kept.agreed in
    subst AreKept (sym is) (record {
      agreed_once = distinct_push Same front (with_pair a pair) parts.0 parts.1;
      agreed = All-push IsKeptAgreement front (with_pair a pair) (all_front IsKeptAgreement front (a ∷ []) kept.agreed) (record {
        pairs = not_none a.pairs pair;
        once = distinct_push is_same_pair a.pairs pair last.once (no_pair pair a.pairs none);
      });
    })
  where
    last_of : (front : List TradingAgreement) → All IsKeptAgreement (front ++ a ∷ []) → IsKeptAgreement a
    last_of front all = all_behind IsKeptAgreement front (a ∷ []) all 0 a (omega arith)

pub kept_none : AreKept []
unfolding IsDistinct
kept_none = record { agreed_once = tt; agreed = All-nil IsKeptAgreement }

-- The same, of the code's values.
made : {p q : Party} {l m : Bool} {ps qs : List (List ℕ × List ℕ)} → p ≡ q → l ≡ m → ps ≡ qs
    → ◌≡◌ {A = TradingAgreement} (record { partner = p; lenient = l; pairs = ps }) (record { partner = q; lenient = m; pairs = qs })
made same alike pairs = rw (same, alike, pairs) refl

module _ (old new : List Agreement) (last : Agreement) where
  pub pushed_view : new ≡ old ++ last ∷ [] → map agreement_view new ≡ map agreement_view old ++ agreement_view last ∷ []
  pushed_view is = ap (map agreement_view) is ∙ map-append agreement_view old (last ∷ [])

  -- the last agreement has one pair
  pub started_view : (partner : Party) (lenient : Bool) (pair : List ℕ × List ℕ) → new ≡ old ++ last ∷ [] → last.partner ≡ partner → last.lenient ≡ lenient → last.pairs.items ≡ pair ∷ [] → map agreement_view new ≡ map agreement_view old ++ of_one_pair partner lenient pair ∷ []
  started_view partner lenient pair is same alike pairs = pushed_view is ∙ ap (λ a. map agreement_view old ++ a ∷ []) (made same alike pairs)

  -- the last agreement got a pair more
  pub joined_view : (next : Agreement) (pair : List ℕ × List ℕ) → new ≡ old ++ next ∷ [] → next.partner ≡ last.partner → next.lenient ≡ last.lenient → next.pairs.items ≡ last.pairs.items ++ pair ∷ [] → map agreement_view new ≡ map agreement_view old ++ with_pair (agreement_view last) pair ∷ []
  joined_view next pair is same alike pairs = ap (map agreement_view) is ∙ map-append agreement_view old (next ∷ []) ∙ ap (λ a. map agreement_view old ++ a ∷ []) (made same alike pairs)

module _ (old front new : List Agreement) (partner : Party) (lenient : Bool) (pair : List ℕ × List ℕ) (ps : List AgreedPair) (stood : map agreement_view old ≡ agreements_of ps) where
  pub put_first : length old ≡ 0 → old ≡ front ++ [] → map agreement_view new ≡ map agreement_view front ++ of_one_pair partner lenient pair ∷ [] → map agreement_view new ≡ agreements_of (ps ++ pair_of partner lenient pair ∷ [])
  put_first none split is =
      let empty : old ≡ [] = nothing old none in
      let too : front ≡ [] = sym (append-nil front) ∙ sym split ∙ empty in
      pair_begins (map agreement_view old) (map agreement_view new) partner lenient pair ps stood (ap (map agreement_view) empty) (is ∙ ap (λ xs. map agreement_view xs ++ of_one_pair partner lenient pair ∷ []) too)
    where
      nothing : (xs : List Agreement) → length xs ≡ 0 → xs ≡ []
      nothing [] h = refl
      nothing (x ∷ xs) h = absurd (omega (arith, h))

  module _ (last : Agreement) (split : old ≡ front ++ last ∷ []) where
    pub put_joined : is_like (agreement_view last) partner lenient ≡ true → map agreement_view new ≡ map agreement_view front ++ with_pair (agreement_view last) pair ∷ [] → map agreement_view new ≡ agreements_of (ps ++ pair_of partner lenient pair ∷ [])
    put_joined h is = pair_joins (map agreement_view old) (map agreement_view front) (map agreement_view new) (agreement_view last) partner lenient pair ps stood (pushed_view front old last split) h is

    pub put_started : (back : List Agreement) → back ≡ front ++ last ∷ [] → is_like (agreement_view last) partner lenient ≡ false → map agreement_view new ≡ map agreement_view back ++ of_one_pair partner lenient pair ∷ [] → map agreement_view new ≡ agreements_of (ps ++ pair_of partner lenient pair ∷ [])
    put_started back is_back h is =
        pair_starts (map agreement_view old) (map agreement_view front) (map agreement_view new) (agreement_view last) partner lenient pair ps stood (pushed_view front old last split) h
        (is ∙ ap (λ xs. xs ++ of_one_pair partner lenient pair ∷ []) (pushed_view front back last is_back))

-- where it is done, what it makes holds
pub after_ok : {A E : Type 0} (P Q : Type 0) (r : Result A E) → (P → Q) → OnOk r P → OnOk r Q
after_ok P Q (Ok x) f h = f h
after_ok P Q (Err e) f h = tt

-- The agreements as a query reads them.
abbrev pub agreed_text : List ℕ
agreed_text = codes "SELECT partner, functional, setid, lenient FROM agreement ORDER BY at"

abbrev agreed_shows : List Term
agreed_shows = col 1 2 ∷ col 1 3 ∷ col 1 5 ∷ col 1 4 ∷ []

abbrev agreed_names : List (List ℕ)
agreed_names = codes "partner" ∷ codes "functional" ∷ codes "setid" ∷ codes "lenient" ∷ []

pub agreed_is : (command_of (understood station_schema agreed_text) ≡ Select (record { lets = []; body = one_table 1 [] agreed_shows by_at }) agreed_names) × (reads_listing station_schema agreed_text ≡ false) × IsPlain (understood station_schema agreed_text)
unfolding understood everything
agreed_is = (refl, refl, (refl, refl))

pub agreed_asks : IsQuery agreed_text
unfolding everything
agreed_asks = select_asks agreed_text ((λ s base. refl), (λ s. refl))

abbrev shown_row : AgreedPair → Row
shown_row p = Blob (bytes_of_party p.partner) ∷ Blob p.functional ∷ Blob p.set ∷ Int (pos (lenient_number p.lenient)) ∷ []

shown_back : (at : List (ℕ × AgreedPair)) → AllByRecursion (λ p. IsWideParty p.partner) (map (λ (x : ℕ × AgreedPair). x.1) at) → map pair_shown (map (λ (x : ℕ × AgreedPair). shown_row x.1) at) ≡ map (λ (x : ℕ × AgreedPair). x.1) at
shown_back [] h = refl
shown_back (x ∷ at) h = rw (party_back x.1.partner h.0, lenient_back x.1.lenient, shown_back at h.1) refl

pub loads_agreements : (old new : State) (next : ℕ) (rows : List Row) (s : Stored) → HasTables next old.now s → IsSound s → Shown agreed_text [] old new rows → agreements_of (map pair_shown rows) ≡ s.agreements
loads_agreements old new next rows s has sound h =
    let holds = has.agreements in
    let qualifiers : AllByRecursion (λ (p : AgreedPair). IsWideParty p.partner) (map (λ (x : ℕ × AgreedPair). x.1) holds.at) = subst (AllByRecursion (λ (p : AgreedPair). IsWideParty p.partner)) (sym holds.pairs_are) (pairs_of_all s.agreements holds.parties) in
    let listed = lists_all agreed_text old new has.schema 1 agreed_shows agreed_names agreed_is pair_row holds.at holds.are (λ x. shown_row x.1) (λ x. refl) rows h in
    ap agreements_of (ap (map pair_shown) listed ∙ shown_back holds.at qualifiers ∙ holds.pairs_are) ∙ agreements_back s.agreements sound.agreed_once sound.agreed
