-- What a station that is told an item again has then.
use Rattle.std.specs.Prelude.{◌≡◌, ℕ, ◌+◌, length, List, [], ◌∷◌, ◌++◌, flat_map, Option, Some, None, option_to_list, IfSome, refl, All, suc}
use Rattle.std.specs.List.{range_with_len}
use mathlib.Core.Path.{sym, ap, ap₂, subst, ◌∙◌}
use native.Mathlib.Omega.{arith}
use Rattle.std.proofs.lemmas.Grind.{flat_map-append}
use Rattle.std.proofs.lemmas.List.{append-nil, append_assoc, length-append, length-map, map-append}
use Rattle.std.proofs.lemmas.List.Elements.{All-append, All-push}
use Rattle.x12_acks.specs.Accepted.{AcceptedSet}
use Rattle.x12_envelopes.specs.declared.party.Party.{Party}
use Rattle.x12_numbers.specs.Book.{Numbers}
use Rattle.x12_numbers.proofs.Shelf.{all_of_one}
use Rattle.x12_profile.specs.Edition.{edition_at}
use Rattle.x12_profile.specs.Interchange.{Bytes}
use Rattle.x12_profile.specs.X12.{x12}
use Rattle.x12_station.specs.Durable.{IsHistoryOf, item_at, items_of}
use Rattle.x12_station.specs.Opened.{opened}
use Rattle.x12_station.specs.History.{Item, Came, posted_by, postings}
use Rattle.x12_station.specs.Station.{Station, edition_next}
use Rattle.x12_station.specs.Stored.{Origin, Stored, nothing_stored, marks_of}
use Rattle.x12_station.proofs.SeqLemmas.{range_more}
use Rattle.x12_verify.specs.Arrived.{IsRightArrival}
use Rattle.x12_verify.specs.Told.{IsRightItem, HasSameOrigin, IsOpenAgain, IsTold, AreTold, HoldsTold, items_up_to, as_told, all_as_told}

-- All items up to a number.

up_to_next : (s : Stored) (n : ℕ) → items_up_to s (n + 1) ≡ items_up_to s n ++ option_to_list (item_at s (n + 1))
up_to_next s n =
    let up : n + 1 ≡ suc n = omega arith in
    let back : 1 + n ≡ n + 1 = omega arith in
    ap (λ m. flat_map (λ k. option_to_list (item_at s k)) (range_with_len 1 m)) up
    ∙ ap (flat_map (λ k. option_to_list (item_at s k))) (range_more 1 n)
    ∙ flat_map-append (λ k. option_to_list (item_at s k)) (range_with_len 1 n) ((1 + n) ∷ [])
    ∙ ap (λ l. items_up_to s n ++ l) (append-nil (option_to_list (item_at s (1 + n))) ∙ ap (λ k. option_to_list (item_at s k)) back)

one_more : (s : Stored) (n : ℕ) (item : Item) → item_at s (n + 1) ≡ Some item → items_up_to s (n + 1) ≡ items_up_to s n ++ item ∷ []
one_more s n item at = up_to_next s n ∙ ap (λ o. items_up_to s n ++ option_to_list o) at

-- what holds of the items up to a number and of the next holds of all up to the next
pub all_up_to_next : (P : Item → Type 0) (s : Stored) (n : ℕ) → All P (items_up_to s n) → IfSome (item_at s (n + 1)) P → All P (items_up_to s (n + 1))
all_up_to_next P s n all next = subst (All P) (sym (up_to_next s n)) (All-append P (items_up_to s n) (option_to_list (item_at s (n + 1))) all (by (item_at s (n + 1)) next))
  where
    by : (o : Option Item) → IfSome o P → All P (option_to_list o)
    by None none = λ k d within. absurd (omega (arith, within))
    by (Some item) one = all_of_one P item one

-- one item more was told
one_more_told : (old new : List Item) (item : Item) → all_as_told new ≡ all_as_told old ++ as_told item ∷ [] → length new ≡ length old + 1
one_more_told old new item told =
    sym (length-map new as_told) ∙ ap length told ∙ length-append (all_as_told old) (as_told item ∷ []) ∙ ap (λ n. n + 1) (length-map old as_told)

module _ (s : Stored) (me : Party) (book : Numbers) where
  pub told_more : (n : ℕ) (first old new : Station) (all left more : List AcceptedSet) → AreTold s me book n first old all left → IsTold s me book (n + 1) old new left more → AreTold s me book (n + 1) first new all more
  told_more n first old new all left more before one =
      let items = one_more s n one.item one.at in record {
        right = subst (All (IsRightItem s me book)) (sym items) (All-push (IsRightItem s me book) (items_up_to s n) one.item before.right one.right);
        told =
            one.told ∙ ap (λ l. l ++ as_told one.item ∷ []) before.told
            ∙ append_assoc (all_as_told first.items) (all_as_told (items_up_to s n)) (as_told one.item ∷ [])
            ∙ ap (λ l. all_as_told first.items ++ l) (sym (map-append as_told (items_up_to s n) (one.item ∷ [])))
            ∙ ap (λ l. all_as_told first.items ++ all_as_told l) (sym items);
        origin = (one.origin.0 ∙ before.origin.0, one.origin.1 ∙ before.origin.1, one.origin.2 ∙ before.origin.2);
        counted =
            let more = one_more_told old.items new.items one.item one.told in
            let were = before.counted in
            omega (arith, more, were);
        posted =
            before.posted ∙ ap (λ l. postings x12 (items_up_to s n) ++ l) one.posted_is
            ∙ sym (append_assoc (postings x12 (items_up_to s n)) (posted_by x12 one.item) more)
            ∙ ap (λ l. l ++ more) (ap (λ l. postings x12 (items_up_to s n) ++ l) (sym (append-nil (posted_by x12 one.item))) ∙ sym (flat_map-append (posted_by x12) (items_up_to s n) (one.item ∷ [])) ∙ ap (postings x12) (sym items));
      }

-- A station that was told nothing, and what its records are in the end.

no_items : (o : Origin) → items_of (nothing_stored o) ≡ []
unfolding items_of
no_items o = refl

pub opened_empty : (o : Origin) (state : Station) (d : Stored) → state ≡ opened o.me o.hubs d → d ≡ nothing_stored o → IsOpenAgain o state
opened_empty o state d is nothing = record {
  empty = ap (λ (q : Station). q.items) is ∙ ap items_of nothing ∙ no_items o;
  me = ap (λ (q : Station). q.me) is;
  hubs = ap (λ (q : Station). q.hubs) is;
  marks = ap (λ (q : Station). q.marks) is ∙ ap (λ (q : Stored). marks_of q.origin) nothing;
}

pub holds_told : (s d : Stored) (o : Origin) (book : Numbers) (n : ℕ) (first now : Station) (all left : List AcceptedSet) → AreTold s o.me book n first now all left → IsOpenAgain o first
    → items_of d ≡ now.items → IsHistoryOf now.me now.hubs d → HoldsTold s d o book n all left
holds_told s d o book n first now all left told fresh items wrote = record {
  wrote = subst (λ (p : Party). IsHistoryOf p o.hubs d) (told.origin.0 ∙ fresh.me) (subst (λ hs. IsHistoryOf now.me hs d) (told.origin.1 ∙ fresh.hubs) wrote);
  right = told.right;
  items = ap all_as_told items ∙ told.told ∙ ap (λ l. all_as_told l ++ all_as_told (items_up_to s n)) fresh.empty;
  posted = told.posted;
}

-- What came next is read there and here by one edition.
module _ (s : Stored) (me : Party) (book : Numbers) (n : ℕ) (old new : Station) (posted left : List AcceptedSet) (b x : Bytes) (r : Option Bytes) where
  pub told_came : length old.items + 1 ≡ n → old.marks ≡ marks_of s.origin → item_at s n ≡ Some (Came (edition_at (marks_of s.origin) n) b r) → IsRightArrival s me book (edition_at (marks_of s.origin) n) b r → x ≡ b
      → all_as_told new.items ≡ all_as_told old.items ++ Came (edition_next old) x None ∷ [] → HasSameOrigin old new → posted ≡ posted_by x12 (Came (edition_at (marks_of s.origin) n) b r) ++ left
      → IsTold s me book n old new posted left
  told_came place marks at right same told origin is = record {
    item = Came (edition_at (marks_of s.origin) n) b r;
    at = at;
    right = right;
    told = told ∙ ap₂ (λ by y. all_as_told old.items ++ Came by y None ∷ []) (ap₂ edition_at marks place) same;
    origin = origin;
    posted_is = is;
  }
