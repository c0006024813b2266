-- What sound records give is sound.
use Rattle.std.proofs.Common.{ℕ, ◌≡◌, ◌&&◌, sym, subst, refl, Bool, true, false, cond, not, List, [], ◌∷◌, ◌++◌, map, filter, find, get_or, Option, Some, None, IfSome, option_map, All}
use Rattle.std.specs.List.{IsDistinct, AllByRecursion}
use Rattle.std.proofs.lemmas.List.Elements.{All-head, All-tail, All-map, All-filter, filter_passes}
use Rattle.std.proofs.lemmas.List.Kept.{AllPairs-filter}
use Rattle.x12_envelopes.specs.declared.party.Party.{Party}
use Rattle.x12_numbers.specs.Book.{Numbers}
use Rattle.x12_judge.specs.Agreement.{TradingAgreement}
use Rattle.x12_acks.specs.Submission.{IsBefore, TransactionSetKey}
use Rattle.x12_inbound.specs.Arrival.{Filing}
use Rattle.x12_inbound.specs.Filing.{FiledInterchange, filed_key}
use Rattle.x12_inbound.specs.Order.{is_same_interchange}
use Rattle.x12_inbound.specs.Register.{found_in}
use Rattle.x12_outbound.specs.declared.entry.Entry.{Entry}
use Rattle.x12_outbound.specs.declared.fate.Fate.{Fate}
use Rattle.x12_outbound.specs.Entry.{InterchangeRow, entry_row, row_is_open, submission_of_entry, IsSendable}
use Rattle.x12_outbound.specs.Ledger.{AreInOrder}
use Rattle.x12_profile.specs.Edition.{Marks}
use Rattle.x12_numbers.proofs.Shelf.{pairs_from_map, all_from_map, pairs_to_map}
use Rattle.x12_station.specs.Stored.{Stored, StoredArrival, entry_of_row, entries, IsSound, IsNumberedBy}
use Rattle.x12_station.specs.Plan.{Commit, Files, changed, stored_after}
use Rattle.x12_station.specs.Record.{Loaded, HasNoneOut, IsSoundLoaded, IsSoundClosed, loaded_of}
use Rattle.x12_station.proofs.EntryLemmas.{entry_laid}

-- part of what is in order is in order
order_kept : (me : Party) (p : InterchangeRow → Bool) (es : List InterchangeRow) → AreInOrder (map (submission_of_entry me) es) → AreInOrder (map (submission_of_entry me) (filter p es))
order_kept me p es order = record {
  sendable = All-map IsSendable (submission_of_entry me) (filter p es) (All-filter p (λ e. IsSendable (submission_of_entry me e)) es (all_from_map (submission_of_entry me) IsSendable es order.sendable));
  before = pairs_to_map (submission_of_entry me) IsBefore (filter p es) (AllPairs-filter (λ a b. IsBefore (submission_of_entry me a) (submission_of_entry me b)) p es (pairs_from_map (submission_of_entry me) IsBefore es order.before));
}

all_laid : (s : Stored) → All HasNoneOut (entries s)
unfolding entries
all_laid s = All-map HasNoneOut (entry_of_row s.sets) s.submitted (λ k d at. entry_laid s.sets (get_or s.submitted k d))

-- what is loaded
pub sound_loaded : (s : Stored) (l : Loaded) → l ≡ loaded_of s → IsSound s → IsSoundLoaded l
sound_loaded s l is sound = subst IsSoundLoaded (sym is) (record {
  in_order = λ me. order_kept me row_is_open (entries s) (sound.in_order me);
  used = All-filter row_is_open (IsNumberedBy s.book) (entries s) sound.used;
  laid = All-filter row_is_open HasNoneOut (entries s) (all_laid s);
  few = sound.few;
  pending = filter_passes row_is_open (entries s);
  agreed_once = sound.agreed_once;
  agreed = sound.agreed;
})

-- what is found
module _ (p : InterchangeRow → Bool) (closed : (e : InterchangeRow) → p e ≡ true → row_is_open e ≡ false) where
  found_closed : (es : List InterchangeRow) → ((me : Party) → All (λ e. IsSendable (submission_of_entry me e)) es) → All HasNoneOut es → (e : InterchangeRow) → find p es ≡ Some e → IsSoundClosed e
  found_closed [] sendable laid e found = absurd (cc)
  found_closed (f ∷ fs) sendable laid e found = by (p f) refl found (found_closed fs (λ me. All-tail (λ x. IsSendable (submission_of_entry me x)) f fs (sendable me)) (All-tail HasNoneOut f fs laid) e)
    where
      by : (t : Bool) → p f ≡ t → cond t (Some f) (find p fs) ≡ Some e → (find p fs ≡ Some e → IsSoundClosed e) → IsSoundClosed e
      by true passes same rest = let one : f ≡ e = cc in subst IsSoundClosed one (record {
        sendable = λ me. All-head (λ x. IsSendable (submission_of_entry me x)) f fs (sendable me);
        laid = All-head HasNoneOut f fs laid;
        ended = closed f passes;
      })
      by false fails same rest = rest same

  pub sound_found : (s : Stored) (o : Option Entry) → option_map entry_row o ≡ find p (entries s) → IsSound s → IfSome o (λ e. IsSoundClosed (entry_row e))
  sound_found s None is sound = tt
  sound_found s (Some e) is sound = found_closed (entries s) (λ me. all_from_map (submission_of_entry me) IsSendable (entries s) (sound.in_order me).sendable) (all_laid s) (entry_row e) (sym is)

pub ended_and : (a b : Bool) → (a && not b) ≡ true → b ≡ false
ended_and true true is = absurd (cc)
ended_and true false is = refl
ended_and false b is = absurd (cc)

-- what is loaded, part by part
pub loaded_same : (marks marks' : Marks) (book : Numbers) (seq : ℕ) (agreements agreements' : List TradingAgreement) (es es' : List InterchangeRow) → marks ≡ marks' → agreements ≡ agreements' → es ≡ es'
    → (let l : Loaded = record { marks = marks; book = book; seq = seq; agreements = agreements; entries = es } in l) ≡ record { marks = marks'; book = book; seq = seq; agreements = agreements'; entries = es' }
loaded_same marks marks' book seq agreements agreements' es es' k a b = cc

-- nothing was filed under a key that is filed anew
not_filed : (f : FiledInterchange) (olds : List StoredArrival) (a : StoredArrival) → a.filed ≡ f → IsDistinct (λ r q. is_same_interchange (filed_key r.filed) (filed_key q.filed)) (olds ++ a ∷ []) → found_in (map (λ r. r.filed) olds) (filed_key f) ≡ None
unfolding IsDistinct
not_filed f [] a is once = refl
not_filed f (b ∷ olds) a is once = rw (other olds once.0) (not_filed f olds a is once.1)
  where
    other : (rest : List StoredArrival) → AllByRecursion (λ y. is_same_interchange (filed_key b.filed) (filed_key y.filed) ≡ false) (rest ++ a ∷ []) → is_same_interchange (filed_key b.filed) (filed_key f) ≡ false
    other [] apart = subst (λ g. is_same_interchange (filed_key b.filed) (filed_key g) ≡ false) is apart.0
    other (c ∷ rest) apart = other rest apart.1

pub new_under : (plan : Commit) (s : Stored) (k : Filing) (ts : List (TransactionSetKey × Fate)) → plan.change ≡ Files k ts → IsSound (stored_after plan s) → found_in (map (λ r. r.filed) s.arrived) (filed_key k.filed) ≡ None
new_under plan s k ts is sound =
    not_filed k.filed s.arrived (record { seq = plan.seq; filed = k.filed }) refl
    (subst (λ ch. IsDistinct (λ r q. is_same_interchange (filed_key r.filed) (filed_key q.filed)) (changed plan.seq ch s).arrived) is sound.filed_once)
