-- A reply that was due: it is what is kept rightly, and what it accepts is what its judgement posts.
use Rattle.std.specs.Prelude.{◌≡◌, ◌≤◌, ℕ, List, Bool, true, false, nat_le, ◌&&◌, if◌then◌else◌, Option, Some, None, Result, Ok, Err, IfOk, IfSome, IsTrue, refl}
use mathlib.Core.Path.{sym, ap, ap₂, subst, ◌∙◌}
use native.Mathlib.Omega.{arith}
use Rattle.std.proofs.lemmas.Bool.Decides.{nat_tests}
use Rattle.x12_acks.specs.Accepted.{accepted_by_verdict}
use Rattle.x12_acks.proofs.FindLemmas.{clash}
use Rattle.x12_acks.specs.Reply.{due_reply, is_reply_due, reply_from, reply_of, takes_group_number}
use Rattle.x12_acks.specs.declared.reply_header.ReplyHeader.{ReplyHeader}
use Rattle.x12_envelopes.specs.declared.header.Header.{Header}
use Rattle.x12_envelopes.specs.declared.moment.Moment.{Moment}
use Rattle.x12_envelopes.specs.declared.party.Party.{Party}
use Rattle.x12_envelopes.specs.Envelope.{written}
use Rattle.x12_envelopes.specs.Header.{header_of}
use Rattle.x12_inbound.specs.Accepted.{PostsWhatIsAccepted}
use Rattle.x12_inbound.specs.Arrival.{Arrival, Filing, HasDueReply, arrival, filing_of}
use Rattle.x12_inbound.specs.Filing.{FiledInterchange}
use Rattle.x12_inbound.specs.Sighting.{first, sighting_of}
use Rattle.x12_judge.specs.Agreement.{TradingAgreement}
use Rattle.x12_judge.specs.Verdict.{InterchangeJudgement}
use Rattle.x12_numbers.specs.Book.{Numbers}
use Rattle.x12_numbers.specs.declared.book.TheConstants.{MAX_CONTROL_NUMBER}
use Rattle.x12_profile.specs.declared.edition.Edition.{Edition}
use Rattle.x12_profile.specs.Edition.{terms_by}
use Rattle.x12_profile.specs.Interchange.{Bytes, Needs}
use Rattle.x12_profile.specs.Laws.{Laws, IsReply}
use Rattle.x12_profile.specs.X12.{judged_by, x12}
use Rattle.x12_profile.proofs.FieldLemmas as field
use Rattle.x12_station.specs.Durable.{WasAnswered}
use Rattle.x12_station.specs.History.{Came, posted_by}
use Rattle.x12_station.specs.Stored.{Stored, filed_in}
use Rattle.x12_station.proofs.ArrivingLemmas.{if_false, if_true}
use Rattle.x12_station.proofs.DraftLemmas.{group_is_due, no_reply, with_reply}
use Rattle.x12_station.proofs.PostingLemmas.{reply_posts}
use Rattle.x12_verify.specs.Arrived.{WasDueFrom, filed_rightly}

within_both : (m n : ℕ) → m ≤ MAX_CONTROL_NUMBER → n ≤ MAX_CONTROL_NUMBER → (nat_le m MAX_CONTROL_NUMBER && nat_le n MAX_CONTROL_NUMBER) ≡ true
within_both m n low high = grind (arith, nat_tests)

module _ (b : Bytes) (h : Header) (known : header_of b ≡ Ok h) (ed : Edition) (a : List TradingAgreement) (own : ReplyHeader) (r : Option Bytes)
    (due : WasDueFrom h (judged_by ed own.me a h b) own r) where
  abbrev numbers : Numbers
  numbers = record { interchange = own.icn; group = own.gcn }

  abbrev is_due : Bool
  is_due = is_reply_due h (judged_by ed own.me a h b)

  reply_needed : (x12.needs ed own.me a b).reply ≡ is_due
  reply_needed = ap (λ (n : Needs). n.reply) (field.needs_is b h known ed own.me a)

  pub was_answered : (book : Numbers) → own.icn ≤ book.interchange → own.gcn ≤ book.group → WasAnswered ed own.me book (filed_rightly b r)
  was_answered book interchange group = record {
    agreements = a;
    at = own.at;
    numbers = numbers;
    interchange = interchange;
    group = group;
    reply = by is_due refl;
  }
    where
      by : (t : Bool) → is_due ≡ t → r ≡ (if (x12.needs ed own.me a b).reply then Some (x12.reply ed own.me a own.at numbers b) else None)
      by true is =
          due.reply ∙ sym (with_reply h (judged_by ed own.me a h b) own.me own.at own.icn own.gcn is)
          ∙ sym (if_true (x12.needs ed own.me a b).reply (Some (x12.reply ed own.me a own.at numbers b)) None (reply_needed ∙ is) ∙ ap Some (field.reply_is b h known ed own.me a own.at numbers))
      by false is =
          due.reply ∙ sym (no_reply h (judged_by ed own.me a h b) own.me own.at own.icn own.gcn is)
          ∙ sym (if_false (x12.needs ed own.me a b).reply (Some (x12.reply ed own.me a own.at numbers b)) None (reply_needed ∙ is))

  pub posts_so : Laws x12 → PostsWhatIsAccepted → IsTrue (x12.is_plain own.me) → own.icn ≤ MAX_CONTROL_NUMBER → own.gcn ≤ MAX_CONTROL_NUMBER
      → accepted_by_verdict h.sender h.icn (judged_by ed own.me a h b).verdict ≡ posted_by x12 (Came ed b r)
  posts_so laws posts plain icn gcn = by is_due refl
    where
      replied : is_due ≡ true → IsReply x12 own.me a b (written (reply_of h (judged_by ed own.me a h b) own.me own.at own.icn own.gcn))
      replied is = record {
        edition = ed;
        at = own.at;
        book = numbers;
        header = field.has_header_is b h known;
        plain = plain;
        due = reply_needed ∙ is;
        icn_taken = due.icn_taken is;
        gcn_taken = λ group. due.gcn_taken (sym (ap (λ (n : Needs). n.group) (field.needs_is b h known ed own.me a)) ∙ group);
        within = within_both own.icn own.gcn icn gcn;
        bytes = sym (field.reply_is b h known ed own.me a own.at numbers);
      }

      by : (t : Bool) → is_due ≡ t → accepted_by_verdict h.sender h.icn (judged_by ed own.me a h b).verdict ≡ posted_by x12 (Came ed b r)
      by true is =
          sym (reply_posts own.me a b h known ed laws (written (reply_of h (judged_by ed own.me a h b) own.me own.at own.icn own.gcn)) (replied is))
          ∙ ap (λ o. posted_by x12 (Came ed b o)) (with_reply h (judged_by ed own.me a h b) own.me own.at own.icn own.gcn is ∙ sym due.reply)
      by false is =
          posts.none (arrival h.sender h.icn b) (judged_by ed own.me a h b) (record {
            me = own.me;
            terms = terms_by ed a;
            header = h;
            is_header = known;
            partner = refl;
            icn = refl;
            judgement = refl;
            reply = record { at = own.at; icn = own.icn; gcn = own.gcn; is = no_reply h (judged_by ed own.me a h b) own.me own.at own.icn own.gcn is };
          })
          ∙ ap (λ o. posted_by x12 (Came ed b o)) (no_reply h (judged_by ed own.me a h b) own.me own.at own.icn own.gcn is ∙ sym due.reply)

-- What was due, by what it takes.

module _ (h : Header) (j : InterchangeJudgement) (own : ReplyHeader) where
  abbrev own_at : Moment → ReplyHeader
  own_at at = record { me = own.me; at = at; icn = own.icn; gcn = own.gcn }

  pub none_was_due : (needed : Bool) → needed ≡ is_reply_due h j → needed ≡ false → (at : Moment) → WasDueFrom h j (own_at at) None
  none_was_due needed is none at =
      let not = sym is ∙ none in record {
        reply = no_reply h j own.me at own.icn own.gcn not;
        icn_taken = λ due. clash (is_reply_due h j) due not;
        gcn_taken = λ takes. clash (is_reply_due h j) (group_is_due h j takes) not;
      }

  pub reply_was_due : {E : Type 0} (r : Result (Option Moment) E) (reply : Bytes) → is_reply_due h j ≡ true → 1 ≤ own.icn → (takes_group_number j ≡ true → 1 ≤ own.gcn)
      → IfOk r (λ o. IfSome o (λ at. reply ≡ written (reply_from h j (own_at at)))) → IfOk r (λ o. IfSome o (λ at. WasDueFrom h j (own_at at) (Some reply)))
  reply_was_due (Ok None) reply due icn gcn is = tt
  reply_was_due (Ok (Some at)) reply due icn gcn is = record {
    reply = ap Some is ∙ with_reply h j own.me at own.icn own.gcn due;
    icn_taken = λ _. icn;
    gcn_taken = gcn;
  }
  reply_was_due (Err e) reply due icn gcn is = tt

-- What is looked for under nothing is new.
pub seen_new : (a : Arrival) (h : Header) (b x : Bytes) → first a ≡ sighting_of None (arrival h.sender h.icn x) → x ≡ b → a ≡ arrival h.sender h.icn b
unfolding sighting_of
seen_new a h b x is same = let found : a ≡ arrival h.sender h.icn x = cc in found ∙ ap (λ y. arrival h.sender h.icn y) same

pub has_due_reply : (a : Arrival) (b : Bytes) (h : Header) (known : header_of b ≡ Ok h) (ed : Edition) (ags : List TradingAgreement) (own : ReplyHeader) (j : InterchangeJudgement) (r q : Option Bytes)
    → a ≡ arrival h.sender h.icn b → j ≡ judged_by ed own.me ags h b → q ≡ r → WasDueFrom h (judged_by ed own.me ags h b) own r → HasDueReply a j q
has_due_reply a b h known ed ags own j r q arrived judged same due = record {
  me = own.me;
  terms = terms_by ed ags;
  header = h;
  is_header = subst (λ (x : Arrival). header_of x.bytes ≡ Ok h) (sym arrived) known;
  partner = ap (λ (x : Arrival). x.partner) (sym arrived);
  icn = ap (λ (x : Arrival). x.icn) (sym arrived);
  judgement = judged ∙ ap (λ (x : Arrival). judged_by ed own.me ags h x.bytes) (sym arrived);
  reply = record { at = own.at; icn = own.icn; gcn = own.gcn; is = same ∙ due.reply ∙ ap (λ (i : InterchangeJudgement). due_reply h i own.me own.at own.icn own.gcn) (sym judged) };
}

pub postings_are : (a : Arrival) (b : Bytes) (h : Header) (j i : InterchangeJudgement) (q : Option Bytes) (k : Filing) → k ≡ filing_of a j q → a ≡ arrival h.sender h.icn b → j ≡ i
    → k.postings ≡ accepted_by_verdict h.sender h.icn i.verdict
postings_are a b h j i q k kept arrived judged =
    ap (λ (f : Filing). f.postings) kept
    ∙ ap₂ (λ (x : Arrival) (v : InterchangeJudgement). accepted_by_verdict x.partner x.icn v.verdict) arrived judged

-- What is found under a header's sender and number.
pub found_rightly : (s : Stored) (b : Bytes) (h : Header) (known : header_of b ≡ Ok h) (r q : Option Bytes) (x : Bytes) → x ≡ b → q ≡ r
    → Some (record { partner = h.sender; icn = h.icn; bytes = x; reply = q }) ≡ filed_in s h.sender h.icn → filed_in s (x12.sender b) (x12.number b) ≡ Some (filed_rightly b r)
found_rightly s b h known r q x bytes reply found =
    ap₂ (filed_in s) (field.sender_is b h known) (field.number_is b h known) ∙ sym found
    ∙ ap₂ (λ (y : Bytes) (o : Option Bytes). Some (filed_by h.sender h.icn y o)) bytes reply
    ∙ ap₂ (λ (p : Party) (n : ℕ). Some (filed_by p n b r)) (sym (field.sender_is b h known)) (sym (field.number_is b h known))
  where
    filed_by : Party → ℕ → Bytes → Option Bytes → FiledInterchange
    filed_by p n y o = record { partner = p; icn = n; bytes = y; reply = o }
