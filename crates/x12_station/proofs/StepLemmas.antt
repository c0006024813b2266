-- The step of a new arrival: what is filed of it, and the state then, are those of the definition.
use Rattle.std.specs.Prelude.{◌≡◌, ℕ, ◌+◌, ◌≤◌, List, [], Bool, true, false, if◌then◌else◌, Option, Some, None, option_to_list, Ok, IsTrue, refl}
use mathlib.Core.Path.{sym, ap, ap₂, subst, ◌∙◌}
use native.Mathlib.Omega.{arith}
use Rattle.x12_numbers.specs.Book.{Numbers}
use Rattle.x12_envelopes.specs.declared.header.Header.{Header}
use Rattle.x12_envelopes.specs.declared.moment.Moment.{Moment}
use Rattle.x12_envelopes.specs.declared.party.Party.{Party}
use Rattle.x12_envelopes.specs.Envelope.{written}
use Rattle.x12_envelopes.specs.Header.{header_of}
use Rattle.x12_judge.specs.Agreement.{TradingAgreement}
use Rattle.x12_judge.specs.Interchange.{note_of_interchange}
use Rattle.x12_judge.specs.Verdict.{judgement_of, InterchangeJudgement, verdict_by}
use Rattle.x12_judge.specs.Group.{FunctionalGroupVerdict}
use Rattle.x12_acks.specs.Accepted.{accepted_by_verdict}
use Rattle.x12_acks.specs.Evidence.{evidence_of}
use Rattle.x12_acks.specs.Reply.{due_reply, is_reply_due, reply_of, takes_group_number}
use Rattle.x12_acks.proofs.FindLemmas.{clash}
use Rattle.x12_inbound.specs.Accepted.{PostsWhatIsAccepted}
use Rattle.x12_inbound.specs.Arrival.{arrival}
use Rattle.x12_profile.specs.declared.edition.Edition.{Edition}
use Rattle.x12_profile.specs.Edition.{controls_of, terms_by}
use Rattle.x12_profile.specs.Interchange.{Bytes, Needs, book_for, is_within}
use Rattle.x12_profile.specs.Laws.{Laws, IsReply}
use Rattle.x12_profile.specs.Reading.{answers_in}
use Rattle.x12_profile.specs.X12.{x12, is_refused, judged_by, needs_of}
use Rattle.x12_profile.proofs.FieldLemmas as field
use Rattle.x12_station.specs.Closed.{heard}
use Rattle.x12_station.specs.Durable.{IsFiledRightly, WasAnswered}
use Rattle.x12_station.specs.History.{Item, Came, posted_by, submissions}
use Rattle.x12_station.specs.Older.{answers_as_read}
use Rattle.x12_station.specs.Station.{Station, edition_next}
use Rattle.x12_station.specs.StationStep.{StationStep, arrive_new, filed_now, replied, writes}
use Rattle.x12_station.proofs.DraftLemmas.{no_reply, with_reply, group_is_due}
use Rattle.x12_station.proofs.DurableLemmas.{IsLater}
use Rattle.x12_station.proofs.FateLemmas.{brought, pieces_are}
use Rattle.x12_station.proofs.KnownLemmas.{all_submitted}
use Rattle.x12_station.proofs.PostingLemmas.{reply_posts}
use Rattle.x12_station.proofs.ArrivingLemmas.{if_false, if_true}

-- Whether an interchange is refused isn't told by the agreements.
refused_by : (note : Option ℕ) (gs hs : List FunctionalGroupVerdict) → is_refused (verdict_by note gs) ≡ is_refused (verdict_by note hs)
refused_by (Some note) gs hs = refl
refused_by None gs hs = refl

module _ (ed : Edition) (me : Party) (a : List TradingAgreement) (b : Bytes) (h : Header) (known : header_of b ≡ Ok h) where
  abbrev judgement : InterchangeJudgement
  judgement = judged_by ed me a h b

  alike : is_refused (judged_by ed me [] h b).verdict ≡ is_refused (judged_by ed me a h b).verdict
  unfolding judgement_of
  alike = refused_by (note_of_interchange (controls_of ed) me h _) _ _

  pub refused_is : x12.refuses ed me b ≡ is_refused (judged_by ed me a h b).verdict
  refused_is = field.refuses_is b h known ed me ∙ alike

  -- the evidence that the arrival brings is that of what is heard of it
  pub brought_is : (hubs : List Party) (items : List Item) → brought ed me hubs items b ≡ evidence_of hubs (all_submitted items) h.sender (heard ed (judged_by ed me a h b).verdict b)
  unfolding evidence_of
  brought_is hubs items = by (x12.refuses ed me b) refl
    where
      by : (t : Bool) → x12.refuses ed me b ≡ t → (if x12.refuses ed me b then [] else x12.pieces ed hubs (submissions items) b) ≡ evidence_of hubs (all_submitted items) h.sender (if is_refused (judged_by ed me a h b).verdict then [] else answers_as_read ed (answers_in b))
      by true is = rw (is, sym refused_is ∙ is) refl
      by false is = rw (is, sym refused_is ∙ is) (pieces_are ed hubs (submissions items) b ∙ ap (λ p. evidence_of hubs (all_submitted items) p (answers_as_read ed (answers_in b))) (field.sender_is b h known))

  module _ (last book : Numbers) (book_is : book ≡ book_for last (needs_of ed me a b h)) (at : Moment) (r : Option Bytes)
      (r_is : r ≡ due_reply h (judged_by ed me a h b) me at book.interchange book.group) where
    abbrev due : Bool
    due = is_reply_due h (judged_by ed me a h b)

    abbrev takes : Bool
    takes = takes_group_number (judged_by ed me a h b)

    raised : (t : Bool) (n : ℕ) → n ≤ (if t then n + 1 else n)
    raised true n = omega arith
    raised false n = omega arith

    taken : (t : Bool) (n : ℕ) → t ≡ true → 1 ≤ (if t then n + 1 else n)
    taken true n is = omega arith
    taken false n is = absurd (let no : ⊥ = cc in no)

    pub book_later : IsLater last book
    book_later = record {
      interchange = subst (λ (x : Numbers). last.interchange ≤ x.interchange) (sym book_is) (raised due last.interchange);
      group = subst (λ (x : Numbers). last.group ≤ x.group) (sym book_is) (raised takes last.group);
    }

    -- what is kept is what the history posts
    pub filing_posts : Laws x12 → PostsWhatIsAccepted → IsTrue (x12.is_plain me) → IsTrue (is_within book) → accepted_by_verdict h.sender h.icn (judged_by ed me a h b).verdict ≡ posted_by x12 (Came ed b r)
    filing_posts laws posts plain within = by (is_reply_due h (judged_by ed me a h b)) refl
      where
        replied : is_reply_due h (judged_by ed me a h b) ≡ true → IsReply x12 me a b (written (reply_of h (judged_by ed me a h b) me at book.interchange book.group))
        replied is = record {
          edition = ed;
          at = at;
          book = book;
          header = field.has_header_is b h known;
          plain = plain;
          due = ap (λ n. n.reply) (field.needs_is b h known ed me a) ∙ is;
          icn_taken = subst (λ (x : Numbers). 1 ≤ x.interchange) (sym book_is) (taken due last.interchange is);
          gcn_taken = λ group. subst (λ (x : Numbers). 1 ≤ x.group) (sym book_is) (taken takes last.group (sym (ap (λ n. n.group) (field.needs_is b h known ed me a)) ∙ group));
          within = within;
          bytes = sym (field.reply_is b h known ed me a at book);
        }

        by : (t : Bool) → is_reply_due h (judged_by ed me a h b) ≡ t → accepted_by_verdict h.sender h.icn (judged_by ed me a h b).verdict ≡ posted_by x12 (Came ed b r)
        by true is =
            sym (reply_posts me a b h known ed laws (written (reply_of h (judged_by ed me a h b) me at book.interchange book.group)) (replied is))
            ∙ ap (λ o. posted_by x12 (Came ed b o)) (with_reply h (judged_by ed me a h b) me at book.interchange book.group is ∙ sym r_is)
        by false is =
            posts.none (arrival h.sender h.icn b) (judged_by ed me a h b) (record {
              me = me;
              terms = terms_by ed a;
              header = h;
              is_header = known;
              partner = refl;
              icn = refl;
              judgement = refl;
              reply = record { at = at; icn = book.interchange; gcn = book.group; is = no_reply h (judged_by ed me a h b) me at book.interchange book.group is };
            })
            ∙ ap (λ o. posted_by x12 (Came ed b o)) (no_reply h (judged_by ed me a h b) me at book.interchange book.group is ∙ sym r_is)

    pub filing_rightly : IsFiledRightly (record { partner = h.sender; icn = h.icn; bytes = b; reply = r })
    filing_rightly = record {
      header = field.has_header_is b h known;
      partner = sym (field.sender_is b h known);
      icn = sym (field.number_is b h known);
    }

    reply_due : (x12.needs ed me a b).reply ≡ due
    reply_due = ap (λ (n : Needs). n.reply) (field.needs_is b h known ed me a)

    -- what is kept is the reply that was due
    pub filing_answered : WasAnswered ed me book (record { partner = h.sender; icn = h.icn; bytes = b; reply = r })
    filing_answered = record {
      agreements = a;
      at = at;
      numbers = book;
      interchange = omega arith;
      group = omega arith;
      reply = by due refl;
    }
      where
        by : (t : Bool) → due ≡ t → r ≡ (if (x12.needs ed me a b).reply then Some (x12.reply ed me a at book b) else None)
        by true is =
            r_is ∙ sym (with_reply h (judged_by ed me a h b) me at book.interchange book.group is)
            ∙ sym (if_true (x12.needs ed me a b).reply (Some (x12.reply ed me a at book b)) None (reply_due ∙ is) ∙ ap Some (field.reply_is b h known ed me a at book))
        by false is =
            r_is ∙ sym (no_reply h (judged_by ed me a h b) me at book.interchange book.group is)
            ∙ sym (if_false (x12.needs ed me a b).reply (Some (x12.reply ed me a at book b)) None (reply_due ∙ is))

-- The step of a new arrival is this filing.

module _ (s : Station) (b : Bytes) (h : Header) (known : header_of b ≡ Ok h) (book : Numbers) (book_is : book ≡ book_for s.book (needs_of (edition_next s) s.me s.agreements b h)) (at : Moment) (r : Option Bytes)
    (r_is : r ≡ due_reply h (judged_by (edition_next s) s.me s.agreements h b) s.me at book.interchange book.group) where
  abbrev step_of : Option Bytes → Option StationStep
  step_of o = Some (record { station = filed_now x12 s b o book; sends = option_to_list o })

  needs_due : (x12.needs (edition_next s) s.me s.agreements b).reply ≡ is_reply_due h (judged_by (edition_next s) s.me s.agreements h b)
  needs_due = ap (λ (n : Needs). n.reply) (field.needs_is b h known (edition_next s) s.me s.agreements)

  no_group : is_reply_due h (judged_by (edition_next s) s.me s.agreements h b) ≡ false → takes_group_number (judged_by (edition_next s) s.me s.agreements h b) ≡ false
  no_group none = by (takes_group_number (judged_by (edition_next s) s.me s.agreements h b)) refl
    where
      by : (t : Bool) → takes_group_number (judged_by (edition_next s) s.me s.agreements h b) ≡ t → takes_group_number (judged_by (edition_next s) s.me s.agreements h b) ≡ false
      by true is = clash (is_reply_due h (judged_by (edition_next s) s.me s.agreements h b)) (group_is_due h (judged_by (edition_next s) s.me s.agreements h b) is) none
      by false is = is

  pub step_is : IsTrue (is_within book) → arrive_new x12 s at b (book_for s.book (x12.needs (edition_next s) s.me s.agreements b)) ≡ Some (record { station = filed_now x12 s b r book; sends = option_to_list r })
  step_is within = ap (arrive_new x12 s at b) (ap (book_for s.book) (field.needs_is b h known (edition_next s) s.me s.agreements) ∙ sym book_is) ∙ by (is_reply_due h (judged_by (edition_next s) s.me s.agreements h b)) refl
    where
      by : (t : Bool) → is_reply_due h (judged_by (edition_next s) s.me s.agreements h b) ≡ t → arrive_new x12 s at b book ≡ step_of r
      by true is =
          if_true (x12.needs (edition_next s) s.me s.agreements b).reply (writes x12 book (replied x12 s b book (x12.reply (edition_next s) s.me s.agreements at book b))) (Some (record { station = filed_now x12 s b None s.book; sends = [] })) (needs_due ∙ is)
          ∙ if_true (is_within book) (Some (replied x12 s b book (x12.reply (edition_next s) s.me s.agreements at book b))) None within
          ∙ ap step_of (ap Some (field.reply_is b h known (edition_next s) s.me s.agreements at book) ∙ with_reply h (judged_by (edition_next s) s.me s.agreements h b) s.me at book.interchange book.group is ∙ sym r_is)
      by false is =
          let none : None ≡ r = no_reply h (judged_by (edition_next s) s.me s.agreements h b) s.me at book.interchange book.group is ∙ sym r_is in
          let same : s.book ≡ book = sym (book_is ∙ ap₂ (λ (x y : Bool). book_for s.book (record { reply = x; group = y })) is (no_group is)) in
          if_false (x12.needs (edition_next s) s.me s.agreements b).reply (writes x12 book (replied x12 s b book (x12.reply (edition_next s) s.me s.agreements at book b))) (Some (record { station = filed_now x12 s b None s.book; sends = [] })) (needs_due ∙ is)
          ∙ ap (λ (x : Numbers). Some (record { station = filed_now x12 s b None x; sends = [] })) same ∙ ap step_of none
