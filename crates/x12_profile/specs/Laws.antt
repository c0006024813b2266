-- The laws that an X12 profile has to meet. Nothing else is assumed of it.
use Rattle.std.specs.Prelude.{◌≡◌, ◌≢◌, ℕ, ◌≤◌, List, [], ◌∷◌, false, IsTrue, Contains, filter, ◌⊎◌}
use Rattle.x12_numbers.specs.declared.book.TheConstants.{MAX_CONTROL_NUMBER}
use Rattle.x12_numbers.specs.Book.{is_rising}
use Rattle.x12_envelopes.specs.declared.party.Party.{Party}
use Rattle.x12_envelopes.specs.declared.moment.Moment.{Moment}
use Rattle.x12_judge.specs.Agreement.{TradingAgreement}
use Rattle.x12_profile.specs.declared.edition.Edition.{Edition}
use Rattle.x12_profile.specs.Interchange.{Bytes, PlaceOfSet, PlacedTransactionSet, PlacedEvidence, Book, is_place, evidence_by, is_within}
use Rattle.x12_profile.specs.Profile.{Profile}
use Rattle.x12_judge.specs.declared.verdict.SetResult.TheVariants.{Rejected}
use Rattle.x12_judge.specs.Set.{takes}

-- r is the reply of me to b by some edition, which was due, at some moment and under numbers that may
-- be written
pub record IsReply (p : Profile) (me : Party) (a : List TradingAgreement)
    (b r : Bytes) : Type 0 where
  pub edition : Edition
  pub at : Moment
  pub book : Book
  pub header : IsTrue (p.has_header b)
  pub plain : IsTrue (p.is_plain me)
  pub due : IsTrue (p.needs edition me a b).reply
  pub icn_taken : 1 ≤ book.interchange
  pub gcn_taken : IsTrue (p.needs edition me a b).group → 1 ≤ book.group
  pub within : IsTrue (is_within book)
  pub bytes : r ≡ p.reply edition me a at book b

-- r is a TA1 R by me on b, with note 009 or 025, at some moment and under a number that may be
-- written
pub record IsTa1Refusal (p : Profile) (me : Party) (b r : Bytes) : Type 0 where
  pub note : ℕ
  pub known : (note ≡ 9) ⊎ (note ≡ 25)
  pub at : Moment
  pub icn : ℕ
  pub header : IsTrue (p.has_header b)
  pub plain : IsTrue (p.is_plain me)
  pub taken : 1 ≤ icn
  pub within : icn ≤ MAX_CONTROL_NUMBER
  pub bytes : r ≡ p.refusal note me at icn b

-- two interchanges have a group number in common
abbrev pub SharesGroup : Profile → Bytes → Bytes → Type 0
SharesGroup p x y = (g : ℕ) × Contains (p.groups x) g × Contains (p.groups y) g

-- Of every interchange, and of one that is submitted.
pub record SubmissionLaws (p : Profile) : Type 0 where
  -- what is submitted has a group
  pub has_group : (x : Bytes) → IsTrue (p.is_submission x) → p.groups x ≢ []
  -- a place names one set
  pub one_at_a_place :
      (x : Bytes) (s : PlacedTransactionSet) → Contains (p.sets x) s →
      filter (λ t. is_place s.place t.place) (p.sets x) ≡ s ∷ []
  -- what is submitted brings evidence for nothing
  pub tells_nothing :
      (by : Edition) (hubs : List Party) (b x : Bytes) → IsTrue (p.is_submission b) →
      p.evidence by hubs b x ≡ []

-- What a station answers.
pub record ReplyLaws (p : Profile) : Type 0 where
  -- it is from the station, to the sender, under the number that it took
  pub from :
      (me : Party) (a : List TradingAgreement) (b r : Bytes) → IsReply p me a b r →
      p.sender r ≡ me
  pub to :
      (me : Party) (a : List TradingAgreement) (b r : Bytes) → IsReply p me a b r →
      p.receiver r ≡ p.sender b
  pub number :
      (me : Party) (a : List TradingAgreement) (b r : Bytes) (w : IsReply p me a b r) →
      p.number r ≡ w.book.interchange
  -- it holds no group that is to be acknowledged
  pub no_groups :
      (me : Party) (a : List TradingAgreement) (b r : Bytes) → IsReply p me a b r → p.groups r ≡ []
  -- it tells only of what has the answered number or one of the answered groups' numbers
  pub about :
      (me : Party) (a : List TradingAgreement) (b r : Bytes) → IsReply p me a b r →
      (by : Edition) (hubs : List Party) (x : Bytes) (e : PlacedEvidence) →
      Contains (p.evidence by hubs r x) e →
      (p.number b ≡ p.number x) ⊎ SharesGroup p b x
  -- the sender of what it answers doesn't refuse it
  pub is_taken :
      (me : Party) (a : List TradingAgreement) (b r : Bytes) → IsReply p me a b r →
      (by : Edition) → p.refuses by (p.sender b) r ≡ false
  -- to a submission by its receiver it tells the verdict, of each set once
  pub tells :
      (me : Party) (a : List TradingAgreement) (x r : Bytes) (w : IsReply p me a x r) →
      IsTrue (p.is_submission x) → (n : ℕ) → IsTrue (is_rising n (p.groups x)) →
      p.receiver x ≡ me → (by : Edition) (hubs : List Party) →
      p.evidence by hubs r x ≡ evidence_by by (p.verdict w.edition me a x) (p.sets x)
  -- it says what the verdict says, at each place
  pub result :
      (me : Party) (a : List TradingAgreement) (b r : Bytes) (w : IsReply p me a b r)
      (k : PlaceOfSet) → p.result b r k ≡ p.verdict w.edition me a b k
  -- it accepts nothing of an interchange without groups to be acknowledged, nor of one to another
  -- receiver
  pub accepts_no_group :
      (me : Party) (a : List TradingAgreement) (b r : Bytes) → IsReply p me a b r →
      p.groups b ≡ [] → (k : PlaceOfSet) → takes (p.result b r k) ≡ false
  pub accepts_no_other :
      (me : Party) (a : List TradingAgreement) (b r : Bytes) → IsReply p me a b r →
      p.receiver b ≢ me → (k : PlaceOfSet) → takes (p.result b r k) ≡ false

-- What a hub answers where it knows no mailbox, and a station on other bytes under a filed number.
pub record RefusalLaws (p : Profile) : Type 0 where
  -- it is from the node, to the sender, under the number that it took
  pub from : (me : Party) (b r : Bytes) → IsTa1Refusal p me b r → p.sender r ≡ me
  pub to : (me : Party) (b r : Bytes) → IsTa1Refusal p me b r → p.receiver r ≡ p.sender b
  pub number : (me : Party) (b r : Bytes) (w : IsTa1Refusal p me b r) → p.number r ≡ w.icn
  -- it holds no group that is to be acknowledged
  pub no_groups : (me : Party) (b r : Bytes) → IsTa1Refusal p me b r → p.groups r ≡ []
  -- it tells only of what has the refused number
  pub about :
      (me : Party) (b r : Bytes) → IsTa1Refusal p me b r →
      (by : Edition) (hubs : List Party) (x : Bytes) (e : PlacedEvidence) →
      Contains (p.evidence by hubs r x) e → p.number b ≡ p.number x
  -- the sender of what it refuses doesn't refuse it
  pub is_taken :
      (me : Party) (b r : Bytes) → IsTa1Refusal p me b r →
      (by : Edition) → p.refuses by (p.sender b) r ≡ false
  -- by a hub on a submission it rejects each set once
  pub tells :
      (me : Party) (x r : Bytes) → IsTa1Refusal p me x r → IsTrue (p.is_submission x) →
      (by : Edition) (hubs : List Party) → Contains hubs me →
      p.evidence by hubs r x ≡ evidence_by by (λ k. Rejected) (p.sets x)

pub record Laws (p : Profile) : Type 0 where
  pub submission : SubmissionLaws p
  pub reply : ReplyLaws p
  pub refusal : RefusalLaws p
  -- only the receiver of a submission, or a hub, tells of its sets
  pub told_by :
      (by : Edition) (hubs : List Party) (b x : Bytes) (e : PlacedEvidence) →
      Contains (p.evidence by hubs b x) e →
      (p.sender b ≡ p.receiver x) ⊎ Contains hubs (p.sender b)
  -- a station refuses what isn't addressed to it
  pub refuses_others :
      (by : Edition) (me : Party) (b : Bytes) → IsTrue (p.has_header b) →
      p.refuses by me b ≡ false → p.receiver b ≡ me
