-- The duplicate register of a receiver: its filed interchanges and their postings.
use Rattle.std.specs.Prelude.{◌≡◌, ℕ, Bool, true, List, [], ◌∷◌, ◌++◌, Option, find, All, AllPairs}
use Rattle.std.specs.List.{IsDistinct, list_any}
use Rattle.std.specs.List.Sorted.{IsPermutation}
use Rattle.std.specs.declared.cmp.Ordering.TheVariants.{Less}
use Rattle.x12_envelopes.specs.declared.party.Party.{Party}
use Rattle.x12_acks.specs.Submission.{TransactionSetKey}
use Rattle.x12_acks.specs.Key.{is_same_key}
use Rattle.x12_inbound.specs.Order.{InterchangeKey, interchange, interchange_holding, is_same_interchange, interchange_order}
use Rattle.x12_inbound.specs.Filing.{FiledInterchange, filed_key}
use Rattle.x12_acks.specs.Accepted.{AcceptedSet}
use Rattle.x12_inbound.specs.Arrival.{Filing, RiseByKey}

-- a register: the filed interchanges and the postings, each by rising key, and for how many more of
-- them it has room
pub record DuplicateRegister : Type 0 where
  pub filed : List FiledInterchange
  pub postings : List AcceptedSet
  pub room : ℕ
  pub posting_room : ℕ

-- filed under this key
abbrev pub is_under : InterchangeKey → FiledInterchange → Bool
is_under key f = is_same_interchange (filed_key f) key

-- what is filed of the interchange of this sender and number
abbrev pub found_in : List FiledInterchange → InterchangeKey → Option FiledInterchange
found_in filed key = find (is_under key) filed

abbrev pub found : DuplicateRegister → Party → ℕ → Option FiledInterchange
found v partner icn = found_in v.filed (interchange partner icn)

-- the posting of this key
abbrev pub posted_in : List AcceptedSet → TransactionSetKey → Option AcceptedSet
posted_in postings key = find (λ p. is_same_key p.key key) postings

abbrev pub register_posting : DuplicateRegister → TransactionSetKey → Option AcceptedSet
register_posting v key = posted_in v.postings key

-- each interchange is below those behind it
abbrev pub RiseByNumber : List FiledInterchange → Type 0
RiseByNumber filed = AllPairs (λ f g. interchange_order (filed_key f) (filed_key g) ≡ Less) filed

-- each posting is of a filed interchange
abbrev pub AreOfFiled : List FiledInterchange → List AcceptedSet → Type 0
AreOfFiled filed postings =
    All (λ p. list_any (is_under (interchange_holding p.key)) filed ≡ true) postings

-- what a register holds: by rising key, and postings of filed interchanges alone
pub record IsInOrder (filed : List FiledInterchange) (postings : List AcceptedSet) : Type 0 where
  pub filed_rise : RiseByNumber filed
  pub postings_rise : RiseByKey postings
  pub of_filed : AreOfFiled filed postings

-- what a register can be made of: no sender and number stands twice, no key stands twice, and each
-- posting is of a filed interchange
pub record AreRecords (filed : List FiledInterchange) (postings : List AcceptedSet) : Type 0 where
  pub filed_once : IsDistinct (λ f g. is_same_interchange (filed_key f) (filed_key g)) filed
  pub posted_once : IsDistinct (λ p q. is_same_key p.key q.key) postings
  pub of_filed : AreOfFiled filed postings

-- the register with this interchange and its postings: nothing else is filed or posted, and nothing
-- is lost; they are found, and else what was found before
pub record FilesInterchange (k : Filing) (old new : DuplicateRegister) : Type 0 where
  pub filed : IsPermutation (k.filed ∷ old.filed) new.filed
  pub postings : IsPermutation (k.postings ++ old.postings) new.postings
  pub finds : (key : InterchangeKey) → found_in new.filed key ≡ found_in (k.filed ∷ old.filed) key
  pub shows :
      (key : TransactionSetKey) →
      posted_in new.postings key ≡ posted_in (k.postings ++ old.postings) key

-- the register of these interchanges and these postings
pub record IsRegisterOf (fs : List FiledInterchange) (ps : List AcceptedSet)
    (v : DuplicateRegister) : Type 0 where
  pub filed : IsPermutation fs v.filed
  pub postings : IsPermutation ps v.postings
  pub finds : (key : InterchangeKey) → found_in v.filed key ≡ found_in fs key
  pub shows : (key : TransactionSetKey) → posted_in v.postings key ≡ posted_in ps key

-- a register that holds nothing
unfoldable pub empty_register : ℕ → ℕ → DuplicateRegister
empty_register room posting_room =
    record { filed = []; postings = []; room = room; posting_room = posting_room }
