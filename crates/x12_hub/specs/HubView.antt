-- What is seen of a hub that runs over records, and what each call keeps of it.
use Rattle.std.specs.Prelude.{◌≡◌, ℕ, Bool, ◌==◌, ◌&&◌, nat_le, List, filter, length, IsTrue, ◌⊎◌, Result, OnErr, OnOk}
use Rattle.x12_hub.specs.declared.fault.HubFault.{HubFault}
use Rattle.x12_hub.specs.declared.fault.HubFault.TheVariants.{Store, Memory}
use Rattle.x12_hub.specs.Hub.{Hub, Mailbox}
use Rattle.x12_hub.specs.Stored.{WaitingItem}
use Rattle.x12_numbers.specs.Count.{CountRose}
use Rattle.x12_profile.specs.Stop.{CountsFailures}

-- what a hub has in memory beside its party: the last two numbers, the directory, and what waits,
-- by node and then by item number
pub record HubMemory : Type 0 where
  pub icn : ℕ
  pub item : ℕ
  pub directory : List Mailbox
  pub waiting : List WaitingItem

-- how many items memory has for a node, up to the last item number
abbrev pub waiting_for : HubMemory → ℕ → ℕ
waiting_for m node = length (filter (λ w. (w.node == node) && nat_le w.item m.item) m.waiting)

-- the records; the hub as they hold it; whether they have returned what was written, and answer;
-- whether their disk has returned what was written; how often their device has failed; and what is in
-- memory, whether the records answer or not
pub record HubView (H : Type 0) : Type 0 where
  pub records : H
  pub hub : Hub
  pub answers : Bool
  pub clean : Bool
  pub failures : ℕ
  pub memory : HubMemory

-- Each call keeps the party; wins neither answers back nor a clean disk; loses none by an Ok over a
-- clean disk; counts each failure of the device that it answers as one (B3), and nothing else; and
-- where it refuses, for whatever reason, leaves memory as it was.
pub record GoesOn {H A : Type 0} (r : Result A HubFault) (old new : HubView H) : Type 0 where
  pub me : new.hub.me ≡ old.hub.me
  pub never_won_back : IsTrue new.answers → IsTrue old.answers
  pub was_clean : IsTrue new.clean → IsTrue old.clean
  pub answered : IsTrue new.clean → OnOk r (IsTrue old.answers → IsTrue new.answers)
  pub counts : CountsFailures r (λ e. e ≡ Store) old.failures new.failures
  pub remembers : OnErr r (new.memory ≡ old.memory)

-- over a clean disk an Ok leaves a hub whose records answer
abbrev pub Answered : {H A E : Type 0} → Result A E → HubView H → Type 0
Answered r new = IsTrue new.clean → OnOk r (IsTrue new.answers)

-- want of memory (B4), where no failure was counted; or a failure of the device (B3), which was
abbrev pub FailsToStore : ℕ → ℕ → HubFault → Type 0
FailsToStore old new fault =
    ((fault ≡ Memory) × (new ≡ old)) ⊎ ((fault ≡ Store) × CountRose old new)
