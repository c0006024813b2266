-- What the records of a station refuse, and what a hub says of bytes, is what a core refuses.
use Rattle.std.specs.Prelude.{◌≡◌, ℕ, true, Some, Result, Ok, Err, IfErr, refl}
use mathlib.Core.Path.{subst, sym}
use Rattle.std.specs.Result.{IsErrAnd}
use Rattle.x12_core.specs.Ask.{Ask, suits, row_of_ask}
use Rattle.x12_core.specs.Core.{IsCoreRefusal}
use Rattle.x12_core.specs.declared.fault.CoreFault.{CoreFault}
use Rattle.x12_core.specs.declared.fault.CoreFault.TheVariants as code
use Rattle.x12_core.specs.declared.fault.NodeFault.TheVariants.{OfStation, OfHub}
use Rattle.x12_core.specs.Fault.{IsHubFault}
use Rattle.x12_core.specs.Node.{IsStation}
use Rattle.x12_envelopes.specs.declared.header.HeaderFault.{HeaderFault}
use Rattle.x12_envelopes.specs.Header.{header_of}
use Rattle.x12_hub.specs.declared.fault.HubFault.{HubFault}
use Rattle.x12_hub.specs.declared.fault.HubFault.TheVariants as hub
use Rattle.x12_hub.specs.Hub.{Hub}
use Rattle.x12_hub.specs.HubRefusal.{deposit_refusal, Exhausted}
use Rattle.x12_profile.specs.Interchange.{Bytes}
use Rattle.x12_profile.specs.X12.{x12}
use Rattle.x12_station.specs.declared.fault.StationFault.{StationFault}
use Rattle.x12_station.specs.Fault.{IsOfRecords}
use Rattle.x12_station.specs.Station.{Station}

-- a fault of the records is one of any table
pub records_refuse : {A : Type 0} (r : Result A CoreFault) (fault : StationFault) (a : Ask) (s : Station) → ((i : ℕ) → suits i a (IsStation s) ≡ true) → IsOfRecords fault → IsErrAnd r (λ e. e ≡ code.Node (OfStation fault))
    → IfErr r (λ f. (i : ℕ) → IsCoreRefusal i a (IsStation s) f)
records_refuse (Ok x) fault a s fits any is = tt
records_refuse (Err e) fault a s fits any is = λ i. subst (IsCoreRefusal i a (IsStation s)) (sym is) (fits i, any (row_of_ask a s))

pub records_refuse_at : {A : Type 0} (r : Result A CoreFault) (fault : StationFault) (a : Ask) (s : Station) (i : ℕ) → suits i a (IsStation s) ≡ true → IsOfRecords fault → IsErrAnd r (λ e. e ≡ code.Node (OfStation fault))
    → IfErr r (IsCoreRefusal i a (IsStation s))
records_refuse_at (Ok x) fault a s i fits any is = tt
records_refuse_at (Err e) fault a s i fits any is = subst (IsCoreRefusal i a (IsStation s)) (sym is) (fits, any (row_of_ask a s))

-- what a hub says of bytes that come to it
pub fault_is : (h : Hub) (b : Bytes) (fault : HubFault) → ((f : HeaderFault) → fault ≡ hub.Unreadable f → header_of b ≡ Err f) → (fault ≡ hub.Exhausted → deposit_refusal x12 h b ≡ Some Exhausted) → IsHubFault h (Some b) fault
fault_is h b (hub.Unreadable f) unreadable exhausted = unreadable f refl
fault_is h b hub.Exhausted unreadable exhausted = exhausted refl
fault_is h b hub.Store unreadable exhausted = tt
fault_is h b hub.Memory unreadable exhausted = tt

pub handed : {A : Type 0} (r : Result A CoreFault) (fault : HubFault) (P : CoreFault → Type 0) → P (code.Node (OfHub fault)) → IsErrAnd r (λ e. e ≡ code.Node (OfHub fault)) → IfErr r P
handed (Ok x) fault P is same = tt
handed (Err e) fault P is same = subst P (sym same) is
