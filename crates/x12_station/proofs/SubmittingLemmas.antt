-- What memory tells of a station, and what a submission makes of it.
use Rattle.std.specs.Prelude.{◌≡◌, [], ◌∷◌, Option, None, Some, is_none, replicate, refl, if◌then◌else◌}
use mathlib.Core.Path.{sym, subst, ◌∙◌}
use Rattle.std.proofs.lemmas.List.{length-replicate}
use Rattle.x12_profile.specs.Interchange.{Bytes}
use Rattle.x12_profile.specs.X12.{x12}
use Rattle.x12_profile.specs.Edition.{no_marks}
use Rattle.x12_station.specs.declared.cached.Cached.{Cached}
use Rattle.x12_station.specs.Entering.{IsHeld}
use Rattle.x12_station.specs.Fault.{prepared_fault}
use Rattle.x12_station.specs.History.{Submitted}
use Rattle.x12_station.specs.Keeps.{IsReady}
use Rattle.x12_station.specs.working.Prepared.{Knows}
use Rattle.x12_station.specs.Opened.{HoldsState}
use Rattle.x12_station.specs.Seen.{station_of}
use Rattle.x12_station.specs.Station.{Station}
use Rattle.x12_station.specs.StationRefusal.{StationRefusal, prepared_refusal}
use Rattle.x12_station.specs.StationStep.{StationStep, submit, entered}
use Rattle.x12_station.specs.Stopped.{HoldsStep}
use Rattle.x12_station.specs.Stored.{Stored}
use Rattle.x12_station.proofs.ItemLemmas.{length_items}
use Rattle.x12_station.proofs.TableLemmas.{prepared_empty}

pub knows_held : (m : Cached) (s : Stored) → IsReady m → IsHeld m s → Knows m (station_of m.ledger.holds m.counts s)
knows_held m s ready held = record {
  me = ready.me;
  book = sym held.0.book;
  last = length_items s held.1.sound.numbered ∙ sym held.0.seq;
}

taken : (r : Option StationRefusal) (step : StationStep) → r ≡ None → (if is_none r then Some step else None) ≡ Some step
taken r step none = rw none refl

-- what no row refuses is submitted
pub submit_taken : (s : Station) (x b : Bytes) (t : Station) → prepared_fault s x ≡ None → t ≡ entered x12 s x → b ≡ x → submit x12 s x ≡ Some (record { station = t; sends = b ∷ [] })
submit_taken s x b t none after same =
    taken (prepared_refusal x12 s x) (record { station = entered x12 s x; sends = x ∷ [] }) ((prepared_empty s x).0 none).0
    ∙ rw (after, same) refl

-- and records that hold it then hold what the step leaves
pub submit_held : (s : Station) (x : Bytes) (d : Stored) → prepared_fault s x ≡ None → HoldsState (entered x12 s x) d → HoldsStep (submit x12 s x) d
submit_held s x d none holds = subst (λ step. HoldsStep step d) (sym (submit_taken s x x (entered x12 s x) none refl refl)) holds

-- a station that memory may tell of
pub some_known : (m : Cached) → (s : Station) × Knows m s
some_known m = (
  record { me = m.me; hubs = []; marks = no_marks; items = replicate m.seq (Submitted []); agreements = []; book = m.book; tick = 0; sendings = []; counts = m.counts },
  record { me = refl; book = refl; last = length-replicate m.seq (Submitted []) },
)
