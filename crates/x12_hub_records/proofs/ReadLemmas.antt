-- What questions to a hub's records answer, and what stays of them.
use Rattle.std.proofs.Common.{◌≡◌, ◌∙◌, ℕ, sym, ap, subst, IsTrue}
use Rattle.sqlite.specs.Effect.{Database}
use Rattle.sqlite.specs.State.{State}
use Rattle.x12_hub.specs.Stored.{IsSoundHub}
use Rattle.x12_tables.specs.Read.{OnlyReads}
use Rattle.x12_hub_records.specs.HubContent.{IsValidHub, hub_content_of}
use Rattle.x12_hub_records.specs.HubRead.{HasValidHub}
use Rattle.x12_hub_records.specs.HubTables.{HasHubTables}

-- records that were only read are valid as before
pub hub_kept : (last : ℕ) (old new : State) → OnlyReads old new → IsValidHub last old → IsValidHub last new
hub_kept last old new reads v =
    let same : IsTrue new.is_open → new.now ≡ old.now = λ o. reads.same (v.settled (reads.never_won_back o)) o in
    record {
      outside = reads.mode v.outside;
      settled = λ o. same o ∙ v.settled (reads.never_won_back o) ∙ sym (reads.committed o);
      holds = λ o. subst (λ (d : Database). HasHubTables last d (hub_content_of d.trees)) (sym (same o)) (v.holds (reads.never_won_back o));
      sound = λ o. subst (λ (d : Database). IsSoundHub (hub_content_of d.trees)) (sym (same o)) (v.sound (reads.never_won_back o));
    }

-- the same where the numbers of the next rows aren't told, and that they stand for what they stood for
pub hub_still : (old new : State) → OnlyReads old new → HasValidHub old → HasValidHub new
hub_still old new reads has = (has.0, hub_kept has.0 old new reads has.1)

pub hub_same : (old new : State) → OnlyReads old new → HasValidHub old → IsTrue new.is_open → hub_content_of new.now.trees ≡ hub_content_of old.now.trees
hub_same old new reads has o = ap (λ (d : Database). hub_content_of d.trees) (reads.same (has.1.settled (reads.never_won_back o)) o)
