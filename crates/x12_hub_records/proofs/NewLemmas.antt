-- What a transaction leaves that makes new records, or fails.
use Rattle.std.proofs.Common.{◌≡◌, false, refl, sym, subst, Ok, IsTrue}
use Rattle.sqlite.specs.State.{State, HasCleanDisk}
use Rattle.sql_rows.specs.Kept.{IsWhole}
use Rattle.x12_envelopes.specs.declared.party.Party.{Party}
use Rattle.x12_hub.specs.Stored.{IsSoundHub, hub_nothing_stored}
use Rattle.x12_tables.specs.Schema.{no_schema}
use Rattle.x12_hub_records.proofs.ContentLemmas.{content_is}
use Rattle.x12_hub_records.specs.HubContent.{IsValidHub, hub_content_of}
use Rattle.x12_hub_records.specs.HubCreate.{NewHubRecords}
use Rattle.x12_hub_records.specs.HubTables.{HasHubTables}

module _ {A E : Type 0} (x : A) (party : Party) (old new : State) (empty : old.now.schema ≡ no_schema) (w : IsWhole {E = E} (NewHubRecords party) (Ok x) old new) (law : IsTrue new.is_open → HasCleanDisk new) where
  founded : IsTrue new.is_open → HasHubTables 0 new.now (hub_nothing_stored party)
  founded o = (w.done (law o)).change (record { schema_is = empty; empty = tt })

  pub holds_nothing : IsTrue new.is_open → hub_content_of new.now.trees ≡ hub_nothing_stored party
  holds_nothing o = content_is 0 new.now (hub_nothing_stored party) (founded o) tt

  pub valid_new : new.in_transaction ≡ false → IsValidHub 0 new
  valid_new outside = record {
    outside = outside;
    settled = λ o. (w.done (law o)).settled;
    holds = λ o. subst (HasHubTables 0 new.now) (sym (holds_nothing o)) (founded o);
    sound = λ o. subst IsSoundHub (sym (holds_nothing o)) (record { once = tt; count = refl; refused = refl; numbered = tt; waits = tt; rising = tt });
  }

  pub answers_new : HasCleanDisk new → IsTrue new.is_open
  answers_new clean = (w.done clean).is_open
