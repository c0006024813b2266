-- What questions to a station's records answer, and what stays of them.
use Rattle.std.proofs.Common.{◌≡◌, ◌∙◌, refl, sym, ap, subst, IsTrue, Result, Ok, Err}
use Rattle.sqlite.specs.Effect.{Database}
use Rattle.sqlite.specs.State.{State}
use Rattle.sqlite.specs.Tree.{Trees}
use Rattle.x12_station.specs.Stored.{IsSound}
use Rattle.x12_tables.proofs.ReadLemmas.{then_reads}
use Rattle.x12_tables.specs.Read.{OnlyReads, Answers}
use Rattle.x12_station_records.specs.StationContent.{content_of, IsValid}
use Rattle.x12_station_records.specs.StationNumbers.{AreMarked, numbers_kept_of}
use Rattle.x12_station_records.specs.StationPlan.{HoldsRows}
use Rattle.x12_station_records.specs.StationRead.{HasValid}
use Rattle.x12_station_records.specs.declared.station_committing.NextRows.{NextRows}

-- nothing was read
pub no_reads : (a : State) → OnlyReads a a
no_reads a = record {
  mode = λ m. m;
  never_won_back = λ o. o;
  committed = λ o. refl;
  same = λ settled o. refl;
  clean = λ c. c;
  crash = λ clean db left. left;
}

-- another question behind a call that only reads
pub answers_then : {A E : Type 0} (Valid : State → Type 0) (P Q : Trees → A → Type 0) (r : Result A E) (a b c : State)
    → OnlyReads a b → Answers Valid P r b c → (IsTrue b.is_open → Valid a → Valid b × ((x : A) → P b.now.trees x → Q a.now.trees x)) → Answers Valid Q r a c
answers_then Valid P Q (Ok x) a b c reads answers joins = record {
  reads = then_reads a b c reads answers.reads;
  answered = answers.answered;
  found = λ valid o. let join = joins (answers.reads.never_won_back o) valid in join.1 x (answers.found join.0 o);
}
answers_then Valid P Q (Err e) a b c reads answers joins = record { reads = then_reads a b c reads answers.reads; answered = λ c. tt; found = λ valid o. tt }

pub station_kept : (next : NextRows) (old new : State) → OnlyReads old new → IsValid next old → IsValid next new
station_kept next old new reads v =
    let same : IsTrue new.is_open → new.now ≡ old.now = λ o. reads.same (v.settled (reads.never_won_back o)) o in
    record {
      outside = reads.mode v.outside;
      settled = λ o. same o ∙ v.settled (reads.never_won_back o) ∙ sym (reads.committed o);
      holds = λ o. subst (λ (d : Database). HoldsRows next d (content_of d.trees)) (sym (same o)) (v.holds (reads.never_won_back o));
      sound = λ o. subst (λ (d : Database). IsSound (content_of d.trees)) (sym (same o)) (v.sound (reads.never_won_back o));
      marked = λ o. subst (λ (d : Database). AreMarked (numbers_kept_of (content_of d.trees))) (sym (same o)) (v.marked (reads.never_won_back o));
    }

pub station_still : (old new : State) → OnlyReads old new → HasValid old → HasValid new
station_still old new reads has = (has.0, station_kept has.0 old new reads has.1)

pub station_same : (old new : State) → OnlyReads old new → HasValid old → IsTrue new.is_open → content_of new.now.trees ≡ content_of old.now.trees
station_same old new reads has o = ap (λ (d : Database). content_of d.trees) (reads.same (has.1.settled (reads.never_won_back o)) o)
