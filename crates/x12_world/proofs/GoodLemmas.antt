-- No audit of a world that was reached is bad: the sender's fate and the receiver's postings are one exchange's.
use Rattle.std.specs.Prelude.{◌≡◌, ℕ, Bool, true, false, [], ◌∷◌, bytes_eq, length, Option, Some, None, Contains, refl, is_some, if◌then◌else◌}
use Rattle.std.specs.List.{list_all}
use mathlib.Core.Path.{sym, ap, subst, ◌∙◌}
use Rattle.x12_judge.specs.Agreement.{is_same_party}
use Rattle.x12_profile.proofs.PartyLemmas.{is_same_party-Decides}
use Rattle.x12_judge.specs.declared.verdict.SetResult.{SetResult}
use Rattle.x12_judge.specs.declared.verdict.SetResult.TheVariants.{Accepted, Noted, Rejected}
use Rattle.x12_judge.specs.Set.{takes}
use Rattle.x12_acks.specs.Evidence.{fate_of_result}
use Rattle.x12_profile.specs.Interchange.{Bytes, PlacedTransactionSet}
use Rattle.x12_profile.specs.Profile.{Profile}
use Rattle.x12_profile.specs.Laws.{Laws}
use Rattle.x12_station.specs.History.{submissions}
use Rattle.x12_station.specs.Key.{own_key, own_keys, own_sets}
use Rattle.x12_station.specs.Station.{Station}
use Rattle.x12_station.proofs.ListLemmas.{contains_map, contains_flat_map}
use Rattle.x12_numbers.proofs.Shelf.{bytes_eq_itself, found_passes, some_inj}
use Rattle.x12_outbound.specs.Fate.{ended}
use Rattle.x12_outbound.specs.declared.fate.Fate.TheVariants.{Pending}
use Rattle.x12_world.specs.Audit.{Audit, KeysTell, NoAuditIsBad, audit, audit_of, station_named, stations_of}
use Rattle.x12_report.specs.Audit.{postings_are_bad}
use Rattle.x12_world.specs.Exchange.{Exchange, Judged, Learnt, Refines, Standing, Unknown, Waiting, fate_of, posted_of, result_of}
use Rattle.x12_world.specs.Network.{Network}
use Rattle.x12_world.specs.World.{World, StationAt}
use Rattle.x12_world.proofs.KeyLemmas.{own, own_from, station_node}
use Rattle.x12_world.proofs.WorldLemmas.{Sound}

-- what an exchange has of a set is not bad: its fate, and what is posted
good : (st : Standing) (t : PlacedTransactionSet) → postings_are_bad (fate_of st t.place) (list_all (bytes_eq t.bytes) (posted_of st t)) (Some (length (posted_of st t))) ≡ false
good Unknown t = refl
good Waiting t = refl
good (Judged v) t = by (takes (result_of v t.place))
  where
    by : (b : Bool) → postings_are_bad Pending (list_all (bytes_eq t.bytes) (if b then t.bytes ∷ [] else [])) (Some (length (if b then t.bytes ∷ [] else []))) ≡ false
    by true = rw (bytes_eq_itself t.bytes) refl
    by false = refl
good (Learnt v) t = by (result_of v t.place)
  where
    by : (r : SetResult) → postings_are_bad (ended (fate_of_result r)) (list_all (bytes_eq t.bytes) (if takes r then t.bytes ∷ [] else [])) (Some (length (if takes r then t.bytes ∷ [] else []))) ≡ false
    by Accepted = rw (bytes_eq_itself t.bytes) refl
    by Noted = rw (bytes_eq_itself t.bytes) refl
    by Rejected = refl

module _ (p : Profile) (laws : Laws p) (net : Network) (w : World) (was : Sound p net w) (keys : KeysTell p w) (e : Exchange) (refines : Refines p w e) where
  -- of a set that a station submitted
  of_own : (i : ℕ) (s : Station) (x : Bytes) (t : PlacedTransactionSet) → StationAt w i s → Contains (submissions s.items) x → Contains (p.sets x) t
      → let a = audit_of p w s (own x t) in postings_are_bad a.fate a.intact a.posted ≡ false
  of_own i s x t at has_x has_t = by (station_named w (p.receiver x)) refl
    where
      by : (o : Option Station) → station_named w (p.receiver x) ≡ o → let a = audit_of p w s (own x t) in postings_are_bad a.fate a.intact a.posted ≡ false
      by None none = rw none refl
      by (Some r) some =
          let found = found_passes (λ q. is_same_party q.me (p.receiver x)) (stations_of w) r some in
          let node = station_node p laws net w was r found.0 in
          let me = (is_same_party-Decides r.me (p.receiver x)).0 found.1 in
          let known = (refines.interchanges x).1 ((s, (i, at, has_x)), (node.0, r, node.1, me)) in
          let fate = refines.fates s x t (i, at, has_x) known has_t in
          let posted = refines.posted node.0 r x t node.1 known me has_t in
          rw (some, fate, posted) (good (e x) t)

  pub none_is_bad : NoAuditIsBad p w
  none_is_bad k a is =
      let key = (keys.exactly k).1 (ap is_some is) in
      let from = contains_flat_map (λ s. own_keys p s.items) (stations_of w) k key in
      let node = station_node p laws net w was from.0 from.1 in
      let c = contains_map (own_key p) (own_sets p from.0.items) k from.2 in
      let set = own_from p from.0.items c.0 c.1 in
      let audited = keys.audited node.0 from.0 c.0.interchange c.0.set node.1 set.0 set.1 in
      let same = some_inj (sym audited ∙ (ap (audit p w) c.2 ∙ is)) in
      subst (λ (b : Audit). postings_are_bad b.fate b.intact b.posted ≡ false) same (of_own node.0 from.0 c.0.interchange c.0.set node.1 set.0 set.1)
