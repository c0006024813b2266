-- What a station counts of the evidence that comes, since it was opened or restarted.
use Rattle.std.specs.Prelude.{List, if◌then◌else◌}
use Rattle.x12_envelopes.specs.declared.party.Party.{Party}
use Rattle.x12_outbound.specs.declared.evidence.Counts.{Counts}
use Rattle.x12_outbound.specs.Counts.{with_pieces, only_unclear, counts_of_both}
use Rattle.x12_outbound.specs.Settling.{findings}
use Rattle.x12_profile.specs.declared.edition.Edition.{Edition}
use Rattle.x12_profile.specs.Interchange.{Bytes}
use Rattle.x12_profile.specs.Profile.{Profile}
use Rattle.x12_station.specs.History.{Item, submissions}
use Rattle.x12_station.specs.Key.{own_fates}

module _ (p : Profile) where
  -- the counts of one arrival: its answers that are unclear, and what each piece of its evidence is
  abbrev pub arrival_counts : Edition → Party → List Party → List Item → Bytes → Counts
  arrival_counts by me hubs items b =
      with_pieces (only_unclear (p.unclear b))
      (findings (own_fates p me hubs items) (p.pieces by hubs (submissions items) b))

  -- the counts after the first arrival of b; one that is refused brings no evidence
  abbrev pub count_arrival :
      Edition → Party → List Party → List Item → Bytes → Counts → Counts
  count_arrival by me hubs items b c =
      if p.refuses by me b then c else counts_of_both c (arrival_counts by me hubs items b)
