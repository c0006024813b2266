-- The fate of a set by its key is that of its row.
use Rattle.std.proofs.Common.{◌≡◌, ◌∙◌, ap, sym, subst, refl, true, false, None, List, map}
use Rattle.x12_envelopes.specs.declared.party.Party.{Party}
use Rattle.x12_judge.specs.Agreement.{is_same_party}
use Rattle.x12_acks.specs.Named.{SubmissionsRise}
use Rattle.x12_acks.specs.Submission.{TransactionSetKey}
use Rattle.x12_outbound.specs.Entry.{submission_of_entry}
use Rattle.x12_profile.specs.X12.{x12}
use Rattle.x12_station.specs.Durable.{IsHistoryOf, items_of}
use Rattle.x12_station.specs.Key.{own_fates}
use Rattle.x12_station.specs.Stored.{Stored, stored_fate, entries}
use Rattle.x12_station.proofs.FateLookupLemmas.{stored_fate_is}
use Rattle.x12_station.proofs.KnownLemmas.{own_fates_are, submitted_are}
use Rattle.x12_station.proofs.OwnLemmas.{fates_in}

module _ (me : Party) (hubs : List Party) (s : Stored) (durable : IsHistoryOf me hubs s) where
  fates_are_in : (k : TransactionSetKey) → own_fates x12 me hubs (items_of s) k ≡ fates_in me (entries s) k
  fates_are_in k = own_fates_are me hubs (items_of s) durable.own (subst (λ es. SubmissionsRise es) (ap (map (submission_of_entry me)) durable.fates ∙ submitted_are me hubs (items_of s) durable.own) (durable.sound.in_order me).before) k
      ∙ ap (λ es. fates_in me es k) (sym durable.fates)

  pub own_fate_is : (k : TransactionSetKey) → is_same_party k.sender me ≡ true → own_fates x12 me hubs (items_of s) k ≡ stored_fate s.sets k
  own_fate_is k mine = fates_are_in k ∙ rw mine (sym (stored_fate_is s k durable.sound))

  pub no_own_fate : (k : TransactionSetKey) → is_same_party k.sender me ≡ false → own_fates x12 me hubs (items_of s) k ≡ None
  no_own_fate k other = fates_are_in k ∙ rw other refl
