-- That a station wrote records is a proposition, and with the form of its tables the history of that station.
use Rattle.std.proofs.Common.{◌≡◌, ◌∙◌, ℕ, Bool, List, All, IsTrue, refl, sym, ap₂, subst}
use Rattle.std.specs.Coded.{Coded, Coded-set, code_by, coded×, coded_ℕ, coded_bool, coded_list}
use Rattle.x12_acks.specs.Accepted.{AcceptedSet}
use Rattle.x12_acks.specs.Submission.{TransactionSetKey}
use Rattle.x12_envelopes.specs.declared.party.Party.{Party}
use Rattle.x12_numbers.specs.Book.{Numbers}
use Rattle.x12_outbound.specs.Entry.{InterchangeRow, GroupRow, SetRow}
use Rattle.x12_outbound.specs.declared.fate.Fate.{Fate}
use Rattle.x12_profile.specs.Edition.{Marks}
use Rattle.x12_profile.specs.Interchange.{Bytes}
use Rattle.x12_station.specs.Durable.{IsHistoryOf, IsOwnSubmission, IsFiledRightly, IsAnsweredRightly, fared_entries, items_of}
use Rattle.x12_station.specs.History.{submissions}
use Rattle.x12_station.specs.Stored.{Stored, StoredArrival, IsSound, entries, marks_of}
use Rattle.x12_station_records.proofs.StationContentLemmas.{fate_back}
use Rattle.x12_station_records.specs.StationContent.{fate_numbered}
use Rattle.x12_station_records.specs.StationTables.{fate_number}
use Rattle.x12_records.specs.Left.{IsWritten}

-- Codes of what records hold, as tuples of numbers and lists of them.
abbrev coded_bytes : Coded (List ℕ)
coded_bytes = coded_list coded_ℕ

abbrev coded_party : Coded Party
coded_party = code_by (List ℕ × List ℕ) (coded× coded_bytes coded_bytes) (λ p. (p.qualifier, p.id)) (λ c. record { qualifier = c.0; id = c.1 }) (λ p. refl)

abbrev coded_fate : Coded Fate
coded_fate = code_by ℕ coded_ℕ fate_number fate_numbered fate_back

abbrev coded_set : Coded SetRow
coded_set = code_by (List ℕ × (Fate × Bool)) (coded× coded_bytes (coded× coded_fate coded_bool)) (λ s. (s.number, (s.fate, s.is_out))) (λ c. record { number = c.0; fate = c.1.0; is_out = c.1.1 }) (λ s. refl)

abbrev coded_group : Coded GroupRow
coded_group = code_by (List ℕ × (ℕ × List SetRow)) (coded× coded_bytes (coded× coded_ℕ (coded_list coded_set))) (λ g. (g.functional, (g.number, g.sets))) (λ c. record { functional = c.0; number = c.1.0; sets = c.1.1 }) (λ g. refl)

abbrev coded_entry : Coded InterchangeRow
coded_entry =
    code_by (ℕ × (Party × (List ℕ × List GroupRow))) (coded× coded_ℕ (coded× coded_party (coded× coded_bytes (coded_list coded_group)))) (λ e. (e.icn, (e.receiver, (e.bytes, e.groups))))
    (λ c. record { icn = c.0; receiver = c.1.0; bytes = c.1.1.0; groups = c.1.1.1 }) (λ e. refl)

abbrev coded_key : Coded TransactionSetKey
coded_key =
    code_by (Party × (ℕ × (ℕ × ℕ))) (coded× coded_party (coded× coded_ℕ (coded× coded_ℕ coded_ℕ))) (λ k. (k.sender, (k.icn, (k.group, k.set)))) (λ c. record { sender = c.0; icn = c.1.0; group = c.1.1.0; set = c.1.1.1 }) (λ k. refl)

abbrev coded_posting : Coded AcceptedSet
coded_posting =
    code_by (TransactionSetKey × (List ℕ × (List ℕ × (List ℕ × List ℕ)))) (coded× coded_key (coded× coded_bytes (coded× coded_bytes (coded× coded_bytes coded_bytes))))
    (λ p. (p.key, (p.functional, (p.set, (p.number, p.bytes))))) (λ c. record { key = c.0; functional = c.1.0; set = c.1.1.0; number = c.1.1.1.0; bytes = c.1.1.1.1 }) (λ p. refl)

entries_prop : (xs ys : List InterchangeRow) → IsProp (xs ≡ ys)
entries_prop xs ys = Coded-set (coded_list coded_entry) xs ys

postings_prop : (xs ys : List AcceptedSet) → IsProp (xs ≡ ys)
postings_prop xs ys = Coded-set (coded_list coded_posting) xs ys

party_prop : (p q : Party) → IsProp (p ≡ q)
party_prop p q = Coded-set coded_party p q

number_prop : (m n : ℕ) → IsProp (m ≡ n)
number_prop m n = Coded-set coded_ℕ m n

true_prop : (b : Bool) → IsProp (IsTrue b)
true_prop b = Coded-set coded_bool _ _

own_prop : (me : Party) (x : Bytes) → IsProp (IsOwnSubmission me x)
own_prop me x = hlevel (true_prop, party_prop)

filed_prop : (r : StoredArrival) → IsProp (IsFiledRightly r.filed)
filed_prop r = hlevel (true_prop, party_prop, number_prop)

answered_prop : (marks : Marks) (me : Party) (book : Numbers) (r : StoredArrival) → IsProp (IsAnsweredRightly marks me book r)
answered_prop marks me book r = squash₁

pub written_prop : (s : Stored) → IsProp (IsWritten s)
written_prop s = hlevel (entries_prop, postings_prop, own_prop, filed_prop, answered_prop)

-- the history of a station's records, beside the form of its tables
pub written_of : (me : Party) (hubs : List Party) (s : Stored) → IsHistoryOf me hubs s → IsWritten s
written_of me hubs s h = record {
  fates = h.fates ∙ ap₂ (λ (m : Party) (hs : List Party). fared_entries m hs (items_of s)) (sym h.origin.0) (sym h.origin.1);
  own = subst (λ (m : Party). All (IsOwnSubmission m) (submissions (items_of s))) (sym h.origin.0) h.own;
  filed = h.filed;
  answered = subst (λ (m : Party). All (IsAnsweredRightly (marks_of s.origin) m s.book) s.arrived) (sym h.origin.0) h.answered;
  posted = h.posted;
}

pub history_of : (me : Party) (hubs : List Party) (s : Stored) → IsSound s → s.origin.me ≡ me → s.origin.hubs ≡ hubs → IsWritten s → IsHistoryOf me hubs s
history_of me hubs s sound is_me is_hubs h = record {
  sound = sound;
  origin = (is_me, is_hubs);
  fates = h.fates ∙ ap₂ (λ (m : Party) (hs : List Party). fared_entries m hs (items_of s)) is_me is_hubs;
  own = subst (λ (m : Party). All (IsOwnSubmission m) (submissions (items_of s))) is_me h.own;
  filed = h.filed;
  answered = subst (λ (m : Party). All (IsAnsweredRightly (marks_of s.origin) m s.book) s.arrived) is_me h.answered;
  posted = h.posted;
}
