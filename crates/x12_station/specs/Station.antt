-- A station: what it keeps, and what an agreement makes of it.
use Rattle.x12_numbers.specs.Book.{new_book}
use Rattle.std.specs.Prelude.{ℕ, ◌+◌, length, List, [], ◌∷◌, ◌++◌, Bool, true, false, ◌&&◌, not, if◌then◌else◌}
use Rattle.std.specs.Prelude.{filter, bytes_eq}
use Rattle.x12_envelopes.specs.declared.party.Party.{Party}
use Rattle.x12_judge.specs.Agreement.{is_same_party, TradingAgreement}
use Rattle.x12_profile.specs.declared.edition.Edition.{Edition}
use Rattle.x12_profile.specs.Edition.{Marks, edition_at, no_marks}
use Rattle.x12_profile.specs.Interchange.{Book}
use Rattle.x12_outbound.specs.declared.evidence.Counts.{Counts}
use Rattle.x12_outbound.specs.Counts.{only_unclear}
use Rattle.x12_station.specs.History.{Item}
use Rattle.x12_station.specs.Schedule.{Sending}

-- a station's party and hubs, its kept records, and what a restart forgets
pub record Station : Type 0 where
  pub me : Party
  -- the hubs whose TA1s it believes
  pub hubs : List Party
  -- how far its history is read in an older way
  pub marks : Marks
  -- its history, the agreements in force, and the last control numbers
  pub items : List Item
  pub agreements : List TradingAgreement
  pub book : Book
  -- what a restart forgets: the greatest tick seen, the schedules of what is open, and the counts
  pub tick : ℕ
  pub sendings : List Sending
  pub counts : Counts

-- the edition of what comes next
abbrev pub edition_next : Station → Edition
edition_next s = edition_at s.marks (length s.items + 1)

-- a station of this party with empty records
abbrev pub new_station : Party → List Party → Station
new_station me hubs = record {
  me = me;
  hubs = hubs;
  marks = no_marks;
  items = [];
  agreements = [];
  book = new_book;
  tick = 0;
  sendings = [];
  counts = only_unclear 0;
}

-- whether a list has no elements
abbrev pub is_empty : {A : Type 0} → List A → Bool
is_empty [] = true
is_empty (x ∷ xs) = false

-- the agreements with other partners
abbrev pub of_others : Party → List TradingAgreement → List TradingAgreement
of_others partner old = filter (λ a. not (is_same_party a.partner partner)) old

-- each pair of GS01 and ST01 once, where it stands first
abbrev pub each_once : List (List ℕ × List ℕ) → List (List ℕ × List ℕ)
each_once [] = []
each_once (q ∷ qs) =
    q ∷ filter (λ r. not (bytes_eq q.0 r.0 && bytes_eq q.1 r.1)) (each_once qs)

-- a partner's new agreement, behind the others, in place of its old one; one without pairs
-- withdraws it
abbrev pub agreed : TradingAgreement → List TradingAgreement → List TradingAgreement
agreed a old =
    if is_empty a.pairs
    then of_others a.partner old
    else of_others a.partner old
    ++ record { partner = a.partner; lenient = a.lenient; pairs = each_once a.pairs } ∷ []
