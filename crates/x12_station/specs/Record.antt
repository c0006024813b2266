-- What the code's values of a station's records stand for.
use Rattle.x12_numbers.specs.Book.{Numbers}
use Rattle.std.specs.Prelude.{◌≡◌, ℕ, ◌≤◌, ◌^◌, ◌-◌, true, false, List, ◌∷◌, map, All, option_to_list}
use Rattle.std.specs.List.{IsDistinct}
use Rattle.x12_envelopes.specs.declared.party.Party.{Party}
use Rattle.x12_judge.specs.Agreement.{TradingAgreement, agreement_view, is_same_party}
use Rattle.x12_outbound.specs.Entry.{InterchangeRow, entry_row, row_is_open, submission_of_entry, IsSendable}
use Rattle.x12_outbound.specs.Ledger.{AreInOrder}
use Rattle.x12_outbound.specs.Settling.{target_view}
use Rattle.x12_station.specs.declared.plan.Change.{Change as CodeChange}
use Rattle.x12_station.specs.declared.plan.Change.TheVariants as code
use Rattle.x12_inbound.specs.Filing.{reply_bytes}
use Rattle.x12_station.specs.declared.records.Item.{Item as CodeItem}
use Rattle.x12_station.specs.declared.records.Item.TheVariants as kept
use Rattle.x12_station.specs.declared.records.Loaded.{Loaded as CodeLoaded}
use Rattle.x12_station.specs.declared.records.Owner.{Owner}
use Rattle.x12_profile.specs.Edition.{Marks, edition_at}
use Rattle.x12_profile.specs.Marking.{marks_view}
use Rattle.x12_station.specs.History.{Item, Submitted, Came}
use Rattle.x12_station.specs.Stored.{Origin, Stored, marks_of, open_entries, HasSets, IsNumberedBy, IsKeptAgreement}
use Rattle.x12_station.specs.Plan.{Change, Submits, Files, Agrees, TakesNumbers}

abbrev pub change_view : CodeChange → Change
change_view (code.Submitted entry) = Submits (entry_row entry)
change_view (code.Arrived kept settled) = Files kept (map target_view settled.items)
change_view (code.Agreed agreement) = Agrees (agreement_view agreement)
change_view code.Numbered = TakesNumbers

abbrev pub owner_view : Owner → Origin
owner_view o = record {
  me = o.party;
  hubs = o.hub ∷ option_to_list o.other;
  noted = o.noted;
  era = o.era;
}

-- a submission or a first arrival of this number, as the history with these marks has it
abbrev pub history_item : Marks → ℕ → CodeItem → Item
history_item marks n (kept.Submitted bytes) = Submitted bytes.items
history_item marks n (kept.Came filed) =
    Came (edition_at marks n) filed.bytes.items (reply_bytes filed.reply)

-- what a station loads: its marks, its numbers, its agreements, and its open submissions
pub record Loaded : Type 0 where
  pub marks : Marks
  pub book : Numbers
  pub seq : ℕ
  pub agreements : List TradingAgreement
  pub entries : List InterchangeRow

abbrev pub loaded_view : CodeLoaded → Loaded
loaded_view l = record {
  marks = marks_view l.marks;
  book = l.book;
  seq = l.seq;
  agreements = map agreement_view l.agreements.items;
  entries = map entry_row l.entries.items;
}

abbrev pub loaded_of : Stored → Loaded
loaded_of s = record {
  marks = marks_of s.origin;
  book = s.book;
  seq = s.seq;
  agreements = s.agreements;
  entries = open_entries s;
}

-- no transaction set of it is out, lifted to be settled
abbrev pub HasNoneOut : InterchangeRow → Type 0
HasNoneOut e = All (λ g. All (λ t. t.is_out ≡ false) g.sets) e.groups

-- an entry that its rows tell in full: no transaction set is out, and each group has one
pub record IsWholeEntry (e : InterchangeRow) : Type 0 where
  pub laid : HasNoneOut e
  pub sets : HasSets e

-- what a change submits is whole
abbrev pub SubmitsWhole : Change → Type 0
SubmitsWhole (Submits e) = IsWholeEntry e
SubmitsWhole (Files k settled) = Unit {0}
SubmitsWhole (Agrees a) = Unit {0}
SubmitsWhole TakesNumbers = Unit {0}

-- What is loaded can be kept in memory, whoever wrote it: the last number is one that can be
-- written, the entries can be sent, their numbers rise and were used, each has a pending set, and one
-- agreement stands for a partner.
pub record IsSoundLoaded (l : Loaded) : Type 0 where
  pub few : l.seq ≤ 2 ^ 63 - 1
  pub in_order : (me : Party) → AreInOrder (map (submission_of_entry me) l.entries)
  pub used : All (IsNumberedBy l.book) l.entries
  pub laid : All HasNoneOut l.entries
  pub pending : All (λ e. row_is_open e ≡ true) l.entries
  pub agreed_once : IsDistinct (λ a b. is_same_party a.partner b.partner) l.agreements
  pub agreed : All IsKeptAgreement l.agreements

-- What is found closed is, whoever wrote it: it can be sent, and none of its sets is pending.
pub record IsSoundClosed (e : InterchangeRow) : Type 0 where
  pub sendable : (me : Party) → IsSendable (submission_of_entry me e)
  pub laid : HasNoneOut e
  pub ended : row_is_open e ≡ false
