-- What a question to a hub's records answers, and what the rows that it reads stand for.
use Rattle.std.specs.Prelude.{ℕ, List, [], ◌∷◌, Option, Some, None, Result}
use Rattle.sqlite.specs.Order.{Row, column}
use Rattle.sqlite.specs.State.{State}
use Rattle.sql_rows.specs.Keyed.{number_in}
use Rattle.x12_hub.specs.Hub.{Mailbox, HubOutcome}
use Rattle.x12_hub.specs.Stored.{HubStored, WaitingItem}
use Rattle.x12_tables.specs.Party.{bytes_in, party_in}
use Rattle.x12_tables.specs.Read.{Answers}
use Rattle.x12_hub_records.specs.HubContent.{IsValidHub, hub_content_of, outcome_in}

-- they are valid, with some number as the last of an entry
abbrev pub HasValidHub : State → Type 0
HasValidHub s = (last : ℕ) × IsValidHub last s

-- A question to a hub's records: while the store is open, the answer fits what they hold.
abbrev pub HubAnswers : {A E : Type 0} → (HubStored → A → Type 0) → Result A E → State → State → Type 0
HubAnswers Fits r old new = Answers HasValidHub (λ db. Fits (hub_content_of db)) r old new

-- the outcome in a row of an item, its node and its refusal
abbrev pub outcome_shown : Row → HubOutcome
outcome_shown r = outcome_in (number_in (column r 0)) (column r 1) (column r 2)

-- the outcome in the first row, if there is one
abbrev pub first_outcome : List Row → Option HubOutcome
first_outcome [] = None
first_outcome (r ∷ rows) = Some (outcome_shown r)

-- the entry in a row of a party and its node
abbrev pub entry_shown : Row → Mailbox
entry_shown r = record { party = party_in (bytes_in (column r 0)); node = number_in (column r 1) }

-- what waits, in a row of an item and its node
abbrev pub waiting_shown : Row → WaitingItem
waiting_shown r = record { node = number_in (column r 1); item = number_in (column r 0) }
