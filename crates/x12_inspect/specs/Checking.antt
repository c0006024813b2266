-- Checking a transmission: whether each of its interchanges is accepted with all its sets.
use Rattle.std.specs.Prelude.{ℕ, Bool, false, List, Option, Some, None, Result, Ok, Err, length, ◌==◌, if◌then◌else◌}
use Rattle.std.specs.List.{list_all}
use Rattle.x12_envelopes.specs.declared.header.Header.{Header}
use Rattle.x12_envelopes.specs.declared.header.HeaderFault.{HeaderFault}
use Rattle.x12_envelopes.specs.declared.party.Party.{Party}
use Rattle.x12_envelopes.specs.Header.{header_of}
use Rattle.x12_envelopes.specs.Outline.{outline_of}
use Rattle.x12_judge.specs.Agreement.{TradingAgreement}
use Rattle.x12_judge.specs.Controls.{newest_terms}
use Rattle.x12_judge.specs.Verdict.{judgement_of}
use Rattle.x12_inspect.specs.declared.checking.CheckTerms.{CheckTerms}
use Rattle.x12_inspect.specs.declared.inspecting.Outcome.{Outcome}
use Rattle.x12_inspect.specs.Accepting.{is_all_accepted}
use Rattle.x12_inspect.specs.Inspecting.{EndsAs}
use Rattle.x12_inspect.specs.Standing.{pairs_standing}
use Rattle.x12_answering.specs.Answering.{agreements_on}

-- the station that checks: the one that is named, or else the receiver
abbrev pub checking_party : Option Party → Header → Party
checking_party (Some me) h = me
checking_party None h = h.receiver

-- what is taken: the pairs that are named, or else those of the sets that stand in the interchange
abbrev pub pairs_taken : CheckTerms → Header → List ℕ → List (List ℕ × List ℕ)
pairs_taken t h bytes =
    if length t.pairs.items == 0 then pairs_standing (outline_of h.delims bytes) else t.pairs.items

-- the agreements under which an interchange with this header is checked
abbrev pub agreements_taken : CheckTerms → Header → List ℕ → List TradingAgreement
agreements_taken t h bytes = agreements_on t.lenient (pairs_taken t h bytes) h.sender

-- an interchange with this header, or none that can be read, is accepted with all its sets
abbrev pub is_right_by : CheckTerms → List ℕ → Result Header HeaderFault → Bool
is_right_by t bytes (Ok h) =
    let terms = newest_terms (agreements_taken t h bytes) in
    is_all_accepted (judgement_of (checking_party t.me h) terms h bytes)
is_right_by t bytes (Err fault) = false

-- an interchange that can be read, and is accepted with all its sets
unfoldable pub is_right : CheckTerms → List ℕ → Bool
is_right t bytes = is_right_by t bytes (header_of bytes)

-- a transmission is checked: all is right exactly where it has interchanges, and each is right
abbrev pub EndsAsChecked : CheckTerms → List ℕ → Outcome → Type 0
EndsAsChecked t = EndsAs (list_all (is_right t))
