-- What a station may submit (X12.5, X12.6): a table of refusals, whose first row that holds counts.
-- Where memory is missing (S14), no definition tells.
use Rattle.std.specs.Prelude.{◌≡◌, ℕ, List, [], ◌∷◌, codes, length, map, Bool, ◌||◌, not, ◌==◌, Option, Some, Result, Ok, Err}
use Rattle.std.specs.List.{list_any}
use Rattle.std.specs.Option.{option_or}
use Rattle.x12_numbers.specs.Book.{Numbers, are_new}
use Rattle.x12_envelopes.specs.declared.header.Header.{Header}
use Rattle.x12_envelopes.specs.declared.header.HeaderFault.{HeaderFault}
use Rattle.x12_envelopes.specs.declared.party.Party.{Party}
use Rattle.x12_envelopes.specs.declared.shape.OutlineFault.{OutlineFault}
use Rattle.x12_envelopes.specs.Header.{header_of}
use Rattle.x12_envelopes.specs.Outline.{outline_of}
use Rattle.x12_envelopes.specs.Row.{first_of_rows}
use Rattle.x12_envelopes.specs.Shape.{Interchange}
use Rattle.x12_judge.specs.Agreement.{is_same_party}
use Rattle.x12_judge.specs.Verdict.{group_is_acknowledgment}
use Rattle.x12_profile.specs.Interchange.{Bytes}
use Rattle.x12_profile.specs.X12.{are_new_numbers}
use Rattle.x12_outbound.specs.declared.submitting.SubmitFault.{SubmitFault}
use Rattle.x12_outbound.specs.declared.submitting.SubmitFault.TheVariants.{OwnAddress, Empty, BadHeader, NotMine, Shape, Acknowledgments, SetTwice, NotNew, Memory}

-- a TA1, or a group of acknowledgments (FA)
abbrev pub has_acknowledgments : Interchange → Bool
has_acknowledgments x = not (length x.tas == 0) || list_any group_is_acknowledgment x.groups

-- no group, or a group without a transaction set
abbrev pub lacks_sets : Interchange → Bool
lacks_sets x = length x.groups == 0 || list_any (λ g. length g.sets == 0) x.groups

-- one ST02 twice in a group
abbrev pub has_set_twice : Interchange → Bool
has_set_twice x = list_any (λ g. not (are_new_numbers g.sets)) x.groups

-- GS06 of the groups
abbrev pub numbers_of_groups : Interchange → List ℕ
numbers_of_groups x = map (λ g. g.number) x.groups

-- what is said of the parties
abbrev pub parties_fault : Party → Header → Option SubmitFault
parties_fault me h = first_of_rows (
    (not (is_same_party h.sender me), NotMine)  -- S5
    ∷ (is_same_party h.receiver me, OwnAddress)  -- S1
    ∷ [])

-- what is said of the segments behind ISA, where they could be read
abbrev pub contents_fault : Interchange → Option SubmitFault
contents_fault x = first_of_rows (
    (has_acknowledgments x, Acknowledgments)  -- S7
    ∷ (lacks_sets x, Empty)  -- S2
    ∷ (has_set_twice x, SetTwice)  -- S8
    ∷ [])

-- what is said of the numbers
abbrev pub book_fault : Numbers → Header → Interchange → Option SubmitFault
book_fault book h x =
    first_of_rows ((not (are_new book (h.icn ∷ []) (numbers_of_groups x)), NotNew) ∷ [])  -- S10

-- what is said behind the parties: segments that can't be read are S6
abbrev pub outline_fault : Numbers → Header → Result Interchange OutlineFault → Option SubmitFault
outline_fault book h (Err fault) = Some (Shape fault)
outline_fault book h (Ok x) = option_or (contents_fault x) (book_fault book h x)

-- what is said once ISA is read: where it can't be, that is S4
abbrev pub isa_fault : Party → Numbers → Bytes → Result Header HeaderFault → Option SubmitFault
isa_fault me book x (Err fault) = Some (BadHeader fault)
isa_fault me book x (Ok h) =
    option_or (parties_fault me h) (outline_fault book h (outline_of h.delims x))

-- why the station of this party, which used these numbers, may not submit these bytes
unfoldable pub submit_fault : Party → Numbers → Bytes → Option SubmitFault
submit_fault me book x = isa_fault me book x (header_of x)

-- a refusal is the table's row, or want of memory, which may come anywhere
abbrev pub IsSubmitRefusal : Option SubmitFault → SubmitFault → Type 0
IsSubmitRefusal row Memory = Unit {0}
IsSubmitRefusal row fault = row ≡ Some fault

-- the numbers under which these faults are printed
abbrev pub submit_fault_number : SubmitFault → List ℕ
submit_fault_number OwnAddress = codes "S1"
submit_fault_number Empty = codes "S2"
submit_fault_number (BadHeader h) = codes "S4"
submit_fault_number NotMine = codes "S5"
submit_fault_number (Shape o) = codes "S6"
submit_fault_number Acknowledgments = codes "S7"
submit_fault_number SetTwice = codes "S8"
submit_fault_number NotNew = codes "S10"
submit_fault_number Memory = codes "S14"
