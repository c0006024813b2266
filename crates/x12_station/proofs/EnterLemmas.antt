-- What was read of prepared bytes may be entered.
use Rattle.std.specs.Prelude.{◌≡◌, ◌-◌, ◌^◌, ◌<◌, [], ◌∷◌, Bool, true, false, not, ◌&&◌, ◌==◌, length, map, None, Ok, refl}
use Rattle.std.specs.List.{list_any}
use mathlib.Core.Path.{sym, ap, subst, ◌∙◌}
use Rattle.x12_numbers.specs.Book.{Numbers, Uses}
use Rattle.x12_envelopes.specs.declared.header.Header.{Header}
use Rattle.x12_envelopes.specs.Header.{header_of}
use Rattle.x12_envelopes.specs.Outline.{outline_of}
use Rattle.x12_envelopes.specs.Row.{first_of_rows}
use Rattle.x12_envelopes.specs.Shape.{Interchange}
use Rattle.x12_judge.specs.Verdict.{group_is_acknowledgment}
use Rattle.x12_acks.specs.Submission.{SubmittedGroup, submission_of}
use Rattle.x12_outbound.specs.Entry.{IsSendable, pending_entry}
use Rattle.x12_profile.specs.Interchange.{Bytes}
use Rattle.x12_profile.specs.X12.{x12, submission_in_bytes}
use Rattle.x12_profile.proofs.FieldLemmas as field
use Rattle.x12_profile.proofs.PartyLemmas.{is_same_party-Decides}
use Rattle.x12_outbound.specs.declared.submitting.SubmitFault.TheVariants.{Acknowledgments, Empty, SetTwice}
use Rattle.x12_station.specs.declared.cached.Cached.{Cached}
use Rattle.x12_station.specs.Durable.{IsOwnSubmission}
use Rattle.x12_outbound.specs.Submitting.{contents_fault, has_acknowledgments, has_set_twice, lacks_sets, parties_fault}
use Rattle.x12_outbound.proofs.SendableLemmas.{same_numbers}
use Rattle.x12_outbound.proofs.SubmittingLemmas.{apart_parties, contents_none}
use Rattle.x12_station.specs.working.Prepared.{MayEnter}
use Rattle.x12_outbound.proofs.Shelf.{entry_back}
use Rattle.x12_station.proofs.PreparedLemmas.{all_numbers}
use Rattle.std.proofs.lemmas.Bool.{or_parts}
use Rattle.x12_station.proofs.TableLemmas.{outline_of_orders}

module _ (x : Bytes) (h : Header) (o : Interchange) (is : header_of x ≡ Ok h) (there : outline_of h.delims x ≡ Ok o) (none : contents_fault o ≡ None) where
  abbrev rows : (has_acknowledgments o ≡ false) × (lacks_sets o ≡ false) × (has_set_twice o ≡ false)
  rows = contents_none o none

  orders : x12.is_submission x ≡ true
  orders =
      field.is_submission_is x h is o there ∙ outline_of_orders o
      ∙ rw (rows.0, rows.1, rows.2) refl

  numbers_are : x12.groups x ≡ map (λ g. g.number) o.groups
  numbers_are = field.groups_are x h is o there ∙ all_numbers o.groups (or_parts (not (length o.tas == 0)) (list_any group_is_acknowledgment o.groups) rows.0).1

pub bytes_of_submission : (h : Header) (x : Bytes) (o : Interchange) → (pending_entry (submission_of h x o)).bytes ≡ x
unfolding pending_entry submission_of
bytes_of_submission h x o = refl

module _ (m : Cached) (book : Numbers) (x : Bytes) (h : Header) (o : Interchange) (is : header_of x ≡ Ok h) (there : outline_of h.delims x ≡ Ok o)
    (apart : parties_fault m.me h ≡ None) (none : contents_fault o ≡ None) (uses : Uses m.book book (h.icn ∷ []) (map (λ g. g.number) o.groups))
    (may : IsSendable (submission_of h x o)) (room : m.seq < 2 ^ 63 - 1) where
  mine : x12.sender x ≡ m.me
  mine = field.sender_is x h is ∙ (is_same_party-Decides h.sender m.me).0 (apart_parties m.me h apart).0

  own_at : (b : Bytes) → b ≡ x → IsOwnSubmission m.me b
  own_at b same = subst (IsOwnSubmission m.me) (sym same) (record { submission = orders x h o is there none; sender = mine })

  uses_at : (b : Bytes) → b ≡ x → Uses m.book book (x12.number b ∷ []) (x12.groups b)
  uses_at b same = subst (λ z. Uses m.book book (x12.number z ∷ []) (x12.groups z)) (sym same)
      (subst (λ n. Uses m.book book (n ∷ []) (x12.groups x)) (sym (field.number_is x h is))
      (subst (λ ns. Uses m.book book (h.icn ∷ []) ns) (sym (numbers_are x h o is there none)) uses))

  pub may_enter : MayEnter m book (pending_entry (submission_of h x o))
  may_enter =
      let y = submission_of h x o in
      let same = bytes_of_submission h x o in
      record {
        own = own_at (pending_entry y).bytes same;
        entry = ap (λ b. map pending_entry (submission_in_bytes b)) same ∙ ap (map pending_entry) (field.submission_is x h is o there);
        uses = uses_at (pending_entry y).bytes same;
        sendable = subst IsSendable (sym (entry_back m.me y)) (record {
          has_group = may.has_group;
          groups_rise = may.groups_rise;
          few_groups = may.few_groups;
          few_sets = may.few_sets;
        });
        room = room;
      }

-- What is a submission holds what may be submitted.

rows_none : (a l t : Bool) → (not a && not l && not t) ≡ true → first_of_rows ((a, Acknowledgments) ∷ (l, Empty) ∷ (t, SetTwice) ∷ []) ≡ None
rows_none true true t is = absurd cc
rows_none true false t is = absurd cc
rows_none false true t is = absurd cc
rows_none false false true is = absurd cc
rows_none false false false is = refl

module _ (x : Bytes) (h : Header) (o : Interchange) (is : header_of x ≡ Ok h) (there : outline_of h.delims x ≡ Ok o) (submitted_so : x12.is_submission x ≡ true) where
  pub contents_of_orders : contents_fault o ≡ None
  contents_of_orders =
      rows_none (has_acknowledgments o) (lacks_sets o) (has_set_twice o)
      (sym (outline_of_orders o) ∙ sym (field.is_submission_is x h is o there) ∙ submitted_so)

  pub numbers_read : x12.groups x ≡ map (λ (g : SubmittedGroup). g.number) (submission_of h x o).groups
  unfolding submission_of
  numbers_read = numbers_are x h o is there contents_of_orders ∙ sym (same_numbers o.groups)
