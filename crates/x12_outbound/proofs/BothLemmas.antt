-- Answers over two lists of interchanges: those of a ledger, and closed ones that were found.
use Rattle.std.proofs.Common.{ℕ, ◌≡◌, ◌∙◌, ◌==◌, ◌&&◌, ap, sym, Bool, true, false, List, [], ◌∷◌, ◌++◌, map, filter, find, flat_map, Option, Some, None, is_some, option_map, option_and_then, if◌then◌else◌, refl}
use Rattle.std.specs.Option.{option_or}
use Rattle.std.specs.Str.{bytes_eq}
use Rattle.std.proofs.lemmas.List.{map-append, append-nil}
use Rattle.std.proofs.lemmas.List.Elements.{filter-append}
use Rattle.std.proofs.lemmas.List.Folds.{find-append}
use Rattle.std.proofs.lemmas.Grind.{flat_map-append}
use Rattle.x12_envelopes.specs.declared.party.Party.{Party}
use Rattle.x12_judge.specs.Agreement.{is_same_party}
use Rattle.x12_acks.specs.Answer.{FunctionalGroupAnswer}
use Rattle.x12_acks.specs.Submission.{Submission, TransactionSetKey, KeyedGroup, keyed_groups, keyed_sets}
use Rattle.x12_acks.specs.Key.{key_view}
use Rattle.x12_acks.specs.Evidence.{Evidence, unmatched, rejected, tells_each, group_evidence, is_acknowledged_by, found_interchange, found_group, groups_to, or_unmatched}
use Rattle.x12_outbound.specs.Hubs.{hubs_of}
use Rattle.x12_outbound.specs.declared.evidence.Statement.{Statement}
use Rattle.x12_outbound.specs.declared.matches.Parties.{Parties}
use Rattle.x12_outbound.specs.Entry.{InterchangeRow}
use Rattle.x12_outbound.specs.Piece.{set_statement_view}
use Rattle.x12_outbound.specs.Matching.{SetNumbers}
use Rattle.x12_outbound.specs.Subject.{Subject, subject_for}
use Rattle.x12_outbound.specs.Statement.{evidence_told, subject_told}
use Rattle.x12_outbound.specs.Ledger.{LedgerRow, interchange_in, numbers_in, numbers_in_rows}
use Rattle.x12_outbound.specs.Plan.{is_about_set, names_its_set}
use Rattle.x12_outbound.specs.Matches.{statement_is_named, AreNamed, numbers_in_both, AreNamedInBoth, AreApart, AddsStatements, AddsInBoth, rejection_evidence, functional_evidence}

-- what is found in the first of two lists is what is found in both; and where it is in none, the second
module _ (p : Parties) (near far : List Submission) where
  abbrev rejection : Option Submission → List Evidence
  rejection o = or_unmatched (option_map (λ e. tells_each rejected (keyed_sets e)) o)

  interchange_of_both : (icn : ℕ) → found_interchange (hubs_of p.hubs) (near ++ far) p.from icn ≡ option_or (found_interchange (hubs_of p.hubs) near p.from icn) (found_interchange (hubs_of p.hubs) far p.from icn)
  interchange_of_both icn = find-append (is_acknowledged_by (hubs_of p.hubs) p.from icn) near far

  pub rejection_here : (icn : ℕ) (e : Submission) → found_interchange (hubs_of p.hubs) near p.from icn ≡ Some e → rejection_evidence p (near ++ far) icn ≡ rejection_evidence p near icn
  rejection_here icn e is = ap rejection (interchange_of_both icn ∙ ap (λ o. option_or o (found_interchange (hubs_of p.hubs) far p.from icn)) is ∙ sym is)

  pub rejection_there : (icn : ℕ) → found_interchange (hubs_of p.hubs) near p.from icn ≡ None → rejection_evidence p (near ++ far) icn ≡ rejection_evidence p far icn
  rejection_there icn none = ap rejection (interchange_of_both icn ∙ ap (λ o. option_or o (found_interchange (hubs_of p.hubs) far p.from icn)) none)

  pub no_rejection : (icn : ℕ) → found_interchange (hubs_of p.hubs) far p.from icn ≡ None → rejection_evidence p far icn ≡ unmatched ∷ []
  no_rejection icn none = ap rejection none

  module _ (a : FunctionalGroupAnswer) where
    abbrev acknowledgment : Option KeyedGroup → List Evidence
    acknowledgment o = or_unmatched (option_map (λ g. group_evidence a.code a.sets g.sets) o)

    group_of_both : found_group (near ++ far) p.from a ≡ option_or (found_group near p.from a) (found_group far p.from a)
    group_of_both =
        let wanted = λ (g : KeyedGroup). bytes_eq g.functional a.functional && g.number == a.number in
        let to = λ (e : Submission). is_same_party e.receiver p.from in
        ap (λ es. find wanted (flat_map keyed_groups es)) (filter-append to near far)
        ∙ ap (find wanted) (flat_map-append keyed_groups (filter to near) (filter to far))
        ∙ find-append wanted (groups_to near p.from) (groups_to far p.from)

    pub functional_here : (g : KeyedGroup) → found_group near p.from a ≡ Some g → functional_evidence p (near ++ far) a ≡ functional_evidence p near a
    functional_here g is = ap acknowledgment (group_of_both ∙ ap (λ o. option_or o (found_group far p.from a)) is ∙ sym is)

    pub functional_there : found_group near p.from a ≡ None → functional_evidence p (near ++ far) a ≡ functional_evidence p far a
    functional_there none = ap acknowledgment (group_of_both ∙ ap (λ o. option_or o (found_group far p.from a)) none)

    pub no_functional : found_group far p.from a ≡ None → functional_evidence p far a ≡ unmatched ∷ []
    no_functional none = ap acknowledgment none

-- the numbers of a set, where its interchange is there and where it isn't
no_numbers : (me : Party) (rows : List LedgerRow) (key : TransactionSetKey) → interchange_in rows key.icn ≡ None → numbers_in_rows me rows key ≡ None
unfolding numbers_in_rows
no_numbers me rows key none = by (is_same_party key.sender me)
  where
    by : (b : Bool) → (if b then option_and_then (numbers_in key) (interchange_in rows key.icn) else None) ≡ None
    by true = rw none refl
    by false = refl

has_interchange : (me : Party) (rows : List LedgerRow) (key : TransactionSetKey) (n : SetNumbers) → numbers_in_rows me rows key ≡ Some n → is_some (interchange_in rows key.icn) ≡ true
unfolding numbers_in_rows
has_interchange me rows key n is = by (is_same_party key.sender me) (interchange_in rows key.icn) is
  where
    by : (b : Bool) (o : Option InterchangeRow) → (if b then option_and_then (numbers_in key) o else None) ≡ Some n → is_some o ≡ true
    by true (Some e) is = refl
    by true None is = absurd (let no : ⊥ = cc in no)
    by false o is = absurd (let no : ⊥ = cc in no)

-- A statement that names its set in one of the lists names it in both.
module _ (p : Parties) (rows closed : List LedgerRow) where
  named_here : (s : Option Statement) → statement_is_named p rows s ≡ true → names_its_set (hubs_of p.hubs) (numbers_in_both p.me rows closed) (option_map set_statement_view s) ≡ true
  named_here None named = refl
  named_here (Some s) named = by (numbers_in_rows p.me rows (key_view s.key)) named
    where
      by : (o : Option SetNumbers) → is_about_set (hubs_of p.hubs) (set_statement_view s) o ≡ true → is_about_set (hubs_of p.hubs) (set_statement_view s) (option_or o (numbers_in_rows p.me closed (key_view s.key))) ≡ true
      by (Some n) named = named
      by None named = absurd (let no : ⊥ = cc in no)

  named_there : AreApart rows closed → (s : Option Statement) → statement_is_named p closed s ≡ true → names_its_set (hubs_of p.hubs) (numbers_in_both p.me rows closed) (option_map set_statement_view s) ≡ true
  named_there apart None named = refl
  named_there apart (Some s) named = by (numbers_in_rows p.me closed (key_view s.key)) refl named
    where
      by : (o : Option SetNumbers) → numbers_in_rows p.me closed (key_view s.key) ≡ o → is_about_set (hubs_of p.hubs) (set_statement_view s) o ≡ true
          → is_about_set (hubs_of p.hubs) (set_statement_view s) (option_or (numbers_in_rows p.me rows (key_view s.key)) (numbers_in_rows p.me closed (key_view s.key))) ≡ true
      by (Some n) is named = rw (no_numbers p.me rows (key_view s.key) (apart s.key.icn (has_interchange p.me closed (key_view s.key) n is)), is) named
      by None is named = absurd (let no : ⊥ = cc in no)

  all_here : (ss : List (Option Statement)) → AreNamed p rows ss → AreNamedInBoth p rows closed ss
  all_here [] named = tt
  all_here (s ∷ ss) named = (named_here s named.0, all_here ss named.1)

  all_there : AreApart rows closed → (ss : List (Option Statement)) → AreNamed p closed ss → AreNamedInBoth p rows closed ss
  all_there apart [] named = tt
  all_there apart (s ∷ ss) named = (named_there apart s named.0, all_there apart ss named.1)

  -- what one answer adds, of the one list or of the other, or of none
  module _ (name : Option Subject) (old new : List (Option Statement)) (evidence both : List Evidence) (same : both ≡ evidence) where
    pub adds_here : AddsStatements p rows name old new evidence → AddsInBoth p rows closed name old new both
    adds_here adds = record {
      more = adds.more;
      is = adds.is;
      told = adds.told ∙ sym same;
      names = adds.names ∙ ap (map (subject_for name)) (sym same);
      named = all_here adds.more adds.named;
    }

    pub adds_there : AreApart rows closed → AddsStatements p closed name old new evidence → AddsInBoth p rows closed name old new both
    adds_there apart adds = record {
      more = adds.more;
      is = adds.is;
      told = adds.told ∙ sym same;
      names = adds.names ∙ ap (map (subject_for name)) (sym same);
      named = all_there apart adds.more adds.named;
    }

  pub adds_unmatched : (name : Option Subject) (old new : List (Option Statement)) (both : List Evidence) → new ≡ old ++ None ∷ [] → both ≡ unmatched ∷ [] → AddsInBoth p rows closed name old new both
  adds_unmatched name old new both is none = record { more = None ∷ []; is = is; told = sym none; names = ap (map (subject_for name)) (sym none); named = (refl, tt) }

  pub adds_nothing : (name : Option Subject) (old : List (Option Statement)) → AddsInBoth p rows closed name old old []
  adds_nothing name old = record { more = []; is = sym (append-nil old); told = refl; names = refl; named = tt }

  -- and one answer after the other
  both_named : (ss ts : List (Option Statement)) → AreNamedInBoth p rows closed ss → AreNamedInBoth p rows closed ts → AreNamedInBoth p rows closed (ss ++ ts)
  both_named [] ts first second = second
  both_named (s ∷ ss) ts first second = (first.0, both_named ss ts first.1 second)

  pub told_then : (name : Option Subject) (old new : List (Option Statement)) (before more : List Evidence) → map evidence_told old ≡ before → AddsInBoth p rows closed name old new more → map evidence_told new ≡ before ++ more
  told_then name old new before more told adds = ap (map evidence_told) adds.is ∙ map-append evidence_told old adds.more ∙ ap (λ es. map evidence_told old ++ es) adds.told ∙ ap (λ es. es ++ more) told

  pub names_then : (name : Option Subject) (old new : List (Option Statement)) (before : List (Option Subject)) (more : List Evidence) → map subject_told old ≡ before → AddsInBoth p rows closed name old new more
      → map subject_told new ≡ before ++ map (subject_for name) more
  names_then name old new before more names adds = ap (map subject_told) adds.is ∙ map-append subject_told old adds.more ∙ ap (λ ns. map subject_told old ++ ns) adds.names ∙ ap (λ ns. ns ++ map (subject_for name) more) names

  pub named_then : (name : Option Subject) (old new : List (Option Statement)) (more : List Evidence) → AreNamedInBoth p rows closed old → AddsInBoth p rows closed name old new more → AreNamedInBoth p rows closed new
  named_then name old new more named adds = rw adds.is (both_named old adds.more named adds.named)
