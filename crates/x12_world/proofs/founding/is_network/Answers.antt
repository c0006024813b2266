-- The tests are those of a network.
use Rattle.std.proofs.Common.{◌≡◌, ◌≢◌, ◌∷◌, sym, ◌∙◌, subst, true, false, not, option_map, arith}
use Rattle.std.specs.Prelude.{◌&&◌, All, AllPairs, IsTrue, option_to_list}
use Rattle.std.specs.List.{list_any}
use Rattle.std.proofs.lemmas.Bool.{and_parts}
use Rattle.std.proofs.lemmas.List.Elements.{All-append, All-cons}
use Rattle.x12_envelopes.specs.declared.party.Party.{Party}
use Rattle.x12_envelopes.specs.Party.{is_plain_party}
use Rattle.x12_hub.specs.Hub.{Hub}
use Rattle.x12_judge.specs.Agreement.{is_same_party}
use Rattle.x12_world.specs.Founding.{parties, IsMember}
use Rattle.x12_world.specs.Running.{all_answer, second_answers}
use Rattle.x12_world.proofs.AnswerLemmas.{founders_parts}
use Rattle.x12_world.proofs.FoundingLemmas.{all_apart, among, named_parties, network_parties, not_apart, not_all_apart, not_second_apart}
use Rattle.x12_world.proofs.founding.is_network.Goals as goal

pub returns-then-is_stations-clause-no : goal.returns-then-is_stations-clause-no
returns-then-is_stations-clause-no g c = λ answers m.
    let ss = c.args.stations.now in
    let h = c.args.hub.now.hub in
    let second = option_map (λ k. k.hub) c.args.second.now in
    let other = option_map (λ (k : Hub). k.me) second in
    let ps = parties ss in
    let apart = subst (AllPairs (λ (a : Party) b. a ≢ b)) (network_parties h second ss) m.distinct in
    let named : list_any (is_same_party h.me) ps ≡ true = subst (λ p. list_any (is_same_party p) ps ≡ true) c.party-party.ensures.party (sym (named_parties c.party-party.result ss) ∙ sym c.is_stations.ensures ∙ c.if-is_stations.true) in
    not_apart h.me ps other named apart

pub returns-then-not-is_apart-clause-no : goal.returns-then-not-is_apart-clause-no
returns-then-not-is_apart-clause-no g c = λ answers m.
    let ss = c.args.stations.now in
    let h = c.args.hub.now.hub in
    let second = option_map (λ k. k.hub) c.args.second.now in
    let other = option_map (λ (k : Hub). k.me) second in
    let ps = parties ss in
    let apart = subst (AllPairs (λ (a : Party) b. a ≢ b)) (network_parties h second ss) m.distinct in
    let out : not (list_any (among h.me ps) (option_to_list other)) ≡ false =
    subst (λ p. not (list_any (among p ps) (option_to_list other)) ≡ false) c.party-party.ensures.party
    (subst (λ q. not (list_any (among c.party-party.result ps) (option_to_list q)) ≡ false) c.party_of-other.ensures.party (sym c.is_apart.ensures ∙ c.if-not-is_apart.true)) in
    not_second_apart h.me ps other out apart

pub returns-then-not-differ-clause-no : goal.returns-then-not-differ-clause-no
returns-then-not-differ-clause-no g c = λ answers m.
    let ss = c.args.stations.now in
    let h = c.args.hub.now.hub in
    let second = option_map (λ k. k.hub) c.args.second.now in
    let other = option_map (λ (k : Hub). k.me) second in
    let ps = parties ss in
    let apart = subst (AllPairs (λ (a : Party) b. a ≢ b)) (network_parties h second ss) m.distinct in
    not_all_apart h.me ps other (sym c.differ.ensures.differ ∙ c.if-not-differ.true) apart

pub returns-then-not-are_members-clause-no : goal.returns-then-not-are_members-clause-no
returns-then-not-are_members-clause-no g c = λ answers m.
    let ss = c.args.stations.now in
    let other = option_map (λ (k : Hub). k.me) (option_map (λ k. k.hub) c.args.second.now) in
    let pair = c.args.hub.now.answers && second_answers c.args.second.now in
    let all = (and_parts pair (all_answer ss) (sym (founders_parts c.args.hub.now c.args.second.now ss) ∙ answers)).1 in
    let members = subst (λ q. All (λ s. IsMember c.party-party.result q s.state) ss) (sym c.party_of-other.ensures.party) (subst (λ p. All (λ s. IsMember p other s.state) ss) (sym c.party-party.ensures.party) m.members) in
    sym c.if-not-are_members.true ∙ c.are_members.ensures.no all members

pub returns-then-is_new-clause-yes : goal.returns-then-is_new-clause-yes
returns-then-is_new-clause-yes g c = λ answers is.
    let ss = c.args.stations.now in
    let h = c.args.hub.now.hub in
    let second = option_map (λ k. k.hub) c.args.second.now in
    let other = option_map (λ (k : Hub). k.me) second in
    let ps = parties ss in
    let named : list_any (is_same_party h.me) ps ≡ false = subst (λ p. list_any (is_same_party p) ps ≡ false) c.party-party.ensures.party (sym (named_parties c.party-party.result ss) ∙ sym c.is_stations.ensures ∙ c.if-is_stations.false) in
    let out : not (list_any (among h.me ps) (option_to_list other)) ≡ true =
    subst (λ p. not (list_any (among p ps) (option_to_list other)) ≡ true) c.party-party.ensures.party
    (subst (λ q. not (list_any (among c.party-party.result ps) (option_to_list q)) ≡ true) c.party_of-other.ensures.party (sym c.is_apart.ensures ∙ c.if-not-is_apart.false)) in
    let pair = c.args.hub.now.answers && second_answers c.args.second.now in
    let both = and_parts pair (all_answer ss) (sym (founders_parts c.args.hub.now c.args.second.now ss) ∙ answers) in
    let hubs = and_parts c.args.hub.now.answers (second_answers c.args.second.now) both.0 in
    let members = c.are_members.ensures.yes both.1 c.if-not-are_members.false in
    record {
      some = omega arith;
      few = omega arith;
      distinct = subst (AllPairs (λ (a : Party) b. a ≢ b)) (sym (network_parties h second ss)) (all_apart h.me ps other named out (sym c.differ.ensures.differ ∙ c.if-not-differ.false));
      members = subst (λ p. All (λ s. IsMember p other s.state) ss) c.party-party.ensures.party (subst (λ q. All (λ s. IsMember c.party-party.result q s.state) ss) c.party_of-other.ensures.party members);
      hub = (c.is_new.ensures hubs.0).0 c.if-is_new.true;
      second_hub = c.is_new_hub.ensures.yes hubs.1 is;
    }

pub returns-then-is_new-clause-plain : goal.returns-then-is_new-clause-plain
returns-then-is_new-clause-plain g c = λ is.
    let ss = c.args.stations.now in
    let h = c.args.hub.now.hub in
    let second = option_map (λ k. k.hub) c.args.second.now in
    let other = option_map (λ (k : Hub). k.me) second in
    let ps = parties ss in
    let stations = c.differ.ensures.plain c.if-not-differ.false in
    let first = subst (λ p. IsTrue (is_plain_party p)) c.party-party.ensures.party c.party-party.ensures.plain in
    let last = subst (λ q. All (λ p. IsTrue (is_plain_party p)) (option_to_list q)) c.party_of-other.ensures.party c.party_of-other.ensures.plain in
    subst (All (λ p. IsTrue (is_plain_party p))) (sym (network_parties h second ss)) (All-append (λ p. IsTrue (is_plain_party p)) (h.me ∷ ps) (option_to_list other) (All-cons (λ p. IsTrue (is_plain_party p)) h.me ps first stations) last)
