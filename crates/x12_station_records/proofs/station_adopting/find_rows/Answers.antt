use Rattle.std.proofs.Common.{ℕ, List, Ok, map, subst}
use Rattle.sqlite.specs.Held.{state}
use Rattle.x12_tables.proofs.FindsLemmas.{finds_then, finds_tested}
use Rattle.x12_tables.proofs.TakesLemmas.{takes_failed, takes_second, takes_then}
use Rattle.x12_tables.specs.declared.fault.TableFault.TheVariants.{Memory}
use Rattle.x12_station_records.proofs.StationFoundLemmas.{seqs_found}
use Rattle.x12_station_records.specs.StationAdopt.{FindsAgreed, FindsSent, FindsOrder, FindsHanded, FindsRows}
use Rattle.x12_station_records.specs.StationContent.{content_of}
use Rattle.x12_station_records.specs.StationNumbers.{KeptNumbers, numbers_view}
use Rattle.x12_station_records.specs.StationTaken.{HoldsStation, HoldsStationBy, HoldsBooked, HoldsInTurn, HoldsHanded}
use Rattle.std.proofs.Common.{◌≡◌, ◌∙◌, Err, ap, sym}
use Rattle.x12_station.specs.Stored.{StoredSubmission}
use Rattle.x12_station_records.proofs.station_adopting.find_rows.Goals as goal

pub returns-clause-finds : goal.returns-clause-finds
returns-clause-finds g c =
    let s1 = state g.S.Store c.args.conn.now in
    let s2 = state g.S.Store c.find_agreed.new.conn in
    let s3 = state g.S.Store c.find_sent.new.conn in
    let s4 = state g.S.Store c.find_order.new.conn in
    let s5 = state g.S.Store c.find_handed.new.conn in
    let n = c.args.numbers.now in
    let agreement = c.in_ok-agreement.agreement in
    let sent = c.in_ok-sent.sent in
    let set = c.in_ok-sent.set in
    let posting = c.in_ok-posting.posting in
    let others = map (λ (x : ℕ × ℕ). x.1) c.deref.result.now in
    let Posted = FindsHanded n.handed in
    let last = finds_then (λ db done. FindsOrder n.seq others db) Posted (λ db p. FindsOrder n.seq others db × Posted db p) c.in_ok-find_order.field-0 (Ok posting) s3 s4 s5
    (λ p o q. (o, q)) c.in_ok-find_order.ensures.finds c.in_ok-posting.ensures.finds in
    let later = finds_then (λ db x. FindsSent n.book db (x.0.items, x.1)) (λ db p. FindsOrder n.seq others db × Posted db p) (λ db p. FindsSent n.book db (sent.items, set) × FindsOrder n.seq others db × Posted db p) (sent, set) (Ok posting) s2 s3 s5
    (λ p a b. (a, b.0, b.1)) c.in_ok-sent.ensures.finds last in
    let all = finds_then FindsAgreed (λ db p. FindsSent n.book db (sent.items, set) × FindsOrder n.seq others db × Posted db p) (λ db p. FindsRows n db (record { agreement = agreement; set = set; posting = p }))
    agreement (Ok posting) s1 s2 s5
    (λ p a b. record {
      sent = sent.items;
      agreed = a;
      entries = b.0;
      order = subst (λ (xs : List (ℕ × ℕ)). FindsOrder n.seq (map (λ (x : ℕ × ℕ). x.1) xs) s1.now) c.deref.ensures.value b.1;
      posted = b.2;
    }) c.in_ok-agreement.ensures.finds later in
    finds_tested (λ db p. FindsRows n db (record { agreement = agreement; set = set; posting = p })) (FindsRows n) posting (Ok (record { agreement = agreement; set = set; posting = posting })) s1 s5 all (λ clean. (all.found clean).0)

pub returns-in_err-agreement-clause-taken : goal.returns-in_err-agreement-clause-taken
returns-in_err-agreement-clause-taken g c =
    takes_failed (HoldsStationBy (numbers_view c.args.numbers.now)) HoldsStation Memory Memory c.in_err-agreement.field-0.0 _ c.from_residual.result (state g.S.Store c.args.conn.now) (state g.S.Store c.find_agreed.new.conn) c.from_residual.ensures.1
    (λ f is memory. is ∙ memory) (λ such. such.0) c.in_err-agreement.ensures.taken

pub returns-in_err-sent-clause-taken : goal.returns-in_err-sent-clause-taken
returns-in_err-sent-clause-taken g c =
    let s1 = state g.S.Store c.args.conn.now in
    let s2 = state g.S.Store c.find_agreed.new.conn in
    let s3 = state g.S.Store c.find_sent.new.conn in
    let n = c.args.numbers.now in
    let By = HoldsStationBy (numbers_view n) in
    takes_second FindsAgreed By (HoldsBooked n.book) Memory Memory c.in_ok-agreement.agreement (λ db x. FindsSent n.book db (x.0.items, x.1)) c.in_err-sent.field-0.0 _ c.from_residual-in_err-sent.result s1 s2 s3 c.from_residual-in_err-sent.ensures.1
    (λ f is memory. is ∙ memory) (λ db found such. (such.0, ap (λ (k : KeptNumbers). k.book) such.1)) c.in_ok-agreement.ensures.finds c.in_err-sent.ensures.finds c.in_err-sent.ensures.taken

pub returns-in_err-find_order-clause-taken : goal.returns-in_err-find_order-clause-taken
returns-in_err-find_order-clause-taken g c =
    let s1 = state g.S.Store c.args.conn.now in
    let s2 = state g.S.Store c.find_agreed.new.conn in
    let s3 = state g.S.Store c.find_sent.new.conn in
    let s4 = state g.S.Store c.find_order.new.conn in
    let n = c.args.numbers.now in
    let By = HoldsStationBy (numbers_view n) in
    let sent = c.in_ok-sent.sent in
    let set = c.in_ok-sent.set in
    let others = map (λ (x : ℕ × ℕ). x.1) c.deref.result.now in
    let e = c.in_err-find_order.field-0.0 in
    let later = takes_then (λ db x. FindsSent n.book db (x.0.items, x.1)) By (HoldsInTurn n.seq others) Memory (sent, set) (λ db done. FindsOrder n.seq others db) (Err e) s2 s3 s4
    (λ db found such. (such.0, ap (λ (k : KeptNumbers). k.seq) such.1, subst (λ (xs : List (ℕ × ℕ)). map (λ (r : StoredSubmission). r.seq) (content_of db.trees).submitted ≡ map (λ (x : ℕ × ℕ). x.1) xs) (sym c.deref.ensures.value) (seqs_found n.book db sent.items found.submitted)))
    c.in_ok-sent.ensures.finds c.in_err-find_order.ensures.finds c.in_err-find_order.ensures.taken in
    let found = finds_then (λ db x. FindsSent n.book db (x.0.items, x.1)) (λ db done. FindsOrder n.seq others db) (λ db done. FindsOrder n.seq others db) (sent, set) (Err e) s2 s3 s4 (λ done a b. b) c.in_ok-sent.ensures.finds c.in_err-find_order.ensures.finds in
    takes_second FindsAgreed By By Memory Memory c.in_ok-agreement.agreement (λ db done. FindsOrder n.seq others db) e _ c.from_residual-in_err-find_order.result s1 s2 s4 c.from_residual-in_err-find_order.ensures.1
    (λ f is memory. is ∙ memory) (λ db found such. such) c.in_ok-agreement.ensures.finds found later

pub returns-in_err-posting-clause-taken : goal.returns-in_err-posting-clause-taken
returns-in_err-posting-clause-taken g c =
    let s1 = state g.S.Store c.args.conn.now in
    let s2 = state g.S.Store c.find_agreed.new.conn in
    let s3 = state g.S.Store c.find_sent.new.conn in
    let s4 = state g.S.Store c.find_order.new.conn in
    let s5 = state g.S.Store c.find_handed.new.conn in
    let n = c.args.numbers.now in
    let By = HoldsStationBy (numbers_view n) in
    let sent = c.in_ok-sent.sent in
    let set = c.in_ok-sent.set in
    let others = map (λ (x : ℕ × ℕ). x.1) c.deref.result.now in
    let Posted = FindsHanded n.handed in
    let e = c.in_err-posting.field-0.0 in
    let last = takes_then (λ db done. FindsOrder n.seq others db) By (HoldsHanded n.handed) Memory c.in_ok-find_order.field-0 Posted (Err e) s3 s4 s5 (λ db found such. (such.0, ap (λ (k : KeptNumbers). k.handed) such.1))
    c.in_ok-find_order.ensures.finds c.in_err-posting.ensures.finds c.in_err-posting.ensures.taken in
    let last_found = finds_then (λ db done. FindsOrder n.seq others db) Posted Posted c.in_ok-find_order.field-0 (Err e) s3 s4 s5 (λ p a b. b) c.in_ok-find_order.ensures.finds c.in_err-posting.ensures.finds in
    let later = takes_then (λ db x. FindsSent n.book db (x.0.items, x.1)) By By Memory (sent, set) Posted (Err e) s2 s3 s5 (λ db found such. such) c.in_ok-sent.ensures.finds last_found last in
    let later_found = finds_then (λ db x. FindsSent n.book db (x.0.items, x.1)) Posted Posted (sent, set) (Err e) s2 s3 s5 (λ p a b. b) c.in_ok-sent.ensures.finds last_found in
    takes_second FindsAgreed By By Memory Memory c.in_ok-agreement.agreement Posted e _ c.from_residual-in_err-posting.result s1 s2 s5 c.from_residual-in_err-posting.ensures.1
    (λ f is memory. is ∙ memory) (λ db found such. such) c.in_ok-agreement.ensures.finds later_found later
