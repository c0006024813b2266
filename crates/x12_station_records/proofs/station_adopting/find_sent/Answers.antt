use Rattle.std.proofs.Common.{ℕ, List, Ok, map, subst}
use Rattle.sqlite.specs.Held.{state}
use Rattle.x12_tables.proofs.FindsLemmas.{finds_then, finds_tested}
use Rattle.x12_tables.proofs.TakesLemmas.{takes_second}
use Rattle.x12_tables.specs.declared.fault.TableFault.TheVariants.{Memory}
use Rattle.x12_station_records.proofs.StationFoundLemmas.{sent_found, icns_found}
use Rattle.x12_station_records.specs.StationAdopt.{FindsSubmitted, FindsSets, FindsSent}
use Rattle.x12_station_records.specs.StationContent.{content_of}
use Rattle.x12_station_records.specs.StationTaken.{HoldsBooked, HoldsSubmitted}
use Rattle.std.proofs.Common.{◌∙◌, sym}
use Rattle.std.proofs.Common.{◌≡◌}
use Rattle.x12_station.specs.Stored.{StoredSubmission}
use Rattle.x12_station_records.proofs.station_adopting.find_sent.Goals as goal

pub returns-clause-finds : goal.returns-clause-finds
returns-clause-finds g c =
    let first = state g.S.Store c.args.conn.now in
    let second = state g.S.Store c.find_submitted.new.conn in
    let third = state g.S.Store c.find_sets.new.conn in
    let book = c.args.book in
    let sent = c.in_ok-sent.sent in
    let icns = map (λ (x : ℕ × ℕ). x.0) c.deref.result.now in
    let both = finds_then (λ db xs. FindsSubmitted book db xs.items) (FindsSets book icns) (λ db next. FindsSent book db (sent.items, next)) sent (Ok c.in_ok-next.next) first second third
    (λ next s t. sent_found book first.now sent.items next s (subst (λ (xs : List (ℕ × ℕ)). FindsSets book (map (λ (x : ℕ × ℕ). x.0) xs) first.now next) c.deref.ensures.value t)) c.in_ok-sent.ensures.finds c.in_ok-next.ensures.finds in
    finds_tested (λ db next. FindsSent book db (sent.items, next)) (λ db x. FindsSent book db (x.0.items, x.1)) c.in_ok-next.next (Ok (sent, c.in_ok-next.next)) first third both (λ clean. (both.found clean).0)

pub returns-in_err-next-clause-taken : goal.returns-in_err-next-clause-taken
returns-in_err-next-clause-taken g c =
    let first = state g.S.Store c.args.conn.now in
    let second = state g.S.Store c.find_submitted.new.conn in
    let third = state g.S.Store c.find_sets.new.conn in
    let book = c.args.book in
    let sent = c.in_ok-sent.sent in
    let icns = map (λ (x : ℕ × ℕ). x.0) c.deref.result.now in
    takes_second (λ db xs. FindsSubmitted book db xs.items) (HoldsBooked book) (HoldsSubmitted book icns) Memory Memory sent (FindsSets book icns) c.in_err-next.field-0.0 _ c.from_residual-in_err-next.result first second third c.from_residual-in_err-next.ensures.1
    (λ f is memory. is ∙ memory) (λ db found such. (such, subst (λ (xs : List (ℕ × ℕ)). map (λ (r : StoredSubmission). r.icn) (content_of db.trees).submitted ≡ map (λ (x : ℕ × ℕ). x.0) xs) (sym c.deref.ensures.value) (icns_found book db sent.items found)))
    c.in_ok-sent.ensures.finds c.in_err-next.ensures.finds c.in_err-next.ensures.taken
