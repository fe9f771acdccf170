use Rattle.std.proofs.Common.{◌≡◌, Bool, true, false, cond, None, Some, is_some, ap, sym, ◌∙◌}
use Rattle.dsql_laws_calls.specs.history.declared.record.Stand.TheVariants.{Sends}
use Rattle.dsql_laws_calls.specs.history.Rules.Flights.{is_taken}
use Rattle.dsql_laws_calls.specs.history.Rules.Stands.{stand}
use Rattle.dsql_laws_calls.proofs.laws.Numbered.{unfinished_from_one}
use Rattle.dsql_laws_calls.proofs.laws.Standing.{stands_sending}
use Rattle.dsql_engine_desk.specs.Desk.{past, Stands}
use Rattle.dsql_engine_going.specs.declared.next.Why.TheVariants.{Turn}
use Rattle.dsql_engine_going.proofs.Standing.{goes_blocked, goes_sending, taken_stays}
use Rattle.dsql_engine_going.proofs.going.send.Goals as goal

pub returns-then-is_taken : goal.returns-then-is_taken
unfolding Stands
returns-then-is_taken c =
    let H = past c.args.desk.now in
    let n = c.args.call in
    let flights = c.args.flights.now.flights in
    let conn = c.site-conn.result in
    let l = c.requires.stands.tables.lawful in
    let at : stand H n ≡ Some (Sends conn) = stands_sending H n l (unfinished_from_one H n l c.requires.unfinished) (ap (λ o. is_some o) (sym c.requires.due)) ∙ ap (λ d. Some (Sends d)) (sym c.site-conn.ensures) in
    let taken : is_taken n conn flights ≡ true = sym c.is_taken.ensures ∙ c.if-is_taken.true in
    goes_blocked H n flights (Some (Sends conn)) (Turn conn) c.requires.unfinished at (ap (λ (b : Bool). cond b (Some (Turn conn)) None) taken) (taken_stays n conn flights taken)

pub returns : goal.returns
unfolding Stands
returns c =
    let H = past c.args.desk.now in
    let n = c.args.call in
    let before = c.args.flights.now.flights in
    let conn = c.site-conn.result in
    let l = c.requires.stands.tables.lawful in
    let at : stand H n ≡ Some (Sends conn) = stands_sending H n l (unfinished_from_one H n l c.requires.unfinished) (ap (λ o. is_some o) (sym c.requires.due)) ∙ ap (λ d. Some (Sends d)) (sym c.site-conn.ensures) in
    let free : is_taken n conn before ≡ false = sym c.is_taken.ensures ∙ c.if-is_taken.false in
    goes_sending H n conn before c.begin.new.self.flights c.leave_for.result c.requires.unfinished at free c.begin.ensures.flights c.leave_for.ensures
