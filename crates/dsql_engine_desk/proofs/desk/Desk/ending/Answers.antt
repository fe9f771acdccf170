use Rattle.std.proofs.Common.{◌≡◌, None, Some, sym, ap, ◌∙◌}
use Rattle.std.specs.Option.{option_map}
use Rattle.dsql_laws_calls.specs.course.Made.{or_else}
use Rattle.dsql_laws_calls.specs.driver.declared.call.DriverCall.{DriverCall}
use Rattle.dsql_engine_desk.specs.Desk.{past, Stands}
use Rattle.dsql_engine_desk.specs.Next.{lent_under, there_at}
use Rattle.dsql_engine_exchanged.specs.Filled.{filled}
use Rattle.dsql_laws_calls.specs.history.Readers.Journals.{heard_in}
use Rattle.dsql_laws_calls.specs.history.Readers.Transactions.{tx_end}
use Rattle.dsql_laws_calls.specs.history.Readers.Works.{works}
use Rattle.dsql_laws_calls.specs.history.Rules.Ending.{end_after, first_closing}
use Rattle.std.specs.Prelude.{Option}
use Rattle.dsql_engine_desk.proofs.EndingLent.{ends_on}
use Rattle.dsql_engine_desk.proofs.desk.Desk.ending.Goals as goal

pub returns-in-None : goal.returns-in-None
unfolding Stands
returns-in-None c asked =
    let H = past c.args.self.now in
    let k = c.args.tx in
    let conn = c.in_ok-conn.conn in
    let end = c.in_ok-end.end in
    let ended : tx_end H k ≡ Some end = sym c.tx_end.ensures ∙ c.in_ok-end.was in
    let lent : lent_under H k ≡ Some conn = sym c.lent_under.ensures ∙ c.in_ok-conn.was in
    let none : first_closing H k 0 (works H) ≡ None = sym (c.first_closing.ensures asked) ∙ ap (option_map (filled asked)) c.in-None.is in
    let it = ends_on H k conn end c.requires.tables.lawful ended lent in
    let heard = heard_in H conn it.tenure in
    c.ends_next.ensures asked heard it.kept ∙ sym (it.is ∙ ap (λ (d : Option DriverCall). or_else d (end_after H (there_at H conn).ending.bad end heard)) none)
