use Rattle.std.proofs.Common.{◌≡◌, ℕ, true, false, Some, is_some, sym, ap, subst, ◌∙◌}
use Rattle.std.specs.Option.{option_map}
use Rattle.dsql_engine_hearing.specs.journal.Kinds.{number_of}
use Rattle.dsql_engine_hearing.specs.exchanged.Filled.{filled}
use Rattle.dsql_engine_hearing.specs.history.Rules.Line.{tidying}
use Rattle.dsql_engine_hearing.specs.desk.Desk.{past}
use Rattle.dsql_engine.proofs.Chores.{nobody_asks, tidy_given}
use Rattle.dsql_engine.proofs.permits.tidy_leave.Goals as goal

pub unreachable-requires : goal.unreachable-requires
unreachable-requires c =
    let told : option_map (filled nobody_asks) c.tidying.result ≡ tidying (past c.args.desk.now) (number_of c.args.owner)
    = subst (λ (n : ℕ). option_map (filled nobody_asks) c.tidying.result ≡ tidying (past c.args.desk.now) n) c.number.ensures (c.tidying.ensures nobody_asks)
    in
    let clash : true ≡ false = sym c.requires.due ∙ (ap (λ o. is_some o) (sym told) ∙ ap (λ o. is_some (option_map (filled nobody_asks) o)) c.in-None.is) in
    absurd cc

pub returns : goal.returns
returns c =
    let H = past c.args.desk.now in
    let asked = c.statement-statement.result in
    let told : option_map (filled asked) c.tidying.result ≡ tidying H (number_of c.args.owner)
    = subst (λ (n : ℕ). option_map (filled asked) c.tidying.result ≡ tidying H n) c.number.ensures (c.tidying.ensures asked)
    in
    tidy_given c.args.conn c.args.tenure c.args.owner asked c.tidying.result c.in-Some.sent c.tx_carried-tx.result (tidying H (number_of c.args.owner)) told c.in-Some.is (c.tx_carried-tx.ensures asked)
    ∙ ap (λ it. Some it) (sym c.new.ensures)
