use Rattle.std.proofs.Common.{◌≡◌, true, ◌==◌, ◌||◌, not, List, ◌∙◌, ap, sym}
use Rattle.std.specs.List.{list_all}
use native.Mathlib.Omega.{arith}
use Rattle.dsql_driver.specs.Kinds.{is_close_stmt}
use Rattle.dsql_tenure_asked.specs.declared.live.Handle.{Handle}
use Rattle.dsql_tenure_asked.specs.Asked.{entry_like}
use Rattle.dsql_tenure.proofs.TableFacts.{closes_own_by}
use Rattle.dsql_tenure.proofs.tables.Tables.closes_own.Goals as goal

pub returns-in-Some : goal.returns-in-Some
returns-in-Some c =
    let t = c.args.self.now in
    let e = entry_like c.args.asked.now in
    let closes : is_close_stmt c.args.asked.now.call.now ≡ true = grind (arith, c.is_close_stmt.ensures, c.if-not-is_close_stmt.false) in
    c.is_of_tenure.ensures
    ∙ ap (λ (hs : List Handle). list_all (λ h. not (h.number == c.in-Some.number) || (h.tenure == e.tenure)) hs) c.deref.ensures.value
    ∙ closes_own_by t c.requires e c.in-Some.number closes (sym c.in-Some.ensures)
