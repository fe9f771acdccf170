use Rattle.std.proofs.Common.{◌≡◌, ◌≤◌, ℕ, arith}
use Rattle.sqlite.specs.Held.{state}
use Rattle.sqlite.specs.State.{HasCleanDisk}
use Rattle.sqlite_driver.specs.Values.{ShowsRows}
use Rattle.sqlite_driver.proofs.statements.query.Goals as goal

-- What is at most nothing is nothing.
none-below : (a b : ℕ) → a ≤ b → b ≡ 0 → a ≡ 0
none-below a b h none = omega arith

pub returns-in-Some : goal.returns-in-Some
returns-in-Some g c = λ clean by_place.
    let was_clean : HasCleanDisk (state g.S.Store c.compiled.new.connection) = none-below _ _ c.rows_of.ensures.clean clean in
    let rows : ShowsRows c.in_ok-found.found.items c.in_ok-rows.rows.items = rw c.as_slice.ensures.value at c.in_ok-rows.ensures in
    rw c.in-Some.ensures.set (record {
      compiled = c.compiled.new.connection;
      outline = c.in_ok-statement.statement;
      rows = c.in_ok-found.found.items;
      unchanged = c.in_ok-statement.ensures.unchanged was_clean;
      outlines = c.in_ok-statement.ensures.outlines was_clean;
      shown = c.in_ok-found.ensures.shown by_place clean;
      columns_are = c.in_ok-columns.ensures;
      rows_are = rows;
    })
