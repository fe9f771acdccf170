-- How the lines of a begin and of a call in a transaction come about.
use Rattle.std.specs.Prelude.{◌≡◌, Bool, true, List, [], ◌∷◌}
use Rattle.dsql_history.specs.driver.declared.caps.Caps.{Caps}
use Rattle.dsql_history.specs.driver.declared.call.DriverCall.{DriverCall}
use Rattle.dsql_history.specs.driver.Fits.{fits_of}
use Rattle.dsql_history.specs.course.declared.course.Wish.{Wish}
use Rattle.dsql_history.specs.journal.declared.entry.Entry.{Entry}
use Rattle.dsql_history.specs.works.Line.{Asked}
use Rattle.dsql_history.specs.Rules.Line.{is_due}
use Rattle.dsql_history.specs.Rules.Sent.{begin_line, inner_after}

-- Holds if the driver call of the entry was the next one, and its answer fits. The connection was known to be
-- bad or not, and something was wanted from its rows or not.
pub record IsNext (can : Caps) (asked : Asked) (e : Entry) (earlier : List Entry) : Type 0 where
  pub bad : Bool
  pub wish : Wish
  pub due : is_due (inner_after can bad asked wish earlier) e.call ≡ true
  pub fits : fits_of e.call e.answer ≡ true

-- Holds if each entry of the line, newest first, was next after those before it.
abbrev pub ComesInTurn : Caps → Asked → List Entry → Type 0
ComesInTurn can asked [] = Unit {0}
ComesInTurn can asked (e ∷ earlier) = IsNext can asked e earlier × ComesInTurn can asked earlier

-- Holds if each entry of the line of a begin, newest first, was next after those before it, with a Reset due
-- first or not.
abbrev pub BeginsInTurn : Caps → DriverCall → List Entry → Type 0
BeginsInTurn can begin [] = Unit {0}
BeginsInTurn can begin (e ∷ earlier) =
    ((reset_due : Bool) × (is_due (begin_line can reset_due begin earlier) e.call ≡ true))
    × BeginsInTurn can begin earlier
