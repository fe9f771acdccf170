-- Defines when rows that were handed out keep their connection.
use Rattle.std.proofs.Common.{ℕ, Bool, true, false, not, ◌&&◌, List, Option, Some, None}
use Rattle.dsql_history_work.specs.course.declared.course.Wish.{Wish}
use Rattle.dsql_history_work.specs.course.declared.course.Wish.TheVariants as wishes
use Rattle.dsql_history_work.specs.course.Made.{Exchange, rows_are_over}
use Rattle.dsql_history_work.specs.declared.work.Aim.{Aim}
use Rattle.dsql_history_work.specs.Line.{handed}

-- Is true if nobody closes the rows. Rows that are handed out keep the connection as long as they aren't over
-- and nobody closes them.
abbrev pub keeps : Wish → Bool
keeps wishes.Close = false
keeps _ = true

abbrev pub keeps_with : Wish → List Exchange → Option ℕ → Bool
keeps_with wish made None = false
keeps_with wish made (Some rows) = not (rows_are_over made) && keeps wish

abbrev pub keeps_rows : Aim → Wish → List Exchange → Bool
keeps_rows aim wish made = keeps_with wish made (handed aim made)
