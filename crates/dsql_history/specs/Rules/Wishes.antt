-- Defines what a call wants of rows, and which call sent the newest of some driver calls.
use Rattle.std.specs.Prelude.{ℕ, Bool, true, false, List, [], ◌∷◌}
use Rattle.dsql_history_work.specs.course.declared.course.Wish.{Wish}
use Rattle.dsql_history_work.specs.course.declared.course.Wish.TheVariants as wishes
use Rattle.dsql_history_work.specs.journal.declared.entry.Entry.{Entry}

-- Returns what a call wants of rows: to close them if the first flag is true, otherwise to fetch from them if
-- the second is. The call that ended rows closes them, and calls fetch from rows as long as they are live.
abbrev pub wish_as : Bool → Bool → Wish
wish_as true fetches = wishes.Close
wish_as false true = wishes.Fetch
wish_as false false = wishes.Nothing

-- Returns the call that sent the newest of these driver calls. It is 0 if there is none, or if the layer sent
-- it.
abbrev pub newest_sender : List Entry → ℕ
newest_sender [] = 0
newest_sender (e ∷ earlier) = e.call_no
