-- A worked report with its bars.
use Rattle.std.specs.Prelude.{ℕ, ◌≡◌, List, [], ◌∷◌, map}
use Rattle.dsql_history.specs.driver.declared.call.DriverCall.TheVariants.{Connect}
use Rattle.dsql_history.specs.driver.declared.answer.DriverAnswer.TheVariants.{Done}
use Rattle.dsql_history.specs.journal.declared.entry.Owner.TheVariants.{House, Call}
use Rattle.dsql_history.specs.pool.declared.moves.Move.TheVariants.{OpenStart, Lend, Back}
use Rattle.dsql_history.specs.declared.reply.Reply.TheVariants.{Ok}
use Rattle.dsql_history.specs.declared.event.Op.TheVariants.{Ping}
use Rattle.dsql_history.specs.declared.event.Event.{Event}
use Rattle.dsql_history.specs.declared.event.Event.TheVariants.{Entered, Heard, Pool, Waits, Ticked, Replied, Ended}
use Rattle.dsql_timeline_page.specs.declared.bar.Bar.{Bar}
use Rattle.dsql_timeline_page.specs.declared.bar.Class.{Class}
use Rattle.dsql_timeline_page.specs.declared.bar.Class.TheVariants as class
use Rattle.dsql_timeline_picture.specs.Pictures.{Drawn, drawn_of}

-- A client's call is lent a connection. Another client's call waits for it, and has no reply.
abbrev pub worked : List Event
worked =
    Entered 1 1 Ping
    ∷ Pool (OpenStart 1 1)
    ∷ Heard (record { conn = 1; tenure = 1; owner = House; call_no = 0; tx = 0; call = Connect; answer = Done })
    ∷ Pool (Lend 1 2 (Call 1) 1)
    ∷ Entered 2 2 Ping
    ∷ Waits 2
    ∷ Pool (Back 1)
    ∷ Pool (Lend 1 3 (Call 2) 2)
    ∷ Replied 1 Ok
    ∷ Ticked 50
    ∷ Ended
    ∷ []

-- Returns the bar of a class with an owner, by its column, its row, its columns and its rows.
abbrev pub bar_at : Class → ℕ → ℕ → ℕ → ℕ → ℕ → Bar
bar_at shows owner column place columns rows =
    record { class = shows; owner = owner; column = column; row = place; columns = columns; rows = rows }

-- Holds if the worked report has these lanes and bars.
pub record WorkedPicture : Type 0 where
  pub bars : map (λ (d : Drawn). d.bar) (drawn_of worked)
      ≡ bar_at class.Lane 1 0 1 11 1
      ∷ bar_at class.Lane 1 0 2 11 1
      ∷ bar_at class.Lane 2 0 3 11 1
      ∷ bar_at class.Call 1 0 2 8 1
      ∷ bar_at class.Opening 0 1 1 2 1
      ∷ bar_at class.Done 0 2 1 1 1
      ∷ bar_at class.Lent 1 3 1 3 1
      ∷ bar_at class.Call 2 4 3 7 1
      ∷ bar_at class.Waiting 0 5 3 2 1
      ∷ bar_at class.Idle 0 6 1 1 1
      ∷ bar_at class.Lent 2 7 1 4 1
      ∷ bar_at class.Done 0 8 2 1 1
      ∷ bar_at class.Moment 0 9 0 1 4
      ∷ bar_at class.Edge 0 10 0 1 4
      ∷ []
