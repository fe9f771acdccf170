-- What the laws say of the tenure of a call on the database.
use Rattle.std.specs.Prelude.{◌≡◌, ◌==◌, ◌<◌, ◌≤◌, ◌&&◌, length, ℕ, Bool, true, false, List, [], ◌∷◌, ◌++◌, Some}
use Rattle.std.specs.List.{list_all}
use Rattle.dsql_history.specs.course.declared.course.Wish.{Wish}
use Rattle.dsql_history.specs.course.declared.course.Wish.TheVariants.{Close}
use Rattle.dsql_history.specs.course.Made.{Exchange, own_cursor, rows_are_over}
use Rattle.dsql_history.specs.driver.declared.caps.Caps.{Caps}
use Rattle.dsql_history.specs.journal.declared.entry.Entry.{Entry}
use Rattle.dsql_history.specs.journal.declared.entry.Owner.TheVariants.{Call}
use Rattle.dsql_history.specs.journal.Kinds.{is_number}
use Rattle.dsql_history.specs.journal.Journal.{IsJournalPrefix}
use Rattle.dsql_history.specs.journal.Readers.{LiveCursor, last_tenure}
use Rattle.dsql_history.specs.works.declared.work.Aim.{Aim}
use Rattle.dsql_history.specs.works.Line.{Asked, handed, is_due_in_line, line_after}
use Rattle.dsql_laws_tenures.specs.Connections.{IsQuiet}

-- Holds if the entry is in tenure t of connection c, which is lent to call n, and in no transaction. A call
-- with a number of its own may have sent it, over rows that call n handed out.
pub record IsOfCall (c t n : ℕ) (e : Entry) : Type 0 where
  pub conn : e.conn ≡ c
  pub tenure : e.tenure ≡ t
  pub owner : e.owner ≡ Call n
  pub tx : e.tx ≡ 0

-- Holds if the entry was due after what was heard earlier in the tenure, for some wish of the rows.
pub record WasDue (can : Caps) (reset_due : Bool) (asked : Asked) (e : Entry) (earlier : List Entry) : Type 0 where
  pub wish : Wish
  pub due : is_due_in_line (line_after can reset_due asked wish earlier) e.call ≡ true

-- Holds if these entries, newest first, were each due when they were sent in the tenure.
abbrev pub WereSent : Caps → Bool → Asked → ℕ → ℕ → ℕ → List Entry → Type 0
WereSent can reset_due asked c t n [] = Unit {0}
WereSent can reset_due asked c t n (e ∷ earlier) =
    WereSent can reset_due asked c t n earlier × IsOfCall c t n e × WasDue can reset_due asked e earlier

-- Holds if connection c was quiet before, was lent to call n in tenure t, and `heard` is what was heard for the
-- call since.
pub record IsLentToCall (can : Caps) (reset_due : Bool) (asked : Asked) (c t n : ℕ)
    (heard before : List Entry) : Type 0 where
  pub quiet : IsQuiet c before
  pub above : last_tenure before < t
  pub beginning : IsJournalPrefix (heard ++ before)
  pub sent : WereSent can reset_due asked c t n heard

-- Holds if rows that were handed out and are still open are to be closed.
abbrev pub ClosesOpenRows : Aim → Wish → List Exchange → Type 0
ClosesOpenRows aim wish made = (rows : ℕ) → handed aim made ≡ Some rows → rows_are_over made ≡ false → wish ≡ Close

-- Holds if at most one cursor is live, and it is that of these exchanges, in tenure t.
pub record HasOwnCursor (t : ℕ) (made : List Exchange) (live : List LiveCursor) : Type 0 where
  pub own : list_all (λ x. (x.tenure == t) && is_number (own_cursor made) x.number) live ≡ true
  pub one : length live ≤ 1
