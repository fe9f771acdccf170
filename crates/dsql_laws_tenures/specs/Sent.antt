-- How lines grow: each driver call was due when it was sent.
use Rattle.std.specs.Prelude.{◌≡◌, ◌⊎◌, ℕ, Bool, true, false, not, ◌&&◌, List, [], ◌∷◌, Option, None, Some, ◌||◌}
use Rattle.std.specs.List.{list_any}
use Rattle.dsql_history.specs.driver.declared.answer.DriverAnswer.{DriverAnswer}
use Rattle.dsql_history.specs.driver.declared.call.DriverCall.{DriverCall}
use Rattle.dsql_history.specs.driver.declared.caps.Caps.{Caps}
use Rattle.dsql_history.specs.driver.Fits.{fits_of, is_memory}
use Rattle.dsql_history.specs.course.declared.course.Wish.{Wish}
use Rattle.dsql_history.specs.course.Made.{Exchange}
use Rattle.dsql_history.specs.journal.declared.entry.Entry.{Entry}
use Rattle.dsql_history.specs.works.Exchanges.{step_of, with_exchange}
use Rattle.dsql_history.specs.works.Line.{Asked, body_after}
use Rattle.dsql_history.specs.Readers.Lines.{is_about, has_sent}
use Rattle.dsql_history.specs.Rules.Line.{is_due}
use Rattle.dsql_history.specs.Rules.Sent.{untested}
use Rattle.dsql_laws_tenures.specs.Orderly.{asks_text, gives_cursor, gives_handle}
use Rattle.dsql_laws_tenures.specs.Tenures.{made_by}

-- Holds if the driver call is due after these exchanges, for some `bad` and some wish of the rows. `bad` says
-- whether the connection is known to be bad.
pub record IsDue (can : Caps) (asked : Asked) (made : List Exchange) (call : DriverCall) : Type 0 where
  pub bad : Bool
  pub wish : Wish
  pub due : is_due (body_after (untested can) bad asked wish made) call ≡ true

-- Holds if the exchange is of a driver call that was due, with an answer that fits.
pub record WasDue (can : Caps) (asked : Asked) (made : List Exchange) (x : Exchange) : Type 0 where
  pub call : DriverCall
  pub answer : DriverAnswer
  pub due : IsDue can asked made call
  pub fits : fits_of call answer && not (is_memory answer) ≡ true
  pub is : with_exchange (step_of call) answer made ≡ x ∷ made

-- Holds if each exchange was due when it was sent.
abbrev pub WasSent : Caps → Asked → List Exchange → Type 0
WasSent can asked [] = Unit {0}
WasSent can asked (x ∷ earlier) = WasSent can asked earlier × WasDue can asked earlier x

-- Holds if `asked` gives, by number, what each call of the transaction with a text asks. Each exchange in the
-- lines of these calls was due when it was sent. The driver gave no other call a cursor or a handle.
pub record KeepsLines (can : Caps) (asked : ℕ → Option Asked) (t : ℕ) (J : List Entry) : Type 0 where
  pub own : (n : ℕ) (it : Asked) → asked n ≡ Some it → WasSent can it (made_by n t J)
  pub text : (n : ℕ) (it : Asked) → asked n ≡ Some it → asks_text it.aim ≡ true
  pub others : (n : ℕ) → asked n ≡ None → list_any (λ x. gives_cursor x || gives_handle x) (made_by n t J) ≡ false

-- Holds if the entry is due in the line of call n. Either call n sent it, or a call without a text that works
-- on the rows of call n.
pub record IsSentIn (can : Caps) (asked : ℕ
    → Option Asked) (t n : ℕ) (it : Asked) (e : Entry) (J : List Entry) : Type 0 where
  pub asks : asked n ≡ Some it
  pub due : IsDue can it (made_by n t J) e.call
  pub by : (e.call_no ≡ n) ⊎ ((asked e.call_no ≡ None) × (is_about (made_by n t J) e.call ≡ true))

-- Holds if calls have joined the transaction that sent none of these entries, and no call has left it.
pub record Grows (asked later : ℕ → Option Asked) (heard : List Entry) : Type 0 where
  pub own : (n : ℕ) (it : Asked) → later n ≡ Some it → (asked n ≡ Some it) ⊎ (has_sent n heard ≡ false)
  pub text : (n : ℕ) (it : Asked) → later n ≡ Some it → asks_text it.aim ≡ true
  pub others : (n : ℕ) → later n ≡ None → asked n ≡ None
