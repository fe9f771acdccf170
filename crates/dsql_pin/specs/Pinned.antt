-- Defines pinned connections: what each pin holds, and what ended it first.
use Rattle.std.specs.Prelude.{ℕ, ◌+◌, ◌-◌, ◌<◌, Bool, ◌==◌, Option, Some, None, Result, Ok, Err, unwrap_or, IfSome}
use Rattle.dsql_value_numbered.specs.Numbered.{Numbered, thing_of}
use Rattle.dsql_pin.specs.declared.end.PinEnd.{PinEnd}
use Rattle.dsql_pin.specs.declared.end.ConnDone.{ConnDone}
use Rattle.dsql_pin.specs.declared.pin.Pin.{Pin}

-- Pins with the numbers of the calls that made them. The second field says for how many more calls there is
-- memory.
pub record Pinned : Type 0 where
  pub pins : Numbered Pin
  pub spare : ℕ

-- Returns a pin as it was made.
abbrev pub pin_on : ℕ → Pin
pin_on conn = record { conn = conn; holds = 0; ended = None }

-- Returns the pin ended by this, or by what ended it first.
abbrev pub ended_by : PinEnd → Pin → Pin
ended_by by pin = record pin { ended = Some (unwrap_or pin.ended by) }

-- Returns the result for a call on the pin: nothing, or an error with what has ended the pin.
abbrev pub told : Option PinEnd → Result (Unit {0}) ConnDone
told None = Ok tt
told (Some by) = Err (record { by = by })

abbrev pub admitted : Pin → Result (Unit {0}) ConnDone
admitted pin = told pin.ended

-- Returns the number of rows and transactions that a pin may hold.
abbrev pub most_held : ℕ
most_held = 4294967295

-- Returns the pin with one more rows or transaction.
abbrev pub with_one_more : Pin → Pin
with_one_more pin = record pin { holds = pin.holds + 1 }

-- Returns the pin with one fewer.
abbrev pub with_one_fewer : Pin → Pin
with_one_fewer pin = record pin { holds = pin.holds - 1 }

-- Is true if the pin holds nothing.
abbrev pub is_free : Pin → Bool
is_free pin = pin.holds == 0

-- Holds if the pin with that number can hold one more.
abbrev pub HasRoom : ℕ → Numbered Pin → Type 0
HasRoom n pins = IfSome (thing_of n pins) (λ pin. pin.holds < most_held)

-- Holds if the pin with that number holds something.
abbrev pub HoldsSome : ℕ → Numbered Pin → Type 0
HoldsSome n pins = IfSome (thing_of n pins) (λ pin. 0 < pin.holds)
