-- Defines what the table of pins promises, as laws.
use Rattle.std.specs.Prelude.{◌≡◌, ℕ, ◌<◌, true, List, [], ◌∷◌, ◌++◌, Option, Some, None, Ok, Err, fold}
use Rattle.dsql_value_numbered.specs.Numbered.{Numbered, thing_of, changed, all_changed}
use Rattle.dsql_pin.specs.declared.end.PinEnd.{PinEnd}
use Rattle.dsql_pin.specs.declared.end.PinEnd.TheVariants.{EndOfRun}
use Rattle.dsql_pin.specs.declared.pin.Pin.{Pin}
use Rattle.dsql_pin.specs.Pinned.{pin_on, ended_by, admitted, with_one_more, with_one_fewer, is_free}

-- A change of the table. A connection is pinned, a pin is ended, a pin holds one more or one fewer, or the run's end
-- ends all pins.
pub data Change : Type 0 where
  Pins : ℕ → Pin → Change
  Ends : ℕ → PinEnd → Change
  Holds : ℕ → Change
  Releases : ℕ → Change
  EndsAll : Change

abbrev pub after : Numbered Pin → Change → Numbered Pin
after pins (Pins n pin) = pins ++ (n, pin) ∷ []
after pins (Ends n by) = changed (ended_by by) n pins
after pins (Holds n) = changed with_one_more n pins
after pins (Releases n) = changed with_one_fewer n pins
after pins EndsAll = all_changed (ended_by EndOfRun) pins

-- Returns what ended the pin, if there is a pin and something has ended it.
abbrev pub end_in : Option Pin → Option PinEnd
end_in None = None
end_in (Some pin) = pin.ended

abbrev pub end_of : ℕ → Numbered Pin → Option PinEnd
end_of n pins = end_in (thing_of n pins)

-- Holds if the first end of a pin stays, whatever is pinned, held, released and ended later.
pub record FirstEndStays : Type 0 where
  pub live : (conn : ℕ) → admitted (pin_on conn) ≡ Ok tt
  pub first : (by : PinEnd) (pin : Pin) → pin.ended ≡ None → admitted (ended_by by pin) ≡ Err (record { by = by })
  pub stays : (by later : PinEnd) (pin : Pin) → ended_by later (ended_by by pin) ≡ ended_by by pin
  pub whatever_comes : (n : ℕ) (by : PinEnd) (pins : Numbered Pin) (later : List Change) → end_of n pins ≡ Some by
      → end_of n (fold after pins later) ≡ Some by

-- Holds if what a pin holds goes on after the pin ends, and is released one by one.
pub record HoldsUntilReleased : Type 0 where
  pub goes_on : (by : PinEnd) (pin : Pin) → (ended_by by pin).holds ≡ pin.holds
  pub released : (pin : Pin) → with_one_fewer (with_one_more pin) ≡ pin
  pub holds_again : (pin : Pin) → 0 < pin.holds → with_one_more (with_one_fewer pin) ≡ pin
  pub free_at_first : (conn : ℕ) → is_free (pin_on conn) ≡ true
  pub same_conn : (by : PinEnd) (pin : Pin) → (ended_by by pin).conn ≡ pin.conn
