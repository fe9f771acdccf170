-- Defines worked pins: pin 2 is on connection 1 and holds two, and pin 6 was closed while it held one.
use Rattle.std.specs.Prelude.{◌≡◌, true, false, [], ◌∷◌, Some, None, Ok, Err}
use Rattle.std.specs.Option.{option_map}
use Rattle.dsql_value_numbered.specs.Numbered.{Numbered, thing_of, was_made, changed, all_changed}
use Rattle.dsql_pin.specs.declared.end.PinEnd.TheVariants.{Close, BadConn, Discard, EndOfRun}
use Rattle.dsql_pin.specs.declared.pin.Pin.{Pin}
use Rattle.dsql_pin.specs.Pinned.{pin_on, ended_by, admitted, with_one_more, with_one_fewer, is_free}
use Rattle.dsql_pin.specs.Laws.{end_of}

abbrev pub second : Pin
second = with_one_more (with_one_more (pin_on 1))

abbrev pub sixth : Pin
sixth = ended_by Close (with_one_more (pin_on 2))

abbrev pub two : Numbered Pin
two = (2, second) ∷ (6, sixth) ∷ []

pub record WorkedPins : Type 0 where
  pub found : thing_of 6 two ≡ Some sixth
  pub goes_on : admitted second ≡ Ok tt
  pub closed : admitted sixth ≡ Err (record { by = Close })
  pub closed_twice : admitted (ended_by Close sixth) ≡ Err (record { by = Close })
  pub closed_first : end_of 6 (changed (ended_by BadConn) 6 two) ≡ Some Close
  pub bad_first : admitted (ended_by Discard (ended_by BadConn second)) ≡ Err (record { by = BadConn })
  pub one_alone : end_of 2 (changed (ended_by Discard) 6 two) ≡ None
  pub run_ends_it : end_of 2 (all_changed (ended_by EndOfRun) two) ≡ Some EndOfRun
  pub run_comes_last : end_of 6 (all_changed (ended_by EndOfRun) two) ≡ Some Close
  pub holds_one : is_free sixth ≡ false
  pub released : option_map is_free (thing_of 6 (changed with_one_fewer 6 two)) ≡ Some true
  pub still_holds : is_free (with_one_fewer second) ≡ false
  pub holds_after_end : (ended_by BadConn second).holds ≡ 2
  pub made : was_made 2 two ≡ true
  pub not_made : was_made 4 two ≡ false
