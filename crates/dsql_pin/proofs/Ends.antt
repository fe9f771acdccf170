-- Proves that the first end of a pin stays, and that the pin goes on holding what it holds.
use Rattle.std.proofs.Common.{◌≡◌, ℕ, ◌+◌, ◌-◌, List, [], ◌∷◌, Option, Some, None, refl, arith}
use Rattle.std.specs.Prelude.{fold}
use Rattle.dsql_value_numbered.specs.Numbered.{Numbered, thing_of}
use Rattle.dsql_value_numbered.proofs.Kept.{Has, Keeps, kept_beside_new, kept_by_change, kept_by_all}
use Rattle.dsql_pin.specs.declared.end.PinEnd.{PinEnd}
use Rattle.dsql_pin.specs.declared.end.PinEnd.TheVariants.{EndOfRun}
use Rattle.dsql_pin.specs.declared.pin.Pin.{Pin}
use Rattle.dsql_pin.specs.Pinned.{ended_by, with_one_more, with_one_fewer}
use Rattle.dsql_pin.specs.Laws.{Change, Pins, Ends, Holds, Releases, EndsAll, after, end_in, FirstEndStays, HoldsUntilReleased}

abbrev IsEndedBy : PinEnd → Pin → Type 0
IsEndedBy by pin = pin.ended ≡ Some by

keeps_first : (by later : PinEnd) → Keeps (IsEndedBy by) (ended_by later)
keeps_first by later pin h = rw h refl

stays_after : (n : ℕ) (by : PinEnd) (pins : Numbered Pin) (change : Change) → Has (IsEndedBy by) (thing_of n pins) → Has (IsEndedBy by) (thing_of n (after pins change))
stays_after n by pins (Pins m pin) h = kept_beside_new (IsEndedBy by) n m pin pins h
stays_after n by pins (Ends m end) h = kept_by_change (IsEndedBy by) (ended_by end) (keeps_first by end) n m pins h
stays_after n by pins (Holds m) h = kept_by_change (IsEndedBy by) with_one_more (λ pin ended. ended) n m pins h
stays_after n by pins (Releases m) h = kept_by_change (IsEndedBy by) with_one_fewer (λ pin ended. ended) n m pins h
stays_after n by pins EndsAll h = kept_by_all (IsEndedBy by) (ended_by EndOfRun) (keeps_first by EndOfRun) n pins h

stays_after_all : (n : ℕ) (by : PinEnd) (pins : Numbered Pin) (later : List Change) → Has (IsEndedBy by) (thing_of n pins) → Has (IsEndedBy by) (thing_of n (fold after pins later))
stays_after_all n by pins [] h = h
stays_after_all n by pins (change ∷ later) h = stays_after_all n by (after pins change) later (stays_after n by pins change h)

has_end : (by : PinEnd) (o : Option Pin) → end_in o ≡ Some by → Has (IsEndedBy by) o
has_end by None h = cc
has_end by (Some pin) h = h

end_had : (by : PinEnd) (o : Option Pin) → Has (IsEndedBy by) o → end_in o ≡ Some by
end_had by None h = absurd h
end_had by (Some pin) h = h

pub first_end_stays : FirstEndStays
first_end_stays = record {
  live = λ conn. refl;
  first = λ by pin live. rw live refl;
  stays = λ by later pin. refl;
  whatever_comes = λ n by pins later h. end_had by (thing_of n (fold after pins later)) (stays_after_all n by pins later (has_end by (thing_of n pins) h));
}

with_holds : (pin : Pin) (n : ℕ) → n ≡ pin.holds → record pin { holds = n } ≡ pin
with_holds pin n same = rw same refl

pub holds_until_released : HoldsUntilReleased
holds_until_released = record {
  goes_on = λ by pin. refl;
  released = λ pin. with_holds pin ((pin.holds + 1) - 1) (omega arith);
  holds_again = λ pin some. with_holds pin ((pin.holds - 1) + 1) (omega arith);
  free_at_first = λ conn. refl;
  same_conn = λ by pin. refl;
}
