-- Who may go on, as threads that wait ask. The argument is that every other reason was asked about before the last one.
use Rattle.std.proofs.Common.{◌≡◌, ◌<◌, ◌==◌, ℕ, Bool, true, false, not, ◌&&◌, ◌||◌, List, [], ◌∷◌, length, Option, Some, None, is_none, is_some, refl, ap, sym, subst, ◌∙◌, arith, eqb-true}
use Rattle.std.specs.Prelude.{Result, Ok, Err, IfSome, OnOk, is_err, nat_le}
use Rattle.std.proofs.lemmas.Bool.{lt-leb}
use Rattle.dsql_engine_laws.specs.journal.declared.entry.Permit.{Permit}
use Rattle.dsql_engine_laws.specs.journal.Readers.{is_empty}
use Rattle.dsql_engine_laws.specs.history.declared.event.Control.{Control}
use Rattle.dsql_engine_laws.specs.history.declared.event.Event.{Event}
use Rattle.dsql_engine_laws.specs.history.Readers.Calls.{is_busy}
use Rattle.dsql_engine_laws.specs.history.Readers.Clients.{call_of}
use Rattle.dsql_engine_laws.specs.history.Rules.House.{chore_due}
use Rattle.dsql_engine_laws.specs.going.Permits.{chore_permit}
use Rattle.dsql_engine_laws.specs.laws_ends.Over.{may_move}
use Rattle.dsql_engine_laws.specs.laws_steps.Groups.{most_events}
use Rattle.dsql_player_wires.specs.Seats.{seat}
use Rattle.dsql_player.specs.declared.halt.Halt.{Halt}
use Rattle.dsql_hall_steps.specs.Halls.{InHall}
use Rattle.dsql_hall_steps.specs.Waking.{client_may_go_on, house_may_go_on}

-- The last of some tests decides if the others are false.

last_of_five : (a b c d e : Bool) → a ≡ false → b ≡ false → c ≡ false → d ≡ false → (a || b || c || d || e) ≡ e
last_of_five false false false false e a b c d = refl
last_of_five true _ _ _ _ a b c d = absurd cc
last_of_five false true _ _ _ a b c d = absurd cc
last_of_five false false true _ _ a b c d = absurd cc
last_of_five false false false true _ a b c d = absurd cc

last_of_house : (a b c d e f : Bool) → a ≡ false → b ≡ false → c ≡ true → d ≡ false → e ≡ true → (a || b || (c && (d || not e || f))) ≡ f
last_of_house false false true false true f a b c d e = refl
last_of_house true _ _ _ _ _ a b c d e = absurd cc
last_of_house false true _ _ _ _ a b c d e = absurd cc
last_of_house false false false _ _ _ a b c d e = absurd cc
last_of_house false false true true _ _ a b c d e = absurd cc
last_of_house false false true false false _ a b c d e = absurd cc

-- A client that may move, or nothing lets it go on.
pub client_moves : {W : Type 0} (me : ℕ) (h before : InHall W) (moves : Bool) → h ≡ before → is_some h.stopped ≡ false → h.resting ≡ false → is_busy me h.player.past ≡ true → is_some (seat h.player.seats me).permit ≡ false
    → moves ≡ may_move h.player.past h.player.flights (call_of h.player.past me) → moves ≡ client_may_go_on me before
client_moves me h before moves was runs going busy parked is =
    subst (λ b. moves ≡ client_may_go_on me b) was
    (is ∙ sym (last_of_five (is_some h.stopped) h.resting (not (is_busy me h.player.past)) (is_some (seat h.player.seats me).permit) (may_move h.player.past h.player.flights (call_of h.player.past me)) runs going (ap not busy) parked))

-- What the questions of the house mean.

pub has_room : (r : Result (Unit {0}) Halt) (past : List Event) → is_err r ≡ false → OnOk r (length past < most_events) → nat_le most_events (length past) ≡ false
has_room (Ok done) past ok room = lt-leb most_events (length past) room
has_room (Err halt) past ok room = absurd cc

pub none_to_set : (settings : List Control) (many : ℕ) → many ≡ length settings → (many == 0) ≡ true → is_empty settings ≡ true
none_to_set [] many is none = refl
none_to_set (control ∷ settings) many is none = let zero : many ≡ 0 = eqb-true many 0 none in absurd (omega (arith, is, zero))

pub is_due : (past : List Event) (permit : Option Permit) → IfSome permit (λ p. (chore_due past ≡ Some p.conn) × (chore_permit past p.conn ≡ Some p)) → (permit ≡ None → chore_due past ≡ None)
    → is_some permit ≡ is_some (chore_due past)
is_due past None some none = sym (ap is_some (none refl))
is_due past (Some permit) some none = sym (ap is_some some.0)

-- The house has a driver call to make, or nothing lets it go on.
pub house_moves : {W : Type 0} (h before : InHall W) (due : Bool) → h ≡ before → is_some h.stopped ≡ false → h.resting ≡ false → is_some h.chore ≡ false → nat_le most_events (length h.player.past) ≡ false
    → is_empty h.settings ≡ true → due ≡ is_some (chore_due h.player.past) → due ≡ house_may_go_on before
house_moves h before due was runs going free room set is =
    subst (λ b. due ≡ house_may_go_on b) was
    (is ∙ sym (last_of_house (is_some h.stopped) h.resting (is_none h.chore) (nat_le most_events (length h.player.past)) (is_empty h.settings) (is_some (chore_due h.player.past)) runs going (ap not free) room set))
