-- A client's call makes the driver call for which it has a permit. The argument follows what the client has at
-- hand: its permit is taken, and after the answer it is handed what comes next.
use Rattle.std.proofs.Common.{◌≡◌, ◌≢◌, ◌<◌, ◌≤◌, ◌⊎◌, inl, inr, ℕ, true, false, List, length, Option, Some, None, is_some, refl, ap, sym, subst, ◌∙◌, arith}
use Rattle.std.specs.Prelude.{IsSomeAnd}
use Rattle.dsql_engine_laws.specs.driver.Kinds.{is_connect, is_shut}
use Rattle.dsql_engine_laws.specs.driver.Wires.{WireTold}
use Rattle.dsql_engine_laws.specs.journal.declared.entry.Entry.{Entry}
use Rattle.dsql_engine_laws.specs.journal.declared.entry.Permit.{Permit}
use Rattle.dsql_engine_laws.specs.journal.HandlesAndCursors.{fits_at_its_place}
use Rattle.dsql_engine_laws.specs.tenure.Judged.{answered}
use Rattle.dsql_engine_laws.specs.history.declared.event.Event.{Event}
use Rattle.dsql_engine_laws.specs.history.declared.event.Event.TheVariants.{Heard}
use Rattle.dsql_engine_laws.specs.history.Readers.Journals.{journal}
use Rattle.dsql_engine_laws.specs.history.Legal.{Lawful}
use Rattle.dsql_engine_laws.proofs.laws_work.Rows.{same_or_not}
use Rattle.dsql_engine.specs.Core.{Core}
use Rattle.dsql_engine_laws.specs.going.declared.next.Next.{Next}
use Rattle.dsql_player_wires.specs.Seats.{Seat, seat}
use Rattle.dsql_engine_laws.specs.laws_steps.Groups.{after_heard}
use Rattle.dsql_engine_laws.specs.Leaves.{IsLeave}
use Rattle.dsql_engine_laws.proofs.Leave.{leave_opens_none, leave_shuts_none, leave_welcomes}
use Rattle.dsql_engine_laws.specs.wire.Journaled.{Journaled}
use Rattle.dsql_player_wires.specs.Asked.{LacksMemory, Performs}
use Rattle.dsql_player_wires.specs.Made.{Made}
use Rattle.dsql_player_wires.specs.Stopped.{HasRoom, HearsAtMost, MayCome, WantedMemory}
use Rattle.dsql_player_wires.specs.Told.{fleet_told}
use Rattle.dsql_player_wires.specs.WiresFit.{KeepsFit, KeepsPlans, WiresFit, slot}
use Rattle.dsql_player_wires.proofs.Asking.{wire_fits}
use Rattle.dsql_player_wires.proofs.Stopped.{answer_untaken, call_lacking}
use Rattle.dsql_player.specs.Apart.{AnswersLeave}
use Rattle.dsql_player.specs.Acts.{Hands, SamePermits, SamePermitsBut}
use Rattle.dsql_player.specs.Playing.{IsReady, KeepsLines, Playing}
use Rattle.dsql_player.specs.Stepping.{leave_of}
use Rattle.dsql_player.proofs.Allowed.{allowed_welcome}
use Rattle.dsql_player.proofs.Answering.{HasLeave, entry_conn, leave_heard}
use Rattle.dsql_player.proofs.Grouped.{Grouped, hears_grouped}
use Rattle.dsql_player.proofs.Hearing.{answer_fits, answer_plans, answer_told}

-- Holds if a client has this permit at present, and nothing else that clients have at hand changed.
pub record Given (me : ℕ) (permit : Option Permit) (seats now : List Seat) : Type 0 where
  pub here : seat now me ≡ record (seat seats me) { permit = permit }
  pub others : (client : ℕ) → client ≢ me → seat now client ≡ seat seats client
  pub many : length now ≡ length seats

pub given_hands : (me : ℕ) (next : Next) (seats now : List Seat) → me < length seats → Given me (leave_of next) seats now → Hands me next seats now
given_hands me next seats now seated g =
    let same : length now ≡ length seats = g.many in
    let enough : me < length now = omega (arith, same, seated) in
    let no_less : length seats ≤ length now = omega (arith, same) in
    record {
      handed = ap (λ (s : Seat). s.permit) g.here;
      others = λ client apart. ap (λ (s : Seat). s.permit) (g.others client apart);
      room = enough;
      many = no_less;
    }

-- What one client is handed leaves the others the permits that they have.
pub hands_but : (me : ℕ) (next : Next) (seats now : List Seat) → Hands me next seats now → SamePermitsBut me seats now
hands_but me next seats now h = record { permit = h.others; many = h.many }

pub permits_then : (me : ℕ) (seats mid now : List Seat) → SamePermits seats mid → SamePermitsBut me mid now → SamePermitsBut me seats now
permits_then me seats mid now same but =
    let first = same.many in
    let second = but.many in
    record { permit = λ client apart. but.permit client apart ∙ same.permit client; many = omega (arith, first, second) }

unchanged : {X : Type 0} (f : Seat → X) (me : ℕ) (permit : Option Permit) (seats now : List Seat) → Given me permit seats now → f (record (seat seats me) { permit = permit }) ≡ f (seat seats me) → (client : ℕ)
    → f (seat now client) ≡ f (seat seats client)
unchanged f me permit seats now g keeps client = by (same_or_not client me)
  where
    by : (client ≡ me) ⊎ (client ≢ me) → f (seat now client) ≡ f (seat seats client)
    by (inl same) = subst (λ (k : ℕ). f (seat now k) ≡ f (seat seats k)) (sym same) (ap f g.here ∙ keeps)
    by (inr apart) = ap f (g.others client apart)

pub given_lines : (me : ℕ) (permit : Option Permit) (before after : Playing) → after.released ≡ before.released → Given me permit before.seats after.seats → KeepsLines before after
given_lines me permit before after same g = record {
  released = same;
  kept = unchanged (λ (s : Seat). s.kept) me permit before.seats after.seats g refl;
  held = unchanged (λ (s : Seat). s.held) me permit before.seats after.seats g refl;
}

pub had_none : (permit : Option Permit) → permit ≡ None → is_some permit ≡ true → ⊥
had_none permit none some = let clash : false ≡ true = sym (ap is_some none) ∙ some in absurd cc

-- The answer of the wire may be taken in.
pub answers_leave : {W : Type 0} (told : W → Option WireTold) (p : Playing) (client : ℕ) (permit : Permit) (e : Entry) (wires : List (Option (Journaled W))) → WiresFit told false p.past wires → (seat p.seats client).permit ≡ Some permit
    → e ≡ answered permit e.answer → IsSomeAnd (slot wires permit.conn) (λ w. fits_at_its_place w.journal e ≡ true) → AnswersLeave p client e
answers_leave told p client permit e wires fit has is there = record {
  permit = permit;
  leave = has;
  answer = is;
  fits = subst (λ (c : ℕ). fits_at_its_place (journal p.past c) e ≡ true) (entry_conn permit e is) (wire_fits told false p.past permit e wires fit is there);
}

-- The call is due: whatever its answer is, it may come next by every rule.
call_may_want : (p : Playing) (client : ℕ) (permit : Permit) → IsReady p → HasRoom p.past → HasLeave p client permit → MayCome p.past (WantedMemory permit)
call_may_want p client permit ready room has = (room, λ answer fits. allowed_welcome p.past (answered permit answer) ready.legal (leave_welcomes p.past permit answer ready.legal.lawful has.leave fits))

-- If memory was wanting for the call, the wires have at most that want more.
pub call_lacks : {W : Type 0} (told : W → Option WireTold) (p : Playing) (client : ℕ) (permit : Permit) (wires now : List (Option (Journaled W))) → IsReady p → HasRoom p.past → HasLeave p client permit → WiresFit told false p.past wires
    → LacksMemory told permit wires now → HearsAtMost told p.past p.past wires now
call_lacks told p client permit wires now ready room has fit lacks =
    call_lacking told false permit p.past wires now fit lacks (leave_opens_none p.past permit ready.legal.lawful has.leave) (call_may_want p client permit ready room has)

-- If the answer isn't taken in, the wires hear at most that answer more.
pub call_untaken : {W : Type 0} (told : W → Option WireTold) (p : Playing) (client : ℕ) (permit : Permit) (e : Entry) (wires now : List (Option (Journaled W))) → IsReady p → HasRoom p.past → HasLeave p client permit → AnswersLeave p client e
    → Performs told permit e wires now → HearsAtMost told p.past p.past wires now
call_untaken told p client permit e wires now ready room has answers performs =
    let l : Lawful p.past = ready.legal.lawful in
    let core : Core = record { past = p.past; trimmed = p.trimmed; flights = p.flights; chore = p.chore } in
    answer_untaken told permit e p.past wires now performs (leave_opens_none p.past permit l has.leave) (leave_shuts_none p.past permit l has.leave)
    (room, allowed_welcome p.past e ready.legal (leave_heard core p client e refl refl ready answers).welcome)

-- Holds if the client's call made the driver call for which it had a permit, and the answer was taken in.
pub record Asks {W : Type 0} (told : W → Option WireTold) (permit : Permit) (e : Entry) (before after : List Event) (wires now : List (Option (Journaled W))) : Type 0 where
  pub lawful : Lawful before
  pub leave : IsLeave before permit
  pub performs : Performs told permit e wires now
  pub past : after ≡ after_heard before e
  pub lawful_then : Lawful after

module _ {W : Type 0} (told : W → Option WireTold) (permit : Permit) (e : Entry) (before after : List Event) (wires now : List (Option (Journaled W))) (a : Asks told permit e before after wires now) where
  group : Grouped before after (Heard e) e.call_no
  group = subst (λ (H : List Event). Grouped before H (Heard e) e.call_no) (sym a.past) (hears_grouped before e (subst Lawful a.past a.lawful_then))

  opens_none : is_connect permit.call ≡ false
  opens_none = leave_opens_none before permit a.lawful a.leave

  shuts_none : is_shut permit.call ≡ false
  shuts_none = leave_shuts_none before permit a.lawful a.leave

  pub asks_wires : KeepsFit told before after wires now
  asks_wires = answer_fits told permit e before after e.call_no group wires now a.performs opens_none shuts_none

  pub asks_plans : KeepsPlans told before after wires now
  asks_plans = answer_plans told permit e before after e.call_no group wires now a.performs

  pub asks_told : (made : List Made) → fleet_told made after ≡ fleet_told made before
  asks_told = answer_told permit e before after e.call_no group a.performs.entry opens_none shuts_none
