-- What a step leaves as it is on a connection on which it hears nothing. The argument goes from the history to the wire
-- that is at home there, and to the work that is out.
use Rattle.std.proofs.Common.{◌≡◌, ◌<◌, ℕ, Bool, true, false, List, [], ◌∷◌, ◌++◌, Option, Some, None, refl, ap, sym, subst, ◌∙◌, append_assoc}
use Rattle.std.specs.List.{list_all}
use Rattle.dsql_engine_laws.specs.driver.Wires.{WireTold}
use Rattle.dsql_engine_laws.specs.journal.declared.entry.Permit.{Permit}
use Rattle.dsql_engine_laws.specs.pool.Places.{is_lent}
use Rattle.dsql_engine_laws.specs.history.declared.event.Event.{Event}
use Rattle.dsql_engine_laws.specs.history.declared.event.Event.TheVariants.{Entered, Heard, SetLimit}
use Rattle.dsql_engine_laws.specs.history.declared.event.Op.{Op}
use Rattle.dsql_engine_laws.specs.history.Legal.{Lawful}
use Rattle.dsql_engine_laws.specs.history.Readers.Calls.{next_call}
use Rattle.dsql_engine_laws.specs.history.Readers.Clients.{call_of, client_of}
use Rattle.dsql_engine_laws.specs.history.Readers.Journals.{journal}
use Rattle.dsql_engine_laws.specs.history.Readers.Pool.{place}
use Rattle.dsql_engine_laws.specs.history.Rules.Settled.{owes_nothing}
use Rattle.dsql_engine_laws.specs.laws_steps.Groups.{is_later_of}
use Rattle.dsql_engine_laws.specs.laws_steps.Steps.{goes_by_itself}
use Rattle.dsql_engine_laws.specs.going.Permits.{chore_permit}
use Rattle.dsql_engine_laws.specs.wire.Journaled.{Journaled}
use Rattle.dsql_engine_laws.specs.Chores.{hears_on}
use Rattle.dsql_engine_laws.proofs.laws.Tests.{both}
use Rattle.dsql_engine_laws.proofs.laws_ends.Whose.{busy_unfinished, kept_client, unfinished_entered}
use Rattle.dsql_engine_laws.proofs.StillDue.{due_stays, journal_stays, unlent_stays}
use Rattle.dsql_player_wires.specs.Made.{Made, aside_on}
use Rattle.dsql_player_wires.specs.Seats.{seat}
use Rattle.dsql_player_wires.specs.Told.{fleet_told}
use Rattle.dsql_player_wires.specs.WiresFit.{FitsAt, PlansAt}
use Rattle.dsql_player.specs.Playing.{IsReady, Playing}
use Rattle.dsql_player.proofs.Answering.{HasLeave, leave_at}
use Rattle.dsql_player.proofs.Grouped.{Grouped}
use Rattle.dsql_hall_bonds.specs.Work.{Work}
use Rattle.dsql_hall_steps.specs.Halls.{HouseIsOut, IsOfClient, IsOfLayer, IsOut, SlotFits}
use Rattle.dsql_hall_steps.specs.Limits.{set_in}

-- Holds if a history that goes on from another leaves connection c as it was. Its journal is the same. The layer's Connect
-- or Shut is still due there.
pub record Spares (c : ℕ) (past now : List Event) : Type 0 where
  pub journal : journal now c ≡ journal past c
  pub due : (permit : Permit) → chore_permit past c ≡ Some permit → is_lent (place past c) ≡ false → chore_permit now c ≡ Some permit
  pub unlent : (permit : Permit) → chore_permit past c ≡ Some permit → is_lent (place past c) ≡ false → is_lent (place now c) ≡ false

-- Holds if each call that has entered is still its client's.
abbrev pub KeepsClients : List Event → List Event → Type 0
KeepsClients past now = (n : ℕ) → n < next_call past → client_of now n ≡ client_of past n

pub spares_same : (c : ℕ) (past now : List Event) → now ≡ past → Spares c past now
spares_same c past now same = subst (Spares c past) (sym same) (record { journal = refl; due = λ permit is unlent. is; unlent = λ permit is unlent. unlent })

pub clients_same : (past now : List Event) → now ≡ past → KeepsClients past now
clients_same past now same = λ n old. ap (λ H. client_of H n) same

pub spares_step : (c : ℕ) (past now : List Event) (first : Event) (n : ℕ) → Grouped past now first n → Lawful now → owes_nothing past ≡ true → hears_on c first ≡ false → Spares c past now
spares_step c past now first n g l owing off = record {
  journal = ap (λ H. journal H c) g.grown ∙ journal_stays past g.events g.group.more first n c g.group.whole g.group.later off;
  due = λ permit is unlent.
      ap (λ H. chore_permit H c) g.grown ∙ due_stays past g.events g.group.more first n c permit lawful owing is unlent g.group.whole g.group.later off;
  unlent = λ permit is unlent.
      ap (λ H. is_lent (place H c)) g.grown ∙ unlent_stays past g.events g.group.more first n c permit lawful owing is unlent g.group.whole g.group.later off;
}
  where
    lawful : Lawful (g.events ++ past)
    lawful = subst Lawful g.grown l

pub clients_step : (past now : List Event) (first : Event) (n : ℕ) → Grouped past now first n → KeepsClients past now
clients_step past now first n g = λ m old. ap (λ H. client_of H m) g.grown ∙ kept_client past g.events m old

-- What a step leaves of the wires that are at home and of the work that is out.

pub slot_stays : {W : Type 0} (heard : W → Option WireTold) (telling : Bool) (made : List Made) (past now : List Event) (c : ℕ) (wire : Option (Journaled W)) (work : Option Work) → journal now c ≡ journal past c
    → SlotFits heard telling made past c wire work → SlotFits heard telling made now c wire work
slot_stays heard telling made past now c wire None same fits = record {
  fits = subst (λ j. FitsAt heard telling c j wire) (sym same) fits.fits;
  plans = subst (λ j. PlansAt heard (aside_on made c) j wire) (sym same) fits.plans;
}
slot_stays heard telling made past now c wire (Some work) same fits = record { gone = fits.gone; unheard = same ∙ fits.unheard }

-- The client of work that is out has its call.
pub its_call_entered : (p : Playing) (c : ℕ) (work : Work) → IsReady p → IsOfClient p c work → work.permit.call_no < next_call p.past
its_call_entered p c work ready it =
    let client = client_of p.past work.permit.call_no in
    let has : HasLeave p client work.permit = leave_at p client work.permit ready it.leave in
    subst (λ n. n < next_call p.past) (sym has.call) (unfinished_entered p.past (call_of p.past client) ready.legal.lawful (busy_unfinished p.past client has.busy))

pub client_stays : (p q : Playing) (c : ℕ) (work : Work) → IsReady p → KeepsClients p.past q.past
    → ((client : ℕ) → (seat p.seats client).permit ≡ Some work.permit → (seat q.seats client).permit ≡ Some work.permit) → IsOfClient p c work → IsOfClient q c work
client_stays p q c work ready clients keeps it =
    let n = work.permit.call_no in
    let same : client_of q.past n ≡ client_of p.past n = clients n (its_call_entered p c work ready it) in
    record {
      conn = it.conn;
      client = same ∙ it.client;
      leave = subst (λ k. (seat q.seats k).permit ≡ Some work.permit) (sym same) (keeps (client_of p.past n) it.leave);
    }

pub layer_stays : (p q : Playing) (chore : Option ℕ) (c : ℕ) (work : Work) → Spares c p.past q.past → IsOfLayer p chore c work → IsOfLayer q chore c work
layer_stays p q chore c work spares it = record {
  conn = it.conn;
  chore = it.chore;
  due = spares.due work.permit it.due it.unlent;
  unlent = spares.unlent work.permit it.due it.unlent;
}

pub out_stays : (p q : Playing) (chore : Option ℕ) (c : ℕ) (work : Work) → IsReady p → Spares c p.past q.past → KeepsClients p.past q.past
    → ((client : ℕ) → (seat p.seats client).permit ≡ Some work.permit → (seat q.seats client).permit ≡ Some work.permit) → IsOut p chore c work → IsOut q chore c work
out_stays p q chore c work ready spares clients keeps it = record {
  client = λ some. client_stays p q c work ready clients keeps (it.client some);
  layer = λ none other. layer_stays p q chore c work spares (it.layer none other);
}

pub house_stays : (made : List Made) (past now : List Event) (out : List Work) → fleet_told made now ≡ fleet_told made past → HouseIsOut made past out → HouseIsOut made now out
house_stays made past now out same it = record { work = it.work; is_out = it.is_out; told = same ∙ it.told }

-- Steps that hear nothing and set no limit.

-- Holds of an event that is no answer and sets no limit.
pub record IsQuiet (first : Event) : Type 0 where
  pub hears : (c : ℕ) → hears_on c first ≡ false
  pub sets : (past : List Event) → set_in (first ∷ past) ≡ set_in past

pub entry_is_quiet : (client n : ℕ) (op : Op) → IsQuiet (Entered client n op)
entry_is_quiet client n op = record { hears = λ c. refl; sets = λ past. refl }

pub itself_is_quiet : (n : ℕ) (first : Event) → goes_by_itself n first ≡ true → IsQuiet first
itself_is_quiet n (Heard e) itself = absurd cc
itself_is_quiet n (SetLimit setting k) itself = absurd cc
itself_is_quiet n first itself = record { hears = λ c. refl; sets = λ past. refl }

-- The limits that were set don't change after a step's first event.

later_unset : (n : ℕ) (e : Event) (past : List Event) → is_later_of n e ≡ true → set_in (e ∷ past) ≡ set_in past
later_unset n (SetLimit setting k) past later = absurd cc
later_unset n e past later = refl

all_unset : (n : ℕ) (more past : List Event) → list_all (is_later_of n) more ≡ true → set_in (more ++ past) ≡ set_in past
all_unset n [] past later = refl
all_unset n (e ∷ more) past later =
    let a = both (is_later_of n e) (list_all (is_later_of n) more) later in
    later_unset n e (more ++ past) a.0 ∙ all_unset n more past a.1

pub step_sets : (past now : List Event) (first : Event) (n : ℕ) → Grouped past now first n → set_in now ≡ set_in (first ∷ past)
step_sets past now first n g =
    ap set_in (g.grown ∙ (ap (λ es. es ++ past) g.group.whole ∙ append_assoc g.group.more (first ∷ []) past)) ∙ all_unset n g.group.more (first ∷ past) g.group.later
