-- Defines the leave for the driver call that is due for a call, and for the layer's own driver calls.
use Rattle.std.specs.Prelude.{ℕ, ◌||◌, cond, List, Option, Some, None, option_map}
use Rattle.dsql_laws_calls.specs.driver.declared.call.DriverCall.{DriverCall}
use Rattle.dsql_laws_calls.specs.driver.declared.call.DriverCall.TheVariants.{Connect, Shut}
use Rattle.dsql_laws_calls.specs.journal.declared.entry.Entry.{Entry}
use Rattle.dsql_laws_calls.specs.driver.Kinds.{is_reset, is_valid}
use Rattle.dsql_laws_calls.specs.journal.Kinds.{number_of}
use Rattle.dsql_laws_calls.specs.journal.declared.entry.Owner.{Owner}
use Rattle.dsql_laws_calls.specs.journal.declared.entry.Owner.TheVariants.{Tx, House}
use Rattle.dsql_laws_calls.specs.journal.declared.entry.Permit.{Permit}
use Rattle.dsql_laws_calls.specs.pool.declared.conn.Place.{Place}
use Rattle.dsql_laws_calls.specs.pool.declared.conn.Place.TheVariants.{Lent, Opening, Closing}
use Rattle.dsql_laws_calls.specs.pool.Pooled.{next_tenure}
use Rattle.dsql_laws_calls.specs.history.declared.event.Event.{Event}
use Rattle.dsql_laws_calls.specs.history.Readers.Calls.{site}
use Rattle.dsql_laws_calls.specs.history.Readers.Pool.{pool, place}
use Rattle.dsql_laws_calls.specs.history.Rules.Line.{due_for, tidying}

-- Returns the entry without its answer.
abbrev pub permit_of : Entry → Permit
permit_of e =
    record { conn = e.conn; tenure = e.tenure; owner = e.owner; call_no = e.call_no; tx = e.tx; call = e.call }

-- Returns the transaction that a driver call carries in a tenure of this owner; 0 for none. A Reset and a test
-- carry none.
abbrev pub tx_carried : Owner → DriverCall → ℕ
tx_carried (Tx k) call = cond (is_reset call || is_valid call) 0 k
tx_carried owner call = 0

-- Returns the permit for what call m sends on connection c, which is lent to this owner in this tenure. Call 0
-- is the layer.
abbrev pub call_permit : ℕ → ℕ → Owner → ℕ → DriverCall → Permit
call_permit c tenure owner m call =
    record { conn = c; tenure = tenure; owner = owner; call_no = m; tx = tx_carried owner call; call = call }

abbrev pub house_permit : ℕ → ℕ → DriverCall → Permit
house_permit c tenure call = record { conn = c; tenure = tenure; owner = House; call_no = 0; tx = 0; call = call }

abbrev pub sent_at : ℕ → ℕ → Option Place → Option DriverCall → Option Permit
sent_at m c (Some (Lent tenure owner)) call = option_map (call_permit c tenure owner m) call
sent_at m c _ call = None

-- Returns the leave for the driver call that is due for call m.
abbrev pub permit_for : List Event → ℕ → Option Permit
permit_for past m = sent_at m (site past m) (place past (site past m)) (due_for past m)

abbrev pub chore_at : List Event → ℕ → Option Place → Option Permit
chore_at past c (Some (Opening wanted)) = Some (house_permit c 1 Connect)
chore_at past c (Some Closing) = Some (house_permit c (next_tenure (pool past) c) Shut)
chore_at past c (Some (Lent tenure owner)) = option_map (call_permit c tenure owner 0) (tidying past (number_of owner))
chore_at past c _ = None

-- Returns the leave for the layer's own driver call on connection c.
abbrev pub chore_permit : List Event → ℕ → Option Permit
chore_permit past c = chore_at past c (place past c)
