-- What was heard in the line of a begin, as far as the next driver call depends on it.
use Rattle.std.specs.Prelude.{ℕ, ◌==◌, Bool, cond, List, [], ◌∷◌, Option, Some, None}
use Rattle.dsql_history.specs.driver.declared.call.Level.{Level}
use Rattle.dsql_history.specs.driver.declared.caps.Caps.{Caps}
use Rattle.dsql_history.specs.driver.Kinds.{is_begin}
use Rattle.dsql_history.specs.driver.Fits.{is_done}
use Rattle.dsql_history.specs.journal.declared.entry.Entry.{Entry}
use Rattle.dsql_engine_exchanged.specs.Exchanged.{ends_line}
use Rattle.dsql_engine_exchanged.specs.declared.bare.BareCall.{BareCall}
use Rattle.dsql_engine_exchanged.specs.declared.bare.BareCall.TheVariants as bare
use Rattle.dsql_engine_exchanged.specs.declared.beginning.Beginning.{Beginning}
use Rattle.dsql_engine_exchanged.specs.declared.beginning.Beginning.TheVariants.{Fresh, Ready, Begun, Failed, Over}

abbrev pub unbegun : Beginning
unbegun = Fresh

-- Returns the state after the newest entry, which alone decides it.
abbrev pub beginning_after : Entry → Beginning
beginning_after e = cond (ends_line e) Over (cond (is_begin e.call) (cond (is_done e.answer) Begun Failed) Ready)

-- Returns the state after a line, newest first.
abbrev pub beginning_in : List Entry → Beginning
beginning_in [] = unbegun
beginning_in (e ∷ earlier) = beginning_after e

-- Returns the state after one more answer, which counts if this call sent the driver call.
abbrev pub begun_if : ℕ → Entry → Beginning → Beginning
begun_if call e it = cond (e.call_no == call) (beginning_after e) it

-- Returns what is sent next to begin a transaction with these options.
abbrev pub bare_begin : Caps → Bool → Level → Bool → Beginning → Option BareCall
bare_begin can reset_due level read_only Fresh = cond reset_due (Some bare.Reset) (Some (bare.Begin level read_only))
bare_begin can reset_due level read_only Ready = Some (bare.Begin level read_only)
bare_begin can reset_due level read_only Failed = cond can.validator (Some bare.Valid) None
bare_begin can reset_due level read_only _ = None
