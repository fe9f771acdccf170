-- What the driver keeps for one connection.
use Rattle.std.specs.Prelude.{List, ◌∷◌, Option, None, option_map}
use Rattle.dsql_driver_session.specs.Session as common
use Rattle.dsql_mem_store.specs.declared.note.Note.{Note}
use Rattle.dsql_mem_session.specs.declared.session.MemSession.{MemSession}

-- Returns the session of a new connection.
abbrev pub new_session : MemSession
new_session = record { live = common.new_session; undo = None }

-- Returns the notes with this one added, newest first, if a transaction is open.
abbrev pub noted : Note → Option (List Note) → Option (List Note)
noted note undo = option_map (λ notes. note ∷ notes) undo
