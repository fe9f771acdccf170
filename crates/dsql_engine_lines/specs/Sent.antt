-- The connection on which each call last sent something.
use Rattle.std.specs.Prelude.{ℕ, List, [], ◌∷◌, ◌++◌, slice_set, slice_index_or}
use Rattle.dsql_laws_calls.specs.history.declared.event.Event.{Event}
use Rattle.dsql_laws_calls.specs.history.declared.event.Event.TheVariants.{Entered, Heard}

-- Returns the connection on which each call last sent something, by the call's number; 0 for none.
abbrev pub sent : List Event → List ℕ
sent [] = 0 ∷ []
sent (Entered client n op ∷ before) = sent before ++ 0 ∷ []
sent (Heard e ∷ before) = slice_set (sent before) e.call_no e.conn
sent (_ ∷ before) = sent before

abbrev pub sent_on : List Event → ℕ → ℕ
sent_on before n = slice_index_or (sent before) n 0
