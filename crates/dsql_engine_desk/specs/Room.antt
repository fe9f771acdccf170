-- The memory with which a run begins.
use Rattle.std.specs.Prelude.{◌≡◌, ◌<◌, ℕ, List, [], ◌∷◌}
use Rattle.dsql_engine_calls.specs.Calls.{nobody}
use Rattle.dsql_engine_calls.specs.declared.call.CallRow.{CallRow}
use Rattle.dsql_engine_exchanged.specs.Heard.{nothing_heard}
use Rattle.dsql_engine_lines.specs.There.{nothing_there}
use Rattle.dsql_engine_lines.specs.declared.lines.Lines.{Lines}
use Rattle.dsql_engine_pooling.specs.Log.{Logged}

-- Holds if nothing has happened, and there is memory for the first event. No connection and no call have their rows.
pub record IsEmpty (log : Logged) (heard : Lines) (rows : List CallRow) (sites : List ℕ) : Type 0 where
  pub past : log.past ≡ []
  pub trimmed : log.trimmed ≡ 0
  pub spare : 0 < log.spare
  pub there : heard.there.items ≡ nothing_there ∷ []
  pub lines : heard.calls.items ≡ nothing_heard ∷ []
  pub none_open : heard.open.items ≡ []
  pub calls : rows ≡ nobody ∷ []
  pub sent : sites ≡ 0 ∷ []
