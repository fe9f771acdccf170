-- Defines how a summary counts one more event.
use Rattle.std.specs.Prelude.{ℕ, ◌<◌, Bool, cond}
use Rattle.dsql_script_show.specs.declared.summary.Summary.{Summary}

abbrev pub one_if : Bool → ℕ
one_if b = cond b 1 0

-- Holds if each number of the summary, except the one for its lines, is below this one.
pub record IsBelow (it : Summary) (most : ℕ) : Type 0 where
  pub calls : it.calls < most
  pub connections : it.connections < most
  pub entries : it.entries < most
  pub oks : it.oks < most
  pub errors : it.errors < most
