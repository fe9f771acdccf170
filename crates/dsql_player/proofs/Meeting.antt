-- The player is at the moment at which a line was read, or at which the script is at its end. The argument is
-- that a line of no client changes nothing at hand.
use Rattle.std.proofs.Common.{◌≡◌, ℕ, false, ap, ◌∙◌}
use Rattle.dsql_engine_laws.specs.follows.declared.line.Line.{Line}
use Rattle.dsql_engine_laws.specs.follows.Moments.{Moment, is_line_of, met}
use Rattle.dsql_laws_lines.proofs.KeptLines.{all_made_met, held_same, kept_same}
use Rattle.dsql_player.specs.Playing.{Playing, IsAt}

-- After a line of no client was read, the player is at the moment after it.
pub met_at : (m : Moment) (p : Playing) (line : Line) → ((client : ℕ) → is_line_of client line ≡ false) → IsAt m p → IsAt (met line m) p
met_at m p line none at = record {
  past = at.past;
  flights = at.flights;
  released = at.released;
  rest = ap (met line) at.rest;
  whole = at.whole;
  made = all_made_met m line at.made;
  kept = λ client. kept_same m line client (none client) ∙ at.kept client;
  held = λ client busy. held_same m line client (none client) ∙ at.held client busy;
}
