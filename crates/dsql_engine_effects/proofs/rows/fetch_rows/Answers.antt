use Rattle.std.proofs.Common.{◌≡◌, false, refl}
use Rattle.dsql_history.specs.rows.OpenRows.{rows_of}
use Rattle.dsql_history.specs.Readers.HandedOut.{live}
use Rattle.dsql_engine_effects.specs.Heard.{is_end}
use Rattle.dsql_engine_effects.proofs.Fetched.{other_answer, is_no_end, none_ends}
use Rattle.dsql_engine_effects.proofs.rows.fetch_rows.Goals as goal

pub returns : goal.returns
returns c =
    let other : is_end c.args.answer ≡ false = is_no_end c.args.answer c.in_default.not-End (λ text is. c.in_default.not-Fail text is) c.in_default.not-Bad in
    record {
      ended = none_ends (live (rows_of c.args.query c.args.rows.now.rows)) (is_end c.args.answer) other;
      rows = other_answer c.args.answer c.args.query c.args.rows.now.rows (λ values is. c.in_default.not-Row values is) other;
      spare = refl;
    }
