use Rattle.std.proofs.Common.{sym, ◌∙◌}
use Rattle.dsql_script_event_lines.proofs.Behind.{number_behind-found, number_behind-none}
use Rattle.dsql_script_event_lines.proofs.moves.number_behind.Goals as goal

pub returns-in-Some : goal.returns-in-Some
returns-in-Some c =
    let found = c.in-Some.ensures.cases in
    c.numbered.ensures ∙ sym (number_behind-found c.args.kind.now c.args.word.now c.in-Some.digits.now found.0 found.1.0 found.1.1 found.2)

pub returns-in-None : goal.returns-in-None
returns-in-None c = sym (number_behind-none c.args.kind.now c.args.word.now c.in-None.ensures.cases)
