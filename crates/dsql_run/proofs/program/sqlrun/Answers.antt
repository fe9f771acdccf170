use Rattle.std.proofs.Common.{Some, false, true, ap, sym, ◌∙◌}
use Rattle.dsql_run_outcome.proofs.Telling.{whole_at_zero, known_of_run, known_of_words, read_fault_at_three, write_fault_at_four}
use Rattle.dsql_run_outcome.proofs.Summed.{known_of_lines, known_of_sum, lines_at_four, lines_at_zero, sum_at_four, sum_at_three, summed_at_zero}
use Rattle.dsql_run.proofs.program.sqlrun.Goals as goal

-- The words ask for a script to be played.

pub returns-in-Some-Play-clause-headline : goal.returns-in-Some-Play-clause-headline
returns-in-Some-Play-clause-headline g c = λ play zero. whole_at_zero false _ _ _ _ c.run.result zero c.run.ensures.ran

pub returns-in-Some-Play-clause-known : goal.returns-in-Some-Play-clause-known
returns-in-Some-Play-clause-known g c = known_of_run false _ _ _ _ c.run.result c.run.ensures.ran

pub returns-in-Some-Play-clause-read_fault : goal.returns-in-Some-Play-clause-read_fault
returns-in-Some-Play-clause-read_fault g c = λ play three. read_fault_at_three false _ _ _ _ c.run.result three c.run.ensures.ran

pub returns-in-Some-Play-clause-write_fault : goal.returns-in-Some-Play-clause-write_fault
returns-in-Some-Play-clause-write_fault g c = λ play four. write_fault_at_four false _ _ _ _ c.run.result four c.run.ensures.ran

-- The words ask for a script to be raced.

pub returns-in-Some-Race-clause-race_headline : goal.returns-in-Some-Race-clause-race_headline
returns-in-Some-Race-clause-race_headline g c = λ race zero. whole_at_zero true _ _ _ _ c.run_race.result zero c.run_race.ensures.raced

pub returns-in-Some-Race-clause-known : goal.returns-in-Some-Race-clause-known
returns-in-Some-Race-clause-known g c = known_of_run true _ _ _ _ c.run_race.result c.run_race.ensures.raced

pub returns-in-Some-Race-clause-read_fault : goal.returns-in-Some-Race-clause-read_fault
returns-in-Some-Race-clause-read_fault g c = λ race three. read_fault_at_three true _ _ _ _ c.run_race.result three c.run_race.ensures.raced

pub returns-in-Some-Race-clause-write_fault : goal.returns-in-Some-Race-clause-write_fault
returns-in-Some-Race-clause-write_fault g c = λ race four. write_fault_at_four true _ _ _ _ c.run_race.result four c.run_race.ensures.raced

-- The words ask for its summary.

pub returns-in-Some-Summarize-clause-summary : goal.returns-in-Some-Summarize-clause-summary
returns-in-Some-Summarize-clause-summary g c = λ sums zero. summed_at_zero _ _ _ _ c.sum_up.result zero c.sum_up.ensures.summed

pub returns-in-Some-Summarize-clause-known : goal.returns-in-Some-Summarize-clause-known
returns-in-Some-Summarize-clause-known g c = known_of_sum _ _ _ _ c.sum_up.result c.sum_up.ensures.summed

pub returns-in-Some-Summarize-clause-read_fault : goal.returns-in-Some-Summarize-clause-read_fault
returns-in-Some-Summarize-clause-read_fault g c = λ sums three. sum_at_three _ _ _ _ c.sum_up.result three c.sum_up.ensures.summed

pub returns-in-Some-Summarize-clause-write_fault : goal.returns-in-Some-Summarize-clause-write_fault
returns-in-Some-Summarize-clause-write_fault g c = λ sums four. sum_at_four _ _ _ _ c.sum_up.result four c.sum_up.ensures.summed

-- The words ask for lines to be generated.

pub returns-in-Some-Generate-clause-known : goal.returns-in-Some-Generate-clause-known
returns-in-Some-Generate-clause-known g c = known_of_lines _ _ _ _ _ c.generate_lines.result c.generate_lines.ensures.generated

pub returns-in-Some-Generate-clause-lines : goal.returns-in-Some-Generate-clause-lines
returns-in-Some-Generate-clause-lines g c =
    rw (sym c.command_of.ensures ∙ (c.in-Some-Generate.is ∙ ap (λ it. Some it) c.in-Some-Generate.field-0-is)) (λ zero. lines_at_zero _ _ _ _ _ c.generate_lines.result zero c.generate_lines.ensures.generated)

pub returns-in-Some-Generate-clause-generated : goal.returns-in-Some-Generate-clause-generated
returns-in-Some-Generate-clause-generated g c = rw (sym c.command_of.ensures ∙ (c.in-Some-Generate.is ∙ ap (λ it. Some it) c.in-Some-Generate.field-0-is)) c.generate_lines.ensures.generated

pub returns-in-Some-Generate-clause-write_fault : goal.returns-in-Some-Generate-clause-write_fault
returns-in-Some-Generate-clause-write_fault g c = λ makes four. lines_at_four _ _ _ _ _ c.generate_lines.result four c.generate_lines.ensures.generated

-- The words aren't accepted.

pub returns-in-None-clause-known : goal.returns-in-None-clause-known
returns-in-None-clause-known g c = known_of_words _ _ c.tell_usage.result c.tell_usage.ensures
