use Rattle.dsql_run.proofs.closing.close.Goals as goal

pub end_run-requires-clause-between : goal.end_run-requires-clause-between
end_run-requires-clause-between g c κs within = c.requires.between (c.is_halted.ensures.goes_on c.if-is_halted.false)
