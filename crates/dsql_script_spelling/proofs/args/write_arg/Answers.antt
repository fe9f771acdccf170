use Rattle.dsql_script_spelling.proofs.args.write_arg.Goals as goal

pub returns-in-NullTime : goal.returns-in-NullTime
returns-in-NullTime c = rw c.in-NullTime.is c.integer_or_null-in-NullTime.ensures
