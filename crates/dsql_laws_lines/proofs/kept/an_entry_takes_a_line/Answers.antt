use Rattle.dsql_laws_lines.proofs.Stepped.{entry_takes, entry_holds, entry_made, entry_keeps_others, entry_holds_others}
use Rattle.dsql_laws_lines.proofs.kept.an_entry_takes_a_line.Goals as goal

pub returns-clause-kept : goal.returns-clause-kept
returns-clause-kept c = entry_takes

pub returns-clause-held : goal.returns-clause-held
returns-clause-held c = entry_holds

pub returns-clause-made : goal.returns-clause-made
returns-clause-made c = entry_made

pub returns-clause-kept_by_others : goal.returns-clause-kept_by_others
returns-clause-kept_by_others c = entry_keeps_others

pub returns-clause-held_others : goal.returns-clause-held_others
returns-clause-held_others c = entry_holds_others
