use Rattle.dsql_laws_lines.proofs.KeptLines.{all_made_met, kept_more, kept_alone, kept_same}
use Rattle.dsql_laws_lines.proofs.kept.a_line_is_kept.Goals as goal

pub returns-clause-made : goal.returns-clause-made
returns-clause-made c = all_made_met

pub returns-clause-behind : goal.returns-clause-behind
returns-clause-behind c = kept_more

pub returns-clause-alone : goal.returns-clause-alone
returns-clause-alone c = kept_alone

pub returns-clause-others : goal.returns-clause-others
returns-clause-others c = kept_same
