use Rattle.dsql_timeline_page.proofs.Escaping.{harmless, back}
use Rattle.dsql_timeline_page.proofs.laws.escaped_texts_break_no_page.Goals as goal

pub returns-clause-harmless : goal.returns-clause-harmless
returns-clause-harmless c = harmless

pub returns-clause-read_back : goal.returns-clause-read_back
returns-clause-read_back c = back
