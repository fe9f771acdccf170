use Rattle.dsql_laws_apart.proofs.Begins.{asked_for}
use Rattle.dsql_laws_apart.proofs.Rules.{unfinished_sends, made_names, connection_uses, transaction_stands, within_comes, end_tidies, own_keeps}
use Rattle.dsql_laws_apart.proofs.laws.each_call_sends_its_own.Goals as goal

pub returns-clause-unfinished : goal.returns-clause-unfinished
returns-clause-unfinished c = unfinished_sends

pub returns-clause-made : goal.returns-clause-made
returns-clause-made c = made_names

pub returns-clause-sender : goal.returns-clause-sender
returns-clause-sender c = connection_uses

pub returns-clause-begin : goal.returns-clause-begin
returns-clause-begin c = asked_for

pub returns-clause-transaction : goal.returns-clause-transaction
returns-clause-transaction c = transaction_stands

pub returns-clause-inside : goal.returns-clause-inside
returns-clause-inside c = within_comes

pub returns-clause-layer : goal.returns-clause-layer
returns-clause-layer c = end_tidies

pub returns-clause-outside : goal.returns-clause-outside
returns-clause-outside c = own_keeps
