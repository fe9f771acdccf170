use Rattle.std.proofs.Common.{◌∙◌}
use Rattle.dsql_tenure.proofs.TableFacts.{bad_is}
use Rattle.dsql_tenure.proofs.tables.Tables.went_bad.Goals as goal

pub returns : goal.returns
returns c = c.is_some.ensures ∙ bad_is c.args.self.now c.requires
