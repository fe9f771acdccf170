-- The statements of the program, translated into those of the definitions.
use Rattle.dsql_mem_session.specs.Statement as said
use Rattle.dsql_mem_session.specs.declared.statement.Statement.{Statement}
use Rattle.dsql_mem_session.specs.declared.statement.Statement.TheVariants.{Set, Add, Del, Get, ListKeys}

abbrev pub spelled : Statement → said.Statement
spelled (Set key value) = said.Set key.now value.now
spelled (Add key value) = said.Add key.now value.now
spelled (Del key) = said.Del key.now
spelled (Get key) = said.Get key.now
spelled (ListKeys prefix) = said.ListKeys prefix.now
