use Rattle.sqlite_driver.proofs.connection.SqliteConnection.inputs.Goals as goal

pub returns-in-File-clause-compiles : goal.returns-in-File-clause-compiles
returns-in-File-clause-compiles c = search (c.in-File.is, c.inputs-in-File.ensures.compiles)
