use Rattle.sqlite_driver.proofs.connection.SqliteConnection.execute.Goals as goal

pub returns-in-File : goal.returns-in-File
returns-in-File c = search (c.in-File.is, c.execute-in-File.ensures)
