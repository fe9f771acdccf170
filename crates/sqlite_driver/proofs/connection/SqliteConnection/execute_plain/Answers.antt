use Rattle.sqlite_driver.proofs.connection.SqliteConnection.execute_plain.Goals as goal

pub returns-in-File : goal.returns-in-File
returns-in-File c = search (c.in-File.is, c.execute_plain-in-File.ensures)
