use Rattle.sqlite_driver.proofs.connection.SqliteConnection.query.Goals as goal

pub returns-in-File : goal.returns-in-File
returns-in-File c = search (c.in-File.is, c.query-in-File.ensures)
