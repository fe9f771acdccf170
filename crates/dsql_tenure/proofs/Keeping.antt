-- What `Stands` means, which isn't looked into elsewhere.
use Rattle.dsql_tenure.specs.declared.tables.Tables.{Tables}
use Rattle.dsql_tenure.specs.Tables.{Keeps, Stands}

pub keeps_of : (t : Tables) → Stands t → Keeps t
unfolding Stands
keeps_of t s = s
