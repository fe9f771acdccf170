-- Defines how a report writes values, parameters, names of columns and cells.
use Rattle.std.specs.Prelude.{ℕ, ℤ, nat_lt, List, ◌∷◌, map, codes, Option, Some, None, if◌then◌else◌}
use Rattle.hex.specs.Hex.{encode_lower}
use Rattle.serde_json.specs.Data.{Data, null, boolean, number, unsigned, string, array, object, member, no_members}
use Rattle.serde_json.specs.Find.{of_integer}
use Rattle.serde_json.specs.View.{items_of}
use Rattle.dsql_value.specs.declared.value.Value.{Value}
use Rattle.dsql_value.specs.declared.value.Value.TheVariants.{Nil, Int, Bool, Bytes, Text, Time}
use Rattle.dsql_value.specs.declared.value.Param.{Param}
use Rattle.dsql_value.specs.Arguments.{largest_int}
use Rattle.dsql_scan.specs.declared.cell.Cell.{Cell}
use Rattle.dsql_scan.specs.declared.cell.Cell.TheVariants as cell

-- Returns a JSON array of these values.
abbrev pub list_data : List Data → Data
list_data ds = array (items_of ds)

-- Returns an array that begins with a word.
abbrev pub worded : List ℕ → List Data → Data
worded word parts = list_data (string word ∷ parts)

-- Returns an unsigned number.
abbrev pub natural : ℕ → Data
natural n = number (unsigned n)

-- Returns a signed number.
abbrev pub integer : ℤ → Data
integer z = number (of_integer z)

-- Returns an object of one member.
abbrev pub under : List ℕ → Data → Data
under name d = object (member name d no_members)

-- Returns bytes as pairs of hexadecimal digits, under their name. The next definition returns a time as its
-- number of nanoseconds, under its name.
abbrev pub bytes_data : List ℕ → Data
bytes_data bytes = under (codes "bytes") (string (encode_lower bytes))

abbrev pub time_data : ℤ → Data
time_data n = under (codes "time") (integer n)

-- Returns an unsigned number of 64 bits, under its name if it could be taken for a signed one.
abbrev pub u64_data : ℕ → Data
u64_data n = if nat_lt largest_int n then natural n else under (codes "u64") (natural n)

abbrev pub value_data : Value → Data
value_data Nil = null
value_data (Int n) = integer n
value_data (Bool b) = boolean b
value_data (Bytes bytes) = bytes_data bytes
value_data (Text text) = string text
value_data (Time n) = time_data n

-- Returns a value with its name, if it has one.
abbrev pub named_data : Option (List ℕ) → Data → Data
named_data None value = value
named_data (Some name) value = object (member (codes "name") (string name) (member (codes "value") value no_members))

abbrev pub param_data : Param → Data
param_data p = named_data p.name (value_data p.value)

abbrev pub params_data : List Param → Data
params_data ps = list_data (map param_data ps)

abbrev pub values_data : List Value → Data
values_data vs = list_data (map value_data vs)

abbrev pub texts_data : List (List ℕ) → Data
texts_data ts = list_data (map string ts)

abbrev pub cell_data : Cell → Data
cell_data cell.Null = null
cell_data (cell.Text text) = string text
cell_data (cell.Bytes bytes) = bytes_data bytes
cell_data (cell.Bool b) = boolean b
cell_data (cell.Int n) = integer n
cell_data (cell.Uint n) = u64_data n
cell_data (cell.Time n) = time_data n

abbrev pub cells_data : List Cell → Data
cells_data cs = list_data (map cell_data cs)
