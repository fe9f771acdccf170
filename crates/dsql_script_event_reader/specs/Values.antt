-- Defines how values, parameters and cells are read. Each is spelled like an argument of its kind.
use Rattle.std.specs.Prelude.{ℕ, List, codes, Option, Some, None, option_map, option_and_then}
use Rattle.serde_json.specs.Data.{Data}
use Rattle.serde_json.specs.Find.{get, as_str}
use Rattle.dsql_history.specs.value.declared.arg.Arg.{Arg}
use Rattle.dsql_history.specs.value.declared.arg.Arg.TheVariants as arg
use Rattle.dsql_history.specs.value.declared.value.Value.{Value}
use Rattle.dsql_history.specs.value.declared.value.Value.TheVariants as value
use Rattle.dsql_history.specs.value.declared.value.Param.{Param}
use Rattle.dsql_history.specs.scan.declared.cell.Cell.{Cell}
use Rattle.dsql_history.specs.scan.declared.cell.Cell.TheVariants as cell
use Rattle.dsql_script_forms.specs.ScriptArgs.{arg_of_data}

-- Returns the value that is spelled like this argument, if any.
abbrev pub value_as : Arg → Option Value
value_as arg.Nil = Some value.Nil
value_as (arg.I64 n) = Some (value.Int n)
value_as (arg.Bool b) = Some (value.Bool b)
value_as (arg.Bytes bytes) = Some (value.Bytes bytes)
value_as (arg.Text text) = Some (value.Text text)
value_as (arg.Time n) = Some (value.Time n)
value_as _ = None

abbrev pub value_of : Data → Option Value
value_of d = option_and_then value_as (arg_of_data d)

-- Returns the cell that is spelled like this argument, if any.
abbrev pub cell_as : Arg → Option Cell
cell_as arg.Nil = Some cell.Null
cell_as (arg.I64 n) = Some (cell.Int n)
cell_as (arg.U64 n) = Some (cell.Uint n)
cell_as (arg.Bool b) = Some (cell.Bool b)
cell_as (arg.Bytes bytes) = Some (cell.Bytes bytes)
cell_as (arg.Text text) = Some (cell.Text text)
cell_as (arg.Time n) = Some (cell.Time n)
cell_as _ = None

abbrev pub cell_of : Data → Option Cell
cell_of d = option_and_then cell_as (arg_of_data d)

abbrev pub parameter : Option (List ℕ) → Value → Param
parameter name value = record { name = name; value = value }

-- Returns a parameter with a name by the data of its name and of its value.
abbrev pub named_param : Data → Option Data → Option Param
named_param name value =
    option_and_then (λ n. option_map (parameter (Some n)) (option_and_then value_of value)) (as_str name)

-- Returns a parameter by its data and by its name's member, if it has one.
abbrev pub param_by : Option Data → Data → Option Param
param_by None d = option_map (parameter None) (value_of d)
param_by (Some name) d = named_param name (get (codes "value") d)

abbrev pub param_of : Data → Option Param
param_of d = param_by (get (codes "name") d) d
