-- Defines how a report writes the arguments of a call. It spells them as a script does.
use Rattle.std.specs.Prelude.{ℕ, List, ◌∷◌, map, codes, Option, Some, None}
use Rattle.std.specs.Option.{option_map_or}
use Rattle.serde_json.specs.Data.{Data, null, boolean, string, object, member, no_members}
use Rattle.dsql_value.specs.declared.arg.Arg.{Arg}
use Rattle.dsql_value.specs.declared.arg.Arg.TheVariants.{Nil, I8, I16, I32, I64, U8, U16, U32, U64, Bool, Text, Bytes, Time, NullText, NullI64, NullI32, NullI16, NullU8, NullBool, NullTime}
use Rattle.dsql_value.specs.declared.arg.Named.{Named}
use Rattle.dsql_script_spelling.specs.LineValues.{list_data, under, natural, integer, bytes_data, time_data, u64_data}

-- Returns what a Null form holds, or null if it holds nothing.
abbrev pub or_null : {A : Type 0} → (A → Data) → Option A → Data
or_null data_of content = option_map_or data_of content null

-- Returns an argument as JSON. Nil, a Bool, a text and an I64 are JSON's own, and so is a U64 that is too large
-- for an I64. Every other argument stands under the name of its form, so that it isn't taken for one of these.
abbrev pub arg_data : Arg → Data
arg_data Nil = null
arg_data (I8 n) = under (codes "i8") (integer n)
arg_data (I16 n) = under (codes "i16") (integer n)
arg_data (I32 n) = under (codes "i32") (integer n)
arg_data (I64 n) = integer n
arg_data (U8 n) = under (codes "u8") (natural n)
arg_data (U16 n) = under (codes "u16") (natural n)
arg_data (U32 n) = under (codes "u32") (natural n)
arg_data (U64 n) = u64_data n
arg_data (Bool b) = boolean b
arg_data (Text text) = string text
arg_data (Bytes bytes) = bytes_data bytes
arg_data (Time n) = time_data n
arg_data (NullText text) = under (codes "null_text") (or_null string text)
arg_data (NullI64 n) = under (codes "null_i64") (or_null integer n)
arg_data (NullI32 n) = under (codes "null_i32") (or_null integer n)
arg_data (NullI16 n) = under (codes "null_i16") (or_null integer n)
arg_data (NullU8 n) = under (codes "null_u8") (or_null natural n)
arg_data (NullBool b) = under (codes "null_bool") (or_null boolean b)
arg_data (NullTime n) = under (codes "null_time") (or_null integer n)

-- Returns an argument with its name, if it has one. An object's keys are in the order of their bytes.
abbrev pub named_arg_data : Option (List ℕ) → Data → Data
named_arg_data None arg = arg
named_arg_data (Some name) arg = object (member (codes "arg") arg (member (codes "name") (string name) no_members))

abbrev pub argument_data : Named → Data
argument_data named = named_arg_data named.name (arg_data named.arg)

-- Returns the array of a call: its text, and then its arguments.
abbrev pub statement_data : List ℕ → List Named → Data
statement_data text args = list_data (string text ∷ map argument_data args)
