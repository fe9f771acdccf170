-- What a driver gets for the arguments of a call, and which arguments are refused.
use Rattle.std.specs.Prelude.{◌≡◌, ℕ, ℤ, pos, negsuc, ◌==◌, nat_lt, min, Bool, false, not, if◌then◌else◌, List, [], ◌∷◌, length, map, Option, Some, None, ◌⊎◌}
use Rattle.std.specs.Option.{option_or, option_map_or}
use Rattle.std.specs.Char.{is_ascii_alphabetic}
use Rattle.dsql_value.specs.declared.arg.Arg.{Arg}
use Rattle.dsql_value.specs.declared.arg.Arg.TheVariants as args
use Rattle.dsql_value.specs.declared.arg.Named.{Named}
use Rattle.dsql_value.specs.declared.arg.ArgFault.{ArgFault}
use Rattle.dsql_value.specs.declared.arg.ArgFault.TheVariants as faults
use Rattle.dsql_value.specs.declared.value.Value.{Value}
use Rattle.dsql_value.specs.declared.value.Value.TheVariants as values
use Rattle.dsql_value.specs.declared.value.Param.{Param}

-- Returns the value that a driver gets for an argument that isn't refused: the same number or content, or Nil
-- for an empty Null form.
abbrev pub arg_of : Arg → Value
arg_of args.Nil = values.Nil
arg_of (args.I8 number) = values.Int number
arg_of (args.I16 number) = values.Int number
arg_of (args.I32 number) = values.Int number
arg_of (args.I64 number) = values.Int number
arg_of (args.U8 number) = values.Int (pos number)
arg_of (args.U16 number) = values.Int (pos number)
arg_of (args.U32 number) = values.Int (pos number)
arg_of (args.U64 number) = values.Int (pos number)
arg_of (args.Bool truth) = values.Bool truth
arg_of (args.Text text) = values.Text text
arg_of (args.Bytes bytes) = values.Bytes bytes
arg_of (args.Time moment) = values.Time moment
arg_of (args.NullText text) = option_map_or values.Text text values.Nil
arg_of (args.NullI64 number) = option_map_or values.Int number values.Nil
arg_of (args.NullI32 number) = option_map_or values.Int number values.Nil
arg_of (args.NullI16 number) = option_map_or values.Int number values.Nil
arg_of (args.NullU8 number) = option_map_or (λ n. values.Int (pos n)) number values.Nil
arg_of (args.NullBool truth) = option_map_or values.Bool truth values.Nil
arg_of (args.NullTime moment) = option_map_or values.Time moment values.Nil

-- Returns the parameter for an argument: its name, if it has one, and its value.
abbrev pub param_of : Named → Param
param_of named = record { name = named.name; value = arg_of named.arg }

-- Returns the parameters for the arguments of a call, in their order.
abbrev pub params_of : List Named → List Param
params_of list = map param_of list

-- Returns the largest number that a driver takes.
abbrev pub largest_int : ℕ
largest_int = 9223372036854775807

-- Returns why an argument's value is refused: its number is too large.
abbrev pub value_fault : Arg → Option ArgFault
value_fault (args.U64 number) = if nat_lt largest_int number then Some (faults.HighBit number) else None
value_fault _ = None

-- Is true if a name begins with one of the letters from A to Z and from a to z.
abbrev pub begins_with_letter : List ℕ → Bool
begins_with_letter [] = false
begins_with_letter (first ∷ _) = is_ascii_alphabetic first

-- Returns why an argument's name is refused: it isn't a proper name, or otherwise the driver takes no names.
abbrev pub name_fault : Bool → Option (List ℕ) → Option ArgFault
name_fault named_ok None = None
name_fault named_ok (Some name) =
    if not (begins_with_letter name) then Some (faults.BadName name)
    else (if not named_ok then Some (faults.NamedRefused name) else None)

-- Returns why an argument is refused: for its name, or otherwise for its value.
abbrev pub arg_fault : Bool → Named → Option ArgFault
arg_fault named_ok named = option_or (name_fault named_ok named.name) (value_fault named.arg)

-- Returns the fault of the first argument that is refused.
abbrev pub first_fault : Bool → List Named → Option ArgFault
first_fault named_ok [] = None
first_fault named_ok (named ∷ rest) = option_or (arg_fault named_ok named) (first_fault named_ok rest)

-- Returns the largest number of arguments that a refusal reports.
abbrev pub largest_count : ℕ
largest_count = 4294967295

-- Returns why a statement that wants this many arguments refuses their number. -1 stands for any number.
abbrev pub count_fault : ℤ → ℕ → Option ArgFault
count_fault (negsuc _) got = None
count_fault (pos want) got = if want == got then None else Some (faults.NumArgs want (min got largest_count))

-- Returns why a statement refuses arguments, given the number that it wants and whether the driver takes names.
-- It gives the fault of the first refused argument, or otherwise the fault of their number.
abbrev pub fault_of : Bool → ℤ → List Named → Option ArgFault
fault_of named_ok want list = option_or (first_fault named_ok list) (count_fault want (length list))

-- Holds if the refusal reports the fault that there is, or that there was no memory.
abbrev pub IsFaultOrMemory : Option ArgFault → ArgFault → Type 0
IsFaultOrMemory fault told = (fault ≡ Some told) ⊎ (told ≡ faults.Memory)
