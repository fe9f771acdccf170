-- Defines the arguments of a call in a script, as the data of its array.
use Rattle.std.specs.Prelude.{ℕ, ℤ, pos, negsuc, int_le, ◌&&◌, nat_le, Bool, List, [], ◌∷◌, codes, if◌then◌else◌, Option, Some, None, option_and_then, option_map}
use Rattle.std.specs.Char.{is_ascii_uppercase}
use Rattle.std.specs.List.{list_any}
use Rattle.std.specs.Option.{option_or}
use Rattle.std.specs.Result.{result_ok}
use Rattle.std.specs.Str.{bytes_eq}
use Rattle.hex.specs.Hex.{decode_of}
use Rattle.serde_json.specs.Data.{Num, Data, null, boolean, number, string, array, object, Items, no_items, item, Members, no_members, member}
use Rattle.serde_json.specs.Find.{as_i64, as_u64, as_str}
use Rattle.dsql_value.specs.declared.arg.Arg.{Arg}
use Rattle.dsql_value.specs.declared.arg.Arg.TheVariants as arg
use Rattle.dsql_value.specs.declared.arg.Named.{Named}
use Rattle.dsql_script_forms.specs.declared.forms.TheConstants.{MAX_ARGS}

-- Returns the argument for a number that is whole: an I64 if it fits, otherwise a U64.
abbrev pub number_arg : Num → Option Arg
number_arg n = option_or (option_map arg.I64 (as_i64 n)) (option_map arg.U64 (as_u64 n))

-- Returns the number, if it lies within these bounds.
abbrev pub between : ℤ → ℤ → ℤ → Option ℤ
between least greatest n = if int_le least n && int_le n greatest then Some n else None

abbrev pub up_to : ℕ → ℤ → Option ℕ
up_to greatest (pos n) = if nat_le n greatest then Some n else None
up_to greatest (negsuc n) = None

-- Returns the argument for a whole number under the name of a form. The number fits an i64.
abbrev pub integer_form : List ℕ → ℤ → Option Arg
integer_form form n =
    if bytes_eq form (codes "i8") then option_map arg.I8 (between (negsuc 127) (pos 127) n)
    else if bytes_eq form (codes "i16") then option_map arg.I16 (between (negsuc 32767) (pos 32767) n)
    else if bytes_eq form (codes "i32") then option_map arg.I32 (between (negsuc 2147483647) (pos 2147483647) n)
    else if bytes_eq form (codes "u8") then option_map arg.U8 (up_to 255 n)
    else if bytes_eq form (codes "u16") then option_map arg.U16 (up_to 65535 n)
    else if bytes_eq form (codes "u32") then option_map arg.U32 (up_to 4294967295 n)
    else if bytes_eq form (codes "time") then Some (arg.Time n)
    else None

-- Returns the argument for a whole number under the name of a Null form.
abbrev pub null_integer_form : List ℕ → ℤ → Option Arg
null_integer_form form n =
    if bytes_eq form (codes "null_i64") then Some (arg.NullI64 (Some n))
    else if bytes_eq form (codes "null_i32") then option_map (λ n. arg.NullI32 (Some n))
    (between (negsuc 2147483647) (pos 2147483647) n)
    else if bytes_eq form (codes "null_i16") then option_map (λ n. arg.NullI16 (Some n))
    (between (negsuc 32767) (pos 32767) n)
    else if bytes_eq form (codes "null_u8") then option_map (λ n. arg.NullU8 (Some n)) (up_to 255 n)
    else if bytes_eq form (codes "null_time") then Some (arg.NullTime (Some n))
    else None

abbrev pub signed_form : List ℕ → ℤ → Option Arg
signed_form form n = option_or (integer_form form n) (null_integer_form form n)

abbrev pub number_form : List ℕ → Num → Option Arg
number_form form n =
    if bytes_eq form (codes "u64") then option_map arg.U64 (as_u64 n)
    else option_and_then (signed_form form) (as_i64 n)

-- Returns the bytes that pairs of hexadecimal digits spell, if none of the digits is in upper case.
abbrev pub bytes_of : List ℕ → Option (List ℕ)
bytes_of digits = if list_any is_ascii_uppercase digits then None else result_ok (decode_of digits)

abbrev pub text_form : List ℕ → List ℕ → Option Arg
text_form form text =
    if bytes_eq form (codes "bytes") then option_map arg.Bytes (bytes_of text)
    else if bytes_eq form (codes "null_text") then Some (arg.NullText (Some text))
    else None

abbrev pub truth_form : List ℕ → Bool → Option Arg
truth_form form b = if bytes_eq form (codes "null_bool") then Some (arg.NullBool (Some b)) else None

-- Returns the Null form with this name that holds nothing.
abbrev pub empty_form : List ℕ → Option Arg
empty_form form =
    if bytes_eq form (codes "null_text") then Some (arg.NullText None)
    else if bytes_eq form (codes "null_i64") then Some (arg.NullI64 None)
    else if bytes_eq form (codes "null_i32") then Some (arg.NullI32 None)
    else if bytes_eq form (codes "null_i16") then Some (arg.NullI16 None)
    else if bytes_eq form (codes "null_u8") then Some (arg.NullU8 None)
    else if bytes_eq form (codes "null_bool") then Some (arg.NullBool None)
    else if bytes_eq form (codes "null_time") then Some (arg.NullTime None)
    else None

-- Returns the argument for the data under the name of a form.
abbrev pub form_arg : List ℕ → Data → Option Arg
form_arg form null = empty_form form
form_arg form (boolean b) = truth_form form b
form_arg form (number n) = number_form form n
form_arg form (string text) = text_form form text
form_arg form (array ds) = None
form_arg form (object ms) = None

-- Returns the argument for an object of one member, whose key is the name of a form.
abbrev pub arg_of_members : Members → Option Arg
arg_of_members (member form d no_members) = form_arg form d
arg_of_members _ = None

-- Returns the argument for data without a name.
abbrev pub arg_of_data : Data → Option Arg
arg_of_data null = Some arg.Nil
arg_of_data (boolean b) = Some (arg.Bool b)
arg_of_data (number n) = number_arg n
arg_of_data (string text) = Some (arg.Text text)
arg_of_data (array ds) = None
arg_of_data (object ms) = arg_of_members ms

abbrev pub argument : Option (List ℕ) → Arg → Named
argument name arg = record { name = name; arg = arg }

abbrev pub with_name : Option Arg → Option (List ℕ) → Option Named
with_name arg name = option_and_then (λ n. option_map (argument (Some n)) arg) name

-- Returns the argument with its name for two members, in the order of their keys. The argument itself has no
-- name.
abbrev pub named_pair : List ℕ → Data → List ℕ → Data → Option Named
named_pair k d l e =
    if bytes_eq k (codes "arg") && bytes_eq l (codes "name") then with_name (arg_of_data d) (as_str e) else None

abbrev pub named_of_members : Members → Option Named
named_of_members (member k d (member l e no_members)) = named_pair k d l e
named_of_members ms = option_map (argument None) (arg_of_members ms)

-- Returns the argument with its name, if it has one.
abbrev pub named_of_data : Data → Option Named
named_of_data (object ms) = named_of_members ms
named_of_data d = option_map (argument None) (arg_of_data d)

-- Returns the arguments in order, if each of the items is one.
abbrev pub args_of : Items → Option (List Named)
args_of no_items = Some []
args_of (item d ds) = option_and_then (λ named. option_map (λ more. named ∷ more) (args_of ds)) (named_of_data d)

-- Returns the text and the arguments of a call from its array, which has the text first.
abbrev pub call_of_items : Items → Option (List ℕ × List Named)
call_of_items (item (string text) ds) = option_map (λ args. (text, args)) (args_of ds)
call_of_items _ = None

abbrev pub call_of_data : Data → Option (List ℕ × List Named)
call_of_data (array ds) = call_of_items ds
call_of_data _ = None

-- Returns the greatest number of arguments that a call may have, which is also that of its destinations.
abbrev pub most_args : ℕ
most_args = MAX_ARGS
