-- Proves that the text of an array that a report shows is read as this array. The argument goes by its tokens,
-- and counts how deep it nests.
use Rattle.std.proofs.Common.{◌≡◌, ℕ, ◌<◌, ◌≤◌, ◌^◌, ℤ, pos, negsuc, List, [], ◌∷◌, map, All, Option, Some, None, option_map, FitsSigned, append-nil, refl, ap, sym, ◌∙◌, inl, inr, arith, ltb}
use Rattle.std.specs.Prelude.{option_and_then}
use Rattle.std.specs.Int.{w64}
use Rattle.std.proofs.Math.Facts.{sfits_widen}
use Rattle.std.proofs.lemmas.Bool.{cases_Bool}
use Rattle.std.proofs.lemmas.List.Elements.{All-head, All-tail}
use Rattle.hex.specs.Hex.{encode_lower}
use Rattle.json.specs.Token.{Token}
use Rattle.json.specs.Lex.{tokens}
use Rattle.json.specs.Json.{value, if_last}
use Rattle.json.specs.Tree.{json_tokens, depth, items_depth, HasNumbers, ItemsHaveNumbers}
use Rattle.json.proofs.Printed.Decimals.{IsNumber-decimal, IsNumber-signed_decimal}
use Rattle.json.proofs.Printed.Tokens.{tokens-print}
use Rattle.json.proofs.Printed.Trees.{value-json_tokens, ArePrintable-json_tokens}
use Rattle.serde_json.specs.Data.{Data, null, boolean, number, string}
use Rattle.serde_json.specs.Read.{of_json, of_items, read, max_depth}
use Rattle.serde_json.specs.View.{items_of}
use Rattle.serde_json.specs.Written.{outline, items_outline, compact_text}
use Rattle.serde_json.proofs.Numbers.{number_of-decimal, number_of-negative}
use Rattle.serde_json.proofs.Texts.{print-outline}
use Rattle.dsql_history.specs.value.declared.arg.Arg.{Arg}
use Rattle.dsql_history.specs.value.declared.arg.Arg.TheVariants.{Nil, I8, I16, I32, I64, U8, U16, U32, U64, Bool, Text, Bytes, Time, NullText, NullI64, NullI32, NullI16, NullU8, NullBool, NullTime}
use Rattle.dsql_history.specs.value.declared.arg.Named.{Named}
use Rattle.dsql_history.specs.value.Arguments.{largest_int}
use Rattle.dsql_script_spelling.specs.LineArgs.{arg_data, named_arg_data, argument_data, statement_data}
use Rattle.dsql_script_spelling.specs.LineValues.{under, natural, integer}
use Rattle.dsql_script_read_back.specs.ReadBack.{IsInRange}

-- Holds if the JSON written for the data is read as this data and nests at most this deep.
pub record IsRead (most : ℕ) (d : Data) : Type 0 where
  pub numbers : HasNumbers (outline d)
  pub same : of_json (outline d) ≡ Some d
  pub nests : depth (outline d) ≤ most

pub text_is_read : (d : Data) → IsRead max_depth d → read (compact_text d) ≡ Some d
text_is_read d is =
    let written : tokens (compact_text d) ≡ json_tokens (outline d) = ap tokens (sym (print-outline d)) ∙ tokens-print (json_tokens (outline d)) (ArePrintable-json_tokens (outline d) is.numbers) in
    ap (λ (ts : List Token). option_and_then of_json (option_and_then (λ p. if_last p.0 p.1) (value max_depth ts))) (written ∙ sym (append-nil (json_tokens (outline d))))
    ∙ ap (λ o. option_and_then of_json (option_and_then (λ p. if_last p.0 p.1) o)) (value-json_tokens (outline d) max_depth [] is.nests) ∙ is.same

pub deeper : (few most : ℕ) (d : Data) → few ≤ most → IsRead few d → IsRead most d
deeper few most d more is = record { numbers = is.numbers; same = is.same; nests = omega (arith, is.nests) }

pub integer_is_read : (n : ℤ) → FitsSigned w64 n → IsRead 0 (integer n)
integer_is_read (pos n) fits =
    let few : n < 2 ^ 63 = omega (arith, fits.sfits) in
    let small : n < 2 ^ 64 = omega arith in
    record { numbers = IsNumber-decimal n small; same = ap (option_map number) (number_of-decimal n small); nests = omega arith }
integer_is_read (negsuc n) fits =
    let few : n < 2 ^ 63 = omega (arith, fits.sfits) in
    record { numbers = IsNumber-signed_decimal (negsuc n) few; same = ap (option_map number) (number_of-negative n few); nests = omega arith }

pub natural_is_read : (n : ℕ) → n < 2 ^ 64 → IsRead 0 (natural n)
natural_is_read n small = record { numbers = IsNumber-decimal n small; same = ap (option_map number) (number_of-decimal n small); nests = omega arith }

pub string_is_read : (text : List ℕ) → IsRead 0 (string text)
string_is_read text = record { numbers = tt; same = refl; nests = omega arith }

pub boolean_is_read : (b : _) → IsRead 0 (boolean b)
boolean_is_read b = record { numbers = tt; same = refl; nests = omega arith }

pub null_is_read : IsRead 0 null
null_is_read = record { numbers = tt; same = refl; nests = omega arith }

pub under_is_read : (name : List ℕ) (d : Data) → IsRead 0 d → IsRead 1 (under name d)
under_is_read name d is = record { numbers = (is.numbers, tt); same = rw is.same refl; nests = omega (arith, is.nests) }

pub alone_is_read : (d : Data) → IsRead 0 d → IsRead 1 d
alone_is_read d is = deeper 0 1 d (omega arith) is

pub arg_is_read : (arg : Arg) → IsInRange arg → IsRead 1 (arg_data arg)
arg_is_read Nil _ = alone_is_read null null_is_read
arg_is_read (I8 n) fits = under_is_read _ (integer n) (integer_is_read n (sfits_widen tt fits))
arg_is_read (I16 n) fits = under_is_read _ (integer n) (integer_is_read n (sfits_widen tt fits))
arg_is_read (I32 n) fits = under_is_read _ (integer n) (integer_is_read n (sfits_widen tt fits))
arg_is_read (I64 n) fits = alone_is_read (integer n) (integer_is_read n fits)
arg_is_read (U8 n) few = under_is_read _ (natural n) (natural_is_read n (omega arith))
arg_is_read (U16 n) few = under_is_read _ (natural n) (natural_is_read n (omega arith))
arg_is_read (U32 n) few = under_is_read _ (natural n) (natural_is_read n (omega arith))
arg_is_read (U64 n) few = elim (cases_Bool (ltb largest_int n)) [
  | inl large ↦ rw large (alone_is_read (natural n) (natural_is_read n few))
  | inr small ↦ rw small (under_is_read _ (natural n) (natural_is_read n few))
]
arg_is_read (Bool b) _ = alone_is_read (boolean b) (boolean_is_read b)
arg_is_read (Text text) _ = alone_is_read (string text) (string_is_read text)
arg_is_read (Bytes bytes) small = under_is_read _ (string (encode_lower bytes)) (string_is_read (encode_lower bytes))
arg_is_read (Time n) fits = under_is_read _ (integer n) (integer_is_read n fits)
arg_is_read (NullText None) _ = under_is_read _ null null_is_read
arg_is_read (NullText (Some text)) _ = under_is_read _ (string text) (string_is_read text)
arg_is_read (NullI64 None) _ = under_is_read _ null null_is_read
arg_is_read (NullI64 (Some n)) fits = under_is_read _ (integer n) (integer_is_read n fits)
arg_is_read (NullI32 None) _ = under_is_read _ null null_is_read
arg_is_read (NullI32 (Some n)) fits = under_is_read _ (integer n) (integer_is_read n (sfits_widen tt fits))
arg_is_read (NullI16 None) _ = under_is_read _ null null_is_read
arg_is_read (NullI16 (Some n)) fits = under_is_read _ (integer n) (integer_is_read n (sfits_widen tt fits))
arg_is_read (NullU8 None) _ = under_is_read _ null null_is_read
arg_is_read (NullU8 (Some n)) few = under_is_read _ (natural n) (natural_is_read n (omega arith))
arg_is_read (NullBool None) _ = under_is_read _ null null_is_read
arg_is_read (NullBool (Some b)) _ = under_is_read _ (boolean b) (boolean_is_read b)
arg_is_read (NullTime None) _ = under_is_read _ null null_is_read
arg_is_read (NullTime (Some n)) fits = under_is_read _ (integer n) (integer_is_read n fits)

pub named_is_read : (name : Option (List ℕ)) (d : Data) → IsRead 1 d → IsRead 2 (named_arg_data name d)
named_is_read None d is = deeper 1 2 d (omega arith) is
named_is_read (Some name) d is = record { numbers = (is.numbers, (tt, tt)); same = rw is.same refl; nests = omega (arith, is.nests) }

-- Holds if the JSON written for these arguments, as the items of an array, is read as their data.
record AreRead (args : List Named) : Type 0 where
  numbers : ItemsHaveNumbers (items_outline (items_of (map argument_data args)))
  same : of_items (items_outline (items_of (map argument_data args))) ≡ Some (items_of (map argument_data args))
  nest : items_depth (items_outline (items_of (map argument_data args))) ≤ 2

args_are_read : (args : List Named) → All (λ named. IsInRange named.arg) args → AreRead args
args_are_read [] fit = record { numbers = tt; same = refl; nest = omega arith }
args_are_read (named ∷ args) fit =
    let first = named_is_read named.name (arg_data named.arg) (arg_is_read named.arg (All-head (λ (n : Named). IsInRange n.arg) named args fit)) in
    let more = args_are_read args (All-tail (λ (n : Named). IsInRange n.arg) named args fit) in
    record { numbers = (first.numbers, more.numbers); same = rw (first.same, more.same) refl; nest = omega (arith, first.nests, more.nest) }

pub array_is_read : (text : List ℕ) (args : List Named) → All (λ named. IsInRange named.arg) args → read (compact_text (statement_data text args)) ≡ Some (statement_data text args)
array_is_read text args fit =
    let are = args_are_read args fit in
    text_is_read (statement_data text args) (record { numbers = (tt, are.numbers); same = rw are.same refl; nests = omega (arith, are.nest) })
