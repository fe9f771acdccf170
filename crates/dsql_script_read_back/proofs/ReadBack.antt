-- Proves that the arguments that a report shows are read as these arguments. The argument has a case for each
-- form.
use Rattle.std.proofs.Common.{◌≡◌, ℕ, ◌≤◌, ◌^◌, List, [], ◌∷◌, map, All, Option, Some, None, option_map, refl, inl, inr, arith, ltb}
use Rattle.std.proofs.Math.Facts.{sfits_widen}
use Rattle.std.proofs.lemmas.Bool.{cases_Bool, le-ltb, ltb-true}
use Rattle.std.proofs.lemmas.List.Elements.{All-head, All-tail}
use Rattle.serde_json.specs.View.{items_of}
use Rattle.dsql_history.specs.value.declared.arg.Arg.{Arg}
use Rattle.dsql_history.specs.value.declared.arg.Arg.TheVariants.{Nil, I8, I16, I32, I64, U8, U16, U32, U64, Bytes, Time, NullText, NullI64, NullI32, NullI16, NullU8, NullBool, NullTime}
use Rattle.dsql_history.specs.value.declared.arg.Named.{Named}
use Rattle.dsql_history.specs.value.Arguments.{largest_int}
use Rattle.dsql_script_spelling.specs.LineArgs.{arg_data, argument_data, statement_data}
use Rattle.dsql_script_forms.specs.ScriptArgs.{argument, arg_of_data, named_of_data, args_of, call_of_data}
use Rattle.dsql_script_read_back.specs.ReadBack.{IsInRange}
use Rattle.dsql_script_read_back.proofs.ReadNumbers.{i8_between, i16_between, i32_between, is_up_to, as_i64_signed, as_i64_unsigned}
use Rattle.dsql_script_read_back.proofs.ReadBytes.{bytes_are_read_back}

pub argument_is_read_back : (arg : Arg) → IsInRange arg → arg_of_data (arg_data arg) ≡ Some arg
argument_is_read_back Nil _ = refl
argument_is_read_back (I8 n) fits = rw (as_i64_signed n (sfits_widen tt fits), i8_between n fits) refl
argument_is_read_back (I16 n) fits = rw (as_i64_signed n (sfits_widen tt fits), i16_between n fits) refl
argument_is_read_back (I32 n) fits = rw (as_i64_signed n (sfits_widen tt fits), i32_between n fits) refl
argument_is_read_back (I64 n) fits = rw (as_i64_signed n fits) refl
argument_is_read_back (U8 n) few = rw (as_i64_unsigned n (omega arith), is_up_to 255 n (omega arith)) refl
argument_is_read_back (U16 n) few = rw (as_i64_unsigned n (omega arith), is_up_to 65535 n (omega arith)) refl
argument_is_read_back (U32 n) few = rw (as_i64_unsigned n few, is_up_to 4294967295 n (omega arith)) refl
argument_is_read_back (U64 n) few = elim (cases_Bool (ltb largest_int n)) [
  | inl large ↦ let above : 2 ^ 63 ≤ n = omega (arith, ltb-true largest_int n large) in rw (large, le-ltb n (2 ^ 63) above) refl
  | inr small ↦ rw small refl
]
argument_is_read_back (Bytes bytes) small = rw (bytes_are_read_back bytes small) refl
argument_is_read_back (Time n) fits = rw (as_i64_signed n fits) refl
argument_is_read_back (NullText None) _ = refl
argument_is_read_back (NullText (Some text)) _ = refl
argument_is_read_back (NullI64 None) _ = refl
argument_is_read_back (NullI64 (Some n)) fits = rw (as_i64_signed n fits) refl
argument_is_read_back (NullI32 None) _ = refl
argument_is_read_back (NullI32 (Some n)) fits = rw (as_i64_signed n (sfits_widen tt fits), i32_between n fits) refl
argument_is_read_back (NullI16 None) _ = refl
argument_is_read_back (NullI16 (Some n)) fits = rw (as_i64_signed n (sfits_widen tt fits), i16_between n fits) refl
argument_is_read_back (NullU8 None) _ = refl
argument_is_read_back (NullU8 (Some n)) few = rw (as_i64_unsigned n (omega arith), is_up_to 255 n (omega arith)) refl
argument_is_read_back (NullBool None) _ = refl
argument_is_read_back (NullBool (Some b)) _ = refl
argument_is_read_back (NullTime None) _ = refl
argument_is_read_back (NullTime (Some n)) fits = rw (as_i64_signed n fits) refl
argument_is_read_back _ _ = refl

-- An argument without a name isn't read as one with a name.
nameless : (arg : Arg) → named_of_data (arg_data arg) ≡ option_map (argument None) (arg_of_data (arg_data arg))
nameless (U64 n) = elim (cases_Bool (ltb largest_int n)) [ inl large ↦ rw large refl | inr small ↦ rw small refl ]
nameless _ = refl

pub named_is_read_back : (name : Option (List ℕ)) (arg : Arg) → IsInRange arg → named_of_data (argument_data (argument name arg)) ≡ Some (argument name arg)
named_is_read_back None arg fits = rw (nameless arg, argument_is_read_back arg fits) refl
named_is_read_back (Some name) arg fits = rw (argument_is_read_back arg fits) refl

args_are_read_back : (args : List Named) → All (λ named. IsInRange named.arg) args → args_of (items_of (map argument_data args)) ≡ Some args
args_are_read_back [] fit = refl
args_are_read_back (named ∷ args) fit =
    let first : IsInRange named.arg = All-head (λ (n : Named). IsInRange n.arg) named args fit in
    rw (named_is_read_back named.name named.arg first, args_are_read_back args (All-tail (λ (n : Named). IsInRange n.arg) named args fit)) refl

pub call_is_read_back : (text : List ℕ) (args : List Named) → All (λ named. IsInRange named.arg) args → call_of_data (statement_data text args) ≡ Some (text, args)
call_is_read_back text args fit = rw (args_are_read_back args fit) refl
