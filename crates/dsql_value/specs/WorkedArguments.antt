-- Worked arguments, with their values and their refusals.
use Rattle.std.specs.Prelude.{◌≡◌, ℕ, pos, negsuc, true, false, List, [], ◌∷◌, Some, None, codes}
use Rattle.dsql_value.specs.declared.arg.Arg.{Arg}
use Rattle.dsql_value.specs.declared.arg.Arg.TheVariants as args
use Rattle.dsql_value.specs.declared.arg.Named.{Named}
use Rattle.dsql_value.specs.declared.arg.ArgFault.TheVariants as faults
use Rattle.dsql_value.specs.declared.value.Value.TheVariants as values
use Rattle.dsql_value.specs.Arguments.{arg_of, params_of, value_fault, fault_of}

pub record WorkedValues : Type 0 where
  pub nil : arg_of args.Nil ≡ values.Nil
  pub least_byte : arg_of (args.I8 (negsuc 127)) ≡ values.Int (negsuc 127)
  pub greatest_byte : arg_of (args.U8 255) ≡ values.Int (pos 255)
  pub least : arg_of (args.I64 (negsuc 9223372036854775807)) ≡ values.Int (negsuc 9223372036854775807)
  pub greatest : arg_of (args.U64 9223372036854775807) ≡ values.Int (pos 9223372036854775807)
  pub greatest_is_taken : value_fault (args.U64 9223372036854775807) ≡ None
  pub high_bit : value_fault (args.U64 9223372036854775808) ≡ Some (faults.HighBit 9223372036854775808)
  pub text : arg_of (args.Text (codes "Ann")) ≡ values.Text (codes "Ann")
  pub same_bytes : arg_of (args.Bytes (codes "Ann")) ≡ values.Bytes (codes "Ann")
  pub moment : arg_of (args.Time (negsuc 0)) ≡ values.Time (negsuc 0)
  pub empty_text : arg_of (args.NullText None) ≡ values.Nil
  pub text_without_letters : arg_of (args.NullText (Some [])) ≡ values.Text []
  pub no_number : arg_of (args.NullI64 None) ≡ values.Nil
  pub zero : arg_of (args.NullI64 (Some (pos 0))) ≡ values.Int (pos 0)
  pub null_byte : arg_of (args.NullU8 (Some 255)) ≡ values.Int (pos 255)
  pub null_truth : arg_of (args.NullBool (Some false)) ≡ values.Bool false
  pub null_moment : arg_of (args.NullTime (Some (pos 7))) ≡ values.Time (pos 7)

abbrev pub plain : Arg → Named
plain arg = record { name = None; arg = arg }

abbrev pub named_one : List ℕ → Named
named_one name = record { name = Some name; arg = args.I64 (pos 1) }

abbrev pub too_large : Named
too_large = plain (args.U64 18446744073709551615)

-- Worked refusals. The number after the Bool is how many inputs the statement has.
pub record WorkedRefusals : Type 0 where
  pub none_wanted : fault_of false (pos 0) [] ≡ None
  pub any_number : fault_of false (negsuc 0) (plain args.Nil ∷ plain args.Nil ∷ []) ≡ None
  pub too_few : fault_of false (pos 2) (plain args.Nil ∷ []) ≡ Some (faults.NumArgs 2 1)
  pub too_many : fault_of false (pos 0) (plain args.Nil ∷ []) ≡ Some (faults.NumArgs 0 1)
  pub name_is_taken : fault_of true (pos 1) (named_one (codes "id") ∷ []) ≡ None
  pub name_is_refused : fault_of false (pos 1) (named_one (codes "id") ∷ []) ≡ Some (faults.NamedRefused (codes "id"))
  pub digit : fault_of true (pos 1) (named_one (codes "1d") ∷ []) ≡ Some (faults.BadName (codes "1d"))
  pub no_letters : fault_of true (pos 1) (named_one [] ∷ []) ≡ Some (faults.BadName [])
  pub bad_before_refused : fault_of false (pos 1) (named_one (codes "_d") ∷ []) ≡ Some (faults.BadName (codes "_d"))
  pub argument_before_number : fault_of false (pos 5) (too_large ∷ []) ≡ Some (faults.HighBit 18446744073709551615)
  pub first_argument_first : fault_of true (pos 2) (too_large ∷ named_one (codes "1d") ∷ [])
      ≡ Some (faults.HighBit 18446744073709551615)
  pub parameters : params_of (named_one (codes "id") ∷ plain args.Nil ∷ [])
      ≡ (record { name = Some (codes "id"); value = values.Int (pos 1) }) ∷
      (record { name = None; value = values.Nil }) ∷ []
