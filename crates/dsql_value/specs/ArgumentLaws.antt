-- What the refusals of arguments mean, and what the parameters that the arguments become mean.
use Rattle.std.specs.Prelude.{◌≡◌, ◌↔◌, ℕ, ℤ, pos, negsuc, ◌<◌, ◌≤◌, ◌^◌, Bool, true, false, List, ◌∷◌, ◌++◌, length, map, All, Some, None, IfSome}
use Rattle.dsql_value.specs.declared.arg.Arg.{Arg}
use Rattle.dsql_value.specs.declared.arg.Arg.TheVariants as args
use Rattle.dsql_value.specs.declared.arg.Named.{Named}
use Rattle.dsql_value.specs.declared.arg.ArgFault.{ArgFault}
use Rattle.dsql_value.specs.declared.arg.ArgFault.TheVariants as faults
use Rattle.dsql_value.specs.declared.value.Param.{Param}
use Rattle.dsql_value.specs.Arguments.{arg_of, params_of, begins_with_letter, value_fault, arg_fault, first_fault, count_fault, fault_of}

-- Holds if an argument isn't refused.
abbrev pub IsAccepted : Bool → Named → Type 0
IsAccepted named_ok named = arg_fault named_ok named ≡ None

-- Holds if an argument of the list is refused with the fault, and none before it is refused.
pub record IsFirstRefused (named_ok : Bool) (list : List Named) (fault : ArgFault) : Type 0 where
  pub before : List Named
  pub named : Named
  pub behind : List Named
  pub stands : list ≡ before ++ named ∷ behind
  pub accepted : All (IsAccepted named_ok) before
  pub refused : arg_fault named_ok named ≡ Some fault

-- Holds if the fault of a list is that of its first refused argument, and a list without one has no fault.
pub record RefusesTheFirst : Type 0 where
  pub first : (named_ok : Bool) (list : List Named) (fault : ArgFault)
      → first_fault named_ok list ≡ Some fault ↔ IsFirstRefused named_ok list fault
  pub none : (named_ok : Bool) (list : List Named) → first_fault named_ok list ≡ None ↔ All (IsAccepted named_ok) list

-- Holds if the number of arguments is checked only if each of them is accepted, and -1 refuses no number of
-- them.
pub record CountsLast : Type 0 where
  pub refused_before : (named_ok : Bool) (want : ℤ) (list : List Named) (fault : ArgFault)
      → first_fault named_ok list ≡ Some fault → fault_of named_ok want list ≡ Some fault
  pub counted : (named_ok : Bool) (want : ℤ) (list : List Named)
      → first_fault named_ok list ≡ None → fault_of named_ok want list ≡ count_fault want (length list)
  pub any_number : (named_ok : Bool) (list : List Named) → fault_of named_ok (negsuc 0) list ≡ first_fault named_ok list
  pub accepted : (named_ok : Bool) (want : ℕ) (list : List Named)
      → fault_of named_ok (pos want) list ≡ None ↔ ((first_fault named_ok list ≡ None) × (length list ≡ want))

-- Holds if only an unsigned number of 64 bits is refused for its value, and exactly if its highest bit is set.
pub record RefusesHighBits : Type 0 where
  pub highest : (number : ℕ) → value_fault (args.U64 number) ≡ Some (faults.HighBit number) ↔ (2 ^ 63 ≤ number)
  pub lower : (number : ℕ) → value_fault (args.U64 number) ≡ None ↔ (number < 2 ^ 63)
  pub alone : (arg : Arg) (fault : ArgFault) → value_fault arg ≡ Some fault → (number : ℕ) × (arg ≡ args.U64 number)

-- Holds if no name goes to a driver that takes none, and each name that goes begins with a letter. A driver that takes
-- names takes whatever another one takes.
pub record ChecksNames : Type 0 where
  pub nameless : (list : List Named) → first_fault false list ≡ None → All (λ n. n.name ≡ None) list
  pub lettered : (named_ok : Bool) (list : List Named) → first_fault named_ok list ≡ None
      → All (λ n. IfSome n.name (λ name. begins_with_letter name ≡ true)) list
  pub wider : (list : List Named) → first_fault false list ≡ None → first_fault true list ≡ None

-- Holds if there is a parameter for each argument, in the same order, with its name and its value.
pub record KeepsArguments : Type 0 where
  pub number : (list : List Named) → length (params_of list) ≡ length list
  pub names : (list : List Named) → map (λ (p : Param). p.name) (params_of list) ≡ map (λ (n : Named). n.name) list
  pub values : (list : List Named) → map (λ (p : Param). p.value) (params_of list)
      ≡ map (λ (n : Named). arg_of n.arg) list
  pub joined : (front back : List Named) → params_of (front ++ back) ≡ params_of front ++ params_of back
