-- Argues by the parts of an operation: each is the same as itself.
use Rattle.std.proofs.Common.{◌≡◌, ℕ, true, ◌&&◌, List, [], ◌∷◌, Some, None, bytes_eq, refl}
use Rattle.dsql_laws_calls.specs.value.declared.arg.Arg.{Arg}
use Rattle.dsql_laws_calls.specs.value.declared.arg.Arg.TheVariants as args
use Rattle.dsql_laws_calls.specs.value.declared.arg.Named.{Named}
use Rattle.dsql_laws_calls.specs.scan.declared.dest.Dest.{Dest}
use Rattle.dsql_laws_calls.specs.works.Same.{same_truth, same_name}
use Rattle.dsql_laws_calls.proofs.laws.Tests.{same_itself, together}
use Rattle.dsql_laws_calls.proofs.Itself.{bytes_itself, int_itself, level_itself, name_itself, truth_itself}
use Rattle.dsql_follows.specs.Same.{rank, same_arg, same_args, same_dests, same_op, same_target}
use Rattle.dsql_laws_calls.specs.history.declared.event.Op.{Op}
use Rattle.dsql_laws_calls.specs.history.declared.event.Op.TheVariants as ops
use Rattle.dsql_laws_calls.specs.history.declared.event.Target.{Target}
use Rattle.dsql_laws_calls.specs.history.declared.event.Target.TheVariants as targets
use Rattle.dsql_laws_calls.specs.history.Same.{same_level}

arg_itself : (a : Arg) → same_arg a a ≡ true
arg_itself args.Nil = refl
arg_itself (args.I8 a) = int_itself a
arg_itself (args.I16 a) = int_itself a
arg_itself (args.I32 a) = int_itself a
arg_itself (args.I64 a) = int_itself a
arg_itself (args.U8 a) = same_itself a
arg_itself (args.U16 a) = same_itself a
arg_itself (args.U32 a) = same_itself a
arg_itself (args.U64 a) = same_itself a
arg_itself (args.Bool a) = truth_itself a
arg_itself (args.Text a) = bytes_itself a
arg_itself (args.Bytes a) = bytes_itself a
arg_itself (args.Time a) = int_itself a
arg_itself (args.NullText a) = name_itself a
arg_itself (args.NullI64 None) = refl
arg_itself (args.NullI64 (Some a)) = int_itself a
arg_itself (args.NullI32 None) = refl
arg_itself (args.NullI32 (Some a)) = int_itself a
arg_itself (args.NullI16 None) = refl
arg_itself (args.NullI16 (Some a)) = int_itself a
arg_itself (args.NullU8 None) = refl
arg_itself (args.NullU8 (Some a)) = same_itself a
arg_itself (args.NullBool None) = refl
arg_itself (args.NullBool (Some a)) = truth_itself a
arg_itself (args.NullTime None) = refl
arg_itself (args.NullTime (Some a)) = int_itself a

args_itself : (args : List Named) → same_args args args ≡ true
args_itself [] = refl
args_itself (a ∷ more) = together (same_name a.name a.name) _ (name_itself a.name) (together (same_arg a.arg a.arg) _ (arg_itself a.arg) (args_itself more))

dests_itself : (dests : List Dest) → same_dests dests dests ≡ true
dests_itself [] = refl
dests_itself (a ∷ more) = rw (same_itself (rank a)) (dests_itself more)

target_itself : (target : Target) → same_target target target ≡ true
target_itself targets.Db = refl
target_itself (targets.Label tx) = bytes_itself tx

-- A text with its arguments and its target is the same as itself.
text_itself : (target : Target) (text : List ℕ) (args : List Named) → (same_target target target && (bytes_eq text text && same_args args args)) ≡ true
text_itself target text args =
    together (same_target target target) _ (target_itself target) (together (bytes_eq text text) (same_args args args) (bytes_itself text) (args_itself args))

pub op_itself : (op : Op) → same_op op op ≡ true
op_itself (ops.Exec target text args) = text_itself target text args
op_itself (ops.Query label target text args) = together (bytes_eq label label) _ (bytes_itself label) (text_itself target text args)
op_itself (ops.One target dests text args) =
    together (same_target target target) _ (target_itself target)
    (together (same_dests dests dests) _ (dests_itself dests) (together (bytes_eq text text) (same_args args args) (bytes_itself text) (args_itself args)))
op_itself (ops.Next rows) = bytes_itself rows
op_itself (ops.Scan rows dests) = together (bytes_eq rows rows) (same_dests dests dests) (bytes_itself rows) (dests_itself dests)
op_itself (ops.RowsClose rows) = bytes_itself rows
op_itself (ops.Err rows) = bytes_itself rows
op_itself (ops.Begin label level read_only) =
    together (bytes_eq label label) _ (bytes_itself label) (together (same_level level level) (same_truth read_only read_only) (level_itself level) (truth_itself read_only))
op_itself (ops.Commit tx) = bytes_itself tx
op_itself (ops.Rollback tx) = bytes_itself tx
op_itself _ = refl
