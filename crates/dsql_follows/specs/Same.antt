-- Defines tests that two operations are the same, and that two limits are.
use Rattle.std.specs.Prelude.{ℕ, ◌==◌, Bool, true, false, ◌&&◌, List, [], ◌∷◌, Some, None, bytes_eq}
use Rattle.std.specs.Ordering.{int_eq}
use Rattle.dsql_history.specs.value.declared.arg.Arg.{Arg}
use Rattle.dsql_history.specs.value.declared.arg.Arg.TheVariants as args
use Rattle.dsql_history.specs.value.declared.arg.Named.{Named}
use Rattle.dsql_history.specs.scan.declared.dest.Dest.{Dest}
use Rattle.dsql_history.specs.scan.declared.dest.Dest.TheVariants as dests
use Rattle.dsql_history.specs.works.Same.{same_truth, same_name}
use Rattle.dsql_history.specs.declared.event.Setting.{Setting}
use Rattle.dsql_history.specs.declared.event.Setting.TheVariants.{MaxOpen, MaxIdle, MaxLife, MaxIdleTime}
use Rattle.dsql_history.specs.declared.event.Op.{Op}
use Rattle.dsql_history.specs.declared.event.Op.TheVariants as ops
use Rattle.dsql_history.specs.declared.event.Target.{Target}
use Rattle.dsql_history.specs.declared.event.Target.TheVariants as targets
use Rattle.dsql_history.specs.Same.{same_level}

abbrev pub same_setting : Setting → Setting → Bool
same_setting MaxOpen MaxOpen = true
same_setting MaxIdle MaxIdle = true
same_setting MaxLife MaxLife = true
same_setting MaxIdleTime MaxIdleTime = true
same_setting _ _ = false

abbrev pub same_arg : Arg → Arg → Bool
same_arg args.Nil args.Nil = true
same_arg (args.I8 a) (args.I8 b) = int_eq a b
same_arg (args.I16 a) (args.I16 b) = int_eq a b
same_arg (args.I32 a) (args.I32 b) = int_eq a b
same_arg (args.I64 a) (args.I64 b) = int_eq a b
same_arg (args.U8 a) (args.U8 b) = a == b
same_arg (args.U16 a) (args.U16 b) = a == b
same_arg (args.U32 a) (args.U32 b) = a == b
same_arg (args.U64 a) (args.U64 b) = a == b
same_arg (args.Bool a) (args.Bool b) = same_truth a b
same_arg (args.Text a) (args.Text b) = bytes_eq a b
same_arg (args.Bytes a) (args.Bytes b) = bytes_eq a b
same_arg (args.Time a) (args.Time b) = int_eq a b
same_arg (args.NullText a) (args.NullText b) = same_name a b
same_arg (args.NullI64 None) (args.NullI64 None) = true
same_arg (args.NullI64 (Some a)) (args.NullI64 (Some b)) = int_eq a b
same_arg (args.NullI32 None) (args.NullI32 None) = true
same_arg (args.NullI32 (Some a)) (args.NullI32 (Some b)) = int_eq a b
same_arg (args.NullI16 None) (args.NullI16 None) = true
same_arg (args.NullI16 (Some a)) (args.NullI16 (Some b)) = int_eq a b
same_arg (args.NullU8 None) (args.NullU8 None) = true
same_arg (args.NullU8 (Some a)) (args.NullU8 (Some b)) = a == b
same_arg (args.NullBool None) (args.NullBool None) = true
same_arg (args.NullBool (Some a)) (args.NullBool (Some b)) = same_truth a b
same_arg (args.NullTime None) (args.NullTime None) = true
same_arg (args.NullTime (Some a)) (args.NullTime (Some b)) = int_eq a b
same_arg _ _ = false

abbrev pub same_args : List Named → List Named → Bool
same_args [] [] = true
same_args (a ∷ more) (b ∷ others) = same_name a.name b.name && (same_arg a.arg b.arg && same_args more others)
same_args _ _ = false

-- Returns the place of a destination in the list of all kinds of destinations.
abbrev pub rank : Dest → ℕ
rank dests.Text = 0
rank dests.Bytes = 1
rank dests.Bool = 2
rank dests.I8 = 3
rank dests.I16 = 4
rank dests.I32 = 5
rank dests.I64 = 6
rank dests.U8 = 7
rank dests.U16 = 8
rank dests.U32 = 9
rank dests.U64 = 10
rank dests.Time = 11
rank dests.Any = 12
rank dests.NullText = 13
rank dests.NullI64 = 14
rank dests.NullI32 = 15
rank dests.NullI16 = 16
rank dests.NullU8 = 17
rank dests.NullBool = 18
rank dests.NullTime = 19

abbrev pub same_dests : List Dest → List Dest → Bool
same_dests [] [] = true
same_dests (a ∷ more) (b ∷ others) = (rank a == rank b) && same_dests more others
same_dests _ _ = false

abbrev pub same_target : Target → Target → Bool
same_target targets.Db targets.Db = true
same_target (targets.Label tx) (targets.Label other) = bytes_eq tx other
same_target _ _ = false

abbrev pub same_op : Op → Op → Bool
same_op (ops.Exec target text args) (ops.Exec place other others) =
    same_target target place && (bytes_eq text other && same_args args others)
same_op (ops.Query label target text args) (ops.Query name place other others) =
    bytes_eq label name && (same_target target place && (bytes_eq text other && same_args args others))
same_op (ops.One target dests text args) (ops.One place kinds other others) =
    same_target target place && (same_dests dests kinds && (bytes_eq text other && same_args args others))
same_op (ops.Next rows) (ops.Next other) = bytes_eq rows other
same_op (ops.Scan rows dests) (ops.Scan other kinds) = bytes_eq rows other && same_dests dests kinds
same_op (ops.RowsClose rows) (ops.RowsClose other) = bytes_eq rows other
same_op (ops.Err rows) (ops.Err other) = bytes_eq rows other
same_op (ops.Begin label level read_only) (ops.Begin name other only) =
    bytes_eq label name && (same_level level other && same_truth read_only only)
same_op (ops.Commit tx) (ops.Commit other) = bytes_eq tx other
same_op (ops.Rollback tx) (ops.Rollback other) = bytes_eq tx other
same_op ops.Ping ops.Ping = true
same_op ops.DbClose ops.DbClose = true
same_op ops.Stats ops.Stats = true
same_op _ _ = false
