use Rattle.std.proofs.Common.{◌≡◌, ◌++◌, drop, option_map}
use Rattle.serde_json.specs.View.{items_view}
use Rattle.dsql_script_forms.specs.ScriptArgs.{args_of}
use Rattle.dsql_script_calls.proofs.args.read_args.Given as goal

-- The arguments of all items are those that were read, followed by those of the items that are left.
abbrev pub invariant-loop-item : goal.invariant-loop-item
invariant-loop-item l = args_of (items_view l.items) ≡ option_map (λ more. l.args.items ++ more) (args_of (items_view (drop l.item-index l.items)))
