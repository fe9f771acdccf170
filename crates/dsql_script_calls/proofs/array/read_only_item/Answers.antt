use Rattle.std.proofs.Common.{refl}
use Rattle.dsql_script_calls.proofs.ScriptTexts.{only_item_of_others}
use Rattle.dsql_script_calls.proofs.array.read_only_item.Goals as goal

pub returns-then-items-ne1 : goal.returns-then-items-ne1
returns-then-items-ne1 c = λ _. (refl, only_item_of_others c.args.items.now c.if-items-ne1.true)
