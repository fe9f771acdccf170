use Rattle.std.proofs.Common.{◌≡◌, ◌++◌, take}
use Rattle.std.specs.List.{flat_map}
use Rattle.dsql_timeline_page.proofs.texts.append_all.Given as goal

abbrev pub invariant-loop-text : goal.invariant-loop-text
invariant-loop-text l = l.page.items ≡ l.initial.page.items ++ flat_map (λ t. t.now) (take l.text-index l.texts)
