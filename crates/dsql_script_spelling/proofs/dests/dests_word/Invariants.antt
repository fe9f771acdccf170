use Rattle.std.proofs.Common.{◌≡◌, map, take}
use Rattle.dsql_script_spelling.specs.Dests.{dest_word}
use Rattle.dsql_script_spelling.proofs.dests.dests_word.Given as goal

abbrev pub invariant-loop-dest : goal.invariant-loop-dest
invariant-loop-dest l = map (λ w. w.now) l.words.items ≡ map dest_word (take l.dest-index l.dests)
