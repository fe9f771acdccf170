use Rattle.std.proofs.Common.{◌≡◌, ◌++◌, map, drop, option_map}
use Rattle.dsql_script_spelling.specs.Dests.{dests_of_words}
use Rattle.dsql_script_forms.proofs.dests.read_each.Given as goal

-- The invariant of the loop: the destinations are those already read, followed by those of the words that are
-- left.
abbrev pub invariant-loop-word : goal.invariant-loop-word
invariant-loop-word l = dests_of_words (map (λ w. w.now) l.words) ≡ option_map (λ more. l.dests.items ++ more) (dests_of_words (map (λ w. w.now) (drop l.word-index l.words)))
