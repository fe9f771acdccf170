use Rattle.std.proofs.Common.{map, string_bytes, refl, sym, ap, ◌∙◌}
use Rattle.std.proofs.lemmas.List.{append_assoc, append-nil}
use Rattle.std.specs.Vec.Iter.{into_iter_items}
use Rattle.dsql_run_words.proofs.Arguments.{none_left, after_name}
use Rattle.dsql_run_words.proofs.words_of.Goals as goal

pub loop-word-init : goal.loop-word-init
loop-word-init c = rw c.new-words.ensures.items refl

pub loop-word-preserved : goal.loop-word-preserved
loop-word-preserved c = rw (c.in_ok-push-in-Ok.ensures.items, c.new.ensures, append_assoc _ _ _) (rw c.in-Some.ensures.steps.0 at c.loop-word.invariant)

pub returns-in-None-clause-words : goal.returns-in-None-clause-words
returns-in-None-clause-words c =
    let all = rw (none_left c.loop-word.word-iterator c.in-None.ensures.steps.0) at c.loop-word.invariant in
    let name = after_name c.in-Ok.args c.next-name.new.self c.next-name.result c.next-name.ensures.cases in
    rw (c.in-Ok.is, name) (sym (append-nil _) ∙ (all ∙ ap (λ it. map string_bytes (into_iter_items it)) c.into_iter-word-iterator.ensures.into_iter_gives))
