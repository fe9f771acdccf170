use Rattle.std.proofs.Common.{◌≡◌, map, codes, ap, ◌∙◌, arith}
use Rattle.std.proofs.lemmas.List.{take_all}
use Rattle.std.proofs.lemmas.Result.{IfOk-weaker}
use Rattle.dsql_script_spelling.specs.Dests.{dest_word}
use Rattle.dsql_script_spelling.proofs.Words.{join_by-map}
use Rattle.dsql_script_spelling.proofs.dests.dests_word.Goals as goal

pub returns : goal.returns
returns c =
    let all = take_all c.loop-dest.dest-index c.args.dests.now (omega arith) in
    let words : map (λ w. w.now) c.deref.result.now ≡ map dest_word c.args.dests.now = ap (map (λ w. w.now)) c.deref.ensures.value ∙ c.loop-dest.invariant ∙ ap (map dest_word) all in
    IfOk-weaker c.join.result _ _ (λ s h. h ∙ join_by-map (λ w. w.now) dest_word (codes ",") c.deref.result.now c.args.dests.now words) c.join.ensures.ok
