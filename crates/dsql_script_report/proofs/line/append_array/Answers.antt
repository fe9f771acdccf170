use Rattle.std.proofs.Common.{◌≡◌, ◌++◌, ap, ◌∙◌}
use Rattle.std.specs.Str.{IsUtf8}
use Rattle.std.proofs.lemmas.Result.{on_ok_weaker}
use Rattle.serde_json.specs.Written.{compact_text}
use Rattle.dsql_script_report.specs.Lines.{json_of}
use Rattle.dsql_script_spelling.specs.Spelling.{tokens_of}
use Rattle.dsql_script_spelling.proofs.Spelled.{written-text, written-utf8}
use Rattle.dsql_script_report.proofs.line.append_array.Goals as goal

pub returns-clause-ok : goal.returns-clause-ok
returns-clause-ok c =
    let d = json_of c.args.event.now in
    let w = c.write_event-written.new.json in
    let kept : w.before ≡ c.args.lines.now.items
    = c.write_event-written.ensures.1 ∙ c.new-json.ensures.before ∙ ap (λ v. v.items) c.replace.ensures.value in
    let text : w.tokens ≡ c.new-json.result.tokens ++ tokens_of d → c.into_inner.result.items ≡ c.args.lines.now.items ++ compact_text d
    = λ added. written-text d _ _ _ _ _ c.new-json.ensures.tokens added kept c.into_inner.ensures.items in
    on_ok_weaker c.write_event-written.result text c.write_event-written.ensures.0

pub returns-clause-utf8 : goal.returns-clause-utf8
returns-clause-utf8 c =
    let d = json_of c.args.event.now in
    let utf8 : c.write_event-written.new.json.tokens ≡ c.new-json.result.tokens ++ tokens_of d → IsUtf8 (compact_text d)
    = λ added. written-utf8 d _ _ c.new-json.ensures.tokens added c.into_inner.ensures.utf8 in
    on_ok_weaker c.write_event-written.result utf8 c.write_event-written.ensures.0
