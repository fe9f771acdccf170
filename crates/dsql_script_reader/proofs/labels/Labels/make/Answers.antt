use Rattle.std.proofs.Common.{◌≡◌, false, [], ◌∷◌, ◌++◌, map, is_some, sym, ap, ◌∙◌}
use Rattle.dsql_script_reader.specs.ScriptLabels.{made_label, kind_of}
use Rattle.dsql_script_reader.proofs.MadeLabels.{labels_with}
use Rattle.dsql_script_reader.proofs.labels.Labels.make.Goals as goal

pub returns-clause-made : goal.returns-clause-made
returns-clause-made c =
    let new : is_some (kind_of (map made_label c.self.inside.kinds.entries) c.args.label.now) ≡ false =
    ap (λ labels. is_some (kind_of labels c.args.label.now)) c.self.view_is ∙ sym c.has.ensures ∙ c.if-has.false
    in
    ap (map made_label) c.in_ok-insert.ensures.entries
    ∙ labels_with c.self.inside.kinds c.in_ok-from_str.field-0 c.args.kind c.args.label.now c.in_ok-from_str.ensures.ok new
    ∙ ap (λ labels. labels ++ (c.args.label.now, c.args.kind) ∷ []) c.self.view_is
