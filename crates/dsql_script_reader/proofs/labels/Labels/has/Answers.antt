use Rattle.std.proofs.Common.{is_some, sym, ap, ◌∙◌}
use Rattle.dsql_script_reader.specs.ScriptLabels.{kind_of}
use Rattle.dsql_script_reader.proofs.MadeLabels.{kind_of_entries}
use Rattle.dsql_script_reader.proofs.labels.Labels.has.Goals as goal

pub returns : goal.returns
returns c =
    c.contains_key.ensures
    ∙ ap is_some (sym (kind_of_entries c.self.inside.kinds.entries c.args.label.now))
    ∙ ap (λ labels. is_some (kind_of labels c.args.label.now)) c.self.view_is
