use Rattle.std.proofs.Common.{◌≡◌, Some, None, sym, ap, ◌∙◌}
use Rattle.std.specs.Option.{option_copied}
use Rattle.dsql_script_reader.specs.ScriptLabels.{kind_of, stands_for}
use Rattle.dsql_script_reader.proofs.MadeLabels.{kind_of_entries}
use Rattle.dsql_script_reader.proofs.labels.Labels.stands_for.Goals as goal

pub returns-in-Some : goal.returns-in-Some
returns-in-Some c =
    let there : kind_of c.args.self.now c.args.label.now ≡ Some c.in-Some.made.now =
    ap (λ labels. kind_of labels c.args.label.now) (sym c.self.view_is)
    ∙ kind_of_entries c.self.inside.kinds.entries c.args.label.now
    ∙ sym c.get.ensures.value
    ∙ ap option_copied c.in-Some.is
    in
    c.is.ensures ∙ ap (stands_for c.args.kind) (sym there)

pub returns-in-None : goal.returns-in-None
returns-in-None c =
    let there : kind_of c.args.self.now c.args.label.now ≡ None =
    ap (λ labels. kind_of labels c.args.label.now) (sym c.self.view_is)
    ∙ kind_of_entries c.self.inside.kinds.entries c.args.label.now
    ∙ sym c.get.ensures.value
    ∙ ap option_copied c.in-None.is
    in
    ap (stands_for c.args.kind) (sym there)
