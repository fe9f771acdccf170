use Rattle.std.proofs.Common.{◌≡◌, false, Some, is_some, sym, ap, ◌∙◌}
use Rattle.std.specs.String.{string_bytes}
use Rattle.std.proofs.lemmas.Map.Text.{hash_map_updates_text}
use Rattle.indexmap.specs.IndexMap.{get_by_text}
use Rattle.dsql_engine_effects.proofs.Labelled.{labelled_put}
use Rattle.dsql_engine_effects.proofs.labels.put_label.Goals as goal

pub returns-in-Ok-clause-labels : goal.returns-in-Ok-clause-labels
returns-in-Ok-clause-labels c = λ other.
    let own = string_bytes c.args.label in
    let new : is_some (get_by_text c.args.labels.now own) ≡ false
    = ap (λ l. is_some (get_by_text c.args.labels.now l)) (sym c.as_str.ensures.value) ∙ sym c.contains_key.ensures ∙ c.if-not-contains_key.true in
    labelled_put (get_by_text c.args.labels.now) own other c.args.call _ new
    (hash_map_updates_text own c.args.labels.now c.insert.new.self (Some c.args.call) c.in-Ok.ensures.updates other)
