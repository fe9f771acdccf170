-- Proves that `pin` appends a new number.
use Rattle.std.proofs.Common.{◌∷◌, [], ◌++◌, ap, ◌∙◌, eqb}
use Rattle.indexmap.proofs.CallerLemmas.{insert_entry-new}
use Rattle.dsql_value_numbered.specs.Numbered.{Numbered, was_made}
use Rattle.dsql_value_numbered.proofs.Changes.{not_made}
use Rattle.dsql_pin.specs.declared.pin.Pin.{Pin}
use Rattle.dsql_pin.specs.Pinned.{Pinned, pin_on}
use Rattle.dsql_pin.proofs.table.Pins.pin.Goals as goal

pub returns-clause-ok : goal.returns-clause-ok
returns-clause-ok c =
    let view = ap (λ (t : Pinned). t.pins) c.self.view_is in
    let new = pin_on c.args.conn in
    let none = not_made c.args.n c.self.inside.pins.entries (ap (λ (es : Numbered Pin). was_made c.args.n es) view ∙ c.requires) in
    c.in_ok-insert.ensures.entries
    ∙ (insert_entry-new eqb c.self.inside.pins c.args.n new none
    ∙ ap (λ (es : Numbered Pin). es ++ (c.args.n, new) ∷ []) view)
