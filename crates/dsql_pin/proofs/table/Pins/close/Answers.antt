-- Proves that `close` ends the pin with that number in its place.
use Rattle.std.proofs.Common.{ap, sym, ◌∙◌, eqb}
use Rattle.std.specs.Map.{set_value}
use Rattle.dsql_value_numbered.specs.Numbered.{Numbered, changed}
use Rattle.dsql_value_numbered.proofs.Changes.{set_value-changed}
use Rattle.dsql_pin.specs.declared.pin.Pin.{Pin}
use Rattle.dsql_pin.specs.Pinned.{Pinned, ended_by}
use Rattle.dsql_pin.proofs.table.Pins.close.Goals as goal

pub returns-clause-pins : goal.returns-clause-pins
returns-clause-pins c =
    let pins = c.self.inside.pins.entries in
    let view = ap (λ (t : Pinned). t.pins) c.self.view_is in
    (c.get_mut.follows.holds c.close.new.self).0
    ∙ (ap (λ (pin : Pin). set_value (λ k. eqb c.args.n k) pins pin) c.close.ensures.pin
    ∙ (set_value-changed (ended_by c.args.by) c.args.n pins c.in-Some.pin.now (sym c.in-Some.ensures.value)
    ∙ ap (λ (es : Numbered Pin). changed (ended_by c.args.by) c.args.n es) view))
