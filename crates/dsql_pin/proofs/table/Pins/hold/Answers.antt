-- Proves that `hold` changes the pin with that number in its place.
use Rattle.std.proofs.Common.{◌≡◌, ◌<◌, Option, Some, ap, sym, subst, ◌∙◌, eqb}
use Rattle.std.specs.Prelude.{IfSome}
use Rattle.std.specs.Map.{set_value}
use Rattle.dsql_value_numbered.specs.Numbered.{Numbered, thing_of, changed}
use Rattle.dsql_value_numbered.proofs.Changes.{set_value-changed}
use Rattle.dsql_pin.specs.declared.pin.Pin.{Pin}
use Rattle.dsql_pin.specs.Pinned.{Pinned, most_held, with_one_more}
use Rattle.dsql_pin.proofs.table.Pins.hold.Goals as goal

pub hold-requires : goal.hold-requires
hold-requires c =
    let view = ap (λ (t : Pinned). t.pins) c.self.view_is in
    let found : Some c.in-Some.pin.now ≡ thing_of c.args.n c.args.self.now.pins = c.in-Some.ensures.value ∙ ap (λ (es : Numbered Pin). thing_of c.args.n es) view in
    subst (λ (o : Option Pin). IfSome o (λ pin. pin.holds < most_held)) (sym found) c.requires.room

pub returns-clause-pins : goal.returns-clause-pins
returns-clause-pins c =
    let pins = c.self.inside.pins.entries in
    let view = ap (λ (t : Pinned). t.pins) c.self.view_is in
    (c.get_mut.follows.holds c.hold.new.self).0
    ∙ (ap (λ (pin : Pin). set_value (λ k. eqb c.args.n k) pins pin) c.hold.ensures
    ∙ (set_value-changed with_one_more c.args.n pins c.in-Some.pin.now (sym c.in-Some.ensures.value)
    ∙ ap (λ (es : Numbered Pin). changed with_one_more c.args.n es) view))
