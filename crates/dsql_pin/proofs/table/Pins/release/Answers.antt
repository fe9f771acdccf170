-- Proves that `release` changes the pin with that number in its place.
use Rattle.std.proofs.Common.{◌≡◌, ◌<◌, Option, Some, ap, sym, subst, ◌∙◌, eqb}
use Rattle.std.specs.Prelude.{IfSome}
use Rattle.std.specs.Map.{set_value}
use Rattle.dsql_value_numbered.specs.Numbered.{Numbered, thing_of, changed}
use Rattle.dsql_value_numbered.proofs.Changes.{set_value-changed}
use Rattle.dsql_pin.specs.declared.pin.Pin.{Pin}
use Rattle.dsql_pin.specs.Pinned.{Pinned, with_one_fewer}
use Rattle.dsql_pin.proofs.table.Pins.release.Goals as goal

pub release-requires : goal.release-requires
release-requires c =
    let view = ap (λ (t : Pinned). t.pins) c.self.view_is in
    let found : Some c.in-Some.pin.now ≡ thing_of c.args.n c.args.self.now.pins = c.in-Some.ensures.value ∙ ap (λ (es : Numbered Pin). thing_of c.args.n es) view in
    subst (λ (o : Option Pin). IfSome o (λ pin. 0 < pin.holds)) (sym found) c.requires.some

pub returns-clause-pins : goal.returns-clause-pins
returns-clause-pins c =
    let pins = c.self.inside.pins.entries in
    let view = ap (λ (t : Pinned). t.pins) c.self.view_is in
    (c.get_mut.follows.holds c.release.new.self).0
    ∙ (ap (λ (pin : Pin). set_value (λ k. eqb c.args.n k) pins pin) c.release.ensures
    ∙ (set_value-changed with_one_fewer c.args.n pins c.in-Some.pin.now (sym c.in-Some.ensures.value)
    ∙ ap (λ (es : Numbered Pin). changed with_one_fewer c.args.n es) view))
