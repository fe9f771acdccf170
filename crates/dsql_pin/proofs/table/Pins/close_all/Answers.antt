-- Proves that `close_all` ends one pin after another in its place.
use Rattle.std.proofs.Common.{length, slice_get, ap, sym, ◌∙◌, arith}
use Rattle.std.specs.Map.{values_of}
use Rattle.indexmap.specs.IndexMap.{set_value_at}
use Rattle.dsql_value_numbered.specs.Numbered.{Numbered, all_changed}
use Rattle.dsql_value_numbered.proofs.EachThing.{length-changed_before, changed_before-end, changed_before-next}
use Rattle.dsql_pin.specs.declared.pin.Pin.{Pin}
use Rattle.dsql_pin.specs.declared.end.PinEnd.TheVariants.{EndOfRun}
use Rattle.dsql_pin.specs.Pinned.{Pinned, ended_by}
use Rattle.dsql_pin.proofs.table.Pins.close_all.Goals as goal

pub index_mut-requires : goal.index_mut-requires
index_mut-requires c =
    omega (arith, ap length c.loop-index.invariant.0, length-changed_before (ended_by EndOfRun) c.loop-index.index c.self.inside.pins.entries)

pub loop-index-preserved : goal.loop-index-preserved
loop-index-preserved c =
    let index = c.loop-index.index in
    let old = c.self.inside.pins.entries in
    let now = c.loop-index.invariant.0 in (
      ap (λ (pin : Pin). set_value_at c.loop-index.self-inside.pins.entries index pin) c.close.ensures.pin
          ∙ (ap (λ (es : Numbered Pin). set_value_at es index (ended_by EndOfRun c.index_mut.result.now)) now
          ∙ changed_before-next (ended_by EndOfRun) index old c.index_mut.result.now (ap (λ (es : Numbered Pin). slice_get (values_of es) index) (sym now) ∙ c.index_mut.ensures.value)),
      c.loop-index.invariant.1,
    )

pub returns-clause-pins : goal.returns-clause-pins
returns-clause-pins c =
    c.loop-index.invariant.0
    ∙ (changed_before-end (ended_by EndOfRun) c.loop-index.index c.self.inside.pins.entries (omega arith)
    ∙ ap (λ (t : Pinned). all_changed (ended_by EndOfRun) t.pins) c.self.view_is)
