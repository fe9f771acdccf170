use Rattle.std.proofs.Common.{◌≡◌, ap, ◌∙◌}
use Rattle.dsql_driver.specs.declared.wire.Answered.{Answered}
use Rattle.dsql_mem_calls.specs.Effect.{effect_unless}
use Rattle.dsql_mem.specs.Wire.{WireState, after_call}
use Rattle.dsql_mem.proofs.WireLemmas.{changed_by_parts}
use Rattle.dsql_mem.proofs.connection.Connection.hear.Goals as goal

pub returns-clause-ok : goal.returns-clause-ok
returns-clause-ok c =
    let before : WireState = record { session = c.self.inside.session; told = c.self.inside.log.told; planned = c.self.inside.log.planned; faults = c.self.inside.log.faults } in
    let answered : c.in_ok-answered.answered.answer ≡ (effect_unless c.in_ok-fault.fault c.args.store.now c.self.inside.session c.args.call.now).answer = ap (λ (k : Answered). k.answer) c.in_ok-answered.ensures.answer in
    changed_by_parts c.args.store.now c.args.call.now before c.in_ok-fault.fault
    c.step_unless.new.session c.note.new.self c.in_ok-answered.answered.answer
    c.in_ok-fault.ensures.fault c.in_ok-answered.ensures.session answered c.note.ensures.log
    ∙ ap (λ w. after_call c.args.store.now w c.args.call.now) c.self.view_is
