use Rattle.std.proofs.Common.{◌≡◌, ◌∙◌, true, false, sym}
use Rattle.std.proofs.lemmas.Result.{on_ok_weaker}
use Rattle.dsql_engine_laws.specs.journal.Readers.{is_empty}
use Rattle.dsql_engine_laws.specs.history.Readers.Calls.{is_busy}
use Rattle.dsql_player_wires.specs.Seats.{seat}
use Rattle.dsql_player.proofs.Singles.{entry_steps, idle_steps}
use Rattle.dsql_player.proofs.Stepped.{flipped, wires_unheard}
use Rattle.dsql_player.proofs.single.step_client.Goals as goal

pub step_call-requires-clause-busy : goal.step_call-requires-clause-busy
step_call-requires-clause-busy g c = sym c.has_call.ensures ∙ c.if-has_call.true

pub enter_kept-requires-clause-free : goal.enter_kept-requires-clause-free
enter_kept-requires-clause-free g c = sym c.has_call.ensures ∙ c.if-has_call.false

pub enter_kept-requires-clause-kept : goal.enter_kept-requires-clause-kept
enter_kept-requires-clause-kept g c = flipped (is_empty (seat c.args.player.now.seats c.args.client).kept) true (sym c.has_kept.ensures ∙ c.if-has_kept.true)

pub returns-then-has_kept-clause-carries : goal.returns-then-has_kept-clause-carries
returns-then-has_kept-clause-carries g c =
    let free : is_busy c.args.client c.args.player.now.past ≡ false = sym c.has_call.ensures ∙ c.if-has_call.false in
    on_ok_weaker c.enter_kept.result (λ enters m at. entry_steps m c.args.player.now c.enter_kept.new.self c.args.client c.requires.ready.legal.lawful at free enters) c.enter_kept.ensures.enters

pub returns-then-has_kept-clause-run : goal.returns-then-has_kept-clause-run
returns-then-has_kept-clause-run g c = wires_unheard g.W.Wire.told c.enter_kept.result c.args.player.now c.enter_kept.new.self c.args.wires.now c.enter_kept.ensures.act

pub returns-else-has_kept-clause-carries : goal.returns-else-has_kept-clause-carries
returns-else-has_kept-clause-carries g c = λ m at.
    let free : is_busy c.args.client c.args.player.now.past ≡ false = sym c.has_call.ensures ∙ c.if-has_call.false in
    let none : is_empty (seat c.args.player.now.seats c.args.client).kept ≡ true = flipped (is_empty (seat c.args.player.now.seats c.args.client).kept) false (sym c.has_kept.ensures ∙ c.if-has_kept.false) in
    idle_steps m c.args.player.now c.args.client c.requires.ready.legal.lawful at free none
