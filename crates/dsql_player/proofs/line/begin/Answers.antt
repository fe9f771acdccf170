use Rattle.std.proofs.Common.{refl, arith}
use Rattle.std.proofs.lemmas.Result.{on_ok_weaker}
use Rattle.dsql_player.proofs.Lines.{begun_client, begun_control}
use Rattle.dsql_player.proofs.Stepped.{makes_none, skipped}
use Rattle.dsql_player.proofs.line.begin.Goals as goal

pub returns-in-Control-clause-begins : goal.returns-in-Control-clause-begins
returns-in-Control-clause-begins c =
    rw c.in-Control.is
    (on_ok_weaker c.control.result (λ tells m at. begun_control m c.in-Control.control c.args.player.now c.control.new.self at tells) c.control.ensures.tells)

pub returns-in-Client-clause-begins : goal.returns-in-Client-clause-begins
returns-in-Client-clause-begins c =
    rw c.in-Client.is (λ m at. begun_client m c.in-Client.client c.in-Client.op c.args.player.now c.admit.new.player c.in_ok-admit-in-Client.field-0 at (c.in_ok-admit-in-Client.ensures.admits m at))

pub returns-clause-begins : goal.returns-clause-begins
returns-clause-begins c = λ m at.
    skipped c.args.line m c.args.player.now c.requires.runs (λ control is. c.in_default.not-Control control is) (λ client op is. c.in_default.not-Client client op is) at

pub admit-requires-clause-names : goal.admit-requires-clause-names
admit-requires-clause-names c = rw c.in-Client.is at c.requires.names

pub returns-in-Control-clause-course : goal.returns-in-Control-clause-course
returns-in-Control-clause-course c = rw c.in-Control.is c.control.ensures.course

pub returns-in-Client-clause-course : goal.returns-in-Client-clause-course
returns-in-Client-clause-course c = rw c.in-Client.is c.in_ok-admit-in-Client.ensures.course

pub returns-clause-course : goal.returns-clause-course
returns-clause-course c = record {
  ended = refl;
  released = refl;
  named = λ label.
      let none = makes_none c.args.line c.requires.runs (λ client op is. c.in_default.not-Client client op is) label in
      omega (arith, none);
}
