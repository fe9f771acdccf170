use Rattle.dsql_script_read_back.proofs.ReadBack.{argument_is_read_back, named_is_read_back, call_is_read_back}
use Rattle.dsql_script_read_back.proofs.spelled_arguments_are_read_back.Goals as goal

pub returns : goal.returns
returns c = record {
  argument = argument_is_read_back;
  named = λ named fits. named_is_read_back named.name named.arg fits;
  call = call_is_read_back;
}
