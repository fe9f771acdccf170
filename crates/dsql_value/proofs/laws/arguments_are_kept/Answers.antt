use Rattle.std.proofs.lemmas.List.{length-map}
use Rattle.dsql_value.specs.Arguments.{param_of}
use Rattle.dsql_value.proofs.Keeping.{same_names, same_values, params_of-append}
use Rattle.dsql_value.proofs.laws.arguments_are_kept.Goals as goal

pub returns : goal.returns
returns c = record {
  number = λ list. length-map list param_of;
  names = same_names;
  values = same_values;
  joined = params_of-append;
}
