use Rattle.dsql_value.proofs.Refusing.{first_refused, refused_at, all_accepted, none_refused}
use Rattle.dsql_value.proofs.laws.the_first_refused_is_told.Goals as goal

pub returns : goal.returns
returns c = record {
  first = λ named_ok list fault. (first_refused named_ok list fault, refused_at named_ok list fault);
  none = λ named_ok list. (all_accepted named_ok list, none_refused named_ok list);
}
