use Rattle.std.proofs.Common.{refl}
use Rattle.dsql_hall.proofs.worked.worked_races.Goals as goal

pub returns : goal.returns
returns g = λ caps. record {
  in_order = refl;
  all = refl;
  left_out = refl;
  unanswered = refl;
  swapped = refl;
  twice = refl;
  busy = refl;
  invented = refl;
  last = refl;
  at_once = refl;
  too_soon = refl;
  limit_after = refl;
  first = refl;
  limited = refl;
  unlimited = refl;
  limits = refl;
  plans = refl;
}
