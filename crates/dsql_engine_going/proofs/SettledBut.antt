-- If all is settled, all is settled except for any one call.
use Rattle.std.proofs.Common.{◌≡◌, ℕ, true, ◌&&◌, List}
use Rattle.dsql_laws_calls.specs.history.declared.event.Event.{Event}
use Rattle.dsql_laws_calls.specs.history.Readers.Unfinished.{unfinished}
use Rattle.dsql_laws_calls.specs.history.Rules.Settled.{Settled, calls_stand, calls_stand_but, is_settled_but, owes_nothing, uses_what_is_lent}
use Rattle.dsql_laws_calls.specs.history.Legal.{Lawful}
use Rattle.dsql_laws_calls.proofs.laws.Numbered.{unfinished_from_one}
use Rattle.dsql_laws_calls.proofs.laws.Tests.{together}
use Rattle.dsql_laws_others.proofs.Settling.{each_stands}

pub goes_on_any : (H : List Event) (n : ℕ) → Lawful H → calls_stand H ≡ true → calls_stand_but n H ≡ true
goes_on_any H n l h = each_stands 0 n (unfinished H) H H (λ m u apart was. was (unfinished_from_one H m l u)) h

pub settled_but : (H : List Event) (n : ℕ) → Lawful H → Settled H → is_settled_but n H ≡ true
settled_but H n l settled =
    together (owes_nothing H) (uses_what_is_lent H && calls_stand_but n H) settled.nothing_owed
    (together (uses_what_is_lent H) (calls_stand_but n H) settled.used (goes_on_any H n l settled.somewhere))
