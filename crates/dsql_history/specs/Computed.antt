-- Defines the rules as computed tests of one event and of a whole history. Each is true exactly if the record
-- holds.
use Rattle.std.specs.Prelude.{Bool, true, not, ◌&&◌, ◌||◌, List, [], ◌∷◌}
use Rattle.dsql_history.specs.declared.event.Event.{Event}
use Rattle.dsql_history.specs.Readers.Course.{has_begun}
use Rattle.dsql_history.specs.Rules.Course.{keeps_course, is_from_outside}
use Rattle.dsql_history.specs.Rules.Numbers.{keeps_numbers}
use Rattle.dsql_history.specs.Rules.Moves.{keeps_sets}
use Rattle.dsql_history.specs.Rules.Limit.{keeps_limit}
use Rattle.dsql_history.specs.Rules.Asking.{keeps_asking}
use Rattle.dsql_history.specs.Rules.Order.{keeps_order}
use Rattle.dsql_history.specs.Rules.Causes.{keeps_causes}
use Rattle.dsql_history.specs.Rules.Line.{keeps_line}
use Rattle.dsql_history.specs.Rules.Journals.{keeps_journals}
use Rattle.dsql_history.specs.Rules.Replies.{keeps_replies}
use Rattle.dsql_history.specs.Rules.Settled.{is_settled_but}

abbrev pub is_allowed : List Event → Event → Bool
is_allowed before e =
    keeps_course before e
    && (keeps_numbers before e
    && (keeps_sets before e
    && (keeps_limit before e
    && (keeps_asking before e
    && (keeps_order before e
    && (keeps_causes before e
    && (keeps_line before e && (keeps_journals before e && keeps_replies before e))))))))

abbrev pub is_settled : List Event → Bool
is_settled before = is_settled_but 0 before

abbrev pub is_lawful : List Event → Bool
is_lawful [] = true
is_lawful (e ∷ before) = is_lawful before && is_allowed before e

abbrev pub is_calm : List Event → Bool
is_calm [] = true
is_calm (e ∷ before) = is_calm before && (not (is_from_outside e) || is_settled before)

-- Is true if the whole history is legal.
abbrev pub is_legal : List Event → Bool
is_legal history = has_begun history && (is_lawful history && (is_calm history && is_settled history))
