-- What the program keeps of the calls of a course, compared with the calls themselves.
use Rattle.std.specs.Prelude.{◌≡◌, ℕ, ℤ, Bool, true, false, Option, Some, None, List, [], ◌∷◌}
use Rattle.std.specs.List.{list_any}
use Rattle.dsql_course.specs.declared.call.Due.{Due}
use Rattle.dsql_course.specs.declared.call.Due.TheVariants as call
use Rattle.dsql_course.specs.declared.call.Got.TheVariants as got
use Rattle.dsql_course.specs.Made.{Exchange, went_bad, was_skipped, is_done, own_handle, own_cursor, rows_are_over}

abbrev pub last_call : List Exchange → Option Due
last_call [] = None
last_call (x ∷ earlier) = Some x.0

-- Is true if the answer settles the call's reply, whatever its course.
abbrev pub is_settled : Exchange → Bool
is_settled (call.Next rows, answer) = true
is_settled (_, got.Result) = true
is_settled (call.Text, got.Fail) = true
is_settled (call.Prepare, got.Fail) = true
is_settled (call.Handle handle, got.Fail) = true
is_settled _ = false

pub record Summary (made : List Exchange) (last : Option Due) (handle : Option (ℕ
    × ℤ)) (cursor : Option ℕ) (skipped done settled over bad : Bool) : Type 0 where
  pub is_last : last ≡ last_call made
  pub is_handle : handle ≡ own_handle made
  pub is_cursor : cursor ≡ own_cursor made
  pub is_skipped : skipped ≡ was_skipped made
  pub was_done : done ≡ list_any (λ x. is_done x.1) made
  pub was_settled : settled ≡ list_any is_settled made
  pub are_over : over ≡ rows_are_over made
  pub is_bad : bad ≡ went_bad made
