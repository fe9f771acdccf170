-- Each worked call holds by computation.
use Rattle.std.proofs.Common.{refl}
use Rattle.std.specs.Fmt.{digits}
use Rattle.dsql_mem.specs.Worked.{WorkedNumbers, WorkedTexts, WorkedHandles, WorkedQueries, WorkedTransactions}
use Rattle.dsql_mem.specs.WorkedPlans.{WorkedPlans}

pub worked_numbers : WorkedNumbers
unfolding digits
worked_numbers = record {
  minus_five = refl;
  minus_zero = refl;
  plus_seven = refl;
  leading_zero = refl;
  largest = refl;
  too_large = refl;
  smallest = refl;
}

pub worked_texts : WorkedTexts
unfolding digits
worked_texts = record {
  set_before_b = refl;
  set_at_b = refl;
  added = refl;
  added_to_none = refl;
  added_to_text = refl;
  text_added = refl;
  sum_too_large = refl;
  deleted = refl;
  deleted_is_not_there = refl;
  deleted_none = refl;
  input_for_value = refl;
  input_for_key = refl;
  input_of_query = refl;
  query = refl;
  list = refl;
  double_space = refl;
  third_word = refl;
  other_verb = refl;
}

pub worked_handles : WorkedHandles
unfolding digits
worked_handles = record {
  by_order = refl;
  closed = refl;
  grows = refl;
  wrong_way = refl;
  passed_on = refl;
  spent = refl;
}

pub worked_queries : WorkedQueries
unfolding digits
worked_queries = record {
  get = refl;
  list = refl;
  moment = refl;
  prepared = refl;
  refused = refl;
  spent = refl;
}

pub worked_transactions : WorkedTransactions
unfolding digits
worked_transactions = record {
  rolled_back = refl;
  committed = refl;
  begun_twice = refl;
  reset = refl;
}

pub worked_plans : WorkedPlans
unfolding digits
worked_plans = record {
  bad = refl;
  fail = refl;
  invalid = refl;
  bad_test = refl;
  failed_test = refl;
  invalid_ping = refl;
  replaced = refl;
  unfit = refl;
  replaced_on_wire = refl;
  told_behind = refl;
  too_late = refl;
  wanted = refl;
  not_written = refl;
  still_open = refl;
  refused = refl;
  failed = refl;
  invalid_connect = refl;
  other_wire = refl;
  taken = refl;
}
