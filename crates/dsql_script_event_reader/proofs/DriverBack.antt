-- Proves that driver calls and answers are read back as their lines show them. The argument has a case for each
-- kind.
use Rattle.std.proofs.Common.{◌≡◌, ℕ, List, All, Some, refl, arith}
use Rattle.std.proofs.Math.Facts.{sfits_widen}
use Rattle.dsql_history.specs.value.declared.value.Param.{Param}
use Rattle.dsql_history.specs.value.declared.value.Value.{Value}
use Rattle.dsql_history.specs.driver.declared.call.Level.{Level}
use Rattle.dsql_history.specs.driver.declared.call.Level.TheVariants as level
use Rattle.dsql_history.specs.driver.declared.call.Input.{Input}
use Rattle.dsql_history.specs.driver.declared.call.Input.TheVariants.{Text, Handle}
use Rattle.dsql_history.specs.driver.declared.call.DriverCall.{DriverCall}
use Rattle.dsql_history.specs.driver.declared.call.DriverCall.TheVariants.{Prepare, CloseStmt, Exec, Query, Next, CloseRows, Begin}
use Rattle.dsql_history.specs.driver.declared.answer.DriverAnswer.{DriverAnswer}
use Rattle.dsql_history.specs.driver.declared.answer.DriverAnswer.TheVariants as answer
use Rattle.dsql_script_spelling.specs.LineValues.{value_data, param_data, params_data, values_data, texts_data}
use Rattle.dsql_script_report.specs.LineCalls.{level_word, input_data, call_data, answer_data}
use Rattle.dsql_script_read_back.proofs.ReadNumbers.{i32_between, as_i64_signed}
use Rattle.dsql_script_read_back.proofs.ReadTexts.{IsRead, deeper}
use Rattle.dsql_script_event_reader.specs.DriverForms.{level_of, input_of, call_of, answer_of}
use Rattle.dsql_script_event_reader.specs.Values.{value_of, param_of}
use Rattle.dsql_script_event_reader.specs.Fits.{ValueFits, ParamFits, InputFits, CallFits, AnswerFits}
use Rattle.dsql_script_event_reader.proofs.MovesBack.{in_word}
use Rattle.dsql_script_event_reader.proofs.Spelled.{list_is_read, also, no_more, mapped_are_read, texts_are_read, number_spelled, integer_spelled, string_spelled, boolean_spelled}
use Rattle.dsql_script_event_reader.proofs.ValuesBack.{each_is_read_back, texts_are_read_back, value_is_read_back, value_is_read, param_is_read_back, param_is_read}

level_is_read_back : (l : Level) → level_of (level_word l) ≡ Some l
level_is_read_back level.Default = refl
level_is_read_back _ = refl

input_is_read_back : (i : Input) → InputFits i → input_of (input_data i) ≡ Some i
input_is_read_back (Text text) fits = refl
input_is_read_back (Handle handle) fits = rw (in_word handle fits) refl

pub call_is_read_back : (c : DriverCall) → CallFits c → call_of (call_data c) ≡ Some c
call_is_read_back (CloseStmt handle) fits = rw (in_word handle fits) refl
call_is_read_back (Exec input params) fits =
    rw (input_is_read_back input fits.0, each_is_read_back param_of param_data ParamFits param_is_read_back params fits.1) refl
call_is_read_back (Query input params) fits =
    rw (input_is_read_back input fits.0, each_is_read_back param_of param_data ParamFits param_is_read_back params fits.1) refl
call_is_read_back (Next rows) fits = rw (in_word rows fits) refl
call_is_read_back (CloseRows rows) fits = rw (in_word rows fits) refl
call_is_read_back (Begin level read_only) fits = rw (level_is_read_back level) refl
call_is_read_back _ fits = refl

pub answer_is_read_back : (a : DriverAnswer) → AnswerFits a → answer_of (answer_data a) ≡ Some a
answer_is_read_back (answer.Prepared handle inputs) fits = rw (in_word handle fits.0, as_i64_signed inputs (sfits_widen tt fits.1), i32_between inputs fits.1) refl
answer_is_read_back (answer.Result last affected) fits = rw (as_i64_signed last fits.0, as_i64_signed affected fits.1) refl
answer_is_read_back (answer.Cursor rows columns) fits = rw (in_word rows fits, texts_are_read_back columns) refl
answer_is_read_back (answer.Row values) fits = rw (each_is_read_back value_of value_data ValueFits value_is_read_back values fits) refl
answer_is_read_back _ fits = refl

-- The greatest depth at which they nest.

params_are_read : (params : List Param) → All ParamFits params → IsRead 3 (params_data params)
params_are_read params fit = list_is_read (mapped_are_read 2 param_data ParamFits param_is_read params fit)

input_is_read : (i : Input) → InputFits i → IsRead 3 (input_data i)
input_is_read (Text text) fits = string_spelled 3 text
input_is_read (Handle handle) fits = number_spelled 3 handle fits

pub call_is_read : (c : DriverCall) → CallFits c → IsRead 4 (call_data c)
call_is_read (Prepare text) fits = list_is_read (also (string_spelled 3 _) (also (string_spelled 3 text) no_more))
call_is_read (CloseStmt handle) fits = list_is_read (also (string_spelled 3 _) (also (number_spelled 3 handle fits) no_more))
call_is_read (Exec input params) fits = list_is_read (also (string_spelled 3 _) (also (input_is_read input fits.0) (also (params_are_read params fits.1) no_more)))
call_is_read (Query input params) fits = list_is_read (also (string_spelled 3 _) (also (input_is_read input fits.0) (also (params_are_read params fits.1) no_more)))
call_is_read (Next rows) fits = list_is_read (also (string_spelled 3 _) (also (number_spelled 3 rows fits) no_more))
call_is_read (CloseRows rows) fits = list_is_read (also (string_spelled 3 _) (also (number_spelled 3 rows fits) no_more))
call_is_read (Begin level read_only) fits = list_is_read (also (string_spelled 3 _) (also (string_spelled 3 _) (also (boolean_spelled 3 read_only) no_more)))
call_is_read _ fits = list_is_read (also (string_spelled 3 _) no_more)

values_are_read : (values : List Value) → All ValueFits values → IsRead 3 (values_data values)
values_are_read values fit = list_is_read (mapped_are_read 2 value_data ValueFits (λ v fits. deeper 1 2 (value_data v) (omega arith) (value_is_read v fits)) values fit)

columns_are_read : (columns : List (List ℕ)) → IsRead 3 (texts_data columns)
columns_are_read columns = list_is_read (texts_are_read 2 columns)

pub answer_is_read : (a : DriverAnswer) → AnswerFits a → IsRead 4 (answer_data a)
answer_is_read (answer.Prepared handle inputs) fits = list_is_read (also (string_spelled 3 _) (also (number_spelled 3 handle fits.0) (also (integer_spelled 3 inputs (sfits_widen tt fits.1)) no_more)))
answer_is_read (answer.Result last affected) fits = list_is_read (also (string_spelled 3 _) (also (integer_spelled 3 last fits.0) (also (integer_spelled 3 affected fits.1) no_more)))
answer_is_read (answer.Cursor rows columns) fits = list_is_read (also (string_spelled 3 _) (also (number_spelled 3 rows fits) (also (columns_are_read columns) no_more)))
answer_is_read (answer.Row values) fits = list_is_read (also (string_spelled 3 _) (also (values_are_read values fits) no_more))
answer_is_read (answer.Fail text) fits = list_is_read (also (string_spelled 3 _) (also (string_spelled 3 text) no_more))
answer_is_read _ fits = list_is_read (also (string_spelled 3 _) no_more)
