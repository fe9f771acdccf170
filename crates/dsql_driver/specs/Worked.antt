-- Worked answers, each with whether it fits its call.
use Rattle.std.specs.Prelude.{◌≡◌, true, false, negsuc, []}
use Rattle.dsql_driver.specs.declared.call.DriverCall.TheVariants.{Connect, Valid, Ping, Prepare, Exec, Next}
use Rattle.dsql_driver.specs.declared.call.Input.TheVariants as input
use Rattle.dsql_driver.specs.declared.answer.DriverAnswer.TheVariants.{Done, Prepared, End, Invalid, Skip, Bad, Memory}
use Rattle.dsql_driver.specs.Fits.{fits_of}

pub record WorkedFits : Type 0 where
  pub done_ping : fits_of Ping Done ≡ true
  pub bad_ping : fits_of Ping Bad ≡ true
  pub invalid_ping : fits_of Ping Invalid ≡ false
  pub invalid_test : fits_of Valid Invalid ≡ true
  pub bad_test : fits_of Valid Bad ≡ false
  pub test_without_memory : fits_of Valid Memory ≡ true
  pub end_of_rows : fits_of (Next 1) End ≡ true
  pub done_next : fits_of (Next 1) Done ≡ false
  pub prepared_connect : fits_of Connect (Prepared 1 (negsuc 0)) ≡ false
  pub any_inputs : fits_of (Prepare []) (Prepared 1 (negsuc 0)) ≡ true
  pub fewer_inputs : fits_of (Prepare []) (Prepared 1 (negsuc 1)) ≡ false
  pub skipped_text : fits_of (Exec (input.Text []) []) Skip ≡ true
  pub skipped_handle : fits_of (Exec (input.Handle 1) []) Skip ≡ false
