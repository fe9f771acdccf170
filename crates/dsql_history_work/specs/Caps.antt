-- Defines the capabilities of drivers.
use Rattle.std.specs.Prelude.{true, false}
use Rattle.dsql_driver.specs.declared.caps.Caps.{Caps}

-- Returns the capabilities of a driver that can do nothing optional.
abbrev pub no_caps : Caps
no_caps =
    record {
      fast_exec = false;
      fast_query = false;
      begin_options = false;
      named = false;
      pinger = false;
      resetter = false;
      validator = false;
    }

-- Returns the capabilities of the driver in memory.
abbrev pub all_caps : Caps
all_caps =
    record {
      fast_exec = true;
      fast_query = true;
      begin_options = true;
      named = false;
      pinger = true;
      resetter = true;
      validator = true;
    }
