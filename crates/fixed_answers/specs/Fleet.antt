-- What the driver can do.
use Rattle.std.specs.Prelude.{true, false}
use Rattle.dsql_driver.specs.declared.caps.Caps.{Caps}

-- The driver executes and queries a text at once, and can do nothing else.
abbrev pub own_caps : Caps
own_caps =
    record {
      fast_exec = true;
      fast_query = true;
      begin_options = false;
      named = false;
      pinger = false;
      resetter = false;
      validator = false;
    }
