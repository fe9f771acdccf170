-- What the log of a wire holds.
use Rattle.std.specs.Prelude.{reverse}
use Rattle.dsql_driver.specs.Wires.{WireTold}
use Rattle.dsql_mem_plans.specs.declared.log.Log.{Log}

-- Returns what a wire with this log reports.
abbrev pub told_of : Log → WireTold
told_of log =
    record {
      number = log.number;
      calls = reverse log.heard.items;
      plans = log.plans.items;
      wanted = reverse log.wanted.items;
    }
