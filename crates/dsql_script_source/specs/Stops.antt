-- Defines what stops a script, and the text that says it.
use Rattle.std.specs.Prelude.{ℕ, Bool, true, false, List, ◌++◌, Result, Ok, Err, codes, decimal}
use Rattle.dsql_script_forms.specs.Faults.{reason_of}
use Rattle.dsql_driver_stream.specs.declared.lines.ReadFault.{ReadFault}
use Rattle.dsql_driver_stream.specs.declared.lines.ReadFault.TheVariants.{Failed as NoRead, Memory as NoMemory}
use Rattle.dsql_script_source.specs.declared.stop.Stop.{Stop}
use Rattle.dsql_script_source.specs.declared.stop.Stop.TheVariants.{Read, Write, Memory, Refused, Full}

abbrev pub stop_text : Stop → List ℕ
stop_text Read = codes "read fault"
stop_text Write = codes "write fault"
stop_text Memory = codes "out of memory"
stop_text (Refused number fault) = codes "line " ++ decimal number ++ codes ": " ++ reason_of fault
stop_text Full = codes "too many events"

-- Returns why a run stops if no line can be read, because of this fault.
abbrev pub stop_of_read : ReadFault → Stop
stop_of_read NoRead = Read
stop_of_read NoMemory = Memory

abbrev pub is_read_fault : {A : Type 0} → Result A Stop → Bool
is_read_fault (Err Read) = true
is_read_fault _ = false

-- Is true if the result shows that no read of the script failed: the script was read to its end, or a line is
-- refused.
abbrev pub no_read_failed : Result Unit Stop → Bool
no_read_failed (Ok _) = true
no_read_failed (Err (Refused number fault)) = true
no_read_failed _ = false

-- Holds if this may stop a reader.
abbrev pub IsReadStop : Stop → Type 0
IsReadStop Write = ⊥
IsReadStop Full = ⊥
IsReadStop _ = Unit {0}
