-- Defines the word for each fault of scanning, and the parameters that a call runs with.
use Rattle.std.specs.Prelude.{List, [], Option, Some, None}
use Rattle.dsql_value.specs.declared.arg.Named.{Named}
use Rattle.dsql_value.specs.declared.arg.ArgFault.{ArgFault}
use Rattle.dsql_value.specs.declared.value.Param.{Param}
use Rattle.dsql_value.specs.Arguments.{params_of}
use Rattle.dsql_history_work.specs.declared.fault_word.FaultWord.{FaultWord}
use Rattle.dsql_history_work.specs.declared.fault_word.FaultWord.TheVariants.{FromNull, NotANumber, OutOfRange, NotABool, NotUtf8, Unsupported}
use Rattle.dsql_scan.specs.declared.fault.ScanFault.{ScanFault}
use Rattle.dsql_scan.specs.declared.fault.ScanFault.TheVariants as scans

-- Returns the word for a fault of scanning. There is none for lack of memory.
abbrev pub word_of : ScanFault → Option FaultWord
word_of (scans.FromNull dest) = Some FromNull
word_of scans.NotANumber = Some NotANumber
word_of scans.OutOfRange = Some OutOfRange
word_of scans.NotABool = Some NotABool
word_of scans.NotUtf8 = Some NotUtf8
word_of (scans.Unsupported from dest) = Some Unsupported
word_of scans.Memory = None

-- Returns the parameters that the arguments become, if none of them is refused.
abbrev pub accepted : Option ArgFault → List Named → List Param
accepted None args = params_of args
accepted (Some fault) args = []
