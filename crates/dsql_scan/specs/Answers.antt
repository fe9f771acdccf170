-- How the code's answer relates to the table: it is the table's answer, or there was no memory for that.
use Rattle.std.specs.Prelude.{◌≡◌, Bool, true, false, Ok, Err, MatchResult}
use Rattle.dsql_scan.specs.declared.cell.Cell.TheVariants as cells
use Rattle.dsql_scan.specs.declared.dest.Dest.{Dest}
use Rattle.dsql_scan.specs.declared.dest.Dest.TheVariants as dests
use Rattle.dsql_scan.specs.declared.fault.ScanFault.{ScanFault}
use Rattle.dsql_scan.specs.declared.fault.ScanFault.TheVariants as faults
use Rattle.dsql_scan.specs.Table.{Scan}

-- Is true if the answer has a text or bytes in it, which take memory.
abbrev pub takes_memory : Scan → Bool
takes_memory (Ok (cells.Text text)) = true
takes_memory (Ok (cells.Bytes bytes)) = true
takes_memory _ = false

-- Holds if the fault is want of memory and the table's answer takes memory, or if the fault is the table's.
abbrev pub IsFault : ScanFault → Scan → Type 0
IsFault faults.Memory answer = takes_memory answer ≡ true
IsFault fault answer = answer ≡ Err fault

-- Holds if a result is the table's answer, or there was no memory for the text or the bytes in that.
abbrev pub IsScan : Scan → Scan → Type 0
IsScan result answer = MatchResult result (λ cell. answer ≡ Ok cell) (λ fault. IsFault fault answer)

-- Is true if the destination's cells may have a text or bytes in them.
abbrev pub may_take_memory : Dest → Bool
may_take_memory dests.Text = true
may_take_memory dests.Bytes = true
may_take_memory dests.Any = true
may_take_memory dests.NullText = true
may_take_memory _ = false
