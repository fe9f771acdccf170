use Rattle.std.proofs.Common.{◌≡◌, ◌++◌, take}
use Rattle.std.specs.List.{flat_map}
use Rattle.dsql_timeline_page.specs.Escape.{escaped_byte}
use Rattle.dsql_timeline_page.proofs.escape.append_escaped.Given as goal

abbrev pub invariant-loop-byte : goal.invariant-loop-byte
invariant-loop-byte l = l.page.items ≡ l.initial.page.items ++ flat_map escaped_byte (take l.byte-index l.text)
