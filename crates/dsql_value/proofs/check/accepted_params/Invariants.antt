use Rattle.std.proofs.Common.{◌≡◌, map, take, drop}
use Rattle.dsql_value.specs.Arguments.{param_of, first_fault}
use Rattle.dsql_value.proofs.check.accepted_params.Given as goal

-- The parameters so far are those of the arguments so far, and the loop has passed no fault.
abbrev pub invariant-loop-named : goal.invariant-loop-named
invariant-loop-named l =
    (l.params.items ≡ map param_of (take l.named-index l.list))
    × (first_fault l.named_ok l.list ≡ first_fault l.named_ok (drop l.named-index l.list))
