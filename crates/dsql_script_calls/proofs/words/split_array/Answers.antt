use Rattle.std.proofs.Common.{sym, refl, arith, add-one}
use Rattle.dsql_script_calls.proofs.ScriptArrays.{before_array-at, array_of-at, before_array_none, array_of_none}
use Rattle.dsql_script_calls.proofs.words.split_array.Goals as goal

pub returns-in-Some-clause-before : goal.returns-in-Some-clause-before
returns-in-Some-clause-before c =
    let found = c.in-Some.ensures.cases.1 in
    let before = before_array-at c.args.text.now c.in-Some.space _ found.0 found.1.split in
    rw before (grind arith)

pub returns-in-Some-clause-array : goal.returns-in-Some-clause-array
returns-in-Some-clause-array c =
    let found = c.in-Some.ensures.cases.1 in
    let array = array_of-at c.args.text.now c.in-Some.space _ found.0 found.1.split in
    rw (array, c.range_from.ensures.value, add-one) refl

pub returns-in-None-clause-before : goal.returns-in-None-clause-before
returns-in-None-clause-before c = sym (before_array_none c.args.text.now c.in-None.ensures.cases)

pub returns-in-None-clause-array : goal.returns-in-None-clause-array
returns-in-None-clause-array c = sym (array_of_none c.args.text.now c.in-None.ensures.cases)
