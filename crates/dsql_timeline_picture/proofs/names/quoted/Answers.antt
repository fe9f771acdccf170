-- The parts of the line are those that the chain yields.
use Rattle.std.proofs.Common.{ℕ, ◌==◌, refl, rules, tests}
use Rattle.std.proofs.lemmas.Iterator.Consumers.{nth_from_yields_List}
use Rattle.std.proofs.lemmas.Iterator.Splits.{YieldsList-from_slice_split}
use Rattle.dsql_timeline_picture.proofs.Named.{now_of}
use Rattle.dsql_timeline_picture.proofs.names.quoted.Goals as goal

pub returns : goal.returns
returns c =
    now_of _ _ _ _ c.unwrap_or.ensures
    (nth_from_yields_List c.nth.result c.nth.new.self c.args.place c.nth.ensures.ran
    (YieldsList-from_slice_split _ (λ (byte : ℕ). byte == 34) c.args.line.now c.split.ensures.rest c.split.ensures.done c.split.ensures.closure (λ x r q k. search (rules, tests))))
    refl
