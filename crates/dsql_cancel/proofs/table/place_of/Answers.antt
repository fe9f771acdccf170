use Rattle.std.proofs.Common.{rules}
use Rattle.std.proofs.lemmas.Fn.{always_returns_same}
use Rattle.dsql_cancel.specs.Registry.{byte_order}
use Rattle.dsql_cancel.proofs.Search.{searched}
use Rattle.dsql_cancel.proofs.table.place_of.Goals as goal

-- The closure compares an entry's name with this one.
pub returns : goal.returns
returns c =
    let facts = c.binary_search_by.ensures in
    let ranks = facts.position (λ e. byte_order e.0 c.as_str-name.result.now) (always_returns_same _ _ _ (λ a r g called. (search rules, search rules))) in
    rw (← c.as_str-name.ensures) (searched c.as_str-name.result.now c.args.table.now c.requires _ facts.bound ranks)
