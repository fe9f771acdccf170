-- The bar ends at the first event that ends it.
use Rattle.std.proofs.Common.{◌≡◌, ◌+◌, ℕ, Option, length, ap, ◌∙◌, position, rules, tests, unwrap_or}
use Rattle.std.proofs.lemmas.Iterator.{YieldsList-from_slice}
use Rattle.std.proofs.lemmas.Iterator.Search.{position_from_yields_List}
use Rattle.dsql_history.specs.declared.event.Event.{Event}
use Rattle.dsql_timeline_picture.specs.Kinds.{ends}
use Rattle.dsql_timeline_picture.proofs.kinds.width.Goals as goal

pub returns : goal.returns
returns c =
    let later = c.args.later.now in
    let first : c.position-passed.result ≡ position (λ (other : Event). ends c.args.event.now other) later
    = position_from_yields_List (λ (other : Event). ends c.args.event.now other) _ _ c.position-passed.result c.position-passed.ensures.ran (YieldsList-from_slice later cc) (λ x b q k. search (rules, tests)) in
    ap (λ (n : ℕ). n + 1) (c.unwrap_or.ensures ∙ ap (λ (place : Option ℕ). unwrap_or place (length later)) first)
