-- Proves that items other than a single one hold no lone text. The argument counts the items.
use Rattle.std.proofs.Common.{◌≡◌, ◌≢◌, List, [], ◌∷◌, length, None, refl}
use Rattle.serde_json.specs.View.{items_view}
use Rattle.serde_json.specs.declared.value.Value.{Value}
use Rattle.dsql_script_calls.specs.ScriptTexts.{only_item}

pub only_item_of_others : (items : List Value) → length items ≢ 1 → only_item (items_view items) ≡ None
only_item_of_others [] other = refl
only_item_of_others (item ∷ []) other = absurd (other refl)
only_item_of_others (item ∷ more ∷ items) other = refl
