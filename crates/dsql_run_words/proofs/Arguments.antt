-- The first of a program's arguments is its name. The argument is by whether there is one.
use Rattle.std.proofs.Common.{◌≡◌, [], Option, Some, None, drop, refl, sym, ◌∙◌}
use Rattle.std.proofs.lemmas.List.{nil_from_length}
use Rattle.std.specs.Vec.Iter.{into_iter_items, into_iter_len, into_iter_steps}
use Rattle.std.specs.declared.vec.IntoIter.{IntoIter}

-- An iterator at its end has no items.
pub none_left : {X Z : Type 0} (it : IntoIter X Z) → into_iter_len it ≡ 0 → into_iter_items it ≡ []
none_left it none = nil_from_length (into_iter_items it) (sym it.rest.ok.0 ∙ none)

pub after_name : {X Z : Type 0} (old new : IntoIter X Z) (name : Option X) → into_iter_steps old name new → drop 1 (into_iter_items old) ≡ into_iter_items new
after_name old new None steps = rw (none_left old steps.0, none_left new steps.1) refl
after_name old new (Some name) steps = rw steps.0 refl
