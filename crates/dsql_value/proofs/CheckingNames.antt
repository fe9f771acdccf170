-- The names of accepted arguments: the proofs go by cases on whether a name is there and whether it begins with
-- a letter.
use Rattle.std.proofs.Common.{◌≡◌, ℕ, Bool, true, false, not, List, ◌∙◌, ap, refl}
use Rattle.std.specs.Prelude.{Option, Some, None, All, IfSome, if◌then◌else◌}
use Rattle.std.specs.Option.{option_or}
use Rattle.std.proofs.lemmas.List.Elements.{All-weaker}
use Rattle.dsql_value.specs.declared.arg.Named.{Named}
use Rattle.dsql_value.specs.declared.arg.ArgFault.TheVariants as faults
use Rattle.dsql_value.specs.Arguments.{begins_with_letter, name_fault, value_fault, first_fault}
use Rattle.dsql_value.specs.ArgumentLaws.{IsAccepted}
use Rattle.dsql_value.proofs.Refusing.{option_or-none, all_accepted, none_refused}

lettered : (named_ok letter : Bool) (name : List ℕ)
    → (if not letter then Some (faults.BadName name) else (if not named_ok then Some (faults.NamedRefused name) else None)) ≡ None
    → letter ≡ true
lettered named_ok true name h = refl
lettered named_ok false name h = cc

-- A name that isn't refused begins with a letter.
pub name_is_lettered : (named_ok : Bool) (name : Option (List ℕ)) → name_fault named_ok name ≡ None → IfSome name (λ n. begins_with_letter n ≡ true)
name_is_lettered named_ok None h = tt
name_is_lettered named_ok (Some name) h = lettered named_ok (begins_with_letter name) name h

refused : (letter : Bool) (name : List ℕ)
    → (if not letter then Some (faults.BadName name) else Some (faults.NamedRefused name)) ≡ None
    → ⊥
refused true name h = cc
refused false name h = cc

-- A driver that takes no names gets none.
pub nameless_name : (name : Option (List ℕ)) → name_fault false name ≡ None → name ≡ None
nameless_name None h = refl
nameless_name (Some name) h = absurd (refused (begins_with_letter name) name h)

name_accepted : (named_ok : Bool) (named : Named) → IsAccepted named_ok named → name_fault named_ok named.name ≡ None
name_accepted named_ok named h = (option_or-none (name_fault named_ok named.name) (value_fault named.arg) h).0

pub all_nameless : (list : List Named) → first_fault false list ≡ None → All (λ n. n.name ≡ None) list
all_nameless list h =
    All-weaker (IsAccepted false) (λ (n : Named). n.name ≡ None) (λ n a. nameless_name n.name (name_accepted false n a)) list (all_accepted false list h)

pub all_lettered : (named_ok : Bool) (list : List Named) → first_fault named_ok list ≡ None
    → All (λ n. IfSome n.name (λ name. begins_with_letter name ≡ true)) list
all_lettered named_ok list h =
    All-weaker (IsAccepted named_ok) (λ (n : Named). IfSome n.name (λ name. begins_with_letter name ≡ true))
    (λ n a. name_is_lettered named_ok n.name (name_accepted named_ok n a)) list (all_accepted named_ok list h)

accepted_with_names : (named : Named) → IsAccepted false named → IsAccepted true named
accepted_with_names named h =
    let parts = option_or-none (name_fault false named.name) (value_fault named.arg) h in
    ap (λ (name : Option (List ℕ)). option_or (name_fault true name) (value_fault named.arg)) (nameless_name named.name parts.0)
    ∙ parts.1

-- A driver that takes names accepts what one without them accepts.
pub wider : (list : List Named) → first_fault false list ≡ None → first_fault true list ≡ None
wider list h =
    none_refused true list (All-weaker (IsAccepted false) (IsAccepted true) accepted_with_names list (all_accepted false list h))
