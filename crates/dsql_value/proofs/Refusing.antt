-- A list of arguments has the refusal of its first refused one. Both directions go by induction on the list.
use Rattle.std.proofs.Common.{◌≡◌, Bool, List, [], ◌∷◌, ◌++◌, ◌∙◌, ap, refl}
use Rattle.std.specs.Prelude.{Option, Some, None, All}
use Rattle.std.specs.Option.{option_or}
use Rattle.std.proofs.lemmas.List.Elements.{All-nil, All-cons, All-head, All-tail}
use Rattle.dsql_value.specs.declared.arg.Named.{Named}
use Rattle.dsql_value.specs.declared.arg.ArgFault.{ArgFault}
use Rattle.dsql_value.specs.Arguments.{arg_fault, first_fault}
use Rattle.dsql_value.specs.ArgumentLaws.{IsAccepted, IsFirstRefused}

-- If `option_or` of two options is `None`, both are `None`.
pub option_or-none : {X : Type 0} (p q : Option X) → option_or p q ≡ None → (p ≡ None) × (q ≡ None)
option_or-none None q h = (refl, h)
option_or-none (Some x) q h = cc

further : (named_ok : Bool) (named : Named) (rest : List Named) (fault : ArgFault)
    → arg_fault named_ok named ≡ None → IsFirstRefused named_ok rest fault → IsFirstRefused named_ok (named ∷ rest) fault
further named_ok named rest fault accepted found = record {
  before = named ∷ found.before;
  named = found.named;
  behind = found.behind;
  stands = ap (λ (l : List Named). named ∷ l) found.stands;
  accepted = All-cons (IsAccepted named_ok) named found.before accepted found.accepted;
  refused = found.refused;
}

at_the_head : (named_ok : Bool) (named : Named) (rest : List Named) (fault : ArgFault) (own : Option ArgFault)
    → arg_fault named_ok named ≡ own → option_or own (first_fault named_ok rest) ≡ Some fault
    → (first_fault named_ok rest ≡ Some fault → IsFirstRefused named_ok rest fault)
    → IsFirstRefused named_ok (named ∷ rest) fault
at_the_head named_ok named rest fault (Some x) own-is h found = record {
  before = [];
  named = named;
  behind = rest;
  stands = refl;
  accepted = All-nil (IsAccepted named_ok);
  refused = own-is ∙ h;
}
at_the_head named_ok named rest fault None own-is h found = further named_ok named rest fault own-is (found h)

-- A list that is refused has a first refused argument.
pub first_refused : (named_ok : Bool) (list : List Named) (fault : ArgFault) → first_fault named_ok list ≡ Some fault → IsFirstRefused named_ok list fault
first_refused named_ok [] fault h = cc
first_refused named_ok (named ∷ rest) fault h =
    at_the_head named_ok named rest fault (arg_fault named_ok named) refl h (first_refused named_ok rest fault)

-- A list without a refusal has accepted arguments alone.
pub all_accepted : (named_ok : Bool) (list : List Named) → first_fault named_ok list ≡ None → All (IsAccepted named_ok) list
all_accepted named_ok [] h = All-nil (IsAccepted named_ok)
all_accepted named_ok (named ∷ rest) h =
    let parts = option_or-none (arg_fault named_ok named) (first_fault named_ok rest) h in
    All-cons (IsAccepted named_ok) named rest parts.0 (all_accepted named_ok rest parts.1)

-- Accepted arguments in front of a list don't change its refusal.
pub accepted_in_front : (named_ok : Bool) (front back : List Named) → All (IsAccepted named_ok) front → first_fault named_ok (front ++ back) ≡ first_fault named_ok back
accepted_in_front named_ok [] back h = refl
accepted_in_front named_ok (named ∷ front) back h =
    let accepted : arg_fault named_ok named ≡ None = All-head (IsAccepted named_ok) named front h in
    ap (λ (own : Option ArgFault). option_or own (first_fault named_ok (front ++ back))) accepted
    ∙ accepted_in_front named_ok front back (All-tail (IsAccepted named_ok) named front h)

-- A list of accepted arguments has no refusal.
pub none_refused : (named_ok : Bool) (list : List Named) → All (IsAccepted named_ok) list → first_fault named_ok list ≡ None
none_refused named_ok [] h = refl
none_refused named_ok (named ∷ rest) h =
    ap (λ (own : Option ArgFault). option_or own (first_fault named_ok rest)) (All-head (IsAccepted named_ok) named rest h)
    ∙ none_refused named_ok rest (All-tail (IsAccepted named_ok) named rest h)

-- A list has the refusal of its first refused argument.
pub refused_at : (named_ok : Bool) (list : List Named) (fault : ArgFault) → IsFirstRefused named_ok list fault → first_fault named_ok list ≡ Some fault
refused_at named_ok list fault found =
    ap (first_fault named_ok) found.stands
    ∙ accepted_in_front named_ok found.before (found.named ∷ found.behind) found.accepted
    ∙ ap (λ (own : Option ArgFault). option_or own (first_fault named_ok found.behind)) found.refused
