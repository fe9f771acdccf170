-- The parameters of arguments have their names and values. The proof goes by induction on the list.
use Rattle.std.proofs.Common.{◌≡◌, List, [], ◌∷◌, ◌++◌, map, ap, refl}
use Rattle.dsql_value.specs.declared.arg.Named.{Named}
use Rattle.dsql_value.specs.declared.value.Param.{Param}
use Rattle.dsql_value.specs.Arguments.{arg_of, param_of, params_of}

pub same_names : (list : List Named) → map (λ (p : Param). p.name) (params_of list) ≡ map (λ (n : Named). n.name) list
same_names [] = refl
same_names (named ∷ rest) = ap (λ l. named.name ∷ l) (same_names rest)

pub same_values : (list : List Named) → map (λ (p : Param). p.value) (params_of list) ≡ map (λ (n : Named). arg_of n.arg) list
same_values [] = refl
same_values (named ∷ rest) = ap (λ l. arg_of named.arg ∷ l) (same_values rest)

pub params_of-append : (front back : List Named) → params_of (front ++ back) ≡ params_of front ++ params_of back
params_of-append [] back = refl
params_of-append (named ∷ front) back = ap (λ (l : List Param). param_of named ∷ l) (params_of-append front back)
