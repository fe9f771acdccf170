-- The values that reach SQLite. It binds each as it is, since none is a real.
use Rattle.std.proofs.Common.{◌≡◌, List, [], ◌∷◌, map, ap, refl, ◌∙◌}
use Rattle.dsql_value.specs.declared.value.Param.{Param}
use Rattle.dsql_value.specs.declared.value.Value.{Value}
use Rattle.dsql_value.specs.declared.value.Value.TheVariants.{Nil}
use Rattle.sqlite.specs.Values.{bound, bound_value}
use Rattle.sqlite_value.specs.Value.{owned}
use Rattle.sqlite_value.specs.declared.value.ValueRef.{ValueRef}
use Rattle.sqlite_driver.specs.Values.{sql_value, sql_values}

-- A value of the layer is bound as it is.
bound-same : (value : Value) → bound_value (sql_value value) ≡ sql_value value
bound-same Nil = refl
bound-same _ = refl

bound-owned : (values : List ValueRef) → bound values ≡ map bound_value (map owned values)
bound-owned [] = refl
bound-owned (v ∷ values) = ap (λ rest. bound_value (owned v) ∷ rest) (bound-owned values)

bound-params : (params : List Param) → map bound_value (sql_values params) ≡ sql_values params
bound-params [] = refl
bound-params (p ∷ params) =
    ap (λ first. first ∷ map bound_value (sql_values params)) (bound-same p.value)
    ∙ ap (λ rest. sql_value p.value ∷ rest) (bound-params params)

-- Values that are those of parameters are bound as the parameters' values.
pub bound-values : (values : List ValueRef) (params : List Param) → map owned values ≡ sql_values params → bound values ≡ sql_values params
bound-values values params h = bound-owned values ∙ ap (map bound_value) h ∙ bound-params params
