-- Defines the names of what a driver can do.
use Rattle.std.specs.Prelude.{ℕ, List, [], ◌∷◌, ◌++◌, Bool, true, false, codes}
use Rattle.dsql_driver.specs.declared.caps.Caps.{Caps}

-- Returns the name alone if it is to be given, and no name otherwise.
abbrev pub name_if : Bool → List ℕ → List (List ℕ)
name_if true name = name ∷ []
name_if false name = []

-- Returns the names of what a driver can do, always in this order.
abbrev pub caps_names : Caps → List (List ℕ)
caps_names c =
    name_if c.fast_exec (codes "fast_exec") ++ name_if c.fast_query (codes "fast_query")
    ++ name_if c.begin_options (codes "begin_options")
    ++ name_if c.named (codes "named") ++ name_if c.pinger (codes "pinger")
    ++ name_if c.resetter (codes "resetter") ++ name_if c.validator (codes "validator")
