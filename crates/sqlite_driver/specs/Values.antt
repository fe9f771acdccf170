-- The layer's values as SQLite's, and SQLite's as the layer's.
use Rattle.std.specs.Prelude.{◌≡◌, ℕ, pos, List, [], ◌∷◌, map, IsUtf8, ⊤, if◌then◌else◌}
use Rattle.dsql_value.specs.declared.value.Param.{Param}
use Rattle.dsql_value.specs.declared.value.Value.{Value}
use Rattle.dsql_value.specs.declared.value.Value.TheVariants.{Nil, Int, Bool, Bytes, Text, Time}
use Rattle.sqlite_sql.specs.Spelling.{spelled}
use Rattle.sqlite_value.specs.declared.value.Value.{Value as SqlValue}
use Rattle.sqlite_value.specs.declared.value.Value.TheVariants as sql

-- Returns the value that a statement gets for a value of the layer. A truth is 1 or 0, and a moment is its number.
abbrev pub sql_value : Value → SqlValue
sql_value Nil = sql.Null
sql_value (Int n) = sql.Int n
sql_value (Bool b) = sql.Int (if b then pos 1 else pos 0)
sql_value (Bytes b) = sql.Blob b
sql_value (Text t) = sql.Text t
sql_value (Time moment) = sql.Int moment

-- Returns the values that a statement gets for parameters that stand in their places.
abbrev pub sql_values : List Param → List SqlValue
sql_values params = map (λ param. sql_value param.value) params

-- Holds if the value shows these bytes of a text: as a text, or as bytes if they are no UTF-8.
abbrev pub ShowsText : List ℕ → Value → Type 0
ShowsText text (Text t) = t ≡ text
ShowsText text (Bytes b) = (b ≡ text) × ¬ IsUtf8 text
ShowsText text _ = ⊥

-- Holds if the layer's value shows SQLite's value. A real is shown by the text that SQLite writes for it.
abbrev pub Shows : SqlValue → Value → Type 0
Shows sql.Null value = value ≡ Nil
Shows (sql.Int n) value = value ≡ Int n
Shows (sql.Real x) value = ShowsText (spelled x) value
Shows (sql.Text t) value = ShowsText t value
Shows (sql.Blob b) value = value ≡ Bytes b

-- Holds if the lists are as long as each other, and the relation holds in each place.
abbrev pub AllMatch : {A B : Type 0} → (A → B → Type 0) → List A → List B → Type 0
AllMatch R [] [] = ⊤
AllMatch R (x ∷ xs) (y ∷ ys) = R x y × AllMatch R xs ys
AllMatch R _ _ = ⊥

-- Holds if each value of the layer shows SQLite's value in its place.
abbrev pub ShowsRow : List SqlValue → List Value → Type 0
ShowsRow row values = AllMatch Shows row values

-- Holds if each row of the layer shows SQLite's row in its place.
abbrev pub ShowsRows : List (List SqlValue) → List (List Value) → Type 0
ShowsRows rows all = AllMatch ShowsRow rows all
