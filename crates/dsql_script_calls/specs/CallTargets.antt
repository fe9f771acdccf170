-- Defines the target that the words of a client's call name, and the label of rows or of a transaction that
-- they name.
use Rattle.std.specs.Prelude.{ℕ, ◌&&◌, Bool, false, List, [], ◌∷◌, Option, Some, None}
use Rattle.dsql_script_calls.specs.ScriptWords.{is_database, label_of, is_target, is_token}

-- Is true if these words are a call's target, and a token or nothing after it.
abbrev pub has_target : List ℕ → List (List ℕ) → Bool
has_target target [] = is_target target
has_target target (token ∷ []) = is_target target && is_token token
has_target target _ = false

-- Is true if these words name the database, without a token.
abbrev pub names_database : List ℕ → List (List ℕ) → Bool
names_database target [] = is_database target
names_database target _ = false

-- Returns the label that stands alone after a call's word, without an array. It is the label of rows or of a
-- transaction.
abbrev pub rows_of : List (List ℕ) → Option (List ℕ) → Option (List ℕ)
rows_of words (Some array) = None
rows_of (rows ∷ []) None = label_of rows
rows_of _ None = None
