-- The statements of this driver: a few words, with a single space between each two.
use Rattle.std.specs.Prelude.{ℕ, ◌==◌, nat_lt, Bool, true, false, ◌&&◌, List, [], ◌∷◌, length, count_by, Option, Some, None, codes, if◌then◌else◌}
use Rattle.std.specs.List.{slice_split}
use Rattle.std.specs.Str.{bytes_eq}

-- A statement. Set gives a key a value, Add adds a value to a key's number, and Del deletes a key. Get asks for
-- a key's value, and ListKeys for the keys with a prefix.
pub data Statement : Type 0 where
  Set : (key value : List ℕ) → Statement
  Add : (key value : List ℕ) → Statement
  Del : (key : List ℕ) → Statement
  Get : (key : List ℕ) → Statement
  ListKeys : (prefix : List ℕ) → Statement

-- Returns the parts of a text between its spaces.
abbrev pub words_of : List ℕ → List (List ℕ)
words_of text = slice_split (λ b. b == 32) text

-- Is true if the part is a word: it isn't empty.
abbrev pub is_word : List ℕ → Bool
is_word part = nat_lt 0 (length part)

-- Returns the statement that a verb and one word are.
abbrev pub with_one_word : List ℕ → List ℕ → Option Statement
with_one_word verb word =
    if bytes_eq verb (codes "DEL") then Some (Del word)
    else (if bytes_eq verb (codes "GET") then Some (Get word)
    else (if bytes_eq verb (codes "LIST") then Some (ListKeys word) else None))

-- Returns the statement that a verb and two words are.
abbrev pub with_two_words : List ℕ → List ℕ → List ℕ → Option Statement
with_two_words verb key value =
    if bytes_eq verb (codes "SET") then Some (Set key value)
    else (if bytes_eq verb (codes "ADD") then Some (Add key value) else None)

-- Returns the statement that the parts are.
abbrev pub statement_of_parts : List (List ℕ) → Option Statement
statement_of_parts (verb ∷ word ∷ []) = if is_word word then with_one_word verb word else None
statement_of_parts (verb ∷ key ∷ value ∷ []) =
    if is_word key && is_word value then with_two_words verb key value else None
statement_of_parts _ = None

-- Returns the statement that a text is.
abbrev pub statement_of : List ℕ → Option Statement
statement_of text = statement_of_parts (words_of text)

-- Is true if the word stands for an input.
abbrev pub is_input : List ℕ → Bool
is_input word = bytes_eq word (codes "?")

-- Returns the words after a statement's verb.
abbrev pub words_in : Statement → List (List ℕ)
words_in (Set key value) = key ∷ value ∷ []
words_in (Add key value) = key ∷ value ∷ []
words_in (Del key) = key ∷ []
words_in (Get key) = key ∷ []
words_in (ListKeys prefix) = prefix ∷ []

-- Returns how many inputs a statement has.
abbrev pub inputs_of : Statement → ℕ
inputs_of statement = count_by is_input (words_in statement)

-- Is true if the statement asks for something, and so is for Query. Any other is for Exec.
abbrev pub is_query : Statement → Bool
is_query (Get key) = true
is_query (ListKeys prefix) = true
is_query _ = false
