-- What the words of a statement stand for. Its inputs take the parameters in order, whatever their names.
use Rattle.std.specs.Prelude.{ℕ, List, [], ◌∷◌, drop, Option, Some, None, if◌then◌else◌}
use Rattle.std.specs.Option.{option_map_or}
use Rattle.dsql_value.specs.declared.value.Param.{Param}
use Rattle.dsql_value.specs.declared.value.Value.{Value}
use Rattle.dsql_value.specs.declared.value.Value.TheVariants.{Int, Text}
use Rattle.dsql_mem_session.specs.Number.{number_of}
use Rattle.dsql_mem_session.specs.Statement.{is_input}

-- Returns the value that a word is: the number that it spells, or otherwise its text.
abbrev pub value_of : List ℕ → Value
value_of word = option_map_or (λ z. Int z) (number_of word) (Text word)

-- Returns what a word stands for. An input stands for the next parameter's value, and another word for its own.
abbrev pub filled : Value → List ℕ → List Param → Value
filled own word [] = own
filled own word (param ∷ params) = if is_input word then param.value else own

-- Returns the parameters that are left for the words after this one.
abbrev pub left_after : List ℕ → List Param → List Param
left_after word params = if is_input word then drop 1 params else params

-- Returns the text that a value is, if it is one.
abbrev pub text_in : Value → Option (List ℕ)
text_in (Text text) = Some text
text_in _ = None

-- Returns the key that a word stands for, if that is a text.
abbrev pub key_for : List ℕ → List Param → Option (List ℕ)
key_for word params = text_in (filled (Text word) word params)

-- Returns the value that a word stands for.
abbrev pub value_for : List ℕ → List Param → Value
value_for word params = filled (value_of word) word params
