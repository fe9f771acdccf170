-- Proves that an array that holds one text alone is read as that text, if the text stands in it without
-- escapes. The argument goes by the tokens of the array.
use Rattle.std.proofs.Common.{◌≡◌, ℕ, List, [], ◌∷◌, ◌++◌, true, Option, Some, refl, ap, sym, ◌∙◌}
use Rattle.std.specs.Prelude.{option_and_then}
use Rattle.std.specs.List.{list_all}
use Rattle.std.proofs.lemmas.List.Sums.{AllPass-from_list_all}
use Rattle.json.specs.Run.{is_plain}
use Rattle.json.specs.Lex.{tokens}
use Rattle.json.specs.Token as token
use Rattle.json.specs.Json.{value, items, if_last}
use Rattle.json.specs.Print.{escape, print, print_from, ArePrintable}
use Rattle.json.proofs.Printed.Plain.{escape_on_plain}
use Rattle.json.proofs.Printed.Tokens.{tokens-print}
use Rattle.serde_json.specs.Data.{Data, array, string, item, no_items}
use Rattle.serde_json.specs.Read.{read, of_json, max_depth}

-- Returns the tokens of an array that holds this text alone.
abbrev lone : List ℕ → List token.Token
lone text = token.begin_array ∷ token.string text ∷ token.end_array ∷ []

plain_stays : (text : List ℕ) → list_all is_plain text ≡ true → escape text ≡ text
plain_stays text plain = escape_on_plain true text (λ k above before. AllPass-from_list_all is_plain text plain k 0 before)

lone_printable : (text : List ℕ) → ArePrintable (lone text)
unfolding ArePrintable
lone_printable text = (tt, (tt, (tt, tt)))

lone_printed : (text : List ℕ) → escape text ≡ text → print (lone text) ≡ 91 ∷ 34 ∷ ((text ++ 34 ∷ []) ++ 93 ∷ [])
unfolding print_from
lone_printed text stays = ap (λ t. 91 ∷ 34 ∷ ((t ++ 34 ∷ []) ++ 93 ∷ [])) stays

lone_tokens : (text : List ℕ) → list_all is_plain text ≡ true → tokens (91 ∷ 34 ∷ ((text ++ 34 ∷ []) ++ 93 ∷ [])) ≡ lone text
lone_tokens text plain = ap tokens (sym (lone_printed text (plain_stays text plain))) ∙ tokens-print (lone text) (lone_printable text)

-- Returns the data that these tokens are read as, if any.
abbrev read_of : List token.Token → Option Data
read_of ts = option_and_then of_json (option_and_then (λ p. if_last p.0 p.1) (value max_depth ts))

lone_read : (text : List ℕ) → read_of (lone text) ≡ Some (array (item (string text) no_items))
unfolding value items
lone_read text = refl

pub lone_is_read : (text : List ℕ) → list_all is_plain text ≡ true → read (91 ∷ 34 ∷ ((text ++ 34 ∷ []) ++ 93 ∷ [])) ≡ Some (array (item (string text) no_items))
lone_is_read text plain = ap read_of (lone_tokens text plain) ∙ lone_read text
