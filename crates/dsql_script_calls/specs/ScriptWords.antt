-- Defines the words of a script's line and what each may name, and the array that ends the line.
use Rattle.std.specs.Prelude.{ℕ, ◌^◌, ℤ, pos, neg_ℤ, ◌==◌, ◌&&◌, ◌||◌, Bool, false, not, nat_eq, nat_lt, nat_le, List, [], ◌∷◌, length, drop, codes, if◌then◌else◌, Option, Some, None}
use Rattle.std.specs.Char.{is_ascii_digit, is_ascii_lowercase}
use Rattle.std.specs.List.{list_all, slice_split, starts_with}
use Rattle.std.specs.Str.{all_ascii_digits, bytes_eq}
use Rattle.std.specs.Str.Parse.{digits_value}
use Rattle.dsql_script_calls.specs.declared.words.TheConstants.{CLIENTS, MAX_NAME_REST}

abbrev pub space : ℕ
space = 32

abbrev pub begins_with : List ℕ → List ℕ → Bool
begins_with text front = starts_with nat_eq text front

-- Returns the part of the line before the first space that a bracket follows, or the whole line if there is
-- none.
abbrev pub before_array : List ℕ → List ℕ
before_array [] = []
before_array (byte ∷ rest) = if begins_with (byte ∷ rest) (codes " [") then [] else byte ∷ before_array rest

-- Returns the array of the line, which follows that space, if there is one.
abbrev pub array_of : List ℕ → Option (List ℕ)
array_of [] = None
array_of (byte ∷ rest) = if begins_with (byte ∷ rest) (codes " [") then Some rest else array_of rest

-- Returns the words of a text, which single spaces separate.
abbrev pub spaced_words : List ℕ → List (List ℕ)
spaced_words text = slice_split (λ byte. byte == space) text

abbrev pub words_of : List ℕ → List (List ℕ)
words_of text = spaced_words (before_array text)

-- Is true if these bytes are decimal digits without a leading zero.
abbrev pub is_number : List ℕ → Bool
is_number digits =
    all_ascii_digits digits && nat_lt 0 (length digits) && (length digits == 1 || not (begins_with digits (codes "0")))

-- Returns the number that these digits are, if it fits an i64. In `below_zero` the digits stand after a minus,
-- and the number isn't 0.
abbrev pub from_zero : List ℕ → Option ℤ
from_zero digits =
    let n = digits_value 10 digits in
    if is_number digits && nat_lt n (2 ^ 63) then Some (pos n) else None

abbrev pub below_zero : List ℕ → Option ℤ
below_zero digits =
    let n = digits_value 10 digits in
    if is_number digits && nat_le 1 n && nat_le n (2 ^ 63) then Some (neg_ℤ (pos n)) else None

-- Returns the number of a limit that a word is, if it fits an i64.
abbrev pub limit_of : List ℕ → Option ℤ
limit_of word = if begins_with word (codes "-") then below_zero (drop 1 word) else from_zero word

-- Returns the moment that a word is, if it fits a u64.
abbrev pub moment_of : List ℕ → Option ℕ
moment_of word =
    let now = digits_value 10 word in
    if is_number word && nat_lt now (2 ^ 64) then Some now else None

-- Returns the number of a connection, or of one of its driver calls, that a word is. It is at least 1 and fits
-- a u32.
abbrev pub ordinal_of : List ℕ → Option ℕ
ordinal_of word =
    let n = digits_value 10 word in
    if is_number word && nat_le 1 n && nat_lt n (2 ^ 32) then Some n else None

-- Returns the number of clients.
abbrev pub most_clients : ℕ
most_clients = CLIENTS

-- Returns the client whose number these digits are. Clients are numbered from 1 to `most_clients`.
abbrev pub client_number : List ℕ → Option ℕ
client_number digits =
    let client = digits_value 10 digits in
    if is_number digits && nat_le 1 client && nat_le client most_clients then Some client else None

-- Returns the client that a word names by `c` and its number.
abbrev pub client_of : List ℕ → Option ℕ
client_of word = if begins_with word (codes "c") then client_number (drop 1 word) else None

-- Is true if the byte is one of `a` to `z`, one of `0` to `9`, or `_`.
abbrev pub is_name_byte : ℕ → Bool
is_name_byte byte = is_ascii_lowercase byte || is_ascii_digit byte || byte == 95

abbrev pub is_database : List ℕ → Bool
is_database word = bytes_eq word (codes "db")

-- Returns the most bytes that a name may have after its first.
abbrev pub most_name_rest : ℕ
most_name_rest = MAX_NAME_REST

-- Is true if a word may name a label or a token. It is a lower-case letter and at most `most_name_rest` name
-- bytes, and isn't the database's word.
abbrev pub is_name : List ℕ → Bool
is_name [] = false
is_name (first ∷ rest) =
    is_ascii_lowercase first && nat_le (length rest) most_name_rest && list_all is_name_byte rest
    && not (is_database (first ∷ rest))

-- Returns the label that a word is, if it is a name.
abbrev pub label_of : List ℕ → Option (List ℕ)
label_of word = if is_name word then Some word else None

-- Is true if a word may be the target of a call: the database's word or a label.
abbrev pub is_target : List ℕ → Bool
is_target word = is_database word || is_name word

-- Is true if a word is `@` and the name of a token.
abbrev pub is_token : List ℕ → Bool
is_token word = begins_with word (codes "@") && is_name (drop 1 word)
