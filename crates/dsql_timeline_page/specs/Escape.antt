-- Defines how a text is escaped, and how a reader of the page reads it back.
use Rattle.std.specs.Prelude.{ℕ, ◌==◌, nat_lt, Bool, true, not, ◌&&◌, ◌||◌, if◌then◌else◌, List, [], ◌∷◌, ◌++◌, codes, map, Option, Some, None}
use Rattle.std.specs.List.{flat_map}
use Rattle.std.specs.Str.{bytes_eq}

-- Is true if the byte is a control character of ASCII.
abbrev pub is_control : ℕ → Bool
is_control b = nat_lt b 32 || b == 127

-- Returns what is written for a byte of a text. It is an entity for a mark of HTML, a space for a control character,
-- and any other byte as it is.
abbrev pub escaped_byte : ℕ → List ℕ
escaped_byte b =
    if b == 38 then codes "&amp;"
    else (if b == 60 then codes "&lt;"
    else (if b == 62 then codes "&gt;"
    else (if b == 34 then codes "&quot;"
    else (if b == 39 then codes "&#39;"
    else (if is_control b then codes " "
    else b ∷ [])))))

-- Returns a text, escaped.
abbrev pub escaped : List ℕ → List ℕ
escaped text = flat_map escaped_byte text

-- Is true if the byte is no `<`, no `>`, no quote and no control character.
abbrev pub is_harmless : ℕ → Bool
is_harmless b = not (b == 60) && (not (b == 62) && (not (b == 34) && (not (b == 39) && not (is_control b))))

-- Returns the byte for which an entity stands, by its name.
abbrev pub entity : List ℕ → List ℕ
entity name =
    if bytes_eq name (codes "amp") then 38 ∷ []
    else (if bytes_eq name (codes "lt") then 60 ∷ []
    else (if bytes_eq name (codes "gt") then 62 ∷ []
    else (if bytes_eq name (codes "quot") then 34 ∷ []
    else (if bytes_eq name (codes "#39") then 39 ∷ []
    else []))))

-- Returns what a page shows of bytes. In an entity, these are the bytes of its name so far.
abbrev pub read_on : Option (List ℕ) → List ℕ → List ℕ
read_on None [] = []
read_on (Some name) [] = []
read_on None (b ∷ more) = if b == 38 then read_on (Some []) more else b ∷ read_on None more
read_on (Some name) (b ∷ more) =
    if b == 59 then entity name ++ read_on None more else read_on (Some (name ++ b ∷ [])) more

-- Returns what a page shows of bytes between two tags.
abbrev pub read_back : List ℕ → List ℕ
read_back bytes = read_on None bytes

-- Returns what a page shows for a byte of a text.
abbrev pub shown_byte : ℕ → ℕ
shown_byte b = if is_control b then 32 else b

-- Returns what a page shows of a text: the text, with a space for each control character.
abbrev pub shown : List ℕ → List ℕ
shown text = map shown_byte text
