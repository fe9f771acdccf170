-- Defines the words for the destinations of a row, which form one word with commas between them.
use Rattle.std.specs.Prelude.{ℕ, ◌==◌, List, [], ◌∷◌, codes, if◌then◌else◌, Option, Some, None, option_and_then, option_map}
use Rattle.std.specs.List.{slice_split, join_by}
use Rattle.std.specs.Option.{option_or}
use Rattle.std.specs.Str.{bytes_eq}
use Rattle.dsql_scan.specs.declared.dest.Dest.{Dest}
use Rattle.dsql_scan.specs.declared.dest.Dest.TheVariants.{Text, Bytes, Bool, I8, I16, I32, I64, U8, U16, U32, U64, Time, Any, NullText, NullI64, NullI32, NullI16, NullU8, NullBool, NullTime}

abbrev pub dest_word : Dest → List ℕ
dest_word Text = codes "text"
dest_word Bytes = codes "bytes"
dest_word Bool = codes "bool"
dest_word I8 = codes "i8"
dest_word I16 = codes "i16"
dest_word I32 = codes "i32"
dest_word I64 = codes "i64"
dest_word U8 = codes "u8"
dest_word U16 = codes "u16"
dest_word U32 = codes "u32"
dest_word U64 = codes "u64"
dest_word Time = codes "time"
dest_word Any = codes "any"
dest_word NullText = codes "null:text"
dest_word NullI64 = codes "null:i64"
dest_word NullI32 = codes "null:i32"
dest_word NullI16 = codes "null:i16"
dest_word NullU8 = codes "null:u8"
dest_word NullBool = codes "null:bool"
dest_word NullTime = codes "null:time"

-- Returns the words of destinations in order, with a comma between each two.
abbrev pub dests_word : List Dest → List ℕ
dests_word dests = join_by dest_word (codes ",") dests

abbrev pub number_dest : List ℕ → Option Dest
number_dest word =
    if bytes_eq word (codes "i8") then Some I8
    else if bytes_eq word (codes "i16") then Some I16
    else if bytes_eq word (codes "i32") then Some I32
    else if bytes_eq word (codes "i64") then Some I64
    else if bytes_eq word (codes "u8") then Some U8
    else if bytes_eq word (codes "u16") then Some U16
    else if bytes_eq word (codes "u32") then Some U32
    else if bytes_eq word (codes "u64") then Some U64
    else None

abbrev pub other_dest : List ℕ → Option Dest
other_dest word =
    if bytes_eq word (codes "text") then Some Text
    else if bytes_eq word (codes "bytes") then Some Bytes
    else if bytes_eq word (codes "bool") then Some Bool
    else if bytes_eq word (codes "time") then Some Time
    else if bytes_eq word (codes "any") then Some Any
    else None

abbrev pub null_dest : List ℕ → Option Dest
null_dest word =
    if bytes_eq word (codes "null:text") then Some NullText
    else if bytes_eq word (codes "null:i64") then Some NullI64
    else if bytes_eq word (codes "null:i32") then Some NullI32
    else if bytes_eq word (codes "null:i16") then Some NullI16
    else if bytes_eq word (codes "null:u8") then Some NullU8
    else if bytes_eq word (codes "null:bool") then Some NullBool
    else if bytes_eq word (codes "null:time") then Some NullTime
    else None

-- Returns the destination that a word names, or `None`.
abbrev pub dest_of : List ℕ → Option Dest
dest_of word = option_or (number_dest word) (option_or (other_dest word) (null_dest word))

-- Returns the destinations that words name, or `None` if some word names none.
abbrev pub dests_of_words : List (List ℕ) → Option (List Dest)
dests_of_words [] = Some []
dests_of_words (word ∷ words) =
    option_and_then (λ dest. option_map (λ more. dest ∷ more) (dests_of_words words)) (dest_of word)

abbrev pub comma : ℕ
comma = 44

-- Returns the destinations that one word holds, or `None`.
abbrev pub dests_of : List ℕ → Option (List Dest)
dests_of word = dests_of_words (slice_split (λ byte. byte == comma) word)
