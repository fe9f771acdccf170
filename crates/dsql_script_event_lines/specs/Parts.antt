-- Defines what stands at a place of an array. Places are counted from 0.
use Rattle.std.specs.Prelude.{ℕ, ℤ, pos, negsuc, nat_le, Bool, List, [], ◌∷◌, if◌then◌else◌, Option, Some, None, option_map, option_and_then}
use Rattle.serde_json.specs.Data.{Data, Items, no_items, item}
use Rattle.serde_json.specs.Find.{at, as_number, as_u64, as_i64, as_bool, as_str, as_array}
use Rattle.dsql_script_forms.specs.ScriptArgs.{between}

-- Returns the number, unless it is greater than `greatest`.
abbrev pub at_most : ℕ → ℕ → Option ℕ
at_most greatest n = if nat_le n greatest then Some n else None

-- Returns the number if it fits a u32, or a u8 in `byte_sized`.
abbrev pub word_sized : ℕ → Option ℕ
word_sized n = at_most 4294967295 n

abbrev pub byte_sized : ℕ → Option ℕ
byte_sized n = at_most 255 n

abbrev pub natural_in : Data → Option ℕ
natural_in d = option_and_then as_u64 (as_number d)

abbrev pub natural_at : ℕ → Data → Option ℕ
natural_at i d = option_and_then natural_in (at i d)

abbrev pub number_at : ℕ → Data → Option ℕ
number_at i d = option_and_then word_sized (natural_at i d)

abbrev pub byte_at : ℕ → Data → Option ℕ
byte_at i d = option_and_then byte_sized (natural_at i d)

abbrev pub integer_in : Data → Option ℤ
integer_in d = option_and_then as_i64 (as_number d)

abbrev pub integer_at : ℕ → Data → Option ℤ
integer_at i d = option_and_then integer_in (at i d)

-- Returns the signed number of 32 bits at this place, if there is one.
abbrev pub short_at : ℕ → Data → Option ℤ
short_at i d = option_and_then (between (negsuc 2147483647) (pos 2147483647)) (integer_at i d)

abbrev pub truth_at : ℕ → Data → Option Bool
truth_at i d = option_and_then as_bool (at i d)

abbrev pub text_at : ℕ → Data → Option (List ℕ)
text_at i d = option_and_then as_str (at i d)

abbrev pub items_at : ℕ → Data → Option Items
items_at i d = option_and_then as_array (at i d)

-- Returns what each item is read as, or `None` if one can't be read.
abbrev pub each_of : {A : Type 0} → (Data → Option A) → Items → Option (List A)
each_of read no_items = Some []
each_of read (item d ds) = option_and_then (λ x. option_map (λ more. x ∷ more) (each_of read ds)) (read d)

abbrev pub list_at : {A : Type 0} → (Data → Option A) → ℕ → Data → Option (List A)
list_at read i d = option_and_then (each_of read) (items_at i d)
