-- What a store holds.
use Rattle.std.specs.Prelude.{ℕ, nat_eq, List, [], ◌∷◌, filter, Option, Some, None}
use Rattle.std.specs.List.{starts_with}
use Rattle.std.specs.Option.{option_map_or}
use Rattle.std.specs.BTreeMap.{insert_entry}
use Rattle.std.specs.Cmp.Lexicographic.{slice_cmp}
use Rattle.std.specs.List.Sorted.{IsStrictlySortedBy}
use Rattle.std.specs.Map.{keys_of, lookup, remove_entry}
use Rattle.std.specs.Ordering.{is_eq, nat_cmp}
use Rattle.dsql_value.specs.declared.value.Value.{Value}

-- The entries of a store: texts with their values, in the byte order of the texts.
abbrev pub Entries : Type 0
Entries = List (List ℕ × Value)

-- Returns the entries once the key has this value.
abbrev pub with_value : List ℕ → Value → Entries → Entries
with_value key value entries = insert_entry (slice_cmp nat_cmp) entries key value

-- Returns the entries once the key is removed.
abbrev pub without_key : List ℕ → Entries → Entries
without_key key entries = remove_entry (λ k. is_eq (slice_cmp nat_cmp key k)) entries

-- Returns the value of the key, if it has one.
abbrev pub value_at : List ℕ → Entries → Option Value
value_at key entries = lookup (λ k. is_eq (slice_cmp nat_cmp key k)) entries

-- Returns the entries once the key has this value, or once it is removed if there is none.
abbrev pub with_state : List ℕ → Option Value → Entries → Entries
with_state key (Some value) entries = with_value key value entries
with_state key None entries = without_key key entries

-- Holds if the keys ascend in byte order, so that no key occurs twice.
abbrev pub AreAscending : Entries → Type 0
AreAscending entries = IsStrictlySortedBy (slice_cmp nat_cmp) (keys_of entries)

-- Returns the entry of the key, or no entry if the key has no value.
abbrev pub entry_at : List ℕ → Entries → Entries
entry_at key entries = option_map_or (λ value. (key, value) ∷ []) (value_at key entries) []

-- Returns the entries whose keys begin with the prefix.
abbrev pub listed : List ℕ → Entries → Entries
listed prefix entries = filter (λ entry. starts_with nat_eq entry.0 prefix) entries
