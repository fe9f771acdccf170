-- What holds of writes and of lists.
use Rattle.std.specs.Prelude.{◌≡◌, ℕ, nat_eq, List, Some, None, if◌then◌else◌}
use Rattle.std.specs.List.{starts_with}
use Rattle.std.specs.Str.{bytes_eq}
use Rattle.dsql_value.specs.declared.value.Value.{Value}
use Rattle.dsql_mem_store.specs.Entries.{Entries, AreAscending, with_value, without_key, value_at, listed}

-- Holds if setting a key gives it that value, and leaves the values of all other keys.
abbrev pub SetsOneKey : Type 0
SetsOneKey = (key : List ℕ) (value : Value) (store : Entries) (other : List ℕ) →
    value_at other (with_value key value store) ≡ (if bytes_eq other key then Some value else value_at other store)

-- Holds if removing a key from entries whose keys ascend leaves the key without a value, and leaves the values
-- of all other keys.
abbrev pub DeletesOneKey : Type 0
DeletesOneKey = (key : List ℕ) (store : Entries) (other : List ℕ) → AreAscending store →
    value_at other (without_key key store) ≡ (if bytes_eq key other then None else value_at other store)

-- Holds if a list has exactly the keys that begin with the prefix, with their values. If the keys of the store
-- ascend, those of the list do, so each occurs once.
pub record ListsPrefix : Type 0 where
  pub values : (prefix : List ℕ) (store : Entries) (key : List ℕ) →
      value_at key (listed prefix store) ≡ (if starts_with nat_eq key prefix then value_at key store else None)
  pub ascending : (prefix : List ℕ) (store : Entries) → AreAscending store → AreAscending (listed prefix store)
