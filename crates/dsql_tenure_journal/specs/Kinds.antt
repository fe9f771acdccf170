-- Kinds of owners, as tests, and words for the rules of journals.
use Rattle.std.specs.Prelude.{ℕ, Bool, true, false, ◌==◌, Option, Some, None}
use Rattle.dsql_tenure_journal.specs.declared.entry.Owner.{Owner}
use Rattle.dsql_tenure_journal.specs.declared.entry.Owner.TheVariants.{Call, Tx, Pin, House}

-- Is true if the first is false or the second is true.
infixr 20 ◌⇒◌
abbrev pub ◌⇒◌ : Bool → Bool → Bool
true ⇒ b = b
false ⇒ b = true

-- Is true if there is no number or the number passes the test.
abbrev pub if_any : Option ℕ → (ℕ → Bool) → Bool
if_any None test = true
if_any (Some n) test = test n

-- Is true if there is a number and it is this one.
abbrev pub is_number : Option ℕ → ℕ → Bool
is_number None n = false
is_number (Some m) n = m == n

abbrev pub is_house : Owner → Bool
is_house House = true
is_house _ = false

abbrev pub is_call : Owner → Bool
is_call (Call n) = true
is_call _ = false

abbrev pub is_pin : Owner → Bool
is_pin (Pin n) = true
is_pin _ = false

-- Is true if the owner is transaction n.
abbrev pub is_tx_number : ℕ → Owner → Bool
is_tx_number n (Tx m) = m == n
is_tx_number n _ = false

abbrev pub same_owner : Owner → Owner → Bool
same_owner (Call n) (Call m) = n == m
same_owner (Tx n) (Tx m) = n == m
same_owner (Pin n) (Pin m) = n == m
same_owner House House = true
same_owner _ _ = false

-- Returns the number of an owner, or 0 for the layer itself.
abbrev pub number_of : Owner → ℕ
number_of (Call n) = n
number_of (Tx n) = n
number_of (Pin n) = n
number_of House = 0
