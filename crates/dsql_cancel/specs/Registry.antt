-- Tokens by their names, and their changes.
use Rattle.std.specs.Prelude.{◌≡◌, ◌≢◌, ℕ, Bool, true, false, IsTrue, List, [], map, filter, Option, Result, is_some, if◌then◌else◌}
use Rattle.std.specs.declared.cmp.Ordering.{Ordering}
use Rattle.std.specs.Ordering.{nat_cmp, eq_by_cmp}
use Rattle.std.specs.Cmp.Lexicographic.{slice_cmp}
use Rattle.std.specs.Option.{option_map_or, option_map, ok_or}
use Rattle.std.specs.FinMap.{find, put, is_sorted}
use Rattle.dsql_cancel.specs.declared.token.Token.{Token}
use Rattle.dsql_cancel.specs.declared.token.Cause.{Cause}
use Rattle.dsql_cancel.specs.declared.token.Cause.TheVariants.{Canceled}
use Rattle.dsql_cancel.specs.declared.fault.TokenFault.{TokenFault}
use Rattle.dsql_cancel.specs.declared.fault.TokenFault.TheVariants.{NoToken, TokenExists, Memory}
use Rattle.dsql_cancel.specs.declared.fault.Unknown.{Unknown}
use Rattle.dsql_cancel.specs.Token as one

-- A name: the list of its bytes. Names are ordered by their bytes.
abbrev pub Name : Type 0
Name = List ℕ

abbrev pub byte_order : Name → Name → Ordering
byte_order = slice_cmp nat_cmp

-- A finite map from names to tokens. Each name stands once, in byte order.
abbrev pub Named : Type 0
Named = List (Name × Token)

-- The tokens made so far, the present moment, and for how many calls there is memory.
pub record Registry : Type 0 where
  pub tokens : Named
  pub moment : ℕ
  pub spare : ℕ

abbrev pub token_of : Name → Named → Option Token
token_of name tokens = find byte_order name tokens

abbrev pub was_made : Name → Named → Bool
was_made name tokens = is_some (token_of name tokens)

-- Returns the map with one more token.
abbrev pub with_token : Name → Token → Named → Named
with_token name token tokens = put byte_order name token tokens

-- Is true if a token with this name was made and isn't cancelled.
abbrev pub runs : Name → Named → Bool
runs name tokens = option_map_or one.runs (token_of name tokens) false

-- Returns the map with the token of this name cancelled.
abbrev pub canceled : Name → Named → Named
canceled name tokens = map (λ e. (e.0, if eq_by_cmp byte_order name e.0 then one.stopped Canceled e.1 else e.1)) tokens

-- Returns the map with each token as it is from this moment on.
abbrev pub at_moment : ℕ → Named → Named
at_moment now tokens = map (λ e. (e.0, one.at_moment now e.1)) tokens

-- Returns the names of the tokens that their deadlines cancel at this moment, in byte order.
abbrev pub running_out : ℕ → Named → List Name
running_out now tokens = map (λ e. e.0) (filter (λ e. one.runs_out now e.1) tokens)

-- Returns why the token with this name is cancelled, if it is.
abbrev pub cause_of : Name → Named → Result (Option Cause) Unknown
cause_of name tokens = ok_or (option_map (λ token. token.cause) (token_of name tokens)) (record {})

-- Holds if each name stands once, in byte order, and no token runs whose deadline has passed.
pub record IsKept (tokens : Named) (now : ℕ) : Type 0 where
  pub in_order : IsTrue (is_sorted byte_order tokens)
  pub none_late : running_out now tokens ≡ []

-- Holds if this is why a token wasn't made: its name has a token already, or it has none and there was no
-- memory.
abbrev pub RefusesMake : Registry → Name → TokenFault → Type 0
RefusesMake tokens name TokenExists = was_made name tokens.tokens ≡ true
RefusesMake tokens name Memory = (was_made name tokens.tokens ≡ false) × (tokens.spare ≡ 0)
RefusesMake tokens name NoToken = ⊥

-- Holds if this is why the moment didn't change: tokens run out, and there was no memory for their names.
abbrev pub RefusesTick : Named → ℕ → TokenFault → Type 0
RefusesTick tokens now Memory = running_out now tokens ≢ []
RefusesTick tokens now _ = ⊥
