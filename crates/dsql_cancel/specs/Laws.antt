-- The laws of the map of tokens and its changes.
use Rattle.std.specs.Prelude.{◌≡◌, ◌≢◌, ℕ, IsTrue, [], Some, Ok}
use Rattle.std.specs.Option.{option_map}
use Rattle.std.specs.FinMap.{is_sorted}
use Rattle.std.specs.List.Sorted.{IsStrictlySortedBy}
use Rattle.dsql_cancel.specs.declared.token.Token.{Token}
use Rattle.dsql_cancel.specs.declared.token.Cause.{Cause}
use Rattle.dsql_cancel.specs.declared.token.Cause.TheVariants.{Canceled}
use Rattle.dsql_cancel.specs.Token as one
use Rattle.dsql_cancel.specs.Registry.{Name, Named, byte_order, token_of, with_token, canceled, at_moment, running_out, cause_of}

-- Holds if a change at one name concerns that name alone, and a moment changes each token by itself.
pub record ChangesOneName : Type 0 where
  pub made : (name : Name) (token : Token) (tokens : Named) → token_of name (with_token name token tokens) ≡ Some token
  pub others_stay : (name other : Name) (token : Token) (tokens : Named) → other ≢ name
      → token_of other (with_token name token tokens) ≡ token_of other tokens
  pub canceled_one : (name : Name) (tokens : Named) → token_of name (canceled name tokens)
      ≡ option_map (one.stopped Canceled) (token_of name tokens)
  pub others_run_on : (name other : Name) (tokens : Named) → other ≢ name → token_of other (canceled name tokens)
      ≡ token_of other tokens
  pub each_by_itself : (name : Name) (now : ℕ) (tokens : Named) → token_of name (at_moment now tokens)
      ≡ option_map (one.at_moment now) (token_of name tokens)

-- Holds if a cancelled token keeps its cause, whatever comes.
pub record FirstCauseStays : Type 0 where
  pub made : (name other : Name) (token : Token) (tokens : Named) (why : Cause) → other ≢ name
      → cause_of other tokens ≡ Ok (Some why) → cause_of other (with_token name token tokens) ≡ Ok (Some why)
  pub canceled : (name other : Name) (tokens : Named) (why : Cause) → cause_of other tokens ≡ Ok (Some why)
      → cause_of other (canceled name tokens) ≡ Ok (Some why)
  pub at_moment : (other : Name) (now : ℕ) (tokens : Named) (why : Cause) → cause_of other tokens ≡ Ok (Some why)
      → cause_of other (at_moment now tokens) ≡ Ok (Some why)

-- Holds if names are reported in byte order, each once, and none is reported a second time.
pub record ToldOnce : Type 0 where
  pub in_order : (now : ℕ) (tokens : Named) → IsTrue (is_sorted byte_order tokens)
      → IsStrictlySortedBy byte_order (running_out now tokens)
  pub not_again : (now : ℕ) (tokens : Named) → running_out now (at_moment now tokens) ≡ []
