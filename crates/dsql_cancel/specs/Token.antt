-- A token and its changes.
use Rattle.std.specs.Prelude.{ℕ, Bool, false, ◌&&◌, nat_le, Option, Some, None, is_none, unwrap_or, if◌then◌else◌}
use Rattle.dsql_cancel.specs.declared.token.Token.{Token}
use Rattle.dsql_cancel.specs.declared.token.Cause.{Cause}
use Rattle.dsql_cancel.specs.declared.token.Cause.TheVariants.{Deadline}

-- Returns a token that has no deadline and isn't cancelled.
abbrev pub endless : Token
endless = record { deadline = None; cause = None }

-- Is true if a deadline has passed. It has at its own moment and from then on.
abbrev pub has_passed : ℕ → ℕ → Bool
has_passed at now = nat_le at now

-- Returns a token that is made with a deadline. If the deadline has passed, it cancels the token at once.
abbrev pub timed : ℕ → ℕ → Token
timed at now = record { deadline = Some at; cause = if has_passed at now then Some Deadline else None }

-- Is true if the token isn't cancelled.
abbrev pub runs : Token → Bool
runs token = is_none token.cause

-- Is true if there is a deadline and it has passed.
abbrev pub has_deadline_passed : ℕ → Option ℕ → Bool
has_deadline_passed now (Some at) = has_passed at now
has_deadline_passed now None = false

-- Is true if the token isn't cancelled and its deadline has passed.
abbrev pub runs_out : ℕ → Token → Bool
runs_out now token = runs token && has_deadline_passed now token.deadline

-- Returns the token, cancelled. A first cause stays.
abbrev pub stopped : Cause → Token → Token
stopped why token = record { deadline = token.deadline; cause = Some (unwrap_or token.cause why) }

-- Returns the token from this moment on. If it has run out, its deadline cancels it.
abbrev pub at_moment : ℕ → Token → Token
at_moment now token = if runs_out now token then stopped Deadline token else token
