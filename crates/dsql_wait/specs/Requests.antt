-- The requests that wait, the oldest first.
use Rattle.std.specs.Prelude.{ℕ, Bool, true, false, not, ◌&&◌, ◌==◌, List, [], ◌∷◌, filter, find, Option, Some, None}
use Rattle.std.specs.List.{list_any}
use Rattle.std.specs.Option.{option_map_or}
use Rattle.std.specs.Str.{bytes_eq}
use Rattle.dsql_wait.specs.declared.request.Request.{Request}

-- A queue: the requests that wait, and for how many calls there is memory.
pub record Queue : Type 0 where
  pub requests : List Request
  pub spare : ℕ

-- Is true if a request of that call waits.
abbrev pub waits : ℕ → List Request → Bool
waits call requests = list_any (λ r. r.call == call) requests

-- Returns the request of that call, if it waits.
abbrev pub request_of : ℕ → List Request → Option Request
request_of call requests = find (λ r. r.call == call) requests

-- Is true if each call waits once.
abbrev pub are_distinct : List Request → Bool
are_distinct [] = true
are_distinct (r ∷ rs) = not (waits r.call rs) && are_distinct rs

-- Is true if the request has a token of that name.
abbrev pub is_of : List ℕ → Request → Bool
is_of token request = option_map_or (λ own. bytes_eq own token) request.token false

abbrev pub oldest : List Request → Option Request
oldest [] = None
oldest (r ∷ rs) = Some r

-- Returns all requests except the oldest.
abbrev pub younger : List Request → List Request
younger [] = []
younger (r ∷ rs) = rs

-- Returns all requests except those of that call.
abbrev pub without_call : ℕ → List Request → List Request
without_call call requests = filter (λ r. not (r.call == call)) requests

-- Returns all requests except those with a token of that name.
abbrev pub without_token : List ℕ → List Request → List Request
without_token token requests = filter (λ r. not (is_of token r)) requests
