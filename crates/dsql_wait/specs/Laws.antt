-- What waiting means, as laws.
use Rattle.std.specs.Prelude.{◌≡◌, ◌≢◌, ℕ, ◌+◌, ◌<◌, ◌≤◌, false, List, [], ◌∷◌, ◌++◌, Some, None}
use Rattle.dsql_wait.specs.declared.request.Request.{Request}
use Rattle.dsql_wait.specs.Requests.{waits, oldest, younger, without_call, without_token}

-- Holds if the queue serves the request that came first, whoever comes later.
pub record ServedInOrder : Type 0 where
  pub first : (r later : Request) (rs : List Request) → oldest ((r ∷ rs) ++ later ∷ []) ≡ Some r
  pub then : (r later : Request) (rs : List Request) → younger ((r ∷ rs) ++ later ∷ []) ≡ rs ++ later ∷ []
  pub at_once : (r : Request) → oldest ([] ++ r ∷ []) ≡ Some r

-- Holds if a request that leaves is gone, and the others keep their order.
pub record LeavesTheOrder : Type 0 where
  pub gone : (call : ℕ) (rs : List Request) → waits call (without_call call rs) ≡ false
  pub others_wait : (call other : ℕ) (rs : List Request) → other ≢ call → waits other (without_call call rs)
      ≡ waits other rs
  pub in_order : (call : ℕ) (rs later : List Request) → without_call call (rs ++ later) ≡ without_call call rs
      ++ without_call call later
  pub absent : (call : ℕ) (rs : List Request) → waits call rs ≡ false → without_call call rs ≡ rs

-- Holds if a request without a token stays, and keeps its place, when a token's requests leave.
pub record LeavesOthers : Type 0 where
  pub stays : (token : List ℕ) (r : Request) (rs : List Request) → r.token ≡ None → without_token token (r ∷ rs)
      ≡ r ∷ without_token token rs
  pub in_order : (token : List ℕ) (rs later : List Request) → without_token token (rs ++ later)
      ≡ without_token token rs ++ without_token token later

-- Holds if room for n calls is enough for each of the next n, since each call takes at most one of the room.
abbrev pub RoomLasts : Type 0
RoomLasts =
    (spare : ℕ → ℕ) (n : ℕ) → n ≤ spare 0 → ((k : ℕ) → spare k ≤ spare (k + 1) + 1) → (k : ℕ) → k < n → spare k ≢ 0
