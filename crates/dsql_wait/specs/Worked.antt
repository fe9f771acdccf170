-- Worked queues of three requests: call 1 with token `a`, call 2 without a token, call 3 with token `a`.
use Rattle.std.specs.Prelude.{◌≡◌, ℕ, true, false, List, [], ◌∷◌, Option, None, Some, codes, count_by}
use Rattle.dsql_tenure_journal.specs.declared.entry.Owner.TheVariants.{Call}
use Rattle.dsql_wait.specs.declared.request.Request.{Request}
use Rattle.dsql_wait.specs.Requests.{waits, request_of, are_distinct, is_of, oldest, younger, without_call, without_token}

abbrev pub asked_by : ℕ → Option (List ℕ) → Request
asked_by n name = record { call = n; owner = Call n; last = false; token = name; asked = 0 }

abbrev pub first : Request
first = asked_by 1 (Some (codes "a"))

abbrev pub second : Request
second = asked_by 2 None

abbrev pub third : Request
third = asked_by 3 (Some (codes "a"))

abbrev pub three : List Request
three = first ∷ second ∷ third ∷ []

pub record WorkedQueues : Type 0 where
  pub nobody : oldest [] ≡ None
  pub oldest_first : oldest three ≡ Some first
  pub then_second : oldest (younger three) ≡ Some second
  pub waits_there : waits 2 three ≡ true
  pub not_there : waits 4 three ≡ false
  pub its_request : request_of 3 three ≡ Some third
  pub no_request : request_of 4 three ≡ None
  pub each_once : are_distinct three ≡ true
  pub second_leaves : without_call 2 three ≡ first ∷ third ∷ []
  pub another_leaves : without_call 4 three ≡ three
  pub all_of_a : without_token (codes "a") three ≡ second ∷ []
  pub two_of_a : count_by (is_of (codes "a")) three ≡ 2
  pub none_of_b : without_token (codes "b") three ≡ three
  pub no_prefix : without_token (codes "ab") three ≡ three
