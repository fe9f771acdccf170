-- Worked tokens: `a` with the deadline 9, `b` with the deadline 10, and `c` without one.
use Rattle.std.specs.Prelude.{◌≡◌, true, false, [], ◌∷◌, None, Some, Ok, Err, codes}
use Rattle.dsql_cancel.specs.declared.token.Cause.TheVariants.{Canceled, Deadline}
use Rattle.dsql_cancel.specs.Token.{endless, timed}
use Rattle.dsql_cancel.specs.Registry.{Named, with_token, was_made, runs, canceled, at_moment, running_out, cause_of}

abbrev pub three : Named
three = with_token (codes "c") endless (with_token (codes "a") (timed 9 0) (with_token (codes "b") (timed 10 0) []))

pub record WorkedMoments : Type 0 where
  pub before : running_out 8 three ≡ []
  pub just_at : running_out 9 three ≡ codes "a" ∷ []
  pub in_byte_order : running_out 10 three ≡ codes "a" ∷ codes "b" ∷ []
  pub once : running_out 10 (at_moment 9 three) ≡ codes "b" ∷ []
  pub not_if_canceled : running_out 10 (canceled (codes "a") three) ≡ codes "b" ∷ []
  pub passed_at_once : running_out 0 (with_token (codes "a") (timed 0 0) []) ≡ []
  pub capitals_first : running_out 1
      (with_token (codes "a") (timed 1 0)
      (with_token (codes "ab") (timed 1 0) (with_token (codes "B") (timed 1 0) [])))
      ≡ codes "B" ∷ codes "a" ∷ codes "ab" ∷ []

pub record WorkedCauses : Type 0 where
  pub none_yet : cause_of (codes "a") three ≡ Ok None
  pub unknown : cause_of (codes "d") three ≡ Err (record {})
  pub by_deadline : cause_of (codes "a") (at_moment 9 three) ≡ Ok (Some Deadline)
  pub at_once : cause_of (codes "a") (with_token (codes "a") (timed 5 5) []) ≡ Ok (Some Deadline)
  pub by_call : cause_of (codes "c") (canceled (codes "c") three) ≡ Ok (Some Canceled)
  pub canceled_first : cause_of (codes "a") (at_moment 9 (canceled (codes "a") three)) ≡ Ok (Some Canceled)
  pub deadline_first : cause_of (codes "a") (canceled (codes "a") (at_moment 9 three)) ≡ Ok (Some Deadline)
  pub ran : runs (codes "a") three ≡ true
  pub ran_out : runs (codes "a") (at_moment 9 three) ≡ false
  pub another_made : was_made (codes "b") three ≡ true
  pub none_made : was_made (codes "d") three ≡ false
