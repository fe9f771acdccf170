-- Openings as far as they are allowed.
use Rattle.std.proofs.Common.{◌≡◌, ℕ, ◌+◌, ◌≤◌, Bool, true, false, cond, [], ◌∷◌, refl, arith, length-append}
use Rattle.std.specs.Prelude.{Some, Ok, Err}
use Rattle.std.proofs.lemmas.Bool.Decides.{nat_tests}
use Rattle.dsql_wait.specs.declared.request.Request.{Request}
use Rattle.dsql_pool.specs.declared.request.Asked.TheVariants as asked
use Rattle.dsql_pool.specs.declared.request.AskFault.TheVariants.{TooMany}
use Rattle.dsql_pool.specs.Changes.{opening}
use Rattle.dsql_pool.specs.Pooled.{Pooled, open_count, next_number, next_tenure, most_allowed}
use Rattle.dsql_pool.specs.Decisions.{last, takes_idle, are_too_many, may_open, when_none_idle}
use Rattle.dsql_pool.specs.Laws.{OpensAsAllowed}
use Rattle.dsql_pool.proofs.Due.{open_so_far, due_is_allowed}

-- If no request is refused and the limit allows one more, fewer connections are open than may be.
pub may_open_one : (p : Pooled) → are_too_many p ≡ false → may_open p ≡ true → open_count p + 1 ≤ most_allowed p
may_open_one p few may = grind (arith, nat_tests, few, may)

opening_is_allowed : (p : Pooled) (c : ℕ) (many may : Bool) → are_too_many p ≡ many → may_open p ≡ may → cond many (Err TooMany) (cond may (Ok (asked.Opening (next_number p))) (Ok asked.Queued)) ≡ Ok (asked.Opening c) → open_count p + 1 ≤ most_allowed p
opening_is_allowed p c true may e f h = cc
opening_is_allowed p c false true e f h = may_open_one p e f
opening_is_allowed p c false false e f h = cc

pub asks_within : (r : Request) (p : Pooled) (c : ℕ) (closed takes : Bool) → cond closed (Ok asked.Closed) (cond takes (Ok (asked.Lent (last p.idle) (next_tenure p (last p.idle)))) (when_none_idle p)) ≡ Ok (asked.Opening c) → open_count p + 1 ≤ most_allowed p
asks_within r p c true takes h = cc
asks_within r p c false true h = cc
asks_within r p c false false h = opening_is_allowed p c (are_too_many p) (may_open p) refl refl h

pub opens_as_allowed : OpensAsAllowed
opens_as_allowed = record {
  for_a_request = λ r p c h.
      let more = length-append p.conns (opening (next_number p) (Some r.owner) ∷ []) in
      let few_open = asks_within r p c p.closed (takes_idle r p) h in
      omega (arith, more, few_open);
  for_waiting = λ p k due. let more = open_so_far (k + 1) (next_number p) p in let left = due_is_allowed k p due in omega (arith, more, left);
}
