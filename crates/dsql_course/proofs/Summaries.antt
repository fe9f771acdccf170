-- The summary of a course's calls with one more call, and what the summary decides.
use Rattle.std.proofs.Common.{◌≡◌, ℕ, ℤ, Bool, not, ◌&&◌, ◌||◌, Option, Some, None, is_some, List, [], ◌∷◌, refl, ap}
use Rattle.std.specs.List.{list_any}
use native.Mathlib.Omega.{arith}
use Rattle.dsql_course.specs.declared.course.Course.{Course}
use Rattle.dsql_course.specs.declared.call.Due.{Due}
use Rattle.dsql_course.specs.declared.call.Due.TheVariants as call
use Rattle.dsql_course.specs.declared.call.Got.{Got}
use Rattle.dsql_course.specs.declared.call.Got.TheVariants as got
use Rattle.dsql_course.specs.Made.{Exchange, is_bad, is_skip, is_done, given_handle, given_cursor, or_else, own_cursor, decides, was_decided, reads_one, ends_rows}
use Rattle.dsql_course.specs.Summary.{Summary, is_settled}

pub summary_with : (made : List Exchange) (last : Option Due) (handle : Option (ℕ × ℤ)) (cursor : Option ℕ) (skipped done settled over bad : Bool) (it : Due) (answer : Got)
    → Summary made last handle cursor skipped done settled over bad
    → Summary ((it, answer) ∷ made) (Some it) (or_else (given_handle answer) handle) (or_else (given_cursor answer) cursor) (is_skip answer || skipped) (is_done answer || done)
    (is_settled (it, answer) || settled) (ends_rows (it, answer) || over) (is_bad answer || bad)
summary_with made last handle cursor skipped done settled over bad it answer s = record {
  is_last = refl;
  is_handle = ap (λ h. or_else (given_handle answer) h) s.is_handle;
  is_cursor = ap (λ c. or_else (given_cursor answer) c) s.is_cursor;
  is_skipped = ap (λ b. is_skip answer || b) s.is_skipped;
  was_done = ap (λ b. is_done answer || b) s.was_done;
  was_settled = ap (λ b. is_settled (it, answer) || b) s.was_settled;
  are_over = ap (λ b. ends_rows (it, answer) || b) s.are_over;
  is_bad = ap (λ b. is_bad answer || b) s.is_bad;
}

decides_by : (c : Course) (it : Due) (answer : Got) → decides c (it, answer) ≡ is_settled (it, answer) || (is_some (given_cursor answer) && not (reads_one c))
decides_by c (call.Next rows) answer = refl
decides_by c it got.Result = refl
decides_by c it _ = refl

some_else : {X : Type 0} (o p : Option X) → is_some (or_else o p) ≡ is_some o || is_some p
some_else None p = refl
some_else (Some x) p = refl

regroup : (d s g w t o k : Bool) → d ≡ s || (g && k) → w ≡ t || (o && k) → d || w ≡ (s || t) || ((g || o) && k)
regroup d s g w t o k h m = grind (arith, h, m)

pub decided_by : (c : Course) (made : List Exchange) → was_decided c made ≡ list_any is_settled made || (is_some (own_cursor made) && not (reads_one c))
decided_by c [] = refl
decided_by c (x ∷ made) =
    rw (some_else (given_cursor x.1) (own_cursor made))
    (regroup (decides c x) (is_settled x) (is_some (given_cursor x.1)) (was_decided c made) (list_any is_settled made) (is_some (own_cursor made)) (not (reads_one c)) (decides_by c x.0 x.1)
    (decided_by c made))
