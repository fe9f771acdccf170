-- No call has ended rows that nothing has ended.
use Rattle.std.proofs.Common.{◌≡◌, ℕ, Bool, true, false, not, cond, List, [], ◌∷◌, Option, Some, None, is_some, refl, sym, ap, ◌∙◌}
use Rattle.dsql_laws.specs.rows.declared.rows.Rows.{Rows}
use Rattle.dsql_laws.specs.rows.OpenRows.{is_live}
use Rattle.dsql_laws.specs.history.Readers.HandedOut.{live, over, rows_by, are_live, ended_at, ender}
use Rattle.dsql_laws_calls.proofs.EndedRows.{Kept, rows_kept}
use Rattle.dsql_laws_calls.proofs.LiveRows.{live_not_over, live_some}
use Rattle.dsql_laws.specs.history.declared.event.Event.{Event}

never : true ≡ false → ⊥
never h = cc

some_live : (o : Option Rows) → is_some o ≡ true → over o ≡ false → live o ≡ true
some_live None h k = absurd cc
some_live (Some r) h k = by (is_live r) k
  where
    by : (b : Bool) → not b ≡ false → b ≡ true
    by true j = refl
    by false j = absurd cc

pub unended : (H : List Event) (n : ℕ) → over (rows_by H n) ≡ false → ender H n ≡ 0
unended [] n h = refl
unended (e ∷ H) n h = by (unended H n) (are_live H n) refl
  where
    kept : Kept (rows_by H n) (rows_by (e ∷ H) n)
    kept = rows_kept H e n

    over_before : (b : Bool) → over (rows_by H n) ≡ b → b ≡ false
    over_before true is = absurd (never (sym (kept.ended is) ∙ h))
    over_before false is = refl

    by : (over (rows_by H n) ≡ false → ender H n ≡ 0) → (b : Bool) → are_live H n ≡ b → cond b (ended_at e (are_live (e ∷ H) n)) (ender H n) ≡ 0
    by earlier true is = ap (λ b. ended_at e b) (some_live (rows_by (e ∷ H) n) (kept.some (live_some (rows_by H n) is)) h)
    by earlier false is = earlier (over_before (over (rows_by H n)) refl)

-- An event that leaves rows live, or leaves them over, leaves the call that ended them.
pub same_ender : (H : List Event) (e : Event) (n : ℕ) → are_live (e ∷ H) n ≡ are_live H n → ender (e ∷ H) n ≡ ender H n
same_ender H e n same = by (are_live H n) refl
  where
    by : (b : Bool) → are_live H n ≡ b → cond b (ended_at e (are_live (e ∷ H) n)) (ender H n) ≡ ender H n
    by true is = ap (λ b. ended_at e b) (same ∙ is) ∙ sym (unended H n (live_not_over (rows_by H n) is))
    by false is = refl
