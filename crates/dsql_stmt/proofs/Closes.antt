-- The first close stays: a closed statement is unchanged by any later close.
use Rattle.std.proofs.Common.{◌≡◌, ℕ, true, cond, List, [], ◌∷◌, Option, Some, None, refl, ap, ◌∙◌}
use Rattle.std.specs.Prelude.{is_none}
use Rattle.std.proofs.lemmas.Bool.{cond-true}
use Rattle.dsql_stmt.specs.declared.stmt.Stmt.{Stmt}
use Rattle.dsql_stmt.specs.Statements.{is_open, closed_by, told}
use Rattle.dsql_stmt.specs.Laws.{closed_by_all, FirstCloseStays}

stays : (call later : ℕ) (stmt : Stmt) → stmt.closed ≡ Some call → closed_by later stmt ≡ stmt
stays call later stmt h = ap (λ (o : Option ℕ). cond (is_none o) (record stmt { closed = Some later }) stmt) h

is_closed : (call : ℕ) (stmt : Stmt) → (by : ℕ) × ((closed_by call stmt).closed ≡ Some by)
is_closed call stmt =
    elim stmt.closed as (λ o. (by : ℕ) × ((cond (is_none o) (record stmt { closed = Some call }) (record stmt { closed = o })).closed ≡ Some by)) [
      | None ↦ (call, refl)
      | Some by ↦ (by, refl)
    ]

all_stay : (later : List ℕ) (by : ℕ) (stmt : Stmt) → stmt.closed ≡ Some by → closed_by_all later stmt ≡ stmt
all_stay [] by stmt h = refl
all_stay (call ∷ later) by stmt h =
    let same = stays by call stmt h in
    ap (λ (s : Stmt). closed_by_all later s) same ∙ all_stay later by stmt h

whatever_comes : (call : ℕ) (later : List ℕ) (stmt : Stmt) → closed_by_all (call ∷ later) stmt ≡ closed_by call stmt
whatever_comes call later stmt = let closed = is_closed call stmt in all_stay later closed.0 (closed_by call stmt) closed.1

first : (call : ℕ) (stmt : Stmt) → is_open stmt ≡ true → (closed_by call stmt).closed ≡ Some call
first call stmt live = ap (λ (s : Stmt). s.closed) (cond-true (is_open stmt) (record stmt { closed = Some call }) stmt live)

pub first_close_stays : FirstCloseStays
first_close_stays = record {
  first = first;
  stays = stays;
  whatever_comes = whatever_comes;
  told = λ call later stmt live opened. ap (λ (s : Stmt). told live s.closed) (whatever_comes call later stmt) ∙ ap (λ (o : Option ℕ). told live o) (first call stmt opened);
}
