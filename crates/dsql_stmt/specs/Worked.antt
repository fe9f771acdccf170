-- Worked handles: statement 1 on connections 1 and 2, statement 2 on connection 2.
use Rattle.std.specs.Prelude.{◌≡◌, pos, true, false, List, [], ◌∷◌, None, Some, Ok, Err, codes}
use Rattle.dsql_stmt.specs.declared.stmt.Home.TheVariants.{Db}
use Rattle.dsql_stmt.specs.declared.stmt.Stmt.{Stmt}
use Rattle.dsql_stmt.specs.Statements.{Live, unclosed, closed_by, answer_of, handle_on, is_live, live_handle, handed_out, without_handle, without_conn}
use Rattle.dsql_stmt.specs.Laws.{all_dropped}

abbrev pub three : List Live
three = live_handle 1 1 1 (pos 1) ∷ live_handle 1 2 7 (pos 1) ∷ live_handle 2 2 8 (pos 0) ∷ []

abbrev pub set_a : Stmt
set_a = unclosed (codes "SET a ?") Db

pub record WorkedHandles : Type 0 where
  pub nothing : handle_on 1 1 [] ≡ None
  pub there : handle_on 1 2 three ≡ Some (7, pos 1)
  pub not_there : handle_on 2 1 three ≡ None
  pub number : is_live 2 8 three ≡ true
  pub number_elsewhere : is_live 1 8 three ≡ false
  pub handed : handed_out 1 three set_a ≡ (1, 1) ∷ (2, 7) ∷ []
  pub handed_again : handed_out 1 three (closed_by 4 set_a) ≡ []
  pub one_dropped : without_handle 2 7 three ≡ live_handle 1 1 1 (pos 1) ∷ live_handle 2 2 8 (pos 0) ∷ []
  pub number_elsewhere_stays : without_handle 1 7 three ≡ three
  pub all_dropped_of_one : all_dropped (handed_out 1 three set_a) three ≡ live_handle 2 2 8 (pos 0) ∷ []
  pub lost : without_conn 2 three ≡ live_handle 1 1 1 (pos 1) ∷ []

pub record WorkedCloses : Type 0 where
  pub runs : answer_of (handle_on 1 1 three) set_a ≡ Ok (Some (1, pos 1))
  pub runs_without : answer_of (handle_on 2 1 three) set_a ≡ Ok None
  pub closed : answer_of (handle_on 1 1 three) (closed_by 4 set_a) ≡ Err (record { call = 4 })
  pub closed_twice : answer_of (handle_on 1 1 three) (closed_by 6 (closed_by 4 set_a)) ≡ Err (record { call = 4 })
  pub closed_by_no_call : answer_of None (closed_by 4 (closed_by 0 set_a)) ≡ Err (record { call = 0 })
