-- Proves that an addition or a close concerns the statement with that number, and no other.
use Rattle.std.proofs.Common.{◌≡◌, ℕ, false, eqb, List, Some, sym, ap, ◌∙◌}
use Rattle.std.specs.Map.{set_value}
use Rattle.std.proofs.lemmas.Bool.{cond-false}
use Rattle.std.proofs.lemmas.Map.Steps.{set_value_same}
use Rattle.dsql_value_numbered.specs.Numbered.{changed}
use Rattle.dsql_value_numbered.specs.Laws.{ChangesOneNumber}
use Rattle.dsql_value_numbered.proofs.Changes.{set_value-changed}
use Rattle.dsql_value_numbered.proofs.Numbers.{changes_one_number}
use Rattle.dsql_stmt.specs.declared.stmt.Stmt.{Stmt}
use Rattle.dsql_stmt.specs.Statements.{stmt_of, closed_by, is_open, unclosed}
use Rattle.dsql_stmt.specs.Laws.{ChangesOneStatement}

-- A statement that is closed stays as it is.
pub changed-closed : (call n : ℕ) (stmts : List (ℕ × Stmt)) (stmt : Stmt) → stmt_of n stmts ≡ Some stmt → is_open stmt ≡ false → changed (closed_by call) n stmts ≡ stmts
changed-closed call n stmts stmt found closed =
    sym (set_value-changed (closed_by call) n stmts stmt found)
    ∙ (ap (λ (s : Stmt). set_value (λ k. eqb n k) stmts s) (cond-false (is_open stmt) (record stmt { closed = Some call }) stmt closed)
    ∙ set_value_same _ stmts stmt found)

pub changes_one_statement : ChangesOneStatement
changes_one_statement =
    let laws : ChangesOneNumber Stmt = changes_one_number in
    record {
      added = λ n text home stmts new. laws.made n (unclosed text home) stmts new;
      closes = λ call n stmts. laws.changes (closed_by call) n stmts;
      others_beside_new = λ n other text home stmts apart. laws.others_beside_new n other (unclosed text home) stmts apart;
      others = λ call n other stmts apart. laws.others (closed_by call) n other stmts apart;
    }
