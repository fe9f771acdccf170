use Rattle.std.proofs.Common.{Bool, not, inl, inr, ap}
use Rattle.dsql_engine_desk.proofs.desk.Desk.names_fit.Goals as goal

pub returns-in-Query : goal.returns-in-Query
returns-in-Query c = elim c.in-Query.is [
  | inl query ↦ rw query.3 (ap (λ (b : Bool). not b) c.is_made.ensures)
  | inr begin ↦ rw begin.2 (ap (λ (b : Bool). not b) c.is_made.ensures)
]
