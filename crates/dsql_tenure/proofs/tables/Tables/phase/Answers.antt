use Rattle.std.proofs.Common.{true, false, ◌∙◌, sym}
use Rattle.dsql_tenure.proofs.Standing.{stands-owner, stands-before, stands-shut, stands-open}
use Rattle.dsql_tenure.proofs.tables.Tables.phase.Goals as goal

pub returns-in_default : goal.returns-in_default
returns-in_default c = stands-before c.args.self.now c.requires c.in_default.is

pub can_grow-requires-clause-owner : goal.can_grow-requires-clause-owner
can_grow-requires-clause-owner c = sym (stands-owner c.args.self.now c.requires) ∙ c.in-Some.is

pub returns-then-self : goal.returns-then-self
returns-then-self c = stands-shut c.args.self.now c.requires c.if-self.true

pub returns-then-can_grow : goal.returns-then-can_grow
returns-then-can_grow c = stands-open c.args.self.now c.requires c.in-Some.owner true c.in-Some.is c.if-self.false (sym c.can_grow.ensures ∙ c.if-can_grow.true)

pub returns-else-can_grow : goal.returns-else-can_grow
returns-else-can_grow c = stands-open c.args.self.now c.requires c.in-Some.owner false c.in-Some.is c.if-self.false (sym c.can_grow.ensures ∙ c.if-can_grow.false)
