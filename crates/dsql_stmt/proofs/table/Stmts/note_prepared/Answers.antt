-- A new place goes last.
use Rattle.std.proofs.Common.{rules, ◌≡◌, ℤ, false, None, List, ◌∷◌, [], ◌++◌, w32, to_z, of_z, ap, sym, subst, ◌∙◌}
use Rattle.indexmap.proofs.CallerLemmas.{insert_entry-new}
use Rattle.dsql_stmt.specs.Statements.{Statements, Live, live_handle, handle_on, is_live, IsOneEach}
use Rattle.dsql_stmt.proofs.OneEach.{one_with_new}
use Rattle.dsql_stmt.proofs.Places.{none_prepared}
use Rattle.dsql_stmt.proofs.table.Stmts.note_prepared.Goals as goal

-- The statement had no live handle on the connection.
none_on : (c : goal.In_ok-insert) → handle_on c.args.n c.args.conn c.self.inside.live.entries ≡ None
none_on c = ap (λ (t : Statements). handle_on c.args.n c.args.conn t.live) c.self.view_is ∙ c.requires.none

-- The new handle stands after the others.
stands_last : (c : goal.In_ok-insert) → c.insert.new.self.entries ≡ c.self.inside.live.entries ++ live_handle c.args.n c.args.conn c.args.handle c.args.inputs ∷ []
stands_last c =
    let none = none_prepared c.args.n c.args.conn c.self.inside.live.entries (none_on c) in
    let read : to_z w32 (of_z w32 c.args.inputs) ≡ c.args.inputs = search rules in
    c.in_ok-insert.ensures.entries
    ∙ (insert_entry-new _ c.self.inside.live (c.args.n, c.args.conn) (record { handle = c.args.handle; inputs = to_z w32 (of_z w32 c.args.inputs) }) none
    ∙ ap (λ (inputs : ℤ). c.self.inside.live.entries ++ live_handle c.args.n c.args.conn c.args.handle inputs ∷ []) read)

pub returns-clause-ok : goal.returns-clause-ok
returns-clause-ok c =
    stands_last c
    ∙ ap (λ (t : Statements). t.live ++ live_handle c.args.n c.args.conn c.args.handle c.args.inputs ∷ []) c.self.view_is

pub invariant_of-self-2 : goal.invariant_of-self-2
invariant_of-self-2 c =
    let unused : is_live c.args.conn c.args.handle c.self.inside.live.entries ≡ false = ap (λ (t : Statements). is_live c.args.conn c.args.handle t.live) c.self.view_is ∙ c.requires.unused in
    subst (λ (live : List Live). IsOneEach live) (sym (stands_last c))
    (one_with_new c.args.n c.args.conn c.args.handle c.args.inputs c.self.inside.live.entries (none_on c) unused c.self.invariant)
