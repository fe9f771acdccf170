use Rattle.std.proofs.Common.{refl, sym, ◌∙◌}
use Rattle.dsql_script_calls.proofs.Members.{one_member, arg_of_members_other}
use Rattle.dsql_script_calls.proofs.args.read_object.Goals as goal

pub returns-then-len-ne1 : goal.returns-then-len-ne1
returns-then-len-ne1 c = λ _.
    (refl, arg_of_members_other c.args.members.now.entries (λ one. c.if-len-ne1.true (c.len.ensures.len ∙ one)))

pub returns-in-Some : goal.returns-in-Some
returns-in-Some c =
    let one = sym c.len.ensures.len ∙ c.if-len-ne1.false in
    let seen = one_member c.args.members.now.entries (c.in-Some.form.now, c.in-Some.value.now) one c.in-Some.ensures.first in
    rw seen (rw c.as_str.ensures.value at c.read_form.ensures)
