use Rattle.std.proofs.Common.{sym, ◌∙◌}
use Rattle.dsql_script_calls.proofs.Members.{Entry, two_members, named_of_members_other}
use Rattle.dsql_script_calls.proofs.args.read_members.Goals as goal

pub returns-then-len-ne2 : goal.returns-then-len-ne2
returns-then-len-ne2 c =
    rw (named_of_members_other c.args.members.now.entries (λ two. c.if-len-ne2.true (c.len.ensures.len ∙ two))) c.read_nameless.ensures

pub returns-in-Some-Some : goal.returns-in-Some-Some
returns-in-Some-Some c =
    let two = sym c.len.ensures.len ∙ c.if-len-ne2.false in
    let first : Entry = (c.in-Some-Some.first.now, c.in-Some-Some.arg.now) in
    let second : Entry = (c.in-Some-Some.second.now, c.in-Some-Some.name.now) in
    let seen = two_members c.args.members.now.entries first second two c.in-Some-Some.ensures.first c.in-Some-Some.ensures'.last in
    rw seen (rw (c.as_str.ensures.value, c.as_str-in-Some-Some.ensures.value) at c.read_named.ensures)
