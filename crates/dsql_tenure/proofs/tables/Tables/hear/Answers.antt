use Rattle.std.proofs.Common.{ℕ, ◌==◌, List, Option, refl, ap, ◌∙◌, arith}
use Rattle.std.proofs.lemmas.Bool.Decides.{nat_tests}
use Rattle.std.specs.List.{list_all}
use Rattle.dsql_tenure_journal.specs.Readers as told
use Rattle.dsql_tenure_journal.specs.Journal.{may_follow, is_journal_prefix}
use Rattle.dsql_tenure_journal.specs.Facts.{MayFollow}
use Rattle.dsql_tenure_journal.proofs.Conjunctions.{join2}
use Rattle.dsql_tenure_journal.proofs.Sentences.{MayFollow-of}
use Rattle.dsql_tenure_asked.specs.declared.live.Handle.{Handle}
use Rattle.dsql_tenure_asked.specs.declared.live.Cursor.{Cursor}
use Rattle.dsql_tenure.specs.Flags.{bad_with}
use Rattle.dsql_tenure.specs.Heard as heard
use Rattle.dsql_tenure.specs.Open.{open_after}
use Rattle.dsql_tenure.specs.Tables.{past, Stands}
use Rattle.dsql_tenure.proofs.Keeping.{keeps_of}
use Rattle.dsql_tenure.proofs.Standing.{stands-follows}
use Rattle.dsql_tenure.proofs.Hearing.{kept_handles, kept_cursors, first_bad, so_far_with, has_begun, count_begun, begins_new}
use Rattle.dsql_tenure.proofs.tables.Tables.hear.Goals as goal

pub so_far_of-requires-clause-last : goal.so_far_of-requires-clause-last
so_far_of-requires-clause-last c =
    let m : MayFollow (past c.args.self.now) c.args.entry.now = MayFollow-of (past c.args.self.now) c.args.entry.now (stands-follows c.args.self.now c.requires.stands c.args.entry.now c.requires.follows).1 in
    grind (arith, nat_tests, m.whole_journal.rising)

pub hear_begun-requires-clause-new : goal.hear_begun-requires-clause-new
hear_begun-requires-clause-new c =
    λ is.
    (keeps_of c.args.self.now c.requires.stands).begun c.args.entry.now.tx
    ∙ begins_new c.args.entry.now (past c.args.self.now) (keeps_of c.args.self.now c.requires.stands).prefix (stands-follows c.args.self.now c.requires.stands c.args.entry.now c.requires.follows).1 is

pub returns-clause-stands : goal.returns-clause-stands
unfolding Stands
returns-clause-stands c =
    let t = c.args.self.now in
    let e = c.args.entry.now in
    let k = keeps_of t c.requires.stands in
    let j = past t in
    let longer = c.then-past.ensures in
    let follows = stands-follows t c.requires.stands e c.requires.follows in
    rw longer (record {
      prefix = join2 (may_follow j e) (is_journal_prefix j) follows.1 k.prefix;
      one = join2 (e.conn == t.conn) (list_all (λ x. x.conn == t.conn) j) follows.0 k.one;
      tenure = refl;
      so_far = c.then-so_far.ensures (told.of_tenure e.tenure j) c.so_far_of.ensures ∙ so_far_with e j;
      refused = rw (c.was_refused.ensures, k.refused) refl;
      shut = rw (c.is_shut.ensures, k.shut) refl;
      bad_tenure = c.bad_with-self.ensures ∙ ap (λ (o : Option ℕ). bad_with o e) k.bad_tenure ∙ first_bad e j;
      invalid = rw (c.is_invalid.ensures, k.invalid) refl;
      handles = c.hear_handles.ensures.items ∙ ap (λ (hs : List Handle). heard.handles_with (heard.prepared_by e.call e.answer) (heard.closed_by e.call) e hs) k.handles ∙ kept_handles e (told.handles j);
      cursors = c.hear_cursors.ensures.items ∙ ap (λ (cs : List Cursor). heard.cursors_with (heard.opened_by e.call e.answer) (heard.freed_by e.call) (heard.finished_by e.call e.answer) e cs) k.cursors ∙ kept_cursors e (told.cursors j);
      unended = c.hear_open.ensures.items ∙ ap (λ (ns : List ℕ). open_after e ns) k.unended;
      begun = λ n. c.hear_begun.ensures.numbers n ∙ has_begun n e j _ (k.begun n);
      count = c.hear_begun.ensures.count ∙ count_begun e j _ k.count;
      room = record {
        handles = omega arith;
        cursors = omega arith;
        unended = omega arith;
        begun = omega arith;
      };
    })
