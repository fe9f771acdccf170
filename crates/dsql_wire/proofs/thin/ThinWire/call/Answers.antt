use Rattle.std.proofs.Common.{◌≡◌, ◌∷◌, true, false, refl, sym, ◌∙◌, ap, subst}
use native.Mathlib.Omega.{arith}
use Rattle.dsql_driver.specs.Fits.{is_memory, is_fault}
use Rattle.dsql_driver.specs.Streams.{HasRisen}
use Rattle.dsql_driver.specs.Wires.{told_after}
use Rattle.dsql_tenure_journal.specs.HandlesAndCursors.{fits_at_its_place}
use Rattle.dsql_tenure_journal.specs.declared.entry.Entry.{Entry}
use Rattle.dsql_tenure.specs.Judged.{answered}
use Rattle.dsql_wire.specs.Journaled.{MayBeSent, Journaled}
use Rattle.dsql_wire.proofs.Answered.{makes, by_its_own}
use Rattle.dsql_wire.proofs.Fitting.{fits_made, same_beginning}
use Rattle.dsql_wire.proofs.Keeping.{agrees_made}
use Rattle.dsql_wire.proofs.thin.ThinWire.call.Goals as goal

pub note-requires-clause-follows : goal.note-requires-clause-follows
note-requires-clause-follows g c =
    let w = c.call-answer.ensures in
    let p = c.args.permit in
    let a = c.call-answer.result.answer in
    let m : is_memory a ≡ false = sym c.is_memory.ensures ∙ c.if-is_memory.false in
    let may : MayBeSent c.self.inside.journal.conn c.self.inside.journal.journal p = subst (λ (j : Journaled _). MayBeSent j.conn j.journal p) (sym c.self.view_is) c.requires in
    let fits : fits_at_its_place c.self.inside.journal.journal (answered p a) ≡ true = fits_made _ _ _ _ _ _ _ p a (answered p a) refl c.self.invariant m w.fitting w.handles w.cursors in
    same_beginning _ _ _ _ _ _ c.make_room.ensures.conn c.answered-entry.ensures c.make_room.ensures.journal (may a fits)

pub invariant_of-self-2 : goal.invariant_of-self-2
invariant_of-self-2 g c =
    let w = c.call-answer.ensures in
    let p = c.args.permit in
    let a = c.call-answer.result.answer in
    let m : is_memory a ≡ false = sym c.is_memory.ensures ∙ c.if-is_memory.false in
    let grows : c.note.new.self.journal ≡ c.answered-entry.result ∷ c.self.inside.journal.journal = c.note.ensures.journal ∙ ap (λ j. c.answered-entry.result ∷ j) c.make_room.ensures.journal in
    let conn : c.note.new.self.conn ≡ c.self.inside.journal.conn = c.note.ensures.conn ∙ c.make_room.ensures.conn in
    rw (grows, conn) (agrees_made _ _ _ _ _ _ _ _ p a c.answered-entry.result c.answered-entry.ensures c.self.invariant m w.told w.handles w.cursors)

pub returns-clause-calls : goal.returns-clause-calls
returns-clause-calls g c =
    let w = c.call-answer.ensures in
    let p = c.args.permit in
    let a = c.call-answer.result.answer in
    let m : is_memory a ≡ false = sym c.is_memory.ensures ∙ c.if-is_memory.false in
    let is : c.new.result ≡ answered p a = c.new.ensures ∙ c.answered-entry.ensures in
    let made = makes p a c.new.result is in
    let grows : c.note.new.self.journal ≡ c.new.result ∷ c.self.inside.journal.journal = c.note.ensures.journal ∙ ap (λ j. c.answered-entry.result ∷ j) c.make_room.ensures.journal ∙ ap (λ (e : Entry). e ∷ c.self.inside.journal.journal) (sym c.new.ensures) in
    let told : g.W.Wire.told c.call-answer.new.self ≡ told_after p.call c.new.result.answer (g.W.Wire.told c.self.inside.wire) = rw made.answer w.told in
    record {
      entry = by_its_own p a c.new.result is;
      fits = subst (λ (j : Journaled _). fits_at_its_place j.journal c.new.result ≡ true) c.self.view_is (fits_made _ _ _ _ _ _ _ p a c.new.result is c.self.invariant m w.fitting w.handles w.cursors);
      noted = grows ∙ ap (λ (j : Journaled _). c.new.result ∷ j.journal) c.self.view_is;
      told = told ∙ ap (λ (j : Journaled _). told_after p.call c.new.result.answer (g.W.Wire.told j.wire)) c.self.view_is;
      ok = c.requires;
      handed_back = tt;
      stray = λ it. cc;
      untouched = λ it. cc;
      memory = λ it. cc;
      err = tt;
      wants = λ it. cc;
      spare = let is : c.self.inside.journal.spare ≡ c.args.self.now.spare = ap (λ (j : Journaled _). j.spare) c.self.view_is in omega (arith, c.make_room.ensures.spare, c.note.ensures.spare);
      conn = c.note.ensures.conn ∙ c.make_room.ensures.conn ∙ ap (λ (j : Journaled _). j.conn) c.self.view_is;
      counted = rw (← c.self.view_is) w.counted;
      caused = λ fault. subst (λ (j : Journaled _). HasRisen (g.W.Wire.faults j.wire) (g.W.Wire.faults c.call-answer.new.self)) c.self.view_is (w.caused (ap is_fault (sym made.answer) ∙ fault));
      faultless = λ faultless. w.faultless (ap is_fault (sym made.answer) ∙ faultless) ∙ ap (λ (j : Journaled _). g.W.Wire.faults j.wire) c.self.view_is;
      refused = tt;
    }

pub returns-clause-copied : goal.returns-clause-copied
returns-clause-copied g c =
    let made = makes c.args.permit c.call-answer.result.answer c.new.result (c.new.ensures ∙ c.answered-entry.ensures) in
    c.call-answer.ensures.copied ∙ sym made.answer
