use Rattle.std.proofs.Common.{rules, ◌≡◌, ◌≢◌, [], ◌∷◌, ◌++◌, All, Some, length, vec_len, ap, ◌∙◌, arith}
use Rattle.std.proofs.lemmas.List.Elements.{All-append}
use Rattle.dsql_driver_stream.specs.Lines.{ahead}
use Rattle.dsql_driver_stream.proofs.HandingOut.{takes_byte_and_run, hands_out_ended, hands_out_last, hands_out_cut}
use Rattle.dsql_driver_stream.proofs.lines.LineReader.next_line.Goals as goal

pub returns-in-Some-eq10-clause-handed_out : goal.returns-in-Some-eq10-clause-handed_out
returns-in-Some-eq10-clause-handed_out g c =
    let feed : c.in_ok-take_byte.field-0 ≡ Some 10 = cc in
    hands_out_ended c.loop-self.line.items _ (ahead c.loop-self.self (g.S.Source.left c.loop-self.source)) _ c.loop-self.invariant.feedless (omega arith)
    c.loop-self.invariant.taken (rw feed at c.in_ok-take_byte.ensures.byte)

pub returns-in-None-clause-handed_out : goal.returns-in-None-clause-handed_out
returns-in-None-clause-handed_out g c =
    let counted : vec_len c.loop-self.line ≡ length c.loop-self.line.items = omega arith in
    rw (c.is_empty.ensures, counted)
    (hands_out_last c.loop-self.line.items c.take_byte.new.self (g.S.Source.left c.take_byte.new.source) _
    (ahead c.loop-self.self (g.S.Source.left c.loop-self.source))
    c.loop-self.invariant.feedless (omega arith) (c.take_byte.ensures.none cc) c.loop-self.invariant.taken (rw c.in-None.is at c.in_ok-take_byte.ensures.byte))

pub returns-clause-handed_out : goal.returns-clause-handed_out
returns-clause-handed_out g c =
    hands_out_cut c.loop-self.line.items _ _ c.loop-self.invariant.feedless (omega arith) c.loop-self.invariant.taken

pub loop-self-preserved : goal.loop-self-preserved
loop-self-preserved g c =
    let run = c.take_run.ensures.run in
    let line : c.take_run.new.line.items ≡ (c.loop-self.line.items ++ c.in-Some.byte ∷ []) ++ run.0 = run.1 ∙ ap (λ l. l ++ run.0) c.push_reserved.ensures.items in
    let one : All (λ byte. byte ≢ 10) (c.in-Some.byte ∷ []) = search rules in
    record {
      taken = rw line (takes_byte_and_run c.loop-self.line.items run.0 c.in-Some.byte c.take_byte.new.self c.take_run.new.self (g.S.Source.left c.take_byte.new.source)
          _ (ahead c.loop-self.self (g.S.Source.left c.loop-self.source))
          c.loop-self.invariant.taken (rw c.in-Some.is at c.in_ok-take_byte.ensures.byte) run.2 c.take_run.ensures.ended);
      feedless = rw line (All-append (λ byte. byte ≢ 10) (c.loop-self.line.items ++ c.in-Some.byte ∷ []) run.0 (All-append (λ byte. byte ≢ 10) c.loop-self.line.items (c.in-Some.byte ∷ []) c.loop-self.invariant.feedless one) run.3);
      short = search rules;
      roomy = search rules;
      faultless = search rules;
      after_end = search rules;
      sees = search rules;
    }
