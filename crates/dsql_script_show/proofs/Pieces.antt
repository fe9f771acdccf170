-- A report is written piece by piece. The argument: the text of the first events is followed by that of the next ones.
use Rattle.std.proofs.Common.{◌≡◌, ℕ, ◌+◌, ◌-◌, ◌≤◌, List, ◌++◌, [], Option, refl, ap, sym, ◌∙◌, arith, length, take, drop, length-append}
use Rattle.std.specs.Prelude.{reverse}
use Rattle.std.proofs.lemmas.List.{append_assoc, reverse-append, take_all}
use Rattle.std.proofs.Math.Seq.{take-add}
use Rattle.dsql_history.specs.declared.event.Event.{Event}
use Rattle.dsql_script_report.specs.Lines.{text_of}
use Rattle.dsql_script_show.specs.Report.{StopsBetween, with_text}
use Rattle.dsql_script_show.proofs.Texts.{oldest_of, text_on, text_rest, with_both}

-- The text of the first b events is that of the first a, followed by that of those between.
text_to : (a b : ℕ) (events : List Event) → a ≤ b → text_of (reverse (take b events)) ≡ text_of (reverse (take a events)) ++ text_of (reverse (take (b - a) (drop a events)))
text_to a b events within =
    let between = take (b - a) (drop a events) in
    let sum : b ≡ a + (b - a) = omega (arith, within) in
    let parts : take b events ≡ take a events ++ between = ap (λ (k : ℕ). take k events) sum ∙ take-add a (b - a) events in
    ap (λ es. text_of (reverse es)) parts ∙ ap text_of (reverse-append (take a events) between) ∙ text_on (reverse between) (reverse (take a events))

-- The text of all events that were written is the text itself.
pub all_shown : (now w : Option (List ℕ)) (n : ℕ) (events : List Event) → length events ≤ n → now ≡ with_text w (text_of (reverse (take n events))) → now ≡ with_text w (text_of (reverse events))
all_shown now w n events within is = is ∙ ap (λ es. with_text w (text_of (reverse es))) (take_all n events within)

module _ (w now next : Option (List ℕ)) (a b : ℕ) (events : List Event) (within : a ≤ b) (was : now ≡ with_text w (text_of (reverse (take a events)))) where
  -- The sink holds the text of the first b events after the piece between was written.
  pub shows_piece : next ≡ with_text now (text_of (reverse (take (b - a) (drop a events)))) → next ≡ with_text w (text_of (reverse (take b events)))
  shows_piece is =
      is
      ∙ rw was (with_both w (text_of (reverse (take a events))) (text_of (reverse (take (b - a) (drop a events)))))
      ∙ ap (with_text w) (sym (text_to a b events within))

  -- If the sink stopped in the text of a piece, it stopped in that of all events.
  pub stops_in_piece : StopsBetween now [] (text_of (reverse (take (b - a) (drop a events)))) next → StopsBetween w [] (text_of (reverse events)) next
  stops_in_piece f =
      let shown = text_of (reverse (take a events)) in
      let piece = text_of (reverse (take (b - a) (drop a events))) in
      let later = text_of (reverse (drop b events)) in
      let whole : text_of (reverse events) ≡ (shown ++ piece) ++ later = text_rest b events ∙ ap (λ es. text_of es ++ later) (oldest_of b events) ∙ ap (λ t. t ++ later) (text_to a b events within) in
      record {
        front = shown ++ f.front;
        holds = record { rest = shown ++ f.front; parts = refl };
        begins = record {
          rest = f.begins.rest ++ later;
          parts = whole
              ∙ ap (λ t. (shown ++ t) ++ later) f.begins.parts
              ∙ ap (λ t. t ++ later) (sym (append_assoc shown f.front f.begins.rest))
              ∙ append_assoc (shown ++ f.front) f.begins.rest later;
        };
        short = omega (arith, f.short, ap length whole, length-append (shown ++ piece) later, length-append shown piece, length-append shown f.front);
        written = f.written ∙ rw was (with_both w shown f.front);
      }
