-- The text of a report is the lines of its events, one after another. So the text of a whole history is that of
-- the first events followed by that of the others.
use Rattle.std.proofs.Common.{◌≡◌, ℕ, ◌+◌, List, ◌++◌, Option, Some, None, refl, ap, ◌-◌, ◌<◌, ◌≤◌, [], ◌∷◌, length, take, drop, sym, subst, ◌∙◌, arith, length-append, length-drop}
use Rattle.std.proofs.lemmas.List.{append_assoc, reverse-append, reverse-reverse, append-nil, drop-drop, length-reverse, take-append-drop, take_all}
use Rattle.dsql_script_show.specs.Report.{with_text, StopsBetween, oldest, Shows}
use Rattle.std.specs.Prelude.{reverse}
use Rattle.dsql_history.specs.declared.event.Event.{Event}
use Rattle.serde_json.specs.Written.{compact_text}
use Rattle.dsql_script_report.specs.Lines.{json_of, line_of, text_of}
use Rattle.dsql_history.specs.Trimmed.{IsLeftOf}

pub with_both : (w : Option (List ℕ)) (a b : List ℕ) → with_text (with_text w a) b ≡ with_text w (a ++ b)
with_both None a b = refl
with_both (Some bytes) a b = ap Some (append_assoc bytes a b)

pub with_nothing : (w : Option (List ℕ)) → w ≡ with_text w []
with_nothing None = refl
with_nothing (Some bytes) = ap Some (sym (append-nil bytes))

-- The text of a history that goes on is its text followed by that of the added events.
pub text_on : (added past : List Event) → text_of (added ++ past) ≡ text_of past ++ text_of added
text_on [] past = sym (append-nil (text_of past))
text_on (e ∷ added) past = rw (text_on added past) (append_assoc (text_of past) (text_of added) (line_of e))

pub oldest_of : (n : ℕ) (events : List Event) → oldest n (reverse events) ≡ reverse (take n events)
oldest_of n events = rw (reverse-reverse events) refl

-- The text of all events is that of the first n followed by that of the others.
pub text_rest : (n : ℕ) (events : List Event) → text_of (reverse events) ≡ text_of (oldest n (reverse events)) ++ text_of (reverse (drop n events))
text_rest n events =
    ap text_of (ap reverse (sym (take-append-drop n events)) ∙ reverse-append (take n events) (drop n events))
    ∙ text_on (reverse (drop n events)) (reverse (take n events))
    ∙ ap (λ es. text_of es ++ text_of (reverse (drop n events))) (sym (oldest_of n events))

some_text : (events : List Event) → 0 < length events → 0 < length (text_of (reverse events))
some_text [] some = absurd (omega (arith, some))
some_text (e ∷ events) some =
    let parts : text_of (reverse (e ∷ events)) ≡ line_of e ++ text_of (reverse events) = ap text_of (reverse-append (e ∷ []) events) ∙ text_on (reverse events) (e ∷ []) in
    omega (arith, ap length parts, length-append (line_of e) (text_of (reverse events)), length-append (compact_text (json_of e)) (10 ∷ []))

-- Nothing of the text of some events was written.
pub stops_before : (w : Option (List ℕ)) (events : List Event) → 0 < length events → StopsBetween w [] (text_of (reverse events)) w
stops_before w events some = record {
  front = [];
  holds = record { rest = []; parts = refl };
  begins = record { rest = text_of (reverse events); parts = refl };
  short = some_text events some;
  written = with_nothing w;
}

-- The sink stopped in the text of the events that come next.
pub stops_next : (w now next : Option (List ℕ)) (n : ℕ) (events : List Event) → Shows w n (reverse events) now → StopsBetween now [] (text_of (reverse (drop n events))) next
    → StopsBetween w (text_of (oldest n (reverse events))) (text_of (reverse events)) next
stops_next w now next n events shows f =
    let shown = text_of (oldest n (reverse events)) in
    let more = text_of (reverse (drop n events)) in
    record {
      front = shown ++ f.front;
      holds = record { rest = f.front; parts = refl };
      short = omega (arith, f.short, ap length (text_rest n events), length-append shown more, length-append shown f.front);
      begins = record { rest = f.begins.rest; parts = text_rest n events ∙ ap (λ t. shown ++ t) f.begins.parts ∙ sym (append_assoc shown f.front f.begins.rest) };
      written = f.written ∙ rw shows (with_both w shown f.front);
    }

-- The slice from n on holds the events after the first n.
pub slice_rest : (n : ℕ) (events : List Event) → take (length events - n) (drop n events) ≡ drop n events
slice_rest n events = take_all (length events - n) (drop n events) (omega (arith, length-drop n events))

-- All events were shown.
pub shows_next : (w now next : Option (List ℕ)) (n : ℕ) (events : List Event) → Shows w n (reverse events) now → next ≡ with_text now (text_of (reverse (drop n events))) → next ≡ with_text w (text_of (reverse events))
shows_next w now next n events shows is =
    is ∙ rw shows (with_both w (text_of (oldest n (reverse events))) (text_of (reverse (drop n events)))) ∙ ap (with_text w) (sym (text_rest n events))

-- The first `trimmed` events of the history were trimmed, and the others are kept.

pub left_rest : (past kept : List Event) (trimmed n : ℕ) → IsLeftOf past trimmed kept → trimmed ≤ n → drop (n - trimmed) kept ≡ drop n (reverse past)
left_rest past kept trimmed n left more =
    ap (drop (n - trimmed)) left.rest ∙ (drop-drop (n - trimmed) trimmed (reverse past) ∙ ap (λ (k : ℕ). drop k (reverse past)) (omega (arith, more)))

-- The length of the history is that of what was trimmed and what is left.
pub left_length : (past kept : List Event) (trimmed : ℕ) → IsLeftOf past trimmed kept → trimmed + length kept ≡ length past
left_length past kept trimmed left = omega (arith, ap length left.rest, length-drop trimmed (reverse past), length-reverse past, left.within)

module _ (w now next : Option (List ℕ)) (n trimmed : ℕ) (past kept : List Event) (left : IsLeftOf past trimmed kept) (more : trimmed ≤ n) (shows : Shows w n past now) where
  as_it_came : Shows w n (reverse (reverse past)) now
  as_it_came = subst (λ (P : List Event). Shows w n P now) (sym (reverse-reverse past)) shows

  -- All events were shown.
  pub shows_left : next ≡ with_text now (text_of (reverse (drop (n - trimmed) kept))) → next ≡ with_text w (text_of past)
  shows_left is =
      subst (λ (P : List Event). next ≡ with_text w (text_of P)) (reverse-reverse past)
      (shows_next w now next n (reverse past) as_it_came (subst (λ (es : List Event). next ≡ with_text now (text_of (reverse es))) (left_rest past kept trimmed n left more) is))

  -- The sink stopped in the text of the events that come next.
  pub stops_left : StopsBetween now [] (text_of (reverse (drop (n - trimmed) kept))) next → StopsBetween w (text_of (oldest n past)) (text_of past) next
  stops_left f =
      subst (λ (P : List Event). StopsBetween w (text_of (oldest n P)) (text_of P) next) (reverse-reverse past)
      (stops_next w now next n (reverse past) as_it_came (subst (λ (es : List Event). StopsBetween now [] (text_of (reverse es)) next) (left_rest past kept trimmed n left more) f))
