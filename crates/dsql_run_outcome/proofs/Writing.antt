-- What was written of a history that grows. The argument compares the events that were shown with the first
-- events of the longer history.
use Rattle.std.proofs.Common.{◌≡◌, ℕ, ◌≤◌, List, [], ◌++◌, Option, Some, None, length, take, drop, refl, sym, ap, ◌∙◌, arith}
use Rattle.std.specs.Prelude.{reverse, IfErr, OnErr, OnOk, Result, Ok, Err}
use Rattle.std.proofs.lemmas.List.{append_assoc, append-nil, reverse-append, reverse-reverse, length-reverse, take-append-le, take-append-drop, take_all}
use Rattle.dsql_hall.specs.history.declared.event.Event.{Event}
use Rattle.dsql_hall.specs.player_wires.Extends.{Extends}
use Rattle.dsql_hall.specs.player.declared.halt.Halt.{Halt}
use Rattle.dsql_hall.specs.player.declared.halt.Halt.TheVariants as halts
use Rattle.dsql_script_report.specs.Lines.{text_of}
use Rattle.dsql_script_show.specs.Report.{with_text, ShowsFront, StopsBetween, oldest, Shows}
use Rattle.dsql_script_show.proofs.Texts.{text_on}
use Rattle.dsql_script_source.specs.declared.stop.Stop.{Stop}
use Rattle.dsql_script_source.specs.declared.stop.Stop.TheVariants.{Write, Memory}
use Rattle.dsql_run_outcome.specs.Runs.{IsPlayStop, IsShowStop, Wrote, stop_of_halt}

pub no_text : (w : Option (List ℕ)) → with_text w [] ≡ w
no_text None = refl
no_text (Some bytes) = ap Some (append-nil bytes)

-- The first events of a history stay the same as it grows.
pub oldest_older : (n : ℕ) (old new : List Event) → Extends old new → n ≤ length old → oldest n new ≡ oldest n old
oldest_older n old new e within =
    rw (e.whole, reverse-append e.added old) (ap reverse (take-append-le n (reverse old) (reverse e.added) (omega (arith, within, length-reverse old))))

pub oldest_all : (past : List Event) → oldest (length past) past ≡ past
oldest_all past = ap reverse (take_all (length past) (reverse past) (omega (arith, length-reverse past))) ∙ reverse-reverse past

pub wrote_all : (w now : Option (List ℕ)) (n : ℕ) (past : List Event) → n ≡ length past → now ≡ with_text w (text_of past) → Shows w n past now
wrote_all w now n past all is = is ∙ rw (all, oldest_all past) refl

-- A beginning of a history's text is a beginning of the text after it grows.
pub front_of_older : (w now : Option (List ℕ)) (old new : List Event) → Extends old new → ShowsFront w (text_of old) now → ShowsFront w (text_of new) now
front_of_older w now old new e f = record {
  front = f.front;
  begins = record {
    rest = f.begins.rest ++ text_of e.added;
    parts = rw e.whole (text_on e.added old ∙ ap (λ t. t ++ text_of e.added) f.begins.parts ∙ append_assoc f.front f.begins.rest (text_of e.added));
  };
  written = f.written;
}

-- The text of the first events is a beginning of the whole text.
pub front_of_shown : (w now : Option (List ℕ)) (n : ℕ) (past : List Event) → Shows w n past now → ShowsFront w (text_of past) now
front_of_shown w now n past shows = record {
  front = text_of (oldest n past);
  begins = record {
    rest = text_of (reverse (drop n (reverse past)));
    parts = ap text_of (sym (reverse-reverse past) ∙ ap reverse (sym (take-append-drop n (reverse past))) ∙ reverse-append (take n (reverse past)) (drop n (reverse past)))
        ∙ text_on (reverse (drop n (reverse past))) (reverse (take n (reverse past)));
  };
  written = shows;
}

-- If all of a history was shown, and it then grew until the run had to stop, what was written still fits.
pub wrote_halted : (h : Halt) (w now : Option (List ℕ)) (n : ℕ) (old new : List Event) → Extends old new → n ≡ length old → now ≡ with_text w (text_of old) → Wrote (Err (stop_of_halt h)) w n new now
wrote_halted halts.Memory w now n old new e all is =
    front_of_older w now old new e (record { front = text_of old; begins = record { rest = []; parts = sym (append-nil (text_of old)) }; written = is })
wrote_halted halts.Full w now n old new e all is =
    is ∙ rw (all, oldest_older (length old) old new e (omega arith), oldest_all old) refl

-- A sink that stopped holds a beginning of the text.
pub front_of_stop : (w now : Option (List ℕ)) (least text : List ℕ) → StopsBetween w least text now → ShowsFront w text now
front_of_stop w now least text stop = record { front = stop.front; begins = stop.begins; written = stop.written }

-- If all events were shown, or the sink stopped, this was written.
pub wrote_shown : (r : Result (Unit {0}) Stop) (w now : Option (List ℕ)) (n m : ℕ) (past : List Event) → IfErr r IsShowStop → OnOk r (n ≡ length past) → OnOk r (now ≡ with_text w (text_of past))
    → OnErr r (StopsBetween w (text_of (oldest m past)) (text_of past) now) → Wrote r w n past now
wrote_shown (Ok done) w now n m past kind all is stop = wrote_all w now n past all is
wrote_shown (Err Write) w now n m past kind all is stop = front_of_stop w now (text_of (oldest m past)) (text_of past) stop
wrote_shown (Err Memory) w now n m past kind all is stop = front_of_stop w now (text_of (oldest m past)) (text_of past) stop
wrote_shown (Err _) w now n m past kind all is stop = absurd kind

-- What stops events from being shown also stops a line.
pub show_stops : (stop : Stop) → IsShowStop stop → IsPlayStop stop
show_stops Write kind = tt
show_stops Memory kind = tt
show_stops _ kind = absurd kind

pub shown_kinds : (r : Result (Unit {0}) Stop) → IfErr r IsShowStop → IfErr r IsPlayStop
shown_kinds (Ok done) kind = tt
shown_kinds (Err stop) kind = show_stops stop kind

-- If all events were shown, what was written is right, whatever stops the run then.
pub wrote_at_rest : (r : Result (Unit {0}) Stop) (w now : Option (List ℕ)) (n : ℕ) (past : List Event) → n ≡ length past → now ≡ with_text w (text_of past) → Wrote r w n past now
wrote_at_rest (Err Write) w now n past all is = record { front = text_of past; begins = record { rest = []; parts = sym (append-nil (text_of past)) }; written = is }
wrote_at_rest (Err Memory) w now n past all is = record { front = text_of past; begins = record { rest = []; parts = sym (append-nil (text_of past)) }; written = is }
wrote_at_rest _ w now n past all is = is ∙ rw (all, oldest_all past) refl

pub all_shown : (w now : Option (List ℕ)) (n : ℕ) (past : List Event) → n ≡ length past → Shows w n past now → now ≡ with_text w (text_of past)
all_shown w now n past all shows = shows ∙ rw (all, oldest_all past) refl

-- If all of a history was shown, that many events of the longer history were shown.
pub shows_older_all : (w now : Option (List ℕ)) (n : ℕ) (old new : List Event) → Extends old new → n ≡ length old → now ≡ with_text w (text_of old) → Shows w n new now
shows_older_all w now n old new e all is = is ∙ rw (all, oldest_older (length old) old new e (omega arith), oldest_all old) refl

pub stops_after_older : (w now : Option (List ℕ)) (n : ℕ) (old new : List Event) → Extends old new → n ≡ length old → StopsBetween w (text_of (oldest n new)) (text_of new) now → StopsBetween w (text_of old) (text_of new) now
stops_after_older w now n old new e all stop =
    let same : oldest n new ≡ old = rw all (oldest_older (length old) old new e (omega arith) ∙ oldest_all old) in
    rw same at stop
