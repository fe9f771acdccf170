use Rattle.std.proofs.Common.{◌≡◌, ◌∙◌, take, drop, refl, sym, inr}
use Rattle.std.proofs.lemmas.List.{take-append-drop}
use Rattle.dsql_run_outcome.specs.Notes.{usage_note}
use Rattle.dsql_run_outcome.proofs.notes.tell_usage.Goals as goal

pub returns-in-Err : goal.returns-in-Err
returns-in-Err g c =
    let text : c.as_bytes.result.now ≡ usage_note = c.as_bytes.ensures.value in
    record {
      told = λ h. absurd (cc h);
      status_is = inr refl;
      front = λ h. record {
        front = take c.in-Err.field-0.written c.as_bytes.result.now;
        begins = record {
          rest = drop c.in-Err.field-0.written c.as_bytes.result.now;
          parts = sym text ∙ sym (take-append-drop c.in-Err.field-0.written c.as_bytes.result.now);
        };
        written = c.in-Err.ensures.front;
      };
      caused = λ h. c.in-Err.ensures.caused;
      well = λ h. absurd (cc h);
    }
