-- Proves that an event's line is read as this event, and that a refused line has the fault for which it is
-- refused. The argument follows the reader's tests in order.
use Rattle.std.proofs.Common.{◌≡◌, ℕ, ◌≤◌, List, false, ◌<◌, length, Bool, inl, inr, ◌≢◌, ◌⊎◌, [], ◌∷◌, ◌++◌, true, ◌&&◌, Option, Some, None, Ok, Err, IfOk, IfErr, refl, ap, sym, subst, ◌∙◌, arith}
use Rattle.std.specs.Prelude.{◌↔◌, IsTrue}
use Rattle.std.proofs.lemmas.Bool.{cases_lt, cases_Bool, and_parts, lt-ltb, le-ltb}
use Rattle.dsql_script_event_lines.specs.Bounds.{most_bytes}
use Rattle.std.specs.Str.{IsUtf8, bytes_eq, is_utf8}
use Rattle.std.proofs.lemmas.List.{append_cancel_right}
use Rattle.std.proofs.lemmas.Slice.Eq.{bytes_eq-Decides}
use Rattle.std.proofs.lemmas.Str.{IsUtf8-from_is_utf8, is_utf8-from_IsUtf8}
use Rattle.serde_json.specs.Data.{Data}
use Rattle.serde_json.specs.Read.{read, max_depth}
use Rattle.serde_json.specs.Written.{compact_text}
use Rattle.dsql_history.specs.pool.declared.moves.Move.{Move}
use Rattle.dsql_history.specs.pool.declared.moves.Move.TheVariants.{Back}
use Rattle.dsql_script_event_reader.specs.Fits.{shown_move, Fits, shown}
use Rattle.dsql_history.specs.declared.event.Event.{Event}
use Rattle.dsql_history.specs.declared.event.Event.TheVariants.{Pool, Ended}
use Rattle.dsql_script_forms.specs.declared.fault.LineFault.{LineFault}
use Rattle.dsql_script_forms.specs.declared.fault.LineFault.TheVariants.{TooLong, NotUtf8, BadJson, BadShape, Memory}
use Rattle.dsql_script_forms.specs.Outcomes.{IsReading}
use Rattle.dsql_script_report.specs.Lines.{move_data, json_of, line_of}
use Rattle.dsql_script_read_back.proofs.ReadTexts.{deeper, text_is_read}
use Rattle.dsql_script_event_lines.specs.WellFormed.{is_well_formed}
use Rattle.dsql_script_event_reader.specs.Events.{Reading, event_of, if_spelled, of_event, of_data, text_event, reading_of}
use Rattle.dsql_script_event_reader.specs.Refusals.{IsLine, Tells, Refuses}
use Rattle.dsql_script_event_reader.proofs.EventsBack.{event_is_read_back, event_is_read}

-- The length of a line that isn't refused as too long.

pub not_too_long : (line : List ℕ) (is : Bool) → (IsTrue is ↔ (most_bytes < length line)) → is ≡ false → length line ≤ most_bytes
not_too_long line is tells short = elim (cases_lt most_bytes (length line)) [
  | inl more ↦ let long = tells.1 more in absurd cc
  | inr few ↦ few
]

-- What the line doesn't show of an event doesn't change its spelling.

same_move : (m : Move) → move_data (shown_move m) ≡ move_data m
same_move (Back conn) = refl
same_move _ = refl

same_data : (e : Event) → json_of (shown e) ≡ json_of e
same_data (Pool move) = same_move move
same_data Ended = refl
same_data _ = refl

spelled : (text : List ℕ) (e : Event) → is_well_formed e ≡ true → IsLine text e → if_spelled text e ≡ Ok e
spelled text e named is = rw (named, (bytes_eq-Decides (line_of e) (text ++ 10 ∷ [])).1 is) refl

same_names : (e : Event) → is_well_formed (shown e) ≡ is_well_formed e
same_names (Pool move) = refl
same_names Ended = refl
same_names _ = refl

pub text_is_read_back : (e : Event) → Fits e → (text : List ℕ) → IsLine text e → text_event text ≡ Ok (shown e)
text_is_read_back e fits text is =
    let own : compact_text (json_of e) ≡ text = append_cancel_right (compact_text (json_of e)) text (10 ∷ []) is in
    let seen : read text ≡ Some (json_of e) = ap read (sym own) ∙ text_is_read (json_of e) (deeper 5 max_depth (json_of e) (omega arith) (event_is_read e fits.1)) in
    let line : IsLine text (shown e) = ap (λ d. compact_text d ++ 10 ∷ []) (same_data e) ∙ is in
    ap (of_data text) seen ∙ ap (of_event text) (event_is_read_back e fits.0 fits.1) ∙ spelled text (shown e) (same_names e ∙ fits.0) line

pub line_tells_its_event : (e f : Event) → Fits e → Fits f → line_of e ≡ line_of f → shown e ≡ shown f
line_tells_its_event e f fits other same =
    let text = compact_text (json_of e) in
    let first : text_event text ≡ Ok (shown e) = text_is_read_back e fits text refl in
    let second : text_event text ≡ Ok (shown f) = text_is_read_back f other text (sym same) in
    cc

-- What a line reads as if it is short enough, by whether it is text.

pub text_is_its_event : (line : List ℕ) → length line ≤ most_bytes → IsUtf8 line → reading_of line ≡ text_event line
text_is_its_event line few utf8 = rw (le-ltb most_bytes (length line) few, is_utf8-from_IsUtf8 line utf8) refl

not_utf8 : (line : List ℕ) → ¬ (IsUtf8 line) → is_utf8 line ≡ false
not_utf8 line bytes = elim (cases_Bool (is_utf8 line)) [ inl is ↦ absurd (bytes (IsUtf8-from_is_utf8 line is)) | inr is ↦ is ]

pub bytes_are_refused : (line : List ℕ) → length line ≤ most_bytes → ¬ (IsUtf8 line) → reading_of line ≡ Err NotUtf8
bytes_are_refused line few bytes = rw (le-ltb most_bytes (length line) few, not_utf8 line bytes) refl

pub line_is_read_back : (e : Event) → Fits e → (line : List ℕ) → IsLine line e → length line ≤ most_bytes → IsUtf8 line → reading_of line ≡ Ok (shown e)
line_is_read_back e fits line is few utf8 = text_is_its_event line few utf8 ∙ text_is_read_back e fits line is

-- What follows from the result of a reading.

same_fault : (f g : LineFault) → ◌≡◌ {A = Reading} (Err f) (Err g) → f ≡ g
same_fault f g e = cc

module _ (line : List ℕ) where
  by_spelling : (e : Event) (r : Reading) → if_spelled line e ≡ r → ((r ≡ Ok e) × IsLine line e × (is_well_formed e ≡ true)) ⊎ (r ≡ Err BadShape)
  by_spelling e r is = elim (cases_Bool (is_well_formed e && bytes_eq (line_of e) (line ++ 10 ∷ []))) [
    | inl both ↦
        let ok : if_spelled line e ≡ Ok e = rw both refl in
        let parts = and_parts (is_well_formed e) (bytes_eq (line_of e) (line ++ 10 ∷ [])) both in
        inl (sym is ∙ ok, (bytes_eq-Decides (line_of e) (line ++ 10 ∷ [])).0 parts.1, parts.0)
    | inr other ↦ let bad : if_spelled line e ≡ Err BadShape = rw other refl in inr (sym is ∙ bad)
  ]

  of_event_fault : (o : Option Event) (f : LineFault) → of_event line o ≡ Err f → f ≡ BadShape
  of_event_fault None f is = cc
  of_event_fault (Some e) f is = elim (by_spelling e (Err f) is) [ inl ok ↦ let clash = ok.0 in absurd cc | inr bad ↦ same_fault f BadShape bad ]

  -- Holds if the line is the event's and the event's labels are names.
  abbrev Told : Event → Type 0
  Told e = IsLine line e × (is_well_formed e ≡ true)

  of_event_line : (o : Option Event) (e : Event) → of_event line o ≡ Ok e → Told e
  of_event_line None e is = absurd cc
  of_event_line (Some e') e is = elim (by_spelling e' (Ok e) is) [
    | inl ok ↦ let same : e ≡ e' = cc in subst Told (sym same) (ok.1, ok.2)
    | inr bad ↦ absurd cc
  ]

  of_data_line : (o : Option Data) (e : Event) → of_data line o ≡ Ok e → Told e
  of_data_line None e is = absurd cc
  of_data_line (Some d) e is = of_event_line (event_of d) e is

  -- A refused text is the line of no event that fits, since the reader would read that event.
  unspelled : (f : LineFault) → text_event line ≡ Err f → (e : Event) → Fits e → ¬ (IsLine line e)
  unspelled f is e fits told = let read_so = text_is_read_back e fits line told in absurd cc

  module _ (few : length line ≤ most_bytes) (utf8 : IsUtf8 line) where
    by_data : (o : Option Data) (f : LineFault) → read line ≡ o → of_data line o ≡ Err f → text_event line ≡ Err f → Refuses f line
    by_data None f seen is whole = subst (λ g. Refuses g line) (same_fault BadJson f is) (few, utf8, seen)
    by_data (Some d) f seen is whole = subst (λ g. Refuses g line) (sym (of_event_fault (event_of d) f is)) (few, utf8, (λ none. absurd cc), unspelled f whole)

    text_refusal : (f : LineFault) → text_event line ≡ Err f → Refuses f line
    text_refusal f is = by_data (read line) f refl is is

  long : most_bytes < length line → reading_of line ≡ Err TooLong
  long more = rw (lt-ltb most_bytes (length line) more) refl

  -- A refused line has its fault, whether it is too long, isn't text, or is text.
  refusal : (f : LineFault) → reading_of line ≡ Err f → Refuses f line
  refusal f is = elim (cases_lt most_bytes (length line)) [
    | inl more ↦ subst (λ g. Refuses g line) (same_fault TooLong f (sym (long more) ∙ is)) more
    | inr few ↦ elim (cases_Bool (is_utf8 line)) [
      | inl text ↦
          let utf8 : IsUtf8 line = IsUtf8-from_is_utf8 line text in
          text_refusal few utf8 f (sym (text_is_its_event line few utf8) ∙ is)
      | inr not ↦
          let bytes : ¬ (IsUtf8 line) = λ utf8. let clash = is_utf8-from_IsUtf8 line utf8 in absurd cc in
          subst (λ g. Refuses g line) (same_fault NotUtf8 f (sym (bytes_are_refused line few bytes) ∙ is)) (few, bytes)
    ]
  ]

  telling : (e : Event) → reading_of line ≡ Ok e → Tells line e
  telling e is = elim (cases_lt most_bytes (length line)) [
    | inl more ↦ let clash = sym (long more) ∙ is in absurd cc
    | inr few ↦ elim (cases_Bool (is_utf8 line)) [
      | inl text ↦
          let told = of_data_line (read line) e (sym (text_is_its_event line few (IsUtf8-from_is_utf8 line text)) ∙ is) in
          (few, told.0, told.1)
      | inr not ↦
          let bytes : ¬ (IsUtf8 line) = λ utf8. let clash = is_utf8-from_IsUtf8 line utf8 in absurd cc in
          let clash = sym (bytes_are_refused line few bytes) ∙ is in
          absurd cc
    ]
  ]

  pub refused_result : (r : Reading) → IsReading r (reading_of line) → IfErr r (λ f. f ≢ Memory → Refuses f line)
  refused_result (Ok e) is = tt
  refused_result (Err f) is = λ other. refusal f (is other)

  pub told_result : (r : Reading) → IsReading r (reading_of line) → IfOk r (λ e. Tells line e)
  told_result (Ok e) is = telling e is
  told_result (Err f) is = tt
