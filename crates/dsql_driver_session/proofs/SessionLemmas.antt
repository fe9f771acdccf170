-- A session's tables as numbers are given and closed, and as rows are given.
use Rattle.std.proofs.Common.{◌≡◌, ℕ, ◌+◌, List, [], ◌∷◌, ◌++◌, map, reverse, length, drop, Bool, true, false, cond, not, ◌&&◌, ◌||◌, Some, eqb, leb, eq-eqb, ap, sym, refl, ◌∙◌}
use Rattle.std.specs.List.{find, list_all, slice_get}
use Rattle.std.proofs.lemmas.Bool.{eqb-true, and_parts, or_parts, not-true}
use Rattle.std.proofs.lemmas.List.{map-append}
use Rattle.std.proofs.lemmas.Option.{none-some}
use Rattle.dsql_driver.specs.Wires.{LiveCursor, has_number, has_cursor, has_width}
use Rattle.dsql_value.specs.declared.value.Value.{Value}
use Rattle.dsql_driver_session.specs.Rows.{CursorState, are_wide, is_wide, next_row, advanced, with_advanced, without_cursor}
use Rattle.dsql_driver_session.specs.Session.{SessionState, AreSound, IsSound, are_within, are_distinct, without_handle, handles_of, cursors_of, cursor_of}
use Rattle.dsql_driver_session.specs.declared.session.Prepared.{Prepared}
use Rattle.dsql_driver_session.proofs.NumberLemmas.{map-filter, list_any-reverse, all-push, all-reverse, all-filter, above-all, within-push, distinct-push, distinct-filter}

abbrev pub handle_of : Prepared → ℕ
handle_of p = p.handle

abbrev number_of : CursorState → ℕ
number_of c = c.number

-- The rows after the first have as many values as all.
wide-drop : (width : ℕ) (rows : List (List Value)) → are_wide width rows ≡ true → are_wide width (drop 1 rows) ≡ true
wide-drop width [] h = refl
wide-drop width (row ∷ rows) h = (and_parts (eqb (length row) width) (are_wide width rows) h).1

-- The cursors stay wide as one of them gives its next row.
wide-advanced : (rows : ℕ) (cs : List CursorState) → list_all is_wide cs ≡ true → list_all is_wide (with_advanced rows cs) ≡ true
wide-advanced rows [] h = refl
wide-advanced rows (c ∷ cs) h =
    let both = and_parts (is_wide c) (list_all is_wide cs) h in
    step (eqb c.number rows) both.0 both.1 (wide-advanced rows cs both.1) where
      step : (b : Bool) → is_wide c ≡ true → list_all is_wide cs ≡ true → list_all is_wide (with_advanced rows cs) ≡ true → list_all is_wide (cond b (advanced c ∷ cs) (c ∷ with_advanced rows cs)) ≡ true
      step true here rest later = ap (λ b. b && list_all is_wide cs) (wide-drop c.width c.left here) ∙ rest
      step false here rest later = ap (λ b. b && list_all is_wide (with_advanced rows cs)) here ∙ later

-- A session stays sound as handles and cursors are given, used and closed.
pub AreSound-prepared : (last_handle : ℕ) (prepared : List Prepared) (last_cursor : ℕ) (cursors : List CursorState) (text : List ℕ) → AreSound last_handle prepared last_cursor cursors → AreSound (last_handle + 1) (prepared ++ (record { handle = last_handle + 1; text = text }) ∷ []) last_cursor cursors
AreSound-prepared last_handle prepared last_cursor cursors text h = record {
  handles_within = ap (are_within (last_handle + 1)) (map-append handle_of prepared _)
      ∙ within-push last_handle (map handle_of prepared) h.handles_within;
  cursors_within = h.cursors_within;
  distinct = h.distinct;
  wide = h.wide;
}

pub AreSound-closed : (last_handle : ℕ) (prepared : List Prepared) (last_cursor : ℕ) (cursors : List CursorState) (handle : ℕ) → AreSound last_handle prepared last_cursor cursors → AreSound last_handle (without_handle handle prepared) last_cursor cursors
AreSound-closed last_handle prepared last_cursor cursors handle h = record {
  handles_within = ap (are_within last_handle) (map-filter handle_of (λ n. not (eqb n handle)) prepared)
      ∙ all-filter (λ n. leb n last_handle) (λ n. not (eqb n handle)) (map handle_of prepared) h.handles_within;
  cursors_within = h.cursors_within;
  distinct = h.distinct;
  wide = h.wide;
}

pub AreSound-opened : (last_handle : ℕ) (prepared : List Prepared) (last_cursor : ℕ) (cursors : List CursorState) (width : ℕ) (rows : List (List Value)) → are_wide width rows ≡ true → AreSound last_handle prepared last_cursor cursors → AreSound last_handle prepared (last_cursor + 1) (cursors ++ (record { number = last_cursor + 1; width = width; left = rows }) ∷ [])
AreSound-opened last_handle prepared last_cursor cursors width rows wide h = record {
  handles_within = h.handles_within;
  cursors_within = ap (are_within (last_cursor + 1)) (map-append number_of cursors _)
      ∙ within-push last_cursor (map number_of cursors) h.cursors_within;
  distinct = ap are_distinct (map-append number_of cursors _)
      ∙ distinct-push (last_cursor + 1) (map number_of cursors) (above-all last_cursor (map number_of cursors) h.cursors_within) h.distinct;
  wide = all-push is_wide cursors _ h.wide wide;
}

pub AreSound-rows_closed : (last_handle : ℕ) (prepared : List Prepared) (last_cursor : ℕ) (cursors : List CursorState) (rows : ℕ) → AreSound last_handle prepared last_cursor cursors → AreSound last_handle prepared last_cursor (without_cursor rows cursors)
AreSound-rows_closed last_handle prepared last_cursor cursors rows h = record {
  handles_within = h.handles_within;
  cursors_within = ap (are_within last_cursor) (map-filter number_of (λ n. not (eqb n rows)) cursors)
      ∙ all-filter (λ n. leb n last_cursor) (λ n. not (eqb n rows)) (map number_of cursors) h.cursors_within;
  distinct = ap are_distinct (map-filter number_of (λ n. not (eqb n rows)) cursors)
      ∙ distinct-filter (λ n. not (eqb n rows)) (map number_of cursors) h.distinct;
  wide = all-filter is_wide (λ (c : CursorState). not (eqb c.number rows)) cursors h.wide;
}

-- A cursor that gives its next row keeps everything that doesn't depend on the rows that are left.
map-advanced : {B : Type 0} (f : CursorState → B) → ((c : CursorState) → f (advanced c) ≡ f c) → (rows : ℕ) (cs : List CursorState) → map f (with_advanced rows cs) ≡ map f cs
map-advanced f same rows [] = refl
map-advanced f same rows (c ∷ cs) = step (eqb c.number rows) (map-advanced f same rows cs) where
  step : (b : Bool) → map f (with_advanced rows cs) ≡ map f cs → map f (cond b (advanced c ∷ cs) (c ∷ with_advanced rows cs)) ≡ f c ∷ map f cs
  step true rest = ap (λ x. x ∷ map f cs) (same c)
  step false rest = ap (λ xs. f c ∷ xs) rest

pub AreSound-advanced : (last_handle : ℕ) (prepared : List Prepared) (last_cursor : ℕ) (cursors : List CursorState) (rows : ℕ) → AreSound last_handle prepared last_cursor cursors → AreSound last_handle prepared last_cursor (with_advanced rows cursors)
AreSound-advanced last_handle prepared last_cursor cursors rows h = record {
  handles_within = h.handles_within;
  cursors_within = ap (are_within last_cursor) (map-advanced number_of (λ c. refl) rows cursors) ∙ h.cursors_within;
  distinct = ap are_distinct (map-advanced number_of (λ c. refl) rows cursors) ∙ h.distinct;
  wide = wide-advanced rows cursors h.wide;
}

abbrev pub live_cursor : CursorState → LiveCursor
live_cursor c = (c.number, c.width)

pub cursors-advanced : (session : SessionState) (rows : ℕ) → cursors_of (record session { cursors = with_advanced rows session.cursors }) ≡ cursors_of session
cursors-advanced session rows = ap reverse (map-advanced live_cursor (λ c. refl) rows session.cursors)

pub handle_is_new : (session : SessionState) → IsSound session → has_number (session.last_handle + 1) (handles_of session) ≡ false
handle_is_new session h =
    list_any-reverse (λ n. eqb n (session.last_handle + 1)) (map handle_of session.prepared)
    ∙ above-all session.last_handle (map handle_of session.prepared) h.handles_within

has_cursor-numbers : (rows : ℕ) (cs : List CursorState) → has_cursor rows (map live_cursor cs) ≡ has_number rows (map number_of cs)
has_cursor-numbers rows [] = refl
has_cursor-numbers rows (c ∷ cs) = ap (λ b. eqb c.number rows || b) (has_cursor-numbers rows cs)

pub cursor_is_new : (session : SessionState) → IsSound session → has_cursor (session.last_cursor + 1) (cursors_of session) ≡ false
cursor_is_new session h =
    list_any-reverse (λ (c : LiveCursor). eqb c.0 (session.last_cursor + 1)) (map live_cursor session.cursors)
    ∙ has_cursor-numbers (session.last_cursor + 1) session.cursors
    ∙ above-all session.last_cursor (map number_of session.cursors) h.cursors_within

-- Is true if the cursor has another number, or has this width.
abbrev passes : ℕ → ℕ → LiveCursor → Bool
passes rows width c = not (eqb c.0 rows) || eqb c.1 width

others-pass : (rows width : ℕ) (cs : List CursorState) → has_number rows (map number_of cs) ≡ false → has_width rows width (map live_cursor cs) ≡ true
others-pass rows width [] h = refl
others-pass rows width (c ∷ cs) h =
    let both = or_parts (eqb c.number rows) (has_number rows (map number_of cs)) h in
    ap (λ b. (not b || eqb c.width width) && has_width rows width (map live_cursor cs)) both.0
    ∙ others-pass rows width cs both.1

-- Each cursor with a live cursor's number has its width, since it is the only one.
width-found : (rows : ℕ) (cs : List CursorState) (c : CursorState) → are_distinct (map number_of cs) ≡ true → find (λ (d : CursorState). eqb d.number rows) cs ≡ Some c → has_width rows c.width (map live_cursor cs) ≡ true
width-found rows [] c distinct here = absurd (none-some c here)
width-found rows (d ∷ cs) c distinct here =
    let both = and_parts (not (has_number d.number (map number_of cs))) (are_distinct (map number_of cs)) distinct in
    step (eqb d.number rows) refl (not-true _ both.0) (width-found rows cs c both.1) here where
      step : (b : Bool) → b ≡ eqb d.number rows → has_number d.number (map number_of cs) ≡ false → (find (λ (e : CursorState). eqb e.number rows) cs ≡ Some c → has_width rows c.width (map live_cursor cs) ≡ true) → cond b (Some d) (find (λ (e : CursorState). eqb e.number rows) cs) ≡ Some c → ((not b || eqb d.width c.width) && has_width rows c.width (map live_cursor cs)) ≡ true
      step true is new rest here =
          let same : d ≡ c = cc in
          let number : d.number ≡ rows = eqb-true d.number rows (sym is) in
          let width : eqb d.width c.width ≡ true = eq-eqb _ _ (ap (λ (e : CursorState). e.width) same) in
          ap (λ w. w && has_width rows c.width (map live_cursor cs)) width
          ∙ others-pass rows c.width cs (ap (λ n. has_number n (map number_of cs)) (sym number) ∙ new)
      step false is new rest here = rest here

-- A cursor that is found among wide ones is wide.
wide-found : (rows : ℕ) (cs : List CursorState) (c : CursorState) → list_all is_wide cs ≡ true → find (λ (d : CursorState). eqb d.number rows) cs ≡ Some c → is_wide c ≡ true
wide-found rows [] c h here = absurd (none-some c here)
wide-found rows (d ∷ cs) c h here =
    let both = and_parts (is_wide d) (list_all is_wide cs) h in
    step (eqb d.number rows) both.0 (wide-found rows cs c both.1) here where
      step : (b : Bool) → is_wide d ≡ true → (find (λ (e : CursorState). eqb e.number rows) cs ≡ Some c → is_wide c ≡ true) → cond b (Some d) (find (λ (e : CursorState). eqb e.number rows) cs) ≡ Some c → is_wide c ≡ true
      step true wide rest here =
          let same : d ≡ c = cc in
          ap is_wide (sym same) ∙ wide
      step false wide rest here = rest here

-- The first of rows with one value for each column has as many.
length-first : (width : ℕ) (rows : List (List Value)) (row : List Value) → slice_get rows 0 ≡ Some row → are_wide width rows ≡ true → length row ≡ width
length-first width [] row here h = absurd (none-some row here)
length-first width (r ∷ rows) row here h =
    let both = and_parts (eqb (length r) width) (are_wide width rows) h in
    let same : r ≡ row = cc in
    ap length (sym same) ∙ eqb-true (length r) width both.0

-- The next row of a live cursor has as many values as each live cursor of that number has columns.
pub next_row-width : (session : SessionState) (rows : ℕ) (c : CursorState) (row : List Value) → cursor_of rows session ≡ Some c → next_row c ≡ Some row → IsSound session → has_width rows (length row) (cursors_of session) ≡ true
next_row-width session rows c row here next h =
    let width : length row ≡ c.width = length-first c.width c.left row next (wide-found rows session.cursors c h.wide here) in
    ap (λ n. has_width rows n (cursors_of session)) width
    ∙ all-reverse (passes rows c.width) (map live_cursor session.cursors) (width-found rows session.cursors c h.distinct here)
