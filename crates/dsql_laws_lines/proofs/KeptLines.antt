-- Reading a line changes the kept lines of its client alone, and leaves the held calls. The proof compares how many
-- lines were read and how many calls were made.
use Rattle.std.proofs.Common.{◌≡◌, true, List, [], ◌∷◌, refl, ℕ, ◌≤◌, ◌<◌, ◌-◌, Bool, false, not, ◌&&◌, cond, ◌++◌, length, length-append, drop, slice_index_or, ap, ◌∙◌, arith}
use Rattle.dsql_laws_calls.specs.journal.Readers.{is_empty}
use Rattle.std.proofs.lemmas.List.{drop-append-le, get_or_append_left, length-drop}
use Rattle.dsql_laws_calls.specs.history.Readers.Clients.{is_free, made_by}
use Rattle.dsql_laws_calls.specs.history.Legal.{Lawful}
use Rattle.dsql_laws_calls.proofs.laws.Tests.{both}
use Rattle.dsql_follows.specs.declared.line.Line.{Line}
use Rattle.dsql_follows.specs.declared.line.Line.TheVariants.{Skip}
use Rattle.dsql_follows.specs.Moments.{Moment, is_held, is_line_of, is_start, kept, lines_of, met}
use Rattle.dsql_follows.specs.Sentences.{enters_now}
use Rattle.dsql_laws_lines.specs.Running.{AllMade}
use Rattle.dsql_laws_lines.proofs.Made.{made_one}

pub none_of : {X : Type 0} (xs : List X) → is_empty xs ≡ true → xs ≡ []
none_of [] h = refl
none_of (x ∷ xs) h = absurd cc

its_lines : (line : Line) (lines : List Line) (k : ℕ) → is_line_of k line ≡ true → lines_of (line ∷ lines) k ≡ lines_of lines k ++ line ∷ []
its_lines line lines k its = ap (λ b. cond b (lines_of lines k ++ line ∷ []) (lines_of lines k)) its

same_lines : (line : Line) (lines : List Line) (k : ℕ) → is_line_of k line ≡ false → lines_of (line ∷ lines) k ≡ lines_of lines k
same_lines line lines k other = ap (λ b. cond b (lines_of lines k ++ line ∷ []) (lines_of lines k)) other

pub all_made_met : (m : Moment) (line : Line) → AllMade m → AllMade (met line m)
all_made_met m line all k = by (is_line_of k line)
  where
    by : (b : Bool) → made_by m.past k ≤ length (cond b (lines_of m.lines k ++ line ∷ []) (lines_of m.lines k))
    by true = let more = length-append (lines_of m.lines k) (line ∷ []) in let so_many = all k in omega (arith, more, so_many)
    by false = all k

-- A line that is read is kept after the other kept lines of its client.
pub kept_more : (m : Moment) (line : Line) (k : ℕ) → AllMade m → is_line_of k line ≡ true → kept (met line m) k ≡ kept m k ++ line ∷ []
kept_more m line k all its = ap (drop (made_by m.past k)) (its_lines line m.lines k its) ∙ drop-append-le (made_by m.past k) (lines_of m.lines k) (line ∷ []) (all k)

pub kept_same : (m : Moment) (line : Line) (k : ℕ) → is_line_of k line ≡ false → kept (met line m) k ≡ kept m k
kept_same m line k other = ap (drop (made_by m.past k)) (same_lines line m.lines k other)

-- A line that is read is the only kept line of its client if the client had none.
pub kept_alone : (m : Moment) (line : Line) (k : ℕ) → AllMade m → is_line_of k line ≡ true → enters_now m k ≡ true → kept (met line m) k ≡ line ∷ []
kept_alone m line k all its enters =
    let none = none_of (kept m k) (both (is_free m.past k) (is_empty (kept m k)) enters).1 in
    kept_more m line k all its ∙ ap (λ xs. xs ++ line ∷ []) none

-- A client that has made a call is held or not as before.

held_so : Moment → ℕ → List Line → Bool
held_so m k lines = not m.released && is_start (slice_index_or lines (made_by m.past k - 1) Skip)

pub held_same : (m : Moment) (line : Line) (k : ℕ) → is_line_of k line ≡ false → is_held (met line m) k ≡ is_held m k
unfolding held_so
held_same m line k other = ap (held_so m k) (same_lines line m.lines k other)

pub held_still : (m : Moment) (line : Line) (k : ℕ) → AllMade m → 1 ≤ made_by m.past k → is_held (met line m) k ≡ is_held m k
unfolding held_so
held_still m line k all some = by (is_line_of k line)
  where
    within : made_by m.past k - 1 < length (lines_of m.lines k)
    within = let so_many = all k in omega (arith, so_many, some)

    by : (b : Bool) → held_so m k (cond b (lines_of m.lines k ++ line ∷ []) (lines_of m.lines k)) ≡ held_so m k (lines_of m.lines k)
    by true = ap (λ it. not m.released && is_start it) (get_or_append_left (lines_of m.lines k) (line ∷ []) Skip (made_by m.past k - 1) within)
    by false = refl

pub held_with_call : (m : Moment) (line : Line) (k : ℕ) → AllMade m → Lawful m.past → is_free m.past k ≡ false → is_held (met line m) k ≡ is_held m k
held_with_call m line k all lawful busy = held_still m line k all (made_one m.past k lawful busy)

-- A client with a kept line has more lines than it has made calls.
longer : (xs : List Line) (i : ℕ) → not (is_empty (drop i xs)) ≡ true → i < length xs
longer xs i h = let left = length-drop i xs in let some = filled (drop i xs) h in omega (arith, left, some)
  where
    filled : (ys : List Line) → not (is_empty ys) ≡ true → 1 ≤ length ys
    filled [] k = absurd cc
    filled (y ∷ ys) k = omega arith

pub kept_among : (m : Moment) (k : ℕ) → not (is_empty (kept m k)) ≡ true → made_by m.past k < length (lines_of m.lines k)
kept_among m k some = longer (lines_of m.lines k) (made_by m.past k) some
