-- How often calls and kept lines make a label. The argument is that only an entry makes one. A client's kept lines
-- change only as one is kept or taken out.
use Rattle.std.proofs.Common.{◌≡◌, ◌≢◌, ℕ, zero, suc, ◌+◌, ◌≤◌, ◌==◌, Bool, true, false, not, ◌||◌, cond, List, [], ◌∷◌, ◌++◌, refl, sym, ap, ◌∙◌, append_assoc, arith}
use Rattle.std.specs.Prelude.{bytes_eq}
use Rattle.std.specs.List.{list_all}
use Rattle.std.proofs.lemmas.Slice.Eq.{bytes_eq-Decides}
use Rattle.dsql_engine_laws.specs.history.declared.event.Event.{Event}
use Rattle.dsql_engine_laws.specs.history.declared.event.Event.TheVariants.{Entered, Pool, Waits, Replied}
use Rattle.dsql_engine_laws.specs.history.declared.event.Op.{Op}
use Rattle.dsql_engine_laws.specs.history.declared.event.Op.TheVariants.{Query, Begin}
use Rattle.dsql_engine_laws.specs.history.Readers.Labels.{is_made, makes, names_fit}
use Rattle.dsql_engine_laws.specs.follows.Labels.{times_by, times_made}
use Rattle.dsql_engine_laws.proofs.laws.Tests.{both}
use Rattle.dsql_engine_laws.specs.laws_steps.Groups.{is_later_of}
use Rattle.dsql_laws_lines.specs.Entries.{is_entry}
use Rattle.dsql_player_wires.specs.declared.seats.KeptLine.{KeptLine}
use Rattle.dsql_player_wires.specs.Seats.{Seat, seat}
use Rattle.dsql_player.specs.Naming.{times, times_at_hand, times_kept}
use Rattle.dsql_player.specs.Playing.{HoldsNone, KeepsLines, LinesFit, Playing}
use Rattle.dsql_player.proofs.Grouped.{Grouped}

-- The calls of a history.

later_times : (label : List ℕ) (n : ℕ) (more H : List Event) → list_all (is_later_of n) more ≡ true → times_made label (more ++ H) ≡ times_made label H
later_times label n [] H h = refl
later_times label n (Pool move ∷ more) H h = later_times label n more H h
later_times label n (Waits m ∷ more) H h = later_times label n more H (both (m == n) (list_all (is_later_of n) more) h).1
later_times label n (Replied m reply ∷ more) H h = later_times label n more H (both (m == n) (list_all (is_later_of n) more) h).1
later_times label n (e ∷ more) H h = absurd cc

-- A step makes a label as often as its first event does.
pub times_grouped : (label : List ℕ) (past history : List Event) (first : Event) (n : ℕ) → Grouped past history first n → times_made label history ≡ times_made label (first ∷ past)
times_grouped label past history first n g =
    ap (times_made label) g.grown
    ∙ (ap (λ es. times_made label (es ++ past)) g.group.whole
    ∙ (ap (times_made label) (append_assoc g.group.more (first ∷ []) past) ∙ later_times label n g.group.more (first ∷ past) g.group.later))

made_as_before : (label : List ℕ) (e : Event) (H : List Event) → is_entry e ≡ false → times_made label (e ∷ H) ≡ times_made label H
made_as_before label (Entered client n op) H h = absurd cc
made_as_before label e H h = refl

-- A step in which no call enters makes no label.
pub names_none : (past history : List Event) (first : Event) (n : ℕ) → Grouped past history first n → is_entry first ≡ false → (label : List ℕ) → times_made label history ≡ times_made label past
names_none past history first n g none label = times_grouped label past history first n g ∙ made_as_before label first past none

-- A label that no call makes isn't made.
unmade : (label : List ℕ) (H : List Event) → times_made label H ≡ 0 → is_made H label ≡ false
unmade label [] h = refl
unmade label (Entered client n op ∷ H) h = by (makes label op) (unmade label H) h
  where
    by : (b : Bool) → (times_made label H ≡ 0 → is_made H label ≡ false) → cond b 1 0 + times_made label H ≡ 0 → (b || is_made H label) ≡ false
    by true rest k = absurd (omega (arith, k))
    by false rest k = let none : times_made label H ≡ 0 = omega (arith, k) in rest none
unmade label (_ ∷ H) h = unmade label H h

-- An operation fits if its label, if it makes one, is made at most once.
pub fits_once : (op : Op) (H : List Event) → ((label : List ℕ) → times_by label op + times_made label H ≤ 1) → names_fit H op ≡ true
fits_once (Query own target text args) H once = ap not (unmade own H (none (bytes_eq own own) ((bytes_eq-Decides own own).1 refl) (once own)))
  where
    none : (b : Bool) → b ≡ true → cond b 1 0 + times_made own H ≤ 1 → times_made own H ≡ 0
    none true is k = omega (arith, k)
    none false is k = absurd cc
fits_once (Begin own level read_only) H once = ap not (unmade own H (none (bytes_eq own own) ((bytes_eq-Decides own own).1 refl) (once own)))
  where
    none : (b : Bool) → b ≡ true → cond b 1 0 + times_made own H ≤ 1 → times_made own H ≡ 0
    none true is k = omega (arith, k)
    none false is k = absurd cc
fits_once op H once = refl

-- The lines that clients keep.

kept_pushed : (label : List ℕ) (lines : List KeptLine) (line : KeptLine) → times_kept label (lines ++ line ∷ []) ≡ times_by label line.op + times_kept label lines
kept_pushed label [] line = refl
kept_pushed label (x ∷ lines) line = let rest = kept_pushed label lines line in omega (arith, rest)

-- If each client keeps the lines that it kept, they make each label as often.
pub at_hand_same : (label : List ℕ) (seats now : List Seat) → ((client : ℕ) → (seat now client).kept ≡ (seat seats client).kept) → times_at_hand label now ≡ times_at_hand label seats
at_hand_same label [] [] same = refl
at_hand_same label [] (y ∷ ys) same =
    let here : times_kept label y.kept ≡ 0 = ap (times_kept label) (same zero) in
    let rest = at_hand_same label [] ys (λ client. same (suc client)) in
    omega (arith, here, rest)
at_hand_same label (x ∷ xs) [] same =
    let here : 0 ≡ times_kept label x.kept = ap (times_kept label) (same zero) in
    let rest = at_hand_same label xs [] (λ client. same (suc client)) in
    omega (arith, here, rest)
at_hand_same label (x ∷ xs) (y ∷ ys) same =
    let here : times_kept label y.kept ≡ times_kept label x.kept = ap (times_kept label) (same zero) in
    let rest = at_hand_same label xs ys (λ client. same (suc client)) in
    omega (arith, here, rest)

-- Holds if one client keeps these lines, and each other one those that it kept.
pub record KeepsOnly (me : ℕ) (lines : List KeptLine) (seats now : List Seat) : Type 0 where
  pub its : (seat now me).kept ≡ lines
  pub others : (client : ℕ) → client ≢ me → (seat now client).kept ≡ (seat seats client).kept

after_first : (x y : Seat) (me : ℕ) (lines : List KeptLine) (xs ys : List Seat) → KeepsOnly (suc me) lines (x ∷ xs) (y ∷ ys) → KeepsOnly me lines xs ys
after_first x y me lines xs ys k = record { its = k.its; others = λ client apart. k.others (suc client) (λ same. apart (omega (arith, same))) }

none_then : (me : ℕ) (lines : List KeptLine) (ys : List Seat) (y : Seat) → KeepsOnly (suc me) lines [] (y ∷ ys) → KeepsOnly me lines [] ys
none_then me lines ys y k = record { its = k.its; others = λ client apart. k.others (suc client) (λ same. apart (omega (arith, same))) }

then_none : (me : ℕ) (lines : List KeptLine) (xs : List Seat) (x : Seat) → KeepsOnly (suc me) lines (x ∷ xs) [] → KeepsOnly me lines xs []
then_none me lines xs x k = record { its = k.its; others = λ client apart. k.others (suc client) (λ same. apart (omega (arith, same))) }

-- If one client keeps other lines, only these make labels more or less often.
pub at_hand_but : (label : List ℕ) (me : ℕ) (lines : List KeptLine) (seats now : List Seat) → KeepsOnly me lines seats now
    → times_at_hand label now + times_kept label (seat seats me).kept ≡ times_kept label lines + times_at_hand label seats
at_hand_but label zero lines [] [] k =
    let its : 0 ≡ times_kept label lines = ap (times_kept label) k.its in
    omega (arith, its)
at_hand_but label zero lines [] (y ∷ ys) k =
    let its : times_kept label y.kept ≡ times_kept label lines = ap (times_kept label) k.its in
    let rest = at_hand_same label [] ys (λ client. k.others (suc client) (λ same. absurd (omega (arith, same)))) in
    omega (arith, its, rest)
at_hand_but label zero lines (x ∷ xs) [] k =
    let its : 0 ≡ times_kept label lines = ap (times_kept label) k.its in
    let rest = at_hand_same label xs [] (λ client. k.others (suc client) (λ same. absurd (omega (arith, same)))) in
    omega (arith, its, rest)
at_hand_but label zero lines (x ∷ xs) (y ∷ ys) k =
    let its : times_kept label y.kept ≡ times_kept label lines = ap (times_kept label) k.its in
    let rest = at_hand_same label xs ys (λ client. k.others (suc client) (λ same. absurd (omega (arith, same)))) in
    omega (arith, its, rest)
at_hand_but label (suc me) lines [] [] k =
    let its : 0 ≡ times_kept label lines = ap (times_kept label) k.its in
    omega (arith, its)
at_hand_but label (suc me) lines [] (y ∷ ys) k =
    let here : times_kept label y.kept ≡ 0 = ap (times_kept label) (k.others zero (λ same. absurd (omega (arith, same)))) in
    let rest = at_hand_but label me lines [] ys (none_then me lines ys y k) in
    omega (arith, here, rest)
at_hand_but label (suc me) lines (x ∷ xs) [] k =
    let here : 0 ≡ times_kept label x.kept = ap (times_kept label) (k.others zero (λ same. absurd (omega (arith, same)))) in
    let rest = at_hand_but label me lines xs [] (then_none me lines xs x k) in
    omega (arith, here, rest)
at_hand_but label (suc me) lines (x ∷ xs) (y ∷ ys) k =
    let here : times_kept label y.kept ≡ times_kept label x.kept = ap (times_kept label) (k.others zero (λ same. absurd (omega (arith, same)))) in
    let rest = at_hand_but label me lines xs ys (after_first x y me lines xs ys k) in
    omega (arith, here, rest)

-- A line that is kept makes its label once more.
pub kept_names : (label : List ℕ) (me : ℕ) (line : KeptLine) (seats now : List Seat) → KeepsOnly me ((seat seats me).kept ++ line ∷ []) seats now
    → times_at_hand label now ≡ times_by label line.op + times_at_hand label seats
kept_names label me line seats now k =
    let but = at_hand_but label me ((seat seats me).kept ++ line ∷ []) seats now k in
    let more = kept_pushed label (seat seats me).kept line in
    omega (arith, but, more)

-- A line that is taken out makes its label once less.
pub taken_names : (label : List ℕ) (me : ℕ) (line : KeptLine) (rest : List KeptLine) (seats now : List Seat) → (seat seats me).kept ≡ line ∷ rest → KeepsOnly me rest seats now
    → times_by label line.op + times_at_hand label now ≡ times_at_hand label seats
taken_names label me line rest seats now first k =
    let but = at_hand_but label me rest seats now k in
    let split : times_kept label (seat seats me).kept ≡ times_by label line.op + times_kept label rest = ap (times_kept label) first in
    omega (arith, but, split)

-- A player.

-- Over a step in which no call enters, and no line is kept or taken out, each label is made as often as before.
pub times_still : (before after : Playing) → KeepsLines before after → ((label : List ℕ) → times_made label after.past ≡ times_made label before.past)
    → (label : List ℕ) → times label after.past after.seats ≡ 0 + times label before.past before.seats
times_still before after lines made label =
    let past = made label in
    let hand = at_hand_same label before.seats after.seats lines.kept in
    omega (arith, past, hand)

-- If no call was held at the script's end, none is held after a step.
holds_none : (before after : Playing) → KeepsLines before after → HoldsNone before → HoldsNone after
holds_none before after lines none = λ released client. lines.held client ∙ none (sym lines.released ∙ released) client

-- The lines still fit after such a step.
pub lines_fit : (before after : Playing) → KeepsLines before after → ((label : List ℕ) → times_made label after.past ≡ times_made label before.past) → LinesFit before → LinesFit after
lines_fit before after lines made fit = record {
  held = holds_none before after lines fit.held;
  named = λ label. let still = times_still before after lines made label in let once = fit.named label in omega (arith, still, once);
}
