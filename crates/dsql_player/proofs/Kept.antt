-- The lines that a client keeps, and the moments at which the player is with them. The argument compares the
-- lines that were read with those in the seats.
use Rattle.std.proofs.Common.{◌≡◌, ◌≢◌, ◌≤◌, ◌⊎◌, inl, inr, ℕ, ◌+◌, Bool, true, false, not, ◌&&◌, cond, List, [], ◌∷◌, ◌++◌, drop, length, Option, Some, None, Ok, refl, sym, ap, subst, ◌∙◌, arith}
use Rattle.std.specs.Prelude.{slice_get}
use Rattle.std.proofs.lemmas.List.{map-append}
use Rattle.dsql_engine_laws.specs.journal.declared.entry.Permit.{Permit}
use Rattle.dsql_engine_laws.specs.journal.Readers.{is_empty}
use Rattle.dsql_engine_laws.specs.history.Readers.Calls.{is_busy}
use Rattle.dsql_engine_laws.specs.history.Readers.Clients.{call_of, is_free}
use Rattle.dsql_engine_laws.specs.history.Legal.{Lawful, Legal}
use Rattle.dsql_engine_laws.proofs.laws.Tests.{other_number, same_itself}
use Rattle.dsql_engine_laws.proofs.laws_work.Rows.{same_or_not}
use Rattle.dsql_engine_laws.proofs.laws_ends.Whose.{free_idle}
use Rattle.dsql_engine_laws.specs.follows.declared.line.Line.{Line}
use Rattle.dsql_engine_laws.specs.follows.declared.line.Line.TheVariants.{Client, Start}
use Rattle.dsql_engine_laws.specs.follows.Labels.{times_by}
use Rattle.dsql_engine_laws.specs.follows.Moments.{Moment, is_held, is_line_of, kept, met}
use Rattle.dsql_engine_laws.specs.follows.Sentences.{enters_now}
use Rattle.dsql_laws_lines.proofs.KeptLines.{all_made_met, held_with_call, kept_alone, kept_more, kept_same}
use Rattle.dsql_player_wires.specs.declared.seats.KeptLine.{KeptLine}
use Rattle.dsql_player_wires.specs.Seats.{Seat, seat}
use Rattle.dsql_player.specs.Acts.{SamePermits}
use Rattle.dsql_player.specs.Naming.{MakeOnce, times}
use Rattle.dsql_player.specs.Playing.{FitsCall, IsAt, IsAtBut, IsReady, Playing, line_kept, lines_kept}
use Rattle.dsql_player.specs.Stepping.{Admits, IsEntryOf, TakesStep}
use Rattle.dsql_player.specs.Keeping.{ActsUnheard}
use Rattle.dsql_player.proofs.Named.{KeepsOnly, taken_names}

-- Holds if a client keeps these lines, and everything else that clients have at hand is as before.
pub record KeepsSo (client : ℕ) (lines : List KeptLine) (seats now : List Seat) : Type 0 where
  pub its : seat now client ≡ record (seat seats client) { kept = lines }
  pub others : (other : ℕ) → other ≢ client → seat now other ≡ seat seats other
  pub many : length seats ≤ length now

module _ (client : ℕ) (lines : List KeptLine) (seats now : List Seat) (k : KeepsSo client lines seats now) where
  same_permit : (other : ℕ) → (seat now other).permit ≡ (seat seats other).permit
  same_permit other = elim (same_or_not other client) [
    | inl same ↦ subst (λ (c : ℕ). (seat now c).permit ≡ (seat seats c).permit) (sym same) (ap (λ (s : Seat). s.permit) k.its)
    | inr apart ↦ ap (λ (s : Seat). s.permit) (k.others other apart)
  ]

  pub same_held : (other : ℕ) → (seat now other).held ≡ (seat seats other).held
  same_held other = elim (same_or_not other client) [
    | inl same ↦ subst (λ (c : ℕ). (seat now c).held ≡ (seat seats c).held) (sym same) (ap (λ (s : Seat). s.held) k.its)
    | inr apart ↦ ap (λ (s : Seat). s.held) (k.others other apart)
  ]

  pub same_permits : SamePermits seats now
  same_permits = record { permit = same_permit; many = k.many }

-- Only that client's kept lines change.
pub keeps_only : (client : ℕ) (lines : List KeptLine) (seats now : List Seat) → KeepsSo client lines seats now → KeepsOnly client lines seats now
keeps_only client lines seats now k = record { its = ap (λ (s : Seat). s.kept) k.its; others = λ other apart. ap (λ (s : Seat). s.kept) (k.others other apart) }

-- The player stays ready if a client keeps other lines.
pub kept_ready : (p : Playing) (client : ℕ) (lines : List KeptLine) (seats : List Seat) → IsReady p → KeepsSo client lines p.seats seats → MakeOnce (λ label. 0) p.past seats → IsReady (record p { seats = seats })
kept_ready p client lines seats ready k once = record {
  legal = ready.legal;
  free = ready.free;
  flying = ready.flying;
  seats = λ other.
      let fits = ready.seats other in
      record {
        leave = subst (λ (leave : Option Permit). FitsCall p.past p.flights (call_of p.past other) leave) (sym (same_permit client lines p.seats seats k other)) fits.leave;
        room = λ busy. let room = fits.room busy in let many = k.many in omega (arith, room, many);
      };
  lines = record { held = λ released other. same_held client lines p.seats seats k other ∙ ready.lines.held released other; named = once };
}

-- Each kept line is a line of its own client only.

its_line : (client : ℕ) (line : KeptLine) → is_line_of client (line_kept client line) ≡ true
its_line client line = by line.held
  where
    by : (b : Bool) → is_line_of client (cond b (Start client line.op) (Client client line.op)) ≡ true
    by true = same_itself client
    by false = same_itself client

not_its_line : (client other : ℕ) (line : KeptLine) → other ≢ client → is_line_of other (line_kept client line) ≡ false
not_its_line client other line apart = by line.held
  where
    by : (b : Bool) → is_line_of other (cond b (Start client line.op) (Client client line.op)) ≡ false
    by true = other_number client other (λ same. apart (sym same))
    by false = other_number client other (λ same. apart (sym same))

-- A client's line is read.

none_kept : {X : Type 0} (xs : List X) → is_empty xs ≡ true → xs ≡ []
none_kept [] h = refl
none_kept (x ∷ xs) h = absurd cc

empty_kept : (client : ℕ) (lines : List KeptLine) → is_empty (lines_kept client lines) ≡ is_empty lines
empty_kept client [] = refl
empty_kept client (line ∷ lines) = refl

never_both : (b : Bool) → (b && false) ≡ false
never_both true = refl
never_both false = refl

module _ (m : Moment) (p : Playing) (client : ℕ) (l : Lawful p.past) (at : IsAt m p) where
  free_so : is_free m.past client ≡ not (is_busy client p.past)
  free_so = ap (λ H. is_free H client) at.past ∙ free_idle p.past client l

  -- A client keeps a line at the moment exactly if its seat does.
  keeps_none : is_empty (kept m client) ≡ is_empty (seat p.seats client).kept
  keeps_none = ap is_empty (at.kept client) ∙ empty_kept client (seat p.seats client).kept

  -- A client with a call doesn't enter its line at once.
  pub busy_waits : is_busy client p.past ≡ true → enters_now m client ≡ false
  busy_waits busy = ap (λ b. b && is_empty (kept m client)) (free_so ∙ ap not busy)

  -- A client with a kept line doesn't enter its new line at once.
  pub behind_waits : is_empty (seat p.seats client).kept ≡ false → enters_now m client ≡ false
  behind_waits some = ap (λ b. is_free m.past client && b) (keeps_none ∙ some) ∙ never_both (is_free m.past client)

  -- Any other client enters its line at once.
  pub alone_enters : is_busy client p.past ≡ false → is_empty (seat p.seats client).kept ≡ true → enters_now m client ≡ true
  alone_enters free none = ap (λ b. b && is_empty (kept m client)) (free_so ∙ ap not free) ∙ (keeps_none ∙ none)

  -- A call is held after the line is read if it was held before.
  pub held_so : (line : Line) → is_busy client p.past ≡ true → is_held (met line m) client ≡ (seat p.seats client).held
  held_so line busy = held_with_call m line client at.made (subst Lawful (sym at.past) l) (free_so ∙ ap not busy) ∙ at.held client busy

-- A line is kept after the other kept lines of its client.
pub kept_at : (m : Moment) (p : Playing) (client : ℕ) (line : KeptLine) (seats : List Seat) → Lawful p.past → IsAt m p → KeepsSo client ((seat p.seats client).kept ++ line ∷ []) p.seats seats
    → IsAt (met (line_kept client line) m) (record p { seats = seats })
kept_at m p client line seats l at k = record {
  past = at.past;
  flights = at.flights;
  released = at.released;
  rest = ap (met it) at.rest;
  whole = at.whole;
  made = all_made_met m it at.made;
  kept = λ other. elim (same_or_not other client) [
    | inl same ↦ subst (λ (c : ℕ). kept (met it m) c ≡ lines_kept c (seat seats c).kept) (sym same) its
    | inr apart ↦ kept_same m it other (not_its_line client other line apart) ∙ (at.kept other ∙ ap (λ (s : Seat). lines_kept other s.kept) (sym (k.others other apart)))
  ];
  held = λ other busy. held_so m p other l at it busy ∙ sym (same_held client lines p.seats seats k other);
}
  where
    it : Line
    it = line_kept client line

    lines : List KeptLine
    lines = (seat p.seats client).kept ++ line ∷ []

    its : kept (met it m) client ≡ lines_kept client (seat seats client).kept
    its =
        kept_more m it client at.made (its_line client line)
        ∙ (ap (λ (ls : List Line). ls ++ it ∷ []) (at.kept client) ∙ (sym (map-append (line_kept client) (seat p.seats client).kept (line ∷ [])) ∙ ap (λ (s : Seat). lines_kept client s.kept) (sym k.its)))

-- A line that is entered at once counts as kept and then taken out.
pub alone_at : (m : Moment) (p : Playing) (client : ℕ) (line : KeptLine) → Lawful p.past → IsAt m p → is_busy client p.past ≡ false → is_empty (seat p.seats client).kept ≡ true
    → IsAtBut (met (line_kept client line) m) client line p
alone_at m p client line l at free none = record {
  past = at.past;
  flights = at.flights;
  released = at.released;
  rest = ap (met it) at.rest;
  whole = at.whole;
  made = all_made_met m it at.made;
  taken =
      kept_alone m it client at.made (its_line client line) (alone_enters m p client l at free none)
      ∙ ap (λ (lines : List KeptLine). it ∷ lines_kept client lines) (sym (none_kept (seat p.seats client).kept none));
  kept = λ other apart. kept_same m it other (not_its_line client other line apart) ∙ at.kept other;
  held = λ other busy. held_so m p other l at it busy;
}
  where
    it : Line
    it = line_kept client line

-- A kept line is taken out.

first_taken : (lines : List KeptLine) (line : KeptLine) → slice_get lines 0 ≡ Some line → lines ≡ line ∷ drop 1 lines
first_taken [] line h = absurd cc
first_taken (x ∷ lines) line h = let same : x ≡ line = cc in ap (λ (first : KeptLine). first ∷ lines) same

pub taken_at : (m : Moment) (p : Playing) (client : ℕ) (line : KeptLine) (seats : List Seat) → IsAt m p → slice_get (seat p.seats client).kept 0 ≡ Some line
    → KeepsSo client (drop 1 (seat p.seats client).kept) p.seats seats → IsAtBut m client line (record p { seats = seats })
taken_at m p client line seats at first k = record {
  past = at.past;
  flights = at.flights;
  released = at.released;
  rest = at.rest;
  whole = at.whole;
  made = at.made;
  taken =
      at.kept client
      ∙ (ap (lines_kept client) (first_taken (seat p.seats client).kept line first) ∙ ap (λ (s : Seat). line_kept client line ∷ lines_kept client s.kept) (sym k.its));
  kept = λ other apart. at.kept other ∙ ap (λ (s : Seat). lines_kept other s.kept) (sym (k.others other apart));
  held = λ other busy. at.held other busy ∙ sym (same_held client rest p.seats seats k other);
}
  where
    rest : List KeptLine
    rest = drop 1 (seat p.seats client).kept

-- Its label is then made once less.
pub taken_so : (label : List ℕ) (p : Playing) (client : ℕ) (line : KeptLine) (seats : List Seat) → slice_get (seat p.seats client).kept 0 ≡ Some line
    → KeepsSo client (drop 1 (seat p.seats client).kept) p.seats seats → times_by label line.op + times label p.past seats ≡ times label p.past p.seats
taken_so label p client line seats first k =
    let rest : List KeptLine = drop 1 (seat p.seats client).kept in
    let less = taken_names label client line rest p.seats seats (first_taken (seat p.seats client).kept line first) (keeps_only client rest p.seats seats k) in
    omega (arith, less)

-- A line is kept.

pub keeps_at : (client : ℕ) (line : KeptLine) (p old : Playing) (seats : List Seat) → p ≡ old → IsReady old → KeepsSo client ((seat p.seats client).kept ++ line ∷ []) p.seats seats
    → (m : Moment) → IsAt m old → IsAt (met (line_kept client line) m) (record p { seats = seats })
keeps_at client line p old seats is ready k =
    subst (λ (q : Playing). (m : Moment) → IsAt m q → IsAt (met (line_kept client line) m) (record p { seats = seats })) is
    (λ m at. kept_at m p client line seats (subst (λ (q : Playing). Lawful q.past) (sym is) ready.legal.lawful) at k)

pub keeps_acts : (client : ℕ) (lines : List KeptLine) (p old : Playing) (seats : List Seat) → p ≡ old → IsReady old → KeepsSo client lines p.seats seats → MakeOnce (λ label. 0) p.past seats → ActsUnheard {A = Unit {0}} (Ok tt) old (record p { seats = seats })
keeps_acts client lines p old seats is ready k once =
    subst (λ (q : Playing). ActsUnheard {A = Unit {0}} (Ok tt) q (record p { seats = seats })) is
    (record {
      ready = kept_ready p client lines seats (subst IsReady (sym is) ready) k once;
      unheard = record { journals = λ c. refl; told = λ made. refl };
      fails = record { same = tt; memory = tt };
      legal = subst (λ (q : Playing). Legal q.past) (sym is) ready.legal;
    })

-- A line is admitted.

module _ (client : ℕ) (line : KeptLine) (old new : Playing) (ready : IsReady old) where
  waits_so : (m : Moment) → IsAt m old → (is_busy client old.past ≡ true) ⊎ (is_empty (seat old.seats client).kept ≡ false) → enters_now m client ≡ false
  waits_so m at (inl busy) = busy_waits m old client ready.legal.lawful at busy
  waits_so m at (inr some) = behind_waits m old client ready.legal.lawful at some

  pub admits_kept : (is_busy client old.past ≡ true) ⊎ (is_empty (seat old.seats client).kept ≡ false) → new.past ≡ old.past → ((m : Moment) → IsAt m old → IsAt (met (line_kept client line) m) new)
      → (m : Moment) → IsAt m old → Admits false m client line old new
  admits_kept waits past keeps m at = (keeps m at, past, waits_so m at waits)

  pub admits_entered : is_busy client old.past ≡ false → is_empty (seat old.seats client).kept ≡ true → ((m : Moment) → IsAtBut m client line old → TakesStep m old new (IsEntryOf client))
      → (m : Moment) → IsAt m old → Admits true m client line old new
  admits_entered free none enters m at =
      (enters (met (line_kept client line) m) (alone_at m old client line ready.legal.lawful at free none), alone_enters m old client ready.legal.lawful at free none)

-- If a line is kept, one can be taken out.
pub some_kept : (lines : List KeptLine) → is_empty lines ≡ false → None ≡ slice_get lines 0 → ⊥
some_kept [] some none = absurd cc
some_kept (x ∷ lines) some none = absurd cc
