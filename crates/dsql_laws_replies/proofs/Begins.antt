-- Which calls that begin a transaction still await an answer that decides, by what was heard in their lines.
use Rattle.std.proofs.Common.{◌≡◌, ◌⊎◌, inl, inr, Bool, true, false, not, ◌&&◌, ◌||◌, cond, List, [], ◌∷◌, Option, Some, None, is_some, refl, ap, ◌∙◌}
use Rattle.dsql_laws_calls.specs.driver.declared.answer.DriverAnswer.{DriverAnswer}
use Rattle.dsql_laws_calls.specs.driver.declared.answer.DriverAnswer.TheVariants.{Done, Bad, Fail}
use Rattle.dsql_laws_calls.specs.driver.declared.call.DriverCall.{DriverCall}
use Rattle.dsql_laws_calls.specs.driver.declared.call.DriverCall.TheVariants as calls
use Rattle.dsql_laws_calls.specs.driver.declared.call.Level.{Level}
use Rattle.dsql_laws_calls.specs.driver.declared.caps.Caps.{Caps}
use Rattle.dsql_laws_calls.specs.driver.Fits.{fits_of, is_memory, is_done}
use Rattle.dsql_laws_calls.specs.driver.Kinds.{is_bad, is_valid, is_begin}
use Rattle.dsql_laws_calls.specs.journal.declared.entry.Entry.{Entry}
use Rattle.dsql_laws_calls.specs.history.declared.reply.Reply.{Reply}
use Rattle.dsql_laws_calls.specs.history.Readers.Decisions.{decision, Trying}
use Rattle.dsql_laws_calls.specs.history.Readers.Tries.{is_tried}
use Rattle.dsql_laws_calls.specs.history.Rules.Line.{is_due}
use Rattle.dsql_laws_calls.specs.history.Rules.Sent.{begin_line}

-- Is true of a Reset that wasn't answered Bad. A begin awaits its answer if nothing was heard yet, or only such
-- a Reset.
abbrev pub resets : DriverCall → DriverAnswer → Bool
resets calls.Reset answer = not (is_bad answer)
resets _ answer = false

abbrev pub begin_awaits : List Entry → Bool
begin_awaits [] = true
begin_awaits (e ∷ earlier) = resets e.call e.answer

-- So its Begin comes next, or the Reset before it.

after_reset : (can : Caps) (begin q : DriverCall) (a : DriverAnswer) (e : Entry) → e.call ≡ q → e.answer ≡ a → resets q a ≡ true → begin_line can false begin (e ∷ []) ≡ Some begin
after_reset can begin calls.Reset Bad e c x h = absurd cc
after_reset can begin calls.Reset a e c x h = rw (c, x) refl
after_reset can begin q a e c x h = absurd cc

begin_next : (can : Caps) (reset : Bool) (begin : DriverCall) (e : Entry) (earlier : List Entry) → resets e.call e.answer ≡ true → begin_line can reset begin (e ∷ earlier) ≡ Some begin
begin_next can reset begin e earlier h = after_reset can begin e.call e.answer e refl refl h

pub begin_sends : (can : Caps) (reset : Bool) (begin : DriverCall) (L : List Entry) → begin_awaits L ≡ true → is_some (begin_line can reset begin L) ≡ true
begin_sends can true begin [] h = refl
begin_sends can false begin [] h = refl
begin_sends can reset begin (e ∷ earlier) h = rw (begin_next can reset begin e earlier h) refl

-- The answer to its Begin decides.

begun_decides : (t : Trying) (level : Level) (read_only : Bool) (a : DriverAnswer) (d : Option Reply) → fits_of (calls.Begin level read_only) a ≡ true → is_memory a ≡ false → is_bad a ≡ false
    → is_some (decision t (calls.Begin level read_only) a d) ≡ true
begun_decides t level read_only Done d fit heard good = refl
begun_decides t level read_only (Fail why) d fit heard good = refl
begun_decides t level read_only Bad d fit heard good = absurd cc
begun_decides t level read_only a d fit heard good = absurd cc

-- Holds if the begin has decided, or awaits an answer.
abbrev pub BeginSettles : Option Reply → List Entry → Type 0
BeginSettles d L = (is_some d ≡ true) ⊎ (begin_awaits L ≡ true)

due_awaits : (can : Caps) (reset : Bool) (level : Level) (read_only : Bool) (L : List Entry) → begin_awaits L ≡ true → is_due (begin_line can reset (calls.Begin level read_only) L) calls.Valid ≡ true → ⊥
due_awaits can true level read_only [] h d = cc
due_awaits can false level read_only [] h d = cc
due_awaits can reset level read_only (e ∷ earlier) h d = let k = rw (begin_next can reset (calls.Begin level read_only) e earlier h) at d in cc

keeps_decided : (can : Caps) (reset : Bool) (level : Level) (read_only : Bool) (L : List Entry) (d : Option Reply) → BeginSettles d L → is_due (begin_line can reset (calls.Begin level read_only) L) calls.Valid ≡ true → is_some d ≡ true
keeps_decided can reset level read_only L d (inl h) due = h
keeps_decided can reset level read_only L d (inr h) due = absurd (due_awaits can reset level read_only L h due)

abbrev begin_kind : DriverCall → Bool
begin_kind calls.Reset = true
begin_kind calls.Valid = true
begin_kind (calls.Begin level read_only) = true
begin_kind _ = false

kinds : (d : Option DriverCall) (q : DriverCall) → (d ≡ None) ⊎ ((p : DriverCall) × (d ≡ Some p) × (begin_kind p ≡ true)) → is_due d q ≡ true → begin_kind q ≡ true
kinds None q k h = absurd cc
kinds (Some p) q (inl none) h = absurd cc
kinds (Some p) q (inr k) h = by p q (ap begin_kind (same p k.0 k.1) ∙ k.2) h
  where
    same : (x y : DriverCall) → Some x ≡ Some y → x ≡ y
    same x y s = cc

    by : (p q : DriverCall) → begin_kind p ≡ true → is_due (Some p) q ≡ true → begin_kind q ≡ true
    by calls.Reset calls.Reset k x = refl
    by calls.Valid calls.Valid k x = refl
    by (calls.Begin level read_only) (calls.Begin other only) k x = refl
    by p q k x = absurd cc

abbrev Kind : Option DriverCall → Type 0
Kind d = (d ≡ None) ⊎ ((p : DriverCall) × (d ≡ Some p) × (begin_kind p ≡ true))

line_kind : (can : Caps) (reset : Bool) (level : Level) (read_only : Bool) (L : List Entry) → Kind (begin_line can reset (calls.Begin level read_only) L)
line_kind can true level read_only [] = inr (calls.Reset, refl, refl)
line_kind can false level read_only [] = inr (calls.Begin level read_only, refl, refl)
line_kind can reset level read_only (e ∷ earlier) = either (is_bad e.answer || is_valid e.call) (inl refl) (either (is_begin e.call) (either (is_done e.answer) (inl refl) (tests can.validator)) (inr (calls.Begin level read_only, refl, refl)))
  where
    either : {c d : Option DriverCall} (b : Bool) → Kind c → Kind d → Kind (cond b c d)
    either true x y = x
    either false x y = y

    tests : (b : Bool) → Kind (cond b (Some calls.Valid) None)
    tests true = inr (calls.Valid, refl, refl)
    tests false = inl refl

-- After the answer to a driver call that is due, the reply is settled, or the begin awaits another answer.
pub begin_settles : (t : Trying) (can : Caps) (reset : Bool) (level : Level) (read_only : Bool) (L : List Entry) (e : Entry) (d : Option Reply) → BeginSettles d L
    → is_due (begin_line can reset (calls.Begin level read_only) L) e.call ≡ true → fits_of e.call e.answer ≡ true → is_memory e.answer ≡ false → (is_tried t.work e.call && is_bad e.answer) ≡ false
    → BeginSettles (decision t e.call e.answer d) (e ∷ L)
begin_settles t can reset level read_only L e d before due fit heard good =
    by e.call e.answer refl refl due fit heard good (kinds (begin_line can reset (calls.Begin level read_only) L) e.call (line_kind can reset level read_only L) due)
  where
    by : (q : DriverCall) (a : DriverAnswer) → e.call ≡ q → e.answer ≡ a → is_due (begin_line can reset (calls.Begin level read_only) L) q ≡ true → fits_of q a ≡ true → is_memory a ≡ false → (is_tried t.work q && is_bad a) ≡ false → begin_kind q ≡ true
        → BeginSettles (decision t q a d) (e ∷ L)
    by calls.Reset a c x k f m g kind = inr (rw (c, x) (ap not g))
    by (calls.Begin l o) a c x k f m g kind = inl (begun_decides t l o a d f m g)
    by calls.Valid a c x k f m g kind = inl (keeps_decided can reset level read_only L d before k)
    by q a c x k f m g kind = absurd cc
