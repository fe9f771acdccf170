-- The line of a begin: what is due in it, and after which entries.
use Rattle.std.proofs.Common.{◌≡◌, Bool, true, false, cond, ◌||◌, List, [], ◌∷◌, None, Some, refl}
use Rattle.std.specs.List.{filter, list_any}
use Rattle.dsql_history.specs.driver.declared.call.DriverCall.{DriverCall}
use Rattle.dsql_history.specs.driver.declared.call.DriverCall.TheVariants.{Reset, Valid, Begin}
use Rattle.dsql_history.specs.driver.declared.caps.Caps.{Caps}
use Rattle.dsql_history.specs.driver.Fits.{is_done}
use Rattle.dsql_history.specs.driver.Kinds.{is_bad, is_begin, is_reset, is_valid}
use Rattle.dsql_history.specs.journal.declared.entry.Entry.{Entry}
use Rattle.dsql_history.specs.journal.Readers.{is_empty}
use Rattle.dsql_history.specs.journal.Tenure.{is_body, is_refused_begin}
use Rattle.dsql_history.proofs.journal.Conjunctions.{parts2}
use Rattle.dsql_history.specs.works.Line.{test_of}
use Rattle.dsql_history.specs.Rules.Line.{is_due}
use Rattle.dsql_history.specs.Rules.Sent.{begin_line}
use Rattle.dsql_laws_tenures.specs.Begins.{is_begin_line}
use Rattle.dsql_laws_tenures.proofs.Numbers.{impossible, neither, neither_of, or_later, true_false}

due_reset : (q : DriverCall) → is_due (Some Reset) q ≡ true → is_reset q ≡ true
due_reset Reset h = refl
due_reset _ h = absurd (impossible h)

due_valid : (q : DriverCall) → is_due (Some Valid) q ≡ true → is_valid q ≡ true
due_valid Valid h = refl
due_valid _ h = absurd (impossible h)

due_begin : (begin q : DriverCall) → is_begin begin ≡ true → is_due (Some begin) q ≡ true → is_begin q ≡ true
due_begin (Begin level read_only) (Begin other only) b h = refl
due_begin (Begin level read_only) _ b h = absurd (impossible h)
due_begin _ q b h = absurd (impossible b)

-- No driver call is of two of these kinds.
reset_only : (q : DriverCall) → is_reset q ≡ true → (is_begin q ≡ false) × (is_valid q ≡ false)
reset_only Reset h = (refl, refl)
reset_only _ h = absurd (impossible h)

begin_only : (q : DriverCall) → is_begin q ≡ true → (is_reset q ≡ false) × (is_valid q ≡ false)
begin_only (Begin level read_only) h = (refl, refl)
begin_only _ h = absurd (impossible h)

valid_only : (q : DriverCall) → is_valid q ≡ true → (is_reset q ≡ false) × (is_begin q ≡ false)
valid_only Valid h = (refl, refl)
valid_only _ h = absurd (impossible h)

-- Holds if the driver call may be due after these entries. It is a Reset that comes first, a Begin before which
-- there was none, or a test. No entry before it was answered Bad or is a test.
pub record Turn (q : DriverCall) (L : List Entry) : Type 0 where
  pub kind : is_reset q || is_begin q || is_valid q ≡ true
  pub reset : is_reset q ≡ true → is_empty L ≡ true
  pub begin : is_begin q ≡ true → (is_empty (filter is_body L) ≡ true) × (list_any is_refused_begin L ≡ false)
  pub not_bad : list_any (λ x. is_bad x.answer) L ≡ false
  pub not_tested : list_any (λ x. is_valid x.call) L ≡ false

either_kind : (a b c : Bool) → a || b || c ≡ true → b ≡ false → c ≡ false → a ≡ true
either_kind true b c h b_off c_off = refl
either_kind false b c h b_off c_off = absurd (true_false (b || c) h (neither_of b c b_off c_off))

none_of : {X : Type 0} (L : List X) → is_empty L ≡ true → L ≡ []
none_of [] h = refl
none_of (x ∷ L) h = absurd (impossible h)

resets : (x : Entry) (L : List Entry) → is_reset x.call ≡ true → is_empty L ≡ true → (is_empty (filter is_body (x ∷ L)) ≡ true) × (list_any is_refused_begin (x ∷ L) ≡ false)
resets x L is none = let k = reset_only x.call is in rw (none_of L none, is, k.0) (refl, refl)

pub turn_of : (can : Caps) (reset_due : Bool) (begin : DriverCall) (L : List Entry) (q : DriverCall) → is_begin begin ≡ true → is_begin_line can reset_due begin L ≡ true
    → is_due (begin_line can reset_due begin L) q ≡ true → Turn q L
turn_of can reset_due begin [] q b line due = by_reset reset_due due
  where
    by_reset : (r : Bool) → is_due (cond r (Some Reset) (Some begin)) q ≡ true → Turn q []
    by_reset true due =
        let is = due_reset q due in
        record { kind = rw is refl; reset = λ _. refl; begin = λ _. (refl, refl); not_bad = refl; not_tested = refl }
    by_reset false due =
        let is = due_begin begin q b due in
        let k = begin_only q is in
        record { kind = rw (k.0, is) refl; reset = λ _. refl; begin = λ _. (refl, refl); not_bad = refl; not_tested = refl }
turn_of can reset_due begin (x ∷ L) q b line due =
    let p = parts2 (is_begin_line can reset_due begin L) (is_due (begin_line can reset_due begin L) x.call) line in
    by_last (is_bad x.answer || is_valid x.call) refl due (turn_of can reset_due begin L x.call b p.0 p.1)
  where
    by_validator : (v : Bool) → is_due (cond v (Some Valid) None) q ≡ true → is_valid q ≡ true
    by_validator true due = due_valid q due
    by_validator false due = absurd (impossible due)

    by_done : (d : Bool) → is_due (cond d None (test_of can)) q ≡ true → is_valid q ≡ true
    by_done true due = absurd (impossible due)
    by_done false due = by_validator can.validator due

    by_begin : (c : Bool) → is_begin x.call ≡ c → is_bad x.answer ≡ false → is_valid x.call ≡ false → is_due (cond c (cond (is_done x.answer) None (test_of can)) (Some begin)) q ≡ true → Turn x.call L → Turn q (x ∷ L)
    by_begin true is calm untested due before =
        let v = by_done (is_done x.answer) due in
        let k = valid_only q v in
        record {
          kind = or_later (is_reset q || is_begin q) (is_valid q) v;
          reset = λ r. absurd (true_false (is_reset q) r k.0);
          begin = λ r. absurd (true_false (is_begin q) r k.1);
          not_bad = neither_of (is_bad x.answer) (list_any (λ y. is_bad y.answer) L) calm before.not_bad;
          not_tested = neither_of (is_valid x.call) (list_any (λ y. is_valid y.call) L) untested before.not_tested;
        }
    by_begin false is calm untested due before =
        let now = due_begin begin q b due in
        let k = begin_only q now in
        let was : is_reset x.call ≡ true = either_kind (is_reset x.call) (is_begin x.call) (is_valid x.call) before.kind is untested in
        record {
          kind = rw (k.0, now) refl;
          reset = λ r. absurd (true_false (is_reset q) r k.0);
          begin = λ _. resets x L was (before.reset was);
          not_bad = neither_of (is_bad x.answer) (list_any (λ y. is_bad y.answer) L) calm before.not_bad;
          not_tested = neither_of (is_valid x.call) (list_any (λ y. is_valid y.call) L) untested before.not_tested;
        }

    by_last : (l : Bool) → is_bad x.answer || is_valid x.call ≡ l → is_due (cond l None (cond (is_begin x.call) (cond (is_done x.answer) None (test_of can)) (Some begin))) q ≡ true → Turn x.call L → Turn q (x ∷ L)
    by_last true is due before = absurd (impossible due)
    by_last false is due before =
        let none = neither (is_bad x.answer) (is_valid x.call) is in
        by_begin (is_begin x.call) refl none.0 none.1 due before
