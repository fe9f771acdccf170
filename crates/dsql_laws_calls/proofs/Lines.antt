-- What is sent next on a lent connection, in the line of a call that uses it. This stays the same as long as
-- nothing is heard there.
use Rattle.std.proofs.Common.{◌≡◌, ℕ, ◌==◌, Bool, true, false, ◌&&◌, ◌||◌, cond, List, [], ◌∷◌, Option, Some, None, is_some, length, refl, sym, ap, ◌∙◌}
use Rattle.std.specs.Prelude.{nat_le}
use Rattle.dsql_laws.specs.driver.declared.caps.Caps.{Caps}
use Rattle.dsql_laws.specs.driver.declared.call.DriverCall.{DriverCall}
use Rattle.dsql_laws.specs.driver.declared.call.DriverCall.TheVariants.{Reset}
use Rattle.dsql_laws.specs.driver.Kinds.{is_bad, is_valid}
use Rattle.dsql_laws.specs.course.declared.course.Course.TheVariants as courses
use Rattle.dsql_laws.specs.course.declared.call.Due.{Due}
use Rattle.dsql_laws.specs.course.declared.course.Wish.{Wish}
use Rattle.dsql_laws.specs.course.declared.course.Wish.TheVariants as wishes
use Rattle.dsql_laws.specs.course.Made.{Exchange, rows_are_over}
use Rattle.dsql_laws.specs.course.Rows.{closing_of, rows_next_if}
use Rattle.dsql_laws.specs.journal.declared.entry.Entry.{Entry}
use Rattle.dsql_laws.specs.journal.declared.entry.Owner.{Owner}
use Rattle.dsql_laws.specs.journal.Kinds.{number_of}
use Rattle.dsql_laws.specs.journal.Readers.{of_tenure, went_bad}
use Rattle.dsql_laws.specs.pool.declared.conn.Place.{Place}
use Rattle.dsql_laws.specs.pool.declared.conn.Place.TheVariants.{Lent}
use Rattle.dsql_laws.specs.works.Exchanges.{exchanges}
use Rattle.dsql_laws.specs.works.Line.{Asked, sent_over, handed, body_with, body_after, line_after}
use Rattle.dsql_laws.proofs.Tests.{both, same_itself}
use Rattle.dsql_laws.specs.history.declared.event.Event.{Event}
use Rattle.dsql_laws.specs.history.declared.event.Event.TheVariants.{Run, Heard}
use Rattle.dsql_laws.specs.history.declared.work.Scope.{Scope}
use Rattle.dsql_laws.specs.history.declared.work.Scope.TheVariants.{Db, Held}
use Rattle.dsql_laws.specs.history.declared.work.Work.{Work}
use Rattle.dsql_laws.specs.history.declared.work.Work.TheVariants as works_of
use Rattle.dsql_laws.specs.history.declared.work.Work.TheVariants.{Look}
use Rattle.dsql_laws.specs.history.Readers.Course.{caps}
use Rattle.dsql_laws.specs.history.Readers.Journals.{journal, heard_in}
use Rattle.dsql_laws.specs.history.Readers.Pool.{place, home, uses}
use Rattle.dsql_laws.specs.history.Readers.Works.{work, scope, borrower}
use Rattle.dsql_laws.specs.history.Readers.Lines.{line_in}
use Rattle.dsql_laws.specs.history.Rules.Course.{keeps_course, begins_with_run, ends_once}
use Rattle.dsql_laws.specs.history.Rules.Line.{is_used, parts}
use Rattle.dsql_laws.specs.history.Rules.Sent.{is_reset_due, asked_by, untested, Sender, sender, line_for, line_with, line_at, line_of}
use Rattle.dsql_laws.specs.history.Legal.{Allowed, Lawful}
use Rattle.dsql_laws_calls.proofs.Owners.{at_home}
use Rattle.dsql_laws_calls.proofs.Lent.{uses_stay}
use Rattle.dsql_laws_calls.proofs.Stays.{work_stays, asked_stays}

-- Returns what call n would send next on connection c, given what is wanted of the rows that the call handed
-- out. The connection is lent to this owner in tenure t.
abbrev pub line_there : List Event → ℕ → ℕ → Owner → ℕ → Wish → Option DriverCall
line_there H c t own n w = line_with (sender H n c w) (line_in own n (heard_in H c t))

-- If call n uses the connection, this is its line.
pub line_here : (H : List Event) (c t : ℕ) (own : Owner) (n : ℕ) (w : Wish) → Lawful H → place H c ≡ Some (Lent t own) → borrower H n ≡ number_of own → line_of H n w ≡ line_there H c t own n w
line_here H c t own n w l is its =
    ap (λ d. line_at H n w d (place H d)) (ap (λ k. home H k) its ∙ at_home H c t own l is)
    ∙ ap (λ at. line_at H n w c at) is
    ∙ ap (λ (b : Bool). cond b (line_there H c t own n w) None) (ap (λ k. number_of own == k) its ∙ same_itself (number_of own))

-- The run's first event comes before all lendings.
begun_so : (H : List Event) (c : ℕ) (p : Place) → place H c ≡ Some p → H ≡ [] → ⊥
begun_so H c p is none = let k : place [] c ≡ Some p = ap (λ G. place G c) (sym none) ∙ is in cc

pub course_of : (H : List Event) (e : Event) → Allowed H e → keeps_course H e ≡ true
unfolding Allowed
course_of H e a = a.course

pub caps_stay : (H : List Event) (e : Event) (c : ℕ) (p : Place) → Allowed H e → place H c ≡ Some p → caps (e ∷ H) ≡ caps H
caps_stay [] (Run version can) c p a is = absurd (begun_so [] c p is refl)
caps_stay (x ∷ H) (Run version can) c p a is = let k = both (begins_with_run (x ∷ H) (Run version can)) (ends_once (x ∷ H) (Run version can)) (course_of (x ∷ H) (Run version can) a) in absurd (wrong k.0)
  where
    wrong : false ≡ true → ⊥
    wrong h = cc
caps_stay H _ c p a is = refl

reset_as : (ca cb : Caps) (x y : ℕ) → cb ≡ ca → y ≡ x → (cb.resetter && nat_le 2 y) ≡ (ca.resetter && nat_le 2 x)
reset_as ca cb x y p q = rw (p, q) refl

pub reset_stays : (H : List Event) (e : Event) (c t : ℕ) (own : Owner) → Lawful H → Allowed H e → place H c ≡ Some (Lent t own) → is_used H (number_of own) ≡ true → is_reset_due (e ∷ H) c ≡ is_reset_due H c
reset_stays H e c t own l a is used = reset_as (caps H) (caps (e ∷ H)) (uses H c) (uses (e ∷ H) c) (caps_stay H e c (Lent t own) a is) (uses_stay H e c t own l a is used)

-- A call is the same sender in two histories that are alike in everything on which its line depends.
pub same_sender : (H K : List Event) (n c : ℕ) (w : Wish) → caps K ≡ caps H → is_reset_due K c ≡ is_reset_due H c → journal K c ≡ journal H c → asked_by K n ≡ asked_by H n → work K n ≡ work H n → sender K n c w ≡ sender H n c w
same_sender H K n c w can reset heard asked its =
    by (λ x y J z it. record { can = x; reset_due = y; bad = went_bad J; asked = z; work = it; wish = w }) (caps H) (caps K) (is_reset_due H c) (is_reset_due K c) (journal H c) (journal K c) (asked_by H n) (asked_by K n) (work H n) (work K n) can reset heard asked its
  where
    by : (f : Caps → Bool → List Entry → Asked → Work → Sender) (x u : Caps) (y v : Bool) (J M : List Entry) (z s : Asked) (it jt : Work) → u ≡ x → v ≡ y → M ≡ J → s ≡ z → jt ≡ it → f u v M s jt ≡ f x y J z it
    by f x u y v J M z s it jt can reset heard asked its = rw (can, reset, heard, asked, its) refl

pub line_stays : (H : List Event) (e : Event) (c t : ℕ) (own : Owner) (n : ℕ) (w : Wish) → Lawful H → Allowed H e → place H c ≡ Some (Lent t own) → is_used H (number_of own) ≡ true
    → journal (e ∷ H) c ≡ journal H c → (work H n ≡ Look → ⊥) → line_there (e ∷ H) c t own n w ≡ line_there H c t own n w
line_stays H e c t own n w l a is used quiet busy =
    ap (λ J. line_with (sender (e ∷ H) n c w) (line_in own n (of_tenure t J))) quiet
    ∙ ap (λ S. line_with S (line_in own n (heard_in H c t)))
    (same_sender H (e ∷ H) n c w (caps_stay H e c (Lent t own) a is) (reset_stays H e c t own l a is used) quiet (asked_stays H e n busy) (work_stays H e n busy))

-- An event that doesn't part an entry leaves the journal of the entry's connection as it was.
pub unheard : (H : List Event) (last : Event) (e : Entry) → parts last e ≡ false → journal (last ∷ H) e.conn ≡ journal H e.conn
unheard H (Heard x) e on = ap (λ (b : Bool). cond b (x ∷ journal H e.conn) (journal H e.conn)) on
unheard H _ e on = refl

-- If a call sends something when nothing is wanted of its rows, it also sends something when they are to be
-- closed.

over_closes : (can : Caps) (asked : Asked) (b : Bool) (close : Due) (rows : ℕ) → is_some (sent_over can asked (rows_next_if b wishes.Nothing close rows)) ≡ true
    → is_some (sent_over can asked (rows_next_if b wishes.Close close rows)) ≡ true
over_closes can asked true close rows h = h
over_closes can asked false close rows h = absurd cc

body_closes : (can : Caps) (asked : Asked) (made : List Exchange) (o : Option ℕ) → is_some (body_with can false asked wishes.Nothing made o) ≡ true → is_some (body_with can false asked wishes.Close made o) ≡ true
body_closes can asked made None h = h
body_closes can asked made (Some rows) h = over_closes can asked (rows_are_over made) (closing_of courses.Query false can (length asked.params) made) rows h

inner_closes : (can : Caps) (bad : Bool) (asked : Asked) (made : List Exchange) (o : Option ℕ) → is_some (body_with can bad asked wishes.Nothing made o) ≡ true → is_some (body_with can bad asked wishes.Close made o) ≡ true
inner_closes can bad asked made None h = h
inner_closes can bad asked made (Some rows) h = over_closes can asked (rows_are_over made) (closing_of courses.Query bad can (length asked.params) made) rows h

cond_closes : (b : Bool) (q c d : Option DriverCall) → (is_some c ≡ true → is_some d ≡ true) → is_some (cond b q c) ≡ true → is_some (cond b q d) ≡ true
cond_closes true q c d h k = k
cond_closes false q c d h k = h k

after_closes : (can : Caps) (reset : Bool) (asked : Asked) (L : List Entry) → is_some (line_after can reset asked wishes.Nothing L) ≡ true → is_some (line_after can reset asked wishes.Close L) ≡ true
after_closes can reset asked [] h =
    cond_closes reset (Some Reset) (body_after can false asked wishes.Nothing []) (body_after can false asked wishes.Close []) (body_closes can asked [] (handed asked.aim [])) h
after_closes can reset asked (e ∷ earlier) h =
    let made = exchanges (e ∷ earlier) in
    cond_closes (is_bad e.answer || is_valid e.call) None (body_after can false asked wishes.Nothing made) (body_after can false asked wishes.Close made) (body_closes can asked made (handed asked.aim made)) h

with_closes : (S : Sender) (it : Work) (s : Scope) (L : List Entry) → is_some (line_for it s (record S { wish = wishes.Nothing }) L) ≡ true → is_some (line_for it s (record S { wish = wishes.Close }) L) ≡ true
with_closes S (works_of.Begin label level read_only) s L h = h
with_closes S it Db L h = after_closes S.can S.reset_due S.asked L h
with_closes S it (Held k) L h = inner_closes (untested S.can) S.bad S.asked (exchanges L) (handed S.asked.aim (exchanges L)) h

pub closes_too : (H : List Event) (c t : ℕ) (own : Owner) (n : ℕ) → is_some (line_there H c t own n wishes.Nothing) ≡ true → is_some (line_there H c t own n wishes.Close) ≡ true
closes_too H c t own n h = with_closes (sender H n c wishes.Nothing) (work H n) (scope (work H n)) (line_in own n (heard_in H c t)) h
