-- Which entries are in order depends on the events before them and on the lines alone. Whose step it is, and what is
-- under way, changes nothing. The argument goes over the events one by one.
use Rattle.std.proofs.Common.{◌≡◌, ℕ, Bool, true, ◌&&◌, List, [], ◌∷◌, ◌++◌, drop, false, refl, ap, sym, subst, ◌∙◌, append_assoc}
use Rattle.std.specs.List.{list_all}
use Rattle.dsql_engine_laws.specs.history.declared.event.Event.{Event}
use Rattle.dsql_engine_laws.specs.history.declared.event.Event.TheVariants.{Entered}
use Rattle.dsql_engine_laws.specs.history.Readers.Clients.{is_free, made_by}
use Rattle.dsql_engine_laws.proofs.laws.Tests.{both, together}
use Rattle.dsql_engine_laws.specs.follows.Moments.{Moment, begins_step, lines_of, rested, walk}
use Rattle.dsql_engine_laws.specs.follows.Sentences.{enters_in_order, is_next, may_enter}
use Rattle.dsql_engine_laws.specs.laws_steps.Groups.{IsGroup, is_later_of}

-- Two moments with the same history and the same lines let the same calls enter.

allows_alike : (m now : Moment) (e : Event) → now.past ≡ m.past → now.lines ≡ m.lines → may_enter now e ≡ may_enter m e
allows_alike m now (Entered client n op) past lines =
    ap (λ H. is_free H client && is_next op (drop (made_by H client) (lines_of now.lines client))) past
    ∙ ap (λ ls. is_free m.past client && is_next op (drop (made_by m.past client) (lines_of ls client))) lines
allows_alike m now e past lines = refl

pub past_after : (m : Moment) (events : List Event) → (walk m events).now.past ≡ events ++ m.past
past_after m [] = refl
past_after m (e ∷ rest) = ap (λ past. e ∷ past) (past_after m rest)

pub lines_after : (m : Moment) (events : List Event) → (walk m events).now.lines ≡ m.lines
lines_after m [] = refl
lines_after m (e ∷ rest) = lines_after m rest

pub ordered_alike : (m now : Moment) (events : List Event) → now.past ≡ m.past → now.lines ≡ m.lines → enters_in_order now events ≡ enters_in_order m events
ordered_alike m now [] past lines = refl
ordered_alike m now (e ∷ rest) past lines =
    let here : Moment = (walk m rest).now in
    let there : Moment = (walk now rest).now in
    let same_past : there.past ≡ here.past = past_after now rest ∙ (ap (λ H. rest ++ H) past ∙ sym (past_after m rest)) in
    let same_lines : there.lines ≡ here.lines = lines_after now rest ∙ (lines ∙ sym (lines_after m rest)) in
    ap (λ b. b && enters_in_order now rest) (allows_alike (rested (begins_step here e) here) (rested (begins_step there e) there) e same_past same_lines)
    ∙ ap (λ b. may_enter (rested (begins_step here e) here) e && b) (ordered_alike m now rest past lines)

-- Entries in order, and further entries in order from the moment after them, are in order together.

in_two : (a b c : Bool) → (a && (b && c)) ≡ ((a && b) && c)
in_two true b c = refl
in_two false b c = refl

further : (m : Moment) (more events : List Event) → enters_in_order m (more ++ events) ≡ (enters_in_order (walk m events).now more && enters_in_order m events)
further m [] events = refl
further m (e ∷ more) events =
    let here : Moment = (walk m (more ++ events)).now in
    let there : Moment = (walk (walk m events).now more).now in
    let now : Moment = (walk m events).now in
    let same_past : here.past ≡ there.past =
    past_after m (more ++ events) ∙ (append_assoc more events m.past ∙ (ap (λ H. more ++ H) (sym (past_after m events)) ∙ sym (past_after now more))) in
    let same_lines : here.lines ≡ there.lines = lines_after m (more ++ events) ∙ (sym (lines_after m events) ∙ sym (lines_after now more)) in
    let may : Bool = may_enter (rested (begins_step there e) there) e in
    ap (λ b. b && enters_in_order m (more ++ events)) (allows_alike (rested (begins_step there e) there) (rested (begins_step here e) here) e same_past same_lines)
    ∙ (ap (λ b. may && b) (further m more events) ∙ in_two may (enters_in_order now more) (enters_in_order m events))

pub ordered_then : (m now : Moment) (events more : List Event) → now.past ≡ events ++ m.past → now.lines ≡ m.lines → enters_in_order m events ≡ true → enters_in_order now more ≡ true
    → enters_in_order m (more ++ events) ≡ true
ordered_then m now events more past lines before then =
    let alike = ordered_alike (walk m events).now now more (past ∙ sym (past_after m events)) (lines ∙ sym (lines_after m events)) in
    further m more events ∙ together (enters_in_order (walk m events).now more) (enters_in_order m events) (sym alike ∙ then) before

-- Only the first event of a step may enter a line.

later_enters : (m : Moment) (n : ℕ) (e : Event) → is_later_of n e ≡ true → may_enter m e ≡ true
later_enters m n (Entered client k op) h = absurd cc
later_enters m n e h = refl

enters_once : (m : Moment) (first : Event) (n : ℕ) (more : List Event) → list_all (is_later_of n) more ≡ true → may_enter m first ≡ true → enters_in_order m (more ++ first ∷ []) ≡ true
enters_once m first n [] later may = together (may_enter (rested (begins_step m first) m) first) true (allows_alike m (rested (begins_step m first) m) first refl refl ∙ may) refl
enters_once m first n (e ∷ more) later may =
    let a = both (is_later_of n e) (list_all (is_later_of n) more) later in
    let before = (walk m (more ++ first ∷ [])).now in
    together (may_enter (rested (begins_step before e) before) e) (enters_in_order m (more ++ first ∷ [])) (later_enters (rested (begins_step before e) before) n e a.0) (enters_once m first n more a.1 may)

pub step_ordered : (m : Moment) (first : Event) (n : ℕ) (events : List Event) → IsGroup first n events → may_enter m first ≡ true → enters_in_order m events ≡ true
step_ordered m first n events group may = subst (λ es. enters_in_order m es ≡ true) (sym group.whole) (enters_once m first n group.more group.later may)
