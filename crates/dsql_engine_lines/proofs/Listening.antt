-- Each listener hears an answer once, and the listeners are the calls with something open.
use Rattle.std.proofs.Common.{◌≡◌, ◌≢◌, ℕ, ◌+◌, ◌<◌, ◌≤◌, ◌==◌, ◌⊎◌, inl, inr, Bool, true, false, not, ◌&&◌, ◌||◌, cond, List, [], ◌∷◌, ◌++◌, length, length-set, Option, Some, None, is_some, filter, refl, sym, ap, ◌∙◌, arith}
use Rattle.std.specs.Prelude.{slice_index_or, slice_set}
use Rattle.std.proofs.lemmas.List.{length-append}
use Rattle.std.proofs.lemmas.List.Folds.{list_any-append}
use Rattle.dsql_laws_calls.specs.driver.declared.call.DriverCall.{DriverCall}
use Rattle.dsql_laws_calls.specs.driver.declared.call.DriverCall.TheVariants as calls
use Rattle.dsql_laws_calls.specs.journal.declared.entry.Entry.{Entry}
use Rattle.dsql_laws_calls.specs.journal.Kinds.{number_of}
use Rattle.dsql_laws_calls.proofs.laws.Tests.{both, same_number, same_itself}
use Rattle.dsql_laws_calls.proofs.laws_work.Rows.{read_push, row_at, row_off, within_rows}
use Rattle.dsql_engine_exchanged.specs.declared.heard.HeardLine.{HeardLine}
use Rattle.dsql_engine_exchanged.specs.Heard.{nothing_heard, heard_if, is_about_open, then_heard}
use Rattle.dsql_laws_calls.specs.history.declared.event.Event.{Event}
use Rattle.dsql_laws_calls.specs.history.declared.event.Event.TheVariants.{Entered, Heard}
use Rattle.dsql_laws_calls.specs.history.declared.work.Work.{Work}
use Rattle.dsql_laws_calls.specs.history.declared.work.Work.TheVariants.{Look}
use Rattle.dsql_laws_calls.specs.history.Readers.Works.{is_in, scope, work, work_of, works}
use Rattle.dsql_engine_lines.specs.Inside.{hear_all, hear_in, is_open, line_at, lines, listeners}
use Rattle.dsql_engine_lines.specs.Once.{none_twice, stands_in}

-- A call in the list hears once, and no other call hears.

not_false : (b : Bool) → not b ≡ true → b ≡ false
not_false true h = absurd cc
not_false false h = refl

hear_in_length : (ws : List Work) (e : Entry) (n : ℕ) (ls : List HeardLine) → length (hear_in ws e n ls) ≡ length ls
hear_in_length ws e n ls = by (is_in (number_of e.owner) (scope (slice_index_or ws n Look)))
  where
    by : (b : Bool) → length (cond b (slice_set ls n (heard_if n e (line_at ls n))) ls) ≡ length ls
    by true = length-set ls n (heard_if n e (line_at ls n))
    by false = refl

hear_all_length : (ws : List Work) (e : Entry) (ns : List ℕ) (ls : List HeardLine) → length (hear_all ws e ns ls) ≡ length ls
hear_all_length ws e [] ls = refl
hear_all_length ws e (m ∷ ns) ls = hear_all_length ws e ns (hear_in ws e m ls) ∙ hear_in_length ws e m ls

hear_off : (ws : List Work) (e : Entry) (m n : ℕ) (ls : List HeardLine) → (m == n) ≡ false → line_at (hear_in ws e m ls) n ≡ line_at ls n
hear_off ws e m n ls other = by (is_in (number_of e.owner) (scope (slice_index_or ws m Look)))
  where
    apart : n ≢ m
    apart same = let itself : false ≡ true = sym other ∙ (ap (λ j. m == j) same ∙ same_itself m) in cc

    by : (b : Bool) → line_at (cond b (slice_set ls m (heard_if m e (line_at ls m))) ls) n ≡ line_at ls n
    by true = row_off ls m (heard_if m e (line_at ls m)) n nothing_heard apart
    by false = refl

-- A call that isn't in the list hears nothing.
unlisted : (ws : List Work) (e : Entry) (n : ℕ) (ns : List ℕ) (ls : List HeardLine) → stands_in n ns ≡ false → line_at (hear_all ws e ns ls) n ≡ line_at ls n
unlisted ws e n [] ls h = refl
unlisted ws e n (m ∷ ns) ls h = by (unlisted ws e n ns (hear_in ws e m ls)) (m == n) refl h
  where
    by : (stands_in n ns ≡ false → line_at (hear_all ws e (m ∷ ns) ls) n ≡ line_at (hear_in ws e m ls) n) → (b : Bool) → (m == n) ≡ b → (b || stands_in n ns) ≡ false → line_at (hear_all ws e (m ∷ ns) ls) n ≡ line_at ls n
    by rest true is k = absurd cc
    by rest false is k = rest k ∙ hear_off ws e m n ls is

-- A call that isn't in the transaction hears nothing.
outside : (ws : List Work) (e : Entry) (n : ℕ) (ns : List ℕ) (ls : List HeardLine) → is_in (number_of e.owner) (scope (slice_index_or ws n Look)) ≡ false → line_at (hear_all ws e ns ls) n ≡ line_at ls n
outside ws e n [] ls h = refl
outside ws e n (m ∷ ns) ls h = outside ws e n ns (hear_in ws e m ls) h ∙ by (m == n) refl
  where
    by : (b : Bool) → (m == n) ≡ b → line_at (hear_in ws e m ls) n ≡ line_at ls n
    by true is =
        let same : m ≡ n = same_number m n is in
        ap (λ b. line_at (cond b (slice_set ls m (heard_if m e (line_at ls m))) ls) n) (ap (λ j. is_in (number_of e.owner) (scope (slice_index_or ws j Look))) same ∙ h)
    by false is = hear_off ws e m n ls is

-- A call in the list and in the transaction hears the answer once.
listed : (ws : List Work) (e : Entry) (n : ℕ) (ns : List ℕ) (ls : List HeardLine) → none_twice ns ≡ true → n < length ls → stands_in n ns ≡ true → is_in (number_of e.owner) (scope (slice_index_or ws n Look)) ≡ true
    → line_at (hear_all ws e ns ls) n ≡ heard_if n e (line_at ls n)
listed ws e n [] ls once there h inside = absurd cc
listed ws e n (m ∷ ns) ls once there h inside =
    let parts = both (not (stands_in m ns)) (none_twice ns) once in
    let as_long = hear_in_length ws e m ls in
    let still : n < length (hear_in ws e m ls) = omega (arith, as_long, there) in
    by (λ k. listed ws e n ns (hear_in ws e m ls) parts.1 still k inside) (not_false (stands_in m ns) parts.0) (m == n) refl h
  where
    by : (stands_in n ns ≡ true → line_at (hear_all ws e (m ∷ ns) ls) n ≡ heard_if n e (line_at (hear_in ws e m ls) n)) → stands_in m ns ≡ false
        → (b : Bool) → (m == n) ≡ b → (b || stands_in n ns) ≡ true → line_at (hear_all ws e (m ∷ ns) ls) n ≡ heard_if n e (line_at ls n)
    by rest once_here true is k =
        let same : m ≡ n = same_number m n is in
        let gone : stands_in n ns ≡ false = ap (λ j. stands_in j ns) (sym same) ∙ once_here in
        unlisted ws e n ns (hear_in ws e m ls) gone
        ∙ ap (λ j. line_at (hear_in ws e j ls) n) same
        ∙ ap (λ b. line_at (cond b (slice_set ls n (heard_if n e (line_at ls n))) ls) n) inside
        ∙ row_at ls n (heard_if n e (line_at ls n)) nothing_heard there
    by rest once_here false is k = rest k ∙ ap (heard_if n e) (hear_off ws e m n ls is)

-- The list of listeners.

-- The call that has sent listens.
sender_listens : (n : ℕ) (ns : List ℕ) → stands_in n (listeners n ns) ≡ true
sender_listens n ns = by (stands_in n ns) refl
  where
    either : (b : Bool) → (b || ((n == n) || false)) ≡ true
    either true = refl
    either false = ap (λ b. b || false) (same_itself n)

    by : (b : Bool) → stands_in n ns ≡ b → stands_in n (cond b ns (ns ++ n ∷ [])) ≡ true
    by true is = is
    by false is = list_any-append (λ m. m == n) ns (n ∷ []) ∙ either (stands_in n ns)

-- A call that doesn't listen isn't the sender, and wasn't in the list before.
unheeded : (m n : ℕ) (ns : List ℕ) → stands_in n (listeners m ns) ≡ false → ((m == n) ≡ false) × (stands_in n ns ≡ false)
unheeded m n ns h = (not_sender (m == n) refl, by (stands_in m ns) h)
  where
    not_sender : (b : Bool) → (m == n) ≡ b → b ≡ false
    not_sender true is = let wrong : false ≡ true = sym h ∙ (ap (λ j. stands_in j (listeners m ns)) (sym (same_number m n is)) ∙ sender_listens m ns) in absurd cc
    not_sender false is = refl

    first : (a b : Bool) → (a || b) ≡ false → a ≡ false
    first true b k = absurd cc
    first false b k = refl

    by : (b : Bool) → stands_in n (cond b ns (ns ++ m ∷ [])) ≡ false → stands_in n ns ≡ false
    by true k = k
    by false k = first (stands_in n ns) ((m == n) || false) (sym (list_any-append (λ j. j == n) ns (m ∷ [])) ∙ k)

pushed_once : (n : ℕ) (ns : List ℕ) → none_twice ns ≡ true → stands_in n ns ≡ false → none_twice (ns ++ n ∷ []) ≡ true
pushed_once n [] once new = refl
pushed_once n (m ∷ ns) once new =
    let parts = both (not (stands_in m ns)) (none_twice ns) once in
    by (pushed_once n ns parts.1) (m == n) refl (not_false (stands_in m ns) parts.0) new
  where
    turned : (b : Bool) → (m == n) ≡ b → (n == m) ≡ b
    turned true is = ap (λ j. j == m) (sym (same_number m n is)) ∙ same_itself m
    turned false is = at (n == m) refl
      where
        at : (c : Bool) → (n == m) ≡ c → c ≡ false
        at true its = let wrong : false ≡ true = sym is ∙ (ap (λ j. m == j) (same_number n m its) ∙ same_itself m) in absurd cc
        at false its = refl

    by : (stands_in n ns ≡ false → none_twice (ns ++ n ∷ []) ≡ true) → (b : Bool) → (m == n) ≡ b → stands_in m ns ≡ false → (b || stands_in n ns) ≡ false → none_twice ((m ∷ ns) ++ n ∷ []) ≡ true
    by rest true is k new_now = absurd cc
    by rest false is k new_now =
        ap (λ b. not b && none_twice (ns ++ n ∷ [])) (list_any-append (λ j. j == m) ns (n ∷ []) ∙ (ap (λ b. b || ((n == m) || false)) k ∙ ap (λ b. b || false) (turned false is)))
        ∙ rest new_now

listeners_once : (n : ℕ) (ns : List ℕ) → none_twice ns ≡ true → none_twice (listeners n ns) ≡ true
listeners_once n ns once = by (stands_in n ns) refl
  where
    by : (b : Bool) → stands_in n ns ≡ b → none_twice (cond b ns (ns ++ n ∷ [])) ≡ true
    by true is = once
    by false is = pushed_once n ns once is

in_filter : (test : ℕ → Bool) (n : ℕ) (ns : List ℕ) → stands_in n (filter test ns) ≡ (stands_in n ns && test n)
in_filter test n [] = refl
in_filter test n (m ∷ ns) = by (in_filter test n ns) (test m) refl (m == n) refl
  where
    none : (a b : Bool) → b ≡ false → (a && b) ≡ b
    none true b k = refl
    none false b k = sym k

    by : stands_in n (filter test ns) ≡ (stands_in n ns && test n) → (b : Bool) → test m ≡ b → (c : Bool) → (m == n) ≡ c → stands_in n (cond b (m ∷ filter test ns) (filter test ns)) ≡ (((m == n) || stands_in n ns) && test n)
    by rest true its true is =
        ap (λ c. c || stands_in n (filter test ns)) is ∙ (sym its ∙ ap test (same_number m n is)) ∙ ap (λ c. (c || stands_in n ns) && test n) (sym is)
    by rest true its false is = ap (λ c. c || stands_in n (filter test ns)) is ∙ rest ∙ ap (λ c. (c || stands_in n ns) && test n) (sym is)
    by rest false its true is = rest ∙ none (stands_in n ns) (test n) (ap test (sym (same_number m n is)) ∙ its) ∙ ap (λ c. (c || stands_in n ns) && test n) (sym is)
    by rest false its false is = rest ∙ ap (λ c. (c || stands_in n ns) && test n) (sym is)

filter_once : (test : ℕ → Bool) (ns : List ℕ) → none_twice ns ≡ true → none_twice (filter test ns) ≡ true
filter_once test [] once = refl
filter_once test (m ∷ ns) once =
    let parts = both (not (stands_in m ns)) (none_twice ns) once in
    by (test m) (not_false (stands_in m ns) parts.0) (filter_once test ns parts.1)
  where
    by : (b : Bool) → stands_in m ns ≡ false → none_twice (filter test ns) ≡ true → none_twice (cond b (m ∷ filter test ns) (filter test ns)) ≡ true
    by true new rest = ap (λ c. not c && none_twice (filter test ns)) (in_filter test m ns ∙ ap (λ c. c && test m) new) ∙ rest
    by false new rest = rest

-- What holds of the lines of each history.

pub record Standing (H : List Event) : Type 0 where
  pub as_many : length (lines H).calls ≡ length (works H)
  pub once : none_twice (lines H).open ≡ true
  pub open_so : (n : ℕ) → stands_in n (lines H).open ≡ is_open (line_at (lines H).calls n)

-- Adding a line in which nothing was heard leaves the line at each number unchanged.
pub line_pushed : (ls : List HeardLine) (n : ℕ) → line_at (ls ++ nothing_heard ∷ []) n ≡ line_at ls n
line_pushed ls n = by (read_push ls nothing_heard n nothing_heard) (within_rows ls n nothing_heard)
  where
    by : ((n ≡ length ls) × (line_at (ls ++ nothing_heard ∷ []) n ≡ nothing_heard)) ⊎ ((n ≢ length ls) × (line_at (ls ++ nothing_heard ∷ []) n ≡ line_at ls n)) → (n < length ls) ⊎ ((length ls ≤ n) × (line_at ls n ≡ nothing_heard))
        → line_at (ls ++ nothing_heard ∷ []) n ≡ line_at ls n
    by (inr old) there = old.1
    by (inl new) (inl within) = let at_end = new.0 in absurd (omega (arith, at_end, within))
    by (inl new) (inr beyond) = new.1 ∙ sym beyond.1

standing_heard : (H : List Event) (e : Entry) → Standing H → Standing (Heard e ∷ H)
standing_heard H e s = record {
  as_many = hear_all_length (works H) e told (lines H).calls ∙ s.as_many;
  once = filter_once (λ n. is_open (line_at later n)) told (listeners_once e.call_no (lines H).open s.once);
  open_so = λ n. in_filter (λ m. is_open (line_at later m)) n told ∙ by n (stands_in n told) refl;
}
  where
    told : List ℕ
    told = listeners e.call_no (lines H).open

    later : List HeardLine
    later = hear_all (works H) e (listeners e.call_no (lines H).open) (lines H).calls

    by : (n : ℕ) (b : Bool) → stands_in n (listeners e.call_no (lines H).open) ≡ b
        → (b && is_open (line_at (hear_all (works H) e (listeners e.call_no (lines H).open) (lines H).calls) n)) ≡ is_open (line_at (hear_all (works H) e (listeners e.call_no (lines H).open) (lines H).calls) n)
    by n true is = refl
    by n false is =
        let u = unheeded e.call_no n (lines H).open is in
        sym (ap is_open (unlisted (works H) e n (listeners e.call_no (lines H).open) (lines H).calls is) ∙ (sym (s.open_so n) ∙ u.1))

pub standing : (H : List Event) → Standing H
standing [] = record { as_many = refl; once = refl; open_so = λ n. sym (ap is_open (none n)) }
  where
    none : (n : ℕ) → line_at (nothing_heard ∷ []) n ≡ nothing_heard
    none n = line_pushed [] n
standing (Heard e ∷ H) = standing_heard H e (standing H)
standing (Entered client m op ∷ H) =
    let s = standing H in
    record {
      as_many = length-append (lines H).calls (nothing_heard ∷ []) ∙ (ap (λ k. k + 1) s.as_many ∙ sym (length-append (works H) (work_of (works H) op ∷ [])));
      once = s.once;
      open_so = λ n. s.open_so n ∙ sym (ap is_open (line_pushed (lines H).calls n));
    }
standing (_ ∷ H) = let s = standing H in record { as_many = s.as_many; once = s.once; open_so = s.open_so }

-- An answer in the lines.

-- No driver call is about the cursor or handle of a line in which nothing is open.
about_closed : (it : HeardLine) (q : DriverCall) → is_open it ≡ false → is_about_open it q ≡ false
about_closed it q h = by it.cursor it.handle q h
  where
    by : (cursor handle : Option ℕ) (p : DriverCall) → (is_some cursor || is_some handle) ≡ false → is_about_open (record it { cursor = cursor; handle = handle }) p ≡ false
    by (Some rows) handle p k = absurd cc
    by None (Some number) p k = absurd cc
    by None None (calls.Next rows) k = refl
    by None None _ k = refl

not_heard : (n : ℕ) (e : Entry) (it : HeardLine) → (e.call_no == n) ≡ false → is_open it ≡ false → heard_if n e it ≡ it
not_heard n e it other shut = ap (λ b. cond (b || is_about_open it e.call) (then_heard e it) it) other ∙ ap (λ b. cond b (then_heard e it) it) (about_closed it e.call shut)

known : (H : List Event) (n k : ℕ) → is_in k (scope (work H n)) ≡ true → n < length (works H)
known H n k h = by (within_rows (works H) n Look)
  where
    by : (n < length (works H)) ⊎ ((length (works H) ≤ n) × (work H n ≡ Look)) → n < length (works H)
    by (inl within) = within
    by (inr beyond) = let wrong : false ≡ true = sym (ap (λ w. is_in k (scope w)) beyond.1) ∙ h in absurd cc

-- A call in the answer's transaction hears the answer if it belongs to the call's line.
pub hears : (H : List Event) (e : Entry) (n : ℕ) → is_in (number_of e.owner) (scope (work H n)) ≡ true → line_at (lines (Heard e ∷ H)).calls n ≡ heard_if n e (line_at (lines H).calls n)
hears H e n inside = by (stands_in n (listeners e.call_no (lines H).open)) refl
  where
    s : Standing H
    s = standing H

    there : n < length (lines H).calls
    there = let as_many = s.as_many in let within = known H n (number_of e.owner) inside in omega (arith, as_many, within)

    by : (b : Bool) → stands_in n (listeners e.call_no (lines H).open) ≡ b → line_at (lines (Heard e ∷ H)).calls n ≡ heard_if n e (line_at (lines H).calls n)
    by true is = listed (works H) e n (listeners e.call_no (lines H).open) (lines H).calls (listeners_once e.call_no (lines H).open s.once) there is inside
    by false is =
        let u = unheeded e.call_no n (lines H).open is in
        unlisted (works H) e n (listeners e.call_no (lines H).open) (lines H).calls is ∙ sym (not_heard n e (line_at (lines H).calls n) u.0 (sym (s.open_so n) ∙ u.1))

-- A call in no such transaction hears nothing.
pub hears_none : (H : List Event) (e : Entry) (n : ℕ) → is_in (number_of e.owner) (scope (work H n)) ≡ false → line_at (lines (Heard e ∷ H)).calls n ≡ line_at (lines H).calls n
hears_none H e n apart = outside (works H) e n (listeners e.call_no (lines H).open) (lines H).calls apart

pub not_heard_none : (n : ℕ) (e : Entry) → (e.call_no == n) ≡ false → heard_if n e nothing_heard ≡ nothing_heard
not_heard_none n e other = not_heard n e nothing_heard other refl
