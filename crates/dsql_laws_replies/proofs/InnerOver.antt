-- Once an answer has decided for a call in a transaction, the call sends only what closes its cursor or handle,
-- or fetches its row.
use Rattle.std.proofs.Common.{◌≡◌, ℕ, ℤ, ◌⊎◌, inl, inr, Bool, true, false, not, ◌&&◌, List, [], ◌∷◌, length, Option, Some, None, is_none, refl, if◌then◌else◌}
use Rattle.std.specs.List.{list_all}
use Rattle.std.specs.Option.{option_map}
use Rattle.dsql_laws_calls.specs.value.declared.value.Param.{Param}
use Rattle.dsql_laws_calls.specs.value.Arguments.{count_fault}
use Rattle.dsql_laws_calls.specs.driver.declared.caps.Caps.{Caps}
use Rattle.dsql_laws_calls.specs.course.declared.call.Due.{Due}
use Rattle.dsql_laws_calls.specs.course.declared.call.Due.TheVariants as due
use Rattle.dsql_laws_calls.specs.course.declared.call.Got.{Got}
use Rattle.dsql_laws_calls.specs.course.declared.call.Got.TheVariants as got
use Rattle.dsql_laws_calls.specs.course.Line.{lets_handle_go, wanted, or_then, first_wanted, steps_left}
use Rattle.dsql_laws_calls.specs.course.Made.{Exchange, went_bad, own_cursor, own_handle, reads_one, has_fast_way}
use Rattle.dsql_laws_calls.specs.course.Steps.{Step, FetchRow, CloseCursor, CloseHandle}
use Rattle.dsql_laws_calls.specs.works.declared.work.Aim.{Aim}
use Rattle.dsql_laws_calls.specs.works.declared.work.Aim.TheVariants as aims
use Rattle.dsql_laws_calls.specs.works.Line.{course_of, found}
use Rattle.dsql_laws_calls.proofs.laws_work.MadeLines.{asking, has_text}
use Rattle.dsql_laws_calls.specs.history.Rules.Sent.{untested}
use Rattle.dsql_laws_calls.proofs.Quiet.{next_inside}
use Rattle.dsql_laws_calls.proofs.laws.Tests.{both}
use Rattle.dsql_laws_replies.proofs.InnerAwaits.{Fresh}

-- Is true of the steps after which nothing is run or prepared.
abbrev pub is_late : Due → Bool
is_late (due.Handle handle) = true
is_late (due.Next rows) = true
is_late (due.CloseRows rows) = true
is_late (due.CloseStmt handle) = true
is_late _ = false

abbrev pub ends_text : Got → Bool
ends_text got.Result = true
ends_text (got.Cursor rows) = true
ends_text got.Bad = true
ends_text got.Fail = true
ends_text _ = false

abbrev pub ends_prepare : ℕ → Got → Bool
ends_prepare count (got.Prepared handle inputs) = not (is_none (count_fault inputs count))
ends_prepare count got.Bad = true
ends_prepare count got.Fail = true
ends_prepare count _ = false

-- Holds if the newest exchange is of such a step.
pub record Late (made : List Exchange) : Type 0 where
  pub call : Due
  pub answer : Got
  pub rest : List Exchange
  pub is : made ≡ (call, answer) ∷ rest
  pub late : is_late call ≡ true

pub record TextEnded (can : Caps) (aim : Aim) (made : List Exchange) : Type 0 where
  pub answer : Got
  pub fast : has_fast_way (course_of aim) can ≡ true
  pub is : made ≡ (due.Text, answer) ∷ []
  pub ends : ends_text answer ≡ true

pub record PrepareEnded (count : ℕ) (made : List Exchange) : Type 0 where
  pub answer : Got
  pub rest : List Exchange
  pub is : made ≡ (due.Prepare, answer) ∷ rest
  pub before : Fresh rest
  pub ends : ends_prepare count answer ≡ true

abbrev pub Over : Caps → Aim → ℕ → List Exchange → Type 0
Over can aim count made = Late made ⊎ (TextEnded can aim made ⊎ PrepareEnded count made)

-- Is true of what may come then: the end, a close, or a fetch of the row that a call reads itself.
abbrev pub is_tidy : Aim → Due → Bool
is_tidy aims.ReadOne (due.Next rows) = true
is_tidy aim (due.CloseRows rows) = true
is_tidy aim (due.CloseStmt handle) = true
is_tidy aim due.Over = true
is_tidy aim _ = false

abbrev tidies : Step → Bool
tidies FetchRow = true
tidies CloseCursor = true
tidies CloseHandle = true
tidies _ = false

either_tidy : (aim : Aim) (o : Option Due) (d : Due) → ((e : Due) → o ≡ Some e → is_tidy aim e ≡ true) → is_tidy aim d ≡ true → is_tidy aim (or_then o d) ≡ true
either_tidy aim None d first later = later
either_tidy aim (Some e) d first later = first e refl

close_rows : (aim : Aim) (o : Option ℕ) (e : Due) → option_map (λ rows. due.CloseRows rows) o ≡ Some e → is_tidy aim e ≡ true
close_rows aim None e h = absurd cc
close_rows aims.ReadOne (Some r) e h = let x : e ≡ due.CloseRows r = cc in rw x refl
close_rows _ (Some r) e h = let x : e ≡ due.CloseRows r = cc in rw x refl

close_stmt : (aim : Aim) (o : Option (ℕ × ℤ)) (e : Due) → option_map (λ (handle : ℕ × ℤ). due.CloseStmt handle.0) o ≡ Some e → is_tidy aim e ≡ true
close_stmt aim None e h = absurd cc
close_stmt aims.ReadOne (Some r) e h = let x : e ≡ due.CloseStmt r.0 = cc in rw x refl
close_stmt _ (Some r) e h = let x : e ≡ due.CloseStmt r.0 = cc in rw x refl

when_so : (aim : Aim) (b : Bool) (o : Option Due) → ((e : Due) → o ≡ Some e → is_tidy aim e ≡ true) → (e : Due) → (if b then o else None) ≡ Some e → is_tidy aim e ≡ true
when_so aim true o h e k = h e k
when_so aim false o h e k = absurd cc

fetch_tidy : (o : Option ℕ) (e : Due) → option_map (λ rows. due.Next rows) o ≡ Some e → is_tidy aims.ReadOne e ≡ true
fetch_tidy None e h = absurd cc
fetch_tidy (Some r) e h = let x : e ≡ due.Next r = cc in rw x refl

step_tidy : (can : Caps) (bad : Bool) (count : ℕ) (made : List Exchange) (aim : Aim) (s : Step) → has_text aim ≡ true → tidies s ≡ true → (e : Due) → wanted (course_of aim) can count (found bad) made s ≡ Some e → is_tidy aim e ≡ true
step_tidy can bad count made aims.ReadOne FetchRow x h e k = fetch_tidy (own_cursor made) e k
step_tidy can bad count made aim CloseCursor x h e k = when_so aim (reads_one (course_of aim) && not bad) (option_map (λ rows. due.CloseRows rows) (own_cursor made)) (close_rows aim (own_cursor made)) e k
step_tidy can bad count made aim CloseHandle x h e k =
    when_so aim (lets_handle_go (course_of aim) (found bad) made && not bad) (option_map (λ (handle : ℕ × ℤ). due.CloseStmt handle.0) (own_handle made)) (close_stmt aim (own_handle made)) e k
step_tidy can bad count made _ _ x h e k = absurd cc

over_tidy : (aim : Aim) → is_tidy aim due.Over ≡ true
over_tidy aims.Execute = refl
over_tidy _ = refl

tails_tidy : (can : Caps) (bad : Bool) (count : ℕ) (made : List Exchange) (aim : Aim) (ss : List Step) → has_text aim ≡ true → list_all tidies ss ≡ true → is_tidy aim (first_wanted (course_of aim) can count (found bad) made ss) ≡ true
tails_tidy can bad count made aim [] x h = over_tidy aim
tails_tidy can bad count made aim (s ∷ ss) x h =
    let b = both (tidies s) (list_all tidies ss) h in
    either_tidy aim (wanted (course_of aim) can count (found bad) made s) (first_wanted (course_of aim) can count (found bad) made ss) (step_tidy can bad count made aim s x b.0) (tails_tidy can bad count made aim ss x b.1)

late_steps : (aim : Aim) (d : Due) (g : Got) (rest : List Exchange) → has_text aim ≡ true → is_late d ≡ true → list_all tidies (steps_left (course_of aim) ((d, g) ∷ rest)) ≡ true
late_steps aims.Execute (due.Handle h) g rest x l = refl
late_steps aims.Execute (due.Next h) g rest x l = refl
late_steps aims.Execute (due.CloseRows h) g rest x l = refl
late_steps aims.Execute (due.CloseStmt h) g rest x l = refl
late_steps aims.ReadOne (due.Handle h) g rest x l = refl
late_steps aims.ReadOne (due.Next h) g rest x l = refl
late_steps aims.ReadOne (due.CloseRows h) g rest x l = refl
late_steps aims.ReadOne (due.CloseStmt h) g rest x l = refl
late_steps aims.HandOut (due.Handle h) g rest x l = refl
late_steps aims.HandOut (due.Next h) g rest x l = refl
late_steps aims.HandOut (due.CloseRows h) g rest x l = refl
late_steps aims.HandOut (due.CloseStmt h) g rest x l = refl
late_steps aim d g rest x l = absurd cc

unless_bad : (aim : Aim) (b : Bool) (d : Due) → is_tidy aim d ≡ true → is_tidy aim (if b then due.Over else d) ≡ true
unless_bad aim true d h = over_tidy aim
unless_bad aim false d h = h

text_tidy : (can : Caps) (bad : Bool) (text : List ℕ) (params : List Param) (aim : Aim) (g : Got) → has_text aim ≡ true → has_fast_way (course_of aim) can ≡ true → ends_text g ≡ true → is_tidy aim (next_inside can bad (asking text params aim) ((due.Text, g) ∷ [])) ≡ true
text_tidy can bad text params aims.Execute got.Result x fast e = rw fast (tails_tidy (untested can) bad (length params) ((due.Text, got.Result) ∷ []) aims.Execute (CloseHandle ∷ []) refl refl)
text_tidy can bad text params aims.Execute (got.Cursor rows) x fast e = rw fast (tails_tidy (untested can) bad (length params) ((due.Text, got.Cursor rows) ∷ []) aims.Execute (CloseHandle ∷ []) refl refl)
text_tidy can bad text params aims.Execute got.Bad x fast e = refl
text_tidy can bad text params aims.Execute got.Fail x fast e = rw fast (tails_tidy (untested can) bad (length params) ((due.Text, got.Fail) ∷ []) aims.Execute (CloseHandle ∷ []) refl refl)
text_tidy can bad text params aims.ReadOne got.Result x fast e = rw fast (tails_tidy (untested can) bad (length params) ((due.Text, got.Result) ∷ []) aims.ReadOne (FetchRow ∷ CloseCursor ∷ CloseHandle ∷ []) refl refl)
text_tidy can bad text params aims.ReadOne (got.Cursor rows) x fast e = rw fast (tails_tidy (untested can) bad (length params) ((due.Text, got.Cursor rows) ∷ []) aims.ReadOne (FetchRow ∷ CloseCursor ∷ CloseHandle ∷ []) refl refl)
text_tidy can bad text params aims.ReadOne got.Bad x fast e = refl
text_tidy can bad text params aims.ReadOne got.Fail x fast e = rw fast (tails_tidy (untested can) bad (length params) ((due.Text, got.Fail) ∷ []) aims.ReadOne (FetchRow ∷ CloseCursor ∷ CloseHandle ∷ []) refl refl)
text_tidy can bad text params aims.HandOut got.Result x fast e = rw fast (tails_tidy (untested can) bad (length params) ((due.Text, got.Result) ∷ []) aims.HandOut (CloseHandle ∷ []) refl refl)
text_tidy can bad text params aims.HandOut (got.Cursor rows) x fast e = rw fast (tails_tidy (untested can) bad (length params) ((due.Text, got.Cursor rows) ∷ []) aims.HandOut (CloseHandle ∷ []) refl refl)
text_tidy can bad text params aims.HandOut got.Bad x fast e = refl
text_tidy can bad text params aims.HandOut got.Fail x fast e = rw fast (tails_tidy (untested can) bad (length params) ((due.Text, got.Fail) ∷ []) aims.HandOut (CloseHandle ∷ []) refl refl)
text_tidy can bad text params aim g x fast e = absurd cc

not_so : (b : Bool) → not b ≡ true → b ≡ false
not_so true h = absurd cc
not_so false h = refl

-- After its Prepare has decided, the course of a call that has a text only tidies up.
prepare_tidy : (can : Caps) (bad : Bool) (text : List ℕ) (params : List Param) (aim : Aim) (g : Got) (rest : List Exchange) → has_text aim ≡ true → Fresh rest → ends_prepare (length params) g ≡ true
    → is_tidy aim (next_inside can bad (asking text params aim) ((due.Prepare, g) ∷ rest)) ≡ true
prepare_tidy can bad text params aim got.Bad rest x f e = over_tidy aim
prepare_tidy can bad text params aims.Execute (got.Prepared h i) rest x (inl f) e = rw (f, not_so (is_none (count_fault i (length params))) e) (tails_tidy (untested can) bad (length params) ((due.Prepare, got.Prepared h i) ∷ []) aims.Execute (CloseHandle ∷ []) refl refl)
prepare_tidy can bad text params aims.Execute (got.Prepared h i) rest x (inr f) e = rw (f, not_so (is_none (count_fault i (length params))) e) (tails_tidy (untested can) bad (length params) ((due.Prepare, got.Prepared h i) ∷ (due.Text, got.Skip) ∷ []) aims.Execute (CloseHandle ∷ []) refl refl)
prepare_tidy can bad text params aims.HandOut (got.Prepared h i) rest x (inl f) e = rw (f, not_so (is_none (count_fault i (length params))) e) (tails_tidy (untested can) bad (length params) ((due.Prepare, got.Prepared h i) ∷ []) aims.HandOut (CloseHandle ∷ []) refl refl)
prepare_tidy can bad text params aims.HandOut (got.Prepared h i) rest x (inr f) e = rw (f, not_so (is_none (count_fault i (length params))) e) (tails_tidy (untested can) bad (length params) ((due.Prepare, got.Prepared h i) ∷ (due.Text, got.Skip) ∷ []) aims.HandOut (CloseHandle ∷ []) refl refl)
prepare_tidy can bad text params aims.ReadOne (got.Prepared h i) rest x (inl f) e = rw (f, not_so (is_none (count_fault i (length params))) e) (tails_tidy (untested can) bad (length params) ((due.Prepare, got.Prepared h i) ∷ []) aims.ReadOne (FetchRow ∷ CloseCursor ∷ CloseHandle ∷ []) refl refl)
prepare_tidy can bad text params aims.ReadOne (got.Prepared h i) rest x (inr f) e = rw (f, not_so (is_none (count_fault i (length params))) e) (tails_tidy (untested can) bad (length params) ((due.Prepare, got.Prepared h i) ∷ (due.Text, got.Skip) ∷ []) aims.ReadOne (FetchRow ∷ CloseCursor ∷ CloseHandle ∷ []) refl refl)
prepare_tidy can bad text params aims.Execute got.Fail rest x (inl f) e = rw f (tails_tidy (untested can) bad (length params) ((due.Prepare, got.Fail) ∷ []) aims.Execute (CloseHandle ∷ []) refl refl)
prepare_tidy can bad text params aims.Execute got.Fail rest x (inr f) e = rw f (tails_tidy (untested can) bad (length params) ((due.Prepare, got.Fail) ∷ (due.Text, got.Skip) ∷ []) aims.Execute (CloseHandle ∷ []) refl refl)
prepare_tidy can bad text params aims.HandOut got.Fail rest x (inl f) e = rw f (tails_tidy (untested can) bad (length params) ((due.Prepare, got.Fail) ∷ []) aims.HandOut (CloseHandle ∷ []) refl refl)
prepare_tidy can bad text params aims.HandOut got.Fail rest x (inr f) e = rw f (tails_tidy (untested can) bad (length params) ((due.Prepare, got.Fail) ∷ (due.Text, got.Skip) ∷ []) aims.HandOut (CloseHandle ∷ []) refl refl)
prepare_tidy can bad text params aims.ReadOne got.Fail rest x (inl f) e = rw f (tails_tidy (untested can) bad (length params) ((due.Prepare, got.Fail) ∷ []) aims.ReadOne (FetchRow ∷ CloseCursor ∷ CloseHandle ∷ []) refl refl)
prepare_tidy can bad text params aims.ReadOne got.Fail rest x (inr f) e = rw f (tails_tidy (untested can) bad (length params) ((due.Prepare, got.Fail) ∷ (due.Text, got.Skip) ∷ []) aims.ReadOne (FetchRow ∷ CloseCursor ∷ CloseHandle ∷ []) refl refl)
prepare_tidy can bad text params aim g rest x f e = absurd cc

pub over_next : (can : Caps) (bad : Bool) (text : List ℕ) (params : List Param) (aim : Aim) (made : List Exchange) → has_text aim ≡ true → Over can aim (length params) made → is_tidy aim (next_inside can bad (asking text params aim) made) ≡ true
over_next can bad text params aim made x (inl w) =
    rw w.is
    (unless_bad aim (went_bad ((w.call, w.answer) ∷ w.rest)) (first_wanted (course_of aim) (untested can) (length params) (found bad) ((w.call, w.answer) ∷ w.rest) (steps_left (course_of aim) ((w.call, w.answer) ∷ w.rest)))
    (tails_tidy (untested can) bad (length params) ((w.call, w.answer) ∷ w.rest) aim (steps_left (course_of aim) ((w.call, w.answer) ∷ w.rest)) x (late_steps aim w.call w.answer w.rest x w.late)))
over_next can bad text params aim made x (inr (inl w)) = rw w.is (text_tidy can bad text params aim w.answer x w.fast w.ends)
over_next can bad text params aim made x (inr (inr w)) = rw w.is (prepare_tidy can bad text params aim w.answer w.rest x w.before w.ends)
