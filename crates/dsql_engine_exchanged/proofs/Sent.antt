-- Proves that what is kept of the answers gives the same next driver call as the entries themselves. The
-- argument is by induction on the entries.
use Rattle.std.proofs.Common.{◌≡◌, ℕ, Bool, true, false, cond, List, [], ◌∷◌, length, refl, sym, ap, ◌∙◌, Option, None, Some}
use Rattle.std.specs.Option.{option_map}
use Rattle.dsql_history.specs.driver.declared.caps.Caps.{Caps}
use Rattle.dsql_history.specs.driver.declared.call.DriverCall.TheVariants.{Valid}
use Rattle.dsql_history.specs.course.declared.call.Due.{Due}
use Rattle.dsql_history.specs.course.declared.call.Due.TheVariants as due
use Rattle.dsql_history.specs.course.declared.course.Wish.{Wish}
use Rattle.dsql_history.specs.course.Made.{Exchange}
use Rattle.dsql_history.specs.journal.declared.entry.Entry.{Entry}
use Rattle.dsql_history.specs.works.Exchanges.{exchanges, step_of, with_exchange}
use Rattle.dsql_history.specs.works.Line.{Asked, handed, test_of, sent_as, sent_over, body_with, body_after, line_after}
use Rattle.dsql_history.specs.works.declared.work.Aim.{Aim}
use Rattle.dsql_engine_exchanged.specs.declared.bare.BareCall.{BareCall}
use Rattle.dsql_engine_exchanged.specs.declared.bare.BareCall.TheVariants as bare
use Rattle.dsql_engine_exchanged.specs.declared.exchanged.Exchanged.{Exchanged}
use Rattle.dsql_engine_exchanged.specs.declared.exchanged.Stage.{Stage}
use Rattle.dsql_engine_exchanged.specs.declared.exchanged.Stage.TheVariants.{Fresh, Going, Over}
use Rattle.dsql_engine_exchanged.specs.Exchanged.{exchanged_in, ends_line}
use Rattle.dsql_engine_exchanged.specs.Lines.{line_at_stage, line_told, step_with, step_after, bare_of, bare_step, bare_at_stage, bare_told}
use Rattle.dsql_engine_exchanged.specs.Filled.{filled}

exchanged_made : (entries : List Entry) → (exchanged_in entries).made ≡ exchanges entries
exchanged_made [] = refl
exchanged_made (e ∷ earlier) = ap (λ made. with_exchange (step_of e.call) e.answer made) (exchanged_made earlier)

pub told_as_heard : (can : Caps) (reset_due : Bool) (asked : Asked) (wish : Wish) (entries : List Entry) → line_told can reset_due asked wish (exchanged_in entries) ≡ line_after can reset_due asked wish entries
told_as_heard can reset_due asked wish [] = refl
told_as_heard can reset_due asked wish (e ∷ earlier) = by_end (ends_line e) (ap (λ made. body_after can false asked wish made) (exchanged_made (e ∷ earlier)))
  where
    by_end : (b : Bool) → body_after can false asked wish (exchanged_in (e ∷ earlier)).made ≡ body_after can false asked wish (exchanges (e ∷ earlier))
        → line_at_stage can reset_due asked wish (exchanged_in (e ∷ earlier)).made (cond b Over Going) ≡ cond b None (body_after can false asked wish (exchanges (e ∷ earlier)))
    by_end true same = refl
    by_end false same = same

body_with_step : (can : Caps) (asked : Asked) (wish : Wish) (made : List Exchange) (rows : Option ℕ) → body_with can false asked wish made rows ≡ sent_over can asked (step_with can asked.aim (length asked.params) wish made rows)
body_with_step can asked wish made None = refl
body_with_step can asked wish made (Some rows) = refl

body_by_step : (can : Caps) (asked : Asked) (wish : Wish) (made : List Exchange) → body_after can false asked wish made ≡ sent_over can asked (step_after can asked.aim (length asked.params) wish made)
body_by_step can asked wish made = body_with_step can asked wish made (handed asked.aim made)

test_filled : (can : Caps) (asked : Asked) → option_map (filled asked) (cond can.validator (Some bare.Valid) None) ≡ test_of can
test_filled can asked = by_test can.validator
  where
    by_test : (b : Bool) → option_map (filled asked) (cond b (Some bare.Valid) None) ≡ cond b (Some Valid) None
    by_test true = refl
    by_test false = refl

step_filled : (can : Caps) (asked : Asked) (call : Due) → option_map (filled asked) (bare_of can call) ≡ sent_as can asked call
step_filled can asked due.Begin = test_filled can asked
step_filled can asked due.Rollback = test_filled can asked
step_filled can asked due.Over = test_filled can asked
step_filled can asked _ = refl

any_filled : (can : Caps) (asked : Asked) (call : Option Due) → option_map (filled asked) (bare_step can call) ≡ sent_over can asked call
any_filled can asked None = refl
any_filled can asked (Some call) = step_filled can asked call

body_filled : (can : Caps) (asked : Asked) (wish : Wish) (made : List Exchange) → option_map (filled asked) (bare_step can (step_after can asked.aim (length asked.params) wish made)) ≡ body_after can false asked wish made
body_filled can asked wish made = any_filled can asked (step_after can asked.aim (length asked.params) wish made) ∙ sym (body_by_step can asked wish made)

line_filled : (can : Caps) (reset_due : Bool) (asked : Asked) (wish : Wish) (made : List Exchange) (stage : Stage)
    → option_map (filled asked) (bare_at_stage can reset_due asked.aim (length asked.params) wish made stage) ≡ line_at_stage can reset_due asked wish made stage
line_filled can true asked wish made Fresh = refl
line_filled can false asked wish made Fresh = body_filled can asked wish made
line_filled can reset_due asked wish made Going = body_filled can asked wish made
line_filled can reset_due asked wish made Over = refl

-- The next driver call, filled with what is asked, is the one that the line gives.
told_filled : (can : Caps) (reset_due : Bool) (asked : Asked) (wish : Wish) (it : Exchanged)
    → option_map (filled asked) (bare_told can reset_due asked.aim (length asked.params) wish it) ≡ line_told can reset_due asked wish it
told_filled can reset_due asked wish it = line_filled can reset_due asked wish it.made it.stage

pub told_so : (can : Caps) (reset_due : Bool) (aim : Aim) (count : ℕ) (wish : Wish) (it : Exchanged) (sent : Option BareCall) → sent ≡ bare_told can reset_due aim count wish it
    → (asked : Asked) → asked.aim ≡ aim → length asked.params ≡ count → option_map (filled asked) sent ≡ line_told can reset_due asked wish it
told_so can reset_due aim count wish it sent is asked by_aim by_count =
    let told : Aim → ℕ → Option BareCall = λ a k. bare_told can reset_due a k wish it in
    ap (option_map (filled asked)) (is ∙ (ap (λ a. told a count) (sym by_aim) ∙ ap (told asked.aim) (sym by_count))) ∙ told_filled can reset_due asked wish it
