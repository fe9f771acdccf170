-- What was heard in the line of a call in a transaction decides what the call sends next.
use Rattle.std.proofs.Common.{◌≡◌, ℕ, Bool, List, [], ◌∷◌, length, refl, sym, ap, ◌∙◌, Option, None, Some}
use Rattle.std.specs.Option.{option_map}
use Rattle.dsql_history.specs.driver.declared.caps.Caps.{Caps}
use Rattle.dsql_history.specs.course.declared.call.Due.{Due}
use Rattle.dsql_history.specs.course.declared.call.Due.TheVariants as due
use Rattle.dsql_history.specs.course.declared.course.Wish.{Wish}
use Rattle.dsql_history.specs.course.Made.{Exchange}
use Rattle.dsql_history.specs.journal.declared.entry.Entry.{Entry}
use Rattle.dsql_history.specs.works.declared.work.Aim.{Aim}
use Rattle.dsql_history.specs.works.Exchanges.{exchanges, step_of, with_exchange}
use Rattle.dsql_history.specs.works.Line.{Asked, handed, sent_as, sent_over, body_with, body_after}
use Rattle.dsql_engine_exchanged.specs.declared.exchanged.Exchanged.{Exchanged}
use Rattle.dsql_engine_exchanged.specs.Exchanged.{exchanged_in}
use Rattle.dsql_history.specs.Rules.Sent.{untested, inner_after}
use Rattle.dsql_engine_exchanged.specs.declared.bare.BareCall.{BareCall}
use Rattle.dsql_engine_exchanged.specs.Filled.{filled}
use Rattle.dsql_engine_exchanged.specs.Inside.{inside_told, step_with, step_inside, bare_of, bare_step, bare_inside}

-- The record of a line keeps exactly what was exchanged in it.
pub exchanged_made : (line : List Entry) → (exchanged_in line).made ≡ exchanges line
exchanged_made [] = refl
exchanged_made (e ∷ earlier) = ap (λ made. with_exchange (step_of e.call) e.answer made) (exchanged_made earlier)

pub inside_as_heard : (can : Caps) (bad : Bool) (asked : Asked) (wish : Wish) (line : List Entry) → inside_told can bad asked wish (exchanged_in line) ≡ inner_after can bad asked wish line
inside_as_heard can bad asked wish line = ap (λ made. body_after (untested can) bad asked wish made) (exchanged_made line)

step_filled : (can : Caps) (asked : Asked) (call : Due) → option_map (filled asked) (bare_of call) ≡ sent_as (untested can) asked call
step_filled can asked due.Text = refl
step_filled can asked _ = refl

any_filled : (can : Caps) (asked : Asked) (call : Option Due) → option_map (filled asked) (bare_step call) ≡ sent_over (untested can) asked call
any_filled can asked None = refl
any_filled can asked (Some call) = step_filled can asked call

body_with_step : (can : Caps) (bad : Bool) (asked : Asked) (wish : Wish) (made : List Exchange) (rows : Option ℕ)
    → sent_over can asked (step_with can bad asked.aim (length asked.params) wish made rows) ≡ body_with can bad asked wish made rows
body_with_step can bad asked wish made None = refl
body_with_step can bad asked wish made (Some rows) = refl

inside_filled : (can : Caps) (bad : Bool) (asked : Asked) (wish : Wish) (made : List Exchange)
    → option_map (filled asked) (bare_inside can bad asked.aim (length asked.params) wish made) ≡ body_after (untested can) bad asked wish made
inside_filled can bad asked wish made =
    any_filled can asked (step_inside (untested can) bad asked.aim (length asked.params) wish made) ∙ body_with_step (untested can) bad asked wish made (handed asked.aim made)

-- The bare driver call, filled with what is asked, is the next driver call.
pub inside_so : (can : Caps) (bad : Bool) (aim : Aim) (count : ℕ) (wish : Wish) (it : Exchanged) (sent : Option BareCall) → sent ≡ bare_inside can bad aim count wish it.made
    → (asked : Asked) → asked.aim ≡ aim → length asked.params ≡ count → option_map (filled asked) sent ≡ inside_told can bad asked wish it
inside_so can bad aim count wish it sent is asked by_aim by_count =
    let told : Aim → ℕ → Option BareCall = λ a k. bare_inside can bad a k wish it.made in
    ap (option_map (filled asked)) (is ∙ (ap (λ a. told a count) (sym by_aim) ∙ ap (told asked.aim) (sym by_count))) ∙ inside_filled can bad asked wish it.made
