-- What consecutive lines say together: `then` is associative, and lines of the body ask the driver for nothing.
use Rattle.std.proofs.Common.{◌≡◌, ◌∙◌, true, List, [], ◌∷◌, ◌++◌, Option, Some, None, refl, sym, ap, append_assoc}
use Rattle.std.specs.Prelude.{is_none}
use Rattle.std.specs.List.{list_all}
use Rattle.std.proofs.lemmas.Bool.{and_from, and_parts}
use Rattle.std.proofs.lemmas.List.{append-nil}
use Rattle.std.proofs.lemmas.List.Folds.{list_all-append}
use Rattle.dsql_history.specs.driver.declared.caps.Caps.{Caps}
use Rattle.dsql_follows.specs.declared.line.Line.{Line}
use Rattle.dsql_script_reader.specs.declared.script.ScriptLine.{ScriptLine}
use Rattle.dsql_script_reader.specs.declared.script.ScriptLine.TheVariants.{Version, UseCaps}
use Rattle.dsql_script_source.specs.Script.{later, Script, Said, nothing, said_of, line_as_played, then, with_said, is_skip, is_silent}
use Rattle.dsql_script_source.specs.Plays.{saying}
use Rattle.dsql_script_source.specs.Reading.{is_body}

pub same_said : (asked other : Option Caps) (lines more : List Line) → asked ≡ other → lines ≡ more → saying asked lines ≡ saying other more
same_said asked other lines more a b = cc

later-later : (x y z : Option Caps) → later (later x y) z ≡ later x (later y z)
later-later x y None = refl
later-later x y (Some caps) = refl

later-none : (x : Option Caps) → later None x ≡ x
later-none None = refl
later-none (Some caps) = refl

pub then-then : (a b c : Said) → then (then a b) c ≡ then a (then b c)
then-then a b c = same_said (later (later a.caps b.caps) c.caps) (later a.caps (later b.caps c.caps)) ((a.lines ++ b.lines) ++ c.lines) (a.lines ++ (b.lines ++ c.lines)) (later-later a.caps b.caps c.caps) (append_assoc a.lines b.lines c.lines)

pub then-nothing : (a : Said) → then a nothing ≡ a
then-nothing a = same_said a.caps a.caps (a.lines ++ []) a.lines refl (append-nil a.lines)

pub nothing-then : (a : Said) → then nothing a ≡ a
nothing-then a = same_said (later None a.caps) a.caps a.lines a.lines (later-none a.caps) refl

pub with_both : (a b : Said) (s : Script) → with_said a (with_said b s) ≡ with_said (then a b) s
with_both a b s = ap (λ said. record { says = said; refused = s.refused }) (sym (then-then a b s.says))

pub with_nothing : (s : Script) → with_said nothing s ≡ s
with_nothing s = ap (λ said. record { says = said; refused = s.refused }) (nothing-then s.says)

-- A line of the body asks the driver for nothing, so it only adds a line to what was said.
pub body_says : (asked : Option Caps) (lines : List Line) (line : ScriptLine) → is_body line ≡ true → then (saying asked lines) (said_of line) ≡ saying asked (lines ++ line_as_played line ∷ [])
body_says asked lines (Version version) body = absurd (cc body)
body_says asked lines (UseCaps caps) body = absurd (cc body)
body_says asked lines _ body = refl

-- A line of the body, followed by lines that ask for nothing, asks for nothing.
pub body_asks_none : (line : ScriptLine) (rest : Said) → is_body line ≡ true → rest.caps ≡ None → (then (said_of line) rest).caps ≡ None
body_asks_none (Version version) rest body none = absurd (cc body)
body_asks_none (UseCaps caps) rest body none = absurd (cc body)
body_asks_none _ rest body none = rw none refl

none_later : (x y : Option Caps) → is_none x ≡ true → is_none y ≡ true → is_none (later x y) ≡ true
none_later x None a b = a
none_later x (Some caps) a b = absurd (cc b)

-- Silent lines after silent lines are silent together.
pub silent_then : (a b : Said) → is_silent a ≡ true → is_silent b ≡ true → is_silent (then a b) ≡ true
silent_then a b first more =
    let one = and_parts (is_none a.caps) (list_all is_skip a.lines) first in
    let other = and_parts (is_none b.caps) (list_all is_skip b.lines) more in
    let skipped : list_all is_skip (a.lines ++ b.lines) ≡ true = list_all-append is_skip a.lines b.lines ∙ and_from (list_all is_skip a.lines) (list_all is_skip b.lines) one.1 other.1 in
    and_from (is_none (later a.caps b.caps)) (list_all is_skip (a.lines ++ b.lines)) (none_later a.caps b.caps one.0 other.0) skipped
