-- Defines the text of a bar.
use Rattle.std.specs.Prelude.{◌%◌, ℕ, List, [], ◌∷◌, ◌++◌, codes, decimal}
use Rattle.std.specs.List.{concat}
use Rattle.dsql_timeline_page.specs.declared.bar.TheConstants.{COLOURS}
use Rattle.dsql_timeline_page.specs.declared.bar.Bar.{Bar}
use Rattle.dsql_timeline_page.specs.declared.bar.Class.{Class}
use Rattle.dsql_timeline_page.specs.declared.bar.Class.TheVariants as class
use Rattle.dsql_timeline_page.specs.Escape.{escaped}

-- Returns the word by which the style sheet knows a class.
abbrev pub class_word : Class → List ℕ
class_word class.Lane = codes "lane"
class_word class.Edge = codes "edge"
class_word class.Moment = codes "moment"
class_word class.Limit = codes "limit"
class_word class.Opening = codes "opening"
class_word class.Idle = codes "idle"
class_word class.Lent = codes "lent"
class_word class.Closing = codes "closing"
class_word class.Gone = codes "gone"
class_word class.Transaction = codes "transaction"
class_word class.Call = codes "call"
class_word class.Waiting = codes "waiting"
class_word class.Done = codes "done"
class_word class.Fault = codes "fault"
class_word class.Refusal = codes "refusal"

-- Returns the beginning of a bar's tag, with its class and its colour.
abbrev pub kind_text : Bar → List ℕ
kind_text bar =
    concat (codes "<svg class=\"" ∷ class_word bar.class ∷ codes " h" ∷ decimal (bar.owner % COLOURS) ∷ [])

-- Returns the rest of a bar's tag, with its place and its size.
abbrev pub place_text : Bar → List ℕ
place_text bar =
    concat
    (codes "\" x=\"" ∷ decimal bar.column ∷ codes "em\" y=\"" ∷ decimal bar.row ∷ codes "rem\" width=\""
    ∷ decimal bar.columns ∷ codes "em\" height=\"" ∷ decimal bar.rows ∷ codes "rem\"><title>" ∷ [])

-- Returns the text of a bar with its name and its title.
unfoldable pub bar_text : Bar → List ℕ → List ℕ → List ℕ
bar_text bar name title =
    kind_text bar ++ place_text bar ++ escaped title
    ++ codes "</title><rect width=\"100%\" height=\"100%\"/><text x=\"2\" y=\"12\">"
    ++ escaped name
    ++ codes "</text></svg>\n"
