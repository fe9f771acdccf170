-- Defines the text around the bars of a page.
use Rattle.std.specs.Prelude.{ℕ, nat_lt, if◌then◌else◌, List, [], ◌∷◌, ◌++◌, codes, decimal}
use Rattle.std.specs.List.{concat}
use Rattle.dsql_timeline_page.specs.declared.head.TheConstants.{FOLDED_ABOVE, OPENING, LEGEND}
use Rattle.dsql_timeline_page.specs.Escape.{escaped}

-- Returns the words by which the style sheet knows a picture with this many columns.
unfoldable pub picture_word : ℕ → List ℕ
picture_word columns = if nat_lt FOLDED_ABOVE columns then codes "whole folded" else codes "whole"

-- Returns the tag that begins a picture with this many columns and rows.
abbrev pub frame_text : ℕ → ℕ → List ℕ
frame_text columns rows =
    concat
    (codes "<svg class=\"" ∷ picture_word columns ∷ codes "\" width=\"" ∷ decimal columns
    ∷ codes "em\" height=\"" ∷ decimal rows ∷ codes "rem\">\n" ∷ [])

-- Returns the head of a page with this summary and a picture of this size.
unfoldable pub head_text : List ℕ → ℕ → ℕ → List ℕ
head_text summary columns rows = OPENING.now ++ escaped summary ++ LEGEND.now ++ frame_text columns rows

-- Returns the foot of a page.
abbrev pub foot_text : List ℕ
foot_text = codes "</svg>\n</body></html>\n"
