-- The generated script: blocks of eight lines, each of which is a transaction of one client.
use Rattle.std.specs.Prelude.{ℕ, zero, suc, ◌+◌, ◌-◌, ◌/◌, ◌%◌, ◌==◌, if◌then◌else◌, List, [], ◌∷◌, ◌++◌, codes, decimal}
use Rattle.std.specs.List.{concat}
use Rattle.dsql_script_generator.specs.declared.lines.TheConstants.{BLOCK, CLIENTS}
use Rattle.dsql_script_generator.specs.declared.lines.Step.{Step}
use Rattle.dsql_script_generator.specs.declared.lines.Step.TheVariants.{Begin, SetName, AddOne, SetNull, Query, Next, Scan, Commit}

-- Returns the block of a line. Both are counted from 1.
abbrev pub block_of : ℕ → ℕ
block_of line = (line - 1) / BLOCK + 1

-- Returns the client of a block. As many clients take turns as a script may have.
abbrev pub client_of : ℕ → ℕ
client_of block = (block - 1) % CLIENTS + 1

-- Returns the step at a place of a block, counted from 0.
abbrev pub step_at : ℕ → Step
step_at place =
    if place == 0 then Begin
    else (if place == 1 then SetName
    else (if place == 2 then AddOne
    else (if place == 3 then SetNull
    else (if place == 4 then Query
    else (if place == 5 then Next
    else (if place == 6 then Scan
    else Commit))))))

-- Returns what follows the client's word in a step's line, in parts. The digits are those of its block's
-- number.
abbrev pub words_of : Step → List ℕ → List (List ℕ)
words_of Begin digits = codes " begin x" ∷ digits ∷ codes " db" ∷ []
words_of SetName digits = codes " exec x" ∷ digits ∷ codes " [\"SET ? ?\",\"u" ∷ digits ∷ codes "\",\"Ann\"]" ∷ []
words_of AddOne digits = codes " exec x" ∷ digits ∷ codes " [\"ADD ? ?\",\"n\",1]" ∷ []
words_of SetNull digits = codes " exec x" ∷ digits ∷ codes " [\"SET ? ?\",\"e" ∷ digits ∷ codes "\",null]" ∷ []
words_of Query digits =
    codes " query r" ∷ digits ∷ codes " x" ∷ digits ∷ codes " [\"LIST ?\",\"e" ∷ digits ∷ codes "\"]" ∷ []
words_of Next digits = codes " next r" ∷ digits ∷ []
words_of Scan digits = codes " scan r" ∷ digits ∷ codes " text,null:text" ∷ []
words_of Commit digits = codes " commit x" ∷ digits ∷ []

-- Returns a line, counted from 1, with its line feed.
abbrev pub line_text : ℕ → List ℕ
line_text line =
    codes "c" ++ decimal (client_of (block_of line))
    ++ concat (words_of (step_at ((line - 1) % BLOCK)) (decimal (block_of line)))
    ++ codes "\n"

-- Returns the bytes of a script of this many lines.
abbrev pub generated : ℕ → List ℕ
generated zero = []
generated (suc n) = generated n ++ line_text (suc n)
