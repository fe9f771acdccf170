-- Defines why a line of a script is refused, in words.
use Rattle.std.specs.Prelude.{ℕ, List, ◌++◌, codes}
use Rattle.dsql_script_forms.specs.declared.fault.What.{What}
use Rattle.dsql_script_forms.specs.declared.fault.What.TheVariants.{Lines, Args}
use Rattle.dsql_script_forms.specs.declared.fault.LineFault.{LineFault}
use Rattle.dsql_script_forms.specs.declared.fault.LineFault.TheVariants.{TooLong, NotUtf8, NoSuchWord, BadJson, BadShape, UnknownLabel, LabelTaken, TooMany, Memory}

-- Returns the word for what a script may hold too many of.
abbrev pub what_word : What → List ℕ
what_word Lines = codes "lines"
what_word Args = codes "arguments"

abbrev pub reason_of : LineFault → List ℕ
reason_of TooLong = codes "line too long"
reason_of NotUtf8 = codes "not UTF-8"
reason_of NoSuchWord = codes "no such word"
reason_of BadJson = codes "not JSON"
reason_of BadShape = codes "wrong shape"
reason_of UnknownLabel = codes "unknown label"
reason_of LabelTaken = codes "label taken"
reason_of (TooMany what) = codes "too many " ++ what_word what
reason_of Memory = codes "out of memory"
