-- Defines the text of an array that holds nothing else.
use Rattle.std.specs.Prelude.{ℕ, List, Option, Some, None, Result, Ok, Err}
use Rattle.serde_json.specs.Data.{Data, array, Items, no_items, item}
use Rattle.serde_json.specs.Find.{as_str}
use Rattle.serde_json.specs.Read.{read}
use Rattle.dsql_script_forms.specs.declared.fault.LineFault.{LineFault}
use Rattle.dsql_script_forms.specs.declared.fault.LineFault.TheVariants.{BadJson, BadShape}

-- A text, or the fault for which the line is refused.
abbrev pub TextReading : Type 0
TextReading = Result (List ℕ) LineFault

-- Returns the text of these items, if they are one text alone.
abbrev pub only_item : Items → Option (List ℕ)
only_item (item d no_items) = as_str d
only_item _ = None

abbrev pub only_text : Data → Option (List ℕ)
only_text (array ds) = only_item ds
only_text _ = None

abbrev pub text_or_fault : Option (List ℕ) → TextReading
text_or_fault None = Err BadShape
text_or_fault (Some text) = Ok text

-- Returns the text of an array by the data that it is read as, or `BadJson` if it can't be read.
abbrev pub text_of_data : Option Data → TextReading
text_of_data None = Err BadJson
text_of_data (Some d) = text_or_fault (only_text d)

-- Returns the text of an array as it is written.
abbrev pub text_in : List ℕ → TextReading
text_in written = text_of_data (read written)
