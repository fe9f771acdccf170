-- Defines what the words of a call that begins a transaction ask for, and why they are refused.
use Rattle.std.specs.Prelude.{ℕ, Bool, true, false, List, [], ◌∷◌, codes, if◌then◌else◌, Option, Some, None, Result, Ok, Err}
use Rattle.std.specs.Str.{bytes_eq}
use Rattle.dsql_history.specs.driver.declared.call.Level.{Level}
use Rattle.dsql_history.specs.driver.declared.call.Level.TheVariants.{Default, ReadUncommitted, ReadCommitted, WriteCommitted, RepeatableRead, Snapshot, Serializable, Linearizable}
use Rattle.dsql_script_forms.specs.declared.fault.LineFault.{LineFault}
use Rattle.dsql_script_forms.specs.declared.fault.LineFault.TheVariants.{BadShape, UnknownLabel}
use Rattle.dsql_script_calls.specs.ScriptWords.{label_of}
use Rattle.dsql_script_calls.specs.CallTargets.{has_target, names_database}
use Rattle.dsql_history.specs.declared.event.Op.{Op}
use Rattle.dsql_history.specs.declared.event.Op.TheVariants.{Begin}

-- A call, or the fault for which it is refused.
abbrev pub CallReading : Type 0
CallReading = Result Op LineFault

-- Returns a call that can be made on the database alone, without a token. Such a call is never made on rows or
-- in a transaction, and no line makes a token. So a label or a token that it names beside the database or in
-- its place is unknown.
abbrev pub call_on : Bool → Op → CallReading
call_on true op = Ok op
call_on false op = Err UnknownLabel

-- Returns the level that a word asks for, or `None` if it asks for none. No word asks for the default level.
abbrev pub level_of : List ℕ → Option Level
level_of word =
    if bytes_eq word (codes "level=read_uncommitted") then Some ReadUncommitted
    else if bytes_eq word (codes "level=read_committed") then Some ReadCommitted
    else if bytes_eq word (codes "level=write_committed") then Some WriteCommitted
    else if bytes_eq word (codes "level=repeatable_read") then Some RepeatableRead
    else if bytes_eq word (codes "level=snapshot") then Some Snapshot
    else if bytes_eq word (codes "level=serializable") then Some Serializable
    else if bytes_eq word (codes "level=linearizable") then Some Linearizable
    else None

abbrev pub leveled : Option Level → List ℕ → List (List ℕ) → Level × List (List ℕ)
leveled None word words = (Default, word ∷ words)
leveled (Some level) word words = (level, words)

-- Returns the level that the first of these words asks for, or the default one, and the remaining words.
abbrev pub level_first : List (List ℕ) → Level × List (List ℕ)
level_first [] = (Default, [])
level_first (word ∷ words) = leveled (level_of word) word words

-- Returns whether the first of these words asks for a read-only transaction, and the remaining words.
abbrev pub read_only_first : List (List ℕ) → Bool × List (List ℕ)
read_only_first [] = (false, [])
read_only_first (word ∷ words) = if bytes_eq word (codes "ro") then (true, words) else (false, word ∷ words)

-- Returns a begin by its label, its options, its target, and a token or none.
abbrev pub begin_on : List ℕ → Level → Bool → List ℕ → List (List ℕ) → CallReading
begin_on label level read_only target tokens =
    if has_target target tokens then call_on (names_database target tokens)
    (Begin label level read_only) else Err BadShape

abbrev pub begin_under : List ℕ → Level → List ℕ → Bool × List (List ℕ) → CallReading
begin_under label level target (read_only, tokens) = begin_on label level read_only target tokens

abbrev pub begin_at : List ℕ → List ℕ → Level × List (List ℕ) → CallReading
begin_at label target (level, options) = begin_under label level target (read_only_first options)

-- Returns a begin by the label that it makes, its target and the words after that. It has no array.
abbrev pub begin_as : Option (List ℕ) → List ℕ → List (List ℕ) → Option (List ℕ) → CallReading
begin_as label target options (Some array) = Err BadShape
begin_as None target options None = Err BadShape
begin_as (Some label) target options None = begin_at label target (level_first options)

-- Returns a begin by the words after it. They give the label that it makes, its target, a level and `ro` if given, and
-- a token or none.
abbrev pub begin_of : List (List ℕ) → Option (List ℕ) → CallReading
begin_of (label ∷ target ∷ options) array = begin_as (label_of label) target options array
begin_of _ array = Err BadShape
