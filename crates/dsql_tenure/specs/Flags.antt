-- The tenure of the first Bad answer, with one entry more.
use Rattle.std.specs.Prelude.{ℕ, Option, Some, None, if◌then◌else◌}
use Rattle.dsql_tenure_journal.specs.declared.entry.Entry.{Entry}
use Rattle.dsql_driver.specs.Kinds.{is_bad}

abbrev pub bad_with : Option ℕ → Entry → Option ℕ
bad_with (Some tenure) entry = Some tenure
bad_with None entry = if is_bad entry.answer then Some entry.tenure else None
