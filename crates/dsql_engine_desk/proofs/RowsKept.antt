-- Rows that were never made are neither live nor over.
use Rattle.std.proofs.Common.{◌≡◌, false, refl, Option, None, Some, is_some}
use Rattle.dsql_laws_calls.specs.rows.declared.rows.Rows.{Rows}
use Rattle.dsql_laws_calls.specs.history.Readers.HandedOut.{live, over}

pub none_made : (rows : Option Rows) → is_some rows ≡ false → (live rows ≡ false) × (over rows ≡ false)
none_made None h = (refl, refl)
none_made (Some rows) h = absurd cc
