-- Rows that are live or over were made, and aren't both. The argument takes an option of rows by its two cases.
use Rattle.std.proofs.Common.{◌≡◌, Bool, true, false, not, Option, Some, None, is_some, refl, ap}
use Rattle.dsql_laws.specs.rows.declared.rows.Rows.{Rows}
use Rattle.dsql_laws.specs.rows.OpenRows.{is_live}
use Rattle.dsql_laws.specs.history.Readers.HandedOut.{live, over}

pub over_some : (o : Option Rows) → over o ≡ true → is_some o ≡ true
over_some None h = h
over_some (Some r) h = refl

pub live_some : (o : Option Rows) → live o ≡ true → is_some o ≡ true
live_some None h = h
live_some (Some r) h = refl

pub dead_over : (o : Option Rows) → is_some o ≡ true → live o ≡ false → over o ≡ true
dead_over None h k = h
dead_over (Some r) h k = ap not k

pub live_not_over : (o : Option Rows) → live o ≡ true → over o ≡ false
live_not_over None h = absurd cc
live_not_over (Some r) h = ap not h

pub over_not_live : (o : Option Rows) → over o ≡ true → live o ≡ false
over_not_live None h = refl
over_not_live (Some r) h = by (is_live r) h
  where
    by : (b : Bool) → not b ≡ true → b ≡ false
    by true k = absurd cc
    by false k = refl
