-- Proves that whole numbers in the range of their type pass the reader's tests of range. The argument
-- distinguishes the sign.
use Rattle.std.proofs.Common.{◌≡◌, ℕ, ℤ, pos, negsuc, ◌<◌, ◌≤◌, ◌^◌, FitsSigned, Some, refl, arith}
use Rattle.std.specs.Int.{w8, w16, w32, w64}
use Rattle.std.proofs.lemmas.Bool.{le-leb, lt-ltb}
use Rattle.serde_json.specs.Data.{unsigned}
use Rattle.serde_json.specs.Find.{as_i64, of_integer}
use Rattle.dsql_script_forms.specs.ScriptArgs.{between, up_to}

pub i8_between : (n : ℤ) → FitsSigned w8 n → between (negsuc 127) (pos 127) n ≡ Some n
i8_between (pos n) fits = let few : n ≤ 127 = omega (arith, fits.sfits) in rw (le-leb n 127 few) refl
i8_between (negsuc n) fits = let few : n ≤ 127 = omega (arith, fits.sfits) in rw (le-leb n 127 few) refl

pub i16_between : (n : ℤ) → FitsSigned w16 n → between (negsuc 32767) (pos 32767) n ≡ Some n
i16_between (pos n) fits = let few : n ≤ 32767 = omega (arith, fits.sfits) in rw (le-leb n 32767 few) refl
i16_between (negsuc n) fits = let few : n ≤ 32767 = omega (arith, fits.sfits) in rw (le-leb n 32767 few) refl

pub i32_between : (n : ℤ) → FitsSigned w32 n → between (negsuc 2147483647) (pos 2147483647) n ≡ Some n
i32_between (pos n) fits = let few : n ≤ 2147483647 = omega (arith, fits.sfits) in rw (le-leb n 2147483647 few) refl
i32_between (negsuc n) fits = let few : n ≤ 2147483647 = omega (arith, fits.sfits) in rw (le-leb n 2147483647 few) refl

pub is_up_to : (most n : ℕ) → n ≤ most → up_to most (pos n) ≡ Some n
is_up_to most n few = rw (le-leb n most few) refl

pub as_i64_signed : (n : ℤ) → FitsSigned w64 n → as_i64 (of_integer n) ≡ Some n
as_i64_signed (pos n) fits = let few : n < 2 ^ 63 = omega (arith, fits.sfits) in rw (lt-ltb n (2 ^ 63) few) refl
as_i64_signed (negsuc n) fits = refl

pub as_i64_unsigned : (n : ℕ) → n < 2 ^ 32 → as_i64 (unsigned n) ≡ Some (pos n)
as_i64_unsigned n few = let fewer : n < 2 ^ 63 = omega arith in rw (lt-ltb n (2 ^ 63) fewer) refl
