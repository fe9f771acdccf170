-- Words that spell numbers, derived from the contract of `parse`.
use Rattle.std.proofs.Common.{◌≡◌, ◌≢◌, ℕ, ℤ, pos, negsuc, ◌≤◌, List, true, false, ◌&&◌, Some, None, Result, Ok, FitsSigned, w64, sym, ap, ◌∙◌, arith}
use Rattle.std.specs.Fmt.{signed_decimal}
use Rattle.std.specs.Result.{result_ok}
use Rattle.std.specs.Str.{bytes_eq}
use Rattle.std.specs.Str.Parse.{ParsesSigned, signed_digits_value}
use Rattle.std.proofs.lemmas.Bool.{and_parts, false_from_ne_true, cond-false, leb-true}
use Rattle.std.proofs.lemmas.Fmt.{parse-signed_decimal}
use Rattle.std.proofs.lemmas.Slice.Eq.{bytes_eq-Decides}
use Rattle.dsql_mem_session.specs.Number.{number_of, fits_i64}

-- Holds if no number that fits an i64 has the word as its decimal text.
pub record SpellsNone (word : List ℕ) : Type 0 where
  pub none : (z : ℤ) → FitsSigned w64 z → word ≢ signed_decimal z

pub FitsSigned-fits_i64 : (z : ℤ) → fits_i64 z ≡ true → FitsSigned w64 z
FitsSigned-fits_i64 (pos n) h = let le : n ≤ 9223372036854775807 = leb-true n 9223372036854775807 h in record { sfits = omega arith }
FitsSigned-fits_i64 (negsuc n) h =
    let le : n ≤ 9223372036854775807 = leb-true n 9223372036854775807 (and_parts _ _ h).0 in
    record { sfits = omega arith }

-- `parse` reads the decimal text of each number that fits an i64 as that number.
pub parses : {E : Type 0} (word : List ℕ) (z : ℤ) (r : Result ℤ E) → ParsesSigned w64 10 word r → FitsSigned w64 z → word ≡ signed_decimal z → r ≡ Ok z
parses word z r h fits e = parse-signed_decimal w64 z word r fits fits.sfits e h

pub number_of-none : (word : List ℕ) → SpellsNone word → number_of word ≡ None
number_of-none word h =
    let z = signed_digits_value 10 word in
    cond-false (bytes_eq (signed_decimal z) word && fits_i64 z) (Some z) None
    (false_from_ne_true _ (λ t. let both = and_parts _ _ t in h.none z (FitsSigned-fits_i64 z both.1) (sym ((bytes_eq-Decides (signed_decimal z) word).0 both.0))))

-- A word that `parse` refuses spells no number.
pub SpellsNone-refused : {E : Type 0} (word : List ℕ) (r : Result ℤ E) → ParsesSigned w64 10 word r → result_ok r ≡ None → SpellsNone word
SpellsNone-refused word r h none =
    record { none = λ z fits e. let ok = parses word z r h fits e in let some : result_ok r ≡ Some z = ap result_ok ok in cc }

-- A word that differs from the decimal text of the number that `parse` reads in it spells no number.
pub SpellsNone-read : {E : Type 0} (word : List ℕ) (z : ℤ) (r : Result ℤ E) → ParsesSigned w64 10 word r → result_ok r ≡ Some z → bytes_eq (signed_decimal z) word ≡ false → SpellsNone word
SpellsNone-read word z r h read other =
    record {
      none = λ y fits e.
          let ok = parses word y r h fits e in
          let some : result_ok r ≡ Some y = ap result_ok ok in
          let same : z ≡ y = cc in
          let t = (bytes_eq-Decides (signed_decimal z) word).1 (ap signed_decimal same ∙ sym e) in
          cc;
    }
