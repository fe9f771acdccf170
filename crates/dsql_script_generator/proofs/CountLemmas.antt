-- Words that ask for a number of lines, derived from the contract of `parse`.
use Rattle.std.proofs.Common.{◌≡◌, ℕ, ◌≤◌, ◌<◌, List, Bool, true, false, ◌&&◌, ◌⊎◌, inl, inr, leb, cond, subst, refl, Some, None, Result, Ok, sym, ap, ◌∙◌, arith}
use Rattle.std.specs.Fmt.{decimal}
use Rattle.std.specs.Result.{result_ok}
use Rattle.std.specs.Str.{bytes_eq}
use Rattle.std.specs.Str.Parse.{ParsesUnsigned, digits_value}
use Rattle.std.proofs.lemmas.Bool.{and_parts, false_from_ne_true, cond-false, leb-true, le-leb}
use Rattle.std.proofs.lemmas.Fmt.{parse-decimal, decimal_is_IsNumeral}
use Rattle.std.proofs.lemmas.Slice.Eq.{bytes_eq-Decides}
use Rattle.dsql_script_generator.specs.declared.count.TheConstants.{MOST}
use Rattle.dsql_script_generator.specs.Counts.{IsCountOf, asked_count}

-- Holds if the word asks for no number.
pub record AsksNone (word : List ℕ) : Type 0 where
  pub none : (n : ℕ) → IsCountOf word n → ⊥

-- `parse` reads the decimal text of such a number as that number.
pub parses : {E : Type 0} (word : List ℕ) (n : ℕ) (r : Result ℕ E) → ParsesUnsigned 32 10 word r → IsCountOf word n → r ≡ Ok n
parses word n r h is = parse-decimal 32 n word r (omega (arith, is.most)) (omega (arith, is.most)) is.text h

pub asked_count-none : (word : List ℕ) → AsksNone word → asked_count word ≡ None
asked_count-none word h =
    let n = digits_value 10 word in
    cond-false (bytes_eq (decimal n) word && (leb 1 n && leb n MOST)) (Some n) None
    (false_from_ne_true _ (λ t.
    let both = and_parts _ _ t in
    let within = and_parts _ _ both.1 in
    h.none n (record { text = sym ((bytes_eq-Decides (decimal n) word).0 both.0); some = leb-true 1 n within.0; most = leb-true n MOST within.1 })))

-- A word that `parse` refuses asks for no number.
pub AsksNone-refused : {E : Type 0} (word : List ℕ) (r : Result ℕ E) → ParsesUnsigned 32 10 word r → result_ok r ≡ None → AsksNone word
AsksNone-refused word r h none =
    record { none = λ n is. let ok = parses word n r h is in let some : result_ok r ≡ Some n = ap result_ok ok in cc }

-- A word asks for no number other than the one that `parse` reads.
pub asks_what_is_read : {E : Type 0} (word : List ℕ) (m n : ℕ) (r : Result ℕ E) → ParsesUnsigned 32 10 word r → result_ok r ≡ Some m → IsCountOf word n → m ≡ n
asks_what_is_read word m n r h read is =
    let ok = parses word n r h is in
    let some : result_ok r ≡ Some n = ap result_ok ok in
    cc

-- A word that is the decimal text of a number asks for that number.
pub asked_count-some : (word : List ℕ) (n : ℕ) → IsCountOf word n → asked_count word ≡ Some n
asked_count-some word n is =
    let value : digits_value 10 word ≡ n = ap (digits_value 10) is.text ∙ (decimal_is_IsNumeral n (omega (arith, is.most))).1 in
    let same : bytes_eq (decimal n) word ≡ true = (bytes_eq-Decides (decimal n) word).1 (sym is.text) in
    let least : leb 1 n ≡ true = le-leb 1 n is.some in
    let most : leb n MOST ≡ true = le-leb n MOST is.most in
    let P : ℕ → Type 0 = λ m. cond (bytes_eq (decimal m) word && (leb 1 m && leb m MOST)) (Some m) None ≡ Some n in
    subst P (sym value) (rw (same, least, most) refl)

pub same_text : (text word spelled : List ℕ) → text ≡ spelled → bytes_eq text word ≡ true → word ≡ spelled
same_text text word spelled is same = sym ((bytes_eq-Decides text word).0 same) ∙ is

-- A word asks for no number if it isn't the decimal text of what `parse` reads. The same holds if the number is too
-- small or too large.
pub AsksNone-other : {E : Type 0} (word text : List ℕ) (m : ℕ) (r : Result ℕ E) (same : Bool) → ParsesUnsigned 32 10 word r → result_ok r ≡ Some m → text ≡ decimal m → same ≡ bytes_eq text word
    → (((same ≡ true) × (1 ≤ m) × (MOST < m)) ⊎ (((same ≡ true) × (m < 1)) ⊎ (same ≡ false))) → AsksNone word
AsksNone-other word text m r same h read is tested other =
    record {
      none = λ n asked.
          let number : m ≡ n = asks_what_is_read word m n r h read asked in
          elim other [
            | inl large ↦ omega (arith, number, asked.most, large.2)
            | inr rest ↦ elim rest [
              | inl small ↦ omega (arith, number, asked.some, small.1)
              | inr differs ↦ let spelled = (bytes_eq-Decides text word).1 (is ∙ ap decimal number ∙ sym asked.text) in let absurdity : ⊥ = cc in absurdity
            ]
          ];
    }
