-- Longer scripts begin with shorter ones, and a sink that holds a part of a script holds its beginning.
use Rattle.std.proofs.Common.{◌≡◌, ℕ, zero, suc, ◌+◌, ◌≤◌, List, [], ◌++◌, Option, take, drop, refl, sym, ap, ◌∙◌, subst, arith, inl, inr}
use Rattle.std.proofs.lemmas.List.{append_assoc, append-nil, take-append-drop}
use Rattle.std.proofs.lemmas.Bool.{cases_lt}
use Rattle.dsql_script_show.specs.Report.{with_text, Begins, ShowsFront}
use Rattle.dsql_script_show.proofs.Texts.{with_both}
use Rattle.dsql_script_generator.specs.Script.{generated, line_text}

-- A script that is one line longer ends with that line.
pub generated-next : (n : ℕ) → generated (n + 1) ≡ generated n ++ line_text (n + 1)
generated-next n = let e : n + 1 ≡ suc n = omega arith in rw e refl

-- A text begins with itself.
begins_whole : (text : List ℕ) → Begins text text
begins_whole text = record { rest = []; parts = sym (append-nil text) }

begins_more : (front whole more : List ℕ) → Begins front whole → Begins front (whole ++ more)
begins_more front whole more b = record { rest = b.rest ++ more; parts = ap (λ t. t ++ more) b.parts ∙ append_assoc front b.rest more }

-- A longer script begins with a shorter one.
pub generated_begins : (m n : ℕ) → m ≤ n → Begins (generated m) (generated n)
generated_begins m zero h = let e : m ≡ 0 = omega arith in subst (λ k. Begins (generated k) []) (sym e) (begins_whole [])
generated_begins m (suc n) h =
    elim (cases_lt n m) [
      | inl lt ↦ let e : m ≡ suc n = omega arith in subst (λ k. Begins (generated k) (generated (suc n))) (sym e) (begins_whole (generated (suc n)))
      | inr le ↦ begins_more (generated m) (generated n) (line_text (suc n)) (generated_begins m n le)
    ]

-- A sink that holds a shorter script holds a beginning of a longer one.
pub front_of_shorter : (w now : Option (List ℕ)) (m n : ℕ) → m ≤ n → now ≡ with_text w (generated m) → ShowsFront w (generated n) now
front_of_shorter w now m n h is = record { front = generated m; begins = generated_begins m n h; written = is }

-- A sink that holds a shorter script and a beginning of the next piece holds a beginning of a longer script.
pub front_in_piece : (w now next : Option (List ℕ)) (cut m n last : ℕ) (piece : List ℕ) → n ≤ last → now ≡ with_text w (generated m) → generated n ≡ generated m ++ piece
    → next ≡ with_text now (take cut piece) → ShowsFront w (generated last) next
front_in_piece w now next cut m n last piece h is parts cut_is =
    let whole = generated_begins n last h in
    let front = generated m ++ take cut piece in
    let n_begins : Begins front (generated n) = record {
      rest = drop cut piece;
      parts = parts ∙ ap (λ t. generated m ++ t) (sym (take-append-drop cut piece)) ∙ sym (append_assoc (generated m) (take cut piece) (drop cut piece));
    } in
    record {
      front = front;
      begins = record { rest = n_begins.rest ++ whole.rest; parts = whole.parts ∙ ap (λ t. t ++ whole.rest) n_begins.parts ∙ append_assoc front n_begins.rest whole.rest };
      written = cut_is ∙ rw is (with_both w (generated m) (take cut piece));
    }

-- A piece grows by one line.
pub piece_grows : (m n : ℕ) (before after : List ℕ) → generated n ≡ generated m ++ before → after ≡ before ++ line_text (n + 1) → generated (n + 1) ≡ generated m ++ after
piece_grows m n before after is more =
    generated-next n ∙ ap (λ t. t ++ line_text (n + 1)) is ∙ append_assoc (generated m) before (line_text (n + 1)) ∙ ap (λ t. generated m ++ t) (sym more)
