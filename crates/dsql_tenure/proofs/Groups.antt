-- The argument that the rules in groups are all of the rules.
use Rattle.std.proofs.Common.{◌≡◌, Bool, true, false, cond, ◌&&◌, ◌||◌, ◌==◌, None, Some, List, [], ◌∷◌, refl, sym, ◌∙◌, is_some}
use Rattle.std.specs.List.{list_all}
use native.Mathlib.Omega.{arith}
use Rattle.dsql_tenure_journal.specs.declared.entry.Entry.{Entry}
use Rattle.dsql_driver.specs.Kinds.{is_bad}
use Rattle.dsql_tenure_journal.specs.Readers.{went_bad, bad_tenure}
use Rattle.dsql_tenure_journal.specs.WholeJournal as whole
use Rattle.dsql_tenure_journal.specs.WholeJournal.{keeps_whole_journal}
use Rattle.dsql_tenure.specs.Parts.{keeps_order, keeps_bad}

pub and-then : (x y r : Bool) → r ≡ (x && y) → x ≡ true → y ≡ r
and-then true y r h is = sym h
and-then false y r h is = grind (arith, is)

pub and-else : (x y r : Bool) → r ≡ (x && y) → x ≡ false → false ≡ r
and-else true y r h is = grind (arith, is)
and-else false y r h is = sym h

ordered : (a b c d e f g h i j : Bool) → a ≡ true
    → (a && b && c && d && e && f && g && h && i && j) ≡ (((b && e) && (d && g) && (f && c)) && (h && i && j))
ordered true b c d e f g h i j one = go b c d e f g (h && i && j) (last b c d e f g h i j)
  where
    last : (b c d e f g h i j : Bool) → (b && c && d && e && f && g && h && i && j) ≡ ((b && c && d && e && f && g) && (h && i && j))
    last b c d e f g h i j = end (b && c && d && e && f && g)
      where
        end : (p : Bool) → (p && h && i && j) ≡ (p && (h && i && j))
        end true = refl
        end false = refl

    go : (b c d e f g r : Bool) → (b && c && d && e && f && g && h && i && j) ≡ ((b && c && d && e && f && g) && r)
        → (b && c && d && e && f && g && h && i && j) ≡ (((b && e) && (d && g) && (f && c)) && r)
    go false c d e f g r k = refl
    go true false d e f g r k = k ∙ nothing (e && (d && g)) f r
      where
        nothing : (p f r : Bool) → false ≡ ((p && (f && false)) && r)
        nothing true true r = refl
        nothing true false r = refl
        nothing false f r = refl
    go true true false e f g r k = k ∙ nothing e r
      where
        nothing : (e r : Bool) → false ≡ ((e && false && (f && true)) && r)
        nothing true r = refl
        nothing false r = refl
    go true true true false f g r k = k
    go true true true true false g r k = k ∙ nothing g r
      where
        nothing : (g r : Bool) → false ≡ ((g && false) && r)
        nothing true r = refl
        nothing false r = refl
    go true true true true true true r k = k
    go true true true true true false r k = k
ordered false b c d e f g h i j one = grind (arith, one)

pub keeps_whole_journal-groups : (before : List Entry) (e : Entry) → list_all (λ x. x.conn == e.conn) before ≡ true → keeps_whole_journal before e ≡ (keeps_order before e && keeps_bad before e)
keeps_whole_journal-groups before e one =
    ordered (whole.has_one_connection before e) (whole.follows_no_refusal before) (whole.follows_whole_tenure before e) (whole.connects_first before e) (whole.follows_no_shut before)
    (whole.has_rising_tenure before e) (whole.starts_with_tenure_one before e) (whole.tidies_nothing_bad before e) (whole.stays_in_bad_tenure before e) (whole.shuts_after_invalid before e) one

-- Some entry was answered Bad exactly if the first Bad answer has a tenure.
pub bad_tenure-some : (journal : List Entry) → is_some (bad_tenure journal) ≡ went_bad journal
bad_tenure-some [] = refl
bad_tenure-some (e ∷ before) = go (went_bad before) (is_bad e.answer) (bad_tenure-some before)
  where
    go : (a b : Bool) → is_some (bad_tenure before) ≡ a → is_some (cond a (bad_tenure before) (cond b (Some e.tenure) None)) ≡ (b || a)
    go true true h = h
    go true false h = h
    go false true h = refl
    go false false h = refl
