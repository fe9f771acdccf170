-- The rules for the live handle or cursor that a call names, by the tables.
use Rattle.std.proofs.Common.{◌≡◌, ℕ, Bool, true, false, cond, not, ◌&&◌, ◌||◌, ◌==◌, List, [], ◌∷◌, refl, ◌∙◌, ap}
use Rattle.std.specs.List.{filter, list_all, list_any}
use Rattle.dsql_tenure_journal.specs.declared.entry.Entry.{Entry}
use Rattle.dsql_tenure_journal.specs.Kinds.{◌⇒◌, is_call, is_house}
use Rattle.dsql_driver.specs.Kinds.{is_close_stmt, is_next}
use Rattle.dsql_tenure_journal.specs.Readers.{LiveHandle, LiveCursor, is_empty, handles, cursors}
use Rattle.dsql_tenure_journal.specs.HandlesAndCursors.{keeps_handles_and_cursors, has_live_handle, has_live_cursor, fetches_before_the_end, has_transaction_of_handle, has_transaction_of_cursor, uses_cursor_in_its_tenure, uses_handle_in_its_tenure, uses_handle_in_call_tenures}
use Rattle.dsql_tenure_asked.specs.declared.live.Handle.{Handle}
use Rattle.dsql_tenure_asked.specs.declared.live.Cursor.{Cursor}
use Rattle.dsql_tenure.specs.declared.tables.Tables.{Tables}
use Rattle.dsql_tenure.specs.Parts.{keeps_handle, keeps_cursor}
use Rattle.dsql_tenure_asked.specs.Live.{serves_handle, serves_cursor}
use Rattle.dsql_tenure.specs.Tables.{past, kept_handle, kept_cursor, Stands}
use Rattle.dsql_tenure.proofs.Keeping.{keeps_of}
use Rattle.dsql_tenure.proofs.Lists.{list_all-map, list_any-map, list_all-same, list_all-and, list_all-filter, is_empty-filter}

grouped : (a b c d e f g h : Bool) → (a && b && c && d && e && f && g && h) ≡ ((a && d && g && h) && (b && c && e && f))
grouped false b c d e f g h = refl
grouped true false c d e f g h = never (d && g && h)
  where
    never : (p : Bool) → false ≡ (p && false)
    never true = refl
    never false = refl
grouped true true false d e f g h = never (d && g && h)
  where
    never : (p : Bool) → false ≡ (p && false)
    never true = refl
    never false = refl
grouped true true true false e f g h = refl
grouped true true true true false f g h = never (g && h)
  where
    never : (p : Bool) → false ≡ (p && false)
    never true = refl
    never false = refl
grouped true true true true true false g h = never (g && h)
  where
    never : (p : Bool) → false ≡ (p && false)
    never true = refl
    never false = refl
grouped true true true true true true g h = last (g && h)
  where
    last : (p : Bool) → p ≡ (p && true)
    last true = refl
    last false = refl

-- The rules for handles and cursors are those for handles and those for cursors.
pub keeps_handles_and_cursors-groups : (before : List Entry) (e : Entry) → keeps_handles_and_cursors before e ≡ (keeps_handle before e && keeps_cursor before e)
keeps_handles_and_cursors-groups before e =
    grouped (has_live_handle before e) (has_live_cursor before e) (fetches_before_the_end before e) (has_transaction_of_handle before e) (has_transaction_of_cursor before e)
    (uses_cursor_in_its_tenure before e) (uses_handle_in_its_tenure before e) (uses_handle_in_call_tenures before e)

-- A number that is live, and three tests of what it names.
module _ {X : Type 0} (named a b c : X → Bool) (xs : List X) where
  all_named : (f : X → Bool) → list_all f (filter named xs) ≡ list_all (λ x. not (named x) || f x) xs
  all_named f = list_all-filter f named xs

  three : (x : X) → (not (named x) || (a x && b x && c x)) ≡ (((not (named x) || a x) && (not (named x) || b x)) && (not (named x) || c x))
  three x = go (named x)
    where
      go : (n : Bool) → (not n || (a x && b x && c x)) ≡ (((not n || a x) && (not n || b x)) && (not n || c x))
      go true = refl
      go false = refl

  pub named-three : (list_any named xs && list_all (λ x. not (named x) || (a x && b x && c x)) xs)
      ≡ (not (is_empty (filter named xs)) && list_all a (filter named xs) && list_all b (filter named xs) && list_all c (filter named xs))
  named-three =
      rw (is_empty-filter named xs, all_named a, all_named b, all_named c)
      (rw (
        list_all-same (λ x. not (named x) || (a x && b x && c x)) (λ x. ((not (named x) || a x) && (not (named x) || b x)) && (not (named x) || c x)) three xs,
        list_all-and (λ x. (not (named x) || a x) && (not (named x) || b x)) (λ x. not (named x) || c x) xs,
        list_all-and (λ x. not (named x) || a x) (λ x. not (named x) || b x) xs,
      )
      (go (list_any named xs) (list_all (λ x. not (named x) || a x) xs) (list_all (λ x. not (named x) || b x) xs) (list_all (λ x. not (named x) || c x) xs)))
    where
      go : (p q r s : Bool) → (p && ((q && r) && s)) ≡ (not (not p) && q && r && s)
      go true q r s = refl
      go false q r s = refl

-- A test that only a Next asks holds of all cursors exactly if it holds whenever the call is a Next.
pub next_only : (b : Bool) (f : LiveCursor → Bool) (cs : List LiveCursor) → list_all (λ c. b ⇒ f c) cs ≡ (b ⇒ list_all f cs)
next_only true f cs = refl
next_only false f [] = refl
next_only false f (c ∷ cs) = next_only false f cs

module _ (t : Tables) (s : Stands t) (e : Entry) where
  pub handle_served : (n : ℕ)
      → (list_any (λ h. h.number == n) t.handles.items && list_all (λ h. not (h.number == n) || serves_handle h e) t.handles.items)
      ≡ (not (is_empty (filter (λ h. h.number == n) (handles (past t))))
      && list_all (λ h. h.tx == e.tx) (filter (λ h. h.number == n) (handles (past t)))
      && list_all (λ h. not (is_call h.owner) ⇒ h.tenure == e.tenure) (filter (λ h. h.number == n) (handles (past t)))
      && list_all (λ h. is_call h.owner ⇒ is_call e.owner || is_house e.owner && is_close_stmt e.call) (filter (λ h. h.number == n) (handles (past t))))
  handle_served n =
      ap (λ (hs : List Handle). list_any (λ h. h.number == n) hs && list_all (λ h. not (h.number == n) || serves_handle h e) hs) (keeps_of t s).handles
      ∙ rw (list_any-map (λ (h : Handle). h.number == n) kept_handle (handles (past t)), list_all-map (λ (h : Handle). not (h.number == n) || serves_handle h e) kept_handle (handles (past t))) refl
      ∙ ap (λ b. list_any (λ h. h.number == n) (handles (past t)) && b) (list_all-same _ _ (λ (h : LiveHandle). apart (h.number == n) (h.tx == e.tx) (h.tenure == e.tenure) (is_call e.owner || is_house e.owner && is_close_stmt e.call) (is_call h.owner)) (handles (past t)))
      ∙ named-three (λ (h : LiveHandle). h.number == n) (λ h. h.tx == e.tx) (λ h. not (is_call h.owner) ⇒ h.tenure == e.tenure) (λ h. is_call h.owner ⇒ is_call e.owner || is_house e.owner && is_close_stmt e.call) (handles (past t))
    where
      apart : (k a b c d : Bool) → (not k || (a && cond d c b)) ≡ (not k || (a && (not d ⇒ b) && (d ⇒ c)))
      apart false a b c d = refl
      apart true false b c d = refl
      apart true true b c true = refl
      apart true true b c false = last b
        where
          last : (p : Bool) → p ≡ (p && true)
          last true = refl
          last false = refl

  pub cursor_served : (n : ℕ)
      → (list_any (λ c. c.number == n) t.cursors.items && list_all (λ c. not (c.number == n) || serves_cursor c e) t.cursors.items)
      ≡ (not (is_empty (filter (λ c. c.number == n) (cursors (past t))))
      && (is_next e.call ⇒ list_all (λ c. not c.over) (filter (λ c. c.number == n) (cursors (past t))))
      && list_all (λ c. c.tx == e.tx) (filter (λ c. c.number == n) (cursors (past t)))
      && list_all (λ c. c.tenure == e.tenure) (filter (λ c. c.number == n) (cursors (past t))))
  cursor_served n =
      ap (λ (cs : List Cursor). list_any (λ c. c.number == n) cs && list_all (λ c. not (c.number == n) || serves_cursor c e) cs) (keeps_of t s).cursors
      ∙ rw (list_any-map (λ (c : Cursor). c.number == n) kept_cursor (cursors (past t)), list_all-map (λ (c : Cursor). not (c.number == n) || serves_cursor c e) kept_cursor (cursors (past t))) refl
      ∙ named-three (λ (c : LiveCursor). c.number == n) (λ c. is_next e.call ⇒ not c.over) (λ c. c.tx == e.tx) (λ c. c.tenure == e.tenure) (cursors (past t))
      ∙ rw (next_only (is_next e.call) (λ c. not c.over) (filter (λ c. c.number == n) (cursors (past t)))) refl
