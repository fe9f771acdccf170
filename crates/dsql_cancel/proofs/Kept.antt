-- Each change keeps the names in byte order, and keeps every token whose deadline has passed cancelled.
use Rattle.std.proofs.Common.{◌≡◌, ℕ, Bool, true, false, ◌&&◌, cond, T, List, [], ◌∷◌, ◌++◌, take, drop, map, filter, length, Option, Some, None, Result, Ok, Err, OnOk, OnErr, refl, sym, ap, subst, ◌∙◌}
use Rattle.std.proofs.Math.Seq.{take-append_seam}
use Rattle.std.specs.declared.cmp.Ordering.{Ordering}
use Rattle.std.specs.declared.cmp.Ordering.TheVariants.{Less, Equal, Greater}
use Rattle.std.specs.Ordering.{is_lt, eq_by_cmp}
use Rattle.std.specs.Option.{OnSome, IfNone}
use Rattle.std.specs.Cmp.Lexicographic.{nat_list_cmp_total}
use Rattle.std.specs.FinMap.Entries.{below_all, is_sorted, is_sorted-put, put, by_order}
use Rattle.dsql_cancel.specs.declared.token.Token.{Token}
use Rattle.dsql_cancel.specs.declared.token.Cause.TheVariants.{Canceled, Deadline}
use Rattle.dsql_cancel.specs.Token.{runs_out, stopped}
use Rattle.dsql_cancel.specs.Token as one
use Rattle.dsql_cancel.specs.Registry.{Name, Named, byte_order, running_out, with_token, canceled, at_moment, IsKept}

module _ {K X : Type 0} (R : K → K → Ordering) (g : K × X → X) where
  below_map : (x : K) (es : List (K × X)) → below_all R x (map (λ e. (e.0, g e)) es) ≡ below_all R x es
  below_map x [] = refl
  below_map x (e ∷ es) = ap (λ b. is_lt (R x e.0) && b) (below_map x es)

  -- New values leave the order of the keys.
  pub sorted_map : (es : List (K × X)) → is_sorted R (map (λ e. (e.0, g e)) es) ≡ is_sorted R es
  sorted_map [] = refl
  sorted_map (e ∷ es) = ap (λ b. b && is_sorted R (map (λ x. (x.0, g x)) es)) (below_map e.0 es) ∙ ap (λ b. below_all R e.0 es && b) (sorted_map es)

first_late : (now : ℕ) (e : Name × Token) (es : Named) → running_out now (e ∷ es) ≡ [] → (runs_out now e.1 ≡ false) × (running_out now es ≡ [])
first_late now e es h =
    elim (runs_out now e.1) as (λ b. map (λ (x : Name × Token). x.0) (cond b (e ∷ filter (λ x. runs_out now x.1) es) (filter (λ x. runs_out now x.1) es)) ≡ [] → (b ≡ false) × (running_out now es ≡ [])) [
      | true ↦ λ k. cc
      | false ↦ λ k. (refl, k)
    ] h

none_more : (now : ℕ) (e : Name × Token) (es : Named) → runs_out now e.1 ≡ false → running_out now es ≡ [] → running_out now (e ∷ es) ≡ []
none_more now e es p h = ap (λ b. map (λ (x : Name × Token). x.0) (cond b (e ∷ filter (λ x. runs_out now x.1) es) (filter (λ x. runs_out now x.1) es))) p ∙ h

-- If each token that doesn't run out changes to one that doesn't, none runs out after the change.
pub none_late_map : (now : ℕ) (g : Name × Token → Token) → ((e : Name × Token) → runs_out now e.1 ≡ false → runs_out now (g e) ≡ false) → (es : Named) → running_out now es ≡ [] → running_out now (map (λ e. (e.0, g e)) es) ≡ []
none_late_map now g keeps [] h = refl
none_late_map now g keeps (e ∷ es) h =
    let parts = first_late now e es h in
    none_more now (e.0, g e) (map (λ x. (x.0, g x)) es) (keeps e parts.0) (none_late_map now g keeps es parts.1)

pub none_late_all : (now : ℕ) (g : Name × Token → Token) → ((e : Name × Token) → runs_out now (g e) ≡ false) → (es : Named) → running_out now (map (λ e. (e.0, g e)) es) ≡ []
none_late_all now g never [] = refl
none_late_all now g never (e ∷ es) = none_more now (e.0, g e) (map (λ x. (x.0, g x)) es) (never e) (none_late_all now g never es)

pub none_late_put : (now : ℕ) (name : Name) (t : Token) → runs_out now t ≡ false → (es : Named) → running_out now es ≡ [] → running_out now (put byte_order name t es) ≡ []
none_late_put now name t p [] h = none_more now (name, t) [] p refl
none_late_put now name t p (e ∷ es) h =
    let parts = first_late now e es h in
    elim (byte_order name e.0) as (λ r. running_out now (by_order r ((name, t) ∷ e ∷ es) ((e.0, t) ∷ es) (e ∷ put byte_order name t es)) ≡ []) [
      | Less ↦ none_more now (name, t) (e ∷ es) p h
      | Equal ↦ none_more now (e.0, t) es p parts.1
      | Greater ↦ none_more now e (put byte_order name t es) parts.0 (none_late_put now name t p es parts.1)
    ]

-- From a moment on, a token doesn't run out at that moment again.
pub at_moment_late : (now : ℕ) (t : Token) → runs_out now (one.at_moment now t) ≡ false
at_moment_late now t = elim (runs_out now t) as (λ b. runs_out now t ≡ b → runs_out now (cond b (stopped Deadline t) t) ≡ false) [ true ↦ λ e. refl | false ↦ λ e. e ] refl

canceled_late : (now : ℕ) (b : Bool) (t : Token) → runs_out now t ≡ false → runs_out now (cond b (stopped Canceled t) t) ≡ false
canceled_late now true t p = refl
canceled_late now false t p = p

holds : (b : Bool) → b ≡ true → T b
holds true h = tt
holds false h = cc

holds_back : (b : Bool) → T b → b ≡ true
holds_back true h = refl
holds_back false h = absurd h

is_sorted_put : (name : Name) (t : Token) (es : Named) → is_sorted byte_order es ≡ true → is_sorted byte_order (put byte_order name t es) ≡ true
is_sorted_put name t es h = holds_back _ (is_sorted-put byte_order nat_list_cmp_total name t es (holds _ h))

pub kept_with : (name : Name) (t : Token) (es : Named) (now : ℕ) → runs_out now t ≡ false → IsKept es now → IsKept (with_token name t es) now
kept_with name t es now p kept = record {
  in_order = is_sorted_put name t es kept.in_order;
  none_late = none_late_put now name t p es kept.none_late;
}

pub kept_canceled : (name : Name) (es : Named) (now : ℕ) → IsKept es now → IsKept (canceled name es) now
kept_canceled name es now kept =
    let g : Name × Token → Token = λ e. cond (eq_by_cmp byte_order name e.0) (stopped Canceled e.1) e.1 in
    record {
      in_order = sorted_map byte_order g es ∙ kept.in_order;
      none_late = none_late_map now g (λ e p. canceled_late now (eq_by_cmp byte_order name e.0) e.1 p) es kept.none_late;
    }

pub kept_at_moment : (es : Named) (now then : ℕ) → IsKept es then → IsKept (at_moment now es) now
kept_at_moment es now then kept =
    let g : Name × Token → Token = λ e. one.at_moment now e.1 in
    record {
      in_order = sorted_map byte_order g es ∙ kept.in_order;
      none_late = none_late_all now g (λ e. at_moment_late now e.1) es;
    }

-- The tokens stay kept after an addition, whether it succeeds or fails.
pub kept_after_put : {T E : Type 0} (name : Name) (t : Token) (old new : Named) (now : ℕ) (r : Result T E) → OnOk r (new ≡ with_token name t old) → OnErr r (new ≡ old) → runs_out now t ≡ false → IsKept old now → IsKept new now
kept_after_put name t old new now (Ok x) ok err p kept = subst (λ es. IsKept es now) (sym ok) (kept_with name t old now p kept)
kept_after_put name t old new now (Err e) ok err p kept = subst (λ es. IsKept es now) (sym err) kept

pub kept_after_cancel : {T : Type 0} (name : Name) (old new : Named) (now : ℕ) (r : Option T) → OnSome r (new ≡ canceled name old) → IfNone r (new ≡ old) → IsKept old now → IsKept new now
kept_after_cancel name old new now (Some x) ok none kept = subst (λ es. IsKept es now) (sym ok) (kept_canceled name old now kept)
kept_after_cancel name old new now None ok none kept = subst (λ es. IsKept es now) (sym none) kept

-- Writing back a slice of a whole vector makes it the vector's items.
pub written_back : (new old : Named) (n : ℕ) → n ≡ length new → take n (new ++ drop (length new) old) ≡ new
written_back new old n e = rw e (take-append_seam new (drop (length new) old))
