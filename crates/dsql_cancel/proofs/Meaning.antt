-- What the map answers after a change: each change acts on the token that a look-up finds.
use Rattle.std.proofs.Common.{◌≡◌, ◌≢◌, ℕ, Bool, true, false, cond, [], ◌∷◌, map, filter, Option, Some, None, Ok, Result, refl, sym, ap, ◌∙◌}
use Rattle.std.specs.declared.cmp.Ordering.{Ordering}
use Rattle.std.specs.declared.cmp.Ordering.TheVariants.{Less, Equal}
use Rattle.std.specs.Ordering.{is_eq, is_lt, eq_by_cmp}
use Rattle.std.specs.Option.{option_map, ok_or}
use Rattle.std.specs.Cmp.{IsTotalOrder, tied_itself}
use Rattle.std.specs.Cmp.Lexicographic.{nat_list_cmp_total}
use Rattle.std.specs.FinMap.{slice_cmp-IsAntisymmetric, nat_cmp-IsAntisymmetric}
use Rattle.std.specs.FinMap.Entries.{find-put, is_sorted, below_all}
use Rattle.std.specs.List.{AllByRecursion}
use Rattle.std.specs.List.Sorted.{IsStrictlySortedBy}
use Rattle.dsql_cancel.specs.declared.token.Token.{Token}
use Rattle.dsql_cancel.specs.declared.fault.Unknown.{Unknown}
use Rattle.dsql_cancel.specs.declared.token.Cause.{Cause}
use Rattle.dsql_cancel.specs.declared.token.Cause.TheVariants.{Canceled, Deadline}
use Rattle.dsql_cancel.specs.Token as one
use Rattle.dsql_cancel.specs.Registry.{Name, Named, byte_order, token_of, canceled, at_moment, running_out}
use Rattle.dsql_cancel.specs.Laws.{ChangesOneName, FirstCauseStays, ToldOnce}
use Rattle.dsql_cancel.proofs.Order.{left, right}
use Rattle.dsql_cancel.proofs.Kept.{none_late_all, at_moment_late}

total : IsTotalOrder byte_order
total = nat_list_cmp_total

same_name : (name : Name) → eq_by_cmp byte_order name name ≡ true
same_name name = ap is_eq (tied_itself total name)

by_order_equal : (r : Ordering) → is_eq r ≡ true → r ≡ Equal
by_order_equal Equal h = refl
by_order_equal _ h = cc

other_name : (name other : Name) → other ≢ name → eq_by_cmp byte_order other name ≡ false
other_name name other differs =
    elim (eq_by_cmp byte_order other name) as (λ b. eq_by_cmp byte_order other name ≡ b → b ≡ false) [
      | true ↦ λ e. absurd (differs (slice_cmp-IsAntisymmetric nat_cmp-IsAntisymmetric other name (by_order_equal (byte_order other name) e)))
      | false ↦ λ e. refl
    ] refl

token_of-at_moment : (name : Name) (now : ℕ) (tokens : Named) → token_of name (at_moment now tokens) ≡ option_map (one.at_moment now) (token_of name tokens)
token_of-at_moment name now [] = refl
token_of-at_moment name now (e ∷ es) =
    elim (eq_by_cmp byte_order name e.0) as (λ b. cond b (Some (one.at_moment now e.1)) (token_of name (at_moment now es)) ≡ option_map (one.at_moment now) (cond b (Some e.1) (token_of name es))) [
      | true ↦ refl
      | false ↦ token_of-at_moment name now es
    ]

-- Returns what the token of the name `other` becomes if `name` is cancelled.
after_cancel : (name other : Name) → Token → Token
after_cancel name other token = cond (eq_by_cmp byte_order name other) (one.stopped Canceled token) token

token_of-canceled : (name other : Name) (tokens : Named) → token_of other (canceled name tokens) ≡ option_map (after_cancel name other) (token_of other tokens)
unfolding after_cancel
token_of-canceled name other [] = refl
token_of-canceled name other (e ∷ es) =
    elim (eq_by_cmp byte_order other e.0) as (λ b. eq_by_cmp byte_order other e.0 ≡ b → cond b (Some (after_cancel name e.0 e.1)) (token_of other (canceled name es)) ≡ option_map (after_cancel name other) (cond b (Some e.1) (token_of other es))) [
      | true ↦ λ same. ap (λ (n : Name). Some (after_cancel name n e.1)) (sym (slice_cmp-IsAntisymmetric nat_cmp-IsAntisymmetric other e.0 (by_order_equal (byte_order other e.0) same)))
      | false ↦ λ differs. token_of-canceled name other es
    ] refl

same_token : (f : Token → Token) (o : Option Token) → ((t : Token) → f t ≡ t) → option_map f o ≡ o
same_token f (Some t) same = ap (λ (x : Token). Some x) (same t)
same_token f None same = refl

both_tokens : (f g : Token → Token) (o : Option Token) → ((t : Token) → f t ≡ g t) → option_map f o ≡ option_map g o
both_tokens f g (Some t) same = ap (λ (x : Token). Some x) (same t)
both_tokens f g None same = refl

turned_other : (name other : Name) → other ≢ name → eq_by_cmp byte_order name other ≡ false
turned_other name other differs = other_name other name (λ e. differs (sym e))

pub changes_one_name : ChangesOneName
unfolding after_cancel
changes_one_name = record {
  made = λ name token tokens. find-put byte_order total name name token tokens ∙ ap (λ b. cond b (Some token) (token_of name tokens)) (same_name name);
  others_stay = λ name other token tokens differs. find-put byte_order total other name token tokens ∙ ap (λ b. cond b (Some token) (token_of other tokens)) (other_name name other differs);
  canceled_one = λ name tokens. token_of-canceled name name tokens ∙ both_tokens (after_cancel name name) (one.stopped Canceled) (token_of name tokens) (λ t. ap (λ b. cond b (one.stopped Canceled t) t) (same_name name));
  others_run_on = λ name other tokens differs. token_of-canceled name other tokens ∙ same_token (after_cancel name other) (token_of other tokens) (λ t. ap (λ b. cond b (one.stopped Canceled t) t) (turned_other name other differs));
  each_by_itself = token_of-at_moment;
}

abbrev cause_in : Option Token → Result (Option Cause) Unknown
cause_in o = ok_or {E = Unknown} (option_map (λ (t : Token). t.cause) o) (record {})

-- A change that keeps each token's cause keeps the cause that a look-up finds.
keeps_cause : (f : Token → Token) (o : Option Token) (why : Cause) → ((t : Token) → t.cause ≡ Some why → (f t).cause ≡ Some why) → cause_in o ≡ Ok (Some why) → cause_in (option_map f o) ≡ Ok (Some why)
keeps_cause f (Some t) why keeps h = ap (λ (c : Option Cause). Ok c) (keeps t (cc h))
keeps_cause f None why keeps h = cc

kept_stopped : (t : Token) (why other : Cause) → t.cause ≡ Some why → (one.stopped other t).cause ≡ Some why
kept_stopped t why other h = rw h refl

kept_if_canceled : (b : Bool) (t : Token) (why : Cause) → t.cause ≡ Some why → (cond b (one.stopped Canceled t) t).cause ≡ Some why
kept_if_canceled true t why h = kept_stopped t why Canceled h
kept_if_canceled false t why h = h

kept_if_late : (b : Bool) (t : Token) (why : Cause) → t.cause ≡ Some why → (cond b (one.stopped Deadline t) t).cause ≡ Some why
kept_if_late true t why h = kept_stopped t why Deadline h
kept_if_late false t why h = h

cause_by : (o p : Option Token) (why : Cause) → o ≡ p → cause_in p ≡ Ok (Some why) → cause_in o ≡ Ok (Some why)
cause_by o p why e h = ap cause_in e ∙ h

pub first_cause_stays : FirstCauseStays
unfolding after_cancel
first_cause_stays = record {
  made = λ name other token tokens why differs h. cause_by _ _ why (changes_one_name.others_stay name other token tokens differs) h;
  canceled = λ name other tokens why h. cause_by _ _ why (token_of-canceled name other tokens) (keeps_cause (after_cancel name other) (token_of other tokens) why (λ t. kept_if_canceled (eq_by_cmp byte_order name other) t why) h);
  at_moment = λ other now tokens why h. cause_by _ _ why (token_of-at_moment other now tokens) (keeps_cause (one.at_moment now) (token_of other tokens) why (λ t. kept_if_late (one.runs_out now t) t why) h);
}

is_less : (r : Ordering) → is_lt r ≡ true → r ≡ Less
is_less Less h = refl
is_less _ h = cc

names_above : (now : ℕ) (name : Name) (es : Named) → below_all byte_order name es ≡ true → AllByRecursion (λ y. byte_order name y ≡ Less) (running_out now es)
names_above now name [] h = tt
names_above now name (e ∷ es) h =
    let rest = names_above now name es (right (is_lt (byte_order name e.0)) (below_all byte_order name es) h) in
    elim (one.runs_out now e.1) as (λ b. AllByRecursion (λ y. byte_order name y ≡ Less) (map (λ (x : Name × Token). x.0) (cond b (e ∷ filter (λ x. one.runs_out now x.1) es) (filter (λ x. one.runs_out now x.1) es)))) [
      | true ↦ (is_less (byte_order name e.0) (left (is_lt (byte_order name e.0)) (below_all byte_order name es) h), rest)
      | false ↦ rest
    ]

names_in_order : (now : ℕ) (es : Named) → is_sorted byte_order es ≡ true → IsStrictlySortedBy byte_order (running_out now es)
unfolding IsStrictlySortedBy
names_in_order now [] h = tt
names_in_order now (e ∷ es) h =
    let rest = names_in_order now es (right (below_all byte_order e.0 es) (is_sorted byte_order es) h) in
    elim (one.runs_out now e.1) as (λ b. IsStrictlySortedBy byte_order (map (λ (x : Name × Token). x.0) (cond b (e ∷ filter (λ x. one.runs_out now x.1) es) (filter (λ x. one.runs_out now x.1) es)))) [
      | true ↦ (names_above now e.0 es (left (below_all byte_order e.0 es) (is_sorted byte_order es) h), rest)
      | false ↦ rest
    ]

pub told_once : ToldOnce
told_once = record {
  in_order = names_in_order;
  not_again = λ now tokens. none_late_all now (λ e. one.at_moment now e.1) (λ e. at_moment_late now e.1) tokens;
}
