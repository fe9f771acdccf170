-- The events of a call that goes on, case by case.
use Rattle.std.proofs.Common.{◌≡◌, ℕ, Bool, true, false, not, ◌&&◌, cond, List, ◌∷◌, Option, Some, None, is_some, refl, ap, ◌∙◌}
use Rattle.dsql_laws_calls.specs.history.declared.event.Event.{Event}
use Rattle.dsql_laws_calls.specs.history.declared.event.Event.TheVariants.{Replied}
use Rattle.dsql_laws_calls.specs.history.declared.reply.Reply.{Reply}
use Rattle.dsql_laws_calls.specs.history.Readers.Calls.{reply_due, rests_with}
use Rattle.dsql_laws_calls.specs.history.Readers.Unfinished.{is_unfinished}
use Rattle.dsql_laws_calls.specs.history.Rules.Asking.{may_ask, ask_outcome}
use Rattle.dsql_laws_calls.specs.history.Rules.Line.{due_for}
use Rattle.dsql_laws_steps.specs.Groups.{after_asking, after_reply, after_settling, asked_so, given_up, gone_on, sends_nothing}
use Rattle.dsql_engine_calls.specs.Settling.{reply_or}

pub silent_or_not : (u d : Bool) → d ≡ true → (u && not d) ≡ false
silent_or_not true true h = refl
silent_or_not true false h = absurd cc
silent_or_not false d h = refl

-- A call for which a driver call is due adds no event.
pub due_group : (H : List Event) (n : ℕ) → is_some (due_for H n) ≡ true → gone_on n H ≡ H
due_group H n due = ap (λ (b : Bool). cond b (after_settling n (reply_due H n) H) H) (silent_or_not (is_unfinished H n) (is_some (due_for H n)) due)

silent_group : (H : List Event) (n : ℕ) → is_unfinished H n ≡ true → is_some (due_for H n) ≡ false → gone_on n H ≡ after_settling n (reply_due H n) H
silent_group H n u silent =
    let both_so : sends_nothing H n ≡ true = ap (λ (b : Bool). b && not (is_some (due_for H n))) u ∙ ap not silent in
    ap (λ (b : Bool). cond b (after_settling n (reply_due H n) H) H) both_so

reply_group : (n : ℕ) (o : Option Reply) (H : List Event) → is_some o ≡ true → after_settling n o H ≡ after_reply n o H
reply_group n None H h = absurd cc
reply_group n (Some r) H h = refl

-- A call with nothing to send has its reply if that is settled.
pub settled_group : (H : List Event) (n : ℕ) → is_unfinished H n ≡ true → is_some (due_for H n) ≡ false → is_some (reply_due H n) ≡ true → gone_on n H ≡ after_reply n (reply_due H n) H
settled_group H n u silent told = silent_group H n u silent ∙ reply_group n (reply_due H n) H told

-- The reply comes after the call gave back the connection with which it rests.
pub replied_group : (n : ℕ) (o : Option Reply) (H : List Event) → is_some o ≡ true → after_reply n o H ≡ Replied n (reply_or o) ∷ given_up (rests_with H n) H
replied_group n None H h = absurd cc
replied_group n (Some r) H h = refl

no_reply_group : (n : ℕ) (o : Option Reply) (H : List Event) → is_some o ≡ false → after_settling n o H ≡ after_asking n H
no_reply_group n None H h = refl
no_reply_group n (Some r) H h = absurd cc

-- What the pool answers a call comes if the call may ask.
pub asking_group : (H : List Event) (n : ℕ) → is_unfinished H n ≡ true → is_some (due_for H n) ≡ false → is_some (reply_due H n) ≡ false → may_ask H n ≡ true → gone_on n H ≡ asked_so n (ask_outcome H n) H
asking_group H n u silent untold may =
    silent_group H n u silent ∙ (no_reply_group n (reply_due H n) H untold ∙ ap (λ (b : Bool). cond b (asked_so n (ask_outcome H n) H) H) may)

-- Otherwise no event comes.
pub waiting_group : (H : List Event) (n : ℕ) → is_unfinished H n ≡ true → is_some (due_for H n) ≡ false → is_some (reply_due H n) ≡ false → may_ask H n ≡ false → gone_on n H ≡ H
waiting_group H n u silent untold may =
    silent_group H n u silent ∙ (no_reply_group n (reply_due H n) H untold ∙ ap (λ (b : Bool). cond b (asked_so n (ask_outcome H n) H) H) may)
