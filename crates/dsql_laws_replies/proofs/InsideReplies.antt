-- A call in a transaction that has nothing to send has a settled reply.
use Rattle.std.proofs.Common.{◌≡◌, ◌≢◌, ℕ, ◌==◌, ◌⊎◌, inl, inr, Bool, true, false, not, ◌&&◌, ◌||◌, cond, List, [], ◌∷◌, length, Option, Some, None, is_none, is_some, refl, sym, ap, subst, ◌∙◌, arith}
use Rattle.std.proofs.lemmas.Bool.{or_right}
use Rattle.dsql_laws_calls.specs.course.Made.{or_else}
use Rattle.dsql_laws_calls.specs.course.declared.course.Wish.TheVariants as wishes
use Rattle.dsql_laws_calls.specs.tx.declared.end.TxEnd.{TxEnd}
use Rattle.dsql_laws_calls.specs.works.Exchanges.{exchanges}
use Rattle.dsql_laws_calls.proofs.laws_work.Rows.{same_or_not}
use Rattle.dsql_laws_calls.proofs.laws.Tests.{same_number, same_itself}
use Rattle.dsql_laws_calls.specs.history.declared.event.Event.{Event}
use Rattle.dsql_laws_calls.specs.history.declared.event.Event.TheVariants.{Entered, Heard, Replied}
use Rattle.dsql_laws_calls.specs.history.declared.event.Op.{Op}
use Rattle.dsql_laws_calls.specs.history.declared.event.Op.TheVariants as ops
use Rattle.dsql_laws_calls.specs.history.declared.event.Target.TheVariants as targets
use Rattle.dsql_laws_calls.specs.history.declared.reply.Reply.{Reply}
use Rattle.dsql_laws_calls.specs.history.declared.reply.Reply.TheVariants.{Absent}
use Rattle.dsql_laws_calls.specs.history.declared.work.Scope.TheVariants.{Held}
use Rattle.dsql_laws_calls.specs.history.declared.work.Work.{Work}
use Rattle.dsql_laws_calls.specs.history.declared.work.Work.TheVariants.{Statement}
use Rattle.dsql_laws_calls.specs.history.Readers.Calls.{calls, decided, is_there, done_with, tx_refused, told_at_entry, told_by_others, told_at_lending, told_of_work, has_begun_to_send, reply_due, site}
use Rattle.dsql_laws_calls.specs.history.Readers.Journals.{journal, heard_in}
use Rattle.dsql_laws_calls.specs.history.Readers.Lines.{has_sent, line_among}
use Rattle.dsql_laws_calls.specs.history.Readers.Pool.{home}
use Rattle.dsql_laws_calls.specs.history.Readers.Transactions.{tx_end, is_begun, is_over, goes_on}
use Rattle.dsql_laws_calls.specs.history.Readers.Unfinished.{is_unfinished}
use Rattle.dsql_laws_calls.specs.history.Readers.Works.{works, work, work_of, scope, tx_maker}
use Rattle.dsql_laws_calls.specs.history.Rules.Line.{sends_in, due_in, due_for}
use Rattle.dsql_laws_calls.specs.history.Rules.Sent.{line_of}
use Rattle.dsql_laws_calls.specs.history.Legal.{Lawful}
use Rattle.dsql_laws_calls.proofs.laws.Numbered.{unfinished_from_one}
use Rattle.dsql_laws_calls.proofs.Owners.{at_home}
use Rattle.dsql_laws_calls.proofs.Works.{enters_next, new_record, new_work, old_work, old_unfinished, still_unfinished}
use Rattle.dsql_laws_calls.proofs.Begun.{stays_begun}
use Rattle.dsql_laws_calls.proofs.Inside.{inside_uses}
use Rattle.dsql_laws_calls.proofs.LineParts.{unsent_line, unsent_in}
use Rattle.dsql_laws_calls.proofs.Lines.{line_here}
use Rattle.dsql_laws_calls.proofs.Nowhere.{others_settled, own_settled}
use Rattle.dsql_laws_calls.proofs.RowsKept.{Borrows, tx_borrows}
use Rattle.dsql_laws_calls.proofs.TxEnders.{sent_entered}
use Rattle.dsql_laws_calls.proofs.UnderWay.{newest_sent}
use Rattle.dsql_laws_replies.proofs.Inner.{Unsent, InAwaits, Inner, inner_quiet, awaiting_line}
use Rattle.dsql_laws_replies.proofs.InnerReplies.{inner_other, inner_own}

never : (b : Bool) → b ≡ true → b ≡ false → ⊥
never b x y = cc

-- If its transaction wasn't begun, the call has its reply as it enters.

refused_or : (H : List Event) (tx : List ℕ) → (is_some (tx_refused H tx) ≡ true) ⊎ (is_begun H (tx_maker (works H) tx) ≡ true)
refused_or H tx = by (is_begun H (tx_maker (works H) tx)) refl
  where
    by : (b : Bool) → is_begun H (tx_maker (works H) tx) ≡ b → (is_some (cond (is_there H (tx_maker (works H) tx)) (done_with (tx_end H (tx_maker (works H) tx))) (Some (Absent tx))) ≡ true) ⊎ (is_begun H (tx_maker (works H) tx) ≡ true)
    by true is = inr is
    by false is = inl (ap (λ b. is_some (cond (b && not (is_unfinished H (tx_maker (works H) tx))) (done_with (tx_end H (tx_maker (works H) tx))) (Some (Absent tx)))) is)

first_told : (o p : Option Reply) → is_some o ≡ true → is_some (or_else o p) ≡ true
first_told None p h = absurd cc
first_told (Some r) p h = refl

entering : (H : List Event) (op : Op) (k : ℕ) → scope (work_of (works H) op) ≡ Held k → (is_some (told_at_entry H op) ≡ true) ⊎ (is_begun H k ≡ true)
entering H op k s = by op s
  where
    told : (tx : List ℕ) (o : Option Reply) → Held (tx_maker (works H) tx) ≡ Held k → (is_some (or_else (tx_refused H tx) o) ≡ true) ⊎ (is_begun H k ≡ true)
    told tx o same =
        let number : tx_maker (works H) tx ≡ k = cc in
        elim (refused_or H tx) [
          | inl refused ↦ inl (first_told (tx_refused H tx) o refused)
          | inr begun ↦ inr (subst (λ j. is_begun H j ≡ true) number begun)
        ]

    by : (x : Op) → scope (work_of (works H) x) ≡ Held k → (is_some (told_at_entry H x) ≡ true) ⊎ (is_begun H k ≡ true)
    by (ops.Exec (targets.Label tx) text args) is = told tx _ is
    by (ops.Query label (targets.Label tx) text args) is = told tx _ is
    by (ops.One (targets.Label tx) dests text args) is = told tx _ is
    by x is = absurd cc

inner_entered : (H : List Event) (client m : ℕ) (op : Op) (k : ℕ) → Lawful (Entered client m op ∷ H) → m ≢ 0 → scope (work (Entered client m op ∷ H) m) ≡ Held k → Inner (Entered client m op ∷ H) m k
inner_entered H client m op k l some s = inl (unsent, by (entering H op k (ap scope (sym (new_work H client m op new)) ∙ s)))
  where
    new : m ≡ length (calls H)
    new = enters_next H client m op l.1

    unsent : Unsent (Entered client m op ∷ H) m
    unsent c = at (has_sent m (journal H c)) refl
      where
        at : (b : Bool) → has_sent m (journal H c) ≡ b → b ≡ false
        at true is = let less = sent_entered H c m l.0 some is in absurd (omega (arith, less, new))
        at false is = refl

    by : (is_some (told_at_entry H op) ≡ true) ⊎ (is_begun H k ≡ true) → (is_some (decided (Entered client m op ∷ H) m) ≡ true) ⊎ (is_begun (Entered client m op ∷ H) k ≡ true)
    by (inl told) = inl (ap (λ r. is_some r.decided) (new_record H client m op new) ∙ told)
    by (inr begun) = inr (stays_begun H (Entered client m op) k begun)

inner : (H : List Event) (n k : ℕ) → Lawful H → n ≢ 0 → is_unfinished H n ≡ true → scope (work H n) ≡ Held k → Inner H n k
inner [] n k l some u s = absurd cc
inner (Entered client m op ∷ H) n k l some u s = by (inner H n k l.0 some) (same_or_not n m)
  where
    by : (is_unfinished H n ≡ true → scope (work H n) ≡ Held k → Inner H n k) → (n ≡ m) ⊎ (n ≢ m) → Inner (Entered client m op ∷ H) n k
    by rest (inl same) =
        subst (λ j. Inner (Entered client m op ∷ H) j k) (sym same)
        (inner_entered H client m op k l (λ none. some (same ∙ none)) (ap (λ j. scope (work (Entered client m op ∷ H) j)) (sym same) ∙ s))
    by rest (inr apart) =
        let was : scope (work H n) ≡ Held k = ap scope (sym (old_work H client m op n (enters_next H client m op l.1) apart)) ∙ s in
        inner_quiet H (Entered client m op) n k l refl u was (rest (sym (old_unfinished H client m op n apart) ∙ u) was)
inner (Heard e ∷ H) n k l some u s = by (e.call_no == n) refl (inner H n k l.0 some u s)
  where
    by : (b : Bool) → (e.call_no == n) ≡ b → Inner H n k → Inner (Heard e ∷ H) n k
    by true mine i = inner_own H e n k l (same_number e.call_no n mine) some s i
    by false other i = inner_other H e n k l u s other (λ same. never (e.call_no == n) (ap (λ j. e.call_no == j) same ∙ same_itself e.call_no) other) i
inner (Replied m reply ∷ H) n k l some u s = let b = still_unfinished H m reply n u in inner_quiet H (Replied m reply) n k l refl u s (inner H n k l.0 some b.1 s)
inner (e ∷ H) n k l some u s = inner_quiet H e n k l refl u s (inner H n k l.0 some u s)

-- What is due for the call, and the reply that the end of its transaction gives it.

due_scoped : (H : List Event) (n k : ℕ) (w : Work) → scope w ≡ Held k → due_in H n w ≡ cond (sends_in H n k) (line_of H n wishes.Nothing) None
due_scoped H n k w s = by w s
  where
    at : (j : ℕ) → Held j ≡ Held k → cond (sends_in H n j) (line_of H n wishes.Nothing) None ≡ cond (sends_in H n k) (line_of H n wishes.Nothing) None
    at j same = let number : j ≡ k = cc in ap (λ i. cond (sends_in H n i) (line_of H n wishes.Nothing) None) number

    by : (v : Work) → scope v ≡ Held k → due_in H n v ≡ cond (sends_in H n k) (line_of H n wishes.Nothing) None
    by (Statement (Held j) task) x = at j x
    by v x = absurd cc

told_scoped : (H : List Event) (n k : ℕ) (w : Work) → scope w ≡ Held k → told_of_work H n w ≡ cond (has_begun_to_send H n) None (done_with (tx_end H k))
told_scoped H n k w s = by w s
  where
    at : (j : ℕ) → Held j ≡ Held k → cond (has_begun_to_send H n) None (done_with (tx_end H j)) ≡ cond (has_begun_to_send H n) None (done_with (tx_end H k))
    at j same = let number : j ≡ k = cc in ap (λ i. cond (has_begun_to_send H n) None (done_with (tx_end H i))) number

    by : (v : Work) → scope v ≡ Held k → told_of_work H n v ≡ cond (has_begun_to_send H n) None (done_with (tx_end H k))
    by (Statement (Held j) task) x = at j x
    by v x = absurd cc

done_told : (o : Option TxEnd) → is_some o ≡ true → is_some (done_with o) ≡ true
done_told None h = absurd cc
done_told (Some end) h = refl

pub inside_replies : (H : List Event) (n k : ℕ) → Lawful H → is_unfinished H n ≡ true → scope (work H n) ≡ Held k → is_some (due_for H n) ≡ false → is_some (reply_due H n) ≡ true
inside_replies H n k l u s none = by (decided H n) refl (inner H n k l (unfinished_from_one H n l u) u s)
  where
    told : is_some (decided H n) ≡ true → is_some (reply_due H n) ≡ true
    told d = own_settled (decided H n) (told_by_others H n) (told_at_lending H n) d

    sends : sends_in H n k ≡ true → is_some (line_of H n wishes.Nothing) ≡ true → ⊥
    sends may line =
        never (is_some (due_for H n))
        (ap (λ b. is_some (cond b (due_in H n (work H n)) None)) u ∙ (ap (λ d. is_some d) (due_scoped H n k (work H n) s) ∙ (ap (λ b. is_some (cond b (line_of H n wishes.Nothing) None)) may ∙ line))) none

    going : Unsent H n → is_begun H k ≡ true → decided H n ≡ None → is_over H k ≡ false → ⊥
    going unsent begun undecided goes =
        let on : goes_on H k ≡ true = ap (λ b. b && not (is_over H k)) begun ∙ ap (λ b. not b) goes in
        at on (tx_borrows H k l on)
      where
        at : goes_on H k ≡ true → Borrows H k → ⊥
        at on b =
            let fresh : exchanges (line_among n (heard_in H b.conn b.tenure)) ≡ [] = ap exchanges (unsent_line n (heard_in H b.conn b.tenure) (unsent_in n b.tenure (journal H b.conn) (unsent b.conn))) in
            let line = awaiting_line H b.conn b.tenure b.owner n k l b.lent b.number begun s (inl (inl fresh)) in
            sends (or_right (has_begun_to_send H n) (goes_on H k && is_none (decided H n)) (ap (λ x. x && is_none (decided H n)) on ∙ ap (λ o. is_none o) undecided))
            (ap (λ d. is_some d) (line_here H b.conn b.tenure b.owner n wishes.Nothing l b.lent (inside_uses H n k s ∙ sym b.number)) ∙ line)

    fresh_case : Unsent H n → is_begun H k ≡ true → decided H n ≡ None → (b : Bool) → is_over H k ≡ b → is_some (reply_due H n) ≡ true
    fresh_case unsent begun undecided true over =
        others_settled (decided H n) (told_of_work H n (work H n)) (told_at_lending H n)
        (ap (λ d. is_some d) (told_scoped H n k (work H n) s) ∙ (ap (λ b. is_some (cond b None (done_with (tx_end H k)))) (unsent (site H n)) ∙ done_told (tx_end H k) over))
    fresh_case unsent begun undecided false goes = absurd (going unsent begun undecided goes)

    awaiting : InAwaits H n k → ⊥
    awaiting a =
        let here : site H n ≡ a.conn = ap (home H) (inside_uses H n k s ∙ sym a.number) ∙ at_home H a.conn a.tenure a.owner l a.lent in
        let began : has_begun_to_send H n ≡ true = ap (λ c. has_sent n (journal H c)) here ∙ newest_sent n a.tenure (journal H a.conn) a.newest (unfinished_from_one H n l u) in
        sends (ap (λ b. b || (goes_on H k && is_none (decided H n))) began)
        (ap (λ d. is_some d) (line_here H a.conn a.tenure a.owner n wishes.Nothing l a.lent (inside_uses H n k s ∙ sym a.number)) ∙ awaiting_line H a.conn a.tenure a.owner n k l a.lent a.number a.begun s a.awaited)

    by : (o : Option Reply) → decided H n ≡ o → Inner H n k → is_some (reply_due H n) ≡ true
    by (Some reply) is i = told (ap (λ o. is_some o) is)
    by None is (inl (unsent, inl d)) = told d
    by None is (inl (unsent, inr begun)) = fresh_case unsent begun is (is_over H k) refl
    by None is (inr (inl a)) = absurd (awaiting a)
    by None is (inr (inr o)) = told o.told
