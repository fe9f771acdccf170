-- The record of a call in a transaction is what was heard in its line, by induction over the history.
use Rattle.std.proofs.Common.{◌≡◌, ◌≢◌, ℕ, ◌==◌, ◌⊎◌, inl, inr, Bool, true, false, cond, List, [], ◌∷◌, Some, refl, sym, ap, subst, ◌∙◌, arith}
use Rattle.std.proofs.lemmas.Bool.{or_parts}
use Rattle.dsql_laws_calls.specs.journal.declared.entry.Entry.{Entry}
use Rattle.dsql_laws_calls.specs.journal.declared.entry.Owner.{Owner}
use Rattle.dsql_laws_calls.specs.journal.declared.entry.Owner.TheVariants as owners
use Rattle.dsql_laws_calls.specs.journal.Kinds.{is_house, number_of}
use Rattle.dsql_laws_calls.specs.journal.Readers.{of_tenure}
use Rattle.dsql_laws_calls.specs.pool.declared.conn.Place.TheVariants.{Lent}
use Rattle.dsql_laws_calls.specs.pool.declared.moves.Move.TheVariants.{Lend}
use Rattle.dsql_laws_calls.proofs.laws.Tests.{both, other_number, same_itself}
use Rattle.dsql_laws_calls.proofs.laws_work.Rows.{same_or_not}
use Rattle.dsql_laws_calls.specs.history.declared.event.Event.{Event}
use Rattle.dsql_laws_calls.specs.history.declared.event.Event.TheVariants.{Entered, Heard, Pool}
use Rattle.dsql_laws_calls.specs.history.declared.event.Op.{Op}
use Rattle.dsql_laws_calls.specs.history.declared.work.Scope.TheVariants.{Held}
use Rattle.dsql_laws_calls.specs.history.Readers.Journals.{heard_in, journal}
use Rattle.dsql_laws_calls.specs.history.Readers.Lines.{has_sent, line_among}
use Rattle.dsql_laws_calls.specs.history.Readers.Pool.{home, place}
use Rattle.dsql_laws_calls.specs.history.Readers.Works.{is_in, scope, work}
use Rattle.dsql_laws_calls.specs.history.Rules.Moves.{is_house_entry}
use Rattle.dsql_laws_calls.specs.history.Legal.{Allowed, Lawful}
use Rattle.dsql_laws_callers.proofs.Heard.{HeardLent, heard_lent}
use Rattle.dsql_laws_calls.proofs.Beginnings.{lent_once_begun}
use Rattle.dsql_laws_calls.proofs.BeginningsAt.{beginnings, heard_more, heard_other}
use Rattle.dsql_laws_calls.proofs.Inside.{Inside, inside, number_not}
use Rattle.dsql_laws_calls.proofs.Lent.{Lends, lent_before}
use Rattle.dsql_laws_calls.proofs.LineParts.{unsent_in, unsent_line}
use Rattle.dsql_laws_calls.proofs.Owners.{at_home, lent_number}
use Rattle.dsql_laws_calls.proofs.TxEnders.{sent_entered}
use Rattle.dsql_laws_calls.proofs.Works.{enters_next, old_work}
use Rattle.dsql_engine_exchanged.specs.Heard.{heard_if, heard_line, nothing_heard}
use Rattle.dsql_engine_exchanged.proofs.Open.{line_heard}
use Rattle.dsql_engine_lines.specs.Inside.{line_at, lines}
use Rattle.dsql_engine_lines.proofs.Listening.{hears, hears_none, line_pushed, not_heard_none}
use Rattle.dsql_engine_lines.proofs.NothingAgain.{none_again}
use Rattle.dsql_engine_lines.proofs.OfConnections.{heard_owner}

-- A call that has sent nothing has heard nothing.

Unsent : List Event → ℕ → Type 0
Unsent H n = (c : ℕ) → has_sent n (journal H c) ≡ false

unsent_before : (H : List Event) (e : Entry) (n : ℕ) → Unsent (Heard e ∷ H) n → ((e.call_no == n) ≡ false) × Unsent H n
unfolding Unsent
unsent_before H e n none = (its.0, λ c. by c (same_or_not e.conn c))
  where
    its : ((e.call_no == n) ≡ false) × (has_sent n (journal H e.conn) ≡ false)
    its =
        or_parts (e.call_no == n) (has_sent n (journal H e.conn))
        (sym (ap (λ b. has_sent n (cond b (e ∷ journal H e.conn) (journal H e.conn))) (same_itself e.conn)) ∙ none e.conn)

    by : (c : ℕ) → (e.conn ≡ c) ⊎ (e.conn ≢ c) → has_sent n (journal H c) ≡ false
    by c (inl here) = subst (λ d. has_sent n (journal H d) ≡ false) here its.1
    by c (inr apart) = sym (ap (has_sent n) (heard_other H e c apart)) ∙ none c

silent : (H : List Event) (n : ℕ) → Unsent H n → line_at (lines H).calls n ≡ nothing_heard
unfolding Unsent
silent [] n none = line_pushed [] n
silent (Heard e ∷ H) n none = by (unsent_before H e n none) (silent H n) (is_in (number_of e.owner) (scope (work H n))) refl
  where
    by : ((e.call_no == n) ≡ false) × Unsent H n → (Unsent H n → line_at (lines H).calls n ≡ nothing_heard) → (b : Bool) → is_in (number_of e.owner) (scope (work H n)) ≡ b → line_at (lines (Heard e ∷ H)).calls n ≡ nothing_heard
    by before earlier true is = hears H e n is ∙ (ap (heard_if n e) (earlier before.1) ∙ not_heard_none n e before.0)
    by before earlier false is = hears_none H e n is ∙ earlier before.1
silent (Entered client m op ∷ H) n none = line_pushed (lines H).calls n ∙ silent H n none
silent (_ ∷ H) n none = silent H n none

-- A call that has sent nothing has an empty line.
no_line : (H : List Event) (c t n : ℕ) → Unsent H n → line_among n (heard_in H c t) ≡ []
unfolding Unsent
no_line H c t n none = unsent_line n (heard_in H c t) (unsent_in n t (journal H c) (none c))

-- As a connection is lent to a transaction, no call in that transaction has sent anything.
unsent_at_lending : (H : List Event) (c t k : ℕ) (n m : ℕ) → Lawful H → Allowed H (Pool (Lend c t (owners.Tx k) m)) → scope (work H n) ≡ Held k → Unsent H n
unfolding Unsent
unsent_at_lending H c t k n m l a in_it = λ d. by d (has_sent n (journal H d)) refl
  where
    by : (d : ℕ) (b : Bool) → has_sent n (journal H d) ≡ b → b ≡ false
    by d true sent = absurd (lent_once_begun H c t (owners.Tx k) m l a (beginnings H l) (Inside.sent (inside H l) n k d sent in_it))
    by d false none = refl

-- A call that enters has sent nothing.
unsent_at_entry : (H : List Event) (client m : ℕ) (op : Op) → Lawful H → Allowed H (Entered client m op) → (m == 0) ≡ false → Unsent H m
unfolding Unsent
unsent_at_entry H client m op l a some = λ d. by d (has_sent m (journal H d)) refl
  where
    numbered : m ≢ 0
    numbered none = let wrong : false ≡ true = sym some ∙ ap (λ j. j == 0) none in cc

    by : (d : ℕ) (b : Bool) → has_sent m (journal H d) ≡ b → b ≡ false
    by d true sent = let known = sent_entered H d m l numbered sent in let new = enters_next H client m op a in absurd (omega (arith, known, new))
    by d false none = refl

-- An answer on another connection belongs to another transaction.

of_another : (H : List Event) (e : Entry) (c t k : ℕ) → Lawful H → Allowed H (Heard e) → place H c ≡ Some (Lent t (owners.Tx k)) → e.conn ≢ c → k ≢ number_of e.owner
of_another H e c t k l a is apart = λ same. by same (is_house_entry e) refl
  where
    of_house : (o : Owner) → is_house o ≡ true → number_of o ≡ 0
    of_house owners.House h = refl
    of_house o h = absurd cc

    by : k ≡ number_of e.owner → (b : Bool) → is_house_entry e ≡ b → ⊥
    by same true house =
        let x = both (is_house e.owner) (e.call_no == 0) house in
        lent_number H c t (owners.Tx k) l is (same ∙ of_house e.owner x.0)
    by same false own =
        let its = HeardLent.lent (heard_lent H e a own) in
        apart (sym (at_home H e.conn e.tenure e.owner l its) ∙ (ap (home H) (sym same) ∙ at_home H c t (owners.Tx k) l is))

-- The record of a call is its line, as long as the connection of its transaction is lent.

IsLine : List Event → ℕ → ℕ → ℕ → Type 0
IsLine H c t n = line_at (lines H).calls n ≡ heard_line (line_among n (heard_in H c t))

line_in_time : (H : List Event) (e : Entry) (c t k n : ℕ) → Lawful H → Allowed H (Heard e) → place H c ≡ Some (Lent t (owners.Tx k)) → scope (work H n) ≡ Held k → IsLine H c t n → IsLine (Heard e ∷ H) c t n
unfolding IsLine
line_in_time H e c t k n l a is in_it so_far = by (same_or_not e.conn c)
  where
    by : (e.conn ≡ c) ⊎ (e.conn ≢ c) → line_at (lines (Heard e ∷ H)).calls n ≡ heard_line (line_among n (heard_in (Heard e ∷ H) c t))
    by (inl here) =
        let owner : e.owner ≡ owners.Tx k = heard_owner H e t (owners.Tx k) a (ap (place H) here ∙ is) in
        let listens : is_in (number_of e.owner) (scope (work H n)) ≡ true = ap (is_in (number_of e.owner)) in_it ∙ (ap (λ o. k == number_of o) owner ∙ same_itself k) in
        line_heard n e (heard_in H c t) (line_at (lines H).calls n) (line_at (lines (Heard e ∷ H)).calls n) (hears H e n listens) (none_again H c t k n l is) so_far
        ∙ sym (ap (λ L. heard_line (line_among n L)) (heard_more H e c t (owners.Tx k) a is here))
    by (inr apart) =
        let other : is_in (number_of e.owner) (scope (work H n)) ≡ false = ap (is_in (number_of e.owner)) in_it ∙ other_number k (number_of e.owner) (of_another H e c t k l a is apart) in
        hears_none H e n other ∙ so_far ∙ sym (ap (λ J. heard_line (line_among n (of_tenure t J))) (heard_other H e c apart))

line_at_entry : (H : List Event) (client m : ℕ) (op : Op) (c t k n : ℕ) → Lawful H → Allowed H (Entered client m op) → scope (work (Entered client m op ∷ H) n) ≡ Held k → (scope (work H n) ≡ Held k → IsLine H c t n) → IsLine (Entered client m op ∷ H) c t n
unfolding IsLine
line_at_entry H client m op c t k n l a in_it earlier = by (same_or_not n m)
  where
    by : (n ≡ m) ⊎ (n ≢ m) → line_at (lines (Entered client m op ∷ H)).calls n ≡ heard_line (line_among n (heard_in H c t))
    by (inl same) =
        let some : (m == 0) ≡ false = ap (λ j. j == 0) (sym same) ∙ number_not (Entered client m op ∷ H) n k in_it in
        let none = subst (λ j. Unsent H j) (sym same) (unsent_at_entry H client m op l a some) in
        line_pushed (lines H).calls n ∙ (silent H n none ∙ sym (ap heard_line (no_line H c t n none)))
    by (inr apart) =
        let old = old_work H client m op n (enters_next H client m op a) apart in
        line_pushed (lines H).calls n ∙ earlier (sym (ap scope old) ∙ in_it)

line_there : (H : List Event) (e : Event) (c t k n : ℕ) → Lawful H → Allowed H e → place H c ≡ Some (Lent t (owners.Tx k)) → scope (work (e ∷ H) n) ≡ Held k → (scope (work H n) ≡ Held k → IsLine H c t n) → IsLine (e ∷ H) c t n
unfolding IsLine
line_there H (Heard e) c t k n l a is in_it earlier = line_in_time H e c t k n l a is in_it (earlier in_it)
line_there H (Entered client m op) c t k n l a is in_it earlier = line_at_entry H client m op c t k n l a in_it earlier
line_there H _ c t k n l a is in_it earlier = earlier in_it

pub kept_line : (H : List Event) (c t n k : ℕ) → Lawful H → scope (work H n) ≡ Held k → place H c ≡ Some (Lent t (owners.Tx k))
    → line_at (lines H).calls n ≡ heard_line (line_among n (heard_in H c t))
unfolding IsLine
kept_line [] c t n k l in_it is = absurd cc
kept_line (e ∷ H) c t n k l in_it is = by (lent_before H e c t (owners.Tx k) l.0 is) (kept_line H c t n k l.0)
  where
    by : (place H c ≡ Some (Lent t (owners.Tx k))) ⊎ Lends e c t (owners.Tx k) → (scope (work H n) ≡ Held k → place H c ≡ Some (Lent t (owners.Tx k)) → IsLine H c t n) → IsLine (e ∷ H) c t n
    by (inl before) earlier = line_there H e c t k n l.0 l.1 before in_it (λ was. earlier was before)
    by (inr lends_it) earlier =
        let a : Allowed H (Pool (Lend c t (owners.Tx k) lends_it.0)) = subst (λ x. Allowed H x) lends_it.1 l.1 in
        let was : scope (work H n) ≡ Held k = subst (λ x. scope (work (x ∷ H) n) ≡ Held k) lends_it.1 in_it in
        let none = unsent_at_lending H c t k n lends_it.0 l.0 a was in
        subst (λ x. IsLine (x ∷ H) c t n) (sym lends_it.1) (silent H n none ∙ sym (ap heard_line (no_line H c t n none)))
