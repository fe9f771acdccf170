-- Whose turn it is: the search among the clients who have lines finds the smallest one who may go on.
use Rattle.std.proofs.Common.{◌≡◌, ℕ, ◌≤◌, ◌<◌, ◌==◌, ◌⊎◌, inl, inr, Bool, true, false, not, ◌&&◌, cond, List, [], ◌∷◌, ◌++◌, length, filter, find, Option, Some, None, is_none, refl, sym, ap, subst, ◌∙◌, arith}
use Rattle.std.specs.List.{list_all}
use Rattle.std.proofs.lemmas.Bool.{cases_lt}
use Rattle.dsql_laws_calls.specs.journal.Readers.{has, is_empty}
use Rattle.dsql_laws_calls.specs.history.Legal.{Lawful}
use Rattle.dsql_laws_calls.specs.history.Readers.Pool.{or_none}
use Rattle.dsql_laws_calls.specs.history.Readers.Unfinished.{unfinished}
use Rattle.dsql_laws_calls.specs.history.Readers.Clients.{call_of, client_of, is_free}
use Rattle.dsql_laws_calls.proofs.laws.Truths.{or_first, or_second}
use Rattle.dsql_laws_calls.proofs.laws.Tests.{both, same_itself, same_number, together}
use Rattle.dsql_follows.specs.declared.line.Line.{Line}
use Rattle.dsql_follows.specs.declared.line.Line.TheVariants as lines
use Rattle.dsql_follows.specs.declared.line.Line.TheVariants.{Client, Start}
use Rattle.dsql_follows.specs.Moments.{Moment, is_held, kept, lines_of}
use Rattle.dsql_follows.specs.Turns.{can_move, clients, first_chore, has_run_out, is_turn_of, may_go, next_client, is_it, least, with_client}
use Rattle.dsql_follows.specs.Follows.{is_done}
use Rattle.dsql_laws_lines.specs.Running.{AllMade}
use Rattle.dsql_laws_lines.proofs.KeptLines.{kept_among}
use Rattle.dsql_laws_lines.proofs.Least.{has_filtered, least_is, none_filtered, none_least}
use Rattle.dsql_laws_lines.proofs.Made.{made_one}

-- A client who may go on has a line, so it is one of the clients that are searched.

with_itself : (k : ℕ) (ks : List ℕ) → has k (with_client k ks) ≡ true
with_itself k ks = by (has k ks) refl
  where
    by : (b : Bool) → has k ks ≡ b → has k (cond b ks (k ∷ ks)) ≡ true
    by true is = is
    by false is = or_first (k == k) (has k ks) (same_itself k)

with_others : (j k : ℕ) (ks : List ℕ) → has k ks ≡ true → has k (with_client j ks) ≡ true
with_others j k ks there = by (has j ks)
  where
    by : (b : Bool) → has k (cond b ks (j ∷ ks)) ≡ true
    by true = there
    by false = or_second (j == k) (has k ks) there

its_or_others : (j k : ℕ) (b : Bool) (line : Line) (lines : List Line) → (j == k) ≡ b → (1 ≤ length (lines_of lines k) → has k (clients lines) ≡ true)
    → 1 ≤ length (cond b (lines_of lines k ++ line ∷ []) (lines_of lines k)) → has k (with_client j (clients lines)) ≡ true
its_or_others j k true line lines same rest some = subst (λ i. has k (with_client i (clients lines)) ≡ true) (sym (same_number j k same)) (with_itself k (clients lines))
its_or_others j k false line lines other rest some = with_others j k (clients lines) (rest some)

is_client : (lines : List Line) (k : ℕ) → 1 ≤ length (lines_of lines k) → has k (clients lines) ≡ true
is_client [] k some = absurd (omega (arith, some))
is_client (Client client op ∷ earlier) k some = its_or_others client k (client == k) (Client client op) earlier refl (is_client earlier k) some
is_client (Start client op ∷ earlier) k some = its_or_others client k (client == k) (Start client op) earlier refl (is_client earlier k) some
is_client (_ ∷ earlier) k some = is_client earlier k some

goes_by_line : (m : Moment) (k : ℕ) → AllMade m → Lawful m.past → may_go m k ≡ true → 1 ≤ length (lines_of m.lines k)
goes_by_line m k made lawful goes = by (is_free m.past k) refl goes
  where
    by : (b : Bool) → is_free m.past k ≡ b → cond b (not (is_empty (kept m k))) (can_move m (call_of m.past k) && not (is_held m k)) ≡ true → 1 ≤ length (lines_of m.lines k)
    by true free some = let within = kept_among m k some in omega (arith, within)
    by false busy moves = let one = made_one m.past k lawful busy in let so_many = made k in omega (arith, one, so_many)

goers : Moment → List ℕ
goers m = filter (λ client. may_go m client) (clients m.lines)

is_goer : (m : Moment) (k : ℕ) → AllMade m → Lawful m.past → may_go m k ≡ true → has k (goers m) ≡ true
unfolding goers
is_goer m k made lawful goes =
    has_filtered (may_go m) (clients m.lines) k ∙ together (may_go m k) (has k (clients m.lines)) goes (is_client m.lines k (goes_by_line m k made lawful goes))

no_chore : {X : Type 0} (o : Option X) → is_none o ≡ true → o ≡ None
no_chore None h = refl
no_chore (Some x) h = absurd cc

-- It is the turn of the smallest client who may go on.

pub turn_of : (m : Moment) (k : ℕ) → AllMade m → Lawful m.past → first_chore m ≡ None → may_go m k ≡ true → ((j : ℕ) → j < k → may_go m j ≡ false) → is_turn_of m k ≡ true
unfolding goers
turn_of m k made lawful none goes first =
    together (is_none (first_chore m)) (is_it (next_client m) k) (ap is_none none)
    (ap (λ o. is_it o k) (least_is k (goers m) (is_goer m k made lawful goes) at_most) ∙ same_itself k)
  where
    under : (j : ℕ) → may_go m j ≡ true → (j < k) ⊎ (k ≤ j) → k ≤ j
    under j may (inl smaller) = let clash : true ≡ false = sym may ∙ first j smaller in absurd cc
    under j may (inr so) = so

    at_most : (j : ℕ) → has j (goers m) ≡ true → k ≤ j
    at_most j there = under j (both (may_go m j) (has j (clients m.lines)) (sym (has_filtered (may_go m) (clients m.lines) j) ∙ there)).0 (cases_lt j k)

-- The turn is nobody's exactly if there is no chore and nobody may go on.

pub run_out : (m : Moment) → first_chore m ≡ None → ((k : ℕ) → may_go m k ≡ false) → has_run_out m ≡ true
run_out m none nobody =
    together (is_none (first_chore m)) (is_none (next_client m)) (ap is_none none) (ap (λ ks. is_none (least ks)) (none_filtered (may_go m) (clients m.lines) nobody))

pub run_out_chores : (m : Moment) → has_run_out m ≡ true → first_chore m ≡ None
run_out_chores m out = no_chore (first_chore m) (both (is_none (first_chore m)) (is_none (next_client m)) out).0

pub run_out_nobody : (m : Moment) (k : ℕ) → AllMade m → Lawful m.past → has_run_out m ≡ true → may_go m k ≡ false
unfolding goers
run_out_nobody m k made lawful out = by (may_go m k) refl
  where
    by : (b : Bool) → may_go m k ≡ b → b ≡ false
    by true goes =
        let none = none_least (goers m) k (both (is_none (first_chore m)) (is_none (next_client m)) out).1 in
        sym (is_goer m k made lawful goes) ∙ none
    by false stays = refl

-- All is done if every line was entered and each call has its reply.

all_of : (f : ℕ → Bool) (ks : List ℕ) → ((k : ℕ) → f k ≡ true) → list_all f ks ≡ true
all_of f [] each = refl
all_of f (k ∷ ks) each = together (f k) (list_all f ks) (each k) (all_of f ks each)

pub all_done : (m : Moment) → ((k : ℕ) → is_free m.past k ≡ true) → ((k : ℕ) → is_empty (kept m k) ≡ true) → is_done m ≡ true
all_done m free none = all_of (λ k. is_free m.past k && is_empty (kept m k)) (clients m.lines) (λ k. together (is_free m.past k) (is_empty (kept m k)) (free k) (none k))

-- All is done if nobody may go on and no call is unfinished.
pub all_done_then : (m : Moment) → AllMade m → Lawful m.past → has_run_out m ≡ true → unfinished m.past ≡ [] → is_done m ≡ true
all_done_then m made lawful out none = all_done m free (λ k. empty (kept m k) (sym (ap (λ b. cond b (not (is_empty (kept m k))) (can_move m (call_of m.past k) && not (is_held m k))) (free k)) ∙ run_out_nobody m k made lawful out))
  where
    free : (k : ℕ) → is_free m.past k ≡ true
    free k = ap (λ ns. or_none (find (λ n. client_of m.past n == k) ns) == 0) none

    empty : (lines : List Line) → not (is_empty lines) ≡ false → is_empty lines ≡ true
    empty [] h = refl
    empty (line ∷ lines) h = absurd cc
