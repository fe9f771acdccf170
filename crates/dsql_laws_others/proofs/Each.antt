-- After a call has entered, each other call that stood somewhere still does, if what others have settled for it
-- stays settled.
use Rattle.std.proofs.Common.{◌≡◌, ◌≢◌, ℕ, ◌==◌, Bool, true, false, ◌&&◌, ◌||◌, cond, List, [], ◌∷◌, Option, Some, None, is_some, refl, ap, ◌∙◌}
use Rattle.std.specs.List.{list_all}
use Rattle.std.proofs.lemmas.List.Folds.{list_all-append}
use Rattle.dsql_laws_calls.proofs.laws.Tests.{together, same_itself}
use Rattle.dsql_laws_others.proofs.Settling.{each_stands}
use Rattle.dsql_laws_calls.specs.history.declared.event.Event.{Event}
use Rattle.dsql_laws_calls.specs.history.declared.event.Event.TheVariants.{Entered}
use Rattle.dsql_laws_calls.specs.history.declared.event.Op.{Op}
use Rattle.dsql_laws_calls.specs.history.declared.reply.Reply.{Reply}
use Rattle.dsql_laws_calls.specs.history.declared.reply.Reply.TheVariants.{Truth}
use Rattle.dsql_laws_calls.specs.history.declared.work.Scope.TheVariants.{Db, Held}
use Rattle.dsql_laws_calls.specs.history.declared.work.Work.{Work}
use Rattle.dsql_laws_calls.specs.history.declared.work.Work.TheVariants.{Statement, Begin, End, Ping, Fetch, Close, Look}
use Rattle.dsql_laws_calls.specs.history.Readers.Calls.{told_by_tries, told_by_scope, told_of_work}
use Rattle.dsql_laws_calls.specs.history.Readers.HandedOut.{are_over}
use Rattle.dsql_laws_calls.specs.history.Readers.Tries.{tries}
use Rattle.dsql_laws_calls.specs.history.Readers.Unfinished.{unfinished, is_unfinished}
use Rattle.dsql_laws_calls.specs.history.Rules.Settled.{calls_stand, calls_stand_but}
use Rattle.dsql_laws_calls.specs.history.Rules.Stands.{stand}
use Rattle.dsql_laws_calls.specs.history.Legal.{Lawful}
use Rattle.dsql_laws_calls.proofs.laws.Numbered.{unfinished_from_one}

-- What others have settled stays settled, whatever the call's work is.
pub told_each : (H K : List Event) (m : ℕ) (it : Work) → ((v : Work) → is_some (told_by_tries H v (tries H m)) ≡ true → is_some (told_by_tries K v (tries K m)) ≡ true)
    → ((v : Work) (k : ℕ) → is_some (told_by_scope H m v (Held k)) ≡ true → is_some (told_by_scope K m v (Held k)) ≡ true) → ((j : ℕ) → are_over H j ≡ true → are_over K j ≡ true) → is_some (told_of_work H m it) ≡ true → is_some (told_of_work K m it) ≡ true
told_each H K m it tried inner over h = by it h
  where
    fetched : (b c : Bool) → (b ≡ true → c ≡ true) → is_some (cond {A = Option Reply} b (Some (Truth false)) None) ≡ true → is_some (cond {A = Option Reply} c (Some (Truth false)) None) ≡ true
    fetched true true so k = refl
    fetched true false so k = let clash : false ≡ true = so refl in absurd cc
    fetched false c so k = absurd cc

    by : (v : Work) → is_some (told_of_work H m v) ≡ true → is_some (told_of_work K m v) ≡ true
    by (Fetch j) k = fetched (are_over H j) (are_over K j) (over j) k
    by (Close j) k = k
    by (End j) k = absurd cc
    by Look k = absurd cc
    by (Statement Db task) k = tried (Statement Db task) k
    by (Begin label level read_only) k = tried (Begin label level read_only) k
    by Ping k = tried Ping k
    by (Statement (Held i) task) k = inner (Statement (Held i) task) i k

-- If each other call keeps standing somewhere, all calls except the new one stand somewhere after the entry.
pub each_entered : (H : List Event) (client n : ℕ) (op : Op) → ((m : ℕ) → is_unfinished H m ≡ true → m ≢ 0 → m ≢ n → is_some (stand H m) ≡ true → is_some (stand (Entered client n op ∷ H) m) ≡ true) → Lawful H → calls_stand H ≡ true
    → calls_stand_but n (Entered client n op ∷ H) ≡ true
each_entered H client n op stays l h =
    list_all-append (λ m. (m == n) || is_some (stand K m)) (unfinished H) (n ∷ [])
    ∙ together (list_all (λ m. (m == n) || is_some (stand K m)) (unfinished H)) (((n == n) || is_some (stand K n)) && true)
    (each_stands 0 n (unfinished H) H K (λ m u apart was. let some = unfinished_from_one H m l u in stays m u some apart (was some)) h)
    (together ((n == n) || is_some (stand K n)) true (ap (λ b. b || is_some (stand K n)) (same_itself n)) refl)
  where
    K : List Event
    K = Entered client n op ∷ H
