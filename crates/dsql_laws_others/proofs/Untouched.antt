-- A reply, a wait and a limit touch no other call and no connection. They change neither a line nor the pool's
-- connections.
use Rattle.std.proofs.Common.{◌≡◌, ◌≢◌, ℕ, ◌==◌, ◌⊎◌, Bool, true, false, ◌||◌, List, [], ◌∷◌, refl, sym, ap, ◌∙◌, not, ◌&&◌, cond, ◌++◌, Option, Some, None, is_some, is_none, subst, inl, inr}
use Rattle.std.proofs.lemmas.Bool.{or_right}
use Rattle.std.specs.List.{list_all}
use Rattle.dsql_laws_calls.proofs.laws.Tests.{both, together, same_itself, same_number, other_number}
use Rattle.std.specs.Prelude.{find, option_map}
use Rattle.dsql_laws_calls.specs.course.declared.course.Wish.{Wish}
use Rattle.dsql_laws_calls.specs.course.Made.{or_else}
use Rattle.dsql_laws_calls.specs.driver.declared.call.DriverCall.{DriverCall}
use Rattle.dsql_laws_calls.specs.journal.Kinds.{number_of}
use Rattle.dsql_laws_calls.specs.journal.Readers.{has}
use Rattle.dsql_laws_calls.specs.wait.declared.request.Request.{Request}
use Rattle.dsql_laws_calls.specs.wait.Requests.{waits}
use Rattle.dsql_laws_calls.specs.pool.declared.conn.Conn.{Conn}
use Rattle.dsql_laws_calls.specs.pool.declared.conn.Place.{Place}
use Rattle.dsql_laws_calls.specs.pool.declared.conn.Place.TheVariants.{Lent}
use Rattle.dsql_laws_calls.specs.pool.Places.{is_for}
use Rattle.dsql_laws_calls.specs.pool.Pooled.{without}
use Rattle.dsql_laws_calls.specs.history.declared.event.Control.{Control}
use Rattle.dsql_laws_calls.specs.history.declared.event.Control.TheVariants.{Tick, Set}
use Rattle.dsql_laws_calls.specs.history.declared.event.Setting.TheVariants.{MaxOpen, MaxIdle, MaxLife, MaxIdleTime}
use Rattle.dsql_laws_calls.specs.history.declared.record.Stand.{Stand}
use Rattle.dsql_laws_calls.specs.history.declared.record.Stand.TheVariants as stands_at
use Rattle.dsql_laws_calls.specs.history.Readers.Pool.{smallest, is_home, pool, place, request}
use Rattle.dsql_laws_calls.specs.history.Readers.Tries.{asks_again, tries}
use Rattle.dsql_laws_calls.specs.history.Rules.Stands.{stands, opens, is_own_step, is_settled_for, has_to_reply, stand}
use Rattle.dsql_laws_calls.proofs.Lists.{has-without}
use Rattle.dsql_laws_calls.specs.history.declared.event.Event.{Event}
use Rattle.dsql_laws_calls.specs.history.declared.event.Event.TheVariants.{Waits, Replied}
use Rattle.dsql_laws_calls.specs.history.declared.reply.Reply.{Reply}
use Rattle.dsql_laws_calls.specs.history.Readers.Calls.{site, has_begun_to_send, decided, told_by_others, asks_nothing, rests, rests_with}
use Rattle.dsql_laws_calls.specs.history.Readers.Controls.{told}
use Rattle.dsql_laws_calls.specs.history.Readers.Course.{caps}
use Rattle.dsql_laws_calls.specs.history.Readers.Unfinished.{unfinished, is_unfinished}
use Rattle.dsql_laws_calls.specs.history.Readers.Works.{work}
use Rattle.dsql_laws_calls.specs.history.Rules.Ending.{ending}
use Rattle.dsql_laws_calls.specs.history.Rules.Line.{due_for, is_used}
use Rattle.dsql_laws_calls.specs.history.Rules.Replies.{gave_back}
use Rattle.dsql_laws_calls.specs.history.Rules.Sent.{line_of}
use Rattle.dsql_laws_calls.specs.history.Rules.Settled.{is_in_use, is_kept, uses_what_is_lent, calls_stand_but, calls_stand}
use Rattle.dsql_laws_calls.proofs.Works.{other_replied}
use Rattle.dsql_laws_calls.proofs.Enders.{same_ender}
use Rattle.dsql_laws_calls.proofs.laws_work.Rows.{same_or_not}
use Rattle.dsql_laws_others.proofs.Alike.{Alike, due_alike, used_alike, lent_alike, line_asked, ends_alike, closings_alike, same_tx_ender, replied_lines}
use Rattle.dsql_laws_others.proofs.Settling.{apart_of, each_stands}

-- Lent connections are in use as before.

-- What is due.

other_unfinished : (H : List Event) (n : ℕ) (reply : Reply) (m : ℕ) → m ≢ n → is_unfinished (Replied n reply ∷ H) m ≡ is_unfinished H m
other_unfinished H n reply m apart = has-without m n (unfinished H) ∙ ap (λ b. not b && has m (unfinished H)) (other_number m n apart)

replied_ends : (H : List Event) (n : ℕ) (reply : Reply) (k : ℕ) → ending (Replied n reply ∷ H) k ≡ ending H k
replied_ends H n reply k =
    let K = Replied n reply ∷ H in ends_alike H K k refl refl refl (record { first = closings_alike H K k refl (λ j. refl) (replied_lines H n reply); can = refl; heard = refl })

replied_alike : (H : List Event) (n : ℕ) (reply : Reply) (m : ℕ) → m ≢ n → Alike H (Replied n reply ∷ H) m
replied_alike H n reply m apart = record {
  unfinished = other_unfinished H n reply m apart;
  its_work = refl;
  live = λ k. refl;
  enders = λ k. same_ender H (Replied n reply) k refl;
  late = λ k its. refl;
  going = λ k. refl;
  tx_enders = λ k. same_tx_ender H (Replied n reply) k refl;
  endings = replied_ends H n reply;
  lines = λ j w its. replied_lines H n reply j w;
  sent = inl refl;
  decided = ap (λ r. r.decided) (other_replied H n reply m apart);
}

pub due_replied : (H : List Event) (n : ℕ) (reply : Reply) (m : ℕ) → m ≢ n → due_for (Replied n reply ∷ H) m ≡ due_for H m
due_replied H n reply m apart = due_alike H (Replied n reply ∷ H) m (replied_alike H n reply m apart)

waits_lines : (H : List Event) (k : ℕ) (n : ℕ) (w : Wish) → line_of (Waits k ∷ H) n w ≡ line_of H n w
waits_lines H k n w = line_asked H (Waits k ∷ H) n w (site H n) (place H (site H n)) (record { asked = refl; resets = refl; can = refl; its_work = refl; uses = refl; heard = refl })

waits_ends : (H : List Event) (n k : ℕ) → ending (Waits n ∷ H) k ≡ ending H k
waits_ends H n k = let K = Waits n ∷ H in ends_alike H K k refl refl refl (record { first = closings_alike H K k refl (λ j. refl) (waits_lines H n); can = refl; heard = refl })

pub due_waits : (H : List Event) (k m : ℕ) → due_for (Waits k ∷ H) m ≡ due_for H m
due_waits H k m =
    due_alike H (Waits k ∷ H) m
    (record {
      unfinished = refl;
      its_work = refl;
      live = λ j. refl;
      enders = λ j. same_ender H (Waits k) j refl;
      late = λ j its. refl;
      going = λ j. refl;
      tx_enders = λ j. same_tx_ender H (Waits k) j refl;
      endings = waits_ends H k;
      lines = λ j w its. waits_lines H k j w;
      sent = inl refl;
      decided = refl;
    })

control_lines : (H : List Event) (control : Control) (n : ℕ) (w : Wish) → line_of (told control ∷ H) n w ≡ line_of H n w
control_lines H (Tick k) n w = line_asked H (told (Tick k) ∷ H) n w (site H n) (place H (site H n)) (record { asked = refl; resets = refl; can = refl; its_work = refl; uses = refl; heard = refl })
control_lines H (Set MaxOpen k) n w = line_asked H (told (Set MaxOpen k) ∷ H) n w (site H n) (place H (site H n)) (record { asked = refl; resets = refl; can = refl; its_work = refl; uses = refl; heard = refl })
control_lines H (Set MaxIdle k) n w = line_asked H (told (Set MaxIdle k) ∷ H) n w (site H n) (place H (site H n)) (record { asked = refl; resets = refl; can = refl; its_work = refl; uses = refl; heard = refl })
control_lines H (Set MaxLife k) n w = line_asked H (told (Set MaxLife k) ∷ H) n w (site H n) (place H (site H n)) (record { asked = refl; resets = refl; can = refl; its_work = refl; uses = refl; heard = refl })
control_lines H (Set MaxIdleTime k) n w = line_asked H (told (Set MaxIdleTime k) ∷ H) n w (site H n) (place H (site H n)) (record { asked = refl; resets = refl; can = refl; its_work = refl; uses = refl; heard = refl })

control_ends : (H : List Event) (control : Control) (k : ℕ) → ending (told control ∷ H) k ≡ ending H k
control_ends H (Tick k) j = let K = told (Tick k) ∷ H in ends_alike H K j refl refl refl (record { first = closings_alike H K j refl (λ i. refl) (control_lines H (Tick k)); can = refl; heard = refl })
control_ends H (Set MaxOpen k) j = let K = told (Set MaxOpen k) ∷ H in ends_alike H K j refl refl refl (record { first = closings_alike H K j refl (λ i. refl) (control_lines H (Set MaxOpen k)); can = refl; heard = refl })
control_ends H (Set MaxIdle k) j = let K = told (Set MaxIdle k) ∷ H in ends_alike H K j refl refl refl (record { first = closings_alike H K j refl (λ i. refl) (control_lines H (Set MaxIdle k)); can = refl; heard = refl })
control_ends H (Set MaxLife k) j = let K = told (Set MaxLife k) ∷ H in ends_alike H K j refl refl refl (record { first = closings_alike H K j refl (λ i. refl) (control_lines H (Set MaxLife k)); can = refl; heard = refl })
control_ends H (Set MaxIdleTime k) j = let K = told (Set MaxIdleTime k) ∷ H in ends_alike H K j refl refl refl (record { first = closings_alike H K j refl (λ i. refl) (control_lines H (Set MaxIdleTime k)); can = refl; heard = refl })

control_sent : (H : List Event) (control : Control) (m : ℕ) → has_begun_to_send (told control ∷ H) m ≡ has_begun_to_send H m
control_sent H (Set MaxOpen k) m = refl
control_sent H _ m = refl

pub due_control : (H : List Event) (control : Control) (m : ℕ) → due_for (told control ∷ H) m ≡ due_for H m
due_control H (Tick k) m =
    due_alike H (told (Tick k) ∷ H) m
    (record {
      unfinished = refl;
      its_work = refl;
      live = λ j. refl;
      enders = λ j. same_ender H (told (Tick k)) j refl;
      late = λ j its. refl;
      going = λ j. refl;
      tx_enders = λ j. same_tx_ender H (told (Tick k)) j refl;
      endings = control_ends H (Tick k);
      lines = λ j w its. control_lines H (Tick k) j w;
      sent = inl (control_sent H (Tick k) m);
      decided = refl;
    })
due_control H (Set s k) m =
    due_alike H (told (Set s k) ∷ H) m
    (record {
      unfinished = refl;
      its_work = refl;
      live = λ j. refl;
      enders = λ j. same_ender H (told (Set s k)) j refl;
      late = λ j its. refl;
      going = λ j. refl;
      tx_enders = λ j. same_tx_ender H (told (Set s k)) j refl;
      endings = control_ends H (Set s k);
      lines = λ j w its. control_lines H (Set s k) j w;
      sent = inl (control_sent H (Set s k) m);
      decided = refl;
    })

-- Lent connections are in use as before.

-- Each other call rests as before.
rests_replied : (H : List Event) (n : ℕ) (reply : Reply) (m : ℕ) → m ≢ n → rests (Replied n reply ∷ H) m ≡ rests H m
rests_replied H n reply m apart = ap (λ b. b && asks_nothing (caps H) (work H m) (tries H m)) (other_unfinished H n reply m apart)

-- A call that has replied doesn't rest.
restless : (H : List Event) (n : ℕ) (reply : Reply) → rests (Replied n reply ∷ H) n ≡ false
restless H n reply =
    ap (λ b. b && asks_nothing (caps H) (work H n) (tries H n)) (has-without n n (unfinished H) ∙ ap (λ b. not b && has n (unfinished H)) (same_itself n))

all_but : (h q r : Conn → Bool) (conns : List Conn) → find h conns ≡ None → ((x : Conn) → h x ≡ false → q x ≡ r x) → list_all q conns ≡ list_all r conns
all_but h q r [] none same = refl
all_but h q r (x ∷ xs) none same = by (λ k. all_but h q r xs k same) (h x) refl none
  where
    by : (find h xs ≡ None → list_all q xs ≡ list_all r xs) → (b : Bool) → h x ≡ b → cond b (Some x) (find h xs) ≡ None → list_all q (x ∷ xs) ≡ list_all r (x ∷ xs)
    by rest true is k = absurd cc
    by rest false is k = ap (λ b. b && list_all q xs) (same x is) ∙ ap (λ b. r x && b) (rest k)

none_found : (o : Option Conn) → is_none (option_map (λ conn. conn.number) o) ≡ true → o ≡ None
none_found None h = refl
none_found (Some x) h = absurd cc

pub used_replied : (H : List Event) (n : ℕ) (reply : Reply) → gave_back H n ≡ true → uses_what_is_lent (Replied n reply ∷ H) ≡ uses_what_is_lent H
used_replied H n reply gave = by (rests H n) refl gave
  where
    K : List Event
    K = Replied n reply ∷ H

    used : (k : ℕ) → is_used K k ≡ is_used H k
    used k = used_alike H K k refl refl (replied_ends H n reply k) (replied_lines H n reply k)

    kept : (k : ℕ) → rests K k ≡ rests H k → is_kept K k ≡ is_kept H k
    kept k same = ap (λ b. b || rests K k) (used k) ∙ ap (λ b. is_used H k || b) same

    others : (k : ℕ) → k ≢ n → is_kept K k ≡ is_kept H k
    others k apart = kept k (rests_replied H n reply k apart)

    beside : (p : Place) → is_home n p ≡ false → is_in_use K p ≡ is_in_use H p
    beside (Lent t owner) away = others (number_of owner) (apart_of (number_of owner) n away)
    beside _ away = refl

    by : (b : Bool) → rests H n ≡ b → is_none (cond b (smallest (is_home n) (pool H)) None) ≡ true → uses_what_is_lent K ≡ uses_what_is_lent H
    by true is gone =
        all_but (λ conn. is_home n conn.place) (λ conn. is_in_use K conn.place) (λ conn. is_in_use H conn.place) (pool H).conns
        (none_found (find (λ conn. is_home n conn.place) (pool H).conns) gone) (λ x. beside x.place)
    by false is gone = lent_alike H K refl each
      where
        each : (k : ℕ) → is_kept K k ≡ is_kept H k
        each k = of (k == n) refl
          where
            of : (c : Bool) → (k == n) ≡ c → is_kept K k ≡ is_kept H k
            of true same = kept k (ap (rests K) (same_number k n same) ∙ (restless H n reply ∙ (sym is ∙ sym (ap (rests H) (same_number k n same)))))
            of false other = others k (apart_of k n other)

pub used_waits : (H : List Event) (n : ℕ) → uses_what_is_lent (Waits n ∷ H) ≡ uses_what_is_lent H
used_waits H n = lent_alike H (Waits n ∷ H) refl (λ k. ap (λ b. b || rests H k) (used_alike H (Waits n ∷ H) k refl refl (waits_ends H n k) (waits_lines H n k)))

pub used_control : (H : List Event) (control : Control) → uses_what_is_lent (told control ∷ H) ≡ uses_what_is_lent H
used_control H (Tick k) = lent_alike H (told (Tick k) ∷ H) refl (λ n. ap (λ b. b || rests H n) (used_alike H (told (Tick k) ∷ H) n refl refl (control_ends H (Tick k) n) (control_lines H (Tick k) n)))
used_control H (Set MaxOpen k) = lent_alike H (told (Set MaxOpen k) ∷ H) refl (λ n. ap (λ b. b || rests H n) (used_alike H (told (Set MaxOpen k) ∷ H) n refl refl (control_ends H (Set MaxOpen k) n) (control_lines H (Set MaxOpen k) n)))
used_control H (Set MaxIdle k) = lent_alike H (told (Set MaxIdle k) ∷ H) refl (λ n. ap (λ b. b || rests H n) (used_alike H (told (Set MaxIdle k) ∷ H) n refl refl (control_ends H (Set MaxIdle k) n) (control_lines H (Set MaxIdle k) n)))
used_control H (Set MaxLife k) = lent_alike H (told (Set MaxLife k) ∷ H) refl (λ n. ap (λ b. b || rests H n) (used_alike H (told (Set MaxLife k) ∷ H) n refl refl (control_ends H (Set MaxLife k) n) (control_lines H (Set MaxLife k) n)))
used_control H (Set MaxIdleTime k) = lent_alike H (told (Set MaxIdleTime k) ∷ H) refl (λ n. ap (λ b. b || rests H n) (used_alike H (told (Set MaxIdleTime k) ∷ H) n refl refl (control_ends H (Set MaxIdleTime k) n) (control_lines H (Set MaxIdleTime k) n)))

-- Where each call stands.

abbrev pub standing : Bool → Option ℕ → Option DriverCall → ℕ → Bool → Bool → Option Stand
standing waiting opening due there replies again =
    or_else (stands waiting stands_at.Waits)
    (or_else (opens opening) (or_else (stands (is_some due) (stands_at.Sends there)) (or_else (stands replies stands_at.Replies) (stands again stands_at.Asks))))

-- A call for which something was due stands somewhere if something is still due or its reply is settled.
pub goes_or_told : (v w : Bool) (o p : Option ℕ) (d e : Option DriverCall) (a b : ℕ) (r s g : Bool) → (v ≡ true → w ≡ true) → (is_some o ≡ true → is_some p ≡ true) → (is_some d ≡ true → (is_some e ≡ true) ⊎ (s ≡ true)) → (r ≡ true → s ≡ true)
    → is_some (standing v o d a r g) ≡ true → is_some (standing w p e b s g) ≡ true
goes_or_told v true o p d e a b r s g wait opening due reply h = refl
goes_or_told true false o p d e a b r s g wait opening due reply h = let clash : false ≡ true = wait refl in absurd cc
goes_or_told false false o (Some c) d e a b r s g wait opening due reply h = refl
goes_or_told false false (Some c) None d e a b r s g wait opening due reply h = let clash : false ≡ true = opening refl in absurd cc
goes_or_told false false None None d (Some q) a b r s g wait opening due reply h = refl
goes_or_told false false None None d None a b r true g wait opening due reply h = refl
goes_or_told false false None None (Some q) None a b r false g wait opening due reply h = neither (due refl)
  where
    neither : {A : Type 0} → (false ≡ true) ⊎ (false ≡ true) → A
    neither (inl x) = absurd cc
    neither (inr x) = absurd cc
goes_or_told false false None None None None a b true false g wait opening due reply h = let clash : false ≡ true = reply refl in absurd cc
goes_or_told false false None None None None a b false false g wait opening due reply h = h

-- A call that has to reply still has to after an event. Its settled reply has to stay settled, and the event may not
-- put it into a step of its own.
pub has_still : (own now was is : Bool) → (own ≡ true → now ≡ true) → (was ≡ true → is ≡ true) → (not now && was) ≡ true → (not own && is) ≡ true
has_still true now was is step more h = let k : now ≡ true = step refl in absurd (wrong now k h)
  where
    wrong : (b : Bool) → b ≡ true → (not b && was) ≡ true → ⊥
    wrong true x y = cc
    wrong false x y = cc
has_still false true was is step more h = absurd cc
has_still false false was is step more h = more h

-- A call still stands somewhere if each reason for that stays.
pub still_stands : (H K : List Event) (m : ℕ) → tries K m ≡ tries H m → (waits m (pool H).waiting ≡ true → waits m (pool K).waiting ≡ true) → (is_some (smallest (is_for m) (pool H)) ≡ true → is_some (smallest (is_for m) (pool K)) ≡ true)
    → (is_some (due_for H m) ≡ true → is_some (due_for K m) ≡ true) → (is_own_step K m ≡ true → is_own_step H m ≡ true) → (is_settled_for H m ≡ true → is_settled_for K m ≡ true) → is_some (stand H m) ≡ true → is_some (stand K m) ≡ true
still_stands H K m tried waiting opening due step settled h =
    ap (λ ts. is_some (standing (waits m (pool K).waiting) (smallest (is_for m) (pool K)) (due_for K m) (site K m) (has_to_reply K m) (asks_again ts))) tried
    ∙ goes_or_told (waits m (pool H).waiting) (waits m (pool K).waiting) (smallest (is_for m) (pool H)) (smallest (is_for m) (pool K)) (due_for H m) (due_for K m) (site H m) (site K m) (has_to_reply H m) (has_to_reply K m) (asks_again (tries H m))
    waiting opening (λ x. inl (due x)) (has_still (is_own_step K m) (is_own_step H m) (is_settled_for H m) (is_settled_for K m) step settled) h

settled_replied : (H : List Event) (n : ℕ) (reply : Reply) (m : ℕ) → m ≢ n → is_settled_for (Replied n reply ∷ H) m ≡ is_settled_for H m
settled_replied H n reply m apart =
    ap (λ b. is_some (cond b (smallest (is_home m) (pool H)) None) || (is_none (decided (Replied n reply ∷ H) m) && is_some (told_by_others H m))) (rests_replied H n reply m apart)
    ∙ ap (λ x. is_some (rests_with H m) || (is_none x && is_some (told_by_others H m))) (ap (λ r. r.decided) (other_replied H n reply m apart))

stand_replied : (H : List Event) (n : ℕ) (reply : Reply) (m : ℕ) → m ≢ n → is_some (stand H m) ≡ true → is_some (stand (Replied n reply ∷ H) m) ≡ true
stand_replied H n reply m apart h =
    still_stands H (Replied n reply ∷ H) m refl (λ x. x) (λ x. x) (λ x. ap (λ d. is_some d) (due_replied H n reply m apart) ∙ x) (λ x. absurd cc) (λ x. settled_replied H n reply m apart ∙ x) h

stand_control : (H : List Event) (control : Control) (m : ℕ) → is_some (stand H m) ≡ true → is_some (stand (told control ∷ H) m) ≡ true
stand_control H (Tick k) m h = still_stands H (told (Tick k) ∷ H) m refl (λ x. x) (λ x. x) (λ x. ap (λ d. is_some d) (due_control H (Tick k) m) ∙ x) (λ x. absurd cc) (λ x. x) h
stand_control H (Set MaxOpen k) m h = still_stands H (told (Set MaxOpen k) ∷ H) m refl (λ x. x) (λ x. x) (λ x. ap (λ d. is_some d) (due_control H (Set MaxOpen k) m) ∙ x) (λ x. absurd cc) (λ x. x) h
stand_control H (Set MaxIdle k) m h = still_stands H (told (Set MaxIdle k) ∷ H) m refl (λ x. x) (λ x. x) (λ x. ap (λ d. is_some d) (due_control H (Set MaxIdle k) m) ∙ x) (λ x. absurd cc) (λ x. x) h
stand_control H (Set MaxLife k) m h = still_stands H (told (Set MaxLife k) ∷ H) m refl (λ x. x) (λ x. x) (λ x. ap (λ d. is_some d) (due_control H (Set MaxLife k) m) ∙ x) (λ x. absurd cc) (λ x. x) h
stand_control H (Set MaxIdleTime k) m h = still_stands H (told (Set MaxIdleTime k) ∷ H) m refl (λ x. x) (λ x. x) (λ x. ap (λ d. is_some d) (due_control H (Set MaxIdleTime k) m) ∙ x) (λ x. absurd cc) (λ x. x) h

waits_more : (m : ℕ) (rs : List Request) (r : Request) → waits m rs ≡ true → waits m (rs ++ r ∷ []) ≡ true
waits_more m [] r h = absurd cc
waits_more m (q ∷ qs) r h = by (waits_more m qs r) (q.call == m) h
  where
    by : (waits m qs ≡ true → waits m (qs ++ r ∷ []) ≡ true) → (b : Bool) → (b || waits m qs) ≡ true → (b || waits m (qs ++ r ∷ [])) ≡ true
    by rest true k = refl
    by rest false k = rest k

waits_last : (m : ℕ) (rs : List Request) (r : Request) → (r.call == m) ≡ true → waits m (rs ++ r ∷ []) ≡ true
waits_last m [] r is = ap (λ b. b || false) is
waits_last m (q ∷ qs) r is = by (waits_last m qs r is) (q.call == m)
  where
    by : waits m (qs ++ r ∷ []) ≡ true → (b : Bool) → (b || waits m (qs ++ r ∷ [])) ≡ true
    by rest true = refl
    by rest false = rest

stand_waits : (H : List Event) (n m : ℕ) → is_some (stand H m) ≡ true → is_some (stand (Waits n ∷ H) m) ≡ true
stand_waits H n m h =
    still_stands H (Waits n ∷ H) m refl (waits_more m (pool H).waiting (request H n)) (λ x. x) (λ x. ap (λ d. is_some d) (due_waits H n m) ∙ x) (λ x. absurd cc) (λ x. x) h

itself_waits : (H : List Event) (n : ℕ) → is_some (stand (Waits n ∷ H) n) ≡ true
itself_waits H n = by (waits n ((pool H).waiting ++ request H n ∷ [])) (waits_last n (pool H).waiting (request H n) (same_itself n))
  where
    K : List Event
    K = Waits n ∷ H

    by : (b : Bool) → b ≡ true → is_some (standing b (smallest (is_for n) (pool H)) (due_for K n) (site H n) (has_to_reply K n) (asks_again (tries H n))) ≡ true
    by true h = refl
    by false h = absurd cc

but_for : (a b : Bool) → (a || b) ≡ true → a ≡ false → b ≡ true
but_for true b h k = absurd cc
but_for false b h k = h

all_without : (q r : ℕ → Bool) (n : ℕ) (ms : List ℕ) → ((m : ℕ) → (m == n) ≡ false → q m ≡ true → r m ≡ true) → list_all q ms ≡ true → list_all r (without n ms) ≡ true
all_without q r n [] so h = refl
all_without q r n (m ∷ ms) so h =
    let a = both (q m) (list_all q ms) h in
    let rest = all_without q r n ms so a.1 in
    elim (m == n) as (λ b. (m == n) ≡ b → list_all r (cond (not b) (m ∷ without n ms) (without n ms)) ≡ true) [
      | true ↦ λ is. rest
      | false ↦ λ is. together (r m) (list_all r (without n ms)) (so m is a.0) rest
    ] refl

pub goes_on_replied : (H : List Event) (n : ℕ) (reply : Reply) → calls_stand_but n H ≡ true → calls_stand (Replied n reply ∷ H) ≡ true
goes_on_replied H n reply h =
    all_without (λ m. (m == n) || is_some (stand H m)) (λ m. (m == 0) || is_some (stand (Replied n reply ∷ H) m)) n (unfinished H)
    (λ m other so. or_right (m == 0) (is_some (stand (Replied n reply ∷ H) m)) (stand_replied H n reply m (apart_of m n other) (but_for (m == n) (is_some (stand H m)) so other))) h

pub goes_on_waits : (H : List Event) (n : ℕ) → calls_stand_but n H ≡ true → calls_stand (Waits n ∷ H) ≡ true
goes_on_waits H n h = each_stands n 0 (unfinished H) H (Waits n ∷ H) (λ m u some was. by m (same_or_not m n) was) h
  where
    by : (m : ℕ) → (m ≡ n) ⊎ (m ≢ n) → (m ≢ n → is_some (stand H m) ≡ true) → is_some (stand (Waits n ∷ H) m) ≡ true
    by m (inl same) was = subst (λ j. is_some (stand (Waits n ∷ H) j) ≡ true) (sym same) (itself_waits H n)
    by m (inr apart) was = stand_waits H n m (was apart)

-- Each call that stood somewhere does so after an event that leaves the unfinished calls.
pub each_still : (n : ℕ) (ms : List ℕ) (H K : List Event) → ((m : ℕ) → is_some (stand H m) ≡ true → is_some (stand K m) ≡ true) → list_all (λ m. (m == n) || is_some (stand H m)) ms ≡ true → list_all (λ m. (m == n) || is_some (stand K m)) ms ≡ true
each_still n ms H K so h = each_stands n n ms H K (λ m there apart was. so m (was apart)) h

pub goes_on_control : (H : List Event) (control : Control) (n : ℕ) → calls_stand_but n H ≡ true → calls_stand_but n (told control ∷ H) ≡ true
goes_on_control H (Tick k) n h = each_still n (unfinished H) H (told (Tick k) ∷ H) (stand_control H (Tick k)) h
goes_on_control H (Set s k) n h = each_still n (unfinished H) H (told (Set s k) ∷ H) (stand_control H (Set s k)) h
