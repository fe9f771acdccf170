-- Closings that are made one after another, one more each time.
use Rattle.std.proofs.Common.{◌≡◌, ℕ, zero, suc, ◌+◌, ◌<◌, true, List, [], ◌∷◌, ◌++◌, length, map, take, get_or, refl, sym, ap, ◌∙◌, arith}
use Rattle.std.specs.Prelude.{Option, Some, None}
use Rattle.std.specs.List.{list_all, filter_map, cons_option}
use Rattle.std.specs.Option.{option_to_list}
use Rattle.std.proofs.lemmas.List.{take_more, append-nil}
use Rattle.std.proofs.lemmas.List.Elements.{filter_map-append}
use Rattle.dsql_time.specs.declared.Limits.{Limits}
use Rattle.dsql_pool.specs.declared.conn.Conn.{Conn}
use Rattle.dsql_pool.specs.declared.moves.CloseCause.{CloseCause}
use Rattle.dsql_pool.specs.declared.moves.Move.{Move}
use Rattle.dsql_pool.specs.declared.moves.Move.TheVariants.{CloseStart}
use Rattle.dsql_pool.specs.Places.{conn_of}
use Rattle.dsql_pool.specs.Pooled.{Pooled}
use Rattle.dsql_pool.specs.Moved.{moved, made}
use Rattle.dsql_pool.specs.Decisions.{starts_closing, closing_for, closing_at, cause_at}
use Rattle.dsql_pool.proofs.Rows.{left_of, right_of}
use Rattle.dsql_pool.proofs.Due.{made_append}

-- The pool after the first i moves and the next is the pool after the first i + 1.
pub made_next : (moves : List Move) (i : ℕ) (m d : Move) (p q next : Pooled) → i < length moves → get_or moves i d ≡ m → q ≡ made (take i moves) p → next ≡ moved m q → next ≡ made (take (i + 1) moves) p
made_next moves i m d p q next within e f g =
    let more : take (i + 1) moves ≡ take i moves ++ m ∷ [] = take_more moves i d within ∙ ap (λ (n : Move). take i moves ++ n ∷ []) e in
    g ∙ (ap (moved m) f ∙ sym (ap (λ (ms : List Move). made ms p) more ∙ made_append (take i moves) (m ∷ []) p))

only : (o : Option Move) → cons_option o [] ≡ option_to_list o
only None = refl
only (Some m) = refl

-- One more number adds its closing if it is past its time, and otherwise nothing.
pub closings_more : (h : ℕ → Option Move) (ns : List ℕ) (i : ℕ) (found : Option Move) → i < length ns → found ≡ h (get_or ns i 0) → filter_map h (take (i + 1) ns) ≡ filter_map h (take i ns) ++ option_to_list found
closings_more h ns i found within e =
    ap (filter_map h) (take_more ns i 0 within)
    ∙ (filter_map-append h (take i ns) (get_or ns i 0 ∷ [])
    ∙ (ap (λ (o : Option Move). filter_map h (take i ns) ++ cons_option o []) (sym e)
    ∙ ap (λ (ms : List Move). filter_map h (take i ns) ++ ms) (only found)))

pub closings_same : (h : ℕ → Option Move) (ns : List ℕ) (i : ℕ) (found : Option Move) → i < length ns → found ≡ h (get_or ns i 0) → found ≡ None → filter_map h (take (i + 1) ns) ≡ filter_map h (take i ns)
closings_same h ns i found within e none =
    closings_more h ns i found within e
    ∙ (ap (λ (o : Option Move). filter_map h (take i ns) ++ option_to_list o) none ∙ append-nil (filter_map h (take i ns)))

-- Each move of such a list starts a closing.
pub closings_close : (cause : CloseCause) (ns : List ℕ) → list_all starts_closing (map (λ c. CloseStart c cause) ns) ≡ true
closings_close cause [] = refl
closings_close cause (n ∷ ns) = closings_close cause ns

one_closes : (c : ℕ) (why : Option CloseCause) (rest : List Move) → list_all starts_closing rest ≡ true → list_all starts_closing (cons_option (closing_for c why) rest) ≡ true
one_closes c None rest h = h
one_closes c (Some cause) rest h = h

pub outdated_close : (limits : Limits) (moment : ℕ) (conns : List Conn) (ns : List ℕ) → list_all starts_closing (filter_map (closing_at limits moment conns) ns) ≡ true
outdated_close limits moment conns [] = refl
outdated_close limits moment conns (n ∷ ns) = one_closes n (cause_at limits moment (conn_of n conns)) (filter_map (closing_at limits moment conns) ns) (outdated_close limits moment conns ns)

-- The move at a place of such a list starts a closing.
pub closes_at : (moves : List Move) (i : ℕ) (m d : Move) → i < length moves → get_or moves i d ≡ m → list_all starts_closing moves ≡ true → starts_closing m ≡ true
closes_at [] i m d within e h = absurd (omega arith)
closes_at (n ∷ ns) zero m d within e h = ap starts_closing (sym e) ∙ left_of (starts_closing n) (list_all starts_closing ns) h
closes_at (n ∷ ns) (suc i) m d within e h = closes_at ns i m d (omega arith) e (right_of (starts_closing n) (list_all starts_closing ns) h)
