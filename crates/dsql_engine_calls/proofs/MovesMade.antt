-- How one more move changes the tries of calls.
use Rattle.std.proofs.Common.{◌≡◌, ℕ, ◌+◌, ◌<◌, List, [], ◌∷◌, ◌++◌, length, take, get_or, refl, sym, ap, ◌∙◌}
use Rattle.std.proofs.lemmas.List.{take_more}
use Rattle.dsql_history.specs.driver.declared.answer.DriverAnswer.{DriverAnswer}
use Rattle.dsql_history.specs.driver.declared.answer.DriverAnswer.TheVariants.{Bad}
use Rattle.dsql_history.specs.pool.declared.moves.Move.{Move}
use Rattle.dsql_history.specs.pool.declared.moves.Move.TheVariants.{Gone}
use Rattle.dsql_engine_calls.specs.declared.call.CallRow.{CallRow}
use Rattle.dsql_engine_calls.specs.Tries.{tried_by, tried_by_all}

-- Returns what counts as the newest answer before the move that follows these moves: the answer itself if there
-- are none, otherwise Bad.
abbrev pub answer_after : DriverAnswer → List Move → DriverAnswer
answer_after answer [] = answer
answer_after answer (move ∷ moves) = Bad

none_after : (answer : DriverAnswer) (ms : List Move) (m : Move) → Bad ≡ answer_after answer (ms ++ m ∷ [])
none_after answer [] m = refl
none_after answer (k ∷ ms) m = refl

pub next_answer : (answer : DriverAnswer) (ms : List Move) (i : ℕ) → i < length ms → Bad ≡ answer_after answer (take (i + 1) ms)
next_answer answer ms i within = none_after answer (take i ms) (get_or ms i (Gone 0)) ∙ sym (ap (answer_after answer) (take_more ms i (Gone 0) within))

tried_last : (answer : DriverAnswer) (ms : List Move) (m : Move) (calls : List CallRow) → tried_by_all answer (ms ++ m ∷ []) calls ≡ tried_by (answer_after answer ms) m (tried_by_all answer ms calls)
tried_last answer [] m calls = refl
tried_last answer (k ∷ []) m calls = refl
tried_last answer (k ∷ l ∷ ms) m calls = tried_last Bad (l ∷ ms) m (tried_by answer k calls)

pub next_tried : (answer newest : DriverAnswer) (ms : List Move) (i : ℕ) (d : Move) (x y calls : List CallRow) → i < length ms → newest ≡ answer_after answer (take i ms) → x ≡ tried_by_all answer (take i ms) calls
    → y ≡ tried_by newest (get_or ms i d) x → y ≡ tried_by_all answer (take (i + 1) ms) calls
next_tried answer newest ms i d x y calls within after so_far next =
    next
    ∙ ap (λ (a : DriverAnswer). tried_by a (get_or ms i d) x) after
    ∙ ap (tried_by (answer_after answer (take i ms)) (get_or ms i d)) so_far
    ∙ sym (tried_last answer (take i ms) (get_or ms i d) calls)
    ∙ sym (ap (λ (ns : List Move). tried_by_all answer ns calls) (take_more ms i d within))
