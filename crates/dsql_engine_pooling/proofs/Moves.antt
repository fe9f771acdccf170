-- Moves of the pool that are appended one after another.
use Rattle.std.proofs.Common.{◌≡◌, ℕ, ◌+◌, ◌<◌, List, [], ◌∷◌, ◌++◌, length, take, get_or, refl, sym, ap, ◌∙◌}
use Rattle.std.proofs.lemmas.List.{take_more}
use Rattle.dsql_laws.specs.pool.declared.moves.Move.{Move}
use Rattle.dsql_laws.specs.history.declared.event.Event.{Event}
use Rattle.dsql_laws.specs.history.declared.event.Event.TheVariants.{Pool}
use Rattle.dsql_laws.specs.OwedMade.{with_moves}

with_moves-append : (ms ns : List Move) (H : List Event) → with_moves (ms ++ ns) H ≡ with_moves ns (with_moves ms H)
with_moves-append [] ns H = refl
with_moves-append (m ∷ ms) ns H = with_moves-append ms ns (Pool m ∷ H)

-- One more move adds one event.
one_more : (ms : List Move) (i : ℕ) (m d : Move) (H : List Event) → i < length ms → get_or ms i d ≡ m → with_moves (take (i + 1) ms) H ≡ Pool m ∷ with_moves (take i ms) H
one_more ms i m d H within is =
    let more : take (i + 1) ms ≡ take i ms ++ m ∷ [] = take_more ms i d within ∙ ap (λ (n : Move). take i ms ++ n ∷ []) is in
    ap (λ ns. with_moves ns H) more ∙ with_moves-append (take i ms) (m ∷ []) H

-- After one more move is appended, the log holds the moves so far.
pub next_noted : (ms : List Move) (i : ℕ) (d : Move) (K N H : List Event) → i < length ms → K ≡ with_moves (take i ms) H → N ≡ Pool (get_or ms i d) ∷ K → N ≡ with_moves (take (i + 1) ms) H
next_noted ms i d K N H within so_far next = next ∙ ap (λ (L : List Event). Pool (get_or ms i d) ∷ L) so_far ∙ sym (one_more ms i (get_or ms i d) d H within refl)
