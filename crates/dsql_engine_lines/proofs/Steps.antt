-- How one more move changes the connections, and how one more listener changes the lines.
use Rattle.std.proofs.Common.{◌≡◌, ℕ, ◌+◌, ◌<◌, List, [], ◌∷◌, ◌++◌, length, take, get_or, refl, sym, ap, ◌∙◌}
use Rattle.std.proofs.lemmas.List.{take_more}
use Rattle.dsql_laws_calls.specs.journal.declared.entry.Entry.{Entry}
use Rattle.dsql_laws_calls.specs.pool.declared.moves.Move.{Move}
use Rattle.dsql_engine_exchanged.specs.declared.heard.HeardLine.{HeardLine}
use Rattle.dsql_laws_calls.specs.history.declared.work.Work.{Work}
use Rattle.dsql_engine_lines.specs.declared.there.HeardThere.{HeardThere}
use Rattle.dsql_engine_lines.specs.Inside.{hear_all, hear_in}
use Rattle.dsql_engine_lines.specs.There.{lent_by, lent_by_all}

lent_last : (ms : List Move) (m : Move) (there : List HeardThere) → lent_by_all (ms ++ m ∷ []) there ≡ lent_by m (lent_by_all ms there)
lent_last [] m there = refl
lent_last (k ∷ ms) m there = lent_last ms m (lent_by k there)

pub next_lent : (ms : List Move) (i : ℕ) (d : Move) (x y there : List HeardThere) → i < length ms → x ≡ lent_by_all (take i ms) there → y ≡ lent_by (get_or ms i d) x → y ≡ lent_by_all (take (i + 1) ms) there
next_lent ms i d x y there within so_far next =
    next ∙ ap (lent_by (get_or ms i d)) so_far ∙ sym (lent_last (take i ms) (get_or ms i d) there) ∙ sym (ap (λ (ns : List Move). lent_by_all ns there) (take_more ms i d within))

heard_last : (works : List Work) (e : Entry) (ns : List ℕ) (n : ℕ) (lines : List HeardLine) → hear_all works e (ns ++ n ∷ []) lines ≡ hear_in works e n (hear_all works e ns lines)
heard_last works e [] n lines = refl
heard_last works e (m ∷ ns) n lines = heard_last works e ns n (hear_in works e m lines)

pub next_heard : (works : List Work) (e : Entry) (ns : List ℕ) (i d : ℕ) (x y lines : List HeardLine) → i < length ns → x ≡ hear_all works e (take i ns) lines → y ≡ hear_in works e (get_or ns i d) x → y ≡ hear_all works e (take (i + 1) ns) lines
next_heard works e ns i d x y lines within so_far next =
    next ∙ ap (hear_in works e (get_or ns i d)) so_far ∙ sym (heard_last works e (take i ns) (get_or ns i d) lines) ∙ sym (ap (λ (ms : List ℕ). hear_all works e ms lines) (take_more ns i d within))
