-- A history goes on from itself, with each event more, and from any history that an earlier one goes on to. The
-- argument appends what was added.
use Rattle.std.proofs.Common.{List, [], ◌∷◌, ◌++◌, refl, sym, ◌∙◌, ap, append_assoc}
use Rattle.dsql_history.specs.declared.event.Event.{Event}
use Rattle.dsql_player_wires.specs.Extends.{Extends}

pub extends_same : (past : List Event) → Extends past past
extends_same past = record { added = []; whole = refl }

pub extends_more : (old now : List Event) (e : Event) → Extends old now → Extends old (e ∷ now)
extends_more old now e x = record { added = e ∷ x.added; whole = ap (λ k. e ∷ k) x.whole }

pub extends_then : (old mid new : List Event) → Extends old mid → Extends mid new → Extends old new
extends_then old mid new f g = record {
  added = g.added ++ f.added;
  whole = g.whole ∙ (ap (λ k. g.added ++ k) f.whole ∙ sym (append_assoc g.added f.added old));
}
