-- The step that the walks of `src/lib.rt` share: the struct without bytes is made. Assumes `Logic`.
use Rattle.std.proofs.Common.{List, [], ◌∷◌, refl}
use seplogic.Ra.Ura.{Ura}
use mir.Val.{Val, vstruct, vcons, vnil}
use types.Logic.{Logic}
use types.Kit.{Goal, Step, step, Item, ‵, ◌$◌, move, fjoin, fpack, feq_i}
use denote.RattleType.{RattleType, Valss}
use denote.Laws.{Is}
use denote.Steps.{nothing, owned}
use denote.Struct.Laws.{makes}
use denote.Struct.Struct.{Struct, within}
use Rattle.std.specs.contracts.marker.PhantomData as Mark

abbrev pub none : Val
none = vstruct vnil

abbrev pub marked : Val
marked = vstruct (vcons none vnil)

-- Returns the fields that have bytes. There is only the marker, which has none.
abbrev pub fields : RattleType → RattleType
fields T = Struct (record { name = []; args = []; types = []; fields = Mark.the_row T ∷ [] })

pub past_made : {M : Type 1} {𝓤 : Ura M} {𝓛 : Logic 𝓤} {K : Type 0} {Γ : List (Item 𝓤)} {G : Goal 𝓤 𝓛.H}
    → K → (T : RattleType) → Step K 𝓛 (‵ ((fields T).own_val (record {}, tt) (marked ∷ [])) ∷ Γ) G Γ G
past_made {𝓛 = 𝓛} t T = step (λ s.
    owned t (Mark.the_row T) (Is (Mark.the_row T)) (makes (Mark.the_type T) tt 𝓛) (record {}) (none ∷ []) (tt, (refl, tt)) $
    nothing t $ move t (1 ∷ 0 ∷ []) $ fjoin t $ feq_i t (List Val) (marked ∷ []) (marked ∷ []) refl $ fjoin t $
    fpack t (Valss (Mark.the_row T ∷ [])) (within (record { name = []; args = []; types = []; fields = Mark.the_row T ∷ [] }) (record {}, tt) (marked ∷ [])) (none ∷ [], tt) $ s)
