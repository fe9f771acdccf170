use Rattle.std.proofs.Common.{refl}
use Rattle.dsql_timeline_page.proofs.laws.worked_escapes.Goals as goal

pub returns : goal.returns
returns c = record { nothing = refl; plain = refl; marks = refl; entity = refl; controls = refl; beyond_ascii = refl }
