use Rattle.std.proofs.Common.{refl}
use Rattle.std.specs.Fmt.{digits}
use Rattle.dsql_script_generator.proofs.worked.worked_words.Goals as goal

pub returns : goal.returns
unfolding digits
returns c = record { play = refl; race = refl; summary = refl; lines = refl; none = refl; dashes = refl; twice = refl; no_lines = refl; zero_in_front = refl; too_many = refl; race_summary = refl; help = refl }
