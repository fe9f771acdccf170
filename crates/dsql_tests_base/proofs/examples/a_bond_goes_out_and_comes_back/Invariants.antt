-- The name stands for the cell that was made.
use Rattle.dsql_tests_base.proofs.examples.a_bond_goes_out_and_comes_back.Given as goal

abbrev pub ghosts-ties_and_unties : goal.ghosts-ties_and_unties
ghosts-ties_and_unties a = record { cell = a.unnamed }
