use Rattle.evo_parse_stmt.proofs.single.+stmt.Given as goal

abbrev pub decreases-stmt : goal.decreases-stmt
decreases-stmt l = l.depth
