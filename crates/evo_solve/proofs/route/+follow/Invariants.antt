use Rattle.evo_solve.proofs.route.+follow.Given as goal

abbrev pub decreases-follow : goal.decreases-follow
decreases-follow l = l.far
