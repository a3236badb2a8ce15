-- What is found with a bound on superclasses is found with each greater one.
use Rattle.std.proofs.Common.{◌≡◌, ℕ, zero, suc, ◌+◌, ◌-◌, Option, Some, None, subst, arith}
use Rattle.evo_base.specs.declared.key.Key.{Key}
use Rattle.evo_resolved.specs.declared.declaration.RDecl.{RDecl}
use Rattle.evo_meaning.specs.Programs.{MixedProgram, Implementation, module_of, superclass, declared_by_class, implementation_or, implementation_from}
use Rattle.evo_meaning.specs.Laws.{DispatchStays}

above : (p : MixedProgram) (f : Implementation) (d : Option RDecl) (a b : Option Implementation) → (a ≡ Some f → b ≡ Some f) → implementation_or p d a ≡ Some f → implementation_or p d b ≡ Some f
above p f (Some d) a b h e = e
above p f None a b h e = h e

one_more : (n : ℕ) (p : MixedProgram) (class : Option Key) (root : Key) (f : Implementation) → implementation_from n p class root ≡ Some f → implementation_from (suc n) p class root ≡ Some f
unfolding implementation_from
one_more n p None root f e = absurd cc
one_more zero p (Some class) root f e = absurd cc
one_more (suc n) p (Some class) root f e =
    above p f (declared_by_class (module_of p class).decls class root) (implementation_from n p (superclass p class) root) (implementation_from (suc n) p (superclass p class) root) (one_more n p (superclass p class) root f) e

more : (d n : ℕ) (p : MixedProgram) (class : Option Key) (root : Key) (f : Implementation) → implementation_from n p class root ≡ Some f → implementation_from (d + n) p class root ≡ Some f
more zero n p class root f e = subst (λ k. implementation_from k p class root ≡ Some f) (omega arith) e
more (suc d) n p class root f e = subst (λ k. implementation_from k p class root ≡ Some f) (omega arith) (one_more (d + n) p class root f (more d n p class root f e))

pub dispatch_stays : DispatchStays
dispatch_stays p class root f n m le e = subst (λ k. implementation_from k p class root ≡ Some f) (omega arith) (more (m - n) n p class root f e)
