-- The type behind the last of several members.
use Rattle.std.proofs.Common.{◌≡◌, ℕ, zero, suc, ◌+◌, ◌-◌, List, [], ◌∷◌, length, get_or, refl, sym, ap, ◌∙◌, subst, arith}
use Rattle.evo_resolved.specs.declared.resolved_type.RType.{RType}
use Rattle.evo_resolved.specs.declared.expression.RMember.{RMember}
use Rattle.evo_flow.specs.Types.{last_type, member_type}

pub last_is : (t : RType) (ms : List RMember) (i : ℕ) (d : RMember) → length ms ≡ suc i → last_type t ms ≡ member_type (get_or ms i d)
last_is t (m ∷ []) zero d h = refl
last_is t (m ∷ []) (suc i) d h = absurd (omega (arith, h))
last_is t (m ∷ n ∷ ms) zero d h = absurd (omega (arith, h))
last_is t (m ∷ n ∷ ms) (suc i) d h = last_is (member_type m) (n ∷ ms) i d (omega (arith, h))
last_is t [] i d h = absurd (omega (arith, h))
