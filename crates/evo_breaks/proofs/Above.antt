-- Where the way upwards ends.
use Rattle.std.proofs.Common.{◌≡◌, ℕ, zero, suc, Bool, false, ◌||◌, Option, Some, None, refl, ap, ◌∙◌}
use Rattle.evo_base.specs.declared.key.Key.{Key}
use Rattle.evo_resolved.specs.declared.module.RModule.{RModule}
use Rattle.evo_meaning.specs.Keys.{same_key}
use Rattle.evo_breaks.specs.Conditions.{is_above, superclass_in}

above_none : (n : ℕ) (m : RModule) (above : Key) → is_above n m None above ≡ false
unfolding is_above
above_none zero m above = refl
above_none (suc n) m above = refl

-- of a class without a superclass, which is not the one that is sought
pub ended : (n : ℕ) (m : RModule) (below above : Key) → same_key below above ≡ false → superclass_in m below ≡ None → is_above n m (Some below) above ≡ false
unfolding is_above
ended zero m below above e f = refl
ended (suc n) m below above e f = ap (λ b. b || is_above n m (superclass_in m below) above) e ∙ (ap (λ o. is_above n m o above) f ∙ above_none n m above)
