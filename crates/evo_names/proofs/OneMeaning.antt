-- A written type means at most one type.
use Rattle.std.proofs.Common.{◌≡◌, List, Option, Some, refl, sym, ap, ap₂, subst, ◌∙◌}
use Rattle.evo_base.specs.declared.key.Key.{Key}
use Rattle.evo_resolved.specs.declared.resolved_type.RType.{RType}
use Rattle.evo_names.specs.Listed.{Text, World, list_of}
use Rattle.evo_names.specs.Seen.{Viewpoint}
use Rattle.evo_names.specs.Written.{Start, fixed, view, Leads, whole, further, elsewhere, joined}

pair : {o : Option (Start × List Text)} {p q : Start × List Text} → o ≡ Some p → o ≡ Some q → p ≡ q
pair e f = cc

module _ (w : World) where
  pub one_meaning : {v : Viewpoint} {s : Start} {ns : List Text} {m n : List Key} {t u : RType} → Leads w v s ns m t → Leads w v s ns n u → (m ≡ n) × (t ≡ u)
  one_meaning whole whole = (refl, refl)
  one_meaning (further {v} {t} {u} {n} {ns} {found} x e d) (further {u = z} {found = other} y f g) =
      let same : x ≡ y = cc in
      one_meaning d (subst (λ (i : Start). Leads w v i ns other z) (sym same) g)
  one_meaning (elsewhere {v} {a} {s} {ms} {ns} {met} {u} x rest first later t e d f is) (elsewhere {met = other} {u = z} y rests firsts laters r g h k says) =
      let both = pair e g in
      let start = ap (λ (q : Start × List Text). q.0) both in
      let names = ap (λ (q : Start × List Text). q.1) both in
      let here = subst (λ (i : Start). Leads w (view s) i rest firsts r) (sym start) (subst (λ (l : List Text). Leads w (view s) y l firsts r) (sym names) h) in
      let one = one_meaning d here in
      let two = one_meaning f (subst (λ (i : RType). Leads w v (fixed i) ns laters z) (sym one.1) k) in
      (is ∙ ap₂ (λ (p q : List Key). joined (joined (list_of a) p) q) one.0 two.0 ∙ sym says, two.1)
