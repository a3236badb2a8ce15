-- What leads to itself means nothing; and how written types come to what they mean.
use Rattle.std.proofs.Common.{◌≡◌, List, [], ◌∷◌, Option, Some, None, refl, sym, ap, subst, ◌∙◌}
use Rattle.evo_base.specs.declared.key.Key.{Key}
use Rattle.evo_resolved.specs.declared.resolved_type.RType.{RType}
use Rattle.evo_names.specs.Listed.{Text, World, list_of}
use Rattle.evo_names.specs.Seen.{Viewpoint}
use Rattle.evo_names.specs.Written.{Scope, Start, fixed, via, view, beginning, behind, Leads, whole, further, elsewhere, joined}

-- a start in another place, which leads on to one of a set of starts
pub record Turn (w : World) (Loop : Start → Type 0) (x : Start) : Type 0 where
  pub alias : Option Key
  pub scope : Scope
  pub names : List Text
  pub is : x ≡ via alias scope names
  pub next : Start
  pub rest : List Text
  pub begins : beginning w scope names ≡ Some (next, rest)
  pub stays : Loop next

pair : {o : Option (Start × List Text)} {p q : Start × List Text} → o ≡ Some p → o ≡ Some q → p ≡ q
pair e f = cc

stuck : {t : RType} {a : Option Key} {s : Scope} {ms : List Text} → fixed t ≡ via a s ms → ⊥
stuck e = absurd cc

same_beginning : (w : World) {a b : Option Key} {s z : Scope} {ms ns : List Text} → via a s ms ≡ via b z ns → beginning w s ms ≡ beginning w z ns
same_beginning w e = cc

-- no name leads out of starts that lead on to each other
pub circle : (w : World) (Loop : Start → Type 0) → ((x : Start) → Loop x → Turn w Loop x) → {v : Viewpoint} {x : Start} {ns : List Text} {met : List Key} {t : RType} → Leads w v x ns met t → Loop x → ⊥
circle w Loop turn whole l = stuck (turn _ l).is
circle w Loop turn (further x e d) l = stuck (turn _ l).is
circle w Loop turn (elsewhere {a} {s} {ms} x rest first later t e d f is) l =
    let here = turn _ l in
    let both = pair (same_beginning w (sym here.is) ∙ e) here.begins in
    circle w Loop turn d (subst Loop (sym (ap (λ (q : Start × List Text). q.0) both)) here.stays)

-- names that stand for a type at once
pub at_once : {w : World} {v : Viewpoint} {a : Option Key} {s : Scope} {ms : List Text} {t : RType} → beginning w s ms ≡ Some (fixed t, []) → Leads w v (via a s ms) [] (list_of a) t
at_once {t} e = elsewhere (fixed t) [] [] [] t e whole whole refl

-- through a `typealias` or a default
pub through : {w : World} {v : Viewpoint} {a : Option Key} {s : Scope} {ms : List Text} {t : RType} {met all : List Key} (x : Start) → beginning w s ms ≡ Some (x, []) → Leads w (view s) x [] met t → all ≡ joined (list_of a) met → Leads w v (via a s ms) [] all t
through {t} {met} x e d is = elsewhere x [] met [] t e d whole is

-- a type and a name behind it
pub one_behind : {w : World} {v : Viewpoint} {a : Option Key} {s : Scope} {ms : List Text} {n : Text} {t u : RType} {met all : List Key} (x : Start) → beginning w s ms ≡ Some (fixed t, n ∷ []) → behind w (view s) t n ≡ Some x → Leads w (view s) x [] met u → all ≡ joined (list_of a) met → Leads w v (via a s ms) [] all u
one_behind {n} {t} {u} {met} x e b d is = elsewhere (fixed t) (n ∷ []) met [] u e (further x b d) whole is

-- what has no beginning means nothing
pub no_beginning : {w : World} {v : Viewpoint} {a : Option Key} {s : Scope} {ms ns : List Text} {met : List Key} {t : RType} → beginning w s ms ≡ None → Leads w v (via a s ms) ns met t → ⊥
no_beginning none (elsewhere x rest first later t e d f is) = absurd cc
