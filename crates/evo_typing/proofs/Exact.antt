-- The walk is exact: it answers the resolved tree, which is one, or a fault; and a fault excludes a tree.
use Rattle.std.proofs.Common.{◌≡◌, Option, Result, Ok, Err, inl, inr, refl, sym, subst, ◌∙◌}
use Rattle.evo_tree.specs.declared.module.SourceFault.{SourceFault}
use Rattle.evo_tree.specs.declared.expression.Expr.{Expr, out-Expr, roll-Expr, ind-Expr, out-roll-Expr}
use Rattle.evo_resolved.specs.declared.resolved_type.RType.{RType}
use Rattle.evo_judging.specs.Judge.{Fails}
use Rattle.evo_judging.specs.Right.{Answered, Judged, Right, Exactly}
use Rattle.evo_typing.specs.Shapes.{Env, Denoted}
use Rattle.evo_typing.specs.Resolves.{level}
use Rattle.evo_typing.specs.Rule as rule
use Rattle.evo_typing.specs.Rule.{Oracle}
use Rattle.evo_typing.specs.Infer.{infer, Is, Part, a_part, judged, FaultOf, own, in_part}
use Rattle.evo_typing.specs.Known.{Known, Answers}
use Rattle.evo_typing.proofs.Walks.{infer_is}
use Rattle.evo_typing.proofs.Rules.{Fine, rule_right}
use Rattle.evo_typing.proofs.From.{rule_from}
use Rattle.evo_typing.proofs.To.{rule_to}

module _ (env : Env) (known : Known env) where
  abbrev Faults : Part → SourceFault → Type 0
  Faults i f = FaultOf env i.0 i.1 f

  abbrev Exact : Oracle → Type 0
  Exact o = Answers env o

  to : {w : Option RType} {e : Expr} {b : Denoted} → Is env w e b → (judged env w e).holds b
  to (level r, h) = rule_to env known r h

  from : (w : Option RType) (e : Expr) (b : Denoted) → (judged env w e).holds b → Is env w e b
  from w e b h = let k = rule_from env known w (out-Expr e) b h in (level k.0, k.1)

  fault_from : (w : Option RType) (e : Expr) (f : SourceFault) → Fails Faults (judged env w e) f → FaultOf env w e f
  fault_from w e f (inl n) = own n
  fault_from w e f (inr (i, p, n)) = in_part p n

  fault_to : {w : Option RType} {e : Expr} {f : SourceFault} → FaultOf env w e f → Fails Faults (judged env w e) f
  fault_to (own n) = inl n
  fault_to (in_part {v} {b} p n) = inr ((v, b), p, n)

  abbrev FineHere : Expr → Type 0
  FineHere e = Fine Faults (a_part env) env known.one e

  as_part : (e : Expr) → ((w : Option RType) → Right Faults Exact (judged env w e)) → FineHere e
  as_part e r w = record {
    sound = λ o k. subst (Judged Faults (a_part env w e)) (sym (infer_is env o e w)) (go ((judged env w e).walk o) ((r w).sound o k));
    one = λ a b h k. (r w).one a b (to h) (to k);
    excludes = never;
  }
    where
      go : (s : Result Denoted SourceFault) → Judged Faults (judged env w e) s → Judged Faults (a_part env w e) s
      go (Ok b) h = from w e b h
      go (Err f) n = inr ((w, e), refl, fault_from w e f n)

      never : (f : SourceFault) (b : Denoted) → Fails Faults (a_part env w e) f → Is env w e b → ⊥
      never f b (inl n) h = n
      never f b (inr (i, is, n)) h = (r w).excludes f b (fault_to (subst (λ i. Faults i f) is n)) (to h)

  -- every expression is judged rightly
  pub fine : (e : Expr) → FineHere e
  fine =
      ind-Expr FineHere
      (λ x y is. as_part (roll-Expr x)
      (λ w. subst (λ l. Right Faults Exact (rule.rule (a_part env) (λ a. a) env w l)) (is ∙ sym (out-roll-Expr x)) (rule_right Faults (a_part env) env known.one w y)))

  pub one_tree : (w : Option RType) (e : Expr) (b c : Denoted) → Is env w e b → Is env w e c → b ≡ c
  one_tree w e b c h k = (fine e w).one b c h k

  pub excludes : (w : Option RType) (e : Expr) (f : SourceFault) (b : Denoted) → FaultOf env w e f → Is env w e b → ⊥
  excludes w e f b n h = (fine e w).excludes f b (inr ((w, e), refl, n)) h

  -- an answer to an expression is the only one
  pub exactly : (w : Option RType) (e : Expr) (s : Result Denoted SourceFault) → Answered (Is env w e) (FaultOf env w e) s → Exactly (Is env w e) (FaultOf env w e) s
  exactly w e (Ok b) h = (h, λ c k. one_tree w e b c h k, λ f n. excludes w e f b n h)
  exactly w e (Err f) n = (n, λ b h. excludes w e f b n h)

  pub walk_answers : (o : Oracle) → Answers env o → (w : Option RType) (e : Expr) → Answered (Is env w e) (FaultOf env w e) (infer env e w o)
  walk_answers o k w e = go (infer env e w o) ((fine e w).sound o k)
    where
      go : (s : Result Denoted SourceFault) → Judged Faults (a_part env w e) s → Answered (Is env w e) (FaultOf env w e) s
      go (Ok b) h = h
      go (Err f) (inl n) = absurd n
      go (Err f) (inr (i, is, n)) = subst (λ i. Faults i f) is n

  pub walk_is_exact : (o : Oracle) → Answers env o → (w : Option RType) (e : Expr) → Exactly (Is env w e) (FaultOf env w e) (infer env e w o)
  walk_is_exact o k w e = exactly w e (infer env e w o) (walk_answers o k w e)
