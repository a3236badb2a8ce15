-- The rule of each form is right, where the parts are.
use Rattle.std.proofs.Common.{◌≡◌, ℕ, ◌+◌, List, [], ◌∷◌, map, length, Bool, true, false, Option, Some, None, Result, Ok, Err, refl, sym, ap, subst}
use Rattle.evo_base.specs.declared.place.Place.{Place}
use Rattle.evo_base.specs.declared.key.Key.{Key}
use Rattle.evo_base.specs.declared.fault_kind.FaultKind.{FaultKind}
use Rattle.evo_tree.specs.declared.module.SourceFault.{SourceFault}
use Rattle.evo_tree.specs.declared.name.Identifier.{Identifier}
use Rattle.evo_tree.specs.declared.expression.InfixOperator.{InfixOperator}
use Rattle.evo_tree.specs.declared.expression.Expr.{Expr, Expr-F, map-Expr}
use Rattle.evo_tree.specs.declared.expression.Expr.TheOpen as ex
use Rattle.evo_resolved.specs.declared.resolved_type.RType.{RType}
use Rattle.evo_resolved.specs.declared.resolved_type.RTypeName.{RTypeName}
use Rattle.evo_resolved.specs.declared.expression.Reach.{Reach}
use Rattle.evo_resolved.specs.declared.expression.Reach.TheVariants as reach
use Rattle.evo_resolved.specs.declared.expression.Builtin.{Builtin}
use Rattle.evo_resolved.specs.declared.expression.Builtin.TheVariants as builtin
use Rattle.evo_resolved.specs.declared.expression.RUse.{RUse}
use Rattle.evo_resolved.specs.declared.expression.RExpr.{RExpr}
use Rattle.evo_resolved.specs.declared.expression.RMember.{RMember}
use Rattle.evo_judging.specs.Judge.{Judge}
use Rattle.evo_judging.specs.Right.{Right}
use Rattle.evo_judging.proofs.Judges.{AllOf, gives_right, refuses_right, needs_right, ensures_right, learns_right, follows_right, splits_right, each_right}
use Rattle.evo_typing.specs.Shapes.{Shape, Found, Named, Meaning, Env, Denoted}
use Rattle.evo_typing.specs.Trees.{type_name, given, is_implicit, Slot, slots_from, slots, paired, type_of}
use Rattle.evo_typing.specs.Places.{Chain, at_value, at_type, begun, Root, steps_of}
use Rattle.evo_typing.specs.Rule as rule
use Rattle.evo_typing.specs.Rule.{Oracle, Tells}
use Rattle.evo_typing.specs.Known.{OneAnswer, OneEach, Answers}

pub tells_one : (P : Type 0) → OneAnswer (Tells P)
tells_one P true true h k = refl
tells_one P true false h k = absurd (k h)
tells_one P false true h k = absurd (h k)
tells_one P false false h k = refl

module _ {I : Type 0} (N : I → SourceFault → Type 0) (P : Option RType → Expr → Judge I Oracle SourceFault Denoted) (env : Env) (one : OneEach env) where
  abbrev E : Oracle → Type 0
  E o = Answers env o

  -- a part is judged rightly, whatever is expected
  abbrev pub Fine : Expr → Type 0
  Fine a = (w : Option RType) → Right N E (P w a)

  abbrev S : Expr → Expr
  S a = a

  abbrev Args : Type 0
  Args = List (Option Identifier × Expr)

  abbrev AllFine : Args → Type 0
  AllFine as' = AllOf N E (λ q. Fine q.1) as'

  pub plain_right : (w : Option RType) (a : Expr) → Fine a → Right N E (rule.plain P (λ a. a) env w a)
  plain_right w a r = follows_right N E (r w) (λ b h. needs_right N E _ _)

  pub valued_right : (w : Option RType) (a : Expr) → Fine a → Right N E (rule.valued P (λ a. a) env w a)
  valued_right w a r = follows_right N E (plain_right w a r) (λ b h. follows_right N E (ensures_right N E _ _) (λ u h. gives_right N E b))

  pub fitted_right : (a : Expr) (b : RExpr) (t : RType) → Right N E (rule.fitted P (λ a. a) env a b t)
  fitted_right a b t = follows_right N E (learns_right N E _ _ (tells_one _) (λ o e. e.same (type_of b) t)) (λ s h. needs_right N E _ _)

  pub converted_right : (t : RType) (a : Expr) → Fine a → Right N E (rule.converted P (λ a. a) env t a)
  converted_right t a r = follows_right N E (plain_right (Some t) a r) (λ b h. fitted_right a b t)

  -- ---- what is not found

  tried_right : (t : Bool) (a : Expr) → Fine a → Right N E (rule.tried_if P (λ a. a) env t a)
  tried_right true a r = gives_right N E tt
  tried_right false a r = follows_right N E (valued_right None a r) (λ b h. gives_right N E tt)

  all_tried : (as' : Args) → AllFine as' → AllOf N E (λ a. Right N E (rule.tried P (λ a. a) env a)) as'
  all_tried [] r = tt
  all_tried (a ∷ as') r = (tried_right (is_implicit a.1) a.1 r.0, all_tried as' r.1)

  refused_right : {B : Type 0} (f : SourceFault) (as' : Args) → AllFine as' → Right N E (rule.refused P (λ a. a) env {B = B} f as')
  refused_right f as' r = follows_right N E (each_right N E _ as' (all_tried as' r)) (λ us h. refuses_right N E f)

  checked_right : (t : Bool) (f : SourceFault) (as' : Args) → AllFine as' → Right N E (rule.checked P (λ a. a) env t f as')
  checked_right true f as' r = gives_right N E tt
  checked_right false f as' r = refused_right f as' r

  sought_right : {B : Type 0} (p : Place) (s : Result B FaultKind) (as' : Args) → AllFine as' → Right N E (rule.sought P (λ a. a) env p s as')
  sought_right p (Ok f) as' r = gives_right N E f
  sought_right p (Err k) as' r = refused_right _ as' r

  found_right : {B : Type 0} (H : Result B FaultKind → Type 0) (ask : Oracle → Result B FaultKind) (p : Place) (as' : Args) → OneAnswer H → ((o : Oracle) → Answers env o → H (ask o)) → AllFine as' → Right N E (rule.found P (λ a. a) env H ask p as')
  found_right H ask p as' only answers r = follows_right N E (learns_right N E H ask only answers) (λ s h. sought_right p s as' r)

  -- ---- uses

  standing_right : (s : Shape) (ts : List RType) (p : Place) (t : RType) → Right N E (rule.standing P (λ a. a) env s ts p t)
  standing_right s ts p t =
      follows_right N E (learns_right N E _ _ (one.stands s.signature ts t) (λ o e. e.stands s.signature ts t))
      (λ u h. follows_right N E (needs_right N E _ _) (λ v h. follows_right N E (ensures_right N E _ _) (λ u h. gives_right N E v)))

  slots_fine : (first : ℕ) (all : List RType) (i : ℕ) (ps : List RType) (as' : Args) → AllFine as' → AllOf N E (λ s. Fine s.arg) (slots_from first all i ps as')
  slots_fine first all i [] as' r = tt
  slots_fine first all i (p ∷ ps) [] r = tt
  slots_fine first all i (p ∷ ps) (a ∷ as') r = (r.0, slots_fine first all (i + 1) ps as' r.1)

  chooser_right : (t : Bool) (a : Expr) → Fine a → Right N E (rule.chooser_if P (λ a. a) env t a)
  chooser_right true a r = follows_right N E (valued_right None a r) (λ b h. gives_right N E _)
  chooser_right false a r = gives_right N E None

  choosers_right : (ss : List (Slot Expr)) → AllOf N E (λ s. Fine s.arg) ss → AllOf N E (λ s. Right N E (rule.chooser P (λ a. a) env s)) ss
  choosers_right [] r = tt
  choosers_right (s ∷ ss) r = (chooser_right s.chooses s.arg r.0, choosers_right ss r.1)

  filled_right : (s : Shape) (ts : List RType) (p : Place) (ss : List (Slot Expr)) (own : List (Option RExpr)) → AllOf N E (λ s. Fine s.arg) ss → AllOf N E (λ q. Right N E (rule.filled P (λ a. a) env s ts p q)) (paired ss own)
  filled_right s ts p [] own r = tt
  filled_right s ts p (q ∷ ss) [] r = tt
  filled_right s ts p (q ∷ ss) (o ∷ own) r = (follows_right N E (standing_right s ts p q.param) (λ t h. splits_right N E o (converted_right t q.arg r.0) (λ b. fitted_right q.arg b t)), filled_right s ts p ss own r.1)

  paths_right : (s : Shape) (ts : List RType) (place : RType → Place) (rs : List (RType × Key)) → AllOf N E (λ r. Right N E (rule.path P (λ a. a) env s ts place r)) rs
  paths_right s ts place [] = tt
  paths_right s ts place (r ∷ rs) =
      (follows_right N E (standing_right s ts (place r.0) r.0) (λ t h. follows_right N E (learns_right N E _ _ (one.path t r.1) (λ o e. e.path t r.1)) (λ q h. needs_right N E _ _)), paths_right s ts place rs)

  equals_right : (s : Shape) (ts : List RType) (place : RType → Place) (rs : List (RType × RType)) → AllOf N E (λ r. Right N E (rule.equal P (λ a. a) env s ts place r)) rs
  equals_right s ts place [] = tt
  equals_right s ts place (r ∷ rs) =
      (follows_right N E (standing_right s ts (place r.0) r.0) (λ t h. follows_right N E (standing_right s ts (place r.1) r.1) (λ u h. follows_right N E (learns_right N E _ _ (tells_one _) (λ o e. e.same t u)) (λ b h. ensures_right N E _ _))), equals_right s ts place rs)

  using_right : (f : Found) (t : Option RTypeName) (p : Place) (as' : Args) → AllFine as' → Right N E (rule.using P (λ a. a) env f t p as')
  using_right f t p as' r =
      let fine = slots_fine (length f.given) f.shape.params 0 f.shape.params as' r in
      follows_right N E (checked_right _ _ as' r) (λ u h. follows_right N E (each_right N E _ (slots f as') (choosers_right _ fine))
      (λ own h. follows_right N E (needs_right N E _ _)
      (λ ts h. follows_right N E (each_right N E _ (paired (slots f as') own) (filled_right f.shape ts p _ own fine))
      (λ bs h. follows_right N E (each_right N E _ f.shape.required (paths_right f.shape ts _ f.shape.required))
      (λ qs h. follows_right N E (each_right N E _ f.shape.equal (equals_right f.shape ts _ f.shape.equal))
      (λ es h. follows_right N E (ensures_right N E _ _)
      (λ u h. follows_right N E (standing_right f.shape ts p f.shape.result)
      (λ v h. gives_right N E _))))))))

  -- the arguments that are there
  abbrev Given : Option Args → Type 0
  Given as' = AllFine (given as')

  named_right : (n : Named) (t : Option RTypeName) (p : Place) (as' : Option Args) → Given as' → Right N E (rule.named P (λ a. a) env n t p as')
  named_right (Named.case f) t p as' r = follows_right N E (using_right f t p (given as') r) (λ a h. gives_right N E _)
  named_right (Named.free f) t p as' r = follows_right N E (using_right f t p (given as') r) (λ a h. gives_right N E _)
  named_right (Named.new f n) t p as' r = follows_right N E (using_right f (Some (type_name t p n)) p (given as') r) (λ a h. gives_right N E _)
  named_right (Named.type n available) t p as' r = follows_right N E (ensures_right N E _ _) (λ u h. gives_right N E _)

  -- ---- members

  member_right : (f : Found) (p : Place) (as' : Option Args) → Given as' → Right N E (rule.member P (λ a. a) env f p as')
  member_right f p None r = follows_right N E (using_right f None p [] tt) (λ a h. gives_right N E _)
  member_right f p (Some as') r = follows_right N E (using_right f None p as' r) (λ a h. gives_right N E _)

  sets_right : (p : Place) (us : List RUse) → AllOf N E (λ u. Right N E (rule.set P (λ a. a) env p u)) us
  sets_right p [] = tt
  sets_right p (u ∷ us) = (follows_right N E (learns_right N E _ _ (one.shape u.key) (λ o e. e.shape u.key)) (λ s h. follows_right N E (needs_right N E _ _) (λ s h. ensures_right N E _ _)), sets_right p us)

  mutating_right : (b : RExpr) (s : Root) (p : Place) (a : RUse × List RExpr) → Right N E (rule.mutating P (λ a. a) env b s p a)
  mutating_right b s p a = follows_right N E (needs_right N E _ _) (λ c h. follows_right N E (each_right N E _ (steps_of s) (sets_right p (steps_of s))) (λ us h. gives_right N E c))

  behind_right : (t : Bool) (f : Found) (b : RExpr) (ns : List RMember) (p : Place) (as' : Option Args) → Given as' → Right N E (rule.behind P (λ a. a) env t f b ns p as')
  behind_right false f b ns p as' r = follows_right N E (member_right f p as' r) (λ m h. gives_right N E _)
  behind_right true f b ns p as' r = follows_right N E (using_right f None p (given as') r) (λ a h. mutating_right b _ p a)

  above_right : (s : Reach) (f : Found) (v : RType) (q p : Place) (as' : Args) → AllFine as' → Right N E (rule.above P (λ a. a) env s f v q p as')
  above_right reach.Dispatched f v q p as' r = follows_right N E (using_right f None p as' r) (λ a h. gives_right N E _)
  above_right reach.Static f v q p as' r = follows_right N E (using_right f None p as' r) (λ a h. gives_right N E _)
  above_right reach.Witness f v q p as' r = follows_right N E (using_right f None p as' r) (λ a h. gives_right N E _)

  -- ---- names that stand alone

  printed_right : (as' : Args) → AllFine as' → AllOf N E (λ q. Right N E (rule.printed P (λ a. a) env q)) as'
  printed_right [] r = tt
  printed_right (a ∷ as') r = (follows_right N E (plain_right None a.1 r.0) (λ b h. follows_right N E (ensures_right N E _ _) (λ u h. gives_right N E b)), printed_right as' r.1)

  messages_right : (as' : Args) → AllFine as' → AllOf N E (λ q. Right N E (rule.message P (λ a. a) env q)) as'
  messages_right [] r = tt
  messages_right (a ∷ as') r = (follows_right N E (plain_right None a.1 r.0) (λ b h. ensures_right N E _ _), messages_right as' r.1)

  condition_right : (a : Expr) → Fine a → Right N E (rule.condition P (λ a. a) env a)
  condition_right a r = follows_right N E (plain_right _ a r) (λ b h. follows_right N E (ensures_right N E _ _) (λ u h. gives_right N E b))

  built_right : (b : Builtin) (p : Place) (as' : Args) → AllFine as' → Right N E (rule.built P (λ a. a) env b p as')
  built_right builtin.Print p as' r = follows_right N E (each_right N E _ as' (printed_right as' r)) (λ bs h. gives_right N E _)
  built_right builtin.Precondition p [] r = refuses_right N E _
  built_right builtin.Precondition p (a ∷ as') r = follows_right N E (condition_right a.1 r.0) (λ b h. follows_right N E (each_right N E _ as' (messages_right as' r.1)) (λ us h. gives_right N E _))
  built_right builtin.Fatal p as' r = follows_right N E (each_right N E _ as' (messages_right as' r)) (λ us h. gives_right N E _)

  meaning_right : (m : Meaning) (p : Place) (as' : Option Args) → Given as' → Right N E (rule.meaning P (λ a. a) env m p as')
  meaning_right (Meaning.local l) p as' r = gives_right N E _
  meaning_right (Meaning.own f) p as' r = follows_right N E (needs_right N E _ _) (λ v h. follows_right N E (behind_right f.shape.mutates f _ [] p as' r) (λ c h. gives_right N E _))
  meaning_right (Meaning.named n) p as' r = named_right n None p as' r
  meaning_right (Meaning.builtin b) p as' r = built_right b p (given as') r

  -- ---- chains

  abbrev OperandsFine : List (InfixOperator × Expr) → Type 0
  OperandsFine os = AllOf N E (λ q. Fine q.1) os

  operands_right : (t : RType) (os : List (InfixOperator × Expr)) (p : Place) → OperandsFine os → Right N E (rule.operands P (λ a. a) env t os p)
  operands_right t [] p r = gives_right N E _
  operands_right t (q ∷ os) p r = follows_right N E (needs_right N E _ _) (λ z h. follows_right N E (plain_right z q.1 r.0) (λ b h. follows_right N E (needs_right N E _ _) (λ u h. follows_right N E (operands_right u os p r.1) (λ s h. gives_right N E _))))

  chain_right : (ms : List (Identifier × Option Args)) (c : Chain) (p : Place) → AllOf N E (λ q. Given q.1) ms → Right N E (rule.chain P (λ a. a) env c ms p)
  chain_right [] c p r = gives_right N E c
  chain_right (q ∷ ms) (at_value b ns) p r =
      follows_right N E (checked_right _ _ (given q.1) r.0) (λ u h. follows_right N E (found_right _ _ q.0.place (given q.1) (one.member _ _ _) (λ o e. e.member _ _ _) r.0)
      (λ f h. follows_right N E (behind_right f.shape.mutates f b ns q.0.place q.1 r.0) (λ c h. chain_right ms c p r.1)))
  chain_right (q ∷ ms) (at_type t) p r =
      follows_right N E (found_right _ _ q.0.place (given q.1) (one.inner _ _ _) (λ o e. e.inner _ _ _) r.0)
      (λ n h. follows_right N E (named_right n (Some t) q.0.place q.1 r.0) (λ b h. chain_right ms (begun b) p r.1))

  -- ---- the forms

  abbrev pub FinePart : Type 0
  FinePart = (a : Expr) × Fine a

  abbrev bare_arg : Option Identifier × FinePart → Option Identifier × Expr
  bare_arg q = (q.0, q.1.0)

  args_fine : (ys : List (Option Identifier × FinePart)) → AllFine (map bare_arg ys)
  args_fine [] = tt
  args_fine (y ∷ ys) = (y.1.1, args_fine ys)

  operands_fine : (ys : List (InfixOperator × FinePart)) → OperandsFine (map (λ q. (q.0, q.1.0)) ys)
  operands_fine [] = tt
  operands_fine (y ∷ ys) = (y.1.1, operands_fine ys)

  abbrev bare_args : Option (List (Option Identifier × FinePart)) → Option Args
  bare_args None = None
  bare_args (Some l) = Some (map bare_arg l)

  abbrev bare_member : Identifier × Option (List (Option Identifier × FinePart)) → Identifier × Option Args
  bare_member q = (q.0, bare_args q.1)

  members_fine : (ys : List (Identifier × Option (List (Option Identifier × FinePart)))) → AllOf N E (λ q. Given q.1) (map bare_member ys)
  members_fine [] = tt
  members_fine ((i, None) ∷ ys) = (tt, members_fine ys)
  members_fine ((i, Some l) ∷ ys) = (args_fine l, members_fine ys)

  abbrev pub bare : Expr-F FinePart → Expr-F Expr
  bare = map-Expr FinePart Expr (λ q. q.0)

  -- one more member in front
  abbrev add : Identifier × Option Args → Expr-F Expr → Expr-F Expr
  add q (ex.Members a ms) = ex.Members a (q ∷ ms)
  add q y = y

  members_form : (a : FinePart) (ys : List (Identifier × Option (List (Option Identifier × FinePart)))) → bare (ex.Members a ys) ≡ ex.Members a.0 (map bare_member ys)
  members_form a [] = refl
  members_form a ((i, None) ∷ ys) = ap (add (i, None)) (members_form a ys)
  members_form a ((i, Some l) ∷ ys) = ap (add (i, Some (map bare_arg l))) (members_form a ys)

  name_right : (i : Identifier) (as' : Option Args) (w : Option RType) → Given as' → Right N E (rule.rule P (λ a. a) env w (ex.Name i as'))
  name_right i as' w r = follows_right N E (found_right _ _ i.place (given as') (one.name _ _) (λ o e. e.name _ _) r) (λ m h. meaning_right m i.place as' r)

  implicit_right : (p : Place) (i : Identifier) (as' : Option Args) (w : Option RType) → Given as' → Right N E (rule.rule P (λ a. a) env w (ex.ImplicitMember p i as'))
  implicit_right p i as' w r = splits_right N E w (refused_right _ (given as') r) (λ t. follows_right N E (found_right _ _ i.place (given as') (one.implicit _ _ _) (λ o e. e.implicit _ _ _) r) (λ n h. named_right n None i.place as' r))

  pub rule_right : (w : Option RType) (y : Expr-F FinePart) → Right N E (rule.rule P (λ a. a) env w (bare y))
  rule_right w (ex.Integer p n) = gives_right N E _
  rule_right w (ex.Negative p n) = gives_right N E _
  rule_right w (ex.Boolean p b) = gives_right N E _
  rule_right w (ex.String p s) = gives_right N E _
  rule_right w (ex.Name i None) = name_right i None w tt
  rule_right w (ex.Name i (Some ys)) = name_right i (Some (map bare_arg ys)) w (args_fine ys)
  rule_right w (ex.SelfValue p) = follows_right N E (needs_right N E _ _) (λ v h. gives_right N E _)
  rule_right w (ex.SelfType p) = follows_right N E (needs_right N E _ _) (λ v h. gives_right N E _)
  rule_right w (ex.Super p i ys) =
      splits_right N E env.scope.self (refused_right _ (map bare_arg ys) (args_fine ys))
      (λ v. follows_right N E (found_right _ _ i.place (map bare_arg ys) (one.upper _ _) (λ o e. e.upper _ _) (args_fine ys)) (λ f h. above_right f.shape.reach f v p i.place _ (args_fine ys)))
  rule_right w (ex.ImplicitMember p i None) = implicit_right p i None w tt
  rule_right w (ex.ImplicitMember p i (Some ys)) = implicit_right p i (Some (map bare_arg ys)) w (args_fine ys)
  rule_right w (ex.Parenthesised p a) = follows_right N E (valued_right w a.0 a.1) (λ b h. gives_right N E _)
  rule_right w (ex.Prefix p o a) = follows_right N E (plain_right _ a.0 a.1) (λ b h. follows_right N E (needs_right N E _ _) (λ t h. gives_right N E _))
  rule_right w (ex.Members a ys) = subst (λ y. Right N E (rule.rule P (λ a. a) env w y)) (sym (members_form a ys)) (follows_right N E (a.1 None) (λ b h. follows_right N E (chain_right (map bare_member ys) (begun b) _ (members_fine ys)) (λ c h. gives_right N E _)))
  rule_right w (ex.Chain a ys) = follows_right N E (plain_right _ a.0 a.1) (λ b h. follows_right N E (operands_right _ _ _ (operands_fine ys)) (λ r h. gives_right N E _))
