-- The walk over a tree is the walk of its rule.
use Rattle.std.proofs.Common.{◌≡◌, ℕ, ◌+◌, cond, Bool, true, false, List, [], ◌∷◌, map, length, Option, Some, None, Result, Ok, Err, refl, sym, ap, ◌∙◌}
use Rattle.evo_base.specs.declared.place.Place.{Place}
use Rattle.evo_base.specs.declared.fault_kind.FaultKind.{FaultKind}
use Rattle.evo_base.specs.declared.fault_kind.FaultKind.TheVariants.{NoSuchName, WrongLabels, WrongType, Ambiguous, Unavailable}
use Rattle.evo_tree.specs.declared.module.SourceFault.{SourceFault}
use Rattle.evo_tree.specs.declared.name.Identifier.{Identifier}
use Rattle.evo_tree.specs.declared.expression.InfixOperator.{InfixOperator}
use Rattle.evo_tree.specs.declared.expression.Expr.{Expr, Expr-F, out-Expr, map-Expr, para-Expr, para-roll-Expr, roll-out-Expr}
use Rattle.evo_tree.specs.declared.expression.Expr.TheOpen as ex
use Rattle.evo_resolved.specs.declared.resolved_type.RType.{RType}
use Rattle.evo_resolved.specs.declared.resolved_type.RTypeName.{RTypeName}
use Rattle.evo_resolved.specs.declared.expression.Reach.{Reach}
use Rattle.evo_resolved.specs.declared.expression.Reach.TheVariants as reach
use Rattle.evo_resolved.specs.declared.expression.Builtin.{Builtin}
use Rattle.evo_resolved.specs.declared.expression.Builtin.TheVariants as builtin
use Rattle.evo_resolved.specs.declared.expression.RExpr.{RExpr}
use Rattle.evo_resolved.specs.declared.expression.RExpr.TheVariants as x
use Rattle.evo_resolved.specs.declared.expression.RMember.{RMember}
use Rattle.evo_judging.specs.Judge.{bind, by_option, need, ensure, gather, each}
use Rattle.evo_names.specs.Listed.{Text}
use Rattle.evo_typing.specs.Shapes.{Shape, Found, Named, Meaning, Env, Denoted, value}
use Rattle.evo_typing.specs.Trees.{type_name, place_of, is_implicit, labels, call_labels, label_text, given, Slot, slots_from, slots, is_chooser, even, paired, chooser_place, is_of, use_types, use_of, has_value, right_expected, last_type, type_of, chain_expected}
use Rattle.evo_typing.specs.Places.{Chain, at_value, at_type, begun}
use Rattle.evo_typing.specs.Rule as rule
use Rattle.evo_typing.specs.Rule.{Oracle, fault}
use Rattle.evo_typing.specs.Infer.{Walk, looked, infer_step, infer, a_part, judged}

pub bind_same : {F A B : Type 0} {r s : Result A F} {k l : A → Result B F} → r ≡ s → ((a : A) → k a ≡ l a) → bind r k ≡ bind s l
bind_same {F} {A} {B} {r} {s} {k} {l} e h = ap (λ q. bind q k) e ∙ go s
  where
    go : (s : Result A F) → bind s k ≡ bind s l
    go (Ok a) = h a
    go (Err f) = refl

under : {F A B : Type 0} (r : Result A F) {k l : A → Result B F} → ((a : A) → k a ≡ l a) → bind r k ≡ bind r l
under (Ok a) h = h a
under (Err f) h = refl

gather_same : {F X Y A : Type 0} (g : X → Y) (k : Y → Result A F) (l : X → Result A F) → ((x : X) → k (g x) ≡ l x) → (xs : List X) → gather (map k (map g xs)) ≡ gather (map l xs)
gather_same g k l h [] = refl
gather_same g k l h (x ∷ xs) = bind_same (h x) (λ a. bind_same (gather_same g k l h xs) (λ as'. refl))

-- functions are equal that are so at each argument
ext : {A B : Type 0} {f g : A → B} → ((a : A) → f a ≡ g a) → f ≡ g
ext h = λ i. λ a. h a i

module _ (env : Env) (o : Oracle) where
  abbrev Args : Type 0
  Args = List (Option Identifier × Expr)

  abbrev W : Expr × Walk → Expr
  W a = a.0

  -- a part with its walk
  abbrev seen : Expr → Expr × Walk
  seen a = (a, infer env a)

  abbrev seen_arg : Option Identifier × Expr → Option Identifier × (Expr × Walk)
  seen_arg q = (q.0, seen q.1)

  abbrev seen_slot : Slot Expr → Slot (Expr × Walk)
  seen_slot s = record { param = s.param; chooses = s.chooses; arg = seen s.arg }

  abbrev seen_args : Option Args → Option (List (Option Identifier × (Expr × Walk)))
  seen_args None = None
  seen_args (Some as') = Some (map seen_arg as')

  labels_same : (as' : Args) → labels (map seen_arg as') ≡ labels as'
  labels_same [] = refl
  labels_same (a ∷ as') = ap (λ l. label_text a.0 ∷ l) (labels_same as')

  call_same : (as' : Option Args) → call_labels (seen_args as') ≡ call_labels as'
  call_same None = refl
  call_same (Some as') = ap Some (labels_same as')

  given_same : (as' : Option Args) → given (seen_args as') ≡ map seen_arg (given as')
  given_same None = refl
  given_same (Some as') = refl

  slots_same : (first : ℕ) (all : List RType) (i : ℕ) (ps : List RType) (as' : Args) → slots_from first all i ps (map seen_arg as') ≡ map seen_slot (slots_from first all i ps as')
  slots_same first all i [] as' = refl
  slots_same first all i (p ∷ ps) [] = refl
  slots_same first all i (p ∷ ps) (a ∷ as') = ap (λ l. record { param = p; chooses = is_chooser first all i p; arg = seen a.1 } ∷ l) (slots_same first all (i + 1) ps as')

  abbrev seen_pair : Slot Expr × Option RExpr → Slot (Expr × Walk) × Option RExpr
  seen_pair q = (seen_slot q.0, q.1)

  paired_same : (ss : List (Slot Expr)) (os : List (Option RExpr)) → paired (map seen_slot ss) os ≡ map seen_pair (paired ss os)
  paired_same [] os = refl
  paired_same (s ∷ ss) [] = refl
  paired_same (s ∷ ss) (b ∷ os) = ap (λ l. (seen_slot s, b) ∷ l) (paired_same ss os)

  place_same : (ss : List (Slot Expr)) (t : RType) (p : Place) → chooser_place (λ a. place_of a.0) (map seen_slot ss) t p ≡ chooser_place place_of ss t p
  place_same [] t p = refl
  place_same (s ∷ ss) t p = ap (λ q. cond (Rattle.std.specs.Prelude.◌&&◌ s.chooses (is_of s.param t)) (place_of s.arg) q) (place_same ss t p)

  even_same : (ps : List RType) (as' : Args) → even ps (map seen_arg as') ≡ even ps as'
  even_same [] [] = refl
  even_same [] (a ∷ as') = refl
  even_same (p ∷ ps) [] = refl
  even_same (p ∷ ps) (a ∷ as') = even_same ps as'

  -- ---- what is not found

  tried_same : (t : Bool) (a : Expr) → (rule.tried_if looked W env t (seen a)).walk o ≡ (rule.tried_if (a_part env) (λ a. a) env t a).walk o
  tried_same true a = refl
  tried_same false a = refl

  refused_same : {B : Type 0} (f : SourceFault) (as' : Args) → (rule.refused looked W env {B = B} f (map seen_arg as')).walk o ≡ (rule.refused (a_part env) (λ a. a) env {B = B} f as').walk o
  refused_same f as' = bind_same (gather_same seen_arg (λ q. (rule.tried looked W env q).walk o) (λ q. (rule.tried (a_part env) (λ a. a) env q).walk o) (λ q. tried_same (is_implicit q.1) q.1) as') (λ us. refl)

  checked_same : (t : Bool) (f : SourceFault) (as' : Args) → (rule.checked looked W env t f (map seen_arg as')).walk o ≡ (rule.checked (a_part env) (λ a. a) env t f as').walk o
  checked_same true f as' = refl
  checked_same false f as' = refused_same f as'

  sought_same : {B : Type 0} (p : Place) (r : Result B FaultKind) (as' : Args) → (rule.sought looked W env p r (map seen_arg as')).walk o ≡ (rule.sought (a_part env) (λ a. a) env p r as').walk o
  sought_same p (Ok f) as' = refl
  sought_same p (Err k) as' = refused_same (fault p k) as'

  -- ---- uses

  chooser_same : (t : Bool) (a : Expr) → (rule.chooser_if looked W env t (seen a)).walk o ≡ (rule.chooser_if (a_part env) (λ a. a) env t a).walk o
  chooser_same true a = refl
  chooser_same false a = refl

  filled_same : (s : Shape) (ts : List RType) (p : Place) (q : Slot Expr × Option RExpr) → (rule.filled looked W env s ts p (seen_pair q)).walk o ≡ (rule.filled (a_part env) (λ a. a) env s ts p q).walk o
  filled_same s ts p (q, None) = refl
  filled_same s ts p (q, Some b) = refl

  using_same : (f : Found) (t : Option RTypeName) (p : Place) (as' : Args) → (rule.using looked W env f t p (map seen_arg as')).walk o ≡ (rule.using (a_part env) (λ a. a) env f t p as').walk o
  using_same f t p as' =
      let ss = slots f as' in
      let rest : (RType → Place) → List RType → List RExpr → Result rule.Used SourceFault =
      λ place ts bs. bind ((each (rule.path (a_part env) (λ a. a) env f.shape ts place) f.shape.required).walk o) (λ qs. bind ((each (rule.equal (a_part env) (λ a. a) env f.shape ts place) f.shape.equal).walk o)
      (λ es. bind (ensure (fault p Unavailable) f.available)
      (λ u. bind ((rule.standing (a_part env) (λ a. a) env f.shape ts p f.shape.result).walk o) (λ v. Ok (use_of f t p ts qs v, bs))))) in
      let go : List (Slot (Expr × Walk)) → Result rule.Used SourceFault =
      λ ss. bind ((each (rule.chooser looked W env) ss).walk o) (λ own. bind (need (fault p Ambiguous) (use_types f own)) (λ ts. bind ((each (rule.filled looked W env f.shape ts p) (paired ss own)).walk o) (rest (λ r. chooser_place (λ a. place_of a.0) ss r p) ts))) in
      bind_same (ap (λ e. (rule.checked looked W env e (fault p WrongLabels) (map seen_arg as')).walk o) (even_same f.shape.params as') ∙ checked_same (even f.shape.params as') (fault p WrongLabels) as')
      (λ u. ap go (slots_same (length f.given) f.shape.params 0 f.shape.params as')
      ∙ bind_same (gather_same seen_slot (λ s. (rule.chooser looked W env s).walk o) (λ s. (rule.chooser (a_part env) (λ a. a) env s).walk o) (λ s. chooser_same s.chooses s.arg) ss)
      (λ own. under (need (fault p Ambiguous) (use_types f own))
      (λ ts. bind_same (ap (λ l. (each (rule.filled looked W env f.shape ts p) l).walk o) (paired_same ss own) ∙ gather_same seen_pair (λ q. (rule.filled looked W env f.shape ts p q).walk o) (λ q. (rule.filled (a_part env) (λ a. a) env f.shape ts p q).walk o) (filled_same f.shape ts p) (paired ss own))
      (λ bs. ap (λ place. rest place ts bs) (ext (λ r. place_same ss r p))))))

  given_using : (f : Found) (t : Option RTypeName) (p : Place) (as' : Option Args) → (rule.using looked W env f t p (given (seen_args as'))).walk o ≡ (rule.using (a_part env) (λ a. a) env f t p (given as')).walk o
  given_using f t p as' = ap (λ l. (rule.using looked W env f t p l).walk o) (given_same as') ∙ using_same f t p (given as')

  named_same : (n : Named) (t : Option RTypeName) (p : Place) (as' : Option Args) → (rule.named looked W env n t p (seen_args as')).walk o ≡ (rule.named (a_part env) (λ a. a) env n t p as').walk o
  named_same (Named.case f) t p as' = bind_same (given_using f t p as') (λ a. refl)
  named_same (Named.free f) t p as' = bind_same (given_using f t p as') (λ a. refl)
  named_same (Named.new f n) t p as' = bind_same (given_using f (Some (type_name t p n)) p as') (λ a. refl)
  named_same (Named.type n available) t p as' = refl

  -- ---- members

  member_same : (f : Found) (p : Place) (as' : Option Args) → (rule.member looked W env f p (seen_args as')).walk o ≡ (rule.member (a_part env) (λ a. a) env f p as').walk o
  member_same f p None = bind_same (using_same f None p []) (λ a. refl)
  member_same f p (Some as') = bind_same (using_same f None p as') (λ a. refl)

  behind_same : (t : Bool) (f : Found) (b : RExpr) (ns : List RMember) (p : Place) (as' : Option Args) → (rule.behind looked W env t f b ns p (seen_args as')).walk o ≡ (rule.behind (a_part env) (λ a. a) env t f b ns p as').walk o
  behind_same false f b ns p as' = bind_same (member_same f p as') (λ m. refl)
  behind_same true f b ns p as' = bind_same (given_using f None p as') (λ a. refl)

  above_same : (s : Reach) (f : Found) (v : RType) (q p : Place) (as' : Args) → (rule.above looked W env s f v q p (map seen_arg as')).walk o ≡ (rule.above (a_part env) (λ a. a) env s f v q p as').walk o
  above_same reach.Dispatched f v q p as' = bind_same (using_same f None p as') (λ a. refl)
  above_same reach.Static f v q p as' = bind_same (using_same f None p as') (λ a. refl)
  above_same reach.Witness f v q p as' = bind_same (using_same f None p as') (λ a. refl)

  -- ---- names that stand alone

  messages_same : (as' : Args) → (each (rule.message looked W env) (map seen_arg as')).walk o ≡ (each (rule.message (a_part env) (λ a. a) env) as').walk o
  messages_same as' = gather_same seen_arg (λ q. (rule.message looked W env q).walk o) (λ q. (rule.message (a_part env) (λ a. a) env q).walk o) (λ q. refl) as'

  built_same : (b : Builtin) (p : Place) (as' : Args) → (rule.built looked W env b p (map seen_arg as')).walk o ≡ (rule.built (a_part env) (λ a. a) env b p as').walk o
  built_same builtin.Print p as' = bind_same (gather_same seen_arg (λ q. (rule.printed looked W env q).walk o) (λ q. (rule.printed (a_part env) (λ a. a) env q).walk o) (λ q. refl) as') (λ bs. refl)
  built_same builtin.Precondition p [] = refl
  built_same builtin.Precondition p (a ∷ as') = under ((rule.condition looked W env (seen a.1)).walk o) (λ b. bind_same (messages_same as') (λ us. refl))
  built_same builtin.Fatal p as' = bind_same (messages_same as') (λ us. refl)

  meaning_same : (m : Meaning) (p : Place) (as' : Option Args) → (rule.meaning looked W env m p (seen_args as')).walk o ≡ (rule.meaning (a_part env) (λ a. a) env m p as').walk o
  meaning_same (Meaning.local l) p as' = refl
  meaning_same (Meaning.own f) p as' = under (need (fault p NoSuchName) env.scope.self) (λ v. bind_same (behind_same f.shape.mutates f (x.SelfValue p v) [] p as') (λ c. refl))
  meaning_same (Meaning.named n) p as' = named_same n None p as'
  meaning_same (Meaning.builtin b) p as' = ap (λ l. (rule.built looked W env b p l).walk o) (given_same as') ∙ built_same b p (given as')

  -- ---- chains

  abbrev seen_operand : InfixOperator × Expr → InfixOperator × (Expr × Walk)
  seen_operand q = (q.0, seen q.1)

  expected_same : (os : List (InfixOperator × Expr)) → chain_expected (map seen_operand os) ≡ chain_expected os
  expected_same [] = refl
  expected_same (q ∷ os) = refl

  operands_same : (t : RType) (os : List (InfixOperator × Expr)) (p : Place) → (rule.operands looked W env t (map seen_operand os) p).walk o ≡ (rule.operands (a_part env) (λ a. a) env t os p).walk o
  operands_same t [] p = refl
  operands_same t (q ∷ os) p = under (need (fault p WrongType) (right_expected env.declared.is_class q.0 t)) (λ z. under ((rule.plain looked W env z (seen q.1)).walk o)
      (λ b. under (need (fault (place_of q.1) WrongType) (env.declared.operated q.0 t (type_of b))) (λ u. bind_same (operands_same u os p) (λ r. refl))))

  abbrev seen_member : Identifier × Option Args → Identifier × Option (List (Option Identifier × (Expr × Walk)))
  seen_member q = (q.0, seen_args q.1)

  -- what is found does not depend on what is seen of the arguments
  found_same : {B : Type 0} (H : Option (List Text) → Result B FaultKind → Type 0) (ask : Option (List Text) → Oracle → Result B FaultKind) (p : Place) (as' : Option Args) →
      (rule.found looked W env (H (call_labels (seen_args as'))) (ask (call_labels (seen_args as'))) p (given (seen_args as'))).walk o ≡ (rule.found (a_part env) (λ a. a) env (H (call_labels as')) (ask (call_labels as')) p (given as')).walk o
  found_same H ask p as' = ap (λ l. (rule.found looked W env (H l) (ask l) p (given (seen_args as'))).walk o) (call_same as') ∙ ap (λ g. (rule.sought looked W env p (ask (call_labels as') o) g).walk o) (given_same as') ∙ sought_same p (ask (call_labels as') o) (given as')

  chain_same : (ms : List (Identifier × Option Args)) (c : Chain) (p : Place) → (rule.chain looked W env c (map seen_member ms) p).walk o ≡ (rule.chain (a_part env) (λ a. a) env c ms p).walk o
  chain_same [] c p = refl
  chain_same (q ∷ ms) (at_value b ns) p =
      bind_same (ap (λ g. (rule.checked looked W env (has_value (last_type (type_of b) ns)) (fault p WrongType) g).walk o) (given_same q.1) ∙ checked_same (has_value (last_type (type_of b) ns)) (fault p WrongType) (given q.1))
      (λ u. bind_same (found_same (λ l. env.names.member (last_type (type_of b) ns) q.0.text l) (λ l o. o.member (last_type (type_of b) ns) q.0.text l) q.0.place q.1)
      (λ f. bind_same (behind_same f.shape.mutates f b ns q.0.place q.1) (λ c. chain_same ms c p)))
  chain_same (q ∷ ms) (at_type t) p =
      bind_same (found_same (λ l. env.names.inner t q.0.text l) (λ l o. o.inner t q.0.text l) q.0.place q.1)
      (λ n. bind_same (named_same n (Some t) q.0.place q.1) (λ b. chain_same ms (begun b) p))

  -- ---- the forms

  -- what `map-Expr` does to a form
  abbrev seen_form : Expr-F Expr → Expr-F (Expr × Walk)
  seen_form = map-Expr Expr (Expr × Walk) seen

  abbrev add : Identifier × Option (List (Option Identifier × (Expr × Walk))) → Expr-F (Expr × Walk) → Expr-F (Expr × Walk)
  add q (ex.Members a ms) = ex.Members a (q ∷ ms)
  add q y = y

  members_form : (a : Expr) (ms : List (Identifier × Option Args)) → seen_form (ex.Members a ms) ≡ ex.Members (seen a) (map seen_member ms)
  members_form a [] = refl
  members_form a ((i, None) ∷ ms) = ap (add (i, None)) (members_form a ms)
  members_form a ((i, Some as') ∷ ms) = ap (add (i, Some (map seen_arg as'))) (members_form a ms)

  name_same : (i : Identifier) (as' : Option Args) (w : Option RType) → (rule.rule looked W env w (ex.Name i (seen_args as'))).walk o ≡ (rule.rule (a_part env) (λ a. a) env w (ex.Name i as')).walk o
  name_same i as' w = bind_same (found_same (λ l. env.names.name i.text l) (λ l o. o.name i.text l) i.place as') (λ m. meaning_same m i.place as')

  implicit_same : (p : Place) (i : Identifier) (as' : Option Args) (w : Option RType) → (rule.rule looked W env w (ex.ImplicitMember p i (seen_args as'))).walk o ≡ (rule.rule (a_part env) (λ a. a) env w (ex.ImplicitMember p i as')).walk o
  implicit_same p i as' None = ap (λ g. (rule.refused looked W env {B = Denoted} (fault p WrongType) g).walk o) (given_same as') ∙ refused_same (fault p WrongType) (given as')
  implicit_same p i as' (Some t) = bind_same (found_same (λ l. env.names.implicit t i.text l) (λ l o. o.implicit t i.text l) i.place as') (λ n. named_same n None i.place as')

  super_same : (p : Place) (i : Identifier) (as' : Args) (v : Option RType) →
      by_option v ((rule.refused looked W env {B = Denoted} (fault p NoSuchName) (map seen_arg as')).walk o) (λ v. bind ((rule.found looked W env (env.names.upper i.text (labels (map seen_arg as'))) (λ o. o.upper i.text (labels (map seen_arg as'))) i.place (map seen_arg as')).walk o) (λ f. (rule.above looked W env f.shape.reach f v p i.place (map seen_arg as')).walk o))
      ≡ by_option v ((rule.refused (a_part env) (λ a. a) env {B = Denoted} (fault p NoSuchName) as').walk o) (λ v. bind ((rule.found (a_part env) (λ a. a) env (env.names.upper i.text (labels as')) (λ o. o.upper i.text (labels as')) i.place as').walk o) (λ f. (rule.above (a_part env) (λ a. a) env f.shape.reach f v p i.place as').walk o))
  super_same p i as' None = refused_same (fault p NoSuchName) as'
  super_same p i as' (Some v) = bind_same (ap (λ l. (rule.sought looked W env i.place (o.upper i.text l) (map seen_arg as')).walk o) (labels_same as') ∙ sought_same i.place (o.upper i.text (labels as')) as') (λ f. above_same f.shape.reach f v p i.place as')

  rule_same : (w : Option RType) (y : Expr-F Expr) → (rule.rule looked W env w (seen_form y)).walk o ≡ (rule.rule (a_part env) (λ a. a) env w y).walk o
  rule_same w (ex.Integer p n) = refl
  rule_same w (ex.Negative p n) = refl
  rule_same w (ex.Boolean p b) = refl
  rule_same w (ex.String p s) = refl
  rule_same w (ex.Name i None) = name_same i None w
  rule_same w (ex.Name i (Some as')) = name_same i (Some as') w
  rule_same w (ex.SelfValue p) = refl
  rule_same w (ex.SelfType p) = refl
  rule_same w (ex.Super p i as') = super_same p i as' env.scope.self
  rule_same w (ex.ImplicitMember p i None) = implicit_same p i None w
  rule_same w (ex.ImplicitMember p i (Some as')) = implicit_same p i (Some as') w
  rule_same w (ex.Parenthesised p a) = refl
  rule_same w (ex.Prefix p s a) = refl
  rule_same w (ex.Members a ms) = ap (λ y. (rule.rule looked W env w y).walk o) (members_form a ms) ∙ bind_same refl (λ b. bind_same (chain_same ms (begun b) (place_of a)) (λ c. refl))
  rule_same w (ex.Chain a os) = ap (λ z. bind ((rule.plain looked W env z (seen a)).walk o) (λ b. bind ((rule.operands looked W env (type_of b) (map seen_operand os) (place_of a)).walk o) (λ r. Ok (value (x.Chain b r.0 r.1))))) (expected_same os)
      ∙ bind_same refl (λ b. bind_same (operands_same (type_of b) os (place_of a)) (λ r. refl))

-- the walk over a tree is the walk of its rule
pub infer_is : (env : Env) (o : Oracle) (a : Expr) (w : Option RType) → infer env a w o ≡ (judged env w a).walk o
unfolding infer
infer_is env o a w =
    ap (λ b. para-Expr Walk (infer_step env) b w o) (sym (roll-out-Expr a))
    ∙ ap (λ k. k w o) (para-roll-Expr Walk (infer_step env) (out-Expr a))
    ∙ rule_same env o w (out-Expr a)
