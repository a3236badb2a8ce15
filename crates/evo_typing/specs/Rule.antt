-- How an expression is judged: in which order its parts are looked at, what is then needed, and which fault stands where when it is wanting. One clause a form.
use Rattle.std.specs.Prelude.{◌≡◌, pos, Bool, true, false, List, [], ◌∷◌, ◌++◌, Option, Some, None, Result, Ok, Err}
use Rattle.evo_base.specs.declared.place.Place.{Place}
use Rattle.evo_base.specs.declared.key.Key.{Key}
use Rattle.evo_base.specs.declared.fault_kind.FaultKind.{FaultKind}
use Rattle.evo_base.specs.declared.fault_kind.FaultKind.TheVariants.{NoSuchName, WrongLabels, WrongType, NoConformance, NoSetter, Ambiguous, Unavailable, PathTooLong}
use Rattle.evo_tree.specs.declared.module.SourceFault.{SourceFault}
use Rattle.evo_tree.specs.declared.name.Identifier.{Identifier}
use Rattle.evo_tree.specs.declared.expression.InfixOperator.{InfixOperator}
use Rattle.evo_tree.specs.declared.expression.Expr.{Expr, Expr-F}
use Rattle.evo_tree.specs.declared.expression.Expr.TheOpen as ex
use Rattle.evo_resolved.specs.declared.resolved_type.RType.{RType}
use Rattle.evo_resolved.specs.declared.resolved_type.RType.TheVariants as ty
use Rattle.evo_resolved.specs.declared.resolved_type.RTypeName.{RTypeName}
use Rattle.evo_resolved.specs.declared.declaration.Signature.{Signature}
use Rattle.evo_resolved.specs.declared.path.ConfPath.{ConfPath}
use Rattle.evo_resolved.specs.declared.expression.Literal.TheVariants as literal
use Rattle.evo_resolved.specs.declared.expression.Reach.{Reach}
use Rattle.evo_resolved.specs.declared.expression.Reach.TheVariants as reach
use Rattle.evo_resolved.specs.declared.expression.Builtin.{Builtin}
use Rattle.evo_resolved.specs.declared.expression.Builtin.TheVariants as builtin
use Rattle.evo_resolved.specs.declared.expression.RUse.{RUse}
use Rattle.evo_resolved.specs.declared.expression.RExpr.{RExpr}
use Rattle.evo_resolved.specs.declared.expression.RExpr.TheVariants as x
use Rattle.evo_resolved.specs.declared.expression.RMember.{RMember}
use Rattle.evo_resolved.specs.declared.expression.RMember.TheVariants as y
use Rattle.evo_judging.specs.Judge.{Judge, gives, refuses, needs, ensures, learns, follows, splits, each}
use Rattle.evo_names.specs.Listed.{Text}
use Rattle.evo_names.specs.Typing.{bool, is_bool, is_plain, is_message, prefix_type}
use Rattle.evo_typing.specs.Shapes.{Shape, Declared, Found, Named, Meaning, Env, Denoted, value, names}
use Rattle.evo_typing.specs.Trees.{has_value, type_of, last_type, signed, right_expected, chain_expected, place_of, is_implicit, labels, call_labels, given, even, Slot, slots, use_types, type_name, use_of, paired, chooser_place, is_short, plain_of}
use Rattle.evo_typing.specs.Places.{Chain, at_value, at_type, denoted, begun, Root, root_of, steps_of, mutated}
use Rattle.evo_typing.specs.Resolves.{negative}

-- what a walk asks, and the rest of the checker answers
pub record Oracle : Type 0 where
  pub name : Text → Option (List Text) → Result Meaning FaultKind
  pub member : RType → Text → Option (List Text) → Result Found FaultKind
  pub inner : RTypeName → Text → Option (List Text) → Result Named FaultKind
  pub implicit : RType → Text → Option (List Text) → Result Named FaultKind
  pub upper : Text → List Text → Result Found FaultKind
  pub shape : Key → Option Shape
  pub stands : Signature → List RType → RType → Option RType
  pub path : RType → Key → Option ConfPath
  pub same : RType → RType → Bool

abbrev pub fault : Place → FaultKind → SourceFault
fault p k = record { kind = k; place = p }

-- whether it is so
abbrev pub Tells : Type 0 → Bool → Type 0
Tells P true = P
Tells P false = P → ⊥

abbrev pub raised_if : Bool → RExpr → RType → Option RExpr
raised_if true b t = Some (x.Upcast b t)
raised_if false b t = None

-- an object as one of a class above
abbrev pub raised : Declared → RExpr → RType → RType → Option RExpr
raised d b (ty.Named k) (ty.Named top) = raised_if (d.above top k) b (ty.Named top)
raised d b t u = None

abbrev pub kept_if : Bool → RExpr → Option RExpr → Option RExpr
kept_if true b o = Some b
kept_if false b o = o

abbrev pub Used : Type 0
Used = RUse × List RExpr

-- P judges a part where a type is expected, or none; `shown` is the part as it is written.
module _ {I A : Type 0} (P : Option RType → A → Judge I Oracle SourceFault Denoted) (shown : A → Expr) (env : Env) where
  abbrev pub Judges : Type 0 → Type 1
  Judges B = Judge I Oracle SourceFault B

  abbrev pub at : A → Place
  at a = place_of (shown a)

  abbrev pub wrong : A → SourceFault
  wrong a = fault (at a) WrongType

  -- ---- parts

  -- a value, and no type
  abbrev pub plain : Option RType → A → Judges RExpr
  plain w a = follows (P w a) (λ b. needs (wrong a) (plain_of b))

  -- a value of a type
  abbrev pub valued : Option RType → A → Judges RExpr
  valued w a = follows (plain w a) (λ b. follows (ensures (wrong a) (has_value (type_of b))) (λ u. gives b))

  -- it stays as it is, or becomes an object of a class above
  abbrev pub fitted : A → RExpr → RType → Judges RExpr
  fitted a b t = follows (learns (Tells (type_of b ≡ t)) (λ o. o.same (type_of b) t)) (λ s. needs (wrong a) (kept_if s b (raised env.declared b (type_of b) t)))

  abbrev pub converted : RType → A → Judges RExpr
  converted t a = follows (plain (Some t) a) (λ b. fitted a b t)

  -- ---- what is not found, or not usable: its arguments have types first

  abbrev pub tried_if : Bool → A → Judges (Unit {0})
  tried_if true a = gives tt
  tried_if false a = follows (valued None a) (λ b. gives tt)

  -- what begins with a dot has nothing that is expected of it
  abbrev pub tried : Option Identifier × A → Judges (Unit {0})
  tried a = tried_if (is_implicit (shown a.1)) a.1

  abbrev pub refused : {B : Type 0} → SourceFault → List (Option Identifier × A) → Judges B
  refused f as' = follows (each tried as') (λ us. refuses f)

  abbrev pub checked : Bool → SourceFault → List (Option Identifier × A) → Judges (Unit {0})
  checked true f as' = gives tt
  checked false f as' = refused f as'

  abbrev pub sought : {B : Type 0} → Place → Result B FaultKind → List (Option Identifier × A) → Judges B
  sought p (Ok f) as' = gives f
  sought p (Err k) as' = refused (fault p k) as'

  -- what a search finds
  abbrev pub found : {B : Type 0} → (Result B FaultKind → Type 0) → (Oracle → Result B FaultKind) → Place → List (Option Identifier × A) → Judges B
  found H ask p as' = follows (learns H ask) (λ r. sought p r as')

  -- ---- the use of what was found

  abbrev pub standing : Shape → List RType → Place → RType → Judges RType
  standing s ts p t =
      follows (learns (env.names.stands s.signature ts t) (λ o. o.stands s.signature ts t))
      (λ u. follows (needs (fault p NoConformance) u)
      (λ v. follows (ensures (fault p PathTooLong) (is_short v))
      (λ u. gives v)))

  abbrev pub chooser_if : Bool → A → Judges (Option RExpr)
  chooser_if true a = follows (valued None a) (λ b. gives (Some b))
  chooser_if false a = gives None

  -- what chooses a generic parameter, as it is
  abbrev pub chooser : Slot A → Judges (Option RExpr)
  chooser s = chooser_if s.chooses s.arg

  -- an argument where its type is known
  abbrev pub filled : Shape → List RType → Place → Slot A × Option RExpr → Judges RExpr
  filled s ts p q = follows (standing s ts p q.0.param) (λ t. splits q.1 (converted t q.0.arg) (λ b. fitted q.0.arg b t))

  abbrev pub path : Shape → List RType → (RType → Place) → RType × Key → Judges ConfPath
  path s ts place r =
      follows (standing s ts (place r.0) r.0)
      (λ t. follows (learns (env.names.path t r.1) (λ o. o.path t r.1))
      (λ q. needs (fault (place r.0) NoConformance) q))

  abbrev pub equal : Shape → List RType → (RType → Place) → RType × RType → Judges (Unit {0})
  equal s ts place r =
      follows (standing s ts (place r.0) r.0)
      (λ t. follows (standing s ts (place r.1) r.1)
      (λ u. follows (learns (Tells (t ≡ u)) (λ o. o.same t u))
      (λ b. ensures (fault (place r.0) NoConformance) b)))

  abbrev pub using : Found → Option RTypeName → Place → List (Option Identifier × A) → Judges Used
  using f t p as' =
      follows (checked (even f.shape.params as') (fault p WrongLabels) as')
      (λ u. follows (each chooser (slots f as'))
      (λ own. follows (needs (fault p Ambiguous) (use_types f own))
      (λ ts. follows (each (filled f.shape ts p) (paired (slots f as') own))
      (λ bs. follows (each (path f.shape ts (λ r. chooser_place at (slots f as') r p)) f.shape.required)
      (λ qs. follows (each (equal f.shape ts (λ r. chooser_place at (slots f as') r p)) f.shape.equal)
      (λ es. follows (ensures (fault p Unavailable) f.available)
      (λ u. follows (standing f.shape ts p f.shape.result)
      (λ v. gives (use_of f t p ts qs v, bs)))))))))

  abbrev pub named : Named → Option RTypeName → Place → Option (List (Option Identifier × A)) → Judges Denoted
  named (Named.case f) t p as' = follows (using f t p (given as')) (λ a. gives (value (x.Case a)))
  named (Named.free f) t p as' = follows (using f t p (given as')) (λ a. gives (value (x.Call a)))
  named (Named.new f n) t p as' = follows (using f (Some (type_name t p n)) p (given as')) (λ a. gives (value (x.New a)))
  named (Named.type n available) t p as' = follows (ensures (fault p Unavailable) available) (λ u. gives (names (type_name t p n)))

  -- ---- members

  abbrev pub member : Found → Place → Option (List (Option Identifier × A)) → Judges RMember
  member f p None = follows (using f None p []) (λ a. gives (y.Property a.0))
  member f p (Some as') = follows (using f None p as') (λ a. gives (y.Called a))

  -- a property of a place has a setter
  abbrev pub set : Place → RUse → Judges (Unit {0})
  set p u =
      follows (learns (env.names.shape u.key) (λ o. o.shape u.key))
      (λ s. follows (needs (fault p NoSetter) s)
      (λ s. ensures (fault p NoSetter) s.settable))

  abbrev pub mutating : RExpr → Root → Place → Used → Judges Chain
  mutating b s p a = follows (needs (fault p NoSetter) (mutated b s a)) (λ c. follows (each (set p) (steps_of s)) (λ us. gives c))

  -- by whether it mutates
  abbrev pub behind : Bool → Found → RExpr → List RMember → Place → Option (List (Option Identifier × A)) → Judges Chain
  behind false f b ns p as' = follows (member f p as') (λ m. gives (at_value b (ns ++ m ∷ [])))
  behind true f b ns p as' = follows (using f None p (given as')) (λ a. mutating b (root_of env b ns) p a)

  abbrev pub above : Reach → Found → RType → Place → Place → List (Option Identifier × A) → Judges Denoted
  above reach.Dispatched f v q p as' = follows (using f None p as') (λ a. gives (value (x.Super a)))
  above reach.Static f v q p as' = follows (using f None p as') (λ a. gives (value (x.Members (x.SelfValue q v) (y.Called a ∷ []))))
  above reach.Witness f v q p as' = follows (using f None p as') (λ a. gives (value (x.Members (x.SelfValue q v) (y.Called a ∷ []))))

  -- ---- names that stand alone

  abbrev pub printed : Option Identifier × A → Judges RExpr
  printed a = follows (plain None a.1) (λ b. follows (ensures (wrong a.1) (is_plain (type_of b))) (λ u. gives b))

  -- a literal string, which is never printed
  abbrev pub message : Option Identifier × A → Judges (Unit {0})
  message a = follows (plain None a.1) (λ b. ensures (wrong a.1) (is_message (shown a.1)))

  abbrev pub condition : A → Judges RExpr
  condition a = follows (plain (Some bool) a) (λ b. follows (ensures (wrong a) (is_bool (type_of b))) (λ u. gives b))

  abbrev pub built : Builtin → Place → List (Option Identifier × A) → Judges Denoted
  built builtin.Print p as' = follows (each printed as') (λ bs. gives (value (x.Builtin p builtin.Print bs)))
  built builtin.Precondition p [] = refuses (fault p WrongLabels)
  built builtin.Precondition p (a ∷ as') = follows (condition a.1) (λ b. follows (each message as') (λ us. gives (value (x.Builtin p builtin.Precondition (b ∷ [])))))
  built builtin.Fatal p as' = follows (each message as') (λ us. gives (value (x.Builtin p builtin.Fatal [])))

  abbrev pub meaning : Meaning → Place → Option (List (Option Identifier × A)) → Judges Denoted
  meaning (Meaning.local l) p as' = gives (value (x.Local p l.number l.type))
  meaning (Meaning.own f) p as' = follows (needs (fault p NoSuchName) env.scope.self) (λ v. follows (behind f.shape.mutates f (x.SelfValue p v) [] p as') (λ c. gives (denoted c)))
  meaning (Meaning.named n) p as' = named n None p as'
  meaning (Meaning.builtin b) p as' = built b p (given as')

  -- ---- chains

  -- `p` is the place of the first operand
  abbrev pub operands : RType → List (InfixOperator × A) → Place → Judges (List (InfixOperator × RExpr) × RType)
  operands t [] p = gives ([], t)
  operands t (q ∷ os) p =
      follows (needs (fault p WrongType) (right_expected env.declared.is_class q.0 t))
      (λ z. follows (plain z q.1)
      (λ b. follows (needs (wrong q.1) (env.declared.operated q.0 t (type_of b)))
      (λ u. follows (operands u os p)
      (λ r. gives ((q.0, b) ∷ r.0, r.1)))))

  -- `p` is the place of the first token
  abbrev pub chain : Chain → List (Identifier × Option (List (Option Identifier × A))) → Place → Judges Chain
  chain c [] p = gives c
  chain (at_value b ns) (q ∷ ms) p =
      follows (checked (has_value (last_type (type_of b) ns)) (fault p WrongType) (given q.1))
      (λ u. follows (found (env.names.member (last_type (type_of b) ns) q.0.text (call_labels q.1)) (λ o. o.member (last_type (type_of b) ns) q.0.text (call_labels q.1)) q.0.place (given q.1))
      (λ f. follows (behind f.shape.mutates f b ns q.0.place q.1)
      (λ c. chain c ms p)))
  chain (at_type t) (q ∷ ms) p =
      follows (found (env.names.inner t q.0.text (call_labels q.1)) (λ o. o.inner t q.0.text (call_labels q.1)) q.0.place (given q.1))
      (λ n. follows (named n (Some t) q.0.place q.1)
      (λ b. chain (begun b) ms p))

  -- ---- the forms

  abbrev pub rule : Option RType → Expr-F A → Judges Denoted
  rule w (ex.Integer p n) = gives (value (x.Literal (literal.Integer (pos n))))
  rule w (ex.Negative p n) = gives (value (x.Literal (literal.Integer (negative n))))
  rule w (ex.Boolean p t) = gives (value (x.Literal (literal.Boolean t)))
  rule w (ex.String p s) = gives (value (x.Literal (literal.String s)))
  rule w (ex.Name i as') = follows (found (env.names.name i.text (call_labels as')) (λ o. o.name i.text (call_labels as')) i.place (given as')) (λ m. meaning m i.place as')
  rule w (ex.SelfValue p) = follows (needs (fault p NoSuchName) env.scope.self) (λ v. gives (value (x.SelfValue p v)))
  rule w (ex.SelfType p) = follows (needs (fault p NoSuchName) env.names.self_type) (λ t. gives (names (record { place = p; aliases = []; ty = t })))
  rule w (ex.Super p i as') =
      splits env.scope.self (refused (fault p NoSuchName) as')
      (λ v. follows (found (env.names.upper i.text (labels as')) (λ o. o.upper i.text (labels as')) i.place as')
      (λ f. above f.shape.reach f v p i.place as'))
  rule w (ex.ImplicitMember p i as') =
      splits w (refused (fault p WrongType) (given as'))
      (λ t. follows (found (env.names.implicit t i.text (call_labels as')) (λ o. o.implicit t i.text (call_labels as')) i.place (given as'))
      (λ n. named n None i.place as'))
  rule w (ex.Parenthesised p a) = follows (valued w a) (λ b. gives (value b))
  rule w (ex.Prefix p o a) = follows (plain (Some (signed o)) a) (λ b. follows (needs (wrong a) (prefix_type o (type_of b))) (λ t. gives (value (x.Prefix o b))))
  rule w (ex.Members a ms) = follows (P None a) (λ b. follows (chain (begun b) ms (at a)) (λ c. gives (denoted c)))
  rule w (ex.Chain a os) = follows (plain (chain_expected os) a) (λ b. follows (operands (type_of b) os (at a)) (λ r. gives (value (x.Chain b r.0 r.1))))
