-- When a resolved expression has types, by the declarations alone.
use Rattle.std.specs.Prelude.{◌≡◌, ℕ, true, List, [], ◌∷◌, Some, slice_get}
use Rattle.evo_base.specs.declared.place.Place.{Place}
use Rattle.evo_base.specs.declared.key.Key.{Key}
use Rattle.evo_tree.specs.declared.expression.PrefixOperator.{PrefixOperator}
use Rattle.evo_tree.specs.declared.expression.InfixOperator.{InfixOperator}
use Rattle.evo_resolved.specs.declared.resolved_type.RType.{RType}
use Rattle.evo_resolved.specs.declared.resolved_type.RType.TheVariants as ty
use Rattle.evo_resolved.specs.declared.declaration.Signature.{Signature}
use Rattle.evo_resolved.specs.declared.path.ConfPath.{ConfPath}
use Rattle.evo_resolved.specs.declared.expression.Literal.{Literal}
use Rattle.evo_resolved.specs.declared.expression.Builtin.TheVariants as builtin
use Rattle.evo_resolved.specs.declared.expression.RUse.{RUse}
use Rattle.evo_resolved.specs.declared.expression.Variable.{Variable}
use Rattle.evo_resolved.specs.declared.expression.Variable.TheVariants as variable
use Rattle.evo_resolved.specs.declared.expression.RExpr.{RExpr, RExpr-F, out-RExpr}
use Rattle.evo_resolved.specs.declared.expression.RExpr.TheOpen as r
use Rattle.evo_resolved.specs.declared.expression.RMember.{RMember, RMember-F, out-RMember}
use Rattle.evo_names.specs.Typing.{is_bool, is_plain, prefix_type}
use Rattle.evo_typing.specs.Shapes.{Shape, Declared, Scope, Before, nothing, before, super, Suits}
use Rattle.evo_typing.specs.Trees.{type_of, member_type}

-- each conformance that is required has a path that leads to it
pub data AllLead (d : Declared) (s : Signature) (ts : List RType) : List (RType × Key) → List ConfPath → Type 0 where
  none_required : AllLead d s ts [] []
  one_required : {t u : RType} {p : Key} {q : ConfPath} {rs : List (RType × Key)} {qs : List ConfPath} → d.stands s ts t u → d.leads q u p → AllLead d s ts rs qs → AllLead d s ts ((t, p) ∷ rs) (q ∷ qs)

-- the two sides of each `==` stand for one type
pub data AllEqual (d : Declared) (s : Signature) (ts : List RType) : List (RType × RType) → Type 0 where
  none_equal : AllEqual d s ts []
  one_equal : {t u v : RType} {rs : List (RType × RType)} → d.stands s ts t v → d.stands s ts u v → AllEqual d s ts rs → AllEqual d s ts ((t, u) ∷ rs)

-- a use fits the declaration that its key names, and what is before it
pub record Fits (d : Declared) (b : Before) (u : RUse) (shape : Shape) : Type 0 where
  pub is : d.shape u.key shape
  pub reach : u.reach ≡ shape.reach
  pub suits : Suits d shape.owner u.types b
  pub conforms : AllLead d shape.signature u.types shape.required u.paths
  pub equal : AllEqual d shape.signature u.types shape.equal
  pub result : d.stands shape.signature u.types shape.result u.ty

abbrev pub HasType : Scope → Variable → RType → Type 0
HasType c (variable.Local n) t = slice_get c.locals n ≡ Some t
HasType c variable.SelfValue t = c.self ≡ Some t

-- the property has a setter
abbrev pub CanSet : Declared → RUse → Type 0
CanSet d u = (s : Shape) × d.shape u.key s × (s.settable ≡ true)

mutual
  pub data Typed (d : Declared) (c : Scope) : RExpr → Type 0 where
    typed : {b : RExpr} → TypedLevel d c (out-RExpr b) → Typed d c b

  pub data TypedLevel (d : Declared) (c : Scope) : RExpr-F RExpr RMember → Type 0 where
    written : {l : Literal} → TypedLevel d c (r.Literal l)
    local : {p : Place} {n : ℕ} {t : RType} → slice_get c.locals n ≡ Some t → TypedLevel d c (r.Local p n t)
    self : {p : Place} {t : RType} → c.self ≡ Some t → TypedLevel d c (r.SelfValue p t)
    -- of a class properly below
    upcast : {b : RExpr} {k top : Key} → Typed d c b → type_of b ≡ ty.Named k → d.above top k ≡ true → (ty.Named k ≡ ty.Named top → ⊥) → TypedLevel d c (r.Upcast b (ty.Named top))
    prefix : {o : PrefixOperator} {b : RExpr} {t : RType} → Typed d c b → prefix_type o (type_of b) ≡ Some t → TypedLevel d c (r.Prefix o b)
    chain : {b : RExpr} {os : List (InfixOperator × RExpr)} {t : RType} → Typed d c b → TypedOperands d c (type_of b) os t → TypedLevel d c (r.Chain b os t)
    members : {b : RExpr} {m : RMember} {ms : List RMember} → Typed d c b → TypedMembers d c (type_of b) (m ∷ ms) → TypedLevel d c (r.Members b (m ∷ ms))
    mutate : {v : Variable} {ss : List RUse} {u : RUse} {bs : List RExpr} {t z : RType} → HasType c v t → TypedSteps d c t ss z → TypedUse d c (before z) u bs → TypedLevel d c (r.Mutate v ss (u, bs))
    case : {u : RUse} {bs : List RExpr} → TypedUse d c nothing u bs → TypedLevel d c (r.Case (u, bs))
    new : {u : RUse} {bs : List RExpr} → TypedUse d c nothing u bs → TypedLevel d c (r.New (u, bs))
    call : {u : RUse} {bs : List RExpr} → TypedUse d c nothing u bs → TypedLevel d c (r.Call (u, bs))
    above : {u : RUse} {bs : List RExpr} {v : RType} → c.self ≡ Some v → TypedUse d c (super v) u bs → TypedLevel d c (r.Super (u, bs))
    print : {p : Place} {bs : List RExpr} → TypedPrinted d c bs → TypedLevel d c (r.Builtin p builtin.Print bs)
    precondition : {p : Place} {b : RExpr} → Typed d c b → is_bool (type_of b) ≡ true → TypedLevel d c (r.Builtin p builtin.Precondition (b ∷ []))
    fatal : {p : Place} → TypedLevel d c (r.Builtin p builtin.Fatal [])

  -- operands behind one of the type, and the type of the whole
  pub data TypedOperands (d : Declared) (c : Scope) : RType → List (InfixOperator × RExpr) → RType → Type 0 where
    no_operand : {t : RType} → TypedOperands d c t [] t
    one_operand : {o : InfixOperator} {b : RExpr} {t u v : RType} {os : List (InfixOperator × RExpr)} → d.operated o t (type_of b) ≡ Some u → Typed d c b → TypedOperands d c u os v → TypedOperands d c t ((o, b) ∷ os) v

  pub data TypedMembers (d : Declared) (c : Scope) : RType → List RMember → Type 0 where
    no_member : {v : RType} → TypedMembers d c v []
    one_member : {v : RType} {m : RMember} {ms : List RMember} → TypedMember d c v (out-RMember m) → TypedMembers d c (member_type m) ms → TypedMembers d c v (m ∷ ms)

  -- a member of a value of the type
  pub data TypedMember (d : Declared) (c : Scope) : RType → RMember-F RExpr RMember → Type 0 where
    of_property : {v : RType} {u : RUse} → TypedUse d c (before v) u [] → TypedMember d c v (RMember-F.Property u)
    of_call : {v : RType} {u : RUse} {bs : List RExpr} → TypedUse d c (before v) u bs → TypedMember d c v (RMember-F.Called (u, bs))
    of_mutation : {v z : RType} {ss : List RUse} {u : RUse} {bs : List RExpr} → TypedSteps d c v ss z → TypedUse d c (before z) u bs → TypedMember d c v (RMember-F.Mutated ss (u, bs))

  -- properties that can be set, which lead from a type to a type
  pub data TypedSteps (d : Declared) (c : Scope) : RType → List RUse → RType → Type 0 where
    no_step : {v : RType} → TypedSteps d c v [] v
    one_step : {v z : RType} {s : RUse} {ss : List RUse} → TypedUse d c (before v) s [] → CanSet d s → TypedSteps d c s.ty ss z → TypedSteps d c v (s ∷ ss) z

  -- a use with its arguments
  pub data TypedUse (d : Declared) (c : Scope) : Before → RUse → List RExpr → Type 0 where
    used : {b : Before} {u : RUse} {bs : List RExpr} (shape : Shape) → Fits d b u shape → AllHave d c shape.signature u.types shape.params bs → TypedUse d c b u bs

  -- each argument has the type that its parameter stands for
  pub data AllHave (d : Declared) (c : Scope) : Signature → List RType → List RType → List RExpr → Type 0 where
    none_left : {s : Signature} {ts : List RType} → AllHave d c s ts [] []
    one_more : {s : Signature} {ts : List RType} {p : RType} {ps : List RType} {b : RExpr} {bs : List RExpr} → d.stands s ts p (type_of b) → Typed d c b → AllHave d c s ts ps bs → AllHave d c s ts (p ∷ ps) (b ∷ bs)

  pub data TypedPrinted (d : Declared) (c : Scope) : List RExpr → Type 0 where
    none_printed : TypedPrinted d c []
    one_printed : {b : RExpr} {bs : List RExpr} → is_plain (type_of b) ≡ true → Typed d c b → TypedPrinted d c bs → TypedPrinted d c (b ∷ bs)
