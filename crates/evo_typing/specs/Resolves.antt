-- What an expression is once its names are resolved: each name by what its search finds, each part by what it resolves to where its type is expected.
use Rattle.std.specs.Prelude.{◌≡◌, ℕ, ℤ, pos, neg_ℤ, Bool, true, false, List, [], ◌∷◌, ◌++◌, Option, Some, None, Ok}
use Rattle.evo_base.specs.declared.place.Place.{Place}
use Rattle.evo_base.specs.declared.key.Key.{Key}
use Rattle.evo_tree.specs.declared.name.Identifier.{Identifier}
use Rattle.evo_tree.specs.declared.expression.PrefixOperator.{PrefixOperator}
use Rattle.evo_tree.specs.declared.expression.InfixOperator.{InfixOperator}
use Rattle.evo_tree.specs.declared.expression.Expr.{Expr, Expr-F, out-Expr}
use Rattle.evo_tree.specs.declared.expression.Expr.TheOpen as ex
use Rattle.evo_resolved.specs.declared.resolved_type.RType.{RType}
use Rattle.evo_resolved.specs.declared.resolved_type.RType.TheVariants as ty
use Rattle.evo_resolved.specs.declared.resolved_type.RTypeName.{RTypeName}
use Rattle.evo_resolved.specs.declared.path.ConfPath.{ConfPath}
use Rattle.evo_resolved.specs.declared.expression.Literal.TheVariants as literal
use Rattle.evo_resolved.specs.declared.expression.Reach.{Reach}
use Rattle.evo_resolved.specs.declared.expression.Reach.TheVariants as reach
use Rattle.evo_resolved.specs.declared.expression.Builtin.TheVariants as builtin
use Rattle.evo_resolved.specs.declared.expression.RUse.{RUse}
use Rattle.evo_resolved.specs.declared.expression.RExpr.{RExpr}
use Rattle.evo_resolved.specs.declared.expression.RExpr.TheVariants as x
use Rattle.evo_resolved.specs.declared.expression.RMember.{RMember}
use Rattle.evo_resolved.specs.declared.expression.RMember.TheVariants as y
use Rattle.evo_names.specs.Listed.{Text}
use Rattle.evo_names.specs.Typing.{bool, is_message}
use Rattle.evo_typing.specs.Shapes.{Shape, Found, Written, Named, Meaning, Env, Denoted, value, names}
use Rattle.evo_typing.specs.Shapes as shapes
use Rattle.evo_typing.specs.Trees.{has_value, type_of, last_type, signed, right_expected, chain_expected, labels, call_labels, given, even, Slot, slots, use_types, type_name, use_of, is_short}
use Rattle.evo_typing.specs.Places.{Chain, at_value, at_type, denoted, begun, TypedChain, root_of, steps_of, mutated}

abbrev pub negative : ℕ → ℤ
negative n = neg_ℤ (pos n)

abbrev pub Arguments : Type 0
Arguments = List (Option Identifier × Expr)

-- a type stands for another in this signature, whose path is not too long
abbrev pub Stands : Env → Shape → List RType → RType → RType → Type 0
Stands env s ts t u = env.names.stands s.signature ts t (Some u) × (is_short u ≡ true)

-- where a type is expected, a value of it stays as it is, and an object of a class below becomes one of it
pub data Converts : RExpr → RExpr → Type 0 where
  kept : {b : RExpr} → Converts b b
  raised : {b : RExpr} (top : Key) → Converts b (x.Upcast b (ty.Named top))

-- the first path to each conformance that is required
pub data Paths (env : Env) (s : Shape) (ts : List RType) : List (RType × Key) → List ConfPath → Type 0 where
  no_path : Paths env s ts [] []
  one_path : {t u : RType} {p : Key} {q : ConfPath} {rs : List (RType × Key)} {qs : List ConfPath} → Stands env s ts t u → env.names.path u p (Some q) → Paths env s ts rs qs → Paths env s ts ((t, p) ∷ rs) (q ∷ qs)

-- both sides of each `==`, and that they are short
pub data Equals (env : Env) (s : Shape) (ts : List RType) : List (RType × RType) → Type 0 where
  no_equal : Equals env s ts []
  equals : {t u v : RType} {rs : List (RType × RType)} → Stands env s ts t v → Stands env s ts u v → Equals env s ts rs → Equals env s ts ((t, u) ∷ rs)

-- each of these properties has a setter
pub data AllSet (env : Env) : List RUse → Type 0 where
  none_set : AllSet env []
  one_set : {u : RUse} {us : List RUse} (s : Shape) → env.names.shape u.key (Some s) → s.settable ≡ true → AllSet env us → AllSet env (u ∷ us)

-- a message that is never printed, or none
abbrev pub AreMessages : Arguments → Type 0
AreMessages [] = Unit {0}
AreMessages (a ∷ as') = (is_message a.1 ≡ true) × AreMessages as'

-- ---- expressions

mutual
  -- where this type is expected, or none
  pub data Resolves (env : Env) : Option RType → Expr → Denoted → Type 0 where
    level : {w : Option RType} {e : Expr} {b : Denoted} → ResolvesLevel env w (out-Expr e) b → Resolves env w e b

  pub data ResolvesLevel (env : Env) : Option RType → Expr-F Expr → Denoted → Type 0 where
    integer : {w : Option RType} {p : Place} {n : ℕ} → ResolvesLevel env w (ex.Integer p n) (value (x.Literal (literal.Integer (pos n))))
    minus : {w : Option RType} {p : Place} {n : ℕ} → ResolvesLevel env w (ex.Negative p n) (value (x.Literal (literal.Integer (negative n))))
    boolean : {w : Option RType} {p : Place} {t : Bool} → ResolvesLevel env w (ex.Boolean p t) (value (x.Literal (literal.Boolean t)))
    text : {w : Option RType} {p : Place} {s : Text} → ResolvesLevel env w (ex.String p s) (value (x.Literal (literal.String s)))
    name : {w : Option RType} {i : Identifier} {as' : Option Arguments} {m : Meaning} {b : Denoted} → env.names.name i.text (call_labels as') (Ok m) → ResolvesMeaning env m i.place as' b → ResolvesLevel env w (ex.Name i as') b
    self : {w : Option RType} {p : Place} {v : RType} → env.scope.self ≡ Some v → ResolvesLevel env w (ex.SelfValue p) (value (x.SelfValue p v))
    self_type : {w : Option RType} {p : Place} {t : RType} → env.names.self_type ≡ Some t → ResolvesLevel env w (ex.SelfType p) (names (record { place = p; aliases = []; ty = t }))
    above : {w : Option RType} {p : Place} {i : Identifier} {as' : Arguments} {f : Found} {v : RType} {b : Denoted} → env.scope.self ≡ Some v → env.names.upper i.text (labels as') (Ok f) → ResolvesAbove env f.shape.reach f v p i.place as' b → ResolvesLevel env w (ex.Super p i as') b
    implicit : {w : RType} {p : Place} {i : Identifier} {as' : Option Arguments} {n : Named} {b : Denoted} → env.names.implicit w i.text (call_labels as') (Ok n) → ResolvesNamed env n None i.place as' b → ResolvesLevel env (Some w) (ex.ImplicitMember p i as') b
    parens : {w : Option RType} {p : Place} {e : Expr} {b : RExpr} → Resolves env w e (value b) → has_value (type_of b) ≡ true → ResolvesLevel env w (ex.Parenthesised p e) (value b)
    prefix : {w : Option RType} {p : Place} {o : PrefixOperator} {e : Expr} {b : RExpr} → Resolves env (Some (signed o)) e (value b) → ResolvesLevel env w (ex.Prefix p o e) (value (x.Prefix o b))
    chain : {w : Option RType} {e : Expr} {os : List (InfixOperator × Expr)} {b : RExpr} {bs : List (InfixOperator × RExpr)} {t : RType} → Resolves env (chain_expected os) e (value b) → ResolvesOperands env (type_of b) os bs t → ResolvesLevel env w (ex.Chain e os) (value (x.Chain b bs t))
    members : {w : Option RType} {e : Expr} {ms : List (Identifier × Option Arguments)} {b : Denoted} {c : Chain} → Resolves env None e b → ResolvesChain env (begun b) ms c → ResolvesLevel env w (ex.Members e ms) (denoted c)

  -- an operand is expected to be what the type before it asks for
  pub data ResolvesOperands (env : Env) : RType → List (InfixOperator × Expr) → List (InfixOperator × RExpr) → RType → Type 0 where
    operands_end : {t : RType} → ResolvesOperands env t [] [] t
    operands_more : {t u v : RType} {z : Option RType} {o : InfixOperator} {e : Expr} {b : RExpr} {os : List (InfixOperator × Expr)} {bs : List (InfixOperator × RExpr)} → right_expected env.declared.is_class o t ≡ Some z → Resolves env z e (value b) → env.declared.operated o t (type_of b) ≡ Some u → ResolvesOperands env u os bs v → ResolvesOperands env t ((o, e) ∷ os) ((o, b) ∷ bs) v

  pub data ResolvesChain (env : Env) : Chain → List (Identifier × Option Arguments) → Chain → Type 0 where
    chain_end : {c : Chain} → ResolvesChain env c [] c
    of_value : {b : RExpr} {ns : List RMember} {i : Identifier} {as' : Option Arguments} {f : Found} {m c : Chain} {ms : List (Identifier × Option Arguments)} →
        has_value (last_type (type_of b) ns) ≡ true → env.names.member (last_type (type_of b) ns) i.text (call_labels as') (Ok f) → ResolvesBehind env f.shape.mutates f b ns i.place as' m → ResolvesChain env m ms c → ResolvesChain env (at_value b ns) ((i, as') ∷ ms) c
    of_type : {t : RTypeName} {i : Identifier} {as' : Option Arguments} {n : Named} {b : Denoted} {ms : List (Identifier × Option Arguments)} {c : Chain} →
        env.names.inner t i.text (call_labels as') (Ok n) → ResolvesNamed env n (Some t) i.place as' b → ResolvesChain env (begun b) ms c → ResolvesChain env (at_type t) ((i, as') ∷ ms) c

  -- what a name means that stands alone
  pub data ResolvesMeaning (env : Env) : Meaning → Place → Option Arguments → Denoted → Type 0 where
    a_local : {l : shapes.Local} {p : Place} {as' : Option Arguments} → ResolvesMeaning env (Meaning.local l) p as' (value (x.Local p l.number l.type))
    -- a member of `self`
    an_own : {f : Found} {p : Place} {as' : Option Arguments} {v : RType} {c : Chain} → env.scope.self ≡ Some v → ResolvesBehind env f.shape.mutates f (x.SelfValue p v) [] p as' c → ResolvesMeaning env (Meaning.own f) p as' (denoted c)
    a_named : {n : Named} {p : Place} {as' : Option Arguments} {b : Denoted} → ResolvesNamed env n None p as' b → ResolvesMeaning env (Meaning.named n) p as' b
    a_print : {p : Place} {as' : Option Arguments} {bs : List RExpr} → ResolvesPrinted env (given as') bs → ResolvesMeaning env (Meaning.builtin builtin.Print) p as' (value (x.Builtin p builtin.Print bs))
    a_precondition : {p : Place} {as' : Option Arguments} {l : Option Identifier} {e : Expr} {ms : Arguments} {b : RExpr} → given as' ≡ (l, e) ∷ ms → Resolves env (Some bool) e (value b) → AreMessages ms → ResolvesMeaning env (Meaning.builtin builtin.Precondition) p as' (value (x.Builtin p builtin.Precondition (b ∷ [])))
    a_fatal : {p : Place} {as' : Option Arguments} → AreMessages (given as') → ResolvesMeaning env (Meaning.builtin builtin.Fatal) p as' (value (x.Builtin p builtin.Fatal []))

  -- each with nothing expected
  pub data ResolvesPrinted (env : Env) : Arguments → List RExpr → Type 0 where
    printed_end : ResolvesPrinted env [] []
    printed_more : {l : Option Identifier} {e : Expr} {b : RExpr} {as' : Arguments} {bs : List RExpr} → Resolves env None e (value b) → ResolvesPrinted env as' bs → ResolvesPrinted env ((l, e) ∷ as') (b ∷ bs)

  -- what needs no value before it; the type behind which it stands may be written
  pub data ResolvesNamed (env : Env) : Named → Option RTypeName → Place → Option Arguments → Denoted → Type 0 where
    named_case : {f : Found} {t : Option RTypeName} {p : Place} {as' : Option Arguments} {u : RUse} {bs : List RExpr} → ResolvesUse env f t p (given as') u bs → ResolvesNamed env (Named.case f) t p as' (value (x.Case (u, bs)))
    named_free : {f : Found} {t : Option RTypeName} {p : Place} {as' : Option Arguments} {u : RUse} {bs : List RExpr} → ResolvesUse env f t p (given as') u bs → ResolvesNamed env (Named.free f) t p as' (value (x.Call (u, bs)))
    named_new : {f : Found} {n : Written} {t : Option RTypeName} {p : Place} {as' : Option Arguments} {u : RUse} {bs : List RExpr} → ResolvesUse env f (Some (type_name t p n)) p (given as') u bs → ResolvesNamed env (Named.new f n) t p as' (value (x.New (u, bs)))
    named_type : {n : Written} {available : Bool} {t : Option RTypeName} {p : Place} {as' : Option Arguments} → available ≡ true → ResolvesNamed env (Named.type n available) t p as' (names (type_name t p n))

  -- A member behind a value. What mutates is called on a place, which has types, and whose properties can be set.
  pub data ResolvesBehind (env : Env) : Bool → Found → RExpr → List RMember → Place → Option Arguments → Chain → Type 0 where
    property : {f : Found} {b : RExpr} {ns : List RMember} {p : Place} {u : RUse} → ResolvesUse env f None p [] u [] → ResolvesBehind env false f b ns p None (at_value b (ns ++ y.Property u ∷ []))
    calling : {f : Found} {b : RExpr} {ns : List RMember} {p : Place} {as' : Arguments} {u : RUse} {bs : List RExpr} → ResolvesUse env f None p as' u bs → ResolvesBehind env false f b ns p (Some as') (at_value b (ns ++ y.Called (u, bs) ∷ []))
    mutating : {f : Found} {b : RExpr} {ns : List RMember} {p : Place} {as' : Option Arguments} {u : RUse} {bs : List RExpr} {c : Chain} → ResolvesUse env f None p (given as') u bs →
        TypedChain env.declared env.scope (at_value b ns) → mutated b (root_of env b ns) (u, bs) ≡ Some c → AllSet env (steps_of (root_of env b ns)) → ResolvesBehind env true f b ns p as' c

  -- A member behind `super`: what the object's class decides is called from the superclass on, all else as behind `self`.
  pub data ResolvesAbove (env : Env) : Reach → Found → RType → Place → Place → Arguments → Denoted → Type 0 where
    dispatched : {f : Found} {v : RType} {q p : Place} {as' : Arguments} {u : RUse} {bs : List RExpr} → ResolvesUse env f None p as' u bs → ResolvesAbove env reach.Dispatched f v q p as' (value (x.Super (u, bs)))
    static : {f : Found} {v : RType} {q p : Place} {as' : Arguments} {u : RUse} {bs : List RExpr} → ResolvesUse env f None p as' u bs → ResolvesAbove env reach.Static f v q p as' (value (x.Members (x.SelfValue q v) (y.Called (u, bs) ∷ [])))
    witness : {f : Found} {v : RType} {q p : Place} {as' : Arguments} {u : RUse} {bs : List RExpr} → ResolvesUse env f None p as' u bs → ResolvesAbove env reach.Witness f v q p as' (value (x.Members (x.SelfValue q v) (y.Called (u, bs) ∷ [])))

  -- what was found, used with these arguments
  pub data ResolvesUse (env : Env) : Found → Option RTypeName → Place → Arguments → RUse → List RExpr → Type 0 where
    used : {f : Found} {t : Option RTypeName} {p : Place} {as' : Arguments} {own : List (Option RExpr)} {ts : List RType} {bs : List RExpr} {qs : List ConfPath} {u : RType} →
        even f.shape.params as' ≡ true → use_types f own ≡ Some ts → ResolvesArguments env f.shape ts (slots f as') own bs → Paths env f.shape ts f.shape.required qs → Equals env f.shape ts f.shape.equal →
        f.available ≡ true → Stands env f.shape ts f.shape.result u → ResolvesUse env f t p as' (use_of f t p ts qs u) bs

  -- What chooses a generic parameter is judged with nothing expected, and its own type is chosen. Each argument then is converted to its parameter's type.
  pub data ResolvesArguments (env : Env) : Shape → List RType → List (Slot Expr) → List (Option RExpr) → List RExpr → Type 0 where
    arguments_end : {s : Shape} {ts : List RType} → ResolvesArguments env s ts [] [] []
    arguments_chooser : {s : Shape} {ts : List RType} {a : Slot Expr} {t : RType} {b c : RExpr} {ss : List (Slot Expr)} {own : List (Option RExpr)} {bs : List RExpr} → a.chooses ≡ true → Resolves env None a.arg (value b) → has_value (type_of b) ≡ true → Stands env s ts a.param t → Converts b c → ResolvesArguments env s ts ss own bs → ResolvesArguments env s ts (a ∷ ss) (Some b ∷ own) (c ∷ bs)
    arguments_other : {s : Shape} {ts : List RType} {a : Slot Expr} {t : RType} {b c : RExpr} {ss : List (Slot Expr)} {own : List (Option RExpr)} {bs : List RExpr} → a.chooses ≡ false → Stands env s ts a.param t → Resolves env (Some t) a.arg (value b) → Converts b c → ResolvesArguments env s ts ss own bs → ResolvesArguments env s ts (a ∷ ss) (None ∷ own) (c ∷ bs)
