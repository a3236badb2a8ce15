-- What the type of each form rests on; places and conversions.
use Rattle.std.proofs.Common.{◌≡◌, Bool, true, false, List, [], ◌∷◌, ◌++◌, Some, refl, sym, ap, subst, ◌∙◌}
use Rattle.evo_base.specs.declared.place.Place.{Place}
use Rattle.evo_base.specs.declared.key.Key.{Key}
use Rattle.evo_tree.specs.declared.expression.PrefixOperator.{PrefixOperator}
use Rattle.evo_tree.specs.declared.expression.InfixOperator.{InfixOperator}
use Rattle.evo_resolved.specs.declared.resolved_type.RType.{RType}
use Rattle.evo_resolved.specs.declared.resolved_type.RType.TheVariants as ty
use Rattle.evo_resolved.specs.declared.expression.Builtin.TheVariants as builtin
use Rattle.evo_resolved.specs.declared.expression.RUse.{RUse}
use Rattle.evo_resolved.specs.declared.expression.Variable.{Variable}
use Rattle.evo_resolved.specs.declared.expression.Variable.TheVariants as variable
use Rattle.evo_resolved.specs.declared.expression.RExpr.{RExpr, RExpr-F, out-RExpr}
use Rattle.evo_resolved.specs.declared.expression.RExpr.TheOpen as r
use Rattle.evo_resolved.specs.declared.expression.RExpr.TheVariants as x
use Rattle.evo_resolved.specs.declared.expression.RMember.{RMember, RMember-F, out-RMember}
use Rattle.evo_resolved.specs.declared.expression.RMember.TheVariants as y
use Rattle.evo_names.specs.Typing.{is_bool, prefix_type}
use Rattle.evo_typing.specs.Shapes.{Declared, Scope, Env, nothing, before, super}
use Rattle.evo_typing.specs.Trees.{type_of, type_level, member_type, member_level, last_type}
use Rattle.evo_typing.specs.Typed.{Typed, typed, TypedLevel, TypedOperands, TypedMembers, no_member, one_member, TypedMember, of_property, of_call, of_mutation, TypedSteps, no_step, one_step, TypedUse, TypedPrinted, HasType, CanSet}
use Rattle.evo_typing.specs.Places.{Chain, at_value, TypedChain, Root, lost, from_variable, from_object, variable_if, start_level, object_if, step_on, root_from, root_of, mutated, steps_of}
use Rattle.evo_typing.specs.Resolves.{Converts, kept, raised}
use Rattle.evo_typing.specs.Rule.{Tells, raised_if, kept_if}
use Rattle.evo_typing.specs.Rule as rule

pub record OfUpcast (d : Declared) (c : Scope) (b : RExpr) (t : RType) : Type 0 where
  pub low : Key
  pub top : Key
  pub part : Typed d c b
  pub bears : type_of b ≡ ty.Named low
  pub above : d.above top low ≡ true
  pub differs : ty.Named low ≡ ty.Named top → ⊥
  pub to : t ≡ ty.Named top

pub upcast_type : (b : RExpr) (t : RType) → type_of (x.Upcast b t) ≡ t
upcast_type b t = rw (x.outs-Upcast b t) refl

-- a mutating call, on what its steps lead to
abbrev pub AtEnd : Declared → Scope → RUse → List RExpr → Type 0
AtEnd d c u bs = (z : RType) × TypedUse d c (before z) u bs

-- steps that have types, and whose setters are not yet looked at
pub data Leading (d : Declared) (c : Scope) : RType → List RUse → RType → Type 0 where
  no_leading : {v : RType} → Leading d c v [] v
  one_leading : {v z : RType} {s : RUse} {ss : List RUse} → TypedUse d c (before v) s [] → Leading d c s.ty ss z → Leading d c v (s ∷ ss) z

pub data AllCanSet (d : Declared) : List RUse → Type 0 where
  none_can : AllCanSet d []
  one_can : {u : RUse} {us : List RUse} → CanSet d u → AllCanSet d us → AllCanSet d (u ∷ us)

module _ {d : Declared} {c : Scope} where
  -- a form has a type
  pub put : (b : RExpr) (l : RExpr-F RExpr RMember) → out-RExpr b ≡ l → TypedLevel d c l → Typed d c b
  put b l e h = typed (rw e h)

  -- ---- and what that rests on

  pub in_call : {u : RUse} {bs : List RExpr} → Typed d c (x.Call (u, bs)) → TypedUse d c nothing u bs
  in_call {u} {bs} (typed h) = go (subst (λ l. TypedLevel d c l) (x.outs-Call (u, bs)) h)
    where
      go : TypedLevel d c (r.Call (u, bs)) → TypedUse d c nothing u bs
      go (TypedLevel.call h) = h

  pub in_case : {u : RUse} {bs : List RExpr} → Typed d c (x.Case (u, bs)) → TypedUse d c nothing u bs
  in_case {u} {bs} (typed h) = go (subst (λ l. TypedLevel d c l) (x.outs-Case (u, bs)) h)
    where
      go : TypedLevel d c (r.Case (u, bs)) → TypedUse d c nothing u bs
      go (TypedLevel.case h) = h

  pub in_new : {u : RUse} {bs : List RExpr} → Typed d c (x.New (u, bs)) → TypedUse d c nothing u bs
  in_new {u} {bs} (typed h) = go (subst (λ l. TypedLevel d c l) (x.outs-New (u, bs)) h)
    where
      go : TypedLevel d c (r.New (u, bs)) → TypedUse d c nothing u bs
      go (TypedLevel.new h) = h

  pub in_super : {u : RUse} {bs : List RExpr} → Typed d c (x.Super (u, bs)) → (v : RType) × (c.self ≡ Some v) × TypedUse d c (super v) u bs
  in_super {u} {bs} (typed h) = go (subst (λ l. TypedLevel d c l) (x.outs-Super (u, bs)) h)
    where
      go : TypedLevel d c (r.Super (u, bs)) → (v : RType) × (c.self ≡ Some v) × TypedUse d c (super v) u bs
      go (TypedLevel.above {v} is h) = (v, is, h)

  pub in_members : {b : RExpr} {m : RMember} {ms : List RMember} → Typed d c (x.Members b (m ∷ ms)) → Typed d c b × TypedMembers d c (type_of b) (m ∷ ms)
  in_members {b} {m} {ms} (typed h) = go (subst (λ l. TypedLevel d c l) (x.outs-Members b (m ∷ ms)) h)
    where
      go : TypedLevel d c (r.Members b (m ∷ ms)) → Typed d c b × TypedMembers d c (type_of b) (m ∷ ms)
      go (TypedLevel.members h k) = (h, k)

  pub in_prefix : {o : PrefixOperator} {b : RExpr} → Typed d c (x.Prefix o b) → Typed d c b × ((t : RType) × (prefix_type o (type_of b) ≡ Some t))
  in_prefix {o} {b} (typed h) = go (subst (λ l. TypedLevel d c l) (x.outs-Prefix o b) h)
    where
      go : TypedLevel d c (r.Prefix o b) → Typed d c b × ((t : RType) × (prefix_type o (type_of b) ≡ Some t))
      go (TypedLevel.prefix {t} h k) = (h, (t, k))

  pub in_chain : {b : RExpr} {os : List (InfixOperator × RExpr)} {t : RType} → Typed d c (x.Chain b os t) → Typed d c b × TypedOperands d c (type_of b) os t
  in_chain {b} {os} {t} (typed h) = go (subst (λ l. TypedLevel d c l) (x.outs-Chain b os t) h)
    where
      go : TypedLevel d c (r.Chain b os t) → Typed d c b × TypedOperands d c (type_of b) os t
      go (TypedLevel.chain h k) = (h, k)

  pub in_print : {p : Place} {bs : List RExpr} → Typed d c (x.Builtin p builtin.Print bs) → TypedPrinted d c bs
  in_print {p} {bs} (typed h) = go (subst (λ l. TypedLevel d c l) (x.outs-Builtin p builtin.Print bs) h)
    where
      go : TypedLevel d c (r.Builtin p builtin.Print bs) → TypedPrinted d c bs
      go (TypedLevel.print h) = h

  pub in_precondition : {p : Place} {b : RExpr} → Typed d c (x.Builtin p builtin.Precondition (b ∷ [])) → Typed d c b × (is_bool (type_of b) ≡ true)
  in_precondition {p} {b} (typed h) = go (subst (λ l. TypedLevel d c l) (x.outs-Builtin p builtin.Precondition (b ∷ [])) h)
    where
      go : TypedLevel d c (r.Builtin p builtin.Precondition (b ∷ [])) → Typed d c b × (is_bool (type_of b) ≡ true)
      go (TypedLevel.precondition h is) = (h, is)

  pub in_upcast : {b : RExpr} {t : RType} → Typed d c (x.Upcast b t) → OfUpcast d c b t
  in_upcast {b} {t} (typed h) = go (subst (λ l. TypedLevel d c l) (x.outs-Upcast b t) h)
    where
      go : {t : RType} → TypedLevel d c (r.Upcast b t) → OfUpcast d c b t
      go (TypedLevel.upcast {k} {top} a e f g) = record { low = k; top = top; part = a; bears = e; above = f; differs = g; to = refl }

  pub in_called : {v : RType} {u : RUse} {bs : List RExpr} → TypedMember d c v (out-RMember (y.Called (u, bs))) → TypedUse d c (before v) u bs
  in_called {v} {u} {bs} h = go (subst (λ l. TypedMember d c v l) (y.outs-Called (u, bs)) h)
    where
      go : TypedMember d c v (RMember-F.Called (u, bs)) → TypedUse d c (before v) u bs
      go (of_call h) = h

  pub in_property : {v : RType} {u : RUse} → TypedMember d c v (out-RMember (y.Property u)) → TypedUse d c (before v) u []
  in_property {v} {u} h = go (subst (λ l. TypedMember d c v l) (y.outs-Property u) h)
    where
      go : TypedMember d c v (RMember-F.Property u) → TypedUse d c (before v) u []
      go (of_property h) = h

  pub in_mutate : {v : Variable} {ss : List RUse} {u : RUse} {bs : List RExpr} → Typed d c (x.Mutate v ss (u, bs)) → AtEnd d c u bs
  in_mutate {v} {ss} {u} {bs} (typed h) = go (subst (λ l. TypedLevel d c l) (x.outs-Mutate v ss (u, bs)) h)
    where
      go : TypedLevel d c (r.Mutate v ss (u, bs)) → AtEnd d c u bs
      go (TypedLevel.mutate {z} a s h) = (z, h)

  pub in_mutated : {v : RType} (ss : List RUse) (u : RUse) (bs : List RExpr) → TypedMember d c v (out-RMember (y.Mutated ss (u, bs))) → AtEnd d c u bs
  in_mutated {v} ss u bs h = go (subst (λ l. TypedMember d c v l) (y.outs-Mutated ss (u, bs)) h)
    where
      go : TypedMember d c v (RMember-F.Mutated ss (u, bs)) → AtEnd d c u bs
      go (of_mutation {z} s h) = (z, h)

  -- a member behind others
  pub snoc : {v : RType} {ms : List RMember} (m : RMember) → TypedMembers d c v ms → TypedMember d c (last_type v ms) (out-RMember m) → TypedMembers d c v (ms ++ m ∷ [])
  snoc m no_member h = one_member h no_member
  snoc m (one_member k ks) h = one_member k (snoc m ks h)

  pub unsnoc : (v : RType) (ms : List RMember) (m : RMember) → TypedMembers d c v (ms ++ m ∷ []) → TypedMembers d c v ms × TypedMember d c (last_type v ms) (out-RMember m)
  unsnoc v [] m (one_member k ks) = (no_member, k)
  unsnoc v (n ∷ ms) m (one_member k ks) = let q = unsnoc (member_type n) ms m ks in (one_member k q.0, q.1)

  -- ---- places

  pub leading_snoc : {v z : RType} {ss : List RUse} (s : RUse) → Leading d c v ss z → TypedUse d c (before z) s [] → Leading d c v (ss ++ s ∷ []) s.ty
  leading_snoc s no_leading h = one_leading h no_leading
  leading_snoc s (one_leading k ks) h = one_leading k (leading_snoc s ks h)

  pub steps_typed : {v z : RType} {ss : List RUse} → Leading d c v ss z → AllCanSet d ss → TypedSteps d c v ss z
  steps_typed no_leading none_can = no_step
  steps_typed (one_leading h hs) (one_can s ss) = one_step h s (steps_typed hs ss)

last_snoc : (v : RType) (ms : List RMember) (m : RMember) → last_type v (ms ++ m ∷ []) ≡ member_type m
last_snoc v [] m = refl
last_snoc v (n ∷ ms) m = last_snoc (member_type n) ms m

module _ (env : Env) where
  abbrev D : Declared
  D = env.declared

  abbrev C : Scope
  C = env.scope

  -- the place so far leads to the type
  abbrev pub RootTyped : RExpr → RType → Root → Type 0
  RootTyped b v lost = Unit {0}
  RootTyped b v (from_variable a ss) = (u : RType) × HasType C a u × Leading D C u ss v
  RootTyped b v (from_object done ss) = TypedMembers D C (type_of b) done × Leading D C (last_type (type_of b) done) ss v

  variable_typed : (b : RExpr) (t : Bool) (a : Variable) (v : RType) → HasType C a v → RootTyped b v (variable_if t a)
  variable_typed b true a v h = (v, h, no_leading)
  variable_typed b false a v h = tt

  start_typed : (b : RExpr) (l : RExpr-F RExpr RMember) → TypedLevel D C l → RootTyped b (type_level l) (start_level env l)
  start_typed b (r.Local p n w) (TypedLevel.local is) = variable_typed b _ (variable.Local n) w is
  start_typed b (r.SelfValue p w) (TypedLevel.self is) = variable_typed b _ variable.SelfValue w is
  start_typed b (r.Literal a) h = tt
  start_typed b (r.Upcast a w) h = tt
  start_typed b (r.Prefix o a) h = tt
  start_typed b (r.Chain a os w) h = tt
  start_typed b (r.Members a ns) h = tt
  start_typed b (r.Mutate v ss a) h = tt
  start_typed b (r.Case a) h = tt
  start_typed b (r.New a) h = tt
  start_typed b (r.Call a) h = tt
  start_typed b (r.Super a) h = tt
  start_typed b (r.Builtin p f bs) h = tt

  object_typed : (b : RExpr) (v : RType) (done : List RMember) (t : Bool) (s : Root) → TypedMembers D C (type_of b) done → last_type (type_of b) done ≡ v → RootTyped b v s → RootTyped b v (object_if t done s)
  object_typed b v done true s h e k = (h, subst (λ v. Leading D C (last_type (type_of b) done) [] v) e no_leading)
  object_typed b v done false s h e k = k

  on_typed : (b : RExpr) (v : RType) (s : Root) (l : RMember-F RExpr RMember) → RootTyped b v s → TypedMember D C v l → RootTyped b (member_level l) (step_on s l)
  on_typed b v lost (RMember-F.Property s) k h = tt
  on_typed b v lost (RMember-F.Called a) k h = tt
  on_typed b v lost (RMember-F.Mutated ss a) k h = tt
  on_typed b v (from_variable a ss) (RMember-F.Property s) (u, is, k) (of_property h) = (u, is, leading_snoc s k h)
  on_typed b v (from_variable a ss) (RMember-F.Called q) k h = tt
  on_typed b v (from_variable a ss) (RMember-F.Mutated rs q) k h = tt
  on_typed b v (from_object done ss) (RMember-F.Property s) (m, k) (of_property h) = (m, leading_snoc s k h)
  on_typed b v (from_object done ss) (RMember-F.Called q) k h = tt
  on_typed b v (from_object done ss) (RMember-F.Mutated rs q) k h = tt

  from_typed : (b : RExpr) (v : RType) (done : List RMember) (s : Root) (ms : List RMember) → TypedMembers D C (type_of b) done → last_type (type_of b) done ≡ v → RootTyped b v s → TypedMembers D C v ms → RootTyped b (last_type v ms) (root_from D v done s ms)
  from_typed b v done s [] m e k h = k
  from_typed b v done s (n ∷ ms) m e k (one_member h hs) =
      from_typed b (member_type n) (done ++ n ∷ []) _ ms (snoc n m (subst (λ v. TypedMember D C v (out-RMember n)) (sym e) h)) (last_snoc (type_of b) done n)
      (on_typed b v _ (out-RMember n) (object_typed b v done _ s m e k) h) hs

  pub root_typed : (b : RExpr) (ms : List RMember) → TypedChain D C (at_value b ms) → RootTyped b (last_type (type_of b) ms) (root_of env b ms)
  root_typed b ms (typed h, hs) = from_typed b (type_of b) [] _ ms no_member refl (start_typed b (out-RExpr b) h) hs

  -- a mutating call on a place
  pub mutated_typed : (b : RExpr) (z : RType) (s : Root) (u : RUse) (bs : List RExpr) (m : Chain) → Typed D C b → RootTyped b z s → AllCanSet D (steps_of s) → TypedUse D C (before z) u bs → mutated b s (u, bs) ≡ Some m → TypedChain D C m
  mutated_typed b z lost u bs m h k set call e = absurd (cc e)
  mutated_typed b z (from_variable a ss) u bs m h k set call e =
      let same : at_value (x.Mutate a ss (u, bs)) [] ≡ m = cc e in
      subst (TypedChain D C) same (put _ _ (x.outs-Mutate a ss (u, bs)) (TypedLevel.mutate k.1 (steps_typed k.2 set) call), no_member)
  mutated_typed b z (from_object done ss) u bs m h k set call e =
      let same : at_value b (done ++ y.Mutated ss (u, bs) ∷ []) ≡ m = cc e in
      subst (TypedChain D C) same (h, snoc (y.Mutated ss (u, bs)) k.0 (rw (y.outs-Mutated ss (u, bs)) (of_mutation (steps_typed k.1 set) call)))

  pub mutated_back : (b : RExpr) (s : Root) (u : RUse) (bs : List RExpr) (m : Chain) → mutated b s (u, bs) ≡ Some m → TypedChain D C m → AtEnd D C u bs
  mutated_back b lost u bs m e h = absurd (cc e)
  mutated_back b (from_variable a ss) u bs m e h =
      let same : m ≡ at_value (x.Mutate a ss (u, bs)) [] = cc e in
      let h = subst (TypedChain D C) same h in
      in_mutate h.0
  mutated_back b (from_object done ss) u bs m e h =
      let same : m ≡ at_value b (done ++ y.Mutated ss (u, bs) ∷ []) = cc e in
      let h = subst (TypedChain D C) same h in
      in_mutated ss u bs (unsnoc (type_of b) done (y.Mutated ss (u, bs)) h.1).1

  -- ---- conversions

  -- a conversion that has types is what the rule makes
  pub converts_is : {a b : RExpr} → Converts a b → Typed D C b → Typed D C a × ((s : Bool) × Tells (type_of a ≡ type_of b) s × (kept_if s a (rule.raised D a (type_of a) (type_of b)) ≡ Some b))
  converts_is (kept {b = a}) h = (h, (true, refl, refl))
  converts_is (raised {b = a} top) h =
      let o = in_upcast h in
      let high : o.top ≡ top = (let e = o.to in cc) in
      let is_low : type_of a ≡ ty.Named o.low = o.bears in
      let bears : type_of (x.Upcast a (ty.Named top)) ≡ ty.Named top = upcast_type a (ty.Named top) in
      let above : D.above top o.low ≡ true = subst (λ k. D.above k o.low ≡ true) high o.above in
      let apart : type_of a ≡ type_of (x.Upcast a (ty.Named top)) → ⊥ = λ e. o.differs (sym is_low ∙ e ∙ bears ∙ ap ty.Named (sym high)) in
      (o.part, (false, apart, ap (rule.raised D a (type_of a)) bears ∙ ap (λ v. rule.raised D a v (ty.Named top)) is_low ∙ ap (λ s. raised_if s a (ty.Named top)) above))

  abbrev Made : RExpr → RExpr → RType → Type 0
  Made a b t = Converts a b × Typed D C b × (type_of b ≡ t)

  -- and one that the rule makes has types
  pub fitted_typed : (a : RExpr) (t : RType) (b : RExpr) (s : Bool) → Typed D C a → Tells (type_of a ≡ t) s → kept_if s a (rule.raised D a (type_of a) t) ≡ Some b → Converts a b × Typed D C b × (type_of b ≡ t)
  fitted_typed a t b true h is e = subst (λ b. Made a b t) (cc e) (kept, h, is)
  fitted_typed a t b false h apart e = up (type_of a) t refl apart e
    where
      lift : (k top : Key) → type_of a ≡ ty.Named k → (type_of a ≡ ty.Named top → ⊥) → (s : Bool) → D.above top k ≡ s → raised_if s a (ty.Named top) ≡ Some b → Made a b (ty.Named top)
      lift k top is apart true s q = subst (λ b. Made a b (ty.Named top)) (cc q) (raised top, put _ _ (x.outs-Upcast a (ty.Named top)) (TypedLevel.upcast h is s (λ e. apart (is ∙ e))), upcast_type a (ty.Named top))
      lift k top is apart false s q = absurd (cc q)

      up : (v t : RType) → type_of a ≡ v → (type_of a ≡ t → ⊥) → rule.raised D a v t ≡ Some b → Made a b t
      up (ty.Named k) (ty.Named top) is apart q = lift k top is apart (D.above top k) refl q
      up v t is apart q = absurd (cc q)
