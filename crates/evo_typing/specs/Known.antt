-- What the table of declarations, the searches and the solver keep for a body: each question has one answer, and what is found is what its key stands for.
use Rattle.std.specs.Prelude.{◌≡◌, List, slice_get, Option, Some, Ok}
use Rattle.evo_base.specs.declared.key.Key.{Key}
use Rattle.evo_resolved.specs.declared.resolved_type.RType.{RType}
use Rattle.evo_resolved.specs.declared.resolved_type.RTypeName.{RTypeName}
use Rattle.evo_resolved.specs.declared.declaration.Signature.{Signature}
use Rattle.evo_resolved.specs.declared.path.ConfPath.{ConfPath}
use Rattle.evo_resolved.specs.declared.expression.Reach.{Reach}
use Rattle.evo_resolved.specs.declared.expression.Reach.TheVariants as reach
use Rattle.evo_names.specs.Listed.{Text}
use Rattle.evo_typing.specs.Shapes.{Shape, Found, Named, Meaning, Env, Before, nothing, before, super, Suits}
use Rattle.evo_typing.specs.Rule.{Oracle, Tells}

-- ---- one answer

abbrev pub OneAnswer : {A : Type 0} → (A → Type 0) → Type 0
OneAnswer {A} H = (x y : A) → H x → H y → x ≡ y

pub record OneEach (env : Env) : Type 0 where
  pub name : (n : Text) (ls : Option (List Text)) → OneAnswer (env.names.name n ls)
  pub member : (v : RType) (n : Text) (ls : Option (List Text)) → OneAnswer (env.names.member v n ls)
  pub inner : (t : RTypeName) (n : Text) (ls : Option (List Text)) → OneAnswer (env.names.inner t n ls)
  pub implicit : (t : RType) (n : Text) (ls : Option (List Text)) → OneAnswer (env.names.implicit t n ls)
  pub upper : (n : Text) (ls : List Text) → OneAnswer (env.names.upper n ls)
  pub shape : (k : Key) → OneAnswer (env.names.shape k)
  pub stands : (s : Signature) (ts : List RType) (t : RType) → OneAnswer (env.names.stands s ts t)
  pub path : (t : RType) (p : Key) → OneAnswer (env.names.path t p)
  -- one declaration for each key, and one type for each type of a signature
  pub declared : (k : Key) → OneAnswer (env.declared.shape k)
  pub declared_type : (s : Signature) (ts : List RType) (t : RType) → OneAnswer (env.declared.stands s ts t)

-- ---- what is found

-- what is found is what its key stands for, and suits what is before it
abbrev pub Knows : Env → Before → Found → Type 0
Knows env b f = env.declared.shape f.key f.shape × Suits env.declared f.shape.owner f.given b

abbrev pub KnowsNamed : Env → Named → Type 0
KnowsNamed env (Named.case f) = Knows env nothing f
KnowsNamed env (Named.free f) = Knows env nothing f
KnowsNamed env (Named.new f t) = Knows env nothing f
KnowsNamed env (Named.type t available) = Unit {0}

abbrev pub KnowsMeaning : Env → Meaning → Type 0
KnowsMeaning env (Meaning.local l) = slice_get env.scope.locals l.number ≡ Some l.type
KnowsMeaning env (Meaning.own f) = (v : RType) → env.scope.self ≡ Some v → Knows env (before v) f
KnowsMeaning env (Meaning.named n) = KnowsNamed env n
KnowsMeaning env (Meaning.builtin b) = Unit {0}

abbrev pub above : Reach → RType → Before
above reach.Dispatched v = super v
above reach.Static v = before v
above reach.Witness v = before v

pub record Known (env : Env) : Type 0 where
  pub one : OneEach env
  pub name : (n : Text) (ls : Option (List Text)) (m : Meaning) → env.names.name n ls (Ok m) → KnowsMeaning env m
  pub member : (v : RType) (n : Text) (ls : Option (List Text)) (f : Found) → env.names.member v n ls (Ok f) → Knows env (before v) f
  pub inner : (t : RTypeName) (n : Text) (ls : Option (List Text)) (m : Named) → env.names.inner t n ls (Ok m) → KnowsNamed env m
  pub implicit : (t : RType) (n : Text) (ls : Option (List Text)) (m : Named) → env.names.implicit t n ls (Ok m) → KnowsNamed env m
  pub upper : (n : Text) (ls : List Text) (f : Found) (v : RType) → env.scope.self ≡ Some v → env.names.upper n ls (Ok f) → Knows env (above f.shape.reach v) f
  pub shape : (k : Key) (s : Shape) → env.names.shape k (Some s) → env.declared.shape k s
  pub stands : (s : Signature) (ts : List RType) (t u : RType) → env.names.stands s ts t (Some u) → env.declared.stands s ts t u
  pub path : (t : RType) (p : Key) (q : ConfPath) → env.names.path t p (Some q) → env.declared.leads q t p

-- ---- what answers truly

pub record Answers (env : Env) (o : Oracle) : Type 0 where
  pub name : (n : Text) (ls : Option (List Text)) → env.names.name n ls (o.name n ls)
  pub member : (v : RType) (n : Text) (ls : Option (List Text)) → env.names.member v n ls (o.member v n ls)
  pub inner : (t : RTypeName) (n : Text) (ls : Option (List Text)) → env.names.inner t n ls (o.inner t n ls)
  pub implicit : (t : RType) (n : Text) (ls : Option (List Text)) → env.names.implicit t n ls (o.implicit t n ls)
  pub upper : (n : Text) (ls : List Text) → env.names.upper n ls (o.upper n ls)
  pub shape : (k : Key) → env.names.shape k (o.shape k)
  pub stands : (s : Signature) (ts : List RType) (t : RType) → env.names.stands s ts t (o.stands s ts t)
  pub path : (t : RType) (p : Key) → env.names.path t p (o.path t p)
  pub same : (t u : RType) → Tells (t ≡ u) (o.same t u)
