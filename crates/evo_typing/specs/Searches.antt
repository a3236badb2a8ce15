-- What the names of an expression find where it stands: the searches of names, each with the declaration that is meant and what its uses have to fit.
use Rattle.std.specs.Prelude.{◌≡◌, ℕ, List, [], ◌∷◌, ◌++◌, map, flat_map, codes, Option, Some, None, Bool, true, false, ◌&&◌, ◌||◌, ◌==◌, length, Result, Ok, Err, slice_get, if◌then◌else◌}
use Rattle.std.specs.List.{list_all}
use Rattle.std.specs.Option.{option_map_or}
use Rattle.evo_base.specs.declared.key.Key.{Key}
use Rattle.evo_base.specs.declared.fault_kind.FaultKind.{FaultKind}
use Rattle.evo_base.specs.declared.fault_kind.FaultKind.TheVariants.{NoSuchName, WrongLabels, WrongType}
use Rattle.evo_tree.specs.declared.name.Identifier.{Identifier}
use Rattle.evo_tree.specs.declared.declaration.Payload.{Payload}
use Rattle.evo_tree.specs.declared.declaration.DeclKind.TheOpen as de
use Rattle.evo_resolved.specs.declared.resolved_type.RType.{RType}
use Rattle.evo_resolved.specs.declared.resolved_type.RType.TheVariants as ty
use Rattle.evo_resolved.specs.declared.resolved_type.RTypeName.{RTypeName}
use Rattle.evo_resolved.specs.declared.declaration.RDecl.{RDecl}
use Rattle.evo_resolved.specs.declared.expression.Reach.TheVariants as reach
use Rattle.evo_resolved.specs.declared.expression.Builtin.{Builtin}
use Rattle.evo_resolved.specs.declared.expression.Builtin.TheVariants as builtin
use Rattle.evo_names.specs.declared.declared_name.Sort.{Sort}
use Rattle.evo_names.specs.declared.declared_name.Sort.TheVariants as sort
use Rattle.evo_names.specs.Listed.{Text, Kind, World, Declaration, declarations, sort_of, is_top, is_static, overrides}
use Rattle.evo_names.specs.Meets.{same_name, same_labels}
use Rattle.evo_names.specs.Heads.{is_protocol, is_language_type, conformances, lineage, superclass}
use Rattle.evo_names.specs.Written.{Leads, fixed, Means}
use Rattle.evo_names.specs.Resolved.{IsDeclared, IsMemberwise, unwritten_structs}
use Rattle.evo_names.specs.Dispatch.{reach_of}
use Rattle.evo_names.specs.Search as search
use Rattle.evo_names.specs.Search.{Sought, Receiver, Here}
use Rattle.evo_solve.specs.declared.declarations.Protocol.{Protocol}
use Rattle.evo_solve.specs.Equal.{path_of}
use Rattle.evo_solve.specs.Canonical.{IsCanonical}
use Rattle.evo_solve.specs.Stands.{Requires, StandsFor}
use Rattle.evo_solve.specs.Ways.{PathOrNone, goal_of}
use Rattle.evo_typing.specs.Shapes.{Owner, of_protocol, Local, Found, Written, Named, Meaning, Names, Env, Before, nothing, before, Suits}
use Rattle.evo_typing.specs.Known.{above}
use Rattle.evo_typing.specs.Site.{Site, in_static, self_of, scope, viewpoint, self_type, shape_of, Stated, declared_at, may_use, may_use_types}

-- what a relation gives, or that it gives nothing
abbrev pub OrNone : {A : Type 0} → (A → Type 0) → Option A → Type 0
OrNone H (Some x) = H x
OrNone {A} H None = (x : A) → H x → ⊥

-- something for which it holds, made into an answer
abbrev pub Gives : {A B : Type 0} → (A → Type 0) → (A → B) → Result B FaultKind → Type 0
Gives {A} H make r = (x : A) × H x × (r ≡ Ok (make x))

-- ---- the declaration that is found

-- the types that the search gives: what stands for `Self` in a member of a protocol
abbrev pub given_by : Owner → List RType → List RType
given_by (of_protocol p) ts = ts
given_by o ts = []

-- what a use of a declaration has to fit, where this is before it; `usable` says whether what it is sought through may be used
pub record IsFound (s : Site) (ts : List RType) (b : Before) (usable : Bool) (d : Declaration) (f : Found) : Type 0 where
  pub number : ℕ
  pub at : slice_get (declarations s.world) number ≡ Some d
  pub root : overrides d.entry ≡ false
  pub decl : RDecl
  pub declared : IsDeclared d decl
  pub shape : shape_of decl (reach_of d) ≡ Some f.shape
  pub key : f.key ≡ decl.key
  pub given : f.given ≡ given_by f.shape.owner ts
  pub available : f.available ≡ (usable && may_use s d)
  pub suits : Suits (declared_at s) f.shape.owner f.given b

-- the initialiser that a struct of this key has without writing it
pub record IsMemberwiseFound (s : Site) (usable : Bool) (k : Key) (f : Found) : Type 0 where
  pub number : ℕ
  pub name : Identifier
  pub at : slice_get (unwritten_structs s.world) number ≡ Some name
  pub is : name.text ≡ k.base
  pub decl : RDecl
  pub declared : IsMemberwise s.world name decl
  pub shape : shape_of decl reach.Static ≡ Some f.shape
  pub key : f.key ≡ decl.key
  pub given : f.given ≡ []
  pub available : f.available ≡ usable

-- ---- what members are sought of

-- those of these protocols for which it holds, in their order
pub data Selects (P : Key → Type 0) : List Protocol → List Key → Type 0 where
  no_more : Selects P [] []
  takes : {q : Protocol} {qs : List Protocol} {ks : List Key} → P q.key → Selects P qs ks → Selects P (q ∷ qs) (q.key ∷ ks)
  leaves : {q : Protocol} {qs : List Protocol} {ks : List Key} → (P q.key → ⊥) → Selects P qs ks → Selects P (q ∷ qs) ks

-- a type with its own conformances and those of its ancestors
abbrev pub type_receiver : World → Key → Receiver
type_receiver w k = record { named = Some k; protocols = flat_map (conformances w) (lineage w k) }

-- the protocols that the signature requires of it
abbrev pub IsRequired : Site → RType → List Key → Type 0
IsRequired s t ks = Selects (Requires s.declarations s.signature (path_of t)) s.declarations.protocols ks

pub data IsReceiver (s : Site) : RType → Receiver → Type 0 where
  of_named : {k : Key} → IsReceiver s (ty.Named k) (type_receiver s.world k)
  of_parameter : {i : ℕ} {ks : List Key} → IsRequired s (ty.Param i) ks → IsReceiver s (ty.Param i) (record { named = None; protocols = ks })
  of_path : {i : ℕ} {ns : List Text} {ks : List Key} → IsRequired s (ty.Assoc i ns) ks → IsReceiver s (ty.Assoc i ns) (record { named = None; protocols = ks })
  of_nothing : IsReceiver s ty.NoValue (record { named = None; protocols = [] })

abbrev pub sought : Text → Option (List Text) → Bool → Sought
sought n ls of_type = record { base = n; call = ls; of_type = of_type }

-- ---- members of values

abbrev pub is_of_values : Sort → Bool
is_of_values sort.Function = true
is_of_values sort.Property = true
is_of_values x = false

-- a type or a case is none of a value
abbrev pub IsMemberBy : Bool → Site → RType → Declaration → Result Found FaultKind → Type 0
IsMemberBy true s v d r = Gives (IsFound s (v ∷ []) (before v) true d) (λ f. f) r
IsMemberBy false s v d r = r ≡ Err WrongType

abbrev pub IsMember : Site → RType → search.Found → Result Found FaultKind → Type 0
IsMember s v (search.declaration d) r = IsMemberBy (is_of_values (sort_of d.entry.kind)) s v d r
IsMember s v (search.nothing k) r = r ≡ Err k
IsMember s v x r = r ≡ Err NoSuchName

pub record MemberOf (s : Site) (v : RType) (n : Text) (ls : Option (List Text)) (r : Result Found FaultKind) : Type 0 where
  pub receiver : Receiver
  pub is : IsReceiver s v receiver
  pub outcome : IsMember s v (search.member s.world (viewpoint s) receiver (sought n ls false)) r

-- ---- behind `super`

abbrev pub IsAboveBy : Bool → Site → RType → Declaration → Result Found FaultKind → Type 0
IsAboveBy true s v d r = Gives (λ (f : Found). IsFound s (v ∷ []) (above f.shape.reach v) true d f) (λ f. f) r
IsAboveBy false s v d r = r ≡ Err WrongType

abbrev pub IsAbove : Site → RType → search.Found → Result Found FaultKind → Type 0
IsAbove s v (search.declaration d) r = IsAboveBy (is_of_values (sort_of d.entry.kind)) s v d r
IsAbove s v (search.nothing k) r = r ≡ Err k
IsAbove s v x r = r ≡ Err NoSuchName

abbrev pub class_above : World → Option RType → Option Key
class_above w (Some (ty.Named k)) = superclass w k
class_above w t = None

abbrev pub upper_from : Site → Option Key → Text → List Text → search.Found
upper_from s None n ls = search.nothing NoSuchName
upper_from s (Some u) n ls = search.member s.world (viewpoint s) (type_receiver s.world u) (sought n (Some ls) false)

-- members of the superclass of `self`
abbrev pub UpperBy : Site → Option RType → Text → List Text → Result Found FaultKind → Type 0
UpperBy s None n ls r = r ≡ Err NoSuchName
UpperBy s (Some v) n ls r = IsAbove s v (upper_from s (class_above s.world (Some v)) n ls) r

-- ---- types

abbrev pub type_keys : RType → List Key
type_keys (ty.Named k) = k ∷ []
type_keys t = []

abbrev pub usable_type : Site → Written → Bool
usable_type s w = may_use_types s (w.aliases ++ type_keys w.type)

abbrev pub IsInitialiser : Site → Written → search.Found → Result Named FaultKind → Type 0
IsInitialiser s w (search.declaration d) r = Gives (IsFound s [] nothing (usable_type s w) d) (λ f. Named.new f w) r
IsInitialiser s w (search.memberwise k) r = Gives (IsMemberwiseFound s (usable_type s w) k) (λ f. Named.new f w) r
IsInitialiser s w (search.nothing k) r = r ≡ Err k
IsInitialiser s w x r = r ≡ Err NoSuchName

-- a call of a type is one of its initialisers, and only named types have any
abbrev pub IsCallOf : Site → Written → RType → List Text → Result Named FaultKind → Type 0
IsCallOf s w (ty.Named k) ls r = IsInitialiser s w (search.initialiser s.world (viewpoint s) k ls) r
IsCallOf s w t ls r = r ≡ Err WrongType

-- the type itself, or where it is called an initialiser of it
abbrev pub IsTypeUse : Site → Option (List Text) → Option Written → Result Named FaultKind → Type 0
IsTypeUse s None (Some w) r = r ≡ Ok (Named.type w (usable_type s w))
IsTypeUse s (Some ls) (Some w) r = IsCallOf s w w.type ls r
IsTypeUse s ls None r = r ≡ Err NoSuchName

-- what a name means that finds a type
abbrev pub MeansType : Site → Text → Option Written → Type 0
MeansType s n o = OrNone (λ (w : Written). Means s.world (scope s) (n ∷ []) w.aliases w.type) o

-- and what it means behind another type
abbrev pub LeadsToType : Site → RType → Text → Option Written → Type 0
LeadsToType s t n o = OrNone (λ (w : Written). Leads s.world (viewpoint s) (fixed t) (n ∷ []) w.aliases w.type) o

pub record TypeNamed (s : Site) (Is : Option Written → Type 0) (ls : Option (List Text)) (r : Result Named FaultKind) : Type 0 where
  pub type : Option Written
  pub means : Is type
  pub outcome : IsTypeUse s ls type r

-- ---- cases

abbrev pub payload_labels : Kind → List Text
payload_labels (de.Case i ps) = map (λ (p : Payload). option_map_or (λ (l : Identifier). l.text) p.label (codes "_")) ps
payload_labels k = []

-- A case with a payload is called with its labels, and one without is not called.
abbrev pub case_fault : List Text → Option (List Text) → Option FaultKind
case_fault [] None = None
case_fault [] (Some ls) = Some WrongType
case_fault (p ∷ ps) None = Some WrongType
case_fault (p ∷ ps) (Some ls) = if same_labels (Some (p ∷ ps)) (Some ls) then None else (if length (p ∷ ps) == length ls then Some WrongLabels else Some WrongType)

abbrev pub IsCaseBy : Option FaultKind → Site → Declaration → Result Named FaultKind → Type 0
IsCaseBy None s d r = Gives (IsFound s [] nothing true d) Named.case r
IsCaseBy (Some k) s d r = r ≡ Err k

abbrev pub IsCase : Site → Declaration → Option (List Text) → Result Named FaultKind → Type 0
IsCase s d ls r = IsCaseBy (case_fault (payload_labels d.entry.kind) ls) s d r

abbrev pub IsFree : Site → List RType → Declaration → Result Named FaultKind → Type 0
IsFree s ts d r = Gives (IsFound s ts nothing true d) Named.free r

-- ---- behind the name of a type, or where a type is expected

-- static functions and cases; `t` stands for `Self`
abbrev pub IsInnerBy : Site → RType → Text → Option (List Text) → Declaration → Sort → Result Named FaultKind → Type 0
IsInnerBy s t n ls d sort.Function r = IsFree s (t ∷ []) d r
IsInnerBy s t n ls d sort.Case r = IsCase s d ls r
IsInnerBy s t n ls d sort.Alias r = TypeNamed s (LeadsToType s t n) ls r
IsInnerBy s t n ls d x r = r ≡ Err WrongType

abbrev pub IsInner : Site → RType → Text → Option (List Text) → search.Found → Result Named FaultKind → Type 0
IsInner s t n ls (search.declaration d) r = IsInnerBy s t n ls d (sort_of d.entry.kind) r
IsInner s t n ls (search.nothing k) r = r ≡ Err k
IsInner s t n ls x r = r ≡ Err NoSuchName

-- an associated type has no members here but types
abbrev pub IsInnerOf : Site → RType → Receiver → Text → Option (List Text) → Result Named FaultKind → Type 0
IsInnerOf s (ty.Assoc i ns) c n None r = TypeNamed s (LeadsToType s (ty.Assoc i ns) n) None r
IsInnerOf s (ty.Assoc i ns) c n (Some ls) r = r ≡ Err NoSuchName
IsInnerOf s t c n ls r = IsInner s t n ls (search.member s.world (viewpoint s) c (sought n ls true)) r

-- the written type by the one that stands for its equals
pub record InnerOf (s : Site) (t : RTypeName) (n : Text) (ls : Option (List Text)) (r : Result Named FaultKind) : Type 0 where
  pub type : RType
  pub canonical : IsCanonical s.signature.requirements t.ty type
  pub receiver : Receiver
  pub is : IsReceiver s type receiver
  pub outcome : IsInnerOf s type receiver n ls r

-- no type stands behind a dot that has nothing before it
abbrev pub IsImplicitBy : Site → RType → Option (List Text) → Declaration → Sort → Result Named FaultKind → Type 0
IsImplicitBy s t ls d sort.Function r = IsFree s (t ∷ []) d r
IsImplicitBy s t ls d sort.Case r = IsCase s d ls r
IsImplicitBy s t ls d x r = r ≡ Err WrongType

abbrev pub IsImplicit : Site → RType → Option (List Text) → search.Found → Result Named FaultKind → Type 0
IsImplicit s t ls (search.declaration d) r = IsImplicitBy s t ls d (sort_of d.entry.kind) r
IsImplicit s t ls (search.nothing k) r = r ≡ Err k
IsImplicit s t ls x r = r ≡ Err NoSuchName

pub record ImplicitOf (s : Site) (t : RType) (n : Text) (ls : Option (List Text)) (r : Result Named FaultKind) : Type 0 where
  pub receiver : Receiver
  pub is : IsReceiver s t receiver
  pub outcome : IsImplicit s t ls (search.member s.world (viewpoint s) receiver (sought n ls true)) r

-- ---- names that stand alone

abbrev pub as_named : Result Named FaultKind → Result Meaning FaultKind
as_named (Ok n) = Ok (Meaning.named n)
as_named (Err k) = Err k

-- what is found alone and needs no value before it
abbrev pub Alone : (Result Named FaultKind → Type 0) → Result Meaning FaultKind → Type 0
Alone H r = (n : Result Named FaultKind) × H n × (as_named n ≡ r)

-- a member of `self`, which has to be there
abbrev pub IsOwnOf : Site → Option RType → Declaration → Result Meaning FaultKind → Type 0
IsOwnOf s None d r = r ≡ Err NoSuchName
IsOwnOf s (Some v) d r = Gives (IsFound s (v ∷ []) (before v) true d) Meaning.own r

abbrev pub round_types : Site → List RType
round_types s = option_map_or (λ t. t ∷ []) s.around []

abbrev pub is_free : Declaration → Bool
is_free d = is_top d.entry.within || is_static d.entry

abbrev pub IsFunctionBy : Bool → Site → Declaration → Result Meaning FaultKind → Type 0
IsFunctionBy true s d r = Alone (IsFree s (round_types s) d) r
IsFunctionBy false s d r = IsOwnOf s (self_of s) d r

abbrev pub is_protocol_kind : Kind → Bool
is_protocol_kind (de.Nominal k i ts ds) = is_protocol k
is_protocol_kind k = false

-- a protocol is no type here
abbrev pub IsNominalBy : Bool → Site → Text → Option (List Text) → Result Meaning FaultKind → Type 0
IsNominalBy true s n ls r = r ≡ Err WrongType
IsNominalBy false s n ls r = Alone (TypeNamed s (MeansType s n) ls) r

abbrev pub IsNameBy : Site → Text → Option (List Text) → Declaration → Sort → Result Meaning FaultKind → Type 0
IsNameBy s n ls d sort.Function r = IsFunctionBy (is_free d) s d r
IsNameBy s n ls d sort.Property r = IsOwnOf s (self_of s) d r
IsNameBy s n ls d sort.Case r = Alone (IsCase s d ls) r
IsNameBy s n ls d sort.Type r = IsNominalBy (is_protocol_kind d.entry.kind) s n ls r
IsNameBy s n ls d sort.Alias r = Alone (TypeNamed s (MeansType s n) ls) r
IsNameBy s n ls d sort.Initialiser r = r ≡ Err WrongType

abbrev pub is_unlabelled : List Text → Bool
is_unlabelled ls = list_all (λ l. same_name l (codes "_")) ls

-- `print` takes any number of values, `precondition` a condition and a message at most, `fatalError` a message at most, all without labels
abbrev pub builtin_fits : Builtin → List Text → Bool
builtin_fits builtin.Print ls = is_unlabelled ls
builtin_fits builtin.Precondition (c ∷ []) = is_unlabelled (c ∷ [])
builtin_fits builtin.Precondition (c ∷ m ∷ []) = is_unlabelled (c ∷ m ∷ [])
builtin_fits builtin.Precondition ls = false
builtin_fits builtin.Fatal [] = true
builtin_fits builtin.Fatal (m ∷ []) = is_unlabelled (m ∷ [])
builtin_fits builtin.Fatal ls = false

abbrev pub language_function : Text → Builtin
language_function n = if same_name n (codes "print") then builtin.Print else (if same_name n (codes "precondition") then builtin.Precondition else builtin.Fatal)

abbrev pub called_builtin : Builtin → Option (List Text) → Result Meaning FaultKind
called_builtin b None = Err WrongType
called_builtin b (Some ls) = if builtin_fits b ls then Ok (Meaning.builtin b) else Err WrongLabels

abbrev pub IsLanguageBy : Bool → Site → Text → Option (List Text) → Result Meaning FaultKind → Type 0
IsLanguageBy true s n ls r = Alone (TypeNamed s (MeansType s n) ls) r
IsLanguageBy false s n ls r = r ≡ called_builtin (language_function n) ls

-- a local has its number's type
abbrev pub IsLocal : Site → ℕ → Result Meaning FaultKind → Type 0
IsLocal s i r = Gives (λ (l : Local). (slice_get s.locals i ≡ Some l) × (slice_get s.types l.number ≡ Some l.type)) Meaning.local r

abbrev pub IsName : Site → Text → Option (List Text) → search.Found → Result Meaning FaultKind → Type 0
IsName s n ls (search.local i) r = IsLocal s i r
IsName s n ls (search.parameter i) r = Alone (TypeNamed s (MeansType s n) ls) r
IsName s n ls (search.declaration d) r = IsNameBy s n ls d (sort_of d.entry.kind) r
IsName s n ls (search.language x) r = IsLanguageBy (is_language_type x) s n ls r
IsName s n ls (search.nothing k) r = r ≡ Err k
IsName s n ls (search.memberwise k) r = r ≡ Err NoSuchName

-- of the type round the body
abbrev pub RoundReceiver : Site → Option RType → Option Receiver → Type 0
RoundReceiver s None o = o ≡ None
RoundReceiver s (Some t) (Some c) = IsReceiver s t c
RoundReceiver s (Some t) None = ⊥

abbrev pub here : Site → Option Receiver → Here
here s c = record { world = s.world; view = viewpoint s; locals = map (λ (l : Local). l.name) s.locals; generics = s.signature.generics; receiver = c }

pub record NameOf (s : Site) (n : Text) (ls : Option (List Text)) (r : Result Meaning FaultKind) : Type 0 where
  pub receiver : Option Receiver
  pub is : RoundReceiver s s.around receiver
  pub outcome : IsName s n ls (search.meaning (here s receiver) (sought n ls (in_static s))) r

-- ---- all of it

abbrev pub names_at : Site → Names
names_at s = record {
  name = NameOf s;
  member = MemberOf s;
  inner = InnerOf s;
  implicit = ImplicitOf s;
  upper = UpperBy s (self_of s);
  shape = λ k o. OrNone (Stated s.world k) o;
  stands = λ sig ts t o. OrNone (StandsFor s.world s.declarations sig ts s.signature.requirements t) o;
  path = λ t p o. PathOrNone (goal_of s.signature s.declarations t p) o;
  mutable_self = s.mutable_self;
  self_type = self_type s;
}

-- what an expression sees that stands here
unfoldable pub env_at : Site → Env
env_at s = record { declared = declared_at s; scope = record { self = self_of s; locals = s.types }; names = names_at s; locals = s.locals }
