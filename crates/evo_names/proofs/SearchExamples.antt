-- What names in bodies find: overrides and their roots, hidden names, labels, statics, requirements, and members of two protocols.
use Rattle.std.proofs.Common.{◌≡◌, [], ◌∷◌, codes, Some, None, true, false, refl}
use Rattle.evo_base.specs.declared.key.Key.{Key}
use Rattle.evo_base.specs.declared.fault_kind.FaultKind.TheVariants as kind
use Rattle.evo_tree.specs.declared.declaration.ModifierKind.TheVariants as modifier
use Rattle.evo_tree.specs.declared.declaration.NominalKind.TheVariants as nominal
use Rattle.evo_names.specs.Listed.{Text, Within, top, braces, Entry, World, alone, declarations}
use Rattle.evo_names.specs.Seen.{Viewpoint, is_seen}
use Rattle.evo_names.specs.Heads.{named, declaration_of, superclass, lineage, closure, members, shown, top_view}
use Rattle.evo_names.specs.Search.{Sought, Receiver, Here, local, parameter, declaration, memberwise, language, nothing, candidates, found_member, member, meaning, initialiser}
use Rattle.evo_names.proofs.Samples.{type, declared, function, stored, one_case, nominal_type, extending, in_extension_of, library, interface, client, key, lib, main}

call : Text → Sought
call n = record { base = n; call = Some []; of_type = false }

value : Text → Sought
value n = record { base = n; call = None; of_type = false }

static_call : Text → Sought
static_call n = record { base = n; call = Some []; of_type = true }

of : Key → Receiver
of k = record { named = Some k; protocols = [] }

-- open class A { open func f(); open func m() }, open class B: A { open override func f() }, and in the client class D: B { override func f(); func m2() }
in_a : Within
in_a = braces nominal.Class (codes "A")

in_b : Within
in_b = braces nominal.Class (codes "B")

in_d : Within
in_d = braces nominal.Class (codes "D")

f_of_a : Entry
f_of_a = declared in_a (modifier.Open ∷ []) (function (codes "f") [])

go : Entry
go = declared in_a (modifier.Internal ∷ []) (function (codes "go") [])

make : Entry
make = declared in_a (modifier.Public ∷ modifier.Static ∷ []) (function (codes "make") [])

f_of_b : Entry
f_of_b = declared in_b (modifier.Open ∷ modifier.Override ∷ []) (function (codes "f") [])

f_of_d : Entry
f_of_d = declared in_d (modifier.Override ∷ []) (function (codes "f") [])

own_go : Entry
own_go = declared top (modifier.Internal ∷ []) (function (codes "go") [])

heirs : World
heirs = client (declared top (modifier.Internal ∷ []) (nominal_type nominal.Class (codes "D") (type (codes "B") ∷ [])) ∷ f_of_d ∷ own_go ∷ [])
    (interface (declared top (modifier.Open ∷ []) (nominal_type nominal.Class (codes "A") []) ∷ f_of_a ∷ go ∷ make ∷ declared top (modifier.Open ∷ []) (nominal_type nominal.Class (codes "B") (type (codes "A") ∷ [])) ∷ f_of_b ∷ []))

heirs_library : World
heirs_library = alone (interface (declared top (modifier.Open ∷ []) (nominal_type nominal.Class (codes "A") []) ∷ f_of_a ∷ go ∷ make ∷ declared top (modifier.Open ∷ []) (nominal_type nominal.Class (codes "B") (type (codes "A") ∷ [])) ∷ f_of_b ∷ []))

d_key : Key
d_key = key main (main ∷ []) (codes "D") None []

-- D().f() means the root, past two overrides
root : member heirs (top_view heirs) (of d_key) (call (codes "f")) ≡ declaration (record { world = heirs_library; entry = f_of_a })
unfolding member found_member candidates named members lineage superclass declaration_of declarations shown is_seen closure call of d_key heirs heirs_library f_of_a go make f_of_b f_of_d own_go in_a in_b in_d
root = refl

-- a client doesn't see an internal member of the library, so D().go() is none
hidden : member heirs (top_view heirs) (of d_key) (call (codes "go")) ≡ nothing kind.NoSuchName
unfolding member found_member candidates named members lineage superclass declaration_of declarations shown is_seen closure call of d_key heirs heirs_library f_of_a go make f_of_b f_of_d own_go in_a in_b in_d
hidden = refl

-- and in a function of D the search goes on to the top level
in_d_here : Here
in_d_here = record { world = heirs; view = record { «module» = main; type_round = Some d_key }; locals = codes "go" ∷ codes "x" ∷ codes "x" ∷ []; generics = codes "T" ∷ []; receiver = Some (of d_key) }

passed_over : meaning in_d_here (call (codes "go")) ≡ declaration (record { world = heirs; entry = own_go })
unfolding meaning found_member candidates named members lineage superclass declaration_of declarations shown is_seen closure call of d_key heirs heirs_library f_of_a go make f_of_b f_of_d own_go in_a in_b in_d in_d_here
passed_over = refl

-- of two locals of one name the last is meant
last_local : meaning in_d_here (value (codes "x")) ≡ local 2
unfolding meaning value in_d_here
last_local = refl

-- a static function is found at the type, and not at a value
static : member heirs (top_view heirs) (of d_key) (static_call (codes "make")) ≡ declaration (record { world = heirs_library; entry = make })
unfolding member found_member candidates named members lineage superclass declaration_of declarations shown is_seen closure static_call of d_key heirs heirs_library f_of_a go make f_of_b f_of_d own_go in_a in_b in_d
static = refl

not_static : member heirs (top_view heirs) (of d_key) (call (codes "make")) ≡ nothing kind.NoSuchName
unfolding member found_member candidates named members lineage superclass declaration_of declarations shown is_seen closure call of d_key heirs heirs_library f_of_a go make f_of_b f_of_d own_go in_a in_b in_d
not_static = refl

-- the base exists with other labels
other_labels : member heirs (top_view heirs) (of d_key) (record { base = codes "f"; call = Some (codes "a" ∷ []); of_type = false }) ≡ nothing kind.WrongLabels
unfolding member found_member candidates named members lineage superclass declaration_of declarations shown is_seen closure of d_key heirs heirs_library f_of_a go make f_of_b f_of_d own_go in_a in_b in_d
other_labels = refl

-- a function where a value is needed
function_as_value : member heirs (top_view heirs) (of d_key) (value (codes "f")) ≡ nothing kind.WrongType
unfolding member found_member candidates named members lineage superclass declaration_of declarations shown is_seen closure value of d_key heirs heirs_library f_of_a go make f_of_b f_of_d own_go in_a in_b in_d
function_as_value = refl

-- what the search ends with
print : meaning in_d_here (call (codes "print")) ≡ language (codes "print")
unfolding meaning found_member candidates named members lineage superclass declaration_of declarations shown is_seen closure call of d_key heirs heirs_library f_of_a go make f_of_b f_of_d own_go in_a in_b in_d in_d_here
print = refl

generic : meaning in_d_here (value (codes "T")) ≡ parameter 0
unfolding meaning value in_d_here
generic = refl

-- protocol P { func id() }, extension P { func id(); func m() }, protocol Q { func m() }
in_p : Within
in_p = braces nominal.Protocol (codes "P")

in_q : Within
in_q = braces nominal.Protocol (codes "Q")

id_of_p : Entry
id_of_p = declared in_p [] (function (codes "id") [])

m_of_q : Entry
m_of_q = declared in_q [] (function (codes "m") [])

protocols : World
protocols = alone (library (declared top (modifier.Public ∷ []) (nominal_type nominal.Protocol (codes "P") []) ∷ id_of_p
    ∷ declared top [] (extending (codes "P") []) ∷ declared (in_extension_of (codes "P")) (modifier.Public ∷ []) (function (codes "id") []) ∷ declared (in_extension_of (codes "P")) (modifier.Public ∷ []) (function (codes "m") [])
    ∷ declared top (modifier.Public ∷ []) (nominal_type nominal.Protocol (codes "Q") []) ∷ m_of_q ∷ []))

p_key : Key
p_key = key lib (lib ∷ []) (codes "P") None []

q_key : Key
q_key = key lib (lib ∷ []) (codes "Q") None []

both : Receiver
both = record { named = None; protocols = p_key ∷ q_key ∷ [] }

-- a requirement hides the extension's member of its own protocol
requirement : member protocols (top_view protocols) both (call (codes "id")) ≡ declaration (record { world = protocols; entry = id_of_p })
unfolding member found_member candidates named members lineage superclass declaration_of declarations shown is_seen closure call protocols p_key q_key both id_of_p m_of_q in_p in_q
requirement = refl

-- but not that of another protocol: a member of two protocols is ambiguous
ambiguous : member protocols (top_view protocols) both (call (codes "m")) ≡ nothing kind.Ambiguous
unfolding member found_member candidates named members lineage superclass declaration_of declarations shown is_seen closure call protocols p_key q_key both id_of_p m_of_q in_p in_q
ambiguous = refl

-- struct S { var x: Int; private var z: Bool }, enum E { case a }
in_s : Within
in_s = braces nominal.Struct (codes "S")

x_of_s : Entry
x_of_s = declared in_s (modifier.Internal ∷ []) (stored (codes "x") (type (codes "Int")))

z_of_s : Entry
z_of_s = declared in_s (modifier.Private ∷ []) (stored (codes "z") (type (codes "Bool")))

case_a : Entry
case_a = declared (braces nominal.Enum (codes "E")) [] (one_case (codes "a"))

values : World
values = alone (library (declared top (modifier.Internal ∷ []) (nominal_type nominal.Struct (codes "S") []) ∷ x_of_s ∷ z_of_s ∷ declared top (modifier.Internal ∷ []) (nominal_type nominal.Struct (codes "U") []) ∷ declared (braces nominal.Struct (codes "U")) (modifier.Internal ∷ []) (stored (codes "n") (type (codes "Int"))) ∷ declared top (modifier.Internal ∷ []) (nominal_type nominal.Enum (codes "E") []) ∷ case_a ∷ []))

s_key : Key
s_key = key lib (lib ∷ []) (codes "S") None []

u_key : Key
u_key = key lib (lib ∷ []) (codes "U") None []

in_struct : Viewpoint
in_struct = record { «module» = lib; type_round = Some s_key }

-- a private member is seen in its type, and not beside it
private_inside : member values in_struct (of s_key) (value (codes "z")) ≡ declaration (record { world = values; entry = z_of_s })
unfolding member found_member candidates named members lineage superclass declaration_of declarations shown is_seen closure value of values s_key u_key in_struct x_of_s z_of_s case_a in_s
private_inside = refl

private_outside : member values (top_view values) (of s_key) (value (codes "z")) ≡ nothing kind.NoSuchName
unfolding member found_member candidates named members lineage superclass declaration_of declarations shown is_seen closure value of values s_key u_key in_struct x_of_s z_of_s case_a in_s
private_outside = refl

-- the initialiser that a struct has without writing it is private where a stored property is
memberwise_seen : initialiser values (top_view values) u_key (codes "n" ∷ []) ≡ memberwise u_key
unfolding initialiser candidates named members declaration_of declarations shown is_seen values s_key u_key x_of_s z_of_s case_a in_s
memberwise_seen = refl

memberwise_private : initialiser values (top_view values) s_key (codes "x" ∷ codes "z" ∷ []) ≡ nothing kind.NoSuchName
unfolding initialiser candidates named members declaration_of declarations shown is_seen values s_key u_key x_of_s z_of_s case_a in_s
memberwise_private = refl

-- a case is found at its type
case_at_type : member values (top_view values) (of (key lib (lib ∷ []) (codes "E") None [])) (record { base = codes "a"; call = None; of_type = true }) ≡ declaration (record { world = values; entry = case_a })
unfolding member found_member candidates named members lineage superclass declaration_of declarations shown is_seen closure of values s_key u_key x_of_s z_of_s case_a in_s
case_at_type = refl
