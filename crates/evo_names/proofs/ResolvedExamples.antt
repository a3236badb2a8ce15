-- Declarations, and what they are once their names are resolved.
use Rattle.std.proofs.Common.{◌≡◌, List, [], ◌∷◌, map, codes, Option, Some, None, refl}
use Rattle.evo_base.specs.declared.key.Key.{Key}
use Rattle.evo_tree.specs.declared.statement.Introducer.TheVariants as introducer
use Rattle.evo_tree.specs.declared.declaration.ModifierKind.{ModifierKind}
use Rattle.evo_tree.specs.declared.declaration.ModifierKind.TheVariants as modifier
use Rattle.evo_tree.specs.declared.declaration.ParameterLabel.TheVariants as label
use Rattle.evo_tree.specs.declared.declaration.NominalKind.TheVariants as nominal
use Rattle.evo_tree.specs.declared.declaration.DeclKind.TheOpen as de
use Rattle.evo_resolved.specs.declared.resolved_type.RType.{RType}
use Rattle.evo_resolved.specs.declared.resolved_type.RType.TheVariants as ty
use Rattle.evo_resolved.specs.declared.resolved_type.RTypeName.{RTypeName}
use Rattle.evo_resolved.specs.declared.resolved_type.RReference.{RReference}
use Rattle.evo_resolved.specs.declared.declaration.RRequirement.TheVariants as rr
use Rattle.evo_resolved.specs.declared.declaration.Kept.TheVariants as kept
use Rattle.evo_resolved.specs.declared.declaration.Standing.{Standing}
use Rattle.evo_resolved.specs.declared.declaration.Standing.TheVariants as standing
use Rattle.evo_resolved.specs.declared.declaration.RDeclKind.{RDeclKind}
use Rattle.evo_resolved.specs.declared.declaration.RDeclKind.TheVariants as rk
use Rattle.evo_resolved.specs.declared.declaration.RDecl.{RDecl}
use Rattle.evo_names.specs.Listed.{Text, Within, top, braces, Entry, World, Declaration, alone, declarations}
use Rattle.evo_names.specs.Seen.{is_seen}
use Rattle.evo_names.specs.Heads.{named, declaration_of, superclass, lineage, closure, conformances, members, shown}
use Rattle.evo_names.specs.Keys.{declared_name, key_of, root_of, root_from}
use Rattle.evo_names.specs.Written.{beginning, type_member, associated_type}
use Rattle.evo_names.specs.Faults.{scope_of}
use Rattle.evo_names.specs.Typing.{int, bool}
use Rattle.evo_names.specs.Resolved.{no_more, one_more, neither, each, conforming, function, property, type, stored, IsDeclared, IsMemberwise, IsStored}
use Rattle.evo_names.proofs.Circles.{at_once, through}
use Rattle.evo_names.proofs.Samples as sample
use Rattle.evo_names.proofs.Samples.{declared, nominal_type, library, key, lib, origin, name, marked}

abbrev written : List Key → RType → RTypeName
written met t = record { place = origin; aliases = met; ty = t }

abbrev reference : Key → RReference
reference k = record { place = origin; key = k }

abbrev own_key : List Text → Text → Option (List Text) → Key
own_key context n labels = key lib context n labels []

-- a declaration with one key
abbrev resolved : Key → List ModifierKind → Standing → RDeclKind → RDecl
resolved k ms s kind = record { place = origin; name_place = origin; key = k; own = k; standing = s; attrs = []; modifiers = map marked ms; kind = kind }

-- public protocol P { }, func f<T: P>(_ x: T) -> Int
p_key : Key
p_key = own_key (lib ∷ []) (codes "P") None

f : Entry
f = declared top (modifier.Public ∷ []) (de.Function (name (codes "f")) (record {
  generics = record { name = name (codes "T"); protocols = sample.type (codes "P") ∷ [] } ∷ [];
  parameters = sample.parameter label.Blank (codes "x") (sample.type (codes "T")) ∷ [];
  result = Some (sample.type (codes "Int"));
  requirements = [];
}) None)

generics : World
generics = alone (library (declared top (modifier.Public ∷ []) (nominal_type nominal.Protocol (codes "P") []) ∷ f ∷ []))

generic_function : IsDeclared (record { world = generics; entry = f }) (resolved (own_key (lib ∷ []) (codes "f") (Some (codes "_" ∷ []))) (modifier.Public ∷ []) standing.TopLevel (rk.Function (record {
  signature = record { «protocol» = None; generics = codes "T" ∷ []; requirements = rr.Conforms (written [] (ty.Param 0)) (reference p_key) ∷ [] };
  parameters = record { place = origin; label = codes "_"; name = codes "x"; written = written [] (ty.Param 0) } ∷ [];
  result = Some (written [] int);
})))
unfolding generics f p_key key_of declared_name scope_of beginning named is_seen
generic_function = record {
  place = refl;
  name = refl;
  key = refl;
  own = refl;
  standing = refl;
  attrs = refl;
  modifiers = refl;
  kind = function (record {
    signature = record { «protocol» = refl; generics = refl; requirements = one_more (conforming (record { place = refl; means = at_once refl }) (record { place = refl; key = refl })) no_more };
    parameters = one_more (record { place = refl; label = refl; name = refl; type = record { place = refl; means = at_once refl } }) no_more;
    result = each (record { place = refl; means = at_once refl });
  });
}

-- open class A { }, open class B: A, P { }: the first name is the superclass
b : Entry
b = declared top (modifier.Open ∷ []) (nominal_type nominal.Class (codes "B") (sample.type (codes "A") ∷ sample.type (codes "P") ∷ []))

classes : World
classes = alone (library (declared top (modifier.Public ∷ []) (nominal_type nominal.Protocol (codes "P") []) ∷ declared top (modifier.Open ∷ []) (nominal_type nominal.Class (codes "A") []) ∷ b ∷ []))

subclass : IsDeclared (record { world = classes; entry = b }) (resolved (own_key (lib ∷ []) (codes "B") None) (modifier.Open ∷ []) standing.TopLevel (rk.Nominal nominal.Class (Some (reference (own_key (lib ∷ []) (codes "A") None))) (reference p_key ∷ [])))
unfolding classes b p_key key_of declared_name named is_seen
subclass = record {
  place = refl;
  name = refl;
  key = refl;
  own = refl;
  standing = refl;
  attrs = refl;
  modifiers = refl;
  kind = type (each (record { place = refl; key = refl })) (one_more (record { place = refl; key = refl }) no_more);
}

-- struct S { typealias N = Int; var x: N; private var z: Bool }: the property's type with the `typealias` that it meets, and the initialiser that is not written
in_s : Within
in_s = braces nominal.Struct (codes "S")

s_key : Key
s_key = own_key (lib ∷ []) (codes "S") None

n_key : Key
n_key = own_key (lib ∷ codes "S" ∷ []) (codes "N") None

x : Entry
x = declared in_s (modifier.Internal ∷ []) (sample.stored (codes "x") (sample.type (codes "N")))

structs : World
structs = alone (library (declared top (modifier.Internal ∷ []) (nominal_type nominal.Struct (codes "S") []) ∷ declared in_s (modifier.Internal ∷ []) (sample.alias (codes "N") (sample.type (codes "Int"))) ∷ x ∷ declared in_s (modifier.Private ∷ []) (sample.stored (codes "z") (sample.type (codes "Bool"))) ∷ []))

stored_property : IsDeclared (record { world = structs; entry = x }) (resolved (own_key (lib ∷ codes "S" ∷ []) (codes "x") None) (modifier.Internal ∷ []) (standing.Braces nominal.Struct s_key) (rk.Property introducer.Var (written (n_key ∷ []) int) kept.Stored))
unfolding structs x in_s s_key n_key key_of declared_name scope_of beginning type_member associated_type named members lineage superclass declaration_of declarations conformances closure shown is_seen
stored_property = record {
  place = refl;
  name = refl;
  key = refl;
  own = refl;
  standing = refl;
  attrs = refl;
  modifiers = refl;
  kind = property (record { place = refl; means = through _ refl (at_once refl) refl });
}

memberwise : IsMemberwise structs (name (codes "S")) (resolved (own_key (lib ∷ codes "S" ∷ []) (codes "init") (Some (codes "x" ∷ codes "z" ∷ []))) (modifier.Private ∷ []) (standing.Braces nominal.Struct s_key) (rk.Initialiser (record {
  signature = record { «protocol» = None; generics = []; requirements = [] };
  parameters = record { place = origin; label = codes "x"; name = codes "x"; written = written (n_key ∷ []) int } ∷ record { place = origin; label = codes "z"; name = codes "z"; written = written [] bool } ∷ [];
  result = None;
})))
unfolding structs x in_s s_key n_key declared_name scope_of beginning type_member associated_type named members lineage superclass declaration_of declarations conformances closure shown is_seen
memberwise = record {
  labels = codes "x" ∷ codes "z" ∷ [];
  unwritten = refl;
  parameters = _;
  stored = one_more (stored refl (record { place = refl; means = through _ refl (at_once refl) refl })) (one_more (stored refl (record { place = refl; means = at_once refl })) no_more);
  whole = refl;
}
