-- Under which keys the bodies of a module stand.
use Rattle.std.proofs.Common.{◌≡◌, [], ◌∷◌, map, codes, Some, None, refl}
use Rattle.evo_base.specs.declared.key.Mark.TheVariants as mark
use Rattle.evo_tree.specs.declared.statement.Block.{Block}
use Rattle.evo_tree.specs.declared.statement.Introducer.TheVariants as introducer
use Rattle.evo_tree.specs.declared.declaration.Accessors.TheVariants as accessors
use Rattle.evo_tree.specs.declared.declaration.ModifierKind.TheVariants as modifier
use Rattle.evo_tree.specs.declared.declaration.NominalKind.TheVariants as nominal
use Rattle.evo_tree.specs.declared.declaration.DeclKind.TheOpen as de
use Rattle.evo_names.specs.Listed.{top, braces, World, alone}
use Rattle.evo_names.specs.Keys.{declared_name, start_key}
use Rattle.evo_names.specs.Bodies.{bodies, WrittenBody}
use Rattle.evo_names.proofs.Samples.{name, type, declared, function, stored, nominal_type, library, interface, client, key, lib}

-- protocol P { var n: Int { get set } }, struct S { var x: Int; func f() { .. } }
module_of_both : World
module_of_both = alone (library (declared top (modifier.Public ∷ []) (nominal_type nominal.Protocol (codes "P") [])
    ∷ declared (braces nominal.Protocol (codes "P")) [] (de.Property introducer.Var (name (codes "n")) (type (codes "Int")) accessors.GetSet)
    ∷ declared top (modifier.Public ∷ []) (nominal_type nominal.Struct (codes "S") [])
    ∷ declared (braces nominal.Struct (codes "S")) (modifier.Public ∷ []) (stored (codes "x") (type (codes "Int")))
    ∷ declared (braces nominal.Struct (codes "S")) (modifier.Public ∷ []) (function (codes "f") []) ∷ []))

owners : (b : Block) → map (λ (x : WrittenBody). x.owner) (bodies module_of_both b)
    ≡ key lib (lib ∷ codes "P" ∷ []) (codes "n") None (mark.RequirementGet ∷ []) ∷ key lib (lib ∷ codes "P" ∷ []) (codes "n") None (mark.RequirementSet ∷ [])
    ∷ key lib (lib ∷ codes "S" ∷ []) (codes "x") None [] ∷ key lib (lib ∷ codes "S" ∷ []) (codes "f") (Some []) [] ∷ []
unfolding bodies declared_name module_of_both
owners b = refl

-- a client has its top level last, be there nothing else
start : (b : Block) → map (λ (x : WrittenBody). x.owner) (bodies (client [] (interface [])) b) ≡ start_key ∷ []
unfolding bodies
start b = refl
