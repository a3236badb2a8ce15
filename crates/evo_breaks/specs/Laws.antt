-- What the rules say by themselves.
use Rattle.std.specs.Prelude.{◌≡◌, Bool, true, false, List, [], ◌∷◌, Option, Some, None}
use Rattle.evo_base.specs.declared.key.Key.{Key}
use Rattle.evo_resolved.specs.declared.declaration.RDecl.{RDecl}
use Rattle.evo_resolved.specs.declared.resolved_type.RReference.{RReference}
use Rattle.evo_resolved.specs.declared.module.RDefault.{RDefault}
use Rattle.evo_resolved.specs.declared.module.RProtocol.{RProtocol}
use Rattle.evo_resolved.specs.declared.module.RModule.{RModule}
use Rattle.evo_breaks.specs.declared.sort.Sort.TheVariants as sort
use Rattle.evo_breaks.specs.Found.{HasOneForEachKey, owner_of, sort_of, declared_as, is_gone}
use Rattle.evo_breaks.specs.Conditions.{is_there}
use Rattle.evo_breaks.specs.Rules.{is_tried_as, compared_to, conforms_to, conformance_breaks, broken_rules}

pub data In {A : Type 0} : A → List A → Type 0 where
  here : {x : A} {xs : List A} → In x (x ∷ xs)
  there : {x y : A} {xs : List A} → In x xs → In x (y ∷ xs)

-- what an interface has once it is accepted: each requirement of which a protocol's table speaks is declared
pub record IsConsistent (m : RModule) : Type 0 where
  pub keys : HasOneForEachKey m
  pub requirements : (p : RProtocol) (x : RDefault) → In p m.protocols → In x p.defaults → is_there (declared_as sort.Requirement m x.requirement) ≡ true

-- an interface breaks no rule against itself
abbrev pub KeepsItself : Type 0
KeepsItself = (m : RModule) → IsConsistent m → broken_rules m m ≡ []

-- types and protocols stand in nothing
abbrev pub HasTypesAtTop : RModule → Type 0
HasTypesAtTop m = (d : RDecl) → In d m.decls → sort_of d ≡ sort.Nominal → owner_of d ≡ None

-- no type is gone, and an old declaration that is tried by itself is compared and breaks nothing, as each conformance of its header
pub record IsUnbroken (old new : RModule) (d : RDecl) : Type 0 where
  pub stays : (k : Key) → is_gone old new k ≡ false
  pub compared : is_tried_as (sort_of d) old new d ≡ true → compared_to old new d (declared_as (sort_of d) new d.own) ≡ []
  pub conformances : (p : RReference) → In p (conforms_to d.kind) → conformance_breaks old new d.own p ≡ []

-- where no rule is broken, none is broken by any old declaration
abbrev pub EachUnbroken : Type 0
EachUnbroken = (old new : RModule) → HasTypesAtTop old → broken_rules old new ≡ [] → (d : RDecl) → In d old.decls → IsUnbroken old new d
