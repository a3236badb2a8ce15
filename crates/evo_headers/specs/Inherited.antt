-- What stands behind the names of types, extensions and associated types.
use Rattle.std.specs.Prelude.{◌≡◌, List, Option, Some, None}
use Rattle.evo_tree.specs.declared.name.TypeName.{TypeName}
use Rattle.evo_tree.specs.declared.declaration.NominalKind.{NominalKind}
use Rattle.evo_resolved.specs.declared.resolved_type.RReference.{RReference}
use Rattle.evo_resolved.specs.declared.resolved_type.RTypeName.{RTypeName}
use Rattle.evo_resolved.specs.declared.declaration.RDeclKind.{RDeclKind}
use Rattle.evo_resolved.specs.declared.declaration.RDeclKind.TheVariants as rk
use Rattle.evo_names.specs.Listed.{World}
use Rattle.evo_names.specs.Heads.{Head, class_named, head_of, protocol_named}
use Rattle.evo_names.specs.Written.{Scope}
use Rattle.evo_names.specs.Resolved.{Both, IsReference, IsType, Pairs, parted}
use Rattle.evo_headers.specs.Unresolved.{One, IsNoProtocol}

pub record IsNominal (w : World) (k : NominalKind) (ts : List TypeName) (r : RDeclKind) : Type 0 where
  pub above : Option RReference
  pub protocols : List RReference
  pub superclass : Both (IsReference (class_named w)) (parted w k ts).0 above
  pub others : Pairs (IsReference (protocol_named w)) (parted w k ts).1 protocols
  pub whole : r ≡ rk.Nominal k above protocols

pub record IsExtension (w : World) (t : TypeName) (ts : List TypeName) (r : RDeclKind) : Type 0 where
  pub head : Head
  pub reference : RReference
  pub protocols : List RReference
  pub found : head_of w t.names ≡ Some head
  pub place : reference.place ≡ t.place
  pub key : reference.key ≡ head.key
  pub others : Pairs (IsReference (protocol_named w)) ts protocols
  pub whole : r ≡ rk.Extension head.kind reference protocols

-- what is extended is no type or protocol, or a name behind it is no protocol
pub data NoExtension (w : World) (t : TypeName) (ts : List TypeName) : Type 0 where
  no_head : head_of w t.names ≡ None → NoExtension w t ts
  no_protocols : One (IsNoProtocol w) ts → NoExtension w t ts

pub record IsAssociated (s : Scope) (ts : List TypeName) (t : Option TypeName) (r : RDeclKind) : Type 0 where
  pub protocols : List RReference
  pub default : Option RTypeName
  pub named : Pairs (IsReference (protocol_named s.home)) ts protocols
  pub written : Both (IsType s) t default
  pub whole : r ≡ rk.AssociatedType protocols default
