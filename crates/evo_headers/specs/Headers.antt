-- Parts of headers, in a scope.
use Rattle.std.specs.Prelude.{◌≡◌, map, Option}
use Rattle.std.specs.Option.{option_map}
use Rattle.evo_base.specs.declared.key.Key.{Key}
use Rattle.evo_tree.specs.declared.name.Identifier.{Identifier}
use Rattle.evo_tree.specs.declared.name.TypeName.{TypeName}
use Rattle.evo_tree.specs.declared.declaration.GenericParameter.{GenericParameter}
use Rattle.evo_tree.specs.declared.declaration.Parameter.{Parameter}
use Rattle.evo_tree.specs.declared.declaration.Payload.{Payload}
use Rattle.evo_tree.specs.declared.declaration.Header.{Header}
use Rattle.evo_resolved.specs.declared.declaration.Signature.{Signature}
use Rattle.evo_resolved.specs.declared.declaration.RHeader.{RHeader}
use Rattle.evo_names.specs.Listed.{Text}
use Rattle.evo_names.specs.Written.{Scope}
use Rattle.evo_names.specs.Resolved.{Both, IsParameter, IsRequirement, IsType, Pairs, written_requirements}

abbrev pub parameter_type : Parameter → TypeName
parameter_type p = p.type_name

abbrev pub payload_type : Payload → TypeName
payload_type p = p.type_name

abbrev pub payload_label : Payload → Option Text
payload_label p = option_map (λ (i : Identifier). i.text) p.label

-- a signature, of which the protocol is known that it stands in
pub record IsSigned (s : Scope) (p : Option Key) (h : Header) (r : Signature) : Type 0 where
  pub known : r.protocol ≡ p
  pub generics : r.generics ≡ map (λ (g : GenericParameter). g.name.text) h.generics
  pub requirements : Pairs (IsRequirement s) (written_requirements h) r.requirements

pub record IsWhole (s : Scope) (p : Option Key) (h : Header) (r : RHeader) : Type 0 where
  pub signature : IsSigned s p h r.signature
  pub parameters : Pairs (IsParameter s) h.parameters r.parameters
  pub result : Both (IsType s) h.result r.result
