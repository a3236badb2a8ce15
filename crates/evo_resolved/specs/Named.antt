-- The keys under which declarations, bodies and conformances stand, and whether the key names them.
use Rattle.std.specs.Prelude.{Bool, true, false}
use Rattle.evo_base.specs.declared.key.Key.{Key}
use Rattle.evo_resolved.specs.declared.declaration.RDecl.{RDecl}
use Rattle.evo_resolved.specs.declared.declaration.RDeclKind.{RDeclKind}
use Rattle.evo_resolved.specs.declared.declaration.RDeclKind.TheVariants as kind
use Rattle.evo_resolved.specs.declared.body.RBody.{RBody}
use Rattle.evo_resolved.specs.declared.module.RConformance.{RConformance}

abbrev pub decl_key : RDecl → Key
decl_key d = d.own

-- an extension declares nothing of that name
abbrev pub declares : RDeclKind → Bool
declares (kind.Extension k r ps) = false
declares k = true

abbrev pub is_declared : RDecl → Bool
is_declared d = declares d.kind

abbrev pub body_key : RBody → Key
body_key b = b.owner

abbrev pub is_body : RBody → Bool
is_body b = true

abbrev pub conformance_key : RConformance → Key
conformance_key c = c.key

abbrev pub is_conformance : RConformance → Bool
is_conformance c = true
