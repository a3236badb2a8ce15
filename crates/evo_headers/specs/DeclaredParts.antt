-- A declaration of its parts.
use Rattle.std.specs.Prelude.{◌≡◌, Some}
use Rattle.evo_resolved.specs.declared.declaration.RDecl.{RDecl}
use Rattle.evo_resolved.specs.declared.declaration.RDeclKind.{RDeclKind}
use Rattle.evo_names.specs.Listed.{Entry, Declaration}
use Rattle.evo_names.specs.Keys.{key_of}
use Rattle.evo_names.specs.Bodies.{owner_key}
use Rattle.evo_names.specs.Resolved.{name_place, standing_of}
use Rattle.evo_headers.specs.declared.declared.Placed.{Placed}

-- the words before a declaration, its keys, and what it stands in
pub record IsPlaced (d : Declaration) (p : Placed) : Type 0 where
  pub attrs : p.attrs ≡ d.entry.attrs
  pub modifiers : p.modifiers ≡ d.entry.modifiers
  pub key : key_of d ≡ Some p.key
  pub own : owner_key d d.entry.kind ≡ Some p.own
  pub standing : standing_of d.world d.entry.within ≡ Some p.standing

abbrev pub assembled_of : Entry → Placed → RDeclKind → RDecl
assembled_of e p k = record { place = e.place; name_place = name_place e; key = p.key; own = p.own; standing = p.standing; attrs = p.attrs; modifiers = p.modifiers; kind = k }
