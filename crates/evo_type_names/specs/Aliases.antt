-- `typealias`es as they are borrowed.
use Rattle.std.specs.Prelude.{ℕ, List, [], map, Option, Some, None, Bool, slice_get}
use Rattle.std.specs.Option.{option_and_then}
use Rattle.evo_base.specs.declared.key.Key.{Key}
use Rattle.evo_tree.specs.declared.declaration.DeclKind.TheOpen as de
use Rattle.evo_tree.specs.declared.name.Identifier.{Identifier}
use Rattle.evo_tree.specs.declared.name.TypeName.{TypeName}
use Rattle.evo_meeting.specs.declared.spot.Context.{Context}
use Rattle.evo_meeting.specs.Spots.{context_of}
use Rattle.evo_names.specs.Listed.{Text, Kind, World, Declaration, declarations}
use Rattle.evo_names.specs.Meets.{same_names}
use Rattle.evo_names.specs.Keys.{own_key}
use Rattle.evo_type_names.specs.declared.aliases.AliasId.{AliasId}

abbrev pub alias_key : AliasId → Key
alias_key a = record { «module» = a.module.now; context = context_of a.context; base = a.base.now; labels = None; part = record { marks = [] } }

abbrev pub alias_keys : List AliasId → List Key
alias_keys ids = map alias_key ids

abbrev pub same_context : Context → Context → Bool
same_context a b = same_names (context_of a) (context_of b)

-- one of this module and name, in this context
abbrev pub alias_in : World → Text → List Text → Key
alias_in w n context = record { «module» = w.own.name; context = context; base = n; labels = None; part = record { marks = [] } }

abbrev pub alias_by : Declaration → Kind → Option Key
alias_by d (de.TypeAlias i t) = own_key d
alias_by d k = None

-- the `typealias` of this number
abbrev pub alias_at : World → ℕ → Option Key
alias_at w i = option_and_then (λ (d : Declaration). alias_by d d.entry.kind) (slice_get (declarations w) i)

abbrev pub alias_name : Kind → Option Identifier
alias_name (de.TypeAlias i t) = Some i
alias_name k = None

-- the type that a `typealias` or a default has written
abbrev pub written_by : Kind → Option TypeName
written_by (de.TypeAlias i t) = Some t
written_by (de.AssociatedType i ts t) = t
written_by k = None
