-- What borrowed parts of trees stand for in the list of declarations.
use Rattle.std.specs.Prelude.{List, Option, map}
use Rattle.std.specs.Option.{option_map}
use Rattle.evo_base.specs.declared.key.Key.{Key}
use Rattle.evo_declarations.specs.declared.level.Level.{Level}
use Rattle.evo_declarations.specs.declared.level.Level.TheVariants as level
use Rattle.evo_declarations.specs.declared.listed.Within.{Within}
use Rattle.evo_declarations.specs.declared.listed.Within.TheVariants as within
use Rattle.evo_declarations.specs.declared.listed.Listed.{Listed}
use Rattle.evo_declarations.specs.declared.listed.Listing.{Listing}
use Rattle.evo_declarations.specs.declared.type_id.TypeId.{TypeId}
use Rattle.evo_declarations.specs.declared.seen.Viewpoint.{Viewpoint}
use Rattle.evo_declarations.specs.declared.seen.Shown.{Shown}
use Rattle.evo_names.specs.Listed as names
use Rattle.evo_names.specs.Seen as seen
use Rattle.evo_names.specs.Heads.{type_key}

-- ---- declarations

abbrev pub within_of : Within → names.Within
within_of within.Top = names.top
within_of (within.Braces kind name) = names.braces kind name.now
within_of (within.Extension type) = names.extension type.now

abbrev pub entry_view : Listed → names.Entry
entry_view l = names.entry (within_of l.within) l.decl.now

abbrev pub entries_of : List Listed → List names.Entry
entries_of ls = map entry_view ls

abbrev pub listing_view : Listing → names.Listing
listing_view l = record { form = l.form.now; name = l.name.now; imports = l.imports.now; entries = entries_of l.entries.items }

-- ---- what is seen

abbrev pub level_of : Level → seen.Level
level_of level.Private = seen.private_level
level_of level.Internal = seen.internal_level
level_of level.Usable = seen.usable_level
level_of level.Public = seen.public_level

abbrev pub key_of_type : TypeId → Key
key_of_type t = type_key t.module.now t.base.now

abbrev pub types_of : Option TypeId → Option Key
types_of o = option_map key_of_type o

abbrev pub view_of : Viewpoint → seen.Viewpoint
view_of v = record { «module» = v.module.now; type_round = types_of v.type_round }

abbrev pub shown_of : Shown → seen.Shown
shown_of s = record { «module» = s.module.now; owner = types_of s.owner; own = level_of s.own; context = level_of s.context }
