-- The first item past a limit: a declaration behind 4,096, a parameter or the value of a payload behind 16, or a generic parameter behind 4.
use Rattle.std.specs.Prelude.{◌≡◌, List, Option, Some, None, slice_get}
use Rattle.std.specs.Option.{option_map, option_or}
use Rattle.evo_base.specs.declared.place.Place.{Place}
use Rattle.evo_base.specs.declared.fault_kind.FaultKind.TheVariants as kind
use Rattle.evo_tree.specs.declared.declaration.GenericParameter.{GenericParameter}
use Rattle.evo_tree.specs.declared.declaration.Parameter.{Parameter}
use Rattle.evo_tree.specs.declared.declaration.Payload.{Payload}
use Rattle.evo_tree.specs.declared.declaration.Header.{Header}
use Rattle.evo_tree.specs.declared.declaration.DeclKind.TheOpen as de
use Rattle.evo_declarations.specs.declared.listed.Listed.{Listed}
use Rattle.evo_declarations.specs.Views.{entry_view, entries_of}
use Rattle.evo_names.specs.Listed.{Kind, Entry, Listing, World}
use Rattle.evo_names.specs.Heads.{first_some}
use Rattle.evo_names.specs.Faults.{IsFault, payload_place, most_declarations}

abbrev pub in_header : Header → Option Place
in_header h = option_or (option_map (λ (p : Parameter). p.place) (slice_get h.parameters 16)) (option_map (λ (g : GenericParameter). g.name.place) (slice_get h.generics 4))

abbrev pub in_payload : List Payload → Option Place
in_payload ps = option_map payload_place (slice_get ps 16)

-- within a declaration
abbrev pub in_declaration : Kind → Option Place
in_declaration (de.Function i h b) = in_header h
in_declaration (de.Initialiser h b) = in_header h
in_declaration (de.Case i ps) = in_payload ps
in_declaration k = None

abbrev pub in_entry : Entry → Option Place
in_entry e = in_declaration e.kind

abbrev pub listed_place : Listed → Place
listed_place l = (entry_view l).place

-- the one that is one too many
abbrev pub behind_most : List Listed → Option Place
behind_most ls = option_map listed_place (slice_get ls most_declarations)

-- the first one in these
abbrev pub first_past : List Listed → Option Place
first_past ls = first_some in_entry (entries_of ls)

unfoldable pub past_limit : Listing → Option Place
past_limit m = option_or (option_map (λ (e : Entry). e.place) (slice_get m.entries most_declarations)) (first_some in_entry m.entries)

-- what it answers is what the faults of names say
pub record PastLimit : Type 0 where
  pub some : (w : World) (p : Place) → past_limit w.own ≡ Some p → IsFault w kind.TooMany p
  pub none : (w : World) (p : Place) → past_limit w.own ≡ None → IsFault w kind.TooMany p → ⊥
