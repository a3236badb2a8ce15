-- What a name finds by what stands round it, part by part.
use Rattle.std.specs.Prelude.{List, [], ◌∷◌, Option}
use Rattle.std.specs.Option.{option_and_then}
use Rattle.evo_base.specs.declared.key.Key.{Key}
use Rattle.evo_tree.specs.declared.name.TypeName.{TypeName}
use Rattle.evo_resolved.specs.declared.resolved_type.RType.{RType}
use Rattle.evo_names.specs.Listed.{Text, World, Declaration}
use Rattle.evo_names.specs.Seen.{Viewpoint}
use Rattle.evo_names.specs.Heads.{closure, conformances, first_some, sees}
use Rattle.evo_names.specs.Written as written
use Rattle.evo_names.specs.Written.{Around, Start, alias_of, associated_of, associated_type, fixed, protocol_member, required}

abbrev pub found_member : World → Key → Text → Option Start
found_member w k n = associated_type w (conformances w k) k n

abbrev pub required_member : World → RType → Text → Key → Option Start
required_member w self n p = option_and_then (λ (a : Declaration × Option TypeName). required w p self n) (associated_of w p n)

abbrev pub alias_member : World → Viewpoint → RType → Text → Key → Option Start
alias_member w v self n p = alias_of w (sees v) (written.in_protocol p self) p n

-- of one protocol
unfoldable pub member_of_protocol : World → Viewpoint → RType → Text → Key → Option Start
member_of_protocol w v self n p = protocol_member w v self n p

abbrev pub found_members : World → Viewpoint → RType → Text → List Key → Option Start
found_members w v self n ps = first_some (member_of_protocol w v self n) ps

abbrev pub members_round : World → Viewpoint → RType → Text → Key → Option Start
members_round w v self n p = found_members w v self n (closure w (p ∷ []))

unfoldable pub around_found : World → Viewpoint → Around → Text → Option Start
around_found w v a n = written.found_around w v a n
