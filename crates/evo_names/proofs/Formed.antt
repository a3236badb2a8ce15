-- What is listed of a module: no requirement stands in an extension.
use Rattle.std.proofs.Common.{◌≡◌, List, Bool, true, false, ◌&&◌, Option, Some, None, refl, subst}
use Rattle.std.specs.Option.{option_map, option_and_then}
use Rattle.evo_base.specs.declared.place.Place.{Place}
use Rattle.evo_names.specs.declared.declared_name.Sort.{Sort}
use Rattle.evo_names.specs.declared.declared_name.DeclaredName.{DeclaredName}
use Rattle.evo_names.specs.Listed.{Text, Within, top, braces, extension, Entry, World, Declaration, is_requirement, in_extension, name_of, sort_of}
use Rattle.evo_names.specs.Meets.{IsFormed}
use Rattle.evo_names.specs.Keys.{declared_name, declared_name_by, context_of}

and_false : (b : Bool) → (b && false) ≡ false
and_false true = refl
and_false false = refl

apart : (w : Within) (s : Sort) → (is_requirement w s && in_extension w) ≡ false
apart top s = refl
apart (braces k n) s = and_false (is_requirement (braces k n) s)
apart (extension t) s = refl

by_parts : (w : World) (e : Entry) (n : Option (Place × Text)) (c : Option (List Text)) (s : DeclaredName) → option_and_then (λ (name : Place × Text). option_map (declared_name_by w e name) c) n ≡ Some s → IsFormed s
by_parts w e None c s is = absurd cc
by_parts w e (Some n) None s is = absurd cc
by_parts w e (Some n) (Some c) s is =
    let same : declared_name_by w e n c ≡ s = cc in
    subst IsFormed same (apart e.within (sort_of e.kind))

-- each declaration of a module is listed so
pub formed : (d : Declaration) (s : DeclaredName) → declared_name d ≡ Some s → IsFormed s
unfolding declared_name
formed d s is = by_parts d.world d.entry (name_of d.entry) (context_of d.world d.entry.within) s is
