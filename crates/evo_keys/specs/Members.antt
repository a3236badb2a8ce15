-- What a declaration in the world of its module stands for.
use Rattle.std.specs.Prelude.{Option}
use Rattle.std.specs.Option.{option_map}
use Rattle.evo_meeting.specs.DeclaredNames.{declaration_view}
use Rattle.evo_names.specs.Listed.{Declaration}
use Rattle.evo_keys.specs.declared.members.Member.{Member}

abbrev pub member_view : Member → Declaration
member_view m = declaration_view m.world m.listed

abbrev pub found_member : Option Member → Option Declaration
found_member o = option_map member_view o
