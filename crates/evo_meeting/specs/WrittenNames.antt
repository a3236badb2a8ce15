-- What a name of a declaration stands for.
use Rattle.std.specs.Prelude.{Option}
use Rattle.std.specs.Option.{option_map}
use Rattle.evo_base.specs.declared.place.Place.{Place}
use Rattle.evo_names.specs.Listed.{Text}
use Rattle.evo_meeting.specs.declared.named.WrittenName.{WrittenName}

abbrev pub pair_of : WrittenName → Place × Text
pair_of n = (n.place, n.text.now)

abbrev pub name_view : Option WrittenName → Option (Place × Text)
name_view o = option_map pair_of o
