-- The symbol of a key: its text, in which each mark stands as it is read.
use Rattle.std.specs.Prelude.{ℕ, List, [], ◌∷◌, ◌++◌, flat_map, Bool, true, false, not, nat_eq, ◌&&◌, Option, Some, None, codes, if◌then◌else◌}
use Rattle.std.specs.List.{list_all, list_any}
use Rattle.std.specs.Str.{bytes_eq}
use Rattle.evo_base.specs.declared.key.ProtocolName.{ProtocolName}
use Rattle.evo_base.specs.declared.key.Mark.{Mark}
use Rattle.evo_base.specs.declared.key.Mark.TheVariants as mark
use Rattle.evo_base.specs.declared.key.Key.{Key}

abbrev pub Text : Type 0
Text = List ℕ

-- `:Lib.P`
abbrev pub protocol_text : ProtocolName → Text
protocol_text p = codes ":" ++ (p.module ++ (codes "." ++ p.name))

abbrev pub mark_text : Mark → Text
mark_text mark.Get = codes "#get"
mark_text mark.Set = codes "#set"
mark_text mark.Requirement = codes "#requirement"
mark_text mark.RequirementGet = codes "#requirement.get"
mark_text mark.RequirementSet = codes "#requirement.set"
mark_text mark.Case = codes "#case"
mark_text mark.Is = codes "#is"
mark_text mark.Take = codes "#take"
mark_text mark.New = codes "#new"
mark_text mark.Size = codes "#size"
mark_text mark.Instance = codes "#instance"
mark_text mark.Class = codes "#class"
mark_text mark.Protocol = codes "#protocol"
mark_text mark.Copy = codes "#copy"
mark_text mark.Override = codes "#override"
mark_text mark.Start = codes "#start"
mark_text (mark.Conformance p) = protocol_text p
mark_text (mark.Inherited p) = protocol_text p ++ codes "#conformance"
mark_text (mark.Associated p) = protocol_text p ++ codes "#associated"
mark_text (mark.Thunk s) = codes "/" ++ (s ++ codes "#thunk")

abbrev pub marks_text : List Mark → Text
marks_text [] = []
marks_text (m ∷ ms) = mark_text m ++ marks_text ms

-- each label with a colon behind it
abbrev pub each_label : List Text → Text
each_label [] = []
each_label (l ∷ ls) = l ++ (codes ":" ++ each_label ls)

abbrev pub labels_text : Option (List Text) → Text
labels_text None = []
labels_text (Some ls) = codes "(" ++ (each_label ls ++ codes ")")

-- each name with a dot behind it
abbrev pub context_text : List Text → Text
context_text [] = []
context_text (c ∷ cs) = c ++ (codes "." ++ context_text cs)

-- the module stands first where it is not the one in which the context begins
abbrev pub module_text : Text → List Text → Text
module_text m [] = []
module_text m (c ∷ cs) = if bytes_eq m c then [] else m ++ codes ":"

abbrev pub symbol_text : Key → Text
symbol_text k = module_text k.module k.context ++ (context_text k.context ++ (k.base ++ (labels_text k.labels ++ marks_text k.part.marks)))

-- ---- keys whose symbols tell them apart

-- `. : # / ( )`
abbrev pub signs : Text
signs = codes ".:#/()"

abbrev pub is_sign : ℕ → Bool
is_sign b = list_any (λ s. nat_eq b s) signs

-- a name is not empty, and has no sign
abbrev pub is_plain : Text → Bool
is_plain [] = false
is_plain (b ∷ bs) = list_all (λ c. not (is_sign c)) (b ∷ bs)

abbrev pub are_plain : List Text → Bool
are_plain ns = list_all is_plain ns

abbrev pub are_plain_labels : Option (List Text) → Bool
are_plain_labels None = true
are_plain_labels (Some ls) = are_plain ls

abbrev pub is_plain_protocol : ProtocolName → Bool
is_plain_protocol p = is_plain p.module && is_plain p.name

-- the names of a mark are plain. A thunk holds any text.
abbrev pub is_plain_mark : Mark → Bool
is_plain_mark (mark.Conformance p) = is_plain_protocol p
is_plain_mark (mark.Inherited p) = is_plain_protocol p
is_plain_mark (mark.Associated p) = is_plain_protocol p
is_plain_mark m = true

abbrev pub is_thunk : Mark → Bool
is_thunk (mark.Thunk s) = true
is_thunk m = false

-- no mark but the last is a thunk
abbrev pub has_thunk_last : List Mark → Bool
has_thunk_last [] = true
has_thunk_last (m ∷ []) = true
has_thunk_last (m ∷ n ∷ ms) = not (is_thunk m) && has_thunk_last (n ∷ ms)

abbrev pub is_empty : List Text → Bool
is_empty [] = true
is_empty (c ∷ cs) = false

-- it has a context, its names are plain, and only its last mark may be a thunk
abbrev pub is_plain_key : Key → Bool
is_plain_key k = not (is_empty k.context) && is_plain k.module && are_plain k.context && is_plain k.base && are_plain_labels k.labels && list_all is_plain_mark k.part.marks && has_thunk_last k.part.marks
