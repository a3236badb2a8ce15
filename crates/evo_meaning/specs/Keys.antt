-- When two keys are the same, and what a key finds in a list.
use Rattle.std.specs.Prelude.{ℕ, Bool, true, false, ◌&&◌, ◌==◌, List, [], ◌∷◌, Option, Some, None, if◌then◌else◌}
use Rattle.std.specs.Str.{bytes_eq}
use Rattle.evo_base.specs.declared.key.ProtocolName.{ProtocolName}
use Rattle.evo_base.specs.declared.key.Mark.{Mark}
use Rattle.evo_base.specs.declared.key.Mark.TheVariants as mark
use Rattle.evo_base.specs.declared.key.Key.{Key}
use Rattle.evo_names.specs.Listed.{Text}
use Rattle.evo_names.specs.Meets.{same_names, same_labels}

-- which mark it is
abbrev pub mark_number : Mark → ℕ
mark_number mark.Get = 0
mark_number mark.Set = 1
mark_number mark.Requirement = 2
mark_number mark.RequirementGet = 3
mark_number mark.RequirementSet = 4
mark_number mark.Case = 5
mark_number mark.Is = 6
mark_number mark.Take = 7
mark_number mark.New = 8
mark_number mark.Size = 9
mark_number mark.Instance = 10
mark_number mark.Class = 11
mark_number mark.Protocol = 12
mark_number mark.Copy = 13
mark_number mark.Override = 14
mark_number mark.Start = 15
mark_number (mark.Conformance p) = 16
mark_number (mark.Inherited p) = 17
mark_number (mark.Associated p) = 18
mark_number (mark.Thunk s) = 19

abbrev pub protocol_names : ProtocolName → List Text
protocol_names p = p.module ∷ p.name ∷ []

-- the names that it holds
abbrev pub mark_names : Mark → List Text
mark_names (mark.Conformance p) = protocol_names p
mark_names (mark.Inherited p) = protocol_names p
mark_names (mark.Associated p) = protocol_names p
mark_names (mark.Thunk s) = s ∷ []
mark_names _ = []

abbrev pub same_mark : Mark → Mark → Bool
same_mark a b = (mark_number a == mark_number b) && same_names (mark_names a) (mark_names b)

abbrev pub same_marks : List Mark → List Mark → Bool
same_marks [] [] = true
same_marks [] (y ∷ ys) = false
same_marks (x ∷ xs) [] = false
same_marks (x ∷ xs) (y ∷ ys) = same_mark x y && same_marks xs ys

-- the two keys are equal (law `same_key_is_equality`)
unfoldable pub same_key : Key → Key → Bool
same_key a b = bytes_eq a.base b.base && bytes_eq a.module b.module && same_names a.context b.context && same_labels a.labels b.labels && same_marks a.part.marks b.part.marks

-- the first of the items that their keys name which has this key
unfoldable pub look_up : {A : Type 0} → (A → Key) → (A → Bool) → List A → Key → Option A
look_up own is_named [] key = None
look_up own is_named (x ∷ xs) key = if is_named x && same_key (own x) key then Some x else look_up own is_named xs key

-- the first item that has this key
abbrev pub with_key : {A : Type 0} → (A → Key) → List A → Key → Option A
with_key own items key = look_up own (λ x. true) items key
