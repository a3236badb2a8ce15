-- The load check: what is named is there, where jumps may go, and which function calls which, so that each run takes ticks.
use Rattle.std.specs.Prelude.{ℕ, ◌+◌, List, [], ◌∷◌, map, length, Bool, true, false, not, ◌&&◌, ◌||◌, Option, Some, None, slice_get, nat_le, nat_lt, if◌then◌else◌}
use Rattle.std.specs.List.{list_all, list_any}
use Rattle.std.specs.Str.{bytes_eq}
use Rattle.evo_code.specs.Named.{named}
use Rattle.evo_code.specs.declared.instr.Instr.{Instr}
use Rattle.evo_code.specs.declared.instr.Instr.TheVariants as Op
use Rattle.evo_code.specs.declared.instr.Arg.{Arg}
use Rattle.evo_code.specs.declared.layout.Layout.{Layout, Layout-F, fold-Layout}
use Rattle.evo_code.specs.declared.layout.Layout.TheOpen as layout
use Rattle.evo_code.specs.declared.layout.Operand.{Operand}
use Rattle.evo_code.specs.declared.object.Object.{Object}
use Rattle.evo_code.specs.declared.object.Function.{Function}
use Rattle.evo_code.specs.declared.object.Level.{Level}
use Rattle.evo_code.specs.declared.object.Level.TheVariants as level
use Rattle.evo_code.specs.declared.object.Import.{Import}
use Rattle.evo_code.specs.declared.object.ImportKind.{ImportKind}
use Rattle.evo_code.specs.declared.object.ImportKind.TheVariants as kind
use Rattle.evo_code.specs.declared.object.SizeRecord.{SizeRecord}
use Rattle.evo_code.specs.declared.object.CodeEntry.{CodeEntry}
use Rattle.evo_code.specs.declared.object.SubEntry.{SubEntry}
use Rattle.evo_code.specs.declared.object.ClassRecord.{ClassRecord}
use Rattle.evo_code.specs.declared.object.Requirement.{Requirement}
use Rattle.evo_code.specs.declared.object.SubRequirement.{SubRequirement}
use Rattle.evo_code.specs.declared.object.ProtocolRecord.{ProtocolRecord}
use Rattle.evo_code.specs.declared.object.ConfRecord.{ConfRecord}

-- ---- levels

abbrev pub rank : Level → ℕ
rank level.Zero = 0
rank level.One = 1
rank level.Two = 2
rank level.Three = 3
rank level.Timed = 4

abbrev pub is_timed : Level → Bool
is_timed level.Timed = true
is_timed l = false

-- a function of the first level may call one of the second: it is timed, or lower
abbrev pub may_call : Level → Level → Bool
may_call l callee = is_timed callee || nat_lt (rank callee) (rank l)

-- a function that takes ticks, or one of level 0 to 2
abbrev pub is_low : Level → Bool
is_low l = is_timed l || nat_le (rank l) 2

-- ---- names

abbrev pub same_kind : ImportKind → ImportKind → Bool
same_kind kind.Function kind.Function = true
same_kind kind.Size kind.Size = true
same_kind kind.Class kind.Class = true
same_kind kind.Protocol kind.Protocol = true
same_kind kind.Conformance kind.Conformance = true
same_kind a b = false

-- the symbol is imported with this kind
abbrev pub is_import : ImportKind → List ℕ → Import → Bool
is_import k s i = bytes_eq i.symbol s && same_kind i.kind k

-- ---- jumps

abbrev pub is_tick : Option Instr → Bool
is_tick (Some Op.Tick) = true
is_tick i = false

-- a jump goes forwards, at most to the end, or to a tick
abbrev pub jumps_well : List Instr → ℕ → ℕ → Bool
jumps_well code at target = (nat_lt at target && nat_le target (length code)) || is_tick (slice_get code target)

-- ---- functions alone

-- a timed function begins with a tick
abbrev pub begins_well : Level → List Instr → Bool
begins_well level.Timed code = is_tick (slice_get code 0)
begins_well l code = true

-- what is exported is timed or of level 0, as what is imported counts
abbrev pub is_exported_well : Level → Bool → Bool
is_exported_well l false = true
is_exported_well l true = is_timed l || nat_le (rank l) 0

-- the level of the first function here with this symbol; what is imported counts as level 0
abbrev pub level_in : List Function → List ℕ → Level
level_in [] s = level.Zero
level_in (g ∷ gs) s = if bytes_eq g.symbol s then g.level else level_in gs s

-- the function with this number is there, and its level passes
abbrev pub level_passes : (Level → Bool) → Option Function → Bool
level_passes test None = false
level_passes test (Some f) = test f.level

module _ (o : Object) where
  -- what the object defines, by kind
  abbrev pub defined : ImportKind → List (List ℕ)
  defined kind.Function = map (λ (f : Function). f.symbol) o.functions
  defined kind.Size = map (λ (r : SizeRecord). r.symbol) o.sizes
  defined kind.Class = map (λ (r : ClassRecord). r.symbol) o.classes
  defined kind.Protocol = map (λ (r : ProtocolRecord). r.symbol) o.protocols
  defined kind.Conformance = map (λ (r : ConfRecord). r.symbol) o.conformances

  -- the symbol is defined here, or imported with that kind
  abbrev pub has : ImportKind → List ℕ → Bool
  has k s = named (defined k) s || list_any (is_import k s) o.imports

  abbrev pub has_optional : ImportKind → Option (List ℕ) → Bool
  has_optional k None = true
  has_optional k (Some s) = has k s

  -- each symbol in a layout has a size
  abbrev pub level_is_sized : Layout-F Bool → Bool
  level_is_sized (layout.Words n) = true
  level_is_sized (layout.SizeOf s) = has kind.Size s
  level_is_sized (layout.Sum bs) = list_all (λ b. b) bs
  level_is_sized (layout.Max bs) = list_all (λ b. b) bs

  abbrev pub is_sized : Layout → Bool
  is_sized = fold-Layout Bool level_is_sized

  abbrev pub is_place : Operand → Bool
  is_place p = is_sized p.offset

  abbrev pub is_argument : Arg → Bool
  is_argument a = is_place a.place && is_sized a.layout

  abbrev pub are_arguments : List Arg → Operand → Layout → Bool
  are_arguments args to size = list_all is_argument args && (is_place to && is_sized size)

  -- ---- functions

  abbrev pub level_of : List ℕ → Level
  level_of s = level_in o.functions s

  -- an instruction at a place of the code of a function of this level
  abbrev pub instr_passes : Level → List Instr → ℕ → Instr → Bool
  instr_passes l code at Op.Tick = is_timed l
  instr_passes l code at (Op.Int to n) = is_place to
  instr_passes l code at (Op.Bool to b) = is_place to
  instr_passes l code at (Op.Text to t) = is_place to
  instr_passes l code at (Op.Move to from z) = is_place to && (is_place from && is_sized z)
  instr_passes l code at (Op.Jump target) = jumps_well code at target
  instr_passes l code at (Op.Unless test target) = is_place test && jumps_well code at target
  instr_passes l code at (Op.Math m to a b) = is_place to && (is_place a && is_place b)
  instr_passes l code at (Op.Neg to a) = is_place to && is_place a
  instr_passes l code at (Op.Order m to a b) = is_place to && (is_place a && is_place b)
  instr_passes l code at (Op.Equal to a b) = is_place to && (is_place a && is_place b)
  instr_passes l code at (Op.Same to a b) = is_place to && (is_place a && is_place b)
  instr_passes l code at (Op.Not to a) = is_place to && is_place a
  instr_passes l code at (Op.Join to a b) = is_place to && (is_place a && is_place b)
  instr_passes l code at (Op.Call f args to z) = has kind.Function f && (may_call l (level_of f) && are_arguments args to z)
  instr_passes l code at (Op.Dispatch m args to z) = are_arguments args to z
  instr_passes l code at (Op.Super c m args to z) = has kind.Class c && are_arguments args to z
  instr_passes l code at (Op.Witness t r args to z) = may_call l level.Two && (is_place t && are_arguments args to z)
  instr_passes l code at (Op.Return from z) = is_place from && is_sized z
  instr_passes l code at (Op.New to c) = is_place to && has kind.Class c
  instr_passes l code at (Op.Load to a x z) = is_place to && (is_place a && (is_sized x && is_sized z))
  instr_passes l code at (Op.Store a x from z) = is_place a && (is_sized x && (is_place from && is_sized z))
  instr_passes l code at (Op.Box to from z) = is_place to && (is_place from && is_sized z)
  instr_passes l code at (Op.Unbox to from z) = is_place to && (is_place from && is_sized z)
  instr_passes l code at (Op.Table to c) = is_place to && has kind.Conformance c
  instr_passes l code at (Op.Sub to t r) = is_place to && is_place t
  instr_passes l code at (Op.Print items) = list_all is_place items
  instr_passes l code at (Op.Trap k) = true

  -- these instructions, from a place of the code on
  abbrev pub code_passes : Level → List Instr → ℕ → List Instr → Bool
  code_passes l code at [] = true
  code_passes l code at (i ∷ is) = instr_passes l code at i && code_passes l code (at + 1) is

  abbrev pub function_passes : Function → Bool
  function_passes f =
      begins_well f.level f.code
      && (is_exported_well f.level f.exported && (list_all is_sized f.slots && (is_sized f.result && code_passes f.level f.code 0 f.code)))

  -- ---- records

  abbrev pub size_passes : SizeRecord → Bool
  size_passes r = is_sized r.layout

  abbrev pub entry_passes : (Level → Bool) → CodeEntry → Bool
  entry_passes test e = level_passes test (slice_get o.functions e.function)

  abbrev pub class_passes : ClassRecord → Bool
  class_passes c = has_optional kind.Class c.superclass && list_all (entry_passes is_timed) c.entries

  abbrev pub requirement_passes : Requirement → Bool
  requirement_passes r = fallback_passes r.fallback
    where
      fallback_passes : Option ℕ → Bool
      fallback_passes None = true
      fallback_passes (Some k) = level_passes is_low (slice_get o.functions k)

  -- no subtable is called as a requirement is
  abbrev pub subtable_passes : List Requirement → SubRequirement → Bool
  subtable_passes rs u = has_optional kind.Conformance u.fallback && not (named (map (λ (r : Requirement). r.symbol) rs) u.name)

  abbrev pub protocol_passes : ProtocolRecord → Bool
  protocol_passes p = list_all requirement_passes p.requirements && list_all (subtable_passes p.requirements) p.subtables

  abbrev pub sub_entry_passes : SubEntry → Bool
  sub_entry_passes u = has kind.Conformance u.conformance

  abbrev pub conformance_passes : ConfRecord → Bool
  conformance_passes c = has kind.Protocol c.protocol && (list_all (entry_passes is_low) c.entries && list_all sub_entry_passes c.subtables)

  -- the load check
  abbrev pub passes : Bool
  passes =
      list_all function_passes o.functions
      && (list_all size_passes o.sizes && (list_all class_passes o.classes && (list_all protocol_passes o.protocols && list_all conformance_passes o.conformances)))
