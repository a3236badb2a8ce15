-- Words of layouts, and small objects that pass the load check or do not.
use Rattle.std.proofs.Common.{◌≡◌, ℕ, List, [], ◌∷◌, ◌-◌, ◌^◌, true, false, Bool, Option, Some, None, codes, refl, sym, ap, ◌∙◌, pos}
use Rattle.evo_code.specs.declared.instr.Instr.{Instr}
use Rattle.evo_code.specs.declared.instr.Instr.TheVariants as Op
use Rattle.evo_code.specs.declared.layout.Layout.{Layout, fold-roll-Layout}
use Rattle.evo_code.specs.declared.layout.Layout.TheOpen as open_layout
use Rattle.evo_code.specs.declared.layout.Layout.TheVariants as layout
use Rattle.evo_code.specs.declared.layout.Layout.TheVariants.{rolls-Words, rolls-SizeOf}
use Rattle.evo_code.specs.declared.layout.Operand.{Operand}
use Rattle.evo_code.specs.declared.object.Function.{Function}
use Rattle.evo_code.specs.declared.object.Level.{Level}
use Rattle.evo_code.specs.declared.object.Level.TheVariants as level
use Rattle.evo_code.specs.declared.object.ImportKind.TheVariants as kind
use Rattle.evo_code.specs.declared.object.Object.{Object}
use Rattle.evo_code.specs.Layouts.{value}
use Rattle.evo_code.specs.Loads.{passes, has, is_sized, level_is_sized}

abbrev slot : ℕ → Operand
slot n = record { slot = n; offset = layout.Words 0 }

abbrev function : List ℕ → Level → Bool → List Instr → Function
function s l e code = record { symbol = s; level = l; exported = e; slots = layout.Words 1 ∷ layout.Words 1 ∷ []; params = 0; result = layout.Words 0; code = code }

abbrev object : List Function → Object
object fs = record {
  «module» = codes "main";
  release = record { major = 1; minor = 0 };
  symbols = [];
  imports = record { symbol = codes "i"; kind = kind.Function } ∷ [];
  sizes = record { symbol = codes "S#size"; layout = layout.Words 3 } ∷ [];
  functions = fs;
  classes = record { symbol = codes "K#class"; superclass = None; entries = record { name = codes "m"; function = 0 } ∷ [] } ∷ [];
  protocols = [];
  conformances = [];
}

abbrev start : List Instr → Object
start code = object (function (codes "main#start") level.Timed true code ∷ [])

abbrev leave : Instr
leave = Op.Return (slot 0) (layout.Words 0)

abbrev call : List ℕ → Instr
call s = Op.Call s [] (slot 0) (layout.Words 0)

-- plain words need no size, and a symbol needs its record
sized-words : (o : Object) (n : ℕ) → is_sized o (layout.Words n) ≡ true
sized-words o n = ap (is_sized o) (sym (rolls-Words n)) ∙ fold-roll-Layout Bool (level_is_sized o) (open_layout.Words n)

sized-symbol : (o : Object) (s : List ℕ) → is_sized o (layout.SizeOf s) ≡ has o kind.Size s
sized-symbol o s = ap (is_sized o) (sym (rolls-SizeOf s)) ∙ fold-roll-Layout Bool (level_is_sized o) (open_layout.SizeOf s)

whole : passes (start (Op.Tick ∷ Op.Not (slot 0) (slot 1) ∷ leave ∷ [])) ≡ true
whole = simp sized-words

-- a jump backwards to what is no tick
back : passes (start (Op.Tick ∷ Op.Int (slot 0) (pos 1) ∷ Op.Jump 1 ∷ [])) ≡ false
back = simp sized-words

back_to_tick : passes (start (Op.Tick ∷ Op.Int (slot 0) (pos 1) ∷ Op.Jump 0 ∷ [])) ≡ true
back_to_tick = simp sized-words

-- to the end, and past it
to_end : passes (start (Op.Tick ∷ Op.Jump 2 ∷ [])) ≡ true
to_end = simp sized-words

past_end : passes (start (Op.Tick ∷ Op.Jump 3 ∷ [])) ≡ false
past_end = simp sized-words

no_tick : passes (start (leave ∷ [])) ≡ false
no_tick = refl

-- functions that take no tick, by level; the object's class has the first function for a method, so that one is timed
abbrev beside : Function → Object
beside f = object (function (codes "main#start") level.Timed true (Op.Tick ∷ leave ∷ []) ∷ f ∷ [])

tick_untimed : passes (beside (function (codes "f") level.Zero false (Op.Tick ∷ leave ∷ []))) ≡ false
tick_untimed = simp sized-words

calls_itself : passes (beside (function (codes "f") level.Three false (call (codes "f") ∷ leave ∷ []))) ≡ false
calls_itself = simp sized-words

calls_timed : passes (beside (function (codes "f") level.Zero false (call (codes "main#start") ∷ leave ∷ []))) ≡ true
calls_timed = simp sized-words

calls_import : passes (beside (function (codes "f") level.Zero false (call (codes "i") ∷ leave ∷ []))) ≡ false
calls_import = simp sized-words

calls_import_higher : passes (beside (function (codes "f") level.One false (call (codes "i") ∷ leave ∷ []))) ≡ true
calls_import_higher = simp sized-words

calls_nothing : passes (beside (function (codes "f") level.One false (call (codes "g") ∷ leave ∷ []))) ≡ false
calls_nothing = simp sized-words

exported_high : passes (beside (function (codes "f") level.One true (leave ∷ []))) ≡ false
exported_high = simp sized-words

witness_low : passes (beside (function (codes "f") level.Two false (Op.Witness (slot 0) (codes "r") [] (slot 1) (layout.Words 0) ∷ leave ∷ []))) ≡ false
witness_low = simp sized-words

witness_high : passes (beside (function (codes "f") level.Three false (Op.Witness (slot 0) (codes "r") [] (slot 1) (layout.Words 0) ∷ leave ∷ []))) ≡ true
witness_high = simp sized-words

entry_untimed : passes (object (function (codes "f") level.Zero false (leave ∷ []) ∷ [])) ≡ false
entry_untimed = simp sized-words

-- a size that is there, and one that is not
sized : passes (start (Op.Tick ∷ Op.Return (slot 0) (layout.SizeOf (codes "S#size")) ∷ [])) ≡ true
sized = simp (sized-words, sized-symbol)

unsized : passes (start (Op.Tick ∷ Op.Return (slot 0) (layout.SizeOf (codes "T#size")) ∷ [])) ≡ false
unsized = simp (sized-words, sized-symbol)

class_there : passes (start (Op.Tick ∷ Op.New (slot 0) (codes "K#class") ∷ [])) ≡ true
class_there = simp sized-words

class_absent : passes (start (Op.Tick ∷ Op.New (slot 0) (codes "L#class") ∷ [])) ≡ false
class_absent = simp sized-words
