-- Runs of small images: results, and faults in their order.
use Rattle.std.proofs.Common.{◌≡◌, ℕ, List, [], ◌∷◌, ◌++◌, ◌-◌, ◌^◌, Option, Some, None, true, false, codes, refl, pos, negsuc}
use Rattle.std.specs.Prelude.{◌*ℤ◌}
use Rattle.evo_code.specs.declared.instr.Instr.{Instr}
use Rattle.evo_code.specs.declared.instr.Instr.TheVariants as Op
use Rattle.evo_code.specs.declared.instr.MathOperator.TheVariants as math
use Rattle.evo_code.specs.declared.instr.TrapNumber.TheVariants as number
use Rattle.evo_code.specs.declared.layout.Layout.TheVariants as layout
use Rattle.evo_code.specs.declared.object.Function.{Function}
use Rattle.evo_code.specs.declared.object.Level.TheVariants as level
use Rattle.evo_code.specs.declared.image.Image.{Image}
use Rattle.evo_code.specs.declared.image.Target.TheVariants as target
use Rattle.evo_execution.specs.declared.end.End.TheVariants.{Done, Trap, Budget, Fault}
use Rattle.evo_execution.specs.declared.end.TrapKind.TheVariants as trap
use Rattle.evo_execution.specs.declared.end.MachineFault.TheVariants as fault
use Rattle.evo_execution.specs.Words.{Word, Empty, Integer, Truth, Boxed, Table, pack, Got, Faults, Traps, wrapped, computed, equal, line_of}
use Rattle.evo_execution.specs.Execution.{Step, Ends}
use Rattle.evo_execution.specs.Loaded.{image_loads}
use Rattle.evo_execution.proofs.Samples.{value-words, slot, one_word, function, two_slots, leave, does, leaves}

-- ---- integers

least_by_minus_one : computed math.Divide (negsuc (2 ^ 63 - 1)) (negsuc 0) ≡ Traps trap.Overflow
least_by_minus_one = refl

least_rest_minus_one : computed math.Remainder (negsuc (2 ^ 63 - 1)) (negsuc 0) ≡ Traps trap.Overflow
least_rest_minus_one = refl

by_zero : computed math.Remainder (negsuc (2 ^ 63 - 1)) (pos 0) ≡ Traps trap.Divide
by_zero = refl

towards_zero : computed math.Divide (negsuc 6) (pos 2) ≡ Got (negsuc 2)
towards_zero = refl

rest : computed math.Remainder (negsuc 6) (pos 2) ≡ Got (negsuc 0)
rest = refl

past_most : computed math.Add (pos (2 ^ 63 - 1)) (pos 1) ≡ Traps trap.Overflow
past_most = refl

to_most : computed math.Add (pos (2 ^ 63 - 2)) (pos 1) ≡ Got (pos (2 ^ 63 - 1))
to_most = refl

past_least : computed math.Subtract (negsuc (2 ^ 63 - 1)) (pos 1) ≡ Traps trap.Overflow
past_least = refl

round_most : computed math.WrappingAdd (pos (2 ^ 63 - 1)) (pos 1) ≡ Got (negsuc (2 ^ 63 - 1))
round_most = refl

round_least : computed math.WrappingSubtract (pos 1) (negsuc (2 ^ 63 - 1)) ≡ Got (negsuc (2 ^ 63 - 2))
round_least = refl

round_product : computed math.WrappingMultiply (pos (2 ^ 62)) (pos 4) ≡ Got (pos 0)
round_product = refl

-- the product of bits is that of the numbers
round_negative : computed math.WrappingMultiply (negsuc (2 ^ 63 - 1)) (negsuc 2) ≡ Got (wrapped (negsuc (2 ^ 63 - 1) *ℤ negsuc 2))
round_negative = refl

round_minus_one : computed math.WrappingMultiply (negsuc 0) (pos 7) ≡ Got (negsuc 6)
round_minus_one = refl

-- ---- equality and lines

kinds_differ : equal (Integer (pos 1)) (Truth true) ≡ Faults fault.Word
kinds_differ = refl

line : line_of (codes "a" ∷ codes "true" ∷ []) ≡ codes "a true\n"
line = refl

-- ---- instructions, with the words of a frame

abbrev two : List Word
two = Integer (pos 7) ∷ Empty ∷ []

set_word : does two (Op.Bool (slot 1) true) ≡ leaves (Integer (pos 7) ∷ Truth true ∷ [])
set_word = simp value-words

sum_of_words : does two (Op.Math math.Add (slot 1) (slot 0) (slot 0)) ≡ leaves (Integer (pos 7) ∷ Integer (pos 14) ∷ [])
sum_of_words = simp value-words

-- a word that was never set is empty
empty_word : does two (Op.Not (slot 0) (slot 1)) ≡ Ends (Fault fault.Word 0 1)
empty_word = simp value-words

-- the kind of a word is tried before the place that is written to
word_before_range : does two (Op.Not (slot 7) (slot 1)) ≡ Ends (Fault fault.Word 0 1)
word_before_range = simp value-words

range_last : does two (Op.Neg (slot 7) (slot 0)) ≡ Ends (Fault fault.Range 0 1)
range_last = simp value-words

-- of two places the first is tried whole, its kind before the second's range
first_whole : does two (Op.Math math.Add (slot 0) (slot 1) (slot 7)) ≡ Ends (Fault fault.Word 0 1)
first_whole = simp value-words

-- but `Equal` tries both ranges before the kinds
both_ranges : does two (Op.Equal (slot 0) (slot 1) (slot 7)) ≡ Ends (Fault fault.Range 0 1)
both_ranges = simp value-words

-- what traps is tried before the place that is written to
trap_before_range : does (Integer (pos 0) ∷ Empty ∷ []) (Op.Math math.Divide (slot 7) (slot 0) (slot 0)) ≡ Ends (Trap trap.Divide)
trap_before_range = simp value-words

-- a `Return` tries the frame before the length
return_range : does two (Op.Return (slot 0) (layout.Words 3)) ≡ Ends (Fault fault.Range 0 1)
return_range = simp value-words

return_size : does two (Op.Return (slot 0) (layout.Words 1)) ≡ Ends (Fault fault.Size 0 1)
return_size = simp value-words

return_all : does two (Op.Return (slot 0) (layout.Words 0)) ≡ Ends Done
return_all = simp value-words

no_tick_left : does two Op.Tick ≡ Ends Budget
no_tick_left = refl

fatal : does two (Op.Trap number.Fatal) ≡ Ends (Trap trap.Fatal)
fatal = refl

-- `Dispatch` without a first argument or with one of no words, and a `Witness` on a word that is no table
dispatch_nothing : does two (Op.Dispatch (codes "m") [] (slot 0) (layout.Words 0)) ≡ Ends (Fault fault.Word 0 1)
dispatch_nothing = refl

dispatch_no_words : does two (Op.Dispatch (codes "m") (record { place = slot 7; layout = layout.Words 0 } ∷ []) (slot 0) (layout.Words 0)) ≡ Ends (Fault fault.Word 0 1)
dispatch_no_words = simp value-words

witness_empty : does two (Op.Witness (slot 1) (codes "r") [] (slot 0) (layout.Words 0)) ≡ Ends (Fault fault.Word 0 1)
witness_empty = simp value-words

-- the table of a conformance that is not there
witness_absent : does (Table (codes "c") ∷ Empty ∷ []) (Op.Witness (slot 0) (codes "r") [] (slot 0) (layout.Words 0)) ≡ Ends (Fault fault.Entry 0 1)
witness_absent = simp value-words

-- a class without a size is tried before the place
new_unsized : does two (Op.New (slot 7) (codes "K#class")) ≡ Ends (Fault fault.Size 0 1)
new_unsized = refl

-- a box of two words out of one of one
box_of_two : does (Boxed (pack (Empty ∷ [])) ∷ Empty ∷ []) (Op.Unbox (slot 7) (slot 0) (layout.Words 2)) ≡ Ends (Fault fault.Size 0 1)
box_of_two = simp value-words

boxed_words : does two (Op.Box (slot 1) (slot 0) (layout.Words 2)) ≡ leaves (Integer (pos 7) ∷ Boxed (pack two) ∷ [])
boxed_words = simp value-words

-- a function that is not there, and an argument without a slot
call_absent : does two (Op.Call (codes "f") [] (slot 7) (layout.Words 0)) ≡ Ends (Fault fault.Entry 0 1)
call_absent = refl

too_many_arguments : does two (Op.Call (codes "main#start") (one_word 7 ∷ []) (slot 7) (layout.Words 0)) ≡ Ends (Fault fault.Size 0 1)
too_many_arguments = refl

result_size : does two (Op.Call (codes "main#start") [] (slot 7) (layout.Words 1)) ≡ Ends (Fault fault.Size 0 1)
result_size = simp value-words

result_range : does two (Op.Call (codes "main#start") [] (record { slot = 1; offset = layout.Words 2 }) (layout.Words 0)) ≡ Ends (Fault fault.Range 0 1)
result_range = simp value-words

-- ---- an object, a box, a table, a witness that takes no tick and a method that takes one

abbrev first : Function
first = function (codes "main#start") level.Timed 0 (layout.Words 1 ∷ layout.Words 1 ∷ layout.Words 1 ∷ layout.Words 1 ∷ []) 0 (
    Op.Tick
    ∷ Op.New (slot 0) (codes "K#class")
    ∷ Op.Int (slot 1) (pos 7)
    ∷ Op.Store (slot 0) (layout.Words 0) (slot 1) (layout.Words 1)
    ∷ Op.Box (slot 2) (slot 0) (layout.Words 1)
    ∷ Op.Table (slot 3) (codes "c")
    ∷ Op.Witness (slot 3) (codes "r") (one_word 2 ∷ []) (slot 1) (layout.Words 1)
    ∷ Op.Print (slot 1 ∷ [])
    ∷ leave
    ∷ [])

abbrev thunk : Function
thunk = function (codes "t") level.One 2 (layout.Words 1 ∷ layout.Words 1 ∷ layout.Words 1 ∷ []) 1 (
    Op.Unbox (slot 2) (slot 1) (layout.Words 1) ∷ Op.Dispatch (codes "d") (one_word 2 ∷ []) (slot 2) (layout.Words 1) ∷ Op.Return (slot 2) (layout.Words 1) ∷ [])

abbrev method : Function
method = function (codes "d") level.Timed 1 two_slots 1 (
    Op.Tick ∷ Op.Load (slot 1) (slot 0) (layout.Words 0) (layout.Words 1) ∷ Op.Return (slot 1) (layout.Words 1) ∷ [])

abbrev linked : Image
linked = record {
  functions = first ∷ thunk ∷ method ∷ [];
  library = 0;
  sizes = record { symbol = codes "K#instance"; words = 1 } ∷ [];
  classes = record { symbol = codes "K#class"; superclass = None; entries = record { name = codes "d"; target = target.Code 2 } ∷ [] } ∷ [];
  conformances = record { symbol = codes "c"; entries = record { name = codes "r"; target = target.Code 1 } ∷ [] } ∷ [];
}

loaded : image_loads linked ≡ true
loaded = refl
