-- Clients alone: operators, statements, ticks, traps and what is printed.
use Rattle.std.proofs.Common.{◌≡◌, ℤ, pos, negsuc, List, [], ◌∷◌, codes, Some, true, false, refl}
use Rattle.std.specs.Str.{chars}
use Rattle.unicode_normalization.proofs.Computing.{unicode_normalization}
use Rattle.evo_base.specs.declared.key.Key.{Key}
use Rattle.evo_tree.specs.declared.expression.InfixOperator.TheVariants as op
use Rattle.evo_tree.specs.declared.statement.AssignmentOperator.TheVariants as becomes
use Rattle.evo_resolved.specs.declared.expression.Builtin.TheVariants as function_of
use Rattle.evo_resolved.specs.declared.statement.RClauseLabel.TheVariants as label
use Rattle.evo_meaning.specs.Runs.{overflow, divide, precondition}
use Rattle.evo_meaning.specs.Programs.{MixedProgram}
use Rattle.evo_meaning.specs.Operators.{same_text}
use Rattle.evo_meaning.specs.Bodies.{run}
use Rattle.evo_meaning.proofs.Trees.{Statement, no_statement, chain, fill, return, return_nothing, declare, while, while_true, break, continue, switch, expression, builtin, block_does_at}
use Rattle.evo_meaning.proofs.Samples.{lib, main, named, function, property_key, init, getter, int, bool, text, minus, local, call_to, new_of, case, get, own, print, if_else, clauses, on_case, on_int, change_local, all_of, terms, in_struct, stored, computed, unwritten_init, body, at_top, empty, library, client, alone, mixed, prints, out_after, traps, running}

-- a client of its top level alone
abbrev top : List Statement → MixedProgram
top ss = alone (client [] [] [] ss)

-- the least `Int`
abbrev least : ℤ
least = negsuc 9223372036854775807

-- ---- ticks of the top level and of loops

no_tick : run (top []) 0 ≡ out_after []
unfolding running
no_tick = refl

one_tick : run (top []) 1 ≡ prints []
unfolding running
one_tick = simp block_does_at

-- while true {}
endless : run (top (while_true no_statement ∷ [])) 1000 ≡ out_after []
unfolding running
endless = simp block_does_at

-- var i = 0; while i < 3 { i += 1 }; print(i)
counts : MixedProgram
counts = top (declare 0 (int (pos 0)) ∷ while (chain (local 0) op.Less (int (pos 3))) (all_of (change_local 0 [] becomes.Add (int (pos 1)) ∷ [])) ∷ print (local 0 ∷ []) ∷ [])

counts_with_four : run counts 4 ≡ prints (codes "3\n")
unfolding counts running
counts_with_four = simp block_does_at

counts_wants_four : run counts 3 ≡ out_after []
unfolding counts running
counts_wants_four = simp block_does_at

-- a turn takes its tick behind the condition, so a condition that is false takes none
f : Key
f = function main (codes "f") []

no_turn : run (alone (client [] [] (at_top f (return (bool false) ∷ []) ∷ []) (while (call_to f []) no_statement ∷ print (int (pos 1) ∷ []) ∷ []))) 2 ≡ prints (codes "1\n")
unfolding f running
no_turn = simp block_does_at

-- `break` leaves the `switch` and not the loop; `continue` goes on with the loop
leaves_switch : run (top (declare 0 (int (pos 0)) ∷ while_true (all_of (change_local 0 [] becomes.Add (int (pos 1)) ∷ switch (local 0) (clauses ((on_int (pos 3), break ∷ []) ∷ (label.Default, continue ∷ []) ∷ [])) ∷ break ∷ [])) ∷ print (local 0 ∷ []) ∷ [])) 4 ≡ prints (codes "3\n")
unfolding running
leaves_switch = simp block_does_at

-- a `return` at the top level ends the run
returns_at_top : run (top (print (int (pos 1) ∷ []) ∷ return_nothing ∷ print (int (pos 2) ∷ []) ∷ [])) 1 ≡ prints (codes "1\n")
unfolding running
returns_at_top = simp block_does_at

-- ---- a library's inlinable function that calls itself: func f(n) { if n == 0 { return 0 } else { return f(n - 1) + 1 } }; print(f(9))

abbrev counted : Key
counted = function lib (codes "f") (codes "_" ∷ [])

recursive : MixedProgram
recursive =
    mixed (client [] [] [] (print (call_to counted (int (pos 9) ∷ []) ∷ []) ∷ []))
    (library [] (at_top counted (if_else (chain (local 0) op.Equal (int (pos 0))) (return (int (pos 0)) ∷ []) (return (chain (call_to counted (chain (local 0) op.Subtract (int (pos 1)) ∷ [])) op.Add (int (pos 1))) ∷ []) ∷ []) ∷ []))
    empty

wants_eleven : run recursive 10 ≡ out_after []
unfolding recursive running
wants_eleven = simp block_does_at

with_eleven : run recursive 11 ≡ prints (codes "9\n")
unfolding recursive running
with_eleven = simp block_does_at

-- ---- arithmetic

add : Key
add = function main (codes "add") (codes "_" ∷ codes "_" ∷ [])

-- what was printed before a trap stays
overflows : run (alone (client [] [] (at_top add (return (chain (local 0) op.Add (local 1)) ∷ []) ∷ []) (print (int (pos 1) ∷ []) ∷ print (call_to add (int (pos 9223372036854775807) ∷ int (pos 1) ∷ []) ∷ []) ∷ []))) 2 ≡ traps overflow (codes "1\n")
unfolding add running
overflows = simp block_does_at

-- towards zero; the least number by -1 overflows
divides : run (alone (client [] [] (at_top add (return (chain (local 0) op.Divide (local 1)) ∷ []) ∷ []) (print (call_to add (int (negsuc 6) ∷ int (pos 2) ∷ []) ∷ chain (int (negsuc 6)) op.Remainder (int (pos 2)) ∷ []) ∷ print (call_to add (int least ∷ int (negsuc 0) ∷ []) ∷ []) ∷ []))) 3 ≡ traps overflow (codes "-3 -1\n")
unfolding add running
divides = simp block_does_at

-- print(-7 / 2, -7 % 2, 7 / -2, 7 % -2); print(1 / z), z being 0
by_zero : run (top (declare 0 (int (pos 0)) ∷ print (chain (int (negsuc 6)) op.Divide (int (pos 2)) ∷ chain (int (negsuc 6)) op.Remainder (int (pos 2)) ∷ chain (int (pos 7)) op.Divide (int (negsuc 1)) ∷ chain (int (pos 7)) op.Remainder (int (negsuc 1)) ∷ []) ∷ print (chain (int (pos 1)) op.Divide (local 0) ∷ []) ∷ [])) 1 ≡ traps divide (codes "-3 -1 -3 1\n")
unfolding running
by_zero = simp block_does_at

-- let m = -9223372036854775808; print(-m)
minus_least : run (top (declare 0 (int least) ∷ print (minus (local 0) ∷ []) ∷ [])) 1 ≡ traps overflow []
unfolding running
minus_least = simp block_does_at

-- print(1 &- -9223372036854775808)
wraps_down : run (top (print (chain (int (pos 1)) op.WrappingSubtract (int least) ∷ []) ∷ [])) 1 ≡ prints (codes "-9223372036854775807\n")
unfolding running
wraps_down = simp block_does_at

-- print(9223372036854775807 &+ 1, 4611686018427387904 &* 2)
wraps_up : run (top (print (chain (int (pos 9223372036854775807)) op.WrappingAdd (int (pos 1)) ∷ chain (int (pos 4611686018427387904)) op.WrappingMultiply (int (pos 2)) ∷ []) ∷ [])) 1 ≡ prints (codes "-9223372036854775808 -9223372036854775808\n")
unfolding running
wraps_up = simp block_does_at

-- ---- truth values, texts and what is printed

told : Key
told = function main (codes "t") (codes "_" ∷ codes "_" ∷ [])

-- t("a", false) && t("b", true) || t("c", true), where t prints its text: the right side runs only where it decides
short_circuit : run (alone (client [] [] (at_top told (print (local 0 ∷ []) ∷ return (local 1) ∷ []) ∷ []) (print (chain (chain (call_to told (text (codes "a") ∷ bool false ∷ [])) op.And (call_to told (text (codes "b") ∷ bool true ∷ []))) op.Or (call_to told (text (codes "c") ∷ bool true ∷ [])) ∷ []) ∷ []))) 3 ≡ prints (codes "a\nc\ntrue\n")
unfolding told running
short_circuit = simp block_does_at

-- print(); print(true, -1, "")
lines : run (top (print [] ∷ print (bool true ∷ int (negsuc 0) ∷ text [] ∷ []) ∷ [])) 1 ≡ prints (codes "\ntrue -1 \n")
unfolding running
lines = simp block_does_at

-- "e\u{301}" and "\u{E9}" are canonically equivalent
accents : same_text (101 ∷ 204 ∷ 129 ∷ []) (195 ∷ 169 ∷ []) ≡ true
unfolding same_text chars unicode_normalization
accents = refl

-- print("e\u{301}" == "\u{E9}")
canonical : run (top (print (chain (text (101 ∷ 204 ∷ 129 ∷ [])) op.Equal (text (195 ∷ 169 ∷ [])) ∷ []) ∷ [])) 1 ≡ prints (codes "true\n")
unfolding running
canonical = simp (block_does_at, accents)

-- precondition(1 == 2, "x")
not_held : run (top (expression (builtin function_of.Precondition (terms (chain (int (pos 1)) op.Equal (int (pos 2)) ∷ []))) ∷ [])) 1 ≡ traps precondition []
unfolding running
not_held = simp block_does_at

-- ---- structs and enums

s : Key
s = named main (codes "S")

-- struct S { var a: Int; var b: Int { a + 1 }; init(a: Int) { self.a = a } }; var s = S(a: 1); s.a = 2; print(s.b, s.a)
computed_property : run (alone (client (stored (in_struct s) (property_key s (codes "a")) ∷ computed (in_struct s) (property_key s (codes "b")) ∷ []) [] (body (init s (codes "a" ∷ [])) (in_struct s) (fill (property_key s (codes "a")) (local 0) ∷ []) ∷ body (getter (property_key s (codes "b"))) (in_struct s) (return (chain (own (property_key s (codes "a"))) op.Add (int (pos 1))) ∷ []) ∷ []) (declare 0 (new_of (init s (codes "a" ∷ [])) (int (pos 1) ∷ [])) ∷ change_local 0 (property_key s (codes "a") ∷ []) becomes.Assign (int (pos 2)) ∷ print (get (local 0) (property_key s (codes "b")) ∷ get (local 0) (property_key s (codes "a")) ∷ []) ∷ []))) 3 ≡ prints (codes "3 2\n")
unfolding s running
computed_property = simp block_does_at

e : Key
e = named main (codes "E")

-- struct S { var a: Int }; enum E { case k(S) }; let e = E.k(S(a: 1)); switch e { case .k(let s): print(s.a) }
payload : run (alone (client (stored (in_struct s) (property_key s (codes "a")) ∷ []) (unwritten_init s (codes "a" ∷ []) ∷ []) [] (declare 0 (case (property_key e (codes "k")) (new_of (init s (codes "a" ∷ [])) (int (pos 1) ∷ []) ∷ [])) ∷ switch (local 0) (clauses ((on_case (property_key e (codes "k")) (Some 1 ∷ []), print (get (local 1) (property_key s (codes "a")) ∷ []) ∷ []) ∷ [])) ∷ []))) 1 ≡ prints (codes "1\n")
unfolding s e running
payload = simp block_does_at

-- enum R { case ok(Int), no } of the library; func r(n) { if n > 0 { return .ok(n) } else { return .no } }; switch r(4) { case .ok(let v): print(v) default: print("no") }
abbrev r_type : Key
r_type = named lib (codes "R")

abbrev r : Key
r = function lib (codes "r") (codes "_" ∷ [])

payload_of_library : run (mixed (client [] [] [] (switch (call_to r (int (pos 4) ∷ [])) (clauses ((on_case (property_key r_type (codes "ok")) (Some 0 ∷ []), print (local 0 ∷ []) ∷ []) ∷ (label.Default, print (text (codes "no") ∷ []) ∷ []) ∷ [])) ∷ [])) empty (library [] (at_top r (if_else (chain (local 0) op.Greater (int (pos 0))) (return (case (property_key r_type (codes "ok")) (local 0 ∷ [])) ∷ []) (return (case (property_key r_type (codes "no")) []) ∷ []) ∷ []) ∷ []))) 2 ≡ prints (codes "4\n")
unfolding running
payload_of_library = simp block_does_at
