-- What a client does with another release than the one that it was built against: which bodies run, and what is stored.
use Rattle.std.proofs.Common.{◌≡◌, ℤ, pos, List, [], ◌∷◌, codes, None}
use Rattle.evo_base.specs.declared.key.Key.{Key}
use Rattle.evo_tree.specs.declared.expression.InfixOperator.TheVariants as op
use Rattle.evo_resolved.specs.declared.body.RBody.{RBody}
use Rattle.evo_resolved.specs.declared.module.RModule.{RModule}
use Rattle.evo_resolved.specs.declared.statement.RClauseLabel.TheVariants as label
use Rattle.evo_meaning.specs.Bodies.{run}
use Rattle.evo_meaning.proofs.Trees.{chain, fill, return, switch, block_does_at}
use Rattle.evo_meaning.proofs.Samples.{lib, main, named, function, method_key, property_key, init, getter, requirement, conforming, static, dispatched, required, given, the, int, text, local, call_to, call_with, new_of, case, get, send, print, if_else, clauses, on_case, in_struct, in_class, stored, computed, class, class_function, body, at_top, met, conformance, library, empty, client, client_conforming, mixed, prints, out_after, running}

-- ---- func f() -> Int { return 1 }, then { return 2 }; print(f())

abbrev f : Key
f = function lib (codes "f") []

abbrev returning : ℤ → RBody
returning n = at_top f (return (int n) ∷ [])

abbrev prints_f : RModule
prints_f = client [] [] [] (print (call_to f [] ∷ []) ∷ [])

-- the new library's body
new_body : run (mixed prints_f empty (library [] (returning (pos 2) ∷ []))) 2 ≡ prints (codes "2\n")
unfolding running
new_body = simp block_does_at

same_release : run (mixed prints_f empty (library [] (returning (pos 1) ∷ []))) 2 ≡ prints (codes "1\n")
unfolding running
same_release = simp block_does_at

-- its entry takes the second tick
new_body_wants_two : run (mixed prints_f empty (library [] (returning (pos 2) ∷ []))) 1 ≡ out_after []
unfolding running
new_body_wants_two = simp block_does_at

-- inlinable in both: the old body, which the client copied
old_body : run (mixed prints_f (library [] (returning (pos 1) ∷ [])) (library [] (returning (pos 2) ∷ []))) 2 ≡ prints (codes "1\n")
unfolding running
old_body = simp block_does_at

old_body_wants_two : run (mixed prints_f (library [] (returning (pos 1) ∷ [])) (library [] (returning (pos 2) ∷ []))) 1 ≡ out_after []
unfolding running
old_body_wants_two = simp block_does_at

-- ---- an inlinable g that calls h, which is not inlinable: the copy of g calls the new h

abbrev g : Key
g = function lib (codes "g") []

abbrev h : Key
h = function lib (codes "h") []

copy_calls_new : run (mixed (client [] [] [] (print (call_to g [] ∷ []) ∷ [])) (library [] (at_top g (return (call_to h []) ∷ []) ∷ [])) (library [] (at_top h (return (int (pos 2)) ∷ []) ∷ at_top g (return (chain (call_to h []) op.Add (int (pos 10))) ∷ []) ∷ []))) 3 ≡ prints (codes "2\n")
unfolding running
copy_calls_new = simp block_does_at

-- ---- struct S { var x: Int; init() { x = 7 } }; print(S().x)

abbrev s : Key
s = named lib (codes "S")

abbrev x : Key
x = property_key s (codes "x")

abbrev pad : Key
pad = property_key s (codes "pad")

abbrev prints_x : RModule
prints_x = client [] [] [] (print (get (new_of (init s []) []) x ∷ []) ∷ [])

abbrev stored_x : RModule
stored_x = library (stored (in_struct s) x ∷ []) (body (init s []) (in_struct s) (fill x (int (pos 7)) ∷ []) ∷ [])

-- pad stands before x
padded_x : RModule
padded_x = library (stored (in_struct s) pad ∷ stored (in_struct s) x ∷ []) (body (init s []) (in_struct s) (fill pad (int (pos 1)) ∷ fill x (int (pos 7)) ∷ []) ∷ [])

-- x is computed
computed_x : RModule
computed_x = library (computed (in_struct s) x ∷ []) (body (init s []) (in_struct s) [] ∷ body (getter x) (in_struct s) (return (int (pos 7)) ∷ []) ∷ [])

stored_with_two : run (mixed prints_x empty stored_x) 2 ≡ prints (codes "7\n")
unfolding running
stored_with_two = simp block_does_at

stored_wants_two : run (mixed prints_x empty stored_x) 1 ≡ out_after []
unfolding running
stored_wants_two = simp block_does_at

padded : run (mixed prints_x empty padded_x) 2 ≡ prints (codes "7\n")
unfolding padded_x running
padded = simp block_does_at

computed_with_three : run (mixed prints_x empty computed_x) 3 ≡ prints (codes "7\n")
unfolding computed_x running
computed_with_three = simp block_does_at

computed_wants_three : run (mixed prints_x empty computed_x) 2 ≡ out_after []
unfolding computed_x running
computed_wants_three = simp block_does_at

-- ---- p is computed and inlinable in both, and then gives 2; q is computed, and then stored

abbrev p : Key
p = property_key s (codes "p")

abbrev q : Key
q = property_key s (codes "q")

properties_change : run (mixed (client [] [] [] (print (get (new_of (init s []) []) p ∷ get (new_of (init s []) []) q ∷ []) ∷ [])) (library [] (body (getter p) (in_struct s) (return (int (pos 1)) ∷ []) ∷ [])) (library (stored (in_struct s) q ∷ computed (in_struct s) p ∷ []) (body (init s []) (in_struct s) (fill q (int (pos 2)) ∷ []) ∷ body (getter p) (in_struct s) (return (int (pos 2)) ∷ []) ∷ []))) 4 ≡ prints (codes "1 2\n")
unfolding running
properties_change = simp block_does_at

-- q is computed and inlinable in the old release, and stored in the new one: the client's copy of its getter runs
copied_getter : run (mixed (client [] [] [] (print (get (new_of (init s []) []) q ∷ []) ∷ [])) (library [] (body (getter q) (in_struct s) (return (int (pos 1)) ∷ []) ∷ [])) (library (stored (in_struct s) q ∷ []) (body (init s []) (in_struct s) (fill q (int (pos 2)) ∷ []) ∷ []))) 3 ≡ prints (codes "1\n")
unfolding running
copied_getter = simp block_does_at

-- ---- enums that get further cases

abbrev e : Key
e = named lib (codes "E")

abbrev case_a : Key
case_a = property_key e (codes "a")

abbrev case_b : Key
case_b = property_key e (codes "b")

abbrev case_c : Key
case_c = property_key e (codes "c")

abbrev make : Key
make = function lib (codes "make") []

-- switch make() { case .a: print("a") @unknown default: print("new") }
abbrev switches_make : RModule
switches_make = client [] [] [] (switch (call_to make []) (clauses ((on_case case_a [], print (text (codes "a") ∷ []) ∷ []) ∷ (label.UnknownDefault, print (text (codes "new") ∷ []) ∷ []) ∷ [])) ∷ [])

new_case : run (mixed switches_make empty (library [] (at_top make (return (case case_c []) ∷ []) ∷ []))) 2 ≡ prints (codes "new\n")
unfolding running
new_case = simp block_does_at

old_case : run (mixed switches_make empty (library [] (at_top make (return (case case_a []) ∷ []) ∷ []))) 2 ≡ prints (codes "a\n")
unfolding running
old_case = simp block_does_at

-- cases are told by their names, in whatever order a release lists them
abbrev all : Key
all = function lib (codes "all") (codes "_" ∷ [])

abbrev number : Key
number = function main (codes "s") (codes "_" ∷ [])

reordered : run (mixed (client [] [] (at_top number (switch (local 0) (clauses ((on_case case_a [], return (int (pos 1)) ∷ []) ∷ (on_case case_b [], return (int (pos 2)) ∷ []) ∷ (label.Default, return (int (pos 3)) ∷ []) ∷ [])) ∷ []) ∷ []) (print (call_to number (call_to all (int (pos 0) ∷ []) ∷ []) ∷ call_to number (call_to all (int (pos 1) ∷ []) ∷ []) ∷ call_to number (case case_a [] ∷ []) ∷ []) ∷ [])) empty (library [] (at_top all (if_else (chain (local 0) op.Equal (int (pos 0))) (return (case case_c []) ∷ []) (return (case case_b []) ∷ []) ∷ []) ∷ []))) 6 ≡ prints (codes "3 2 1\n")
unfolding running
reordered = simp block_does_at

-- ---- an open and a final function of an open class, both inlinable: only what is called statically is copied

abbrev a : Key
a = named lib (codes "A")

abbrev open_f : Key
open_f = method_key a (codes "f") []

abbrev final_g : Key
final_g = method_key a (codes "g") []

abbrev both : ℤ → List RBody
both n = body open_f (in_class a) (return (int n) ∷ []) ∷ body final_g (in_class a) (return (int n) ∷ []) ∷ []

only_static_is_copied : run (mixed (client [] [] [] (print (send (new_of (init a []) []) (dispatched open_f) [] ∷ send (new_of (init a []) []) (static final_g) [] ∷ []) ∷ [])) (library [] (both (pos 1))) (library (class a None ∷ class_function a open_f ∷ class_function a final_g ∷ []) (body (init a []) (in_class a) [] ∷ both (pos 2)))) 5 ≡ prints (codes "2 1\n")
unfolding running
only_static_is_copied = simp block_does_at

-- ---- a client's conformance of a library's type: a static call runs the copy, and the requirement runs the new library's member

abbrev client_p : Key
client_p = named main (codes "P")

abbrev v : Key
v = method_key s (codes "v") []

abbrev v_required : Key
v_required = requirement client_p (codes "v") []

abbrev generic : Key
generic = function main (codes "g") (codes "_" ∷ [])

abbrev v_giving : ℤ → RBody
v_giving n = body v (in_struct s) (return (int n) ∷ [])

witness_is_new : run (mixed (client_conforming (conformance main s client_p (met v_required v ∷ []) [] ∷ []) (client [] [] (at_top generic (return (send (local 0) (required v_required (given 0)) []) ∷ []) ∷ []) (print (send (new_of (init s []) []) (static v) [] ∷ call_with generic (the (conforming main s client_p) ∷ []) (new_of (init s []) [] ∷ []) ∷ []) ∷ []))) (library [] (v_giving (pos 1) ∷ [])) (library [] (body (init s []) (in_struct s) [] ∷ v_giving (pos 2) ∷ []))) 6 ≡ prints (codes "1 2\n")
unfolding running
witness_is_new = simp block_does_at
