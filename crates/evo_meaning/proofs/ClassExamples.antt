-- Objects: dispatch between a client's and a library's classes, `super`, initialisers, identity.
use Rattle.std.proofs.Common.{◌≡◌, pos, [], ◌∷◌, codes, Some, None}
use Rattle.evo_base.specs.declared.key.Key.{Key}
use Rattle.evo_tree.specs.declared.expression.InfixOperator.TheVariants as op
use Rattle.evo_resolved.specs.declared.body.RBody.{RBody}
use Rattle.evo_resolved.specs.declared.module.RModule.{RModule}
use Rattle.evo_names.specs.Listed.{Text}
use Rattle.evo_meaning.specs.Programs.{MixedProgram}
use Rattle.evo_meaning.specs.Bodies.{run}
use Rattle.evo_meaning.proofs.Trees.{Statement, chain, declare, expression, super_init, no_term, block_does_at}
use Rattle.evo_meaning.proofs.Samples.{lib, main, named, method_key, init, override_of, static, dispatched, int, text, local, self, above, send, new_of, print, in_class, reference, class, class_function, overriding, body, empty, library, client, alone, mixed, prints, out_after, running}

-- prints this text
abbrev says : Text → Statement
says s = print (text s ∷ [])

abbrev a : Key
a = named lib (codes "A")

abbrev b : Key
b = named lib (codes "B")

abbrev d : Key
d = named main (codes "D")

abbrev f : Key
f = method_key a (codes "f") []

abbrev f_of_b : Key
f_of_b = override_of b (codes "f")

abbrev f_of_d : Key
f_of_d = override_of d (codes "f")

-- an initialiser that only calls that of the superclass
abbrev passing_on : Key → Key → RBody
passing_on c up = body (init c []) (in_class c) (super_init (static (init up [])) no_term ∷ [])

-- class D: B { override init() { super.init() }; override func f() { print("D"); super.f() } }; D().f()
abbrev heir : RModule
heir =
    client (class d (Some (reference b)) ∷ overriding d f f_of_d ∷ []) []
    (passing_on d b ∷ body f_of_d (in_class d) (says (codes "D") ∷ expression (above f []) ∷ []) ∷ [])
    (expression (send (new_of (init d []) []) (dispatched f) []) ∷ [])

-- open class A { init() {}; func f() { print("A") } }; open class B: A { override init() { super.init() } }
abbrev without_override : RModule
without_override =
    library (class a None ∷ class_function a f ∷ class b (Some (reference a)) ∷ [])
    (body (init a []) (in_class a) [] ∷ body f (in_class a) (says (codes "A") ∷ []) ∷ passing_on b a ∷ [])

-- B also overrides f and prints "B"
abbrev with_override : RModule
with_override =
    library (class a None ∷ class_function a f ∷ class b (Some (reference a)) ∷ overriding b f f_of_b ∷ [])
    (body (init a []) (in_class a) [] ∷ body f (in_class a) (says (codes "A") ∷ []) ∷ passing_on b a ∷ body f_of_b (in_class b) (says (codes "B") ∷ []) ∷ [])

-- `super.f()` finds the override that the new release adds
new_override : run (mixed heir empty with_override) 6 ≡ prints (codes "D\nB\n")
unfolding running
new_override = simp block_does_at

old_override : run (mixed heir empty without_override) 6 ≡ prints (codes "D\nA\n")
unfolding running
old_override = simp block_does_at

-- the last of six ticks is wanting
override_wants_six : run (mixed heir empty with_override) 5 ≡ out_after (codes "D\n")
unfolding running
override_wants_six = simp block_does_at

-- ---- the library's new m and the client's own m are two functions: class D: A { ..; func m() { print("client m") } }; let d = D(); d.go(); d.m()

abbrev go : Key
go = method_key a (codes "go") []

abbrev lib_m : Key
lib_m = method_key a (codes "m") []

abbrev client_m : Key
client_m = method_key d (codes "m") []

no_clash : run (mixed (client (class d (Some (reference a)) ∷ class_function d client_m ∷ []) [] (passing_on d a ∷ body client_m (in_class d) (says (codes "client m") ∷ []) ∷ []) (declare 0 (new_of (init d []) []) ∷ expression (send (local 0) (dispatched go) []) ∷ expression (send (local 0) (dispatched client_m) []) ∷ [])) empty (library (class a None ∷ class_function a go ∷ class_function a lib_m ∷ []) (body (init a []) (in_class a) [] ∷ body go (in_class a) (expression (send self (dispatched lib_m) []) ∷ []) ∷ body lib_m (in_class a) (says (codes "lib m") ∷ []) ∷ []))) 6 ≡ prints (codes "lib m\nclient m\n")
unfolding running
no_clash = simp block_does_at

-- ---- each initialiser of a chain takes a tick: class A { init() { } }; class B: A { override init() { super.init() } }; let b = B(); print(1)

abbrev own_a : Key
own_a = named main (codes "A")

abbrev own_b : Key
own_b = named main (codes "B")

abbrev chained_inits : MixedProgram
chained_inits =
    alone (client (class own_a None ∷ class own_b (Some (reference own_a)) ∷ []) [] (body (init own_a []) (in_class own_a) [] ∷ passing_on own_b own_a ∷ []) (declare 0 (new_of (init own_b []) []) ∷ print (int (pos 1) ∷ []) ∷ []))

with_three : run chained_inits 3 ≡ prints (codes "1\n")
unfolding running
with_three = simp block_does_at

wants_three : run chained_inits 2 ≡ out_after []
unfolding running
wants_three = simp block_does_at

-- ---- final class K { init() { } }; let a = K(); print(a === a, a === K())

abbrev k : Key
k = named main (codes "K")

identity : run (alone (client (class k None ∷ []) [] (body (init k []) (in_class k) [] ∷ []) (declare 0 (new_of (init k []) []) ∷ print (chain (local 0) op.Identical (local 0) ∷ chain (local 0) op.Identical (new_of (init k []) []) ∷ []) ∷ []))) 3 ≡ prints (codes "true false\n")
unfolding running
identity = simp block_does_at
