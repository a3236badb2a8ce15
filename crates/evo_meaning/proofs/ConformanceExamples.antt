-- Generic functions and what they are given: witnesses, defaults, and tables behind associated types.
use Rattle.std.proofs.Common.{◌≡◌, ℕ, pos, List, [], ◌∷◌, codes, Some, None}
use Rattle.evo_base.specs.declared.key.Key.{Key}
use Rattle.evo_base.specs.declared.key.Mark.TheVariants as mark
use Rattle.evo_tree.specs.declared.expression.InfixOperator.TheVariants as op
use Rattle.evo_tree.specs.declared.statement.AssignmentOperator.TheVariants as becomes
use Rattle.evo_resolved.specs.declared.path.ConfPath.{ConfPath}
use Rattle.evo_resolved.specs.declared.path.ConfStart.TheVariants as start
use Rattle.evo_resolved.specs.declared.expression.Reach.TheVariants as reach
use Rattle.evo_resolved.specs.declared.expression.Variable.TheVariants as variable
use Rattle.evo_resolved.specs.declared.body.RBody.{RBody}
use Rattle.evo_resolved.specs.declared.module.RSubtable.{RSubtable}
use Rattle.evo_resolved.specs.declared.module.RModule.{RModule}
use Rattle.evo_meaning.specs.Programs.{MixedProgram}
use Rattle.evo_meaning.specs.Bodies.{run}
use Rattle.evo_meaning.proofs.Trees.{Term, Statement, chain, mutate, assign, members, method, property, no_member, no_term, return, fill, declare, expression, block_does_at}
use Rattle.evo_meaning.proofs.Samples.{lib, main, named, key, function, method_key, property_key, init, requirement, property_requirement, conforming, static, use_of, required, given, the, int, local, self, call_with, new_of, own, send, print, change_self, in_struct, stored, unwritten_init, body, at_top, met, unmet, conformance, protocol, default, empty, library, client, client_conforming, library_conforming, mixed, alone, prints, out_after, running}

-- ---- public protocol P { func id() -> Int }, in the new release also func name() -> Int with a default that gives 0
-- ---- struct X: P { func id() -> Int { return 1 }; func name() -> Int { return 5 } }; show(X()); print(X().name())

abbrev p : Key
p = named lib (codes "P")

abbrev x : Key
x = named main (codes "X")

abbrev id : Key
id = requirement p (codes "id") []

abbrev name : Key
name = requirement p (codes "name") []

abbrev default_name : Key
default_name = method_key p (codes "name") []

abbrev id_of_x : Key
id_of_x = method_key x (codes "id") []

abbrev name_of_x : Key
name_of_x = method_key x (codes "name") []

abbrev show : Key
show = function lib (codes "show") (codes "_" ∷ [])

-- the client recorded what met the one requirement that there was
abbrev shows_x : RModule
shows_x =
    client_conforming (conformance main x p (met id id_of_x ∷ []) [] ∷ [])
    (client [] (unwritten_init x [] ∷ [])
    (body id_of_x (in_struct x) (return (int (pos 1)) ∷ []) ∷ body name_of_x (in_struct x) (return (int (pos 5)) ∷ []) ∷ [])
    (expression (call_with show (the (conforming main x p) ∷ []) (new_of (init x []) [] ∷ [])) ∷ print (send (new_of (init x []) []) (static name_of_x) [] ∷ []) ∷ []))

-- a member that the client did not record is not sought again
default_for_new : run (mixed shows_x empty (library_conforming (protocol p (default id None ∷ default name (Some default_name) ∷ []) [] ∷ []) [] (library [] (body default_name (in_struct p) (return (int (pos 0)) ∷ []) ∷ at_top show (print (send (local 0) (required name (given 0)) [] ∷ []) ∷ []) ∷ [])))) 4 ≡ prints (codes "0\n5\n")
unfolding running
default_for_new = simp block_does_at

recorded_member : run (mixed shows_x empty (library_conforming (protocol p (default id None ∷ []) [] ∷ []) [] (library [] (at_top show (print (send (local 0) (required id (given 0)) [] ∷ []) ∷ []) ∷ [])))) 4 ≡ prints (codes "1\n5\n")
unfolding running
recorded_member = simp block_does_at

-- a default that calls another requirement of its `Self`: extension P { public func name() -> Int { return id() + 1 } }
default_calls_requirement : run (mixed shows_x empty (library_conforming (protocol p (default id None ∷ default name (Some default_name) ∷ []) [] ∷ []) [] (library [] (body default_name (in_struct p) (return (chain (send self (required id (given 0)) []) op.Add (int (pos 1))) ∷ []) ∷ at_top show (print (send (local 0) (required name (given 0)) [] ∷ []) ∷ []) ∷ [])))) 5 ≡ prints (codes "2\n5\n")
unfolding running
default_calls_requirement = simp block_does_at

-- ---- public protocol P { associatedtype A; func v() -> A }; struct R { var k: Int; init(k: Int) { self.k = k } }; extension R: P { typealias A = Int; func v() -> Int { return k } }
-- ---- func sum<T: P>(a: T, b: T) -> T.A where T.A == Int { return a.v() + b.v() }
-- ---- struct C: P { typealias A = Int; var n: Int; func v() -> Int { return n * 2 } }; print(sum(a: C(n: 4), b: C(n: 5)), sum(a: R(k: 3), b: R(k: 8)))

abbrev v : Key
v = requirement p (codes "v") []

abbrev r : Key
r = named lib (codes "R")

abbrev k : Key
k = property_key r (codes "k")

abbrev v_of_r : Key
v_of_r = method_key r (codes "v") []

abbrev c : Key
c = named main (codes "C")

abbrev n : Key
n = property_key c (codes "n")

abbrev v_of_c : Key
v_of_c = method_key c (codes "v") []

abbrev sum : Key
sum = function lib (codes "sum") (codes "a" ∷ codes "b" ∷ [])

abbrev new_c : ℕ → Term
new_c i = new_of (init c (codes "n" ∷ [])) (int (pos i) ∷ [])

abbrev new_r : ℕ → Term
new_r i = new_of (init r (codes "k" ∷ [])) (int (pos i) ∷ [])

sums : MixedProgram
sums =
    mixed
    (client_conforming (conformance main c p (met v v_of_c ∷ []) [] ∷ [])
    (client (stored (in_struct c) n ∷ []) (unwritten_init c (codes "n" ∷ []) ∷ []) (body v_of_c (in_struct c) (return (chain (own n) op.Multiply (int (pos 2))) ∷ []) ∷ [])
    (print (call_with sum (the (conforming main c p) ∷ []) (new_c 4 ∷ new_c 5 ∷ []) ∷ call_with sum (the (conforming lib r p) ∷ []) (new_r 3 ∷ new_r 8 ∷ []) ∷ []) ∷ [])))
    empty
    (library_conforming (protocol p (default v None ∷ []) [] ∷ []) (conformance lib r p (met v v_of_r ∷ []) [] ∷ [])
    (library (stored (in_struct r) k ∷ [])
    (body (init r (codes "k" ∷ [])) (in_struct r) (fill k (local 0) ∷ []) ∷ body v_of_r (in_struct r) (return (own k) ∷ []) ∷ at_top sum (return (chain (send (local 0) (required v (given 0)) []) op.Add (send (local 1) (required v (given 0)) [])) ∷ []) ∷ [])))

with_nine : run sums 9 ≡ prints (codes "18 11\n")
unfolding sums running
with_nine = simp block_does_at

wants_nine : run sums 8 ≡ out_after []
unfolding sums running
wants_nine = simp block_does_at

-- ---- public protocol Q { func n() -> Int }; public protocol P { associatedtype A: Q; func a() -> A }; func deep<T: P>(_ t: T) -> Int { return t.a().n() }
-- ---- struct X: Q { func n() -> Int { return 3 } }; struct Y: P { typealias A = X; func a() -> X { return X() } }; print(deep(Y()))

abbrev q : Key
q = named lib (codes "Q")

abbrev y : Key
y = named main (codes "Y")

abbrev n_required : Key
n_required = requirement q (codes "n") []

abbrev a_required : Key
a_required = requirement p (codes "a") []

abbrev n_of_x : Key
n_of_x = method_key x (codes "n") []

abbrev a_of_y : Key
a_of_y = method_key y (codes "a") []

-- the subtable for the constraint of the associated type A
abbrev a_conforms : Key
a_conforms = key lib (lib ∷ codes "P" ∷ []) (codes "A") None (mark.Associated (record { «module» = lib; name = codes "Q" }) ∷ [])

abbrev deep : Key
deep = function lib (codes "deep") (codes "_" ∷ [])

-- where the conformance of the parameter has the conformance of its A
abbrev behind_a : ConfPath
behind_a = record { start = start.Required 0; steps = a_conforms ∷ [] }

abbrev deep_body : RBody
deep_body = at_top deep (return (members (local 0) (method (required a_required (given 0)) no_term (method (required n_required behind_a) no_term no_member))) ∷ [])

abbrev deepens : List RSubtable → RModule
deepens subtables =
    client_conforming (conformance main x q (met n_required n_of_x ∷ []) [] ∷ conformance main y p (met a_required a_of_y ∷ []) subtables ∷ [])
    (client [] (unwritten_init x [] ∷ unwritten_init y [] ∷ [])
    (body n_of_x (in_struct x) (return (int (pos 3)) ∷ []) ∷ body a_of_y (in_struct y) (return (new_of (init x []) []) ∷ []) ∷ [])
    (print (call_with deep (the (conforming main y p) ∷ []) (new_of (init y []) [] ∷ []) ∷ []) ∷ []))

behind_an_associated_type : run (mixed (deepens (record { name = a_conforms; conformance = Some (conforming main x q) } ∷ [])) empty (library [] (deep_body ∷ []))) 4 ≡ prints (codes "3\n")
unfolding running
behind_an_associated_type = simp block_does_at

-- where the conformance recorded nothing, the associated type is new, and the protocol's default for it serves
behind_a_new_associated_type : run (mixed (deepens []) empty (library_conforming (protocol p [] (record { name = a_conforms; conformance = Some (conforming main x q) } ∷ []) ∷ []) [] (library [] (deep_body ∷ [])))) 4 ≡ prints (codes "3\n")
unfolding running
behind_a_new_associated_type = simp block_does_at

-- ---- public protocol P { func r() -> Int }; extension P { func r() -> Int { return 1 }; func x() -> Int { return 1 } }, which then give 3 and 4
-- ---- func g<T: P>(_ t: T) -> Int { return t.r() * 10 + t.x() }
-- ---- struct A: P { }; struct B: P { func r() -> Int { return 7 }; func x() -> Int { return 8 } }; print(g(A()), g(B()), B().x(), A().x())

abbrev r_required : Key
r_required = requirement p (codes "r") []

abbrev default_r : Key
default_r = method_key p (codes "r") []

-- it is no requirement, so it is called statically
abbrev x_of_p : Key
x_of_p = method_key p (codes "x") []

abbrev g : Key
g = function lib (codes "g") (codes "_" ∷ [])

abbrev a : Key
a = named main (codes "A")

abbrev b : Key
b = named main (codes "B")

abbrev r_of_b : Key
r_of_b = method_key b (codes "r") []

abbrev x_of_b : Key
x_of_b = method_key b (codes "x") []

extension_members : run (mixed (client_conforming (conformance main a p (unmet r_required ∷ []) [] ∷ conformance main b p (met r_required r_of_b ∷ []) [] ∷ []) (client [] (unwritten_init a [] ∷ unwritten_init b [] ∷ []) (body r_of_b (in_struct b) (return (int (pos 7)) ∷ []) ∷ body x_of_b (in_struct b) (return (int (pos 8)) ∷ []) ∷ []) (print (call_with g (the (conforming main a p) ∷ []) (new_of (init a []) [] ∷ []) ∷ call_with g (the (conforming main b p) ∷ []) (new_of (init b []) [] ∷ []) ∷ send (new_of (init b []) []) (static x_of_b) [] ∷ send (new_of (init a []) []) (use_of reach.Static x_of_p (the (conforming main a p) ∷ [])) [] ∷ []) ∷ []))) empty (library_conforming (protocol p (default r_required (Some default_r) ∷ []) [] ∷ []) [] (library [] (body default_r (in_struct p) (return (int (pos 3)) ∷ []) ∷ body x_of_p (in_struct p) (return (int (pos 4)) ∷ []) ∷ at_top g (return (chain (chain (send (local 0) (required r_required (given 0)) []) op.Multiply (int (pos 10))) op.Add (send (local 0) (use_of reach.Static x_of_p (given 0 ∷ [])) [])) ∷ []) ∷ [])))) 9 ≡ prints (codes "34 74 8 4\n")
unfolding running
extension_members = simp block_does_at

-- ---- protocol P { mutating func up(); var n: Int { get set } }; struct S: P { var n: Int; mutating func up() { n += 1 } }
-- ---- func g<T: P>(_ x: T) -> Int { var y = x; y.up(); y.n += 5; y.up(); return y.n }; print(g(S(n: 1)))

abbrev own_p : Key
own_p = named main (codes "P")

abbrev s : Key
s = named main (codes "S")

abbrev n_of_s : Key
n_of_s = property_key s (codes "n")

abbrev up_of_s : Key
up_of_s = method_key s (codes "up") []

abbrev up : Key
up = requirement own_p (codes "up") []

abbrev n_of_p : Key
n_of_p = property_requirement own_p (codes "n")

abbrev own_g : Key
own_g = function main (codes "g") (codes "_" ∷ [])

-- y.up()
abbrev y_up : Statement
y_up = expression (mutate (variable.Local 1) [] (required up (given 0)) no_term)

setters_and_mutation : run (alone (client_conforming (conformance main s own_p (met up up_of_s ∷ met n_of_p n_of_s ∷ []) [] ∷ []) (client (stored (in_struct s) n_of_s ∷ []) (unwritten_init s (codes "n" ∷ []) ∷ []) (body up_of_s (in_struct s) (change_self (n_of_s ∷ []) becomes.Add (int (pos 1)) ∷ []) ∷ at_top own_g (declare 1 (local 0) ∷ y_up ∷ assign (variable.Local 1) (required n_of_p (given 0) ∷ []) becomes.Add (int (pos 5)) ∷ y_up ∷ return (members (local 1) (property (required n_of_p (given 0)) no_member)) ∷ []) ∷ []) (print (call_with own_g (the (conforming main s own_p) ∷ []) (new_of (init s (codes "n" ∷ [])) (int (pos 1) ∷ []) ∷ []) ∷ []) ∷ [])))) 4 ≡ prints (codes "8\n")
unfolding running
setters_and_mutation = simp block_does_at
