-- Places: in which order roots, right sides, getters and setters run.
use Rattle.std.proofs.Common.{◌≡◌, pos, List, [], ◌∷◌, map, codes, None}
use Rattle.evo_base.specs.declared.key.Key.{Key}
use Rattle.evo_tree.specs.declared.statement.AssignmentOperator.TheVariants as becomes
use Rattle.evo_resolved.specs.declared.body.RBody.{RBody}
use Rattle.evo_names.specs.Listed.{Text}
use Rattle.evo_meaning.specs.Programs.{MixedProgram}
use Rattle.evo_meaning.specs.Bodies.{run}
use Rattle.evo_meaning.proofs.Trees.{Term, Statement, members, mutated, no_member, return, fill, declare, expression, block_does_at}
use Rattle.evo_meaning.proofs.Samples.{main, named, function, method_key, property_key, init, getter, setter, static, int, text, local, self, call_to, new_of, get, own, send, terms, print, change_local, change_self, change_in, in_struct, in_class, stored, computed, class, class_function, unwritten_init, body, at_top, client, alone, prints, running}

abbrev says : Text → Statement
says s = print (text s ∷ [])

-- ---- struct V { var n: Int }; final class K { var s: V; init() { s = V(n: 0) }; var v: V { get { print("get"); return s } set { print("set"); s = newValue } }; func go() { v.n = 3 } }

abbrev v_type : Key
v_type = named main (codes "V")

abbrev n : Key
n = property_key v_type (codes "n")

abbrev k_type : Key
k_type = named main (codes "K")

abbrev s : Key
s = property_key k_type (codes "s")

abbrev v : Key
v = property_key k_type (codes "v")

abbrev go : Key
go = method_key k_type (codes "go") []

abbrev k : Key
k = function main (codes "k") (codes "_" ∷ [])

abbrev val : Key
val = function main (codes "val") []

abbrev with_v : List RBody → List Statement → MixedProgram
with_v bodies ss =
    alone (client (stored (in_struct v_type) n ∷ class k_type None ∷ stored (in_class k_type) s ∷ computed (in_class k_type) v ∷ class_function k_type go ∷ []) (unwritten_init v_type (codes "n" ∷ []) ∷ [])
    (body (init k_type []) (in_class k_type) (fill s (new_of (init v_type (codes "n" ∷ [])) (int (pos 0) ∷ [])) ∷ [])
    ∷ body (getter v) (in_class k_type) (says (codes "get") ∷ return (own s) ∷ [])
    ∷ body (setter v) (in_class k_type) (says (codes "set") ∷ change_in self (s ∷ []) becomes.Assign (local 0) ∷ [])
    ∷ body go (in_class k_type) (change_in self (v ∷ n ∷ []) becomes.Assign (int (pos 3)) ∷ [])
    ∷ bodies) ss)

-- func k(o) { print("root"); return o }; func val() { print("val"); return 3 }; let o = K(); k(o).v.n = val(); print(o.s.n)
root_first : run (with_v (at_top k (says (codes "root") ∷ return (local 0) ∷ []) ∷ at_top val (says (codes "val") ∷ return (int (pos 3)) ∷ []) ∷ []) (declare 0 (new_of (init k_type []) []) ∷ change_in (call_to k (local 0 ∷ [])) (v ∷ n ∷ []) becomes.Assign (call_to val []) ∷ print (get (get (local 0) s) n ∷ []) ∷ [])) 6 ≡ prints (codes "root\nval\nget\nset\n3\n")
unfolding running
root_first = simp block_does_at

-- let k = K(); k.go(); print(k.s.n): a `self` that is not written is a root too
unwritten_root : run (with_v [] (declare 0 (new_of (init k_type []) []) ∷ expression (send (local 0) (static go) []) ∷ print (get (get (local 0) s) n ∷ []) ∷ [])) 5 ≡ prints (codes "get\nset\n3\n")
unfolding running
unwritten_root = simp block_does_at

-- ---- final class K { var n: Int; init() { n = 1 } }; struct H { let k: K; var m: K { print("m"); return k } }; let h = H(k: K()); h.m.n += 4; print(h.k.n)

abbrev h_type : Key
h_type = named main (codes "H")

abbrev k_of_h : Key
k_of_h = property_key h_type (codes "k")

abbrev m : Key
m = property_key h_type (codes "m")

abbrev n_of_k : Key
n_of_k = property_key k_type (codes "n")

longest_root : run (alone (client (class k_type None ∷ stored (in_class k_type) n_of_k ∷ stored (in_struct h_type) k_of_h ∷ computed (in_struct h_type) m ∷ []) (unwritten_init h_type (codes "k" ∷ []) ∷ []) (body (init k_type []) (in_class k_type) (fill n_of_k (int (pos 1)) ∷ []) ∷ body (getter m) (in_struct h_type) (says (codes "m") ∷ return (own k_of_h) ∷ []) ∷ []) (declare 0 (new_of (init h_type (codes "k" ∷ [])) (new_of (init k_type []) [] ∷ [])) ∷ change_in (get (local 0) m) (n_of_k ∷ []) becomes.Add (int (pos 4)) ∷ print (get (get (local 0) k_of_h) n_of_k ∷ []) ∷ []))) 3 ≡ prints (codes "m\n5\n")
unfolding running
longest_root = simp block_does_at

-- ---- struct In { var a: Int; var c: Int { get { print("get c"); return a } set { print("set c"); a = newValue } }; mutating func add(_ k: Int) { print("add"); a += k } }
-- ---- struct Out { var i: In; var j: In { get { print("get j"); return i } set { print("set j"); i = newValue } } }
-- ---- final class Box { var o: Out; init() { o = Out(i: In(a: 1)) }; var p: Out { get { print("get p"); return o } set { print("set p"); o = newValue } } }
-- ---- func n(_ s: String, _ v: Int) -> Int { print(s); return v }; func box(_ b: Box) -> Box { print("box"); return b }

abbrev in_type : Key
in_type = named main (codes "In")

abbrev out_type : Key
out_type = named main (codes "Out")

abbrev box_type : Key
box_type = named main (codes "Box")

abbrev a : Key
a = property_key in_type (codes "a")

abbrev c : Key
c = property_key in_type (codes "c")

abbrev add : Key
add = method_key in_type (codes "add") (codes "_" ∷ [])

abbrev i : Key
i = property_key out_type (codes "i")

abbrev j : Key
j = property_key out_type (codes "j")

abbrev o : Key
o = property_key box_type (codes "o")

abbrev p : Key
p = property_key box_type (codes "p")

abbrev told : Key
told = function main (codes "n") (codes "_" ∷ codes "_" ∷ [])

abbrev box : Key
box = function main (codes "box") (codes "_" ∷ [])

-- Out(i: In(a: 1))
abbrev new_out : Term
new_out = new_of (init out_type (codes "i" ∷ [])) (new_of (init in_type (codes "a" ∷ [])) (int (pos 1) ∷ []) ∷ [])

-- n("v", 7)
abbrev seven : Term
seven = call_to told (text (codes "v") ∷ int (pos 7) ∷ [])

abbrev boxes : List Statement → MixedProgram
boxes ss =
    alone (client (stored (in_struct in_type) a ∷ computed (in_struct in_type) c ∷ stored (in_struct out_type) i ∷ computed (in_struct out_type) j ∷ class box_type None ∷ stored (in_class box_type) o ∷ computed (in_class box_type) p ∷ [])
    (unwritten_init in_type (codes "a" ∷ []) ∷ unwritten_init out_type (codes "i" ∷ []) ∷ [])
    (body (getter c) (in_struct in_type) (says (codes "get c") ∷ return (own a) ∷ [])
    ∷ body (setter c) (in_struct in_type) (says (codes "set c") ∷ change_self (a ∷ []) becomes.Assign (local 0) ∷ [])
    ∷ body add (in_struct in_type) (says (codes "add") ∷ change_self (a ∷ []) becomes.Add (local 0) ∷ [])
    ∷ body (getter j) (in_struct out_type) (says (codes "get j") ∷ return (own i) ∷ [])
    ∷ body (setter j) (in_struct out_type) (says (codes "set j") ∷ change_self (i ∷ []) becomes.Assign (local 0) ∷ [])
    ∷ body (init box_type []) (in_class box_type) (fill o new_out ∷ [])
    ∷ body (getter p) (in_class box_type) (says (codes "get p") ∷ return (own o) ∷ [])
    ∷ body (setter p) (in_class box_type) (says (codes "set p") ∷ change_in self (o ∷ []) becomes.Assign (local 0) ∷ [])
    ∷ at_top told (print (local 0 ∷ []) ∷ return (local 1) ∷ [])
    ∷ at_top box (says (codes "box") ∷ return (local 0) ∷ []) ∷ []) ss)

-- let b = Box(); box(b).p.j.c = n("v", 7); print(b.o.i.a): the last getter does not run
outwards_and_back : run (boxes (declare 0 (new_of (init box_type []) []) ∷ change_in (call_to box (local 0 ∷ [])) (p ∷ j ∷ c ∷ []) becomes.Assign seven ∷ print (get (get (get (local 0) o) i) a ∷ []) ∷ [])) 9 ≡ prints (codes "box\nv\nget p\nget j\nset c\nset j\nset p\n7\n")
unfolding running
outwards_and_back = simp block_does_at

-- let b = Box(); box(b).p.j.add(n("v", 7)); print(b.o.i.a): the arguments stand where the right side does
mutating_call : run (boxes (declare 0 (new_of (init box_type []) []) ∷ expression (members (call_to box (local 0 ∷ [])) (mutated (map static (p ∷ j ∷ [])) (static add) (terms (seven ∷ [])) no_member)) ∷ print (get (get (get (local 0) o) i) a ∷ []) ∷ [])) 9 ≡ prints (codes "box\nv\nget p\nget j\nadd\nset j\nset p\n8\n")
unfolding running
mutating_call = simp block_does_at

-- var o = Out(i: In(a: 1)); o.j.c = n("v", 7); print(o.i.a): a place without a root
of_a_variable : run (boxes (declare 0 new_out ∷ change_local 0 (j ∷ c ∷ []) becomes.Assign seven ∷ print (get (get (local 0) i) a ∷ []) ∷ [])) 5 ≡ prints (codes "v\nget j\nset c\nset j\n7\n")
unfolding running
of_a_variable = simp block_does_at
