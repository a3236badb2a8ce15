-- One program with most forms: shapes of a library that changes under a client.
use Rattle.std.proofs.Common.{◌≡◌, ℕ, suc, pos, List, [], ◌∷◌, codes, Some, None, false, refl, sym, ◌∙◌, arith}
use Rattle.evo_base.specs.declared.key.Key.{Key}
use Rattle.evo_tree.specs.declared.expression.InfixOperator.{InfixOperator}
use Rattle.evo_tree.specs.declared.expression.InfixOperator.TheVariants as op
use Rattle.evo_tree.specs.declared.statement.AssignmentOperator.TheVariants as becomes
use Rattle.evo_resolved.specs.declared.expression.Reach.TheVariants as reach
use Rattle.evo_resolved.specs.declared.expression.Variable.TheVariants as variable
use Rattle.evo_resolved.specs.declared.expression.Builtin.TheVariants as function_of
use Rattle.evo_resolved.specs.declared.declaration.Standing.TheVariants as standing
use Rattle.evo_resolved.specs.declared.declaration.RDecl.{RDecl}
use Rattle.evo_resolved.specs.declared.statement.RClauseLabel.TheVariants as label
use Rattle.evo_resolved.specs.declared.body.RBody.{RBody}
use Rattle.evo_resolved.specs.declared.module.ModuleKind.TheVariants as module_kind
use Rattle.evo_resolved.specs.declared.module.RModule.{RModule}
use Rattle.evo_names.specs.Listed.{Text}
use Rattle.evo_meaning.specs.Values.{Value, nothing, truth, struct, enum, Fields, no_field, field, no_more}
use Rattle.evo_meaning.specs.Runs.{Object, Local, State, goes, stops, out_of_ticks}
use Rattle.evo_meaning.specs.Programs.{MixedProgram, client_side}
use Rattle.evo_meaning.specs.Calls.{Context, with_tables}
use Rattle.evo_meaning.specs.Bodies.{run, run_body, context}
use Rattle.evo_meaning.proofs.Trees.{Term, Statement, chain, mutate, builtin, no_term, does, block_of, return, fill, declare, switch, expression, super_init, block_does_at}
use Rattle.evo_meaning.proofs.Fuel.{bound_is_free}
use Rattle.evo_meaning.proofs.Samples.{main, all_of, named, function, method_key, property_key, init, requirement, override_of, conforming, static, dispatched, required, use_of, given, the, int, bool, text, local, self, terms, call_to, call_with, new_of, case, get, own, send, change_self, clauses, on_case, in_struct, in_class, stored, reference, class, class_function, overriding, unwritten_init, body, at_top, met, conformance, protocol, default, module_with, client, client_conforming, mixed, prints, out_after, running_statements, running}

abbrev shapes : Text
shapes = codes "Shapes"

-- @frozen public struct Point { public var x: Int; public var y: Int; @inlinable public init(x: Int, y: Int) { .. }; @inlinable public func moved(by d: Int) -> Point { .. } }
abbrev point : Key
point = named shapes (codes "Point")

abbrev x : Key
x = property_key point (codes "x")

abbrev y : Key
y = property_key point (codes "y")

abbrev point_init : Key
point_init = init point (codes "x" ∷ codes "y" ∷ [])

abbrev moved : Key
moved = method_key point (codes "moved") (codes "by" ∷ [])

abbrev new_point : Term → Term → Term
new_point a b = new_of point_init (a ∷ b ∷ [])

-- the old one adds, and the new one subtracts
abbrev inlinable_bodies : InfixOperator → List RBody
inlinable_bodies o =
    body point_init (in_struct point) (fill x (local 0) ∷ fill y (local 1) ∷ [])
    ∷ body moved (in_struct point) (return (new_point (chain (own x) o (local 0)) (chain (own y) o (local 0))) ∷ []) ∷ []

-- public enum Colour
abbrev colour : Key
colour = named shapes (codes "Colour")

abbrev red : Key
red = property_key colour (codes "red")

abbrev green : Key
green = property_key colour (codes "green")

abbrev blue : Key
blue = property_key colour (codes "blue")

-- public struct Style { public var width: Int; public var colour: Colour; public init(width: Int) { .. }; public mutating func widen() { .. } }, later with dash
abbrev style : Key
style = named shapes (codes "Style")

abbrev dash : Key
dash = property_key style (codes "dash")

abbrev width : Key
width = property_key style (codes "width")

abbrev colour_of : Key
colour_of = property_key style (codes "colour")

abbrev style_init : Key
style_init = init style (codes "width" ∷ [])

abbrev widen : Key
widen = method_key style (codes "widen") []

-- public protocol Measured { associatedtype Unit; func size() -> Unit }, later also func name() -> String with a default; extension Measured { public func label() -> String { return "measured" } }
abbrev measured : Key
measured = named shapes (codes "Measured")

abbrev size : Key
size = requirement measured (codes "size") []

abbrev name : Key
name = requirement measured (codes "name") []

abbrev default_name : Key
default_name = method_key measured (codes "name") []

abbrev label_of : Key
label_of = method_key measured (codes "label") []

-- open class Shape { public var origin: Point; public init(origin: Point) { .. }; open func area() -> Int { return 0 }; public func describe() -> Int { .. } }
abbrev shape : Key
shape = named shapes (codes "Shape")

abbrev origin : Key
origin = property_key shape (codes "origin")

abbrev shape_init : Key
shape_init = init shape (codes "origin" ∷ [])

abbrev area : Key
area = method_key shape (codes "area") []

abbrev describe : Key
describe = method_key shape (codes "describe") []

-- public func total<T: Measured>(_ a: T, _ b: T) -> Int where T.Unit == Int { return a.size() + b.size() }
abbrev total : Key
total = function shapes (codes "total") (codes "_" ∷ codes "_" ∷ [])

-- what is the same in both releases
abbrev common_decls : List RDecl
common_decls =
    stored (in_struct point) x ∷ stored (in_struct point) y ∷ stored (in_struct style) width ∷ stored (in_struct style) colour_of
    ∷ class shape None ∷ stored (in_class shape) origin ∷ class_function shape area ∷ class_function shape describe ∷ []

abbrev common_bodies : List RBody
common_bodies =
    body label_of (in_struct measured) (return (text (codes "measured")) ∷ [])
    ∷ body shape_init (in_class shape) (fill origin (local 0) ∷ [])
    ∷ body area (in_class shape) (return (int (pos 0)) ∷ [])
    ∷ at_top total (return (chain (send (local 0) (required size (given 0)) []) op.Add (send (local 1) (required size (given 0)) [])) ∷ []) ∷ []

abbrev area_of_self : Term
area_of_self = send self (dispatched area) []

abbrev old_library : RModule
old_library =
    module_with module_kind.Library shapes common_decls [] (protocol measured (default size None ∷ []) [] ∷ []) []
    (body style_init (in_struct style) (fill width (local 0) ∷ fill colour_of (case red []) ∷ [])
    ∷ body widen (in_struct style) (change_self (width ∷ []) becomes.Add (int (pos 1)) ∷ [])
    ∷ body describe (in_class shape) (return (chain area_of_self op.Add (get (own origin) x)) ∷ [])
    ∷ body point_init (in_struct point) (fill x (local 0) ∷ fill y (local 1) ∷ [])
    ∷ common_bodies)

-- `moved` subtracts; Colour is `case blue, red, green`; Style has dash and is blue, and widen adds 2; Measured has name; describe multiplies by 10
abbrev new_library : RModule
new_library =
    module_with module_kind.Library shapes (stored (in_struct style) dash ∷ common_decls) [] (protocol measured (default size None ∷ default name (Some default_name) ∷ []) [] ∷ []) []
    (body style_init (in_struct style) (fill dash (bool false) ∷ fill width (local 0) ∷ fill colour_of (case blue []) ∷ [])
    ∷ body widen (in_struct style) (change_self (width ∷ []) becomes.Add (int (pos 2)) ∷ [])
    ∷ body describe (in_class shape) (return (chain (chain area_of_self op.Multiply (int (pos 10))) op.Add (get (own origin) x)) ∷ [])
    ∷ body default_name (in_struct measured) (return (text (codes "thing")) ∷ [])
    ∷ body point_init (in_struct point) (fill x (local 0) ∷ fill y (local 1) ∷ [])
    ∷ body moved (in_struct point) (return (new_point (chain (own x) op.Subtract (local 0)) (chain (own y) op.Subtract (local 0))) ∷ [])
    ∷ common_bodies)

abbrev old_interface : RModule
old_interface = module_with module_kind.Interface shapes [] [] [] [] (inlinable_bodies op.Add)

-- final class Square: Shape { let side: Int; init(side: Int) { self.side = side; super.init(origin: Point(x: 1, y: 2)) }; override func area() -> Int { return side * side } }
abbrev square : Key
square = named main (codes "Square")

abbrev side : Key
side = property_key square (codes "side")

abbrev square_init : Key
square_init = init square (codes "side" ∷ [])

abbrev square_area : Key
square_area = override_of square (codes "area")

-- struct Rod: Measured { typealias Unit = Int; var n: Int; func size() -> Int { return n }; func name() -> String { return "rod" } }
abbrev rod : Key
rod = named main (codes "Rod")

abbrev n : Key
n = property_key rod (codes "n")

abbrev rod_size : Key
rod_size = method_key rod (codes "size") []

abbrev rod_name : Key
rod_name = method_key rod (codes "name") []

abbrev rod_measured : Key
rod_measured = conforming main rod measured

abbrev new_rod : ℕ → Term
new_rod i = new_of (init rod (codes "n" ∷ [])) (int (pos i) ∷ [])

-- func show(_ c: Colour) -> String { switch c { case .red: return "red" case .green: return "green" @unknown default: return "other" } }
abbrev show : Key
show = function main (codes "show") (codes "_" ∷ [])

-- let s = Square(side: 3); print(s.area(), s.describe()); let p = s.origin.moved(by: 5); print(p.x, p.y)
-- var t = Style(width: 4); t.widen(); print(t.width, show(t.colour)); print(total(Rod(n: 2), Rod(n: 5)), Rod(n: 1).label())
abbrev printing : List Term → Term
printing ts = builtin function_of.Print (terms ts)

abbrev new_square : Term
new_square = new_of square_init (int (pos 3) ∷ [])

abbrev print_areas : Term
print_areas = printing (send (local 0) (dispatched area) [] ∷ send (local 0) (dispatched describe) [] ∷ [])

abbrev move_point : Term
move_point = send (get (local 0) origin) (static moved) (int (pos 5) ∷ [])

abbrev print_point : Term
print_point = printing (get (local 1) x ∷ get (local 1) y ∷ [])

abbrev new_style : Term
new_style = new_of style_init (int (pos 4) ∷ [])

abbrev widen_style : Term
widen_style = mutate (variable.Local 2) [] (static widen) no_term

abbrev print_style : Term
print_style = printing (get (local 2) width ∷ call_to show (get (local 2) colour_of ∷ []) ∷ [])

abbrev print_rods : Term
print_rods = printing (call_with total (the rod_measured ∷ []) (new_rod 2 ∷ new_rod 5 ∷ []) ∷ send (new_rod 1) (use_of reach.Static label_of (the rod_measured ∷ [])) [] ∷ [])

abbrev top : List Statement
top =
    declare 0 new_square ∷ expression print_areas ∷ declare 1 move_point ∷ expression print_point ∷ declare 2 new_style ∷ expression widen_style ∷ expression print_style
    ∷ expression print_rods ∷ []

abbrev draws : RModule
draws =
    client_conforming (conformance main rod measured (met size rod_size ∷ []) [] ∷ [])
    (client (class square (Some (reference shape)) ∷ stored (in_class square) side ∷ overriding square area square_area ∷ stored (in_struct rod) n ∷ []) (unwritten_init rod (codes "n" ∷ []) ∷ [])
    (body square_init (in_class square) (fill side (local 0) ∷ super_init (static shape_init) (terms (new_point (int (pos 1)) (int (pos 2)) ∷ [])) ∷ [])
    ∷ body square_area (in_class square) (return (chain (own side) op.Multiply (own side)) ∷ [])
    ∷ body rod_size (in_struct rod) (return (own n) ∷ [])
    ∷ body rod_name (in_struct rod) (return (text (codes "rod")) ∷ [])
    ∷ at_top show (switch (local 0) (clauses ((on_case red [], return (text (codes "red")) ∷ []) ∷ (on_case green [], return (text (codes "green")) ∷ []) ∷ (label.UnknownDefault, return (text (codes "other")) ∷ []) ∷ [])) ∷ []) ∷ [])
    top)

-- the two programs; a run looks at one of their lists at a time
with_the_new : MixedProgram
with_the_new = mixed draws old_interface new_library

with_the_old : MixedProgram
with_the_old = mixed draws old_interface old_library

client_of_new : with_the_new.client ≡ draws
unfolding with_the_new
client_of_new = refl

old_of_new : with_the_new.old ≡ old_interface
unfolding with_the_new
old_of_new = refl

new_of_new : with_the_new.new ≡ new_library
unfolding with_the_new
new_of_new = refl

client_of_old : with_the_old.client ≡ draws
unfolding with_the_old
client_of_old = refl

old_of_old : with_the_old.old ≡ old_interface
unfolding with_the_old
old_of_old = refl

new_of_old : with_the_old.new ≡ old_library
unfolding with_the_old
new_of_old = refl

-- ---- the top level, a term at a time

-- where the top level of a program stands
abbrev here : MixedProgram → Context
here p = context 16 p (with_tables [] (record { side = client_side; standing = standing.TopLevel; block = block_of (all_of top) })) (run_body 15 p)

abbrev at_point : List Local → List Object → ℕ → Text → State
at_point locals heap ticks printed = record { store = record { environment = record { self = None; locals = locals }; heap = heap }; ticks = ticks; printed = printed }

abbrev the_square : List Object
the_square = record { class = square; fields = field side (Value.int (pos 3)) (field origin (struct (field x (Value.int (pos 1)) (field y (Value.int (pos 2)) no_field))) no_field) } ∷ []

abbrev the_point : Value
the_point = struct (field x (Value.int (pos 6)) (field y (Value.int (pos 7)) no_field))

abbrev with_square : List Local
with_square = record { number = 0; value = Value.object 0 } ∷ []

abbrev with_point : List Local
with_point = record { number = 0; value = Value.object 0 } ∷ record { number = 1; value = the_point } ∷ []

abbrev with_style : Fields → List Local
with_style fields = record { number = 0; value = Value.object 0 } ∷ record { number = 1; value = the_point } ∷ record { number = 2; value = struct fields } ∷ []

abbrev new_fields : ℕ → Fields
new_fields w = field dash (truth false) (field width (Value.int (pos w)) (field colour_of (enum blue no_more) no_field))

abbrev old_fields : ℕ → Fields
old_fields w = field width (Value.int (pos w)) (field colour_of (enum red no_more) no_field)

-- ---- with the new release: k ticks are left behind each term

new_1 : (k : ℕ) → does (here with_the_new) new_square (at_point [] [] (suc (suc (suc k))) []) ≡ goes (Value.object 0) (at_point [] the_square k [])
unfolding running
new_1 k = simp (block_does_at, client_of_new, old_of_new, new_of_new)

new_2 : (k : ℕ) → does (here with_the_new) print_areas (at_point with_square the_square (suc (suc (suc k))) []) ≡ goes nothing (at_point with_square the_square k (codes "9 91\n"))
unfolding running
new_2 k = simp (block_does_at, client_of_new, old_of_new, new_of_new)

new_3 : (k : ℕ) → does (here with_the_new) move_point (at_point with_square the_square (suc (suc k)) (codes "9 91\n")) ≡ goes the_point (at_point with_square the_square k (codes "9 91\n"))
unfolding running
new_3 k = simp (block_does_at, client_of_new, old_of_new, new_of_new)

new_4 : (k : ℕ) → does (here with_the_new) print_point (at_point with_point the_square k (codes "9 91\n")) ≡ goes nothing (at_point with_point the_square k (codes "9 91\n6 7\n"))
unfolding running
new_4 k = simp (block_does_at, client_of_new, old_of_new, new_of_new)

new_5 : (k : ℕ) → does (here with_the_new) new_style (at_point with_point the_square (suc k) (codes "9 91\n6 7\n")) ≡ goes (struct (new_fields 4)) (at_point with_point the_square k (codes "9 91\n6 7\n"))
unfolding running
new_5 k = simp (block_does_at, client_of_new, old_of_new, new_of_new)

new_6 : (k : ℕ) → does (here with_the_new) widen_style (at_point (with_style (new_fields 4)) the_square (suc k) (codes "9 91\n6 7\n")) ≡ goes nothing (at_point (with_style (new_fields 6)) the_square k (codes "9 91\n6 7\n"))
unfolding running
new_6 k = simp (block_does_at, client_of_new, old_of_new, new_of_new)

new_7 : (k : ℕ) → does (here with_the_new) print_style (at_point (with_style (new_fields 6)) the_square (suc k) (codes "9 91\n6 7\n")) ≡ goes nothing (at_point (with_style (new_fields 6)) the_square k (codes "9 91\n6 7\n6 other\n"))
unfolding running
new_7 k = simp (block_does_at, client_of_new, old_of_new, new_of_new)

new_8 : (k : ℕ) → does (here with_the_new) print_rods (at_point (with_style (new_fields 6)) the_square (suc (suc (suc (suc k)))) (codes "9 91\n6 7\n6 other\n")) ≡ goes nothing (at_point (with_style (new_fields 6)) the_square k (codes "9 91\n6 7\n6 other\n7 measured\n"))
unfolding running
new_8 k = simp (block_does_at, client_of_new, old_of_new, new_of_new)

-- the last body, of `label`, wants one more
new_8_wants_four : does (here with_the_new) print_rods (at_point (with_style (new_fields 6)) the_square 3 (codes "9 91\n6 7\n6 other\n")) ≡ stops out_of_ticks (codes "9 91\n6 7\n6 other\n")
unfolding running
new_8_wants_four = simp (block_does_at, client_of_new, old_of_new, new_of_new)

new_release : run with_the_new 16 ≡ prints (codes "9 91\n6 7\n6 other\n7 measured\n")
unfolding running_statements
new_release = simp (block_does_at, client_of_new, old_of_new, new_of_new, new_1 12, new_2 9, new_3 7, new_4 7, new_5 6, new_6 5, new_7 4, new_8 0)

new_release_wants_sixteen : run with_the_new 15 ≡ out_after (codes "9 91\n6 7\n6 other\n")
unfolding running_statements
new_release_wants_sixteen =
    sym (bound_is_free.programs with_the_new 15 16 (omega arith))
    ∙ simp (block_does_at, client_of_new, old_of_new, new_of_new, new_1 11, new_2 8, new_3 6, new_4 6, new_5 5, new_6 4, new_7 3, new_8_wants_four)

-- ---- with the old release

old_1 : (k : ℕ) → does (here with_the_old) new_square (at_point [] [] (suc (suc (suc k))) []) ≡ goes (Value.object 0) (at_point [] the_square k [])
unfolding running
old_1 k = simp (block_does_at, client_of_old, old_of_old, new_of_old)

old_2 : (k : ℕ) → does (here with_the_old) print_areas (at_point with_square the_square (suc (suc (suc k))) []) ≡ goes nothing (at_point with_square the_square k (codes "9 10\n"))
unfolding running
old_2 k = simp (block_does_at, client_of_old, old_of_old, new_of_old)

old_3 : (k : ℕ) → does (here with_the_old) move_point (at_point with_square the_square (suc (suc k)) (codes "9 10\n")) ≡ goes the_point (at_point with_square the_square k (codes "9 10\n"))
unfolding running
old_3 k = simp (block_does_at, client_of_old, old_of_old, new_of_old)

old_4 : (k : ℕ) → does (here with_the_old) print_point (at_point with_point the_square k (codes "9 10\n")) ≡ goes nothing (at_point with_point the_square k (codes "9 10\n6 7\n"))
unfolding running
old_4 k = simp (block_does_at, client_of_old, old_of_old, new_of_old)

old_5 : (k : ℕ) → does (here with_the_old) new_style (at_point with_point the_square (suc k) (codes "9 10\n6 7\n")) ≡ goes (struct (old_fields 4)) (at_point with_point the_square k (codes "9 10\n6 7\n"))
unfolding running
old_5 k = simp (block_does_at, client_of_old, old_of_old, new_of_old)

old_6 : (k : ℕ) → does (here with_the_old) widen_style (at_point (with_style (old_fields 4)) the_square (suc k) (codes "9 10\n6 7\n")) ≡ goes nothing (at_point (with_style (old_fields 5)) the_square k (codes "9 10\n6 7\n"))
unfolding running
old_6 k = simp (block_does_at, client_of_old, old_of_old, new_of_old)

old_7 : (k : ℕ) → does (here with_the_old) print_style (at_point (with_style (old_fields 5)) the_square (suc k) (codes "9 10\n6 7\n")) ≡ goes nothing (at_point (with_style (old_fields 5)) the_square k (codes "9 10\n6 7\n5 red\n"))
unfolding running
old_7 k = simp (block_does_at, client_of_old, old_of_old, new_of_old)

old_8 : (k : ℕ) → does (here with_the_old) print_rods (at_point (with_style (old_fields 5)) the_square (suc (suc (suc (suc k)))) (codes "9 10\n6 7\n5 red\n")) ≡ goes nothing (at_point (with_style (old_fields 5)) the_square k (codes "9 10\n6 7\n5 red\n7 measured\n"))
unfolding running
old_8 k = simp (block_does_at, client_of_old, old_of_old, new_of_old)

old_release : run with_the_old 16 ≡ prints (codes "9 10\n6 7\n5 red\n7 measured\n")
unfolding running_statements
old_release = simp (block_does_at, client_of_old, old_of_old, new_of_old, old_1 12, old_2 9, old_3 7, old_4 7, old_5 6, old_6 5, old_7 4, old_8 0)
