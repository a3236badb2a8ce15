use Rattle.std.proofs.Common.{◌≡◌, suc, ◌-◌, Some, OnOk, Result, Ok, Err, length, sym, subst, arith}
use Rattle.evo_solve.specs.Search.{Followed, at, subtables_of}
use Rattle.evo_solve.proofs.Lists.{below_length}
use Rattle.evo_solve.proofs.Levels.{followed_end, followed_more}
use Rattle.evo_solve.proofs.route.+follow.Goals as goal

on_ok : {A E : Type 0} (r : Result A E) (P Q : Type 0) → (P → Q) → OnOk r P → OnOk r Q
on_ok (Ok x) P Q f p = f p
on_ok (Err e) P Q f p = tt

pub returns-then-far-eq0 : goal.returns-then-far-eq0
returns-then-far-eq0 t c =
    let g = c.args.classes.now in
    let ps = c.args.protocols.now in
    let dist = c.args.distances.now in
    let zero_far = subst (λ z. at dist (length ps) c.args.from.class c.args.from.protocol ≡ Some z) c.if-far-eq0.true c.requires.far in
    subst (λ z. Followed g ps c.args.sought.class c.args.sought.protocol c.args.from.class c.args.from.protocol z c.args.names.now.items c.args.names.now.items) (sym c.if-far-eq0.true)
    (followed_end g ps c.requires.range c.args.sought.class c.args.sought.protocol c.requires.protocol dist c.requires.level.1.exact c.args.from.class c.args.from.protocol c.requires.place zero_far c.args.names.now.items)

pub name_of-requires : goal.name_of-requires
name_of-requires t c = below_length (subtables_of c.args.protocols.now c.args.from.protocol) c.in-Some.step.number c.in-Some.ensures.subtable c.in-Some.ensures.there

pub returns : goal.returns
returns t c =
    let g = c.args.classes.now in
    let ps = c.args.protocols.now in
    let dist = c.args.distances.now in
    let far = c.args.far in
    let positive = c.if-far-eq0.false in
    let e : far ≡ suc (far - 1) = omega arith in
    let here = subst (λ z. at dist (length ps) c.args.from.class c.args.from.protocol ≡ Some z) e c.requires.far in
    let n = c.in-Some.ensures in
    on_ok c.follow.result (Followed g ps c.args.sought.class c.args.sought.protocol c.in-Some.step.class c.in-Some.step.protocol (far - 1) c.push.new.self.items c.follow.new.names.items)
    (Followed g ps c.args.sought.class c.args.sought.protocol c.args.from.class c.args.from.protocol far c.args.names.now.items c.follow.new.names.items)
    (λ rest. subst (λ z. Followed g ps c.args.sought.class c.args.sought.protocol c.args.from.class c.args.from.protocol z c.args.names.now.items c.follow.new.names.items) (sym e)
    (followed_more g ps c.requires.range c.args.sought.class c.args.sought.protocol c.requires.protocol dist c.requires.level.0 c.requires.level.1 c.args.from.class c.args.from.protocol (far - 1) c.requires.place here c.in-Some.step n c.args.names.now.items c.push.new.self.items c.follow.new.names.items c.in_ok-name.name (c.in_ok-name.ensures n.subtable n.there) c.in_ok-push.ensures.items rest))
    c.follow.ensures
