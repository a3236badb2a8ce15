use Rattle.std.proofs.Common.{◌≡◌, ℕ, None, IsSome, sym, subst, ap, refl, ◌∙◌, List, [], ◌∷◌, ◌++◌, map, Vec, Global}
use Rattle.evo_base.specs.Names.{position_of, AreDistinct}
use Rattle.evo_base.proofs.Names.{AreDistinct-push, held_by_key, held_by_no_key, map-insert_key}
use Rattle.evo_base.proofs.name_table.NameTable.insert.Goals as goal

abbrev bytes_of_key : Vec ℕ Global → List ℕ
bytes_of_key v = v.items

pub returns-then-contains-clause-ok : goal.returns-then-contains-clause-ok
returns-then-contains-clause-ok c =
    let there = held_by_key bytes_of_key c.args.name.now c.self.inside.names.keys (sym c.contains.ensures ∙ c.if-contains.true) in
    (subst (λ (names : List (List ℕ)). IsSome (position_of c.args.name.now names)) c.self.view_is there, refl)

-- the name is new, and stands behind the others
abbrev Added : goal.In_ok-insert → Type 0
Added c = (position_of c.args.name.now c.args.self.now ≡ None) × (map bytes_of_key c.insert.new.self.keys ≡ c.args.self.now ++ c.args.name.now ∷ [])

added : (c : goal.In_ok-insert) → Added c
added c =
    let absent = sym c.contains.ensures ∙ c.if-contains.false in
    let copied = c.in_ok-to_vec.ensures.items_if_clones_equal (λ x y same. same) in
    let none : position_of c.args.name.now c.args.self.now ≡ None = subst (λ (names : List (List ℕ)). position_of c.args.name.now names ≡ None) c.self.view_is (held_by_no_key bytes_of_key c.args.name.now c.self.inside.names.keys absent) in
    let names = ap (map bytes_of_key) c.in_ok-insert.ensures.keys ∙ map-insert_key bytes_of_key c.args.name.now c.self.inside.names.keys c.in_ok-to_vec.field-0 copied absent in
    (none, names ∙ ap (λ (names : List (List ℕ)). names ++ c.args.name.now ∷ []) c.self.view_is)

distinct : (c : goal.In_ok-insert) → AreDistinct (map bytes_of_key c.insert.new.self.keys)
distinct c = subst AreDistinct (sym (added c).1) (AreDistinct-push c.args.name.now c.args.self.now (subst AreDistinct c.self.view_is c.self.invariant) (added c).0)

pub invariant_of-self-2 : goal.invariant_of-self-2
invariant_of-self-2 c = distinct c

pub returns-clause-ok : goal.returns-clause-ok
returns-clause-ok c = added c

pub returns-clause-distinct : goal.returns-clause-distinct
returns-clause-distinct c = distinct c
