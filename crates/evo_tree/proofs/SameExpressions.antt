-- Expressions are the same but for places where their parts are.
use Rattle.std.proofs.Common.{◌≡◌, List, [], ◌∷◌, map, Option, Some, None, ◌↔◌, refl, sym, ◌∙◌, ap, ap₂}
use Rattle.std.specs.Option.{option_map}
use Rattle.evo_base.specs.declared.place.Place.{Place}
use Rattle.evo_tree.specs.declared.name.Identifier.{Identifier}
use Rattle.evo_tree.specs.declared.expression.PrefixOperator.{PrefixOperator}
use Rattle.evo_tree.specs.declared.expression.InfixOperator.{InfixOperator}
use Rattle.evo_tree.specs.declared.expression.Expr.{Expr, Expr-F, out-Expr, roll-Expr, map-Expr, fold_out-Expr, out-roll-Expr}
use Rattle.evo_tree.specs.declared.expression.Expr.TheOpen as f
use Rattle.evo_tree.specs.declared.expression.Expr.TheVariants as e
use Rattle.evo_tree.specs.declared.expression.Expr.TheVariants.{outs-Name, outs-Super, outs-ImplicitMember, outs-Parenthesised, outs-Prefix, outs-Members, outs-Chain}
use Rattle.evo_tree.specs.Bare.{origin, bare_identifier, clear_argument, clear_expr, bare_expr, bare_argument, bare_member, bare_operand}

abbrev pub Argument : Type 0
Argument = Option Identifier × Expr

abbrev pub Call : Type 0
Call = Option (List Argument)

abbrev pub Member : Type 0
Member = Identifier × Call

abbrev pub Operand : Type 0
Operand = InfixOperator × Expr

-- the level without places
abbrev pub below : Expr-F Expr → Expr-F Expr
below x = clear_expr (map-Expr Expr Expr bare_expr x)

bare_out : (a : Expr) → bare_expr a ≡ roll-Expr (below (out-Expr a))
bare_out a = fold_out-Expr Expr (λ x. roll-Expr (clear_expr x)) a

-- trees are the same where their levels without places are
same_by : (a b : Expr) (x y z w : Expr-F Expr) → out-Expr a ≡ x → out-Expr b ≡ y → below x ≡ z → below y ≡ w → (z ≡ w) ↔ (bare_expr a ≡ bare_expr b)
same_by a b x y z w p q lx ly =
    let ea : bare_expr a ≡ roll-Expr z = bare_out a ∙ ap (λ v. roll-Expr (below v)) p ∙ ap roll-Expr lx in
    let eb : bare_expr b ≡ roll-Expr w = bare_out b ∙ ap (λ v. roll-Expr (below v)) q ∙ ap roll-Expr ly in
    (λ e. ea ∙ ap roll-Expr e ∙ sym eb, λ e. sym (out-roll-Expr z) ∙ ap out-Expr (sym ea ∙ e ∙ eb) ∙ out-roll-Expr w)

-- ---- the lists of a level

map_twice : {X Y Z : Type 0} (g : Y → Z) (h : X → Y) (xs : List X) → map g (map h xs) ≡ map (λ x. g (h x)) xs
map_twice g h [] = refl
map_twice g h (x ∷ xs) = ap (λ zs. g (h x) ∷ zs) (map_twice g h xs)

arguments_below : (xs : List Argument) → map (clear_argument {E = Expr}) (map (λ a. (a.0, bare_expr a.1)) xs) ≡ map bare_argument xs
arguments_below xs = map_twice clear_argument (λ (a : Argument). (a.0, bare_expr a.1)) xs

name_below : (n : Identifier) (xs : Call) → below (f.Name n xs) ≡ f.Name (bare_identifier n) (option_map (map bare_argument) xs)
name_below n None = refl
name_below n (Some xs) = ap (λ z. f.Name (bare_identifier n) (Some z)) (arguments_below xs)

implicit_below : (p : Place) (n : Identifier) (xs : Call) → below (f.ImplicitMember p n xs) ≡ f.ImplicitMember origin (bare_identifier n) (option_map (map bare_argument) xs)
implicit_below p n None = refl
implicit_below p n (Some xs) = ap (λ z. f.ImplicitMember origin (bare_identifier n) (Some z)) (arguments_below xs)

members_of : Expr-F Expr → List Member
members_of (f.Members x ms) = ms
members_of x = []

members_listed : (x : Expr) (ms : List Member) → members_of (below (f.Members x ms)) ≡ map bare_member ms
unfolding members_of
members_listed x [] = refl
members_listed x ((n, None) ∷ ms) = ap (λ zs. (bare_identifier n, None) ∷ zs) (members_listed x ms)
members_listed x ((n, Some xs) ∷ ms) = ap₂ (λ z zs. (bare_identifier n, Some z) ∷ zs) (arguments_below xs) (members_listed x ms)

members_below : (x : Expr) (ms : List Member) → below (f.Members x ms) ≡ f.Members (bare_expr x) (map bare_member ms)
unfolding members_of
members_below x ms = ap (λ zs. f.Members (bare_expr x) zs) (members_listed x ms)

-- ---- one rule for each kind of expression with parts

pub name_same : (a b : Expr) (n m : Identifier) (xs ys : Call) → a ≡ e.Name n xs → b ≡ e.Name m ys →
    ((bare_identifier n ≡ bare_identifier m) × (option_map (map bare_argument) xs ≡ option_map (map bare_argument) ys)) ↔ (bare_expr a ≡ bare_expr b)
name_same a b n m xs ys isa isb =
    let k = same_by a b (f.Name n xs) (f.Name m ys) (f.Name (bare_identifier n) (option_map (map bare_argument) xs)) (f.Name (bare_identifier m) (option_map (map bare_argument) ys)) (ap out-Expr isa ∙ outs-Name n xs) (ap out-Expr isb ∙ outs-Name m ys) (name_below n xs) (name_below m ys) in
    (λ h. k.0 (let i = h.0 in let j = h.1 in cc), λ h. let g = k.1 h in (cc, cc))

pub super_same : (a b : Expr) (p q : Place) (n m : Identifier) (xs ys : List Argument) → a ≡ e.Super p n xs → b ≡ e.Super q m ys →
    ((bare_identifier n ≡ bare_identifier m) × (map bare_argument xs ≡ map bare_argument ys)) ↔ (bare_expr a ≡ bare_expr b)
super_same a b p q n m xs ys isa isb =
    let k = same_by a b (f.Super p n xs) (f.Super q m ys) (f.Super origin (bare_identifier n) (map bare_argument xs)) (f.Super origin (bare_identifier m) (map bare_argument ys)) (ap out-Expr isa ∙ outs-Super p n xs) (ap out-Expr isb ∙ outs-Super q m ys) (ap (λ z. f.Super origin (bare_identifier n) z) (arguments_below xs)) (ap (λ z. f.Super origin (bare_identifier m) z) (arguments_below ys)) in
    (λ h. k.0 (let i = h.0 in let j = h.1 in cc), λ h. let g = k.1 h in (cc, cc))

pub implicit_same : (a b : Expr) (p q : Place) (n m : Identifier) (xs ys : Call) → a ≡ e.ImplicitMember p n xs → b ≡ e.ImplicitMember q m ys →
    ((bare_identifier n ≡ bare_identifier m) × (option_map (map bare_argument) xs ≡ option_map (map bare_argument) ys)) ↔ (bare_expr a ≡ bare_expr b)
implicit_same a b p q n m xs ys isa isb =
    let k = same_by a b (f.ImplicitMember p n xs) (f.ImplicitMember q m ys) (f.ImplicitMember origin (bare_identifier n) (option_map (map bare_argument) xs)) (f.ImplicitMember origin (bare_identifier m) (option_map (map bare_argument) ys)) (ap out-Expr isa ∙ outs-ImplicitMember p n xs) (ap out-Expr isb ∙ outs-ImplicitMember q m ys) (implicit_below p n xs) (implicit_below q m ys) in
    (λ h. k.0 (let i = h.0 in let j = h.1 in cc), λ h. let g = k.1 h in (cc, cc))

pub parenthesised_same : (a b : Expr) (p q : Place) (x y : Expr) → a ≡ e.Parenthesised p x → b ≡ e.Parenthesised q y →
    ((bare_expr x ≡ bare_expr y)) ↔ (bare_expr a ≡ bare_expr b)
parenthesised_same a b p q x y isa isb =
    let k = same_by a b (f.Parenthesised p x) (f.Parenthesised q y) (f.Parenthesised origin (bare_expr x)) (f.Parenthesised origin (bare_expr y)) (ap out-Expr isa ∙ outs-Parenthesised p x) (ap out-Expr isb ∙ outs-Parenthesised q y) refl refl in
    (λ h. k.0 (cc), λ h. let g = k.1 h in cc)

pub prefix_same : (a b : Expr) (p q : Place) (o r : PrefixOperator) (x y : Expr) → a ≡ e.Prefix p o x → b ≡ e.Prefix q r y →
    ((o ≡ r) × (bare_expr x ≡ bare_expr y)) ↔ (bare_expr a ≡ bare_expr b)
prefix_same a b p q o r x y isa isb =
    let k = same_by a b (f.Prefix p o x) (f.Prefix q r y) (f.Prefix origin o (bare_expr x)) (f.Prefix origin r (bare_expr y)) (ap out-Expr isa ∙ outs-Prefix p o x) (ap out-Expr isb ∙ outs-Prefix q r y) refl refl in
    (λ h. k.0 (let i = h.0 in let j = h.1 in cc), λ h. let g = k.1 h in (cc, cc))

pub members_same : (a b : Expr) (x y : Expr) (xs ys : List Member) → a ≡ e.Members x xs → b ≡ e.Members y ys →
    ((bare_expr x ≡ bare_expr y) × (map bare_member xs ≡ map bare_member ys)) ↔ (bare_expr a ≡ bare_expr b)
members_same a b x y xs ys isa isb =
    let k = same_by a b (f.Members x xs) (f.Members y ys) (f.Members (bare_expr x) (map bare_member xs)) (f.Members (bare_expr y) (map bare_member ys)) (ap out-Expr isa ∙ outs-Members x xs) (ap out-Expr isb ∙ outs-Members y ys) (members_below x xs) (members_below y ys) in
    (λ h. k.0 (let i = h.0 in let j = h.1 in cc), λ h. let g = k.1 h in (cc, cc))

pub chain_same : (a b : Expr) (x y : Expr) (xs ys : List Operand) → a ≡ e.Chain x xs → b ≡ e.Chain y ys →
    ((bare_expr x ≡ bare_expr y) × (map bare_operand xs ≡ map bare_operand ys)) ↔ (bare_expr a ≡ bare_expr b)
chain_same a b x y xs ys isa isb =
    let k = same_by a b (f.Chain x xs) (f.Chain y ys) (f.Chain (bare_expr x) (map bare_operand xs)) (f.Chain (bare_expr y) (map bare_operand ys)) (ap out-Expr isa ∙ outs-Chain x xs) (ap out-Expr isb ∙ outs-Chain y ys) refl refl in
    (λ h. k.0 (let i = h.0 in let j = h.1 in cc), λ h. let g = k.1 h in (cc, cc))
