-- The text of an expression stays where its places are taken away.
use Rattle.std.proofs.Common.{◌≡◌, List, [], ◌∷◌, ◌++◌, map, codes, Option, Some, None, refl, sym, ◌∙◌, ap, ap₂, subst}
use Rattle.std.specs.List.{flat_map, join_by}
use Rattle.std.specs.Option.{option_map}
use Rattle.evo_tree.specs.declared.name.Identifier.{Identifier}
use Rattle.evo_tree.specs.declared.expression.InfixOperator.{InfixOperator}
use Rattle.evo_tree.specs.declared.expression.Expr.{Expr, Expr-F, roll-Expr, map-Expr, fold-roll-Expr, ind-Expr}
use Rattle.evo_tree.specs.declared.expression.Expr.TheOpen as f
use Rattle.evo_tree.specs.Bare.{bare_identifier, clear_argument, clear_expr, bare_expr}
use Rattle.evo_tree.specs.Canonical.{Text, optional, listed, name_text, label_text, argument_text, member_text, operand_text, prefix_text, infix_text, expr_level, expr_text}

-- ---- lists and options

module _ {A : Type 0} (f : A → Text) (g : A → A) (law : (a : A) → f (g a) ≡ f a) where
  pub flat_kept : (xs : List A) → flat_map f (map g xs) ≡ flat_map f xs
  flat_kept [] = refl
  flat_kept (x ∷ xs) = ap₂ (λ (v w : Text). v ++ w) (law x) (flat_kept xs)

  behind_kept : (mark : Text) (xs : List A) → flat_map (λ a. mark ++ f a) (map g xs) ≡ flat_map (λ a. mark ++ f a) xs
  behind_kept mark [] = refl
  behind_kept mark (x ∷ xs) = ap₂ (λ (v w : Text). mark ++ v ++ w) (law x) (behind_kept mark xs)

  pub join_kept : (mark : Text) (xs : List A) → join_by f mark (map g xs) ≡ join_by f mark xs
  join_kept mark [] = refl
  join_kept mark (x ∷ xs) = ap₂ (λ (v w : Text). v ++ w) (law x) (behind_kept mark xs)

  pub option_kept : (x : Option A) → optional f (option_map g x) ≡ optional f x
  option_kept None = refl
  option_kept (Some x) = law x

pub label_kept : (l : Option Identifier) → label_text (option_map bare_identifier l) ≡ label_text l
label_kept l = option_kept (λ (i : Identifier). name_text i ++ codes ": ") bare_identifier (λ i. refl) l

-- ---- expressions

abbrev KeepsExpr : Expr → Type 0
KeepsExpr x = expr_text (bare_expr x) ≡ expr_text x

-- an expression whose text stays
abbrev Kept : Type 0
Kept = (x : Expr) × KeepsExpr x

abbrev Argument : Type 0
Argument = Option Identifier × Kept

abbrev Member : Type 0
Member = Identifier × Option (List Argument)

abbrev Operand : Type 0
Operand = InfixOperator × Kept

-- the texts of a level
abbrev plain : Expr-F Expr → Expr-F Text
plain x = map-Expr Expr Text expr_text x

-- and without places
abbrev bared : Expr-F Expr → Expr-F Text
bared x = plain (clear_expr (map-Expr Expr Expr bare_expr x))

abbrev parts : Expr-F Kept → Expr-F Expr
parts y = map-Expr Kept Expr (λ e. e.0) y

abbrev items : List Argument → List (Option Identifier × Expr)
items xs = map (λ (a : Argument). (a.0, a.1.0)) xs

abbrev texts : List (Option Identifier × Expr) → List (Option Identifier × Text)
texts xs = map (λ (a : Option Identifier × Expr). (a.0, expr_text a.1)) xs

abbrev bared_items : List Argument → List (Option Identifier × Expr)
bared_items xs = map clear_argument (map (λ (a : Option Identifier × Expr). (a.0, bare_expr a.1)) (items xs))

argument_kept : (a : Argument) → argument_text (option_map bare_identifier a.0, expr_text (bare_expr a.1.0)) ≡ argument_text (a.0, expr_text a.1.0)
argument_kept a = ap₂ (λ (v w : Text). v ++ w) (label_kept a.0) a.1.1

further_kept : (xs : List Argument) → flat_map (λ a. codes ", " ++ argument_text a) (texts (bared_items xs)) ≡ flat_map (λ a. codes ", " ++ argument_text a) (texts (items xs))
further_kept [] = refl
further_kept (a ∷ xs) = ap₂ (λ (v w : Text). codes ", " ++ v ++ w) (argument_kept a) (further_kept xs)

listed_kept : (xs : List Argument) → listed argument_text (texts (bared_items xs)) ≡ listed argument_text (texts (items xs))
listed_kept [] = refl
listed_kept (a ∷ xs) = ap₂ (λ (v w : Text). v ++ w) (argument_kept a) (further_kept xs)

members_of : Expr-F Text → List (Identifier × Option (List (Option Identifier × Text)))
members_of (f.Members x ms) = ms
members_of x = []

members_kept : (x : Kept) (ms : List Member) → flat_map member_text (members_of (bared (parts (f.Members x ms)))) ≡ flat_map member_text (members_of (plain (parts (f.Members x ms))))
unfolding members_of
members_kept x [] = refl
members_kept x ((n, None) ∷ ms) = ap (λ (w : Text). codes "." ++ (name_text n ++ []) ++ w) (members_kept x ms)
members_kept x ((n, Some xs) ∷ ms) = ap₂ (λ (v w : Text). codes "." ++ (name_text n ++ (codes "(" ++ v ++ codes ")")) ++ w) (listed_kept xs) (members_kept x ms)

abbrev operands : List Operand → List (InfixOperator × Expr)
operands os = map (λ (o : Operand). (o.0, o.1.0)) os

operands_kept : (os : List Operand) →
    flat_map operand_text (map (λ (o : InfixOperator × Expr). (o.0, expr_text o.1)) (map (λ (o : InfixOperator × Expr). (o.0, bare_expr o.1)) (operands os)))
    ≡ flat_map operand_text (map (λ (o : InfixOperator × Expr). (o.0, expr_text o.1)) (operands os))
operands_kept [] = refl
operands_kept (o ∷ os) = ap₂ (λ (v w : Text). codes " " ++ infix_text o.0 ++ codes " " ++ v ++ w) o.1.1 (operands_kept os)

level_kept : (y : Expr-F Kept) → expr_level (bared (parts y)) ≡ expr_level (plain (parts y))
unfolding members_of
level_kept (f.Integer p n) = refl
level_kept (f.Negative p n) = refl
level_kept (f.String p text) = refl
level_kept (f.Boolean p b) = refl
level_kept (f.Name i None) = refl
level_kept (f.Name i (Some xs)) = ap (λ (v : Text). name_text i ++ (codes "(" ++ v ++ codes ")")) (listed_kept xs)
level_kept (f.SelfValue p) = refl
level_kept (f.SelfType p) = refl
level_kept (f.Super p i xs) = ap (λ (v : Text). codes "super." ++ name_text i ++ (codes "(" ++ v ++ codes ")")) (listed_kept xs)
level_kept (f.ImplicitMember p i None) = refl
level_kept (f.ImplicitMember p i (Some xs)) = ap (λ (v : Text). codes "." ++ (name_text i ++ (codes "(" ++ v ++ codes ")"))) (listed_kept xs)
level_kept (f.Parenthesised p x) = ap (λ (v : Text). codes "(" ++ v ++ codes ")") x.1
level_kept (f.Prefix p o x) = ap (λ (v : Text). prefix_text o ++ v) x.1
level_kept (f.Members x ms) = ap₂ (λ (v w : Text). v ++ w) x.1 (members_kept x ms)
level_kept (f.Chain x os) = ap₂ (λ (v w : Text). v ++ w) x.1 (operands_kept os)

-- the text of an expression says nothing of its places
pub expr_kept : (x : Expr) → expr_text (bare_expr x) ≡ expr_text x
expr_kept = ind-Expr KeepsExpr (λ x y is.
    ap expr_text (fold-roll-Expr Expr (λ z. roll-Expr (clear_expr z)) x)
    ∙ fold-roll-Expr Text expr_level (clear_expr (map-Expr Expr Expr bare_expr x))
    ∙ subst (λ (z : Expr-F Expr). expr_level (bared z) ≡ expr_level (plain z)) is (level_kept y)
    ∙ sym (fold-roll-Expr Text expr_level x))
