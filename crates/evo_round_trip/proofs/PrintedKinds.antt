-- What is declared, behind attributes and modifiers, is written.
use Rattle.std.proofs.Common.{◌≡◌, ℕ, List, [], ◌∷◌, Bool, true, false, Option, sym, ◌∙◌, ap, subst, append-nil}
use Rattle.std.specs.List.{flat_map}
use Rattle.evo_base.specs.declared.place.Place.{Place}
use Rattle.evo_combinators.specs.Rule.{Empty, TokenThen, Then}
use Rattle.evo_round_trip.proofs.Alike.{AllLike}
use Rattle.evo_tree.specs.declared.declaration.Attr.{Attr}
use Rattle.evo_tree.specs.declared.declaration.AttrKind.{AttrKind}
use Rattle.evo_tree.specs.declared.declaration.DeclKind.{DeclKind}
use Rattle.evo_tree.specs.Pieces.{Piece}
use Rattle.evo_tree.specs.Expressions.{Rule}
use Rattle.evo_tree.specs.Declarations.{only_if, has_attribute, one_kind}
use Rattle.evo_print.specs.Texts.{kind_text}
use Rattle.evo_round_trip.proofs.Written.{Written, joined, Sound}
use Rattle.evo_round_trip.proofs.Matching.{FromText}
use Rattle.evo_round_trip.proofs.Printed.{any, begins, any_begins, Matched}
use Rattle.evo_round_trip.proofs.Prints.{Prints, Taken}
use Rattle.evo_round_trip.proofs.Heads.{is_calm}
use Rattle.evo_round_trip.proofs.DeclarationTrees.{SameKind}

-- ---- one kind, and the attributes that stand before it

abbrev pub Kinds : Type 0
Kinds = Place × List DeclKind

abbrev pub kinds_text : ℕ → Kinds → List ℕ
kinds_text n w = flat_map (λ x. kind_text x n) w.1

abbrev pub SameKinds : Kinds → Kinds → Type 0
SameKinds v w = AllLike SameKind v.1 w.1

-- the same attributes are among them
pub record Attributed (attrs attrs' : List Attr) : Type 0 where
  pub same : (kind : AttrKind) → has_attribute kind attrs' ≡ has_attribute kind attrs

-- what stands where a flag lets it, where the flag is told
pub taken_when : {A C : Type 0} {firm : Bool} {g : Piece → Bool} {p : Written → Bool} {w : C → Written} {Near : A → Type 0} {SameLookahead : C → C → Type 0} {f : Piece → Option C} (b : Bool) (b' : A → Bool) →
    ((a : A) → Near a → b ≡ b' a) → Taken firm g p w Near SameLookahead f (λ a. f) → Taken firm g p w Near SameLookahead (only_if b f) (λ a. only_if (b' a) f)
taken_when {f} true b' like taken = record {
  holds = λ u c gen passes takes.
      let (token, first, again) = taken.holds u c gen passes takes in
      (token, first, λ a near m fits. let (c', takes', same) = again a near m fits in (c', ap (λ b. only_if b f m) (sym (like a near)) ∙ takes', same));
}
taken_when false b' like taken = record { holds = λ u c gen passes takes. absurd (cc) }

-- a rule of kinds always spells one
abbrev pub OneKind : Rule Kinds → Type 0
OneKind R = (us : List Piece) (w : Kinds) → R us w → (x : DeclKind) × (w.1 ≡ x ∷ [])

pub one_only : (p : Place) (x : DeclKind) → OneKind (Empty (one_kind p x))
one_only p x us w s = (x, ap (λ (z : Kinds). z.1) s.1)

pub one_led : {C : Type 0} {f : Piece → Option C} {S : C → Rule Kinds} → ((c : C) → OneKind (S c)) → OneKind (TokenThen f S)
one_led one us w (u, c, vs, at, takes, s) = one c vs w s

pub one_then : {C : Type 0} {S : Rule C} {R : C → Rule Kinds} → ((c : C) → OneKind (R c)) → OneKind (Then S R)
one_then one us w (c, vs, ws, at, s, r) = one c ws w r

-- ---- each kind of a list is written

-- a kind, which S spells alone with other attributes of the same kinds
pub record Kinded (S : List Attr → Rule Kinds) (n : ℕ) (attrs : List Attr) (x : DeclKind) : Type 0 where
  pub written : List Written
  pub text : joined written ≡ kind_text x n
  pub sound : Sound written
  pub begun : begins false is_calm written ≡ true
  pub again : (attrs' : List Attr) → Attributed attrs attrs' → (ms : List Piece) → Matched false ms written → (p : Place) × (x' : DeclKind) × S attrs' ms (one_kind p x') × SameKind x x'

abbrev pub AllOf : {X : Type 0} → (X → Type 0) → List X → Type 0
AllOf P [] = Unit {0}
AllOf P (x ∷ xs) = P x × AllOf P xs

-- a rule of one kind by itself
pub kinded_one : (S : List Attr → Rule Kinds) (n : ℕ) (attrs : List Attr) → OneKind (S attrs) → ((attrs' : List Attr) → OneKind (S attrs')) →
    Prints false any false is_calm (λ z. z) (kinds_text n) (Attributed attrs) SameKinds (S attrs) S →
    (us : List Piece) (w : Kinds) → FromText us → S attrs us w → AllOf (Kinded S n attrs) w.1
kinded_one S n attrs one one' law us w gen s =
    let (ws, written, sound, begun, make) = law.holds us w gen (any_begins us) s in
    let (x, is) = one us w s in
    subst (λ z. AllOf (Kinded S n attrs) z) (sym is) (
      record {
        written = ws;
        text = written ∙ ap (λ z. flat_map (λ y. kind_text y n) z) is ∙ append-nil (kind_text x n);
        sound = sound;
        begun = begun;
        again = λ attrs' near ms f.
            let (w', s', same) = make attrs' near ms f in
            let (x', is') = one' attrs' ms w' s' in
            (w'.0, x', subst (λ z. S attrs' ms (w'.0, z)) is' s', same_one w.1 w'.1 x x' is is' same);
      },
      tt,
    )
  where
    same_one : (xs ys : List DeclKind) (x y : DeclKind) → xs ≡ x ∷ [] → ys ≡ y ∷ [] → AllLike SameKind xs ys → SameKind x y
    same_one xs ys x y e f same = (subst (λ z. AllLike SameKind (x ∷ []) z) f (subst (λ z. AllLike SameKind z ys) e same)).0
